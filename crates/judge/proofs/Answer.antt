-- How the verdict follows from what scanning and searching answer.
use mathlib.Core.Bool.{false, not}
use mathlib.Core.List.{List, []}
use mathlib.Core.Path.{◌≡◌, sym, ap, ◌∙◌, subst}
use Prim.Native.Nat.{ℕ, ◌+◌, ◌≤◌, ◌<◌}
use native.Mathlib.Omega.{arith}
use lib.Dec.{eqb, ltb}
use lib.ListN.{length, get_or}
use borrow.Author.Tests.{ltb-false, lt-ltb, le-ltb}
use Rattle.basics.proofs.Cases.{or-neither, not-false}
use Rattle.basics.specs.Lists.{counted}
use Rattle.judge_frames.specs.Cut.{frame_in, frames_in}
use Rattle.judge_frames.proofs.Cuts.{length-frames_in, frames_in-at}
use Rattle.log_format.specs.Log.{too_long, frames_of, shaped, malformed, malformed_at}
use Rattle.log_format.proofs.Some.{first_from-none}
use Rattle.findings.specs.Findings.{findings, fault_at, lowest, judged, checked}
use Rattle.findings.proofs.WellFormed.{frame_is}
use Rattle.judge_findings.specs.Owned.{SmallClients, AllSmall}
use Rattle.judge_scan.specs.Scan.{Scanning, ScannedOf}
use Rattle.judge_scan.proofs.Scanning.{scan-start}
use Rattle.log_format.specs.Some.{first_from}
use Rattle.std.specs.Prelude.{Ok, Err}
use Rattle.judge_scan.specs.declared.BadLine.{BadLine}
use Rattle.findings.specs.declared.Verdict.TheVariants.{Malformed, Judged}

module _ (bytes starts : List ℕ) (n line : ℕ)
    (first : line ≡ first_from n 0 (fault_at (frames_in bytes starts n))) where
  pub judged-fault : (finding : ℕ) → line < n
      → finding ≡ lowest findings (frames_in bytes starts n) line
      → Judged finding (line + 1) ≡ judged (frames_in bytes starts n)
  unfolding judged
  judged-fault finding h e = rw (length-frames_in bytes starts n, ← first, lt-ltb line n h, ← e)

  pub judged-clean : n ≤ line → Judged 0 0 ≡ judged (frames_in bytes starts n)
  unfolding judged
  judged-clean h = rw (length-frames_in bytes starts n, ← first, le-ltb line n h)

pub checked-lines : (log bytes starts : List ℕ) (n : ℕ) → ScannedOf log bytes starts (Ok n)
    → judged (frames_in bytes starts n) ≡ checked (frames_of log)
unfolding checked
checked-lines log bytes starts n t =
    rw (t.1, le-ltb n (length (frames_of log)) (omega (arith, t.2))) (ap judged t.0)

pub checked-bad : (log bytes starts : List ℕ) (bad : BadLine)
    → ScannedOf log bytes starts (Err bad) → Malformed (bad.line + 1) ≡ checked (frames_of log)
unfolding checked
checked-bad log bytes starts bad t = rw (t.0, lt-ltb bad.line (length (frames_of log)) t.1)

-- the clients of well-formed lines are small
pub lines-small : (log bytes starts : List ℕ) (n : ℕ) → ScannedOf log bytes starts (Ok n)
    → AllSmall bytes starts n
unfolding malformed
lines-small log bytes starts n t j l =
    let frames = frames_of log in
    let f = get_or frames j [] in
    let well : malformed_at frames j ≡ false =
    first_from-none (length frames) 0 (malformed_at frames) j (omega arith) (omega (arith, t.1)) in
    let is = frame_is f (not-false (shaped f) (or-neither (not (shaped f)) _ well).0) in
    let same : get_or frames j [] ≡ frame_in bytes starts j =
    ap (λ (fs : List (List ℕ)). get_or fs j []) (sym t.0) ∙ frames_in-at bytes starts n j l in
    subst SmallClients same
    (record {
      client = omega (arith, is.client.1);
      receiver = λ h. omega (arith, (is.hand-over h).receiver.1);
    })

-- a log within the limits can be scanned
pub within-start : (log bytes starts : List ℕ) → too_long log ≡ false → length bytes ≡ 16384
    → length starts ≡ 258 → get_or starts 0 0 ≡ 0 → Scanning log 0 bytes starts 0
unfolding too_long
within-start log bytes starts e p q z =
    let f = or-neither (ltb 32768 (length log)) (ltb 256 (counted (λ c. eqb c 0x0a) log)) e in
    scan-start log bytes starts (ltb-false 32768 (length log) f.0)
    (ltb-false 256 (counted (λ c. eqb c 0x0a) log) f.1) p q z
