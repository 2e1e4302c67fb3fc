-- `judge::judge` meets its contract: the answer is the verdict, of which the theorem holds.
use Rattle.std.proofs.Common.{◌≡◌, ℕ, List, true, false, sym, ◌∙◌, subst}
use Rattle.log_format.specs.Log.{too_long, frames_of}
use Rattle.findings.specs.Findings.{checked, verdict}
use Rattle.findings.specs.Published.{Says}
use Rattle.findings.proofs.Theorem.{says}
use Rattle.findings.specs.declared.Verdict.{Verdict}
use Rattle.judge.proofs.judge.Goals as goal

long : (log : List ℕ) → too_long log ≡ true → Verdict.TooLong ≡ verdict log
unfolding verdict
long log e = rw e

within : (log : List ℕ) (v : Verdict) → too_long log ≡ false → v ≡ checked (frames_of log)
    → v ≡ verdict log
unfolding verdict
within log v e t = rw e t

promised : (log : List ℕ) (v : Verdict) → v ≡ verdict log → Says log v
promised log v e = subst (λ (a : Verdict). Says log a) (sym e) (says log)

pub returns-then-too_long-clause-value : goal.returns-then-too_long-clause-value
returns-then-too_long-clause-value c = long _ (sym c.too_long.ensures ∙ c.if-too_long.true)

pub returns-then-too_long-clause-says : goal.returns-then-too_long-clause-says
returns-then-too_long-clause-says c =
    promised _ _ (long c.args.log.now (sym c.too_long.ensures ∙ c.if-too_long.true))

pub returns-else-too_long-clause-value : goal.returns-else-too_long-clause-value
returns-else-too_long-clause-value c =
    within _ _ (sym c.too_long.ensures ∙ c.if-too_long.false) c.judge_within.ensures

pub returns-else-too_long-clause-says : goal.returns-else-too_long-clause-says
returns-else-too_long-clause-says c =
    promised _ _
    (within c.args.log.now _ (sym c.too_long.ensures ∙ c.if-too_long.false) c.judge_within.ensures)
