-- A line that was decoded behind the frames taken before, which parsing then finds.
use mathlib.Core.Bool.{Bool, true, false}
use mathlib.Core.List.{List}
use mathlib.Core.Path.{◌≡◌, sym, ap, ap₂, ◌∙◌, subst₃}
use Prim.Native.Nat.{ℕ, ◌+◌, ◌-◌, ◌≤◌, ◌<◌}
use native.Mathlib.Omega.{arith}
use lib.ListN.{length, get_or, take, drop, set}
use lib.Seq.{sets}
use Rattle.std.specs.Prelude.{Some, None}
use Rattle.hexadecimal.specs.Decode.{decoded}
use Rattle.hexadecimal.proofs.Decoding.{decoded-bytes, decoded-malformed}
use Rattle.hexadecimal.specs.Line.{line_end}
use Rattle.hexadecimal.specs.Text.{is_hex, bytes_of}
use Rattle.hexadecimal.proofs.Text.{length-bytes_of}
use Rattle.judge_frames.specs.Cut.{part, frames_in}
use Rattle.log_format.specs.Log.{frame_of, malformed}
use Rattle.judge_form.specs.Parsed.{parsed, refused}
use Rattle.judge_form.specs.declared.Parsed.{Parsed}
use Rattle.judge_form.proofs.Parsing.{malformed-parsed}
use Rattle.judge_scan.specs.Scan.{Room, Step, line_at}
use Rattle.judge_scan.proofs.Scanning.{text_at, frame-hex, frame-not, frame-unended}
use Rattle.judge_scan.proofs.Scanning.{malformed-empty, kept, fits, new, step}

-- ---- a line without its end, or that isn't digits

module _ (log : List ℕ) (at : ℕ) (frames : List (List ℕ)) (e : ℕ) (ends : e ≡ line_end log at) where
  pub unended : length log ≤ e → malformed frames (frame_of (line_at log at)) ≡ true
  unended h = ap (malformed frames) (frame-unended log at (omega arith)) ∙ malformed-empty frames

  pub undecoded : e < length log → None ≡ decoded (take (e - at) (drop at log))
      → malformed frames (frame_of (line_at log at)) ≡ true
  undecoded h n =
      let text : take (e - at) (drop at log) ≡ text_at log at =
      ap (λ (k : ℕ). take (k - at) (drop at log)) ends in
      ap (malformed frames)
      (frame-not log at (omega arith) (decoded-malformed (text_at log at) (n ∙ ap decoded text)))
      ∙ malformed-empty frames

-- ---- a line of digits

-- line i, which begins at `at` and ends at e, was decoded: its `size` bytes are stored from `end` on
pub record Stored (log : List ℕ) (at : ℕ) (bytes starts : List ℕ) (i e end size : ℕ)
    (bytes' : List ℕ) : Type 0 where
  pub room : Room log at bytes starts i
  pub ends : e ≡ line_end log at
  pub begins : end ≡ get_or starts i 0
  pub inside : e < length log
  pub answer : Some size ≡ decoded (take (e - at) (drop at log))
  pub bytes-are : bytes' ≡ sets bytes end (bytes_of (take (e - at) (drop at log)))

module _ {log : List ℕ} {at : ℕ} {bytes starts : List ℕ} {i e end size : ℕ} {bytes' : List ℕ}
    (s : Stored log at bytes starts i e end size bytes') where
  abbrev frame : List ℕ
  frame = bytes_of (text_at log at)

  ended : line_end log at < length log
  ended = omega (arith, s.ends, s.inside)

  text : take (e - at) (drop at log) ≡ text_at log at
  text = ap (λ (k : ℕ). take (k - at) (drop at log)) s.ends

  stored : bytes' ≡ sets bytes (get_or starts i 0) frame
  stored = s.bytes-are ∙ ap₂ (λ (n : ℕ) (t : List ℕ). sets bytes n (bytes_of t)) s.begins text

  hex : is_hex (text_at log at) ≡ true
  hex = (decoded-bytes (text_at log at) size (s.answer ∙ ap decoded text)).0

  end-at : end + size ≡ get_or starts i 0 + length frame
  end-at =
      ap₂ ◌+◌ s.begins
      ((decoded-bytes (text_at log at) size (s.answer ∙ ap decoded text)).1
      ∙ sym (length-bytes_of (text_at log at) hex))

  pub within : end + size ≤ 16384
  within = omega (arith, end-at, fits log at bytes starts i s.room ended hex, s.room.bytes-long)

  -- parsing what was stored decides whether the line is malformed
  pub parsed-line : malformed (frames_in bytes starts i) (frame_of (line_at log at))
      ≡ refused (frames_in bytes starts i) (parsed (part bytes' end (end + size)))
  parsed-line =
      ap (malformed (frames_in bytes starts i)) (frame-hex log at ended hex)
      ∙ malformed-parsed (frames_in bytes starts i) frame
      ∙ ap (λ (f : List ℕ). refused (frames_in bytes starts i) (parsed f))
      (sym
      (ap₂ (λ (b : List ℕ) (n : ℕ). part b n (end + size)) stored s.begins
      ∙ new log at bytes starts i s.room ended hex (end + size) end-at))

  -- storing it left the frames before as they were
  pub same-frames : frames_in bytes' starts i ≡ frames_in bytes starts i
  same-frames =
      ap (λ (b : List ℕ). frames_in b starts i) stored ∙ kept log at bytes starts i s.room ended hex

  -- so does the test of the frame that parsing finds
  pub judged-line : (f : Parsed) (r v : Bool) → parsed (part bytes' end (end + size)) ≡ Some f
      → r ≡ refused (frames_in bytes' starts i) (Some f) → r ≡ v
      → malformed (frames_in bytes starts i) (frame_of (line_at log at)) ≡ v
  judged-line f r v p e t =
      parsed-line ∙ ap (refused (frames_in bytes starts i)) p
      ∙ ap (λ (frames : List (List ℕ)). refused frames (Some f)) (sym same-frames)
      ∙ sym e ∙ t

  pub taken : malformed (frames_in bytes starts i) (frame_of (line_at log at)) ≡ false
      → Step log at i bytes starts bytes' (set starts (i + 1) (end + size)) (e + 1)
  taken well =
      subst₃ (λ (b' s' : List ℕ) (next : ℕ). Step log at i bytes starts b' s' next)
      (sym stored)
      (ap (λ (n : ℕ). set starts (i + 1) n) (sym end-at))
      (ap (λ (n : ℕ). n + 1) (sym s.ends))
      (step log at bytes starts i s.room ended hex
      (sym (ap (malformed (frames_in bytes starts i)) (frame-hex log at ended hex)) ∙ well))
