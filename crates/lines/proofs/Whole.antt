-- The replies to the bytes of an input, one at a time, are the replies to its lines, and the block
-- after them is that of its lines: what is kept of a line gets the reply of the line, since both
-- are malformed where they differ.
use mathlib.Core.Bool.{true, false}
use mathlib.Core.List.{List, [], ◌∷◌, ◌++◌, append-nil}
use mathlib.Core.Path.{◌≡◌, refl, sym, ap, ap₂, ◌∙◌}
use Prim.Native.Nat.{ℕ, ◌<◌}
use native.Mathlib.Omega.{arith}
use lib.Dec.{eqb, leb}
use lib.ListN.{length, take, length-set}
use lib.Seq.{take_all, take-take, take-append-le, length-take-le}
use borrow.Author.Tests.{leb-true, leb-false}
use Rattle.basics.proofs.Cases.{by-test}
use Rattle.store_frames.proofs.Reading.{store_frame_of-long}
use Rattle.store_frames.specs.Limits.{most_line}
use Rattle.lines.specs.Input.{most_kept, last_line, lines_from, lines_of, replies_to, joined}
use Rattle.lines.specs.Input.{kept_after, end_reply, end_block, input_reply}
use Rattle.lines.specs.Input.{lines_block, Lent, lent, kept_of, fed, fed_all, closed}
use Rattle.lines.specs.Lines.{line_reply, line_block}
use Rattle.lines.proofs.Kept.{joined-set}
use Rattle.lines.proofs.Unmade.{malformed-reply, malformed-block}

-- ---- a line, and what is kept of it

module _ (line : List ℕ) where
  cut-length : most_kept < length line → most_line < length (take most_kept line)
  cut-length h = omega (arith, length-take-le most_kept line (omega arith))

  kept-reply : (b : List ℕ) → line_reply b (take most_kept line) ≡ line_reply b line
  kept-reply b =
      by-test (leb (length line) most_kept)
      (λ e. ap (line_reply b) (take_all most_kept line (leb-true (length line) most_kept e)))
      (λ e.
      let h : most_kept < length line = leb-false (length line) most_kept e in
      malformed-reply b (take most_kept line) (store_frame_of-long (take most_kept line) (cut-length h))
      ∙ sym (malformed-reply b line (store_frame_of-long line (omega arith))))

  kept_block : (b : List ℕ) → line_block b (take most_kept line) ≡ line_block b line
  kept_block b =
      by-test (leb (length line) most_kept)
      (λ e. ap (line_block b) (take_all most_kept line (leb-true (length line) most_kept e)))
      (λ e.
      let h : most_kept < length line = leb-false (length line) most_kept e in
      malformed-block b (take most_kept line) (store_frame_of-long (take most_kept line) (cut-length h))
      ∙ sym (malformed-block b line (store_frame_of-long line (omega arith))))

joined-kept : (s : List ℕ) (c : ℕ) → joined (take most_kept s) c ≡ joined s c
joined-kept s c =
    by-test (leb (length s) most_kept)
    (λ e. ap (λ (l : List ℕ). joined l c) (take_all most_kept s (leb-true (length s) most_kept e)))
    (λ e.
    let h : most_kept < length s = leb-false (length s) most_kept e in
    take-append-le most_kept (take most_kept s) (c ∷ []) (omega (arith, length-take-le most_kept s (omega arith)))
    ∙ take-take most_kept most_kept s (omega arith)
    ∙ sym (take-append-le most_kept s (c ∷ []) (omega arith)))

-- ---- the input

ended : (b begun : List ℕ) → end_reply b (take most_kept begun) ≡ replies_to b (last_line begun)
unfolding replies_to last_line
ended b [] = refl
ended b (x ∷ begun) = kept-reply (x ∷ begun) b ∙ sym (append-nil (line_reply b (x ∷ begun)))

from : (input b begun : List ℕ) → input_reply b (take most_kept begun) input ≡ replies_to b
    (lines_from begun input)
unfolding input_reply lines_from replies_to
from [] b begun = ended b begun
from (c ∷ input) b begun =
    let line = begun ++ c ∷ [] in
    let here = joined-kept begun c in
    let rest = from input (line_block b line) [] in
    let more = from input b line in
    by-test (eqb c 0x0a)
    (λ e. rw e
    (ap₂ (λ (x y : List ℕ). x ++ y)
    (ap (line_reply b) here ∙ kept-reply line b)
    (ap (λ (w : List ℕ). input_reply w [] input) (ap (line_block b) here ∙ kept_block line b)
    ∙ rest)))
    (λ e. rw e (ap (λ (k : List ℕ). input_reply b k input) here ∙ more))

-- whatever the input and the block
pub whole-input : (b input : List ℕ) → input_reply b [] input ≡ replies_to b (lines_of input)
whole-input b input = from input b []

-- ---- on what the driver lends

kept-fed : (s : Lent) (c : ℕ) → length s.line ≡ most_kept → kept_of (fed s c) ≡ kept_after (kept_of s) c
unfolding fed
kept-fed s c wide =
    by-test (eqb c 0x0a) (λ e. rw e) (λ e. rw e (joined-set s.line s.at c wide))

wide-fed : (s : Lent) (c : ℕ) → length s.line ≡ most_kept → length (fed s c).line ≡ most_kept
unfolding fed
wide-fed s c wide = length-set s.line s.at c ∙ wide

ended-block : (b begun : List ℕ) → end_block b (take most_kept begun) ≡ lines_block b (last_line begun)
unfolding lines_block last_line
ended-block b [] = refl
ended-block b (x ∷ begun) = kept_block (x ∷ begun) b

-- a byte that ends a line, and any other
module _ (s : Lent) (c : ℕ) (begun : List ℕ) (k : kept_of s ≡ take most_kept begun) where
  here : joined (kept_of s) c ≡ take most_kept (begun ++ c ∷ [])
  here = ap (λ (l : List ℕ). joined l c) k ∙ joined-kept begun c

  ends : eqb c 0x0a ≡ true → (kept_after (kept_of s) c ≡ [])
      × ((fed s c).block ≡ line_block s.block (begun ++ c ∷ []))
  unfolding fed
  ends e =
      rw e (refl, ap (line_block s.block) here ∙ kept_block (begun ++ c ∷ []) s.block)

  goes_on : eqb c 0x0a ≡ false → (kept_after (kept_of s) c ≡ take most_kept (begun ++ c ∷ []))
      × ((fed s c).block ≡ s.block)
  unfolding fed
  goes_on e = rw e (here, refl)

from_block : (input : List ℕ) (s : Lent) (begun : List ℕ) → length s.line ≡ most_kept
    → kept_of s ≡ take most_kept begun → (closed (fed_all s input)).block ≡ lines_block s.block
    (lines_from begun input)
unfolding fed_all closed lines_from lines_block
from_block [] s begun wide k = ap (end_block s.block) k ∙ ended-block s.block begun
from_block (c ∷ input) s begun wide k =
    let line = begun ++ c ∷ [] in
    by-test (eqb c 0x0a)
    (λ e.
    let f = ends s c begun k e in
    rw e
    (from_block input (fed s c) [] (wide-fed s c wide) (kept-fed s c wide ∙ f.0)
    ∙ ap (λ (w : List ℕ). lines_block w (lines_from [] input)) f.1))
    (λ e.
    let f = goes_on s c begun k e in
    rw e
    (from_block input (fed s c) line (wide-fed s c wide) (kept-fed s c wide ∙ f.0)
    ∙ ap (λ (w : List ℕ). lines_block w (lines_from line input)) f.1))

-- after all bytes and the end, the block is that of the lines, one after another
pub whole-block : (b line output input : List ℕ) → length line ≡ most_kept
    → (closed (fed_all (lent b line 0 output) input)).block ≡ lines_block b (lines_of input)
whole-block b line output input wide = from_block input (lent b line 0 output) [] wide refl
