-- The bytes kept of a line begun, with one byte more.
use mathlib.Core.List.{List, [], ◌∷◌, ◌++◌}
use mathlib.Core.Path.{◌≡◌, sym, ap, ◌∙◌}
use Prim.Native.Nat.{ℕ, ◌+◌, ◌≤◌, ◌<◌}
use native.Mathlib.Numerals.{add-one}
use native.Mathlib.Omega.{arith}
use lib.Dec.{ltb}
use lib.ListN.{length, take, set, length-append, length-set}
use lib.Seq.{set_out, take_all, take-suc-set, take-append-le, length-take-le}
use borrow.Author.Tests.{ltb-true, ltb-false}
use Rattle.basics.proofs.Cases.{by-test}
use Rattle.lines.specs.Input.{most_kept, joined}

module _ (line : List ℕ) (at c : ℕ) (wide : length line ≡ most_kept) where
  pub joined-short : at < most_kept → take (at + 1) (set line at c) ≡ joined (take at line) c
  joined-short h =
      let short : length (take at line) ≡ at = length-take-le at line (omega arith) in
      ap (λ (n : ℕ). take n (set line at c)) (add-one at)
      ∙ take-suc-set line at c (omega arith)
      ∙ sym (take_all most_kept (take at line ++ c ∷ [])
      (omega (arith, length-append (take at line) (c ∷ []))))

  pub joined-full : most_kept ≤ at → take most_kept line ≡ joined (take at line) c
  joined-full h =
      let whole : take at line ≡ line = take_all at line (omega arith) in
      sym (take-append-le most_kept line (c ∷ []) (omega arith))
      ∙ ap (λ (l : List ℕ). joined l c) (sym whole)

  pub length-short : at < most_kept → at + 1 ≡ length (joined (take at line) c)
  length-short h =
      sym (length-take-le (at + 1) (set line at c) (omega (arith, length-set line at c)))
      ∙ ap length (joined-short h)

  pub length-full : most_kept ≤ at → most_kept ≡ length (joined (take at line) c)
  length-full h = sym (length-take-le most_kept line (omega arith)) ∙ ap length (joined-full h)

  pub joined-set : take (length (joined (take at line) c)) (set line at c) ≡ joined (take at line) c
  joined-set =
      by-test (ltb at most_kept)
      (λ e.
      let h : at < most_kept = ltb-true at most_kept e in
      ap (λ (n : ℕ). take n (set line at c)) (sym (length-short h)) ∙ joined-short h)
      (λ e.
      let h : most_kept ≤ at = ltb-false at most_kept e in
      ap (λ (n : ℕ). take n (set line at c)) (sym (length-full h))
      ∙ ap (take most_kept) (set_out line at c (omega arith)) ∙ joined-full h)
