-- The bytes of a list's elements one after another, as many each: what stands where, and when a
-- given list begins with such bytes.
use mathlib.Core.List.{List, [], ◌∷◌, ◌++◌, append_assoc}
use mathlib.Core.Path.{◌≡◌, sym, ap, ap₂, ◌∙◌}
use Prim.Native.Nat.{ℕ, zero, suc, ◌+◌, ◌*◌, ◌≤◌, ◌<◌}
use native.Mathlib.Nat.{mul-suc, mul-zero, not-suc-le-zero}
use native.Mathlib.Omega.{arith}
use lib.ListN.{length, get_or, take, drop, length-append, take-append-drop}
use lib.Seq.{drop-drop}
use Rattle.hexadecimal.specs.Number.{number_at}
use Rattle.hexadecimal.proofs.Number.{number_at-append, number_at-append-add}

unfoldable pub each : (ℕ → List ℕ) → List ℕ → List ℕ
each g [] = []
each g (x ∷ xs) = g x ++ each g xs

module _ (g : ℕ → List ℕ) (w : ℕ) where
  module _ (wide : (x : ℕ) → length (g x) ≡ w) where
    pub length-each : (xs : List ℕ) → length (each g xs) ≡ w * length xs
    unfolding each
    length-each [] = sym (mul-zero w)
    length-each (x ∷ xs) =
        omega (
          arith,
          length-append (g x) (each g xs),
          wide x,
          length-each xs,
          mul-suc w (length xs),
        )

    pub each_at : (xs : List ℕ) (i j n : ℕ) → i < length xs → j + n ≤ w
        → number_at n (each g xs) (w * i + j) ≡ number_at n (g (get_or xs i 0)) j
    unfolding each
    each_at [] i j n l h = absurd (not-suc-le-zero l)
    each_at (x ∷ xs) zero j n l h =
        ap (number_at n (g x ++ each g xs)) (omega (arith, mul-zero w))
        ∙ number_at-append n (g x) (each g xs) j (omega (arith, wide x))
    each_at (x ∷ xs) (suc i) j n l h =
        let at : w * suc i + j ≡ length (g x) + (w * i + j) =
        omega (arith, wide x, mul-suc w i) in
        ap (number_at n (g x ++ each g xs)) at
        ∙ number_at-append-add n (g x) (each g xs) (w * i + j)
        ∙ each_at xs i j n (omega arith) h

  pub each-begins : (xs s : List ℕ)
      → ((i : ℕ) → i < length xs → g (get_or xs i 0) ≡ take w (drop (w * i) s))
      → s ≡ each g xs ++ drop (w * length xs) s
  unfolding each
  each-begins [] s h = ap (λ (n : ℕ). drop n s) (sym (mul-zero w))
  each-begins (x ∷ xs) s h =
      let head : g x ≡ take w s = h 0 (omega arith)
      ∙ ap (λ (n : ℕ). take w (drop n s)) (mul-zero w) in
      let rest : (i : ℕ) → i < length xs → g (get_or xs i 0) ≡ take w (drop (w * i) (drop w s)) =
      λ i l.
      (let at : w * suc i ≡ w + w * i = omega (arith, mul-suc w i) in
      h (suc i) (omega arith)
      ∙ ap (take w) (ap (λ (n : ℕ). drop n s) at ∙ sym (drop-drop (w * i) w s))) in
      let past : w + w * length xs ≡ w * suc (length xs) = omega (arith, mul-suc w (length xs)) in
      let behind : drop (w * length xs) (drop w s) ≡ drop (w * suc (length xs)) s =
      drop-drop (w * length xs) w s ∙ ap (λ (n : ℕ). drop n s) past in
      sym (take-append-drop w s)
      ∙ ap₂ (λ (a b : List ℕ). a ++ b) (sym head)
      (each-begins xs (drop w s) rest ∙ ap (λ (b : List ℕ). each g xs ++ b) behind)
      ∙ sym (append_assoc (g x) (each g xs) (drop (w * suc (length xs)) s))
