-- Big-endian numbers: the number of some bytes, and the bytes of a number, most significant first
-- (document 01: frames). Each law goes by the number of bytes, the last byte first.
use mathlib.Core.List.{List, [], ◌∷◌, ◌++◌, append_assoc}
use mathlib.Core.Path.{◌≡◌, refl, sym, ap, ap₂, ◌∙◌}
use Prim.Native.Nat.{ℕ, zero, suc, ◌+◌, ◌*◌, ◌/◌, ◌%◌, ◌^◌, ◌≤◌, ◌<◌}
use native.Mathlib.Nat.{pow-zero, pow-suc, one-le-pow, mod-one, mod-eq_of_lt, zero-add, add_assoc}
use native.Mathlib.Nat.{add-zero}
use native.Mathlib.Numerals.{add-one}
use native.Mathlib.Omega.{arith}
use lib.Arith.{digits_lt, digits_div, digits_mod, mod-mul}
use lib.Dec.{lit<}
use lib.ListN.{length, get_or, take, drop, length-append, length-drop, get_or-append}
use lib.Seq.{take-suc, get_or_at, get_or-take, get_or-drop, get_or-append-add}
use Rattle.hexadecimal.specs.Bytes.{EachByte}
use Rattle.hexadecimal.proofs.Bytes.{each_byte-append, each_byte-one}
use Rattle.hexadecimal.specs.Number.{number_at, big_endian}

-- ---- number_at

pub number_at-one : (s : List ℕ) (at : ℕ) → number_at 1 s at ≡ get_or s at 0
unfolding number_at
number_at-one s at = zero-add (get_or s (at + 0) 0) ∙ ap (λ (i : ℕ). get_or s i 0) (add-zero at)

pub number_at-lt : (n : ℕ) (s : List ℕ) (at : ℕ) → EachByte s → number_at n s at < 256 ^ n
unfolding number_at
number_at-lt zero s at h = rw pow-zero (lit< tt)
number_at-lt (suc n) s at h = rw pow-suc (digits_lt (number_at-lt n s at h) (h (at + n)))

-- one byte more
pub number_at-next : (n : ℕ) (s : List ℕ) (at : ℕ)
    → number_at (n + 1) s at ≡ number_at n s at * 256 + get_or s (at + n) 0
unfolding number_at
number_at-next n s at = ap (λ (m : ℕ). number_at m s at) (add-one n)

-- two texts with the same bytes there
pub number_at-same : (n : ℕ) (s t : List ℕ) (at to : ℕ)
    → ((i : ℕ) → i < n → get_or s (at + i) 0 ≡ get_or t (to + i) 0) → number_at n s at ≡ number_at n t to
unfolding number_at
number_at-same zero s t at to h = refl
number_at-same (suc n) s t at to h =
    ap₂ (λ (x y : ℕ). x * 256 + y) (number_at-same n s t at to (λ i l. h i (omega arith)))
    (h n (omega arith))

pub number_at-append : (n : ℕ) (s t : List ℕ) (at : ℕ) → at + n ≤ length s
    → number_at n (s ++ t) at ≡ number_at n s at
number_at-append n s t at h =
    number_at-same n (s ++ t) s at at (λ i l. get_or-append s t 0 (at + i) (omega arith))

pub number_at-drop : (n : ℕ) (s : List ℕ) (k at : ℕ)
    → number_at n (drop k s) at ≡ number_at n s (k + at)
number_at-drop n s k at =
    number_at-same n (drop k s) s at (k + at)
    (λ i l. get_or-drop k s (at + i) 0 ∙ ap (λ (j : ℕ). get_or s j 0) (omega arith))

pub number_at-take : (n : ℕ) (s : List ℕ) (k at : ℕ) → at + n ≤ k
    → number_at n (take k s) at ≡ number_at n s at
number_at-take n s k at h =
    number_at-same n (take k s) s at at (λ i l. get_or-take k s (at + i) 0 (omega arith))

-- ---- big_endian

pub length-big_endian : (n x : ℕ) → length (big_endian n x) ≡ n
unfolding big_endian
length-big_endian zero x = refl
length-big_endian (suc n) x =
    omega (
      arith,
      length-append (big_endian n (x / 256)) (x % 256 ∷ []),
      length-big_endian n
          (x / 256),
    )

pub number_at-big_endian : (n x : ℕ) → number_at n (big_endian n x) 0 ≡ x % 256 ^ n
unfolding number_at big_endian
number_at-big_endian zero x = rw (pow-zero, mod-one)
number_at-big_endian (suc n) x =
    let front = big_endian n (x / 256) in
    let last : get_or (front ++ x % 256 ∷ []) (0 + n) 0 ≡ x % 256 =
    get_or_at front (x % 256) [] 0 (0 + n) (length-big_endian n (x / 256) ∙ sym (zero-add n)) in
    let rest : number_at n (front ++ x % 256 ∷ []) 0 ≡ x / 256 % 256 ^ n =
    number_at-append n front (x % 256 ∷ []) 0 (omega (arith, length-big_endian n (x / 256)))
    ∙ number_at-big_endian n (x / 256) in
    ap₂ (λ (a b : ℕ). a * 256 + b) rest last
    ∙ sym (mod-mul x (one-le-pow n 256 (lit< tt)) (lit< tt))
    ∙ ap (λ (m : ℕ). x % m) (sym (pow-suc 256 n))

pub big_endian-number_at : (n : ℕ) (s : List ℕ) (at : ℕ) → EachByte s → at + n ≤ length s
    → big_endian n (number_at n s at) ≡ take n (drop at s)
unfolding number_at big_endian
big_endian-number_at zero s at h l = refl
big_endian-number_at (suc n) s at h l =
    let high : (number_at n s at * 256 + get_or s (at + n) 0) / 256 ≡ number_at n s at =
    digits_div (number_at n s at) (h (at + n)) in
    let low : (number_at n s at * 256 + get_or s (at + n) 0) % 256 ≡ get_or s (at + n) 0 =
    digits_mod (number_at n s at) (h (at + n)) in
    rw (high, low, big_endian-number_at n s at h (omega arith))
    (sym
    (take-suc (drop at s) n 0 (omega (arith, length-drop at s))
    ∙ ap (λ (b : ℕ). take n (drop at s) ++ b ∷ []) (get_or-drop at s n 0)))

pub each_byte-big_endian : (n x : ℕ) → EachByte (big_endian n x)
unfolding big_endian
each_byte-big_endian zero x = λ i. lit< tt
each_byte-big_endian (suc n) x =
    each_byte-append (big_endian n (x / 256)) (x % 256 ∷ []) (each_byte-big_endian n (x / 256))
    (each_byte-one (x % 256) (omega arith))

-- ---- number_at past the first of two joined texts

pub number_at-append-add : (n : ℕ) (s t : List ℕ) (at : ℕ)
    → number_at n (s ++ t) (length s + at) ≡ number_at n t at
number_at-append-add n s t at =
    number_at-same n (s ++ t) t (length s + at) at
    (λ i l. rw add_assoc (get_or-append-add s t (at + i) 0))

-- a number that is written between two texts
pub number_at-append-big_endian : (n x : ℕ) (s t : List ℕ) → x < 256 ^ n
    → number_at n (s ++ big_endian n x ++ t) (length s) ≡ x
number_at-append-big_endian n x s t h =
    ap₂ (number_at n) (append_assoc s (big_endian n x) t) (sym (add-zero (length s)))
    ∙ number_at-append-add n s (big_endian n x ++ t) 0
    ∙ number_at-append n (big_endian n x) t 0 (omega (arith, length-big_endian n x))
    ∙ number_at-big_endian n x
    ∙ mod-eq_of_lt h
