-- How a text goes on from its pair k: whether it is hex, and what is left to store of its bytes.
-- Each law opens one pair of the text.
use mathlib.Core.Bool.{true, false}
use mathlib.Core.List.{List, [], ◌∷◌}
use mathlib.Core.Path.{◌≡◌, ◌∙◌}
use Prim.Native.Nat.{ℕ, suc, ◌+◌, ◌*◌, ◌≤◌, ◌<◌}
use native.Mathlib.Numerals.{add-one}
use native.Mathlib.Omega.{arith}
use borrow.Author.Tests.{lt-ltb, le-ltb}
use lib.ListN.{length, get_or, drop, set, drop_of_length-le}
use lib.Seq.{sets, drop-cons}
use Rattle.hexadecimal.specs.Digit.{pair}
use Rattle.hexadecimal.specs.Text.{is_hex, bytes_of}

pub drop-pair : (s : List ℕ) (k : ℕ) → 2 * k + 1 < length s
    → drop (2 * k) s ≡ get_or s (2 * k) 0 ∷ get_or s (2 * k + 1) 0 ∷ drop (2 * (k + 1)) s
drop-pair s k h =
    let next : suc (2 * k) ≡ 2 * k + 1 = omega arith in
    let after : suc (2 * k + 1) ≡ 2 * (k + 1) = omega arith in
    drop-cons s (2 * k) 0 (omega arith) ∙ rw (next, drop-cons s (2 * k + 1) 0 h, after)

-- b is the byte of pair k
module _ (s : List ℕ) (k b : ℕ) (room : 2 * k + 1 < length s)
    (is : b ≡ pair (get_or s (2 * k) 0) (get_or s (2 * k + 1) 0)) where
  pub is_hex-digits : b < 256 → is_hex (drop (2 * (k + 1)) s) ≡ is_hex (drop (2 * k) s)
  unfolding is_hex
  is_hex-digits h = rw (drop-pair s k room, ← is, lt-ltb b 256 h)

  pub is_hex-other : 256 ≤ b → is_hex (drop (2 * k) s) ≡ false
  unfolding is_hex
  is_hex-other h = rw (drop-pair s k room, ← is, le-ltb b 256 h)

  pub bytes_of-digits : (out : List ℕ) → b < 256
      → sets (set out k b) (k + 1) (bytes_of (drop (2 * (k + 1)) s)) ≡ sets out k
      (bytes_of (drop (2 * k) s))
  unfolding bytes_of
  bytes_of-digits out h = rw (drop-pair s k room, ← is, lt-ltb b 256 h, add-one k)

  pub bytes_of-other : (out : List ℕ) → 256 ≤ b → out ≡ sets out k (bytes_of (drop (2 * k) s))
  unfolding bytes_of
  bytes_of-other out h = rw (drop-pair s k room, ← is, le-ltb b 256 h)

-- no pair k: nothing is left, or a byte that has no other
module _ (s : List ℕ) (k : ℕ) where
  pub is_hex-even : length s ≤ 2 * k → is_hex (drop (2 * k) s) ≡ true
  unfolding is_hex
  is_hex-even h = rw (drop_of_length-le s h)

  drop-odd : length s ≡ 2 * k + 1 → drop (2 * k) s ≡ get_or s (2 * k) 0 ∷ []
  drop-odd h =
      let past : length s ≤ suc (2 * k) = omega arith in
      drop-cons s (2 * k) 0 (omega arith) ∙ rw (drop_of_length-le s past)

  pub is_hex-odd : length s ≡ 2 * k + 1 → is_hex (drop (2 * k) s) ≡ false
  unfolding is_hex
  is_hex-odd h = rw (drop-odd h)

  pub bytes_of-even : (out : List ℕ) → length s ≤ 2 * k → out ≡ sets out k (bytes_of (drop (2 * k) s))
  unfolding bytes_of
  bytes_of-even out h = rw (drop_of_length-le s h)

  pub bytes_of-odd : (out : List ℕ) → length s ≡ 2 * k + 1
      → out ≡ sets out k (bytes_of (drop (2 * k) s))
  unfolding bytes_of
  bytes_of-odd out h = rw (drop-odd h)
