-- A stamp kept as one number has the paper's order: with a client below 16, number and client are
-- its digits to the base 16.
use mathlib.Core.Logic.{◌⊎◌, inl, inr, ⊎_elim, ◌↔◌}
use mathlib.Core.Path.{◌≡◌}
use Prim.Native.Nat.{ℕ, ◌≤◌, ◌<◌}
use native.Mathlib.Nat.{eq-or-lt_of_le}
use native.Mathlib.Omega.{arith}
use Rattle.protocol.specs.Tables.{stamp_of, number_of, writer_of}

-- ---- the parts of a stamp

pub number_of-stamp_of : (n d : ℕ) → d < 16 → number_of (stamp_of n d) ≡ n
number_of-stamp_of n d l = omega arith

pub writer_of-stamp_of : (n d : ℕ) → d < 16 → writer_of (stamp_of n d) ≡ d
writer_of-stamp_of n d l = omega arith

pub writer_of-lt : (stamp : ℕ) → writer_of stamp < 16
writer_of-lt stamp = omega arith

pub stamp_of-parts : (stamp : ℕ) → stamp_of (number_of stamp) (writer_of stamp) ≡ stamp
stamp_of-parts stamp = omega arith

-- ---- the greater number is later; with equal numbers, the greater client

pub stamp-order : (n d m e : ℕ) → d < 16 → e < 16 → (stamp_of n d < stamp_of m e)
    ↔ ((n < m) ⊎ ((n ≡ m) × (d < e)))
stamp-order n d m e l k = (earlier, later)
  where
    earlier : stamp_of n d < stamp_of m e → (n < m) ⊎ ((n ≡ m) × (d < e))
    earlier h =
        let below : n ≤ m = omega arith in
        ⊎_elim (λ (same : n ≡ m). inr (same, omega arith)) (λ less. inl less) (eq-or-lt_of_le below)

    later : (n < m) ⊎ ((n ≡ m) × (d < e)) → stamp_of n d < stamp_of m e
    later (inl less) = omega arith
    later (inr both) = omega arith
