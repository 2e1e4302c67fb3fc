-- Laws of a frame's parts: its sets are of 64 bits, a part that is absent shows and writes nothing,
-- and the order of stamps.
use mathlib.Core.Bool.{true, not, ◌&&◌}
use mathlib.Core.List.{List}
use mathlib.Core.Logic.{◌↔◌, ◌⊎◌, inl, inr, ⊎_elim}
use mathlib.Core.Path.{◌≡◌, sym}
use Prim.Native.Nat.{ℕ, zero, suc, ◌+◌, ◌^◌, ◌≤◌, ◌<◌}
use native.Mathlib.Omega.{arith}
use lib.Dec.{eqb, leb, ltb}
use lib.ListN.{length}
use borrow.Author.Tests.{leb-true, ltb-true, ltb-false}
use Rattle.basics.proofs.Cases.{by-test, not-both, and_left, and_right, or_cases, not-true}
use Rattle.hexadecimal.specs.Bytes.{EachByte}
use Rattle.hexadecimal.proofs.Number.{number_at-lt}
use Rattle.itemset.specs.Set.{has, count, rank}
use Rattle.itemset.proofs.Counts.{rank-all, rank-zero, rank-suc}
use Rattle.itemset.proofs.Laws.{has-below, has-empty}
use Rattle.log_format.specs.Log.{count64, stamp_of, kind_of, client_of, has_read, has_write, is_kind}
use Rattle.log_format.specs.Log.{is_client}
use Rattle.log_format.specs.Log.{shown, written, number_of, write_at, end_of, read_shaped, write_shaped}
use Rattle.log_format.specs.Log.{hand_over_shaped, shaped}

-- the stamp order: the greater number is later; with equal numbers, the greater client
pub stamp-order : (n d m e : ℕ) → d < 16 → e < 16 → (stamp_of n d < stamp_of m e)
    ↔ ((n < m) ⊎ ((n ≡ m) × (d < e)))
stamp-order n d m e p q = (
  λ h. by-test (ltb n m) (λ t. inl (ltb-true n m t))
      (λ t. inr (omega (arith, ltb-false n m t))),
  λ h. ⊎_elim (λ l. omega arith) (λ l. omega (arith, l.0, l.1)) h,
)

-- at most n members lie below item n
rank-few : (n s : ℕ) → rank s n ≤ n
rank-few zero s = omega (arith, rank-zero s)
rank-few (suc n) s =
    by-test (has s n)
    (λ t. omega (arith, rw t at (rank-suc s n), rank-few n s))
    (λ t. omega (arith, rw t at (rank-suc s n), rank-few n s))

module _ (f : List ℕ) where
  pub shown-few : count64 (shown f) ≤ 64
  shown-few = rank-few 64 (shown f)

  pub written-few : count64 (written f) ≤ 64
  written-few = rank-few 64 (written f)

  pub write_at-le : write_at f ≤ 586
  unfolding write_at
  write_at-le = by-test (has_read (kind_of f)) (λ t. rw t (omega (arith, shown-few)))
      (λ t. rw t (omega arith))

  module _ (h : EachByte f) where
    pub shown-lt : shown f < 2 ^ 64
    unfolding shown
    shown-lt = by-test (has_read (kind_of f)) (λ t. rw t (number_at-lt 8 f 2 h))
        (λ t. rw t (omega arith))

    pub written-lt : written f < 2 ^ 64
    unfolding written
    written-lt = by-test (has_write (kind_of f)) (λ t. rw t (number_at-lt 8 f (write_at f) h))
        (λ t. rw t (omega arith))

    pub number_of-lt : number_of f < 2 ^ 32
    unfolding number_of
    number_of-lt = by-test (has_write (kind_of f)) (λ t. rw t (number_at-lt 4 f (write_at f + 8) h))
        (λ t. rw t (omega arith))

    pub shown-below : (item : ℕ) → has (shown f) item ≡ true → item < 64
    shown-below item e = has-below (shown f) item 64 shown-lt e

    -- their counts are those of the sets
    pub shown-count : count (shown f) ≡ count64 (shown f)
    shown-count = sym (rank-all (shown f) 64 shown-lt)

    pub written_count : count (written f) ≡ count64 (written f)
    written_count = sym (rank-all (written f) 64 written-lt)

  -- a frame that wrote an item has a write part
  pub written-part : (item : ℕ) → has (written f) item ≡ true → has_write (kind_of f) ≡ true
  unfolding written
  written-part item e = by-test (has_write (kind_of f)) (λ t. t)
      (λ t. not-both (rw t at e) (has-empty item))

  -- what is well-formed of a frame
  module _ (e : shaped f ≡ true) where
    behind-kind : (is_client (client_of f) && (eqb (length f) (end_of f)
        && (read_shaped f && (write_shaped f && hand_over_shaped f)))) ≡ true
    unfolding shaped
    behind-kind = and_right (is_kind (kind_of f)) _ e

    behind-client : (eqb (length f) (end_of f)
        && (read_shaped f && (write_shaped f && hand_over_shaped f))) ≡ true
    behind-client = and_right (is_client (client_of f)) _ behind-kind

    parts : (read_shaped f && (write_shaped f && hand_over_shaped f)) ≡ true
    parts = and_right (eqb (length f) (end_of f)) _ behind-client

    pub shaped-kind : is_kind (kind_of f) ≡ true
    unfolding shaped
    shaped-kind = and_left (is_kind (kind_of f)) _ e

    pub shaped-client : is_client (client_of f) ≡ true
    shaped-client = and_left (is_client (client_of f)) _ behind-kind

    pub shaped-size : eqb (length f) (end_of f) ≡ true
    shaped-size = and_left (eqb (length f) (end_of f)) _ behind-client

    pub shaped-read : read_shaped f ≡ true
    shaped-read = and_left (read_shaped f) _ parts

    pub shaped-write : write_shaped f ≡ true
    shaped-write = and_left (write_shaped f) (hand_over_shaped f) (and_right (read_shaped f) _ parts)

    pub shaped-hand-over : hand_over_shaped f ≡ true
    shaped-hand-over =
        and_right (write_shaped f) (hand_over_shaped f) (and_right (read_shaped f) _ parts)

    -- a write's number is 1 or more
    pub shaped-number : has_write (kind_of f) ≡ true → 1 ≤ number_of f
    unfolding write_shaped
    shaped-number w =
        ⊎_elim
        (λ t. not-both w (not-true (has_write (kind_of f)) t))
        (λ t. leb-true 1 (number_of f) (and_right (leb 1 (written f)) (leb 1 (number_of f)) t))
        (or_cases (not (has_write (kind_of f))) (leb 1 (written f) && leb 1 (number_of f))
        shaped-write)
