-- From freshly made tables, and from those that the check accepts, no call of a list is refused by
-- 1, 11, 12 or 19, the load is never above its bound, and versions + prepares are never above
-- theirs: the invariant keeps the tables valid and sound, and every message in flight is expected.
use mathlib.Core.Bool.{Bool, true, false, not}
use mathlib.Core.List.{List, [], ◌∷◌}
use mathlib.Core.Path.{◌≡◌, refl}
use Prim.Native.Nat.{ℕ, ◌+◌, ◌≤◌}
use native.Mathlib.Omega.{arith}
use lib.Dec.{leb}
use lib.ListN.{length}
use borrow.Author.Tests.{leb-false}
use Rattle.basics.proofs.Cases.{by-test}
use Rattle.protocol.specs.Tables.{Sizes, Tables}
use Rattle.protocol.specs.Range.{Capacities, sizes_in_range, valid, load, occupied}
use Rattle.protocol.specs.Calls.{Call, start_read, start_fast_read, start_write, deliver, show, clear}
use Rattle.protocol.specs.Calls.{hand_over, compare, check, Test, test, first, read_tests, refusal}
use Rattle.protocol.specs.Calls.{start_mixed, write_tests}
use Rattle.itemset.specs.Set.{count}
use Rattle.condition3.specs.World.{World, begin, after}
use Rattle.condition3.specs.Held.{held}
use Rattle.protocol.proofs.Ranges.Tables.{facts-valid}
use Rattle.condition3.proofs.Sound.Checked.{tells-check, check_sound}
use Rattle.condition3.proofs.Link.{Inv}
use Rattle.condition3.proofs.Link.Step.{begin-inv}
use Rattle.condition3.proofs.Link.Held.{held-inv}
use Rattle.condition3.proofs.Runs.Run.{after-inv}
use Rattle.condition3.proofs.Runs.Deliverable.{deliverable}

-- none of the four
pub record Mild (r : ℕ) : Type 0 where
  pub one : r ≡ 1 → ⊥
  pub eleven : r ≡ 11 → ⊥
  pub twelve : r ≡ 12 → ⊥
  pub nineteen : r ≡ 19 → ⊥

-- a list of tests gives 0 or the number of one of them
mild-test : (n : ℕ) (b : Bool) (xs : List Test) → Mild n → Mild (first xs)
    → Mild (first (test n b ∷ xs))
unfolding first
mild-test n true xs here rest = here
mild-test n false xs here rest = rest

mild-none : Mild (first [])
unfolding first
mild-none = record {
  one = λ e. omega arith;
  eleven = λ e. omega arith;
  twelve = λ e. omega arith;
  nineteen = λ e. omega arith;
}

-- a test that doesn't apply
passes : (n : ℕ) (b : Bool) (xs : List Test) → b ≡ false → Mild (first xs)
    → Mild (first (test n b ∷ xs))
unfolding first
passes n b xs e rest = rw e rest

-- and one that does
applies : (n : ℕ) (b : Bool) (xs : List Test) → b ≡ true → Mild n → Mild (first (test n b ∷ xs))
unfolding first
applies n b xs e here = rw e here

accepted-mild : (r : ℕ) → r ≡ 0 → Mild r
accepted-mild r e = record {
  one = λ f. omega arith;
  eleven = λ f. omega arith;
  twelve = λ f. omega arith;
  nineteen = λ f. omega arith;
}

module _ (caps : Capacities) (w : World) (inv : Inv caps w) where
  is-valid : not (valid caps w.tables) ≡ false
  is-valid = rw (facts-valid caps w.tables inv.sound.valid) refl

  mild-read : (d s : ℕ) → Mild (first (read_tests caps w.tables d s))
  mild-read d s =
      passes 1 _ _ is-valid
      (mild-test 3 _ _ (omega arith)
      (mild-test 4 _ _ (omega arith)
      (mild-test 5 _ _ (omega arith) (mild-test 8 _ _ (omega arith) mild-none))))

  mild-write : (d : ℕ) (bad : Bool) (s : ℕ) (bytes : List ℕ) (joining : ℕ)
      → Mild (first (write_tests caps w.tables d bad s bytes joining))
  mild-write d bad s bytes joining =
      passes 1 _ _ is-valid
      (mild-test 3 _ _ (omega arith)
      (mild-test 4 _ _ (omega arith)
      (mild-test 5 _ _ (omega arith) (mild-test 6 _ _ (omega arith)
      (mild-test 17 _ _ (omega arith) (mild-test 7 _ _ (omega arith)
      (mild-test 8 _ _ (omega arith) (mild-test 9 _ _ (omega arith) mild-none))))))))

  pub mild : (c : Call) → Mild (refusal caps w.tables c)
  unfolding refusal
  mild (start_read d s) = mild-read d s
  mild (start_fast_read d s) = mild-read d s
  mild (start_write d s bytes) = mild-write d _ s bytes (count s)
  mild (start_mixed d r s bytes) = mild-write d _ s bytes (count r + count s)
  mild (deliver i) =
      by-test (leb (length w.tables.messages) i)
      (λ e. passes 1 _ _ is-valid (applies 10 _ _ e (omega arith)))
      (λ e. accepted-mild (refusal caps w.tables (deliver i))
      (deliverable caps w inv i (leb-false (length w.tables.messages) i e)))
  mild (show d output) =
      passes 1 _ _ is-valid
      (mild-test 3 _ _ (omega arith)
      (mild-test 4 _ _ (omega arith)
      (mild-test 13 _ _ (omega arith) (mild-test 14 _ _ (omega arith) mild-none))))
  mild clear = passes 1 _ _ is-valid mild-none
  mild (hand_over giver receiver) =
      passes 1 _ _ is-valid
      (mild-test 3 _ _ (omega arith)
      (mild-test 18 _ _ (omega arith) (mild-test 4 _ _ (omega arith) mild-none)))
  mild (compare d e) =
      passes 1 _ _ is-valid (mild-test 3 _ _ (omega arith) mild-none)
  mild check =
      accepted-mild (refusal caps w.tables check)
      ((tells-check caps w.tables).1 (inv.ledger, inv.sound))

-- ---- on a list from such tables, before each of its calls

pub record Never (caps : Capacities) (w : World) : Type 0 where
  pub refused : (c : Call) → Mild (refusal caps w.tables c)
  pub load : load w.tables ≤ caps.load
  pub occupied : occupied w.tables ≤ caps.versions

never-from : (caps : Capacities) (w : World) → Inv caps w → (before : List Call)
    → Never caps (after caps w before)
never-from caps w inv before =
    let here = after-inv caps w inv before in
    record {
      refused = mild caps (after caps w before) here;
      load = here.sound.valid.load;
      occupied = here.sound.valid.occupied;
    }

pub never : (caps : Capacities) (z : Sizes) → sizes_in_range z ≡ true → (before : List Call)
    → Never caps (after caps (begin z) before)
never caps z ok = never-from caps (begin z) (begin-inv caps z ok)

pub never-accepted : (caps : Capacities) (t : Tables) → refusal caps t check ≡ 0
    → (before : List Call) → Never caps (after caps (held t) before)
never-accepted caps t e = never-from caps (held t) (held-inv caps t (check_sound caps t e))
