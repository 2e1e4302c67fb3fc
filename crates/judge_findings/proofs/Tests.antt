-- Laws of the tests of one item and of one write.
use mathlib.Core.Bool.{Bool, true, false, ◌&&◌, true≢false, and-false}
use mathlib.Core.List.{List}
use mathlib.Core.Path.{◌≡◌, refl, ap, ◌∙◌}
use Prim.Native.Nat.{ℕ}
use lib.Dec.{eqb, ltb}
use borrow.Author.Tests.{eq-eqb, ne_eqb}
use Rattle.basics.proofs.Cases.{and_left, and_right}
use Rattle.itemset.specs.Set.{has}
use Rattle.itemset.proofs.Laws.{has-empty}
use Rattle.log_format.specs.Log.{kind_of, reads_own, written, written_stamp, written_value, shown_stamp}
use Rattle.findings.specs.Findings.{wrote, behind, fractures, outdates, misses_at}
use Rattle.judge_findings.specs.Tests.{behind_at, behind_by, fractures_by, misses_by, faults_by}

-- ---- an item

and-short : (a b c : Bool) → (a && b) ≡ false → (a && (b && c)) ≡ false
and-short true true c e = absurd (true≢false e)
and-short true false c e = refl
and-short false b c e = refl

pub behind_at-shown : (r : List ℕ) (items wrote stamp item : ℕ)
    → (has items item && has wrote item) ≡ true
    → behind_at r items wrote stamp item ≡ ltb (shown_stamp r item) stamp
unfolding behind_at
behind_at-shown r items wrote stamp item e =
    rw (and_left (has items item) (has wrote item) e, and_right (has items item) (has wrote item) e)

pub behind_at-not : (r : List ℕ) (items wrote stamp item : ℕ)
    → (has items item && has wrote item) ≡ false → behind_at r items wrote stamp item ≡ false
unfolding behind_at
behind_at-not r items wrote stamp item e =
    and-short (has items item) (has wrote item) (ltb (shown_stamp r item) stamp) e

-- ---- a write, by its stamp

module _ (w : List ℕ) (item stamp value : ℕ) where
  pub wrote-same : (b : Bool) (v : ℕ) → written_stamp w ≡ stamp → b ≡ has (written w) item
      → v ≡ written_value w item → (b && eqb v value) ≡ wrote item stamp value w
  unfolding wrote
  wrote-same b v e p q = rw (eq-eqb (written_stamp w) stamp e, p, q)

  pub wrote-other : (written_stamp w ≡ stamp → ⊥) → false ≡ wrote item stamp value w
  unfolding wrote
  wrote-other h = rw (ne_eqb (written_stamp w) stamp h)

module _ (r : List ℕ) (items stamp item seen : ℕ) where
  pub fractures-same : (a b : Bool) → stamp ≡ seen → a ≡ has items item → b ≡ behind_by r items stamp
      → (a && b) ≡ fractures_by r items stamp item seen
  unfolding fractures_by
  fractures-same a b e p q = rw (eq-eqb stamp seen e, p, q)

  pub fractures-other : (stamp ≡ seen → ⊥) → false ≡ fractures_by r items stamp item seen
  unfolding fractures_by
  fractures-other h = rw (ne_eqb stamp seen h)

  -- a write that isn't of the item
  pub faults_not : (owners of : ℕ) → has items item ≡ false
      → false ≡ faults_by r owners items stamp of item seen
  unfolding faults_by fractures_by misses_by
  faults_not owners of e =
      rw (
        e,
        and-false (eqb stamp seen),
        and-false (has owners of),
        and-false (reads_own (kind_of r)),
      )

-- ---- a write, by its frame

pub fractures-by : (r w : List ℕ) (item seen : ℕ)
    → fractures_by r (written w) (written_stamp w) item seen ≡ fractures r item seen w
unfolding fractures_by behind_at fractures behind
fractures-by r w item seen = refl

pub misses-by : (owners of : ℕ) (w : List ℕ) (item seen : ℕ)
    → misses_by owners (written w) (written_stamp w) of item seen ≡ misses_at owners of item seen w
unfolding misses_by misses_at outdates
misses-by owners of w item seen = refl

-- one that wrote nothing
module _ (w : List ℕ) (item seen : ℕ) (none : written w ≡ 0) where
  pub nothing-has : has (written w) item ≡ false
  nothing-has = ap (λ (items : ℕ). has items item) none ∙ has-empty item

  pub nothing-wrote : (value : ℕ) → wrote item seen value w ≡ false
  unfolding wrote
  nothing-wrote value = rw (nothing-has, and-false (eqb (written_stamp w) seen))

  pub nothing-fractures : (r : List ℕ) → fractures r item seen w ≡ false
  unfolding fractures
  nothing-fractures r = rw (nothing-has, and-false (eqb (written_stamp w) seen))

  pub nothing-misses : (owners of : ℕ) → misses_at owners of item seen w ≡ false
  unfolding misses_at outdates
  nothing-misses owners of = rw (nothing-has, and-false (has owners of))
