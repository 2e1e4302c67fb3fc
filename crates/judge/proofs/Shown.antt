-- What the tests of one item that a read shows tell of the item.
use mathlib.Core.Bool.{Bool, true, false, cond, not, ◌&&◌, ◌||◌}
use mathlib.Core.List.{List}
use mathlib.Core.Path.{◌≡◌, refl}
use Prim.Native.Nat.{ℕ}
use lib.Dec.{eqb}
use Rattle.itemset.specs.Set.{has}
use Rattle.findings.specs.Findings.{wrote}
use Rattle.judge_frames.specs.Cut.{frame_in}
use Rattle.judge_findings.specs.Writes.{line_of}
use Rattle.log_format.specs.Log.{client_of, shown, shown_stamp, shown_value}
use Rattle.log_format.specs.Some.{some_from}
use Rattle.judge.specs.Search.{faulted, item_faulted}

or_true : (x : Bool) → (x || true) ≡ true
or_true true = refl
or_true false = refl

module _ (bytes starts writes : List ℕ) (m : ℕ) (owners r : List ℕ) (item : ℕ) where
  pub not-shown : (items : ℕ) → items ≡ shown r → has items item ≡ false
      → item_faulted bytes starts writes m owners r item ≡ false
  unfolding item_faulted
  not-shown items e h = rw (← e, h)

  -- it is shown, with this stamp and value
  module _ (items stamp value of : ℕ) (e : items ≡ shown r) (h : has items item ≡ true)
      (s : stamp ≡ shown_stamp r item) (v : value ≡ shown_value r item) (o : of ≡ client_of r) where
    -- no write gave the value
    abbrev lost : Bool
    lost =
        cond (eqb stamp 0) (not (eqb value 0))
        (not (some_from m 0 (λ w. wrote item stamp value (frame_in bytes starts (line_of writes w)))))

    pub lost-faults : lost ≡ true → item_faulted bytes starts writes m owners r item ≡ true
    unfolding item_faulted
    lost-faults l = rw (← e, h, ← s, ← v, l)

    pub write-faults : faulted writes m owners r of item stamp ≡ true
        → item_faulted bytes starts writes m owners r item ≡ true
    unfolding item_faulted
    write-faults f = rw (← e, h, ← s, ← v, ← o, f) (or_true lost)

    pub neither-faults : lost ≡ false → faulted writes m owners r of item stamp ≡ false
        → item_faulted bytes starts writes m owners r item ≡ false
    unfolding item_faulted
    neither-faults l f = rw (← e, h, ← s, ← v, ← o, l, f)
