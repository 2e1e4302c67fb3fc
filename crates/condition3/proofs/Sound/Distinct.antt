-- No two stored versions are alike: kept by one more that isn't stored, and by taking some out.
use mathlib.Core.Bool.{true, false, not}
use mathlib.Core.List.{List, [], ◌∷◌, ◌++◌, Sublistᴰ}
use mathlib.Core.Path.{◌≡◌, refl, sym, ◌∙◌, subst}
use lib.Dec.{eqb}
use borrow.Author.Tests.{eqb-true}
use Rattle.basics.proofs.Cases.{by-test, not-both, and_left, and_right, or-neither, not-true}
use Rattle.basics.proofs.Cases.{eqb_same}
use Rattle.protocol.specs.declared.Version.{Version}
use Rattle.protocol.specs.Steps.{alike, stored}
use Rattle.protocol.proofs.Stored.{stored-append, unstored-sublist}
use Rattle.condition3.proofs.Sound.{distinct}

-- alike goes both ways
alike-sym : (u v : Version) → alike u.item u.stamp v ≡ true
    → alike v.item v.stamp u ≡ true
alike-sym u v a =
    let item : v.item ≡ u.item =
    eqb-true v.item u.item
    (and_left (eqb v.item u.item) (eqb v.stamp u.stamp) a) in
    let stamp : v.stamp ≡ u.stamp =
    eqb-true v.stamp u.stamp
    (and_right (eqb v.item u.item) (eqb v.stamp u.stamp) a) in
    rw (item, stamp, eqb_same u.item) (eqb_same u.stamp)

pub distinct_append : (vs : List Version) (v : Version) → distinct vs ≡ true
    → stored vs v.item v.stamp ≡ false → distinct (vs ++ v ∷ []) ≡ true
unfolding distinct stored
distinct_append [] v e f = refl
distinct_append (u ∷ us) v e f =
    let g = or-neither (alike v.item v.stamp u) (stored us v.item v.stamp) f in
    let none : stored us u.item u.stamp ≡ false =
    not-true (stored us u.item u.stamp)
    (and_left (not (stored us u.item u.stamp)) (distinct us) e) in
    let other : alike u.item u.stamp v ≡ false =
    by-test (alike u.item u.stamp v) (λ a. not-both (alike-sym u v a) g.0) (λ a. a) in
    let here : stored (us ++ v ∷ []) u.item u.stamp ≡ false =
    stored-append us (v ∷ []) u.item u.stamp ∙ rw (none, other) refl in
    rw here (distinct_append us v (and_right (not (stored us u.item u.stamp)) (distinct us) e)
    g.1)

pub distinct-sublist : {us vs : List Version} → Sublistᴰ us vs → distinct vs ≡ true
    → distinct us ≡ true
unfolding distinct
distinct-sublist Sublistᴰ.slnil e = e
distinct-sublist (Sublistᴰ.cons {a = v} {l₂ = vs} s) e =
    distinct-sublist s (and_right (not (stored vs v.item v.stamp)) (distinct vs) e)
distinct-sublist (Sublistᴰ.cons-cons {b = v} {l₁ = us} {l₂ = vs} same s) e =
    let none : stored us v.item v.stamp ≡ false =
    unstored-sublist us vs s v.item v.stamp
    (not-true (stored vs v.item v.stamp)
    (and_left (not (stored vs v.item v.stamp)) (distinct vs) e)) in
    subst (λ (u : Version). distinct (u ∷ us) ≡ true) (sym same)
    (rw none (distinct-sublist s
    (and_right (not (stored vs v.item v.stamp)) (distinct vs) e)))
