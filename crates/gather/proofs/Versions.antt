-- The words that a loop gathers of a version pass exactly when it is in range.
use Rattle.std.proofs.Common.{◌≡◌, ℕ, ◌/◌, ◌%◌, ◌^◌, ◌<◌, ◌≤◌, true, ◌&&◌, ltb, sym, ◌∙◌, mod-eq_of_lt, arith, ltb-true, lt-ltb}
use Rattle.basics.proofs.Cases.{test-ext}
use Rattle.itemset.specs.Set.{has, all_below}
use Rattle.itemset.proofs.Laws.{has-power, has-below}
use Rattle.protocol.specs.declared.Version.{Version}
use Rattle.protocol.specs.Range.{not_initial, stamp_in_range, version_in_range}
use Rattle.protocol.proofs.Tells.{tells-and}
use Rattle.gather.specs.Sized.{sized}
use Rattle.gather.specs.Words.{owned, owns_test, versions_test}
use Rattle.gather.proofs.Parts.{later-parts}
use Rattle.gather.proofs.OwnedStamps.{own-word}

shifted-low : (s k : ℕ) → k < 64 → has (s / 2 ^ (k % 64)) 0 ≡ has s k
unfolding has
shifted-low s k l = rw (mod-eq_of_lt {n = k} {m = 64} l) (sym (has-power s k))

pub version-word : (c items : ℕ) (v : Version) → c ≤ 8 → items ≤ 64 → v.stamp < 2 ^ 64
    → versions_test items v.item v.value (owned c v.stamp) v.set
    (v.set / 2 ^ (v.item % 64)) ≡ version_in_range (sized c items) v
unfolding versions_test version_in_range
version-word c items v m l b =
    let later = own-word c v.stamp m b ∙ sym (later-parts c items v.stamp) in
    test-ext _ _
    (λ e.
    let g = simp tells-and at e in
    let k : v.item < 64 = ltb-true v.item (2 ^ 6) (search) in
    let h : has v.set v.item ≡ true = sym (shifted-low v.set v.item k) ∙ search in
    let s : (stamp_in_range (sized c items) v.stamp && not_initial v.stamp) ≡ true =
    sym later ∙ search in
    let t = simp tells-and at s in
    let f : all_below v.set items ≡ true = search in
    let i : ltb v.item items ≡ true =
    lt-ltb v.item items (has-below v.set v.item items
    (ltb-true v.set (2 ^ items) f) h) in
    simp tells-and search)
    (λ e.
    let g = simp tells-and at e in
    let i : ltb v.item items ≡ true = search in
    let k : v.item < 64 = omega (arith, ltb-true v.item items i) in
    let i6 : ltb v.item (2 ^ 6) ≡ true = lt-ltb v.item (2 ^ 6) k in
    let h : has (v.set / 2 ^ (v.item % 64)) 0 ≡ true =
    shifted-low v.set v.item k ∙ search in
    let both : (stamp_in_range (sized c items) v.stamp && not_initial v.stamp) ≡ true =
    simp tells-and search in
    let s : owns_test (owned c v.stamp) ≡ true = later ∙ both in
    simp tells-and search)

pub version-read : (c items : ℕ) (v : Version) {k value stamp own set : ℕ} → c ≤ 8 → items ≤ 64
    → stamp < 2 ^ 64
    → k ≡ v.item → value ≡ v.value → stamp ≡ v.stamp → set ≡ v.set → own ≡ owned c stamp
    → versions_test items k value own set (set / 2 ^ (k % 64)) ≡ version_in_range (sized c items) v
version-read c items v m l b p q r s t =
    rw (t, p, q, s) (rw r (version-word c items v m l (rw r at b)))
