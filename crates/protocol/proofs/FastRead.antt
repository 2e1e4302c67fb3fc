-- What the first replies of a fast read show: which have come, which stamps they make it ask for,
-- and which items are fetched again.
use mathlib.Core.Bool.{true, false, not, ◌&&◌, ◌||◌}
use mathlib.Core.Logic.{◌≢◌}
use mathlib.Core.Path.{◌≡◌, refl, sym, ◌∙◌}
use Prim.Native.Nat.{ℕ, ◌^◌, ◌≤◌, ◌<◌}
use native.Mathlib.Omega.{arith}
use lib.Dec.{eqb, ltb}
use lib.ListN.{length, length-map}
use borrow.Author.Tests.{ne_eqb, eqb-true, ltb-true, ltb-false, lt-ltb}
use Rattle.basics.proofs.Cases.{by-test, not-both, and_left, and_right, not-false}
use Rattle.itemset.specs.Set.{has, count}
use Rattle.itemset.proofs.Laws.{has-remove-other}
use Rattle.itemset.proofs.Counts.{count-within}
use Rattle.itemset.proofs.Members.{length-members}
use Rattle.itemset.proofs.SetOf.{set_of-below, has-set_of}
use Rattle.protocol.specs.declared.Version.{Version}
use Rattle.protocol.specs.Tables.{ReadPart, is_first_part, is_second_part}
use Rattle.protocol.specs.Range.{has_first}
use Rattle.protocol.specs.Check.{answered_again}
use Rattle.protocol.specs.FastRead.{replies_of, freshest, stale, first_kept, second_gets}
use Rattle.protocol.proofs.Stored.{choice-own}

-- ---- which first replies have come

module _ (p : ReadPart) (k : ℕ) where
  -- of items of the set alone
  pub first-in-set : has_first p k ≡ true → has p.set k ≡ true
  unfolding has_first
  first-in-set e = and_left (has p.set k)
      (is_second_part p || (is_first_part p && not (has p.awaited k))) e

  -- of an ordinary read none
  pub no-first : p.stage ≡ 0 → has_first p k ≡ false
  unfolding has_first
  no-first e = by-test (has p.set k) (λ h. rw (h, e) refl) (λ h. rw h refl)

  -- in the first part, those no longer awaited
  pub first-come : p.stage ≡ 1 → has p.set k ≡ true → has p.awaited k ≡ false
      → has_first p k ≡ true
  unfolding has_first
  first-come e h a = rw (h, e, a) refl

  pub first-struck : p.stage ≡ 1 → has_first p k ≡ true → has p.awaited k ≡ false
  unfolding has_first
  first-struck e h = by-test (has p.awaited k)
      (λ a. not-both (and_right (has p.set k) false (rw (e, a) at h)) refl) (λ a. a)

  -- in the second, all of the set
  pub first-kept : p.stage ≡ 2 → has p.set k ≡ true → has_first p k ≡ true
  unfolding has_first
  first-kept e h = rw (h, e) refl

-- by set, awaited items and stage alone
pub first-same : (p q : ReadPart) (k : ℕ) → q.set ≡ p.set → q.awaited ≡ p.awaited
    → q.stage ≡ p.stage → has_first q k ≡ has_first p k
unfolding has_first
first-same p q k s a t = rw (s, a, t) refl

-- outside the first part, whatever is awaited
pub first-apart : (p q : ReadPart) (k : ℕ) → p.stage ≢ 1 → q.set ≡ p.set
    → q.stage ≡ p.stage → has_first q k ≡ has_first p k
unfolding has_first
first-apart p q k n s t = rw (s, t, ne_eqb p.stage 1 n) refl

-- one more with each first reply
pub first-other : (p : ReadPart) (v : Version) (k : ℕ) → k ≢ v.item
    → has_first (first_kept p v) k ≡ has_first p k
unfolding has_first
first-other p v k other = rw (has-remove-other p.awaited v.item k other) refl

-- ---- whose second answer has come (document 02, P9)

-- in the first part none
pub first-unanswered : (p : ReadPart) (k : ℕ) → p.stage ≡ 1 → answered_again p k ≡ false
unfolding answered_again
first-unanswered p k e = rw e refl

-- for the rest it goes by what is awaited and asked
pub answered-other : (p q : ReadPart) (k : ℕ) → q.stage ≡ p.stage
    → q.asked k ≡ p.asked k → q.firsts k ≡ p.firsts k
    → has q.awaited k ≡ has p.awaited k → answered_again q k ≡ answered_again p k
unfolding answered_again
answered-other p q k s a f w = rw (s, a, f, w) refl

-- an item that the second part has struck, and yet not answered again, was asked for with its first
-- reply's stamp
pub answered-first : (p : ReadPart) (k : ℕ) → p.stage ≢ 1 → has_first p k ≡ true
    → answered_again p k ≡ false → has p.awaited k ≡ false → p.asked k ≡ (p.firsts k).stamp
unfolding has_first answered_again
answered-first p k n h again struck =
    by-test (is_second_part p)
    (λ s. eqb-true (p.asked k) (p.firsts k).stamp
    (not-false (eqb (p.asked k) (p.firsts k).stamp) (rw (s, struck) at again)))
    (λ s. not-both (and_right (has p.set k) false (rw (s, ne_eqb p.stage 1 n) at h)) refl)

-- ---- the stamps that they show

module _ (n : ℕ) (p : ReadPart) (k : ℕ) where
  -- no earlier than its own
  pub freshest-own : has p.set k ≡ true → (p.firsts k).stamp ≤ freshest n p k
  freshest-own e =
      let own : (replies_of p k).stamp ≡ (p.firsts k).stamp = rw e refl in
      rw e (omega (arith, choice-own (replies_of p) k n))

  -- the items fetched again are of the set, and their first replies are older
  pub stale-older : has (stale n p) k ≡ true → (k < n) × ((p.firsts k).stamp < freshest n p k)
  stale-older e =
      let both = sym (has-set_of n (λ j. ltb (p.firsts j).stamp (freshest n p j)) k) ∙ e in (
        ltb-true k n (and_left (ltb k n) (ltb (p.firsts k).stamp (freshest n p k)) both),
        ltb-true (p.firsts k).stamp (freshest n p k)
            (and_right (ltb k n) (ltb (p.firsts k).stamp (freshest n p k)) both),
      )

  pub stale-in-set : has (stale n p) k ≡ true → has p.set k ≡ true
  stale-in-set e =
      by-test (has p.set k) (λ h. h)
      (λ h. let none : freshest n p k ≡ 0 = rw h refl in
      absurd (omega (arith, (stale-older e).1)))

  -- of any other the stamp asked for is its first reply's
  pub freshest-first : k < n → has p.set k ≡ true → has (stale n p) k ≡ false
      → freshest n p k ≡ (p.firsts k).stamp
  freshest-first l h e =
      by-test (ltb (p.firsts k).stamp (freshest n p k))
      (λ f. not-both (has-set_of n (λ j. ltb (p.firsts j).stamp (freshest n p j)) k
      ∙ rw (lt-ltb k n l, f) refl) e)
      (λ f. omega (arith, freshest-own h, ltb-false (p.firsts k).stamp (freshest n p k) f))

pub stale-below : (n : ℕ) (p : ReadPart) → stale n p < 2 ^ n
stale-below n p = set_of-below n (λ k. ltb (p.firsts k).stamp (freshest n p k))

-- ---- the second set of gets

-- no more than items of the set
pub few-stale : (n : ℕ) (p : ReadPart) → count (stale n p) ≤ count p.set
few-stale n p = count-within (stale n p) p.set (stale-in-set n p) n (stale-below n p)

pub length-second : (n d : ℕ) (p : ReadPart) → is_second_part p ≡ true → p.awaited < 2 ^ n
    → length (second_gets n d p) ≡ count p.awaited
length-second n d p e l = rw e (simp length-map (length-members p.awaited n l))
