-- A commit, version by version: after the first n stored versions an item's latest is what
-- `committed` says of those n. A second version alike changes nothing, since at equal stamps the
-- latest already there stays.
use mathlib.Core.Bool.{true, false, cond, ◌&&◌, or-false}
use mathlib.Core.List.{List, [], ◌∷◌, ◌++◌}
use mathlib.Core.Path.{◌≡◌, refl, sym, ap, ◌∙◌, subst}
use Prim.Native.Nat.{ℕ, suc, ◌%◌, ◌<◌}
use native.Mathlib.Omega.{arith}
use lib.Dec.{eqb, ltb}
use lib.ListN.{length, get_or, take}
use lib.Seq.{take-suc, take-length}
use borrow.Author.Tests.{eqb-true, eqb-false, ne_eqb, le-ltb, lt-ltb}
use Rattle.basics.proofs.Cases.{by-test, not-both, and_left, and_both, eqb_same}
use Rattle.basics.specs.Fold.{up_to}
use Rattle.basics.proofs.Fold.{up_to-all}
use Rattle.basics.proofs.Lists.{in-get_or}
use Rattle.protocol.specs.declared.Version.{Version}
use Rattle.protocol.specs.declared.Entry.{Entry}
use Rattle.protocol.specs.Tables.{Tables, later_of, put, with_latest}
use Rattle.protocol.specs.Steps.{version, alike, stored, found, committed}
use Rattle.protocol.proofs.Put.{by_cond}
use Rattle.protocol.proofs.Stored.{stored-append}
use Rattle.protocol.proofs.Each.{Each}
use Rattle.layout.specs.Layout.{latest, latest_at}
use Rattle.layout.specs.Decode.{latest_in}
use Rattle.layout.specs.Encodes.{Encodes, HoldsEntry}
use Rattle.layout.proofs.Room.{HasRoom}
use Rattle.layout.proofs.EncodesEntry.{encodes-latest}
use Rattle.layout.proofs.Held.{version-held}
use Rattle.commit.specs.Commit.{commit_item, commit_version, commit_delivered}
use Rattle.layout.proofs.Same.{encodes-same-latest}

found-append : (vs us : List Version) (k stamp : ℕ)
    → found (vs ++ us) k stamp ≡ cond (stored vs k stamp) (found vs k stamp) (found us k stamp)
unfolding found stored
found-append [] us k stamp = refl
found-append (v ∷ vs) us k stamp =
    by-test (alike k stamp v) (λ e. rw e refl) (λ e. rw e (found-append vs us k stamp))

stored_one : (v : Version) (k stamp : ℕ) → stored (v ∷ []) k stamp ≡ alike k stamp v
unfolding stored
stored_one v k stamp = or-false (alike k stamp v)

found-one : (v : Version) (k stamp : ℕ) → alike k stamp v ≡ true → found (v ∷ []) k stamp ≡ v
unfolding found
found-one v k stamp e = rw e refl

-- a second entry of the same stamp changes nothing
later-again : (e : Entry) (stamp s r : ℕ)
    → later_of (later_of e (record { stamp = stamp; set = s }))
    (record { stamp = stamp; set = r }) ≡ later_of e (record { stamp = stamp; set = s })
later-again e stamp s r = by-test (ltb e.stamp stamp)
    (λ x. rw (x, le-ltb stamp stamp (omega arith)) refl) (λ x. rw (x, x) refl)

-- ---- the latest after the versions vs, of so many partitions

module _ (latest : ℕ → Entry) (partitions p stamp : ℕ) where
  abbrev pub committed_by : List Version → ℕ → Entry
  committed_by vs k =
      cond (eqb (k % partitions) p && stored vs k stamp)
      (later_of (latest k) (record { stamp = stamp; set = (found vs k stamp).set }))
      (latest k)

  -- another partition
  by-none : (vs : List Version) (k : ℕ) → eqb (k % partitions) p ≡ false
      → committed_by vs k ≡ latest k
  by-none vs k e = rw e refl

  -- a version that isn't alike
  by-other : (vs : List Version) (v : Version) (k : ℕ) → alike k stamp v ≡ false
      → committed_by vs k ≡ committed_by (vs ++ v ∷ []) k
  by-other vs v k a =
      by-test (eqb (k % partitions) p)
      (λ e.
      by-test (stored vs k stamp)
      (λ s. rw (e, stored-append vs (v ∷ []) k stamp, found-append vs (v ∷ []) k stamp, s) refl)
      (λ s. rw (e, stored-append vs (v ∷ []) k stamp, stored_one v k stamp, s, a) refl))
      (λ e. by-none vs k e ∙ sym (by-none (vs ++ v ∷ []) k e))

  -- one that is alike
  by_alike : (vs : List Version) (v : Version) (k : ℕ) → eqb (k % partitions) p ≡ true
      → alike k stamp v ≡ true
      → later_of (committed_by vs k) (record { stamp = stamp; set = v.set }) ≡ committed_by
      (vs ++ v ∷ []) k
  by_alike vs v k e a =
      by-test (stored vs k stamp)
      (λ s.
      rw (e, stored-append vs (v ∷ []) k stamp, found-append vs (v ∷ []) k stamp, s)
      (later-again (latest k) stamp (found vs k stamp).set v.set))
      (λ s. rw (
        e,
        stored-append vs (v ∷ []) k stamp,
        found-append vs
            (v ∷ []) k stamp,
        stored_one v k stamp,
        found-one v k stamp a,
        s,
        a,
      ) refl)

  by-nothing : (k : ℕ) → latest k ≡ committed_by [] k
  unfolding stored
  by-nothing k = by-test (eqb (k % partitions) p) (λ e. rw e refl) (λ e. rw e refl)

-- ---- on the block

pub latest-held : {b : List ℕ} (k : ℕ) {e : Entry} → HoldsEntry b latest (latest_at k) e
    → latest_in b k ≡ e
latest-held k h = rw (h.stamp, h.set) refl

not_alike : (k stamp : ℕ) (v : Version) → eqb v.stamp stamp ≡ false → alike k stamp v ≡ false
not_alike k stamp v e = by-test (eqb v.item k) (λ x. rw (x, e) refl) (λ x. rw x refl)

module _ (t : Tables) (r : HasRoom t) (p stamp : ℕ) where
  abbrev By : List Version → ℕ → Entry
  By = committed_by t.latest t.sizes.partitions p stamp

  one : (c : List ℕ) (vs : List Version) (v : Version) → v.item < t.sizes.items
      → Encodes c (with_latest t (By vs))
      → Encodes (cond (eqb v.stamp stamp) (commit_item t.sizes.partitions p c v) c)
      (with_latest t (By (vs ++ v ∷ [])))
  one c vs v l h =
      by_cond (λ (x : List ℕ). Encodes x (with_latest t (By (vs ++ v ∷ []))))
      (eqb v.stamp stamp) _ c
      (λ s.
      by_cond (λ (x : List ℕ). Encodes x (with_latest t (By (vs ++ v ∷ []))))
      (eqb (v.item % t.sizes.partitions) p && ltb v.item 64) _ c
      (λ e.
      encodes-same-latest (By (vs ++ v ∷ []))
      (encodes-latest v.item (later_of (latest_in c v.item)
      (record { stamp = v.stamp; set = v.set })) h r l)
      (λ k g. here k s (and_left (eqb (v.item % t.sizes.partitions) p) (ltb v.item 64) e)))
      (λ e. encodes-same-latest (By (vs ++ v ∷ [])) h (λ k g. elsewhere k (outside e))))
      (λ s. encodes-same-latest (By (vs ++ v ∷ [])) h
      (λ k g. by-other t.latest t.sizes.partitions p stamp vs v k
      (not_alike k stamp v s)))
    where
      here : (k : ℕ) → eqb v.stamp stamp ≡ true → eqb (v.item % t.sizes.partitions) p ≡ true
          → put (By vs) v.item (later_of (latest_in c v.item)
          (record { stamp = v.stamp; set = v.set })) k ≡ By (vs ++ v ∷ []) k
      here k s e =
          by-test (eqb k v.item)
          (λ x.
          rw (x, eqb-true k v.item x)
          (ap (λ (y : Entry). later_of y (record { stamp = v.stamp; set = v.set }))
          (latest-held v.item (h.latest v.item l))
          ∙ (ap (λ (y : ℕ). later_of (By vs v.item) (record { stamp = y; set = v.set }))
          (eqb-true v.stamp stamp s)
          ∙ by_alike t.latest t.sizes.partitions p stamp vs v v.item e
          (rw (eqb_same v.item) s))))
          (λ x.
          rw x
          (by-other t.latest t.sizes.partitions p stamp vs v k
          (rw (ne_eqb v.item k (λ z. eqb-false k v.item x (sym z))) refl)))

      outside : (eqb (v.item % t.sizes.partitions) p && ltb v.item 64) ≡ false
          → eqb (v.item % t.sizes.partitions) p ≡ false
      outside e =
          by-test (eqb (v.item % t.sizes.partitions) p)
          (λ x. not-both (and_both (eqb (v.item % t.sizes.partitions) p) (ltb v.item 64) x
          (lt-ltb v.item 64 (omega (arith, r.items)))) e)
          (λ x. x)

      elsewhere : (k : ℕ) → eqb (v.item % t.sizes.partitions) p ≡ false
          → By vs k ≡ By (vs ++ v ∷ []) k
      elsewhere k e =
          by-test (alike k stamp v)
          (λ a.
          let there : eqb (k % t.sizes.partitions) p ≡ false =
          rw (← eqb-true v.item k (and_left (eqb v.item k) (eqb v.stamp stamp) a)) e in
          by-none t.latest t.sizes.partitions p stamp vs k there
          ∙ sym (by-none t.latest t.sizes.partitions p stamp (vs ++ v ∷ []) k there))
          (λ a. by-other t.latest t.sizes.partitions p stamp vs v k a)

  pub encodes-committed : {b : List ℕ} → Encodes b t
      → Each (λ v. v.item < t.sizes.items) t.versions
      → Encodes (commit_delivered b t.sizes.partitions (length t.versions) p stamp)
      (with_latest t (committed t p stamp))
  unfolding commit_delivered
  encodes-committed {b} n items =
      subst (λ (vs : List Version). Encodes (up_to turn b (length t.versions))
      (with_latest t (By vs))) (take-length t.versions)
      (up_to-all (λ i c. Encodes c (with_latest t (By (take i t.versions)))) turn b
      (length t.versions)
      (encodes-same-latest (By []) n
      (λ k g. by-nothing t.latest t.sizes.partitions p stamp k))
      next)
    where
      none : Version
      none = version 0 0 0 0

      turn : List ℕ → ℕ → List ℕ
      turn = commit_version t.sizes.partitions p stamp

      next : (i : ℕ) (c : List ℕ) → i < length t.versions
          → Encodes c (with_latest t (By (take i t.versions)))
          → Encodes (turn c i) (with_latest t (By (take (suc i) t.versions)))
      next i c l h =
          let v = get_or t.versions i none in
          rw (take-suc t.versions i none l)
          (subst
          (λ (u : Version).
          Encodes (cond (eqb u.stamp stamp) (commit_item t.sizes.partitions p c u) c)
          (with_latest t (By (take i t.versions ++ v ∷ []))))
          (sym (version-held c i v (h.versions i l none)))
          (one c (take i t.versions) v (items v (in-get_or t.versions i none l)) h))
