-- The findings as the judge searches for them, item by item of a read and write by write, and the
-- laws that take a definition to such a search.
use mathlib.Core.Bool.{Bool, true, false, cond, not, ◌&&◌, ◌||◌}
use mathlib.Core.List.{List, []}
use mathlib.Core.Path.{◌≡◌, refl, sym, ap, ap₂, ◌∙◌}
use Prim.Native.Nat.{ℕ, ◌<◌}
use native.Mathlib.Omega.{arith}
use lib.Dec.{eqb}
use lib.ListN.{get_or}
use Rattle.itemset.specs.Set.{has}
use Rattle.itemset.proofs.Laws.{has-empty}
use Rattle.log_format.specs.Some.{some, some_from}
use Rattle.log_format.proofs.Some.{some_from-above, some_from-or, some_from-and, some_from-ext}
use Rattle.findings.specs.Findings.{holds_at, fault_at, wrote, is_unwritten, fractures}
use Rattle.findings.specs.Findings.{unwritten, fractured, own_write_missed}
use Rattle.findings.specs.Findings.{owners, misses_at}
use Rattle.findings.proofs.Owners.{owners-none}
use Rattle.log_format.specs.Log.{kind_of, client_of, reads_own, shown, shown_stamp, shown_value, written}
use Rattle.log_format.specs.Log.{written_stamp}
use Rattle.judge_frames.specs.Cut.{frame_in, frames_in}
use Rattle.judge_frames.proofs.Cuts.{frames_in-at, frames-some}
use Rattle.judge_findings.specs.Owned.{Owned}
use Rattle.judge_findings.specs.Tests.{fractures_by, misses_by, faults_by}
use Rattle.judge_findings.specs.Writes.{line_of, stamp_of, items_of, Gathered}
use Rattle.judge_findings.proofs.Gathering.{gathered-some}
use Rattle.judge_findings.proofs.Tests.{faults_not, fractures-by, misses-by, nothing-has}
use Rattle.judge_findings.proofs.Tests.{nothing-wrote, nothing-fractures, nothing-misses}
use Rattle.judge.specs.Search.{item_faulted}

module _ (bytes starts : List ℕ) where
  -- line `write`, of n, has line `line` at fault at the item
  unfoldable pub write_fault : ℕ → ℕ → ℕ → ℕ → Bool
  write_fault n line item write =
      let r = frame_in bytes starts line in
      let w = frame_in bytes starts write in
      faults_by r (owners (frames_in bytes starts n) write line) (written w) (written_stamp w)
      (client_of r) item (shown_stamp r item)

  -- line `line`, of n, shows the item and is at fault there
  unfoldable pub item_fault : ℕ → ℕ → ℕ → Bool
  item_fault n line item =
      let r = frame_in bytes starts line in
      has (shown r) item && (is_unwritten (frames_in bytes starts n) item (shown_stamp r item)
      (shown_value r item) || some_from n 0 (write_fault n line item))

and-ors : (p a b d : Bool) → (p && (a || (b || d))) ≡ ((p && a) || ((p && b) || (p && d)))
and-ors true a b d = refl
and-ors false a b d = refl

or-false : (a b d : Bool) → (a || (b || d)) ≡ (a || (b || (d || false)))
or-false a b true = refl
or-false a b false = refl

-- over the items: each of the three findings
pub items-search : (p a b d : ℕ → Bool)
    → some_from 64 0 (λ k. p k && (a k || (b k || d k)))
    ≡ (some_from 64 0 (λ k. p k && a k)
    || (some_from 64 0 (λ k. p k && b k) || (some_from 64 0 (λ k. p k && d k) || false)))
items-search p a b d =
    some_from-ext 64 0 (λ k. p k && (a k || (b k || d k)))
    (λ k. (p k && a k) || ((p k && b k) || (p k && d k)))
    (λ k _ _. and-ors (p k) (a k) (b k) (d k))
    ∙ some_from-or 64 0 (λ k. p k && a k) (λ k. (p k && b k) || (p k && d k))
    ∙ ap (λ (x : Bool). some_from 64 0 (λ k. p k && a k) || x)
    (some_from-or 64 0 (λ k. p k && b k) (λ k. p k && d k))
    ∙ or-false (some_from 64 0 (λ k. p k && a k)) (some_from 64 0 (λ k. p k && b k))
    (some_from 64 0 (λ k. p k && d k))

-- ---- a search over the gathered writes is one over all lines

module _ (bytes starts : List ℕ) (n : ℕ) (writes : List ℕ) (m : ℕ)
    (g : Gathered bytes starts n writes m) where
  abbrev at-write : ℕ → List ℕ
  at-write w = frame_in bytes starts (line_of writes w)

  pub unwritten-gathered : (item stamp value : ℕ)
      → cond (eqb stamp 0) (not (eqb value 0))
      (not (some_from m 0 (λ w. wrote item stamp value (at-write w))))
      ≡ is_unwritten (frames_in bytes starts n) item stamp value
  unfolding is_unwritten
  unwritten-gathered item stamp value =
      ap (λ (b : Bool). cond (eqb stamp 0) (not (eqb value 0)) (not b))
      (gathered-some bytes starts n writes m g
      (λ j. wrote item stamp value (frame_in bytes starts j))
      (λ j e. nothing-wrote (frame_in bytes starts j) item stamp e value)
      ∙ frames-some bytes starts (wrote item stamp value) n)

  pub fractured-gathered : (r : List ℕ) (item stamp : ℕ)
      → some_from m 0 (λ w. fractures_by r (items_of writes w) (stamp_of writes w) item stamp)
      ≡ some (fractures r item stamp) (frames_in bytes starts n)
  fractured-gathered r item stamp =
      some_from-ext m 0 (λ w. fractures_by r (items_of writes w) (stamp_of writes w) item stamp)
      (λ w. fractures r item stamp (at-write w))
      (λ w _ l.
      let e = g.entries.entry w (omega arith) in
      ap₂ (λ (i s : ℕ). fractures_by r i s item stamp) e.items e.stamp
      ∙ fractures-by r (at-write w) item stamp)
      ∙ gathered-some bytes starts n writes m g
      (λ j. fractures r item stamp (frame_in bytes starts j))
      (λ j e. nothing-fractures (frame_in bytes starts j) item stamp e r)
      ∙ frames-some bytes starts (fractures r item stamp) n

  pub missed-gathered : (line : ℕ) (table : List ℕ) (of item stamp : ℕ)
      → Owned bytes starts n line table
      → some_from m 0 (λ w. misses_by (get_or table (line_of writes w) 0) (items_of writes w)
      (stamp_of writes w) of item stamp)
      ≡ some_from n 0 (λ j. misses_at (owners (frames_in bytes starts n) j line) of item stamp
      (frame_in bytes starts j))
  missed-gathered line table of item stamp owned =
      some_from-ext m 0
      (λ w. misses_by (get_or table (line_of writes w) 0) (items_of writes w) (stamp_of writes w) of item
      stamp)
      (λ w. misses_at (owners (frames_in bytes starts n) (line_of writes w) line) of item stamp
      (at-write w))
      (λ w _ l.
      let e = g.entries.entry w (omega arith) in
      rw (owned.held (line_of writes w) (g.within w (omega arith)), e.items, e.stamp)
      (misses-by (owners (frames_in bytes starts n) (line_of writes w) line) of (at-write w) item
      stamp))
      ∙ gathered-some bytes starts n writes m g
      (λ j. misses_at (owners (frames_in bytes starts n) j line) of item stamp
      (frame_in bytes starts j))
      (λ j e. nothing-misses (frame_in bytes starts j) item stamp e
      (owners (frames_in bytes starts n) j line) of)

  pub faults-gathered : (line item : ℕ)
      → some_from m 0 (λ w. write_fault bytes starts n line item (line_of writes w))
      ≡ some_from n 0 (write_fault bytes starts n line item)
  unfolding write_fault
  faults-gathered line item =
      let r = frame_in bytes starts line in
      gathered-some bytes starts n writes m g (write_fault bytes starts n line item)
      (λ j e. sym (faults_not r (written (frame_in bytes starts j))
      (written_stamp (frame_in bytes starts j)) item (shown_stamp r item)
      (owners (frames_in bytes starts n) j line) (client_of r)
      (nothing-has (frame_in bytes starts j) item (shown_stamp r item) e)))

-- line i as it stands in the bytes is line i of the frames
module _ (bytes starts : List ℕ) (n line : ℕ) (h : line < n) where
  abbrev frames : List (List ℕ)
  frames = frames_in bytes starts n

  abbrev r : List ℕ
  r = frame_in bytes starts line

  -- of the lines from this one on none is anybody's own
  pub missed-above : (of item stamp : ℕ)
      → some_from n 0 (λ j. misses_at (owners frames j line) of item stamp (frame_in bytes starts j))
      ≡ some_from line 0 (λ j. misses_at (owners frames j line) of item stamp (get_or frames j []))
  unfolding misses_at
  missed-above of item stamp =
      some_from-above
      (λ j. misses_at (owners frames j line) of item stamp (frame_in bytes starts j)) n line
      (omega arith) (λ j l _. rw (owners-none frames j line l, has-empty of))
      ∙ some_from-ext line 0
      (λ j. misses_at (owners frames j line) of item stamp (frame_in bytes starts j))
      (λ j. misses_at (owners frames j line) of item stamp (get_or frames j []))
      (λ j _ l. rw (frames_in-at bytes starts n j (omega arith)))

  -- the line is to see the client's own writes, and misses one
  abbrev misses : ℕ → Bool
  misses item = reads_own (kind_of r) && some_from line 0
      (λ j. misses_at (owners frames j line) (client_of r) item (shown_stamp r item)
      (get_or frames j []))

  -- over the writes: any of them, and the client's own
  writes-search : (item : ℕ) → some_from n 0 (write_fault bytes starts n line item)
      ≡ (some (fractures r item (shown_stamp r item)) frames || misses item)
  unfolding write_fault faults_by
  writes-search item =
      let stamp = shown_stamp r item in
      let fractured : ℕ → Bool = λ j. fractures r item stamp (frame_in bytes starts j) in
      let missed : ℕ → Bool =
      λ j. misses_at (owners frames j line) (client_of r) item stamp (frame_in bytes starts j) in
      some_from-ext n 0 (write_fault bytes starts n line item)
      (λ j. fractured j || (reads_own (kind_of r) && missed j))
      (λ j _ g.
      ap₂ (λ (a b : Bool). a || (reads_own (kind_of r) && b))
      (fractures-by r (frame_in bytes starts j) item stamp)
      (misses-by (owners frames j line) (client_of r) (frame_in bytes starts j) item stamp))
      ∙ some_from-or n 0 fractured (λ j. reads_own (kind_of r) && missed j)
      ∙ ap₂ ◌||◌
      (frames-some bytes starts (fractures r item stamp) n)
      (some_from-and n 0 (reads_own (kind_of r)) missed
      ∙ ap (λ (b : Bool). reads_own (kind_of r) && b) (missed-above (client_of r) item stamp))

  pub fault-search : some_from 64 0 (item_fault bytes starts n line) ≡ fault_at frames line
  unfolding item_fault some holds_at
  fault-search =
      let here : get_or frames line [] ≡ r = frames_in-at bytes starts n line h in
      some_from-ext 64 0 (item_fault bytes starts n line)
      (λ item. has (shown r) item
      && (is_unwritten frames item (shown_stamp r item) (shown_value r item)
      || (some (fractures r item (shown_stamp r item)) frames || misses item)))
      (λ item _ _. ap (λ (x : Bool). has (shown r) item
      && (is_unwritten frames item (shown_stamp r item) (shown_value r item) || x))
      (writes-search item))
      ∙ items-search (has (shown r))
      (λ item. is_unwritten frames item (shown_stamp r item) (shown_value r item))
      (λ item. some (fractures r item (shown_stamp r item)) frames)
      misses
      ∙ rw here

-- ---- the search of a read

module _ (bytes starts : List ℕ) (n : ℕ) (writes : List ℕ) (m : ℕ)
    (g : Gathered bytes starts n writes m) (line : ℕ) (table r : List ℕ)
    (owned : Owned bytes starts n line table) (here : r ≡ frame_in bytes starts line) where
  write-fault : (item w : ℕ) → w < m
      → faults_by r (get_or table (line_of writes w) 0) (items_of writes w) (stamp_of writes w)
      (client_of r) item (shown_stamp r item) ≡ write_fault bytes starts n line item (line_of writes w)
  unfolding write_fault
  write-fault item w l =
      let e = g.entries.entry w l in
      rw (owned.held (line_of writes w) (g.within w l), e.items, e.stamp, here)

  item-fault : (item : ℕ) → item_faulted bytes starts writes m table r item
      ≡ item_fault bytes starts n line item
  unfolding item_faulted item_fault
  item-fault item =
      rw (unwritten-gathered bytes starts n writes m g item (shown_stamp r item) (shown_value r item))
      (ap (λ (b : Bool). has (shown r) item
      && (is_unwritten (frames_in bytes starts n) item (shown_stamp r item) (shown_value r item) || b))
      (some_from-ext m 0 _ (λ w. write_fault bytes starts n line item (line_of writes w))
      (λ w _ l. write-fault item w (omega arith))
      ∙ faults-gathered bytes starts n writes m g line item)
      ∙ rw here)

  pub read-faulted : line < n → some_from 64 0 (item_faulted bytes starts writes m table r)
      ≡ fault_at (frames_in bytes starts n) line
  read-faulted h =
      some_from-ext 64 0 (item_faulted bytes starts writes m table r)
      (item_fault bytes starts n line) (λ item _ _. item-fault item)
      ∙ fault-search bytes starts n line h

-- ---- the lowest finding at a line

module _ (bytes starts : List ℕ) (n : ℕ) (writes : List ℕ) (m : ℕ)
    (g : Gathered bytes starts n writes m) (line item : ℕ) (r : List ℕ) (h : line < n)
    (here : r ≡ frame_in bytes starts line) where
  frame_at : get_or (frames_in bytes starts n) line [] ≡ r
  frame_at = frames_in-at bytes starts n line h ∙ sym here

  pub finding-one : (b : Bool) (stamp value : ℕ)
      → b ≡ cond (eqb stamp 0) (not (eqb value 0)) (not (some_from m 0
      (λ w. wrote item stamp value (frame_in bytes starts (line_of writes w)))))
      → stamp ≡ shown_stamp r item → value ≡ shown_value r item
      → b ≡ unwritten (frames_in bytes starts n) line item
  finding-one b stamp value t s v =
      t ∙ unwritten-gathered bytes starts n writes m g item stamp value ∙ rw (frame_at, s, v)

  pub finding-two : (b : Bool) (stamp : ℕ)
      → b ≡ some_from m 0 (λ w. fractures_by r (items_of writes w) (stamp_of writes w) item stamp)
      → stamp ≡ shown_stamp r item → b ≡ fractured (frames_in bytes starts n) line item
  finding-two b stamp t s =
      t ∙ fractured-gathered bytes starts n writes m g r item stamp ∙ rw (frame_at, s)

  pub finding-three : (own b : Bool) (table : List ℕ) (of stamp : ℕ) → own ≡ reads_own (kind_of r)
      → b ≡ some_from m 0 (λ w. misses_by (get_or table (line_of writes w) 0) (items_of writes w)
      (stamp_of writes w) of item stamp)
      → Owned bytes starts n line table → of ≡ client_of r
      → stamp ≡ shown_stamp r item
      → (own && b) ≡ own_write_missed (frames_in bytes starts n) line item
  finding-three own b table of stamp w t owned o s =
      rw (frame_at, ← w, ← o, ← s)
      (ap (λ (x : Bool). own && x)
      (t ∙ missed-gathered bytes starts n writes m g line table of item stamp owned
      ∙ missed-above bytes starts n line h of item stamp))

-- line i shows an item at which the finding holds
pub holds-search : (bytes starts : List ℕ) (n line items : ℕ) (f : List (List ℕ) → ℕ → ℕ → Bool)
    → line < n → items ≡ shown (frame_in bytes starts line)
    → some_from 64 0 (λ k. has items k && f (frames_in bytes starts n) line k) ≡ holds_at
    f (frames_in bytes starts n) line
unfolding holds_at
holds-search bytes starts n line items f h e = rw (frames_in-at bytes starts n line h, e)
