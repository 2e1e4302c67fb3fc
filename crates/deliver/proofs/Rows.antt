-- What a reply leaves, from what each call leaves: by whether it is the last one.
use mathlib.Core.Bool.{true, false, cond, ◌&&◌}
use mathlib.Core.List.{List}
use mathlib.Core.Path.{◌≡◌, sym, ap, ◌∙◌}
use Prim.Native.Nat.{ℕ}
use lib.Dec.{eqb}
use borrow.Author.Tests.{eq-eqb, ne_eqb}
use Rattle.itemset.specs.Set.{remove}
use Rattle.protocol.specs.declared.Version.{Version}
use Rattle.protocol.specs.declared.Entry.{Entry}
use Rattle.protocol.specs.Tables.{writer_of}
use Rattle.protocol.specs.Steps.{offered}
use Rattle.layout.specs.Layout.{scalars, values, at, store, mode_at, awaited_at, write_awaited_at}
use Rattle.layout.specs.Layout.{item_at, is_mixed_mode, with_answer}
use Rattle.layout.specs.Decode.{view_in}
use Rattle.layout.specs.Store.{store_view}
use Rattle.ends.specs.Ends.{read_ended, write_ended, mixed_ended}
use Rattle.slots.proofs.Chosen.{when, unless}
use Rattle.second_part.specs.SecondPart.{second_begun}
use Rattle.deliver.specs.Deliver.{written_delivered, mixed_prepared, prepared_delivered}
use Rattle.deliver.specs.Deliver.{kept_answer, read_delivered, mixed_got, got_delivered}
use Rattle.deliver.specs.Deliver.{kept_first, first_delivered}

module _ (b y : List ℕ) (partitions items k stamp awaited rest : ℕ)
    (e : awaited ≡ at b scalars (awaited_at (writer_of stamp)))
    (r : rest ≡ remove awaited k) where
  struck-prepared : rest ≡ remove (at b scalars (awaited_at (writer_of stamp))) k
  struck-prepared = r ∙ ap (λ (x : ℕ). remove x k) e

  pub written_last : rest ≡ 0 → y ≡ write_ended b partitions items (writer_of stamp) stamp
      → y ≡ written_delivered b partitions items k stamp
  unfolding written_delivered
  written_last z h = when _ _ _ _ (eq-eqb _ _ (sym struck-prepared ∙ z)) h

  pub written-more : (rest ≡ 0 → ⊥) → y ≡ store b scalars (awaited_at (writer_of stamp)) rest
      → y ≡ written_delivered b partitions items k stamp
  unfolding written_delivered
  written-more z h =
      unless _ _ _ _ (ne_eqb _ _ (λ x. z (struck-prepared ∙ x)))
      (h ∙ ap (store b scalars (awaited_at (writer_of stamp))) struck-prepared)

-- r is f of the latest of the entry read, y, and what a got offers
pub offered-put : (f : Entry → List ℕ) (x y z : Entry) (v : Version) (e : Entry) (r : List ℕ)
    → r ≡ f z → z ≡ offered y v e → y ≡ x → r ≡ f (offered x v e)
offered-put f x y z v e r stored latest same =
    stored ∙ ap f (latest ∙ ap (λ (u : Entry). offered u v e) same)

-- x is the block with the view's entry, y that with the answer
pub answer-row : (b x y : List ℕ) (d : ℕ) (v : Version) (latest : Entry) (mode old word : ℕ)
    → x ≡ store_view b d v.item (offered (view_in b d v.item) v latest)
    → mode ≡ at x scalars (mode_at d) → old ≡ at x values (item_at d v.item)
    → word ≡ with_answer (is_mixed_mode mode) old v.value
    → y ≡ store x values (item_at d v.item) word → y ≡ kept_answer b d v latest
answer-row b x y d v latest mode old word p m o w h = rw (← p, ← m, ← o, ← w) h

-- a reply to a read of either kind: x is what is kept of it, z what its last one leaves
module _ (b x y z : List ℕ) (d k awaited rest : ℕ) (e : awaited ≡ at b scalars (awaited_at d))
    (r : rest ≡ remove awaited k) where
  struck : rest ≡ remove (at b scalars (awaited_at d)) k
  struck = r ∙ ap (λ (u : ℕ). remove u k) e

  replied-last : rest ≡ 0 → y ≡ z
      → y ≡ cond (eqb (remove (at b scalars (awaited_at d)) k) 0) z
      (store x scalars (awaited_at d) (remove (at b scalars (awaited_at d)) k))
  replied-last u h = when _ _ _ _ (eq-eqb _ _ (sym struck ∙ u)) h

  replied-more : (rest ≡ 0 → ⊥) → y ≡ store x scalars (awaited_at d) rest
      → y ≡ cond (eqb (remove (at b scalars (awaited_at d)) k) 0) z
      (store x scalars (awaited_at d) (remove (at b scalars (awaited_at d)) k))
  replied-more u h =
      unless _ _ _ _ (ne_eqb _ _ (λ w. u (struck ∙ w)))
      (h ∙ ap (store x scalars (awaited_at d)) struck)

module _ (b x y : List ℕ) (items d : ℕ) (v : Version) (latest : Entry) (awaited rest : ℕ)
    (e : awaited ≡ at b scalars (awaited_at d)) (r : rest ≡ remove awaited v.item) where
  pub read-last : x ≡ kept_answer b d v latest → rest ≡ 0 → y ≡ read_ended x items d
      → y ≡ read_delivered b items d v latest
  unfolding read_delivered
  read-last a z h =
      rw (← a) (replied-last b x y (read_ended x items d) d v.item awaited rest e r z h)

  pub read_more : x ≡ kept_answer b d v latest → (rest ≡ 0 → ⊥)
      → y ≡ store x scalars (awaited_at d) rest → y ≡ read_delivered b items d v latest
  unfolding read_delivered
  read_more a z h =
      rw (← a) (replied-more b x y (read_ended x items d) d v.item awaited rest e r z h)

  pub first-last : x ≡ kept_first b d v latest → rest ≡ 0 → y ≡ second_begun x items d
      → y ≡ first_delivered b items d v latest
  unfolding first_delivered
  first-last a z h =
      rw (← a) (replied-last b x y (second_begun x items d) d v.item awaited rest e r z h)

  pub first_more : x ≡ kept_first b d v latest → (rest ≡ 0 → ⊥)
      → y ≡ store x scalars (awaited_at d) rest → y ≡ first_delivered b items d v latest
  unfolding first_delivered
  first_more a z h =
      rw (← a) (replied-more b x y (second_begun x items d) d v.item awaited rest e r z h)

-- ---- mixed transactions

module _ (b y : List ℕ) (partitions items d k gots awaited rest : ℕ)
    (g : gots ≡ at b scalars (awaited_at d)) (e : awaited ≡ at b scalars (write_awaited_at d))
    (r : rest ≡ remove awaited k) where
  pub mixed-prepared-last : (eqb gots 0 && eqb rest 0) ≡ true → y ≡ mixed_ended b partitions items d
      → y ≡ mixed_prepared b partitions items d k
  unfolding mixed_prepared
  mixed-prepared-last z h = rw (← g, ← e, ← r) (when _ _ _ _ z h)

  pub mixed-prepared-more : (eqb gots 0 && eqb rest 0) ≡ false
      → y ≡ store b scalars (write_awaited_at d) rest → y ≡ mixed_prepared b partitions items d k
  unfolding mixed_prepared
  mixed-prepared-more z h = rw (← g, ← e, ← r) (unless _ _ _ _ z h)

module _ (b x y : List ℕ) (partitions items d : ℕ) (v : Version) (latest : Entry)
    (awaited rest replies : ℕ) (e : awaited ≡ at b scalars (awaited_at d))
    (r : rest ≡ remove awaited v.item) (w : replies ≡ at b scalars (write_awaited_at d))
    (a : x ≡ kept_answer b d v latest) where
  pub mixed-got-last : (eqb rest 0 && eqb replies 0) ≡ true → y ≡ mixed_ended x partitions items d
      → y ≡ mixed_got b partitions items d v latest
  unfolding mixed_got
  mixed-got-last z h = rw (← a, ← e, ← r, ← w) (when _ _ _ _ z h)

  pub mixed-got-more : (eqb rest 0 && eqb replies 0) ≡ false
      → y ≡ store x scalars (awaited_at d) rest → y ≡ mixed_got b partitions items d v latest
  unfolding mixed_got
  mixed-got-more z h = rw (← a, ← e, ← r, ← w) (unless _ _ _ _ z h)

-- by the mode
module _ (b y : List ℕ) (partitions items : ℕ) (mode : ℕ) where
  pub prepared-mixed : (k stamp : ℕ) → mode ≡ at b scalars (mode_at (writer_of stamp)) → mode ≡ 5
      → y ≡ mixed_prepared b partitions items (writer_of stamp) k
      → y ≡ prepared_delivered b partitions items k stamp
  unfolding prepared_delivered
  prepared-mixed k stamp e m h = when _ _ _ _ (eq-eqb _ _ (sym e ∙ m)) h

  pub prepared-other : (k stamp : ℕ) → mode ≡ at b scalars (mode_at (writer_of stamp))
      → (mode ≡ 5 → ⊥)
      → y ≡ written_delivered b partitions items k stamp
      → y ≡ prepared_delivered b partitions items k stamp
  unfolding prepared_delivered
  prepared-other k stamp e m h = unless _ _ _ _ (ne_eqb _ _ (λ x. m (e ∙ x))) h

  pub got-mixed : (d : ℕ) (v : Version) (latest : Entry) → mode ≡ at b scalars (mode_at d) → mode ≡ 5
      → y ≡ mixed_got b partitions items d v latest → y ≡ got_delivered b partitions items d v latest
  unfolding got_delivered
  got-mixed d v latest e m h = when _ _ _ _ (eq-eqb _ _ (sym e ∙ m)) h

  pub got_other : (d : ℕ) (v : Version) (latest : Entry) → mode ≡ at b scalars (mode_at d)
      → (mode ≡ 5 → ⊥) → y ≡ read_delivered b items d v latest
      → y ≡ got_delivered b partitions items d v latest
  unfolding got_delivered
  got_other d v latest e m h = unless _ _ _ _ (ne_eqb _ _ (λ x. m (e ∙ x))) h
