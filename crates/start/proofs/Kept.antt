-- A turn of the pass. Siblings have the stamp and set of one write, so that the first of them
-- raises all items of it, and those behind it needn't: entries are kept in slots to tell.
use mathlib.Core.Bool.{Bool, true, ◌&&◌}
use mathlib.Core.List.{List}
use mathlib.Core.Logic.{◌⊎◌, inl, inr, ⊎_elim}
use mathlib.Core.Path.{◌≡◌, refl, sym, ap, ◌∙◌}
use Prim.Native.Nat.{ℕ, ◌+◌, ◌≤◌, ◌<◌}
use native.Mathlib.Nat.{le_refl}
use native.Mathlib.Omega.{arith}
use lib.Bits.{bit_and}
use lib.Dec.{eqb}
use lib.ListN.{length, get_or, set, length-set, replicate, length-replicate, get_or-replicate}
use lib.Seq.{get_or-set_same, get_or-set_other}
use borrow.Author.Tests.{eqb-true, eqb-false}
use Rattle.basics.proofs.Cases.{by-test, not-both, and_left, and_right, or_cases}
use Rattle.basics.proofs.Fold.{turn-next}
use Rattle.itemset.specs.Set.{has, insert, insert64}
use Rattle.itemset.proofs.Laws.{has-empty, has-insert, has-insert-same, insert64-lt}
use Rattle.itemset.proofs.Bits.{has-and}
use Rattle.protocol.specs.declared.Entry.{Entry}
use Rattle.protocol.specs.Tables.{initial}
use Rattle.protocol.specs.Steps.{choice}
use Rattle.protocol.proofs.Stored.{choice-own, choice-ge}
use Rattle.layout.specs.Layout.{most_items}
use Rattle.start.specs.Choice.{cut, ChosenAfter, raised, raised_by, passed, unraised}
use Rattle.start.proofs.Raised.{raised-already}
use Rattle.start.proofs.Choice.{cut-before, chosen-after}

-- the items that entry k reaches: its own and those in its set
abbrev reach : (ℕ → Entry) → ℕ → ℕ
reach view k = insert (view k).set k

-- an entry before k has this stamp and reached these items
pub record Earlier (view : ℕ → Entry) (k stamp reached : ℕ) : Type 0 where
  pub place : ℕ
  pub before : place < k
  pub stamped : (view place).stamp ≡ stamp
  pub reaches : reach view place ≡ reached

abbrev slots : ℕ
slots = 8

-- each slot is empty or has an entry before k: its stamp, and the items that it reached
pub record Kept (view : ℕ → Entry) (k : ℕ) (kept : List Entry) : Type 0 where
  pub long : length kept ≡ slots
  pub earlier : (q : ℕ) → q < slots → (none : Entry)
      → let last = get_or kept q none in (last.set ≡ 0) ⊎ Earlier view k last.stamp last.set

-- an entry counts for all items that it reaches
choice-reached : (view : ℕ → Entry) (j k p : ℕ) → p < k → has (reach view p) j ≡ true
    → (view p).stamp ≤ choice view j k
choice-reached view j k p l e =
    ⊎_elim (λ own. rw (← eqb-true j p own) (choice-own view j k))
    (λ among. choice-ge view j k p l among)
    (or_cases (eqb j p) (has (view p).set j) (sym (has-insert (view p).set p j) ∙ e))

-- so the items that were reached have that stamp or a later one
earlier-raised : (view : ℕ → Entry) (s k stamp reached : ℕ) (xs : List ℕ) → ChosenAfter view s k xs
    → Earlier view k stamp reached → (j : ℕ) → j < length xs → has (bit_and reached s) j ≡ true
    → stamp ≤ get_or xs j 0
earlier-raised view s k stamp reached xs h t j l e =
    let p = t.place in
    let both : (has reached j && has s j) ≡ true = sym (has-and reached s j) ∙ e in
    let here : cut view k p ≡ view p = cut-before view k p t.before in
    let among : has (reach (cut view k) p) j ≡ true =
    rw (here, t.reaches) (and_left (has reached j) (has s j) both) in
    omega (
      arith,
      t.stamped,
      ap (λ (e : Entry). e.stamp) here,
      choice-reached (cut view k) j k p t.before among,
      h.chosen j k (omega (arith, h.long)) (and_right (has reached j) (has s j) both) (le_refl k),
    )

-- and needn't be raised again
raised-kept : (view : ℕ → Entry) (s k last kept : ℕ) (xs : List ℕ) → ChosenAfter view s k xs
    → (kept ≡ 0) ⊎ Earlier view k last kept
    → raised (bit_and (unraised (view k).stamp (reach view k) last kept) s) (view k).stamp xs
    ≡ raised_by view s xs k
raised-kept view s k last kept xs h found =
    by-test (stamped && same)
    (λ e.
    let stamp : last ≡ (view k).stamp = eqb-true _ _ (and_left stamped same e) in
    let reached : kept ≡ reach view k = eqb-true _ _ (and_right stamped same e) in
    let earlier : Earlier view k (view k).stamp (reach view k) =
    rw (← stamp, ← reached) (⊎_elim (λ z. empty (sym reached ∙ z)) (λ t. t) found) in
    rw e (raised-already (bit_and 0 s) _ xs
    (λ j l e. not-both e (has-and 0 s j ∙ rw (has-empty j)))
    ∙ sym (raised-already _ _ xs (earlier-raised view s k _ _ xs h earlier))))
    (λ e. rw e)
  where
    stamped : Bool
    stamped = eqb last (view k).stamp

    same : Bool
    same = eqb kept (reach view k)

    empty : reach view k ≡ 0 → Earlier view k last kept
    empty z =
        not-both (has-insert-same (view k).set k)
        (ap (λ (u : ℕ). has u k) z ∙ has-empty k)

-- ---- what is kept

pub kept-none : (view : ℕ → Entry) → Kept view 0 (replicate slots initial)
kept-none view =
    record {
      long = length-replicate {A = Entry} slots initial;
      earlier = λ q l none.
          inl (ap (λ (e : Entry). e.set) (get_or-replicate {A = Entry} slots q initial none l));
    }

earlier-next : {view : ℕ → Entry} {k stamp reached : ℕ} → Earlier view k stamp reached
    → Earlier view (k + 1) stamp reached
earlier-next t =
    record {
      place = t.place;
      before = omega (arith, t.before);
      stamped = t.stamped;
      reaches = t.reaches;
    }

kept_next : (view : ℕ → Entry) (k slot : ℕ) (kept : List Entry) → slot < slots → Kept view k kept
    → Kept view (k + 1) (set kept slot (record { stamp = (view k).stamp; set = reach view k }))
kept_next view k slot kept l h =
    let here : Entry = record { stamp = (view k).stamp; set = reach view k } in
    record {
      long = length-set kept slot here ∙ h.long;
      earlier = λ q g none. by-test (eqb q slot)
          (λ e. rw (
            eqb-true q slot e,
            get_or-set_same kept slot here none (omega (arith, h.long)),
          ) (inr (record { place = k; before = omega arith; stamped = refl; reaches = refl })))
          (λ e. rw (get_or-set_other kept slot q here none (eqb-false q slot e))
          (⊎_elim inl (λ t. inr (earlier-next t)) (h.earlier q g none)));
    }

-- ---- the turn

-- entry k has had its turn, whether it had anything left to raise or not
pub passed-turn : (view : ℕ → Entry) (s k slot stamp entry reached left : ℕ) (xs ys : List ℕ)
    (kept : List Entry) (none : Entry) → k < most_items → slot < slots → stamp ≡ (view k).stamp
    → entry ≡ (view k).set → reached ≡ insert64 entry k
    → left ≡ unraised stamp reached (get_or kept slot none).stamp (get_or kept slot none).set
    → ys ≡ raised (bit_and left s) stamp xs → xs ≡ passed view s k → Kept view k kept
    → (ys ≡ passed view s (k + 1))
    × Kept view (k + 1) (set kept slot (record { stamp = stamp; set = reached }))
passed-turn view s k slot stamp entry reached left xs ys kept none l g p q r u e h before =
    let reaches : reached ≡ reach view k = r ∙ insert64-lt entry k l ∙ rw q in
    let chosen : ChosenAfter view s k xs = rw h (chosen-after view s k) in (
      turn-next (raised_by view s) (replicate most_items 0) xs ys k h
          (rw (e, u, reaches, p)
          (raised-kept view s k _ _ xs chosen (before.earlier slot g none))),
      rw (reaches, p) (kept_next view k slot kept g before),
    )
