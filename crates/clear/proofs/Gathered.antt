-- The stamps that the code gathers are those in use: of a stamp other than the initial one, that it
-- is none of them is that it is unused.
use mathlib.Core.Bool.{true, false, cond, not, ◌&&◌, ◌||◌}
use mathlib.Core.List.{List}
use mathlib.Core.Logic.{◌↔◌, ◌≢◌, ⊎_elim}
use mathlib.Core.Path.{◌≡◌, refl, sym, ap, ◌∙◌, subst}
use Prim.Native.Nat.{ℕ, zero, suc, ◌+◌, ◌-◌, ◌*◌, ◌/◌, ◌%◌, ◌≤◌, ◌<◌, min}
use native.Mathlib.Omega.{arith}
use lib.Dec.{eqb, ltb, leb}
use lib.ListN.{get_or}
use borrow.Author.Tests.{eqb-true, eqb-false, ltb-true, ltb-false, leb-true, lt-ltb, le-ltb, le-leb}
use borrow.Author.Tests.{ne_eqb}
use Rattle.basics.proofs.Cases.{by-test, not-both, test-ext, and_left, and_right}
use Rattle.basics.proofs.Cases.{or_cases, or_left, or_right, eqb_same}
use Rattle.basics.specs.Lists.{In, table}
use Rattle.basics.proofs.Lists.{in_table, every-at}
use Rattle.protocol.specs.declared.Entry.{Entry}
use Rattle.protocol.specs.Tables.{Sizes, Tables, no_read}
use Rattle.protocol.specs.Message.{parts_of}
use Rattle.protocol.specs.Range.{is_writing, has_first}
use Rattle.protocol.specs.Clear.{mentions, unused}
use Rattle.protocol.proofs.Tells.{tells}
use Rattle.protocol.proofs.Put.{by_cond}
use Rattle.protocol.proofs.FastRead.{no-first}
use Rattle.protocol.proofs.Ranges.Values.{IsClient}
use Rattle.protocol.proofs.Cleared.{Covers, tells-unused}
use Rattle.layout.specs.Layout.{most_clients, most_items, most_messages, entry_words, header, scalars}
use Rattle.layout.specs.Layout.{latest, views, firsts, base, at, clients_at, items_at, messages_at}
use Rattle.layout.specs.Layout.{mode_at, latest_at, view_at, first_at, is_write_mode, is_mixed_mode}
use Rattle.layout.specs.Layout.{stage_of}
use Rattle.layout.specs.Decode.{sizes_in, first_in, read_in, client_in, kind_in, message_of, message_in}
use Rattle.layout.specs.Decode.{tables_of}
use Rattle.layout.proofs.FirstWords.{write-stage, come-none, reply-come}
use Rattle.encoding.proofs.Folds.{all-table, each-table}
use Rattle.encoding.proofs.WellFormed.{client-test}
use Rattle.clear.specs.Stamps.{entry_stamp, message_stamp, write_stamp, first_stamp}
use Rattle.clear.specs.Stamps.{message_stamps, latest_stamps, write_stamps, first_stamps}
use Rattle.clear.specs.Stamps.{most_stamps, stamp_in, none_fast, stamp_count, stamps_in, absent}

-- ---- the parts of a message, by its kind

parts-stamp : (n who k v stamp s : ℕ) (e : Entry)
    → (parts_of (message_of n who k v stamp s e)).stamp ≡ cond (leb 1 n && not (eqb n 6)) stamp 0
unfolding message_of
parts-stamp zero who k v stamp s e = refl
parts-stamp (suc zero) who k v stamp s e = refl
parts-stamp (suc (suc zero)) who k v stamp s e = refl
parts-stamp (suc (suc (suc zero))) who k v stamp s e = refl
parts-stamp (suc (suc (suc (suc zero)))) who k v stamp s e = refl
parts-stamp (suc (suc (suc (suc (suc zero))))) who k v stamp s e = refl
parts-stamp (suc (suc (suc (suc (suc (suc zero)))))) who k v stamp s e = refl
parts-stamp (suc (suc (suc (suc (suc (suc (suc n))))))) who k v stamp s e =
    let m = suc (suc (suc (suc (suc (suc (suc n)))))) in
    rw (le-leb 1 m (omega arith), ne_eqb m 6 (omega arith)) refl

parts-latest : (n who k v stamp s : ℕ) (e : Entry)
    → (parts_of (message_of n who k v stamp s e)).latest.stamp
    ≡ cond (leb 5 n && not (eqb n 6)) e.stamp 0
unfolding message_of
parts-latest zero who k v stamp s e = refl
parts-latest (suc zero) who k v stamp s e = refl
parts-latest (suc (suc zero)) who k v stamp s e = refl
parts-latest (suc (suc (suc zero))) who k v stamp s e = refl
parts-latest (suc (suc (suc (suc zero)))) who k v stamp s e = refl
parts-latest (suc (suc (suc (suc (suc zero))))) who k v stamp s e = refl
parts-latest (suc (suc (suc (suc (suc (suc zero)))))) who k v stamp s e = refl
parts-latest (suc (suc (suc (suc (suc (suc (suc n))))))) who k v stamp s e =
    let m = suc (suc (suc (suc (suc (suc (suc n)))))) in
    rw (le-leb 5 m (omega arith), ne_eqb m 6 (omega arith)) refl

module _ (b : List ℕ) where
  -- ---- which stamp is which

  pub stamp-entry : (p : ℕ) → p < message_stamps → stamp_in b p ≡ entry_stamp b p
  unfolding stamp_in
  stamp-entry p l = rw (lt-ltb p message_stamps l) refl

  pub stamp-message : (p i : ℕ) → p ≡ message_stamps + i → i < most_messages
      → stamp_in b p ≡ message_stamp b 1 4 i
  unfolding stamp_in
  stamp-message p i e l =
      let same : p - message_stamps ≡ i = omega arith in
      rw (le-ltb p message_stamps (omega arith), lt-ltb p latest_stamps (omega arith), same) refl

  pub stamp-latest : (p i : ℕ) → p ≡ latest_stamps + i → i < most_messages
      → stamp_in b p ≡ message_stamp b 5 6 i
  unfolding stamp_in
  stamp-latest p i e l =
      let same : p - latest_stamps ≡ i = omega arith in
      rw (
        le-ltb p message_stamps (omega arith),
        le-ltb p latest_stamps (omega arith),
        lt-ltb p write_stamps (omega arith),
        same,
      ) refl

  pub stamp-write : (p i : ℕ) → p ≡ write_stamps + i → i < most_clients
      → stamp_in b p ≡ write_stamp b i
  unfolding stamp_in
  stamp-write p i e l =
      let same : p - write_stamps ≡ i = omega arith in
      rw (
        le-ltb p message_stamps (omega arith),
        le-ltb p latest_stamps (omega arith),
        le-ltb p write_stamps (omega arith),
        lt-ltb p first_stamps (omega arith),
        same,
      ) refl

  pub stamp-first : (p i : ℕ) → p ≡ first_stamps + i → stamp_in b p ≡ first_stamp b i
  unfolding stamp_in
  stamp-first p i e =
      let same : p - first_stamps ≡ i = omega arith in
      rw (
        le-ltb p message_stamps (omega arith),
        le-ltb p latest_stamps (omega arith),
        le-ltb p write_stamps (omega arith),
        le-ltb p first_stamps (omega arith),
        same,
      ) refl

  -- what holds of each sort holds of all
  each-stamp : (P : ℕ → Type 0)
      → ((p : ℕ) → p < message_stamps → P (entry_stamp b p))
      → ((i : ℕ) → i < most_messages → P (message_stamp b 1 4 i))
      → ((i : ℕ) → i < most_messages → P (message_stamp b 5 6 i))
      → ((i : ℕ) → i < most_clients → P (write_stamp b i))
      → ((i : ℕ) → i < most_items * most_clients → P (first_stamp b i))
      → (p : ℕ) → p < most_stamps → P (stamp_in b p)
  each-stamp P entry message its write first p l =
      by-test (ltb p message_stamps)
      (λ e. let h : p < message_stamps = ltb-true p message_stamps e in
      subst P (sym (stamp-entry p h)) (entry p h))
      (λ e. by-test (ltb p latest_stamps)
      (λ f. let h : p < latest_stamps = ltb-true p latest_stamps f in
      let i = p - message_stamps in
      let low = ltb-false p message_stamps e in
      subst P (sym (stamp-message p i (omega arith) (omega arith))) (message i (omega arith)))
      (λ f. by-test (ltb p write_stamps)
      (λ g. let h : p < write_stamps = ltb-true p write_stamps g in
      let i = p - latest_stamps in
      let low = ltb-false p latest_stamps f in
      subst P (sym (stamp-latest p i (omega arith) (omega arith))) (its i (omega arith)))
      (λ g. by-test (ltb p first_stamps)
      (λ o. let h : p < first_stamps = ltb-true p first_stamps o in
      let i = p - write_stamps in
      let low = ltb-false p write_stamps g in
      subst P (sym (stamp-write p i (omega arith) (omega arith))) (write i (omega arith)))
      (λ o. let i = p - first_stamps in
      let low = ltb-false p first_stamps o in
      subst P (sym (stamp-first p i (omega arith))) (first i (omega arith))))))

  -- ---- what each is of the tables

  abbrev z : Sizes
  z = sizes_in b

  abbrev t : Tables
  t = tables_of b

  -- the stamp in the entry of latest (d of 0) or of client d's view
  entry_at : (d k : ℕ) → d ≤ z.clients → k < z.items → k < most_items
      → entry_stamp b (most_items * d + k) ≡ at b latest (entry_words * (most_items * d + k))
  unfolding entry_stamp
  entry_at d k l h w =
      let row : (most_items * d + k) / most_items ≡ d = omega arith in
      let column : (most_items * d + k) % most_items ≡ k = omega arith in
      rw (row, column, le-leb d z.clients l, lt-ltb k z.items h) refl

  latest-stamp : (k : ℕ) → k < z.items
      → (t.latest k).stamp ≡ at b latest (entry_words * (most_items * 0 + k))
  unfolding tables_of
  latest-stamp k h = rw (lt-ltb k z.items h) (ap (λ (p : ℕ). get_or b p 0) (the-place k))
    where
      the-place : (k : ℕ)
          → base latest + latest_at k ≡ base latest + entry_words * (most_items * 0 + k)
      the-place k = omega arith

  view-stamp : (d k : ℕ) → IsClient z d → k < z.items
      → (t.view d k).stamp ≡ at b latest (entry_words * (most_items * d + k))
  unfolding tables_of
  view-stamp d k c h =
      rw (client-test z d c, lt-ltb k z.items h)
      (ap (λ (p : ℕ). get_or b p 0)
      (the-place d k c))
    where
      the-place : (d k : ℕ) → IsClient z d
          → base views + view_at d k ≡ base latest + entry_words * (most_items * d + k)
      the-place d k c = omega arith

  message-stamp : (i : ℕ) → i < at b header messages_at
      → message_stamp b 1 4 i ≡ (parts_of (message_in b i)).stamp
  unfolding message_stamp message_in
  message-stamp i l =
      rw (lt-ltb i (at b header messages_at) l) (sym (parts-stamp (kind_in b i) _ _ _ _ _ _))

  message-latest : (i : ℕ) → i < at b header messages_at
      → message_stamp b 5 6 i ≡ (parts_of (message_in b i)).latest.stamp
  unfolding message_stamp message_in
  message-latest i l =
      rw (lt-ltb i (at b header messages_at) l) (sym (parts-latest (kind_in b i) _ _ _ _ _ _))

  message-none : (kind f i : ℕ) → at b header messages_at ≤ i → message_stamp b kind f i ≡ 0
  unfolding message_stamp
  message-none kind f i l = rw (le-ltb i (at b header messages_at) l) refl

  write-stamp : (i : ℕ) → i < z.clients
      → write_stamp b i
      ≡ cond (is_writing (t.client (i + 1))) (t.client (i + 1)).write.stamp 0
  unfolding write_stamp tables_of client_in
  write-stamp i l =
      let c : IsClient z (i + 1) = (omega arith, omega arith) in
      let mode = at b scalars (mode_at (i + 1)) in
      by-test (is_write_mode mode || is_mixed_mode mode)
      (λ e. rw (lt-ltb i z.clients l, client-test z (i + 1) c, e) refl)
      (λ e. rw (lt-ltb i z.clients l, client-test z (i + 1) c, e) refl)

  write-none : (i : ℕ) → z.clients ≤ i → write_stamp b i ≡ 0
  unfolding write_stamp
  write-none i l = rw (le-ltb i z.clients l) refl

  -- a client's words are those of a read part, or it reads nothing
  read-part : (d : ℕ) → IsClient z d
      → (t.client d).read ≡ cond (is_write_mode (at b scalars (mode_at d))) no_read (read_in b d)
  unfolding tables_of client_in
  read-part d c = rw (client-test z d c) refl

  -- the same first replies have come, and their words are in the block
  come-part : (d k : ℕ) → IsClient z d → has_first (t.client d).read k ≡ has_first (read_in b d) k
  come-part d k c =
      rw (read-part d c) (by-test (is_write_mode (at b scalars (mode_at d)))
      (λ w. let none = write-stage (at b scalars (mode_at d)) w in
      rw w (no-first no_read k refl ∙ sym (come-none b d k none)))
      (λ w. rw w refl))

  first_word : (d k : ℕ) → IsClient z d → has_first (read_in b d) k ≡ true
      → ((t.client d).read.firsts k).stamp ≡ at b firsts (entry_words * (most_items * (d - 1) + k))
  first_word d k c h =
      rw (read-part d c) (by-test (is_write_mode (at b scalars (mode_at d)))
      (λ w. let none = write-stage (at b scalars (mode_at d)) w in
      not-both h (come-none b d k none))
      (λ w. rw w (ap (λ (e : Entry). e.stamp) (reply-come _ _ _ _ _ (first_in b d) k h)
      ∙ ap (λ (p : ℕ). get_or b p 0) (the-place d k c))))
    where
      the-place : (d k : ℕ) → IsClient z d → base firsts + first_at d k 0
          ≡ base firsts + entry_words * (most_items * (d - 1) + k)
      the-place d k c = omega arith

  first-at : (d k : ℕ) → IsClient z d → k < z.items → k < most_items
      → has_first (read_in b d) k ≡ true
      → first_stamp b (most_items * (d - 1) + k)
      ≡ at b firsts (entry_words * (most_items * (d - 1) + k))
  unfolding first_stamp
  first-at d k c l w h =
      let row : (most_items * (d - 1) + k) / most_items ≡ d - 1 = omega arith in
      let column : (most_items * (d - 1) + k) % most_items ≡ k = omega arith in
      let client : d - 1 + 1 ≡ d = omega arith in
      rw (
        row,
        column,
        client,
        lt-ltb (d - 1) z.clients (omega arith),
        lt-ltb k z.items l,
        h,
      ) refl

  -- of a client that isn't in a fast read none has come
  pub none-come : none_fast b ≡ true → (d k : ℕ) → IsClient z d → has_first (read_in b d) k ≡ false
  unfolding none_fast
  none-come e d k c =
      let client : d - 1 + 1 ≡ d = omega arith in
      let few : d - 1 < z.clients = omega arith in
      come-none b d k (subst (λ (x : ℕ). stage_of (at b scalars (mode_at x)) ≡ 0) client
      (eqb-true _ 0 (every-at z.clients
      (λ i. eqb (stage_of (at b scalars (mode_at (i + 1)))) 0) e (d - 1) few)))

  -- how many are gathered
  pub count-least : first_stamps ≤ stamp_count b
  count-least = by_cond (λ n. first_stamps ≤ n) (none_fast b) first_stamps most_stamps
      (λ e. omega arith) (λ e. omega arith)

  pub count_most : stamp_count b ≤ most_stamps
  count_most = by_cond (λ n. n ≤ most_stamps) (none_fast b) first_stamps most_stamps
      (λ e. omega arith) (λ e. omega arith)

-- ---- none of them is a stamp exactly when it is unused

module _ (b : List ℕ) (clients : at b header clients_at ≤ most_clients)
    (items : at b header items_at ≤ most_items) (messages : at b header messages_at ≤ most_messages)
    (s : ℕ) (some : s ≢ 0) where
  abbrev none : ℕ → Type 0
  none r = r ≢ s

  zero-not : (r : ℕ) → r ≡ 0 → none r
  zero-not r e same = some (sym same ∙ e)

  the-messages : (t b).messages ≡ table (at b header messages_at) (message_in b)
  unfolding tables_of
  the-messages =
      let few : min (at b header messages_at) most_messages ≡ at b header messages_at = omega arith in
      rw few refl

  in-messages : (i : ℕ) → i < at b header messages_at → In (message_in b i) (t b).messages
  in-messages i l =
      rw the-messages (in_table (at b header messages_at) (message_in b) i l)

  -- ---- from the tables

  module _ (c : Covers none (t b)) where
    entry-none : (p : ℕ) → p < message_stamps → none (entry_stamp b p)
    unfolding entry_stamp tables_of
    entry-none p l =
        let d = p / most_items in
        let k = p % most_items in
        by_cond none (leb d (z b).clients && ltb k (z b).items) _ 0
        (λ e.
        let low : d ≤ (z b).clients = leb-true d (z b).clients (and_left _ _ e) in
        let in_row : k < (z b).items =
        ltb-true k (z b).items (and_right (leb d (z b).clients) _ e) in
        let place : most_items * d + k ≡ p = omega arith in
        subst (λ (q : ℕ). none (at b latest (entry_words * q))) place
        (by-test (eqb d 0)
        (λ first. rw (eqb-true d 0 first) (rw (latest-stamp b k in_row) at (c.latest k in_row)))
        (λ other. let one : IsClient (z b) d = (omega (arith, eqb-false d 0 other), low) in
        rw (view-stamp b d k one in_row) at (c.view d k one in_row))))
        (λ e. zero-not 0 refl)

    message-not : (i : ℕ) → i < at b header messages_at → (r : ℕ)
        → mentions r (message_in b i) ≡ true → none r
    message-not i l r e = c.message (message_in b i) (in-messages i l) r e

    stamp-none : (i : ℕ) → i < most_messages → none (message_stamp b 1 4 i)
    unfolding mentions
    stamp-none i l =
        by-test (ltb i (at b header messages_at))
        (λ e. let h = ltb-true i (at b header messages_at) e in
        subst none (sym (message-stamp b i h))
        (message-not i h _ (or_left _ _ (eqb_same (parts_of (message_in b i)).stamp))))
        (λ e. zero-not _ (message-none b 1 4 i (ltb-false i (at b header messages_at) e)))

    latest-none : (i : ℕ) → i < most_messages → none (message_stamp b 5 6 i)
    unfolding mentions
    latest-none i l =
        by-test (ltb i (at b header messages_at))
        (λ e. let h = ltb-true i (at b header messages_at) e in
        subst none (sym (message-latest b i h))
        (message-not i h _ (or_right (eqb (parts_of (message_in b i)).stamp
        (parts_of (message_in b i)).latest.stamp) _
        (eqb_same (parts_of (message_in b i)).latest.stamp))))
        (λ e. zero-not _ (message-none b 5 6 i (ltb-false i (at b header messages_at) e)))

    write-not : (i : ℕ) → i < most_clients → none (write_stamp b i)
    unfolding tables_of
    write-not i l =
        by-test (ltb i (z b).clients)
        (λ e. let h : i < (z b).clients = ltb-true i (z b).clients e in
        subst none (sym (write-stamp b i h))
        (by_cond none (is_writing ((t b).client (i + 1))) _ 0
        (λ w. c.write (i + 1) (omega arith, omega arith) (λ empty. not-both w (rw empty refl)))
        (λ w. zero-not 0 refl)))
        (λ e. zero-not _ (write-none b i (ltb-false i (z b).clients e)))

    first-not : (p : ℕ) → p < most_items * most_clients → none (first_stamp b p)
    unfolding first_stamp tables_of
    first-not p l =
        let d = p / most_items + 1 in
        let k = p % most_items in
        by_cond none (ltb (p / most_items) (z b).clients && ltb k (z b).items
        && has_first (read_in b d) k) _ 0
        (λ e.
        let f = simp tells at e in
        let one : IsClient (z b) d = (omega arith, omega (arith, f.0.0)) in
        let place : most_items * (d - 1) + k ≡ p = omega arith in
        subst (λ (q : ℕ). none (at b firsts (entry_words * q))) place
        (subst none (first_word b d k one f.1)
        (c.first d k one f.0.1 (come-part b d k one ∙ f.1))))
        (λ e. zero-not 0 refl)

    stamps-none : (p : ℕ) → p < most_stamps → none (stamp_in b p)
    stamps-none = each-stamp b none entry-none stamp-none latest-none write-not first-not

  -- ---- and back

  module _ (All-none : (p : ℕ) → p < stamp_count b → none (stamp_in b p)) where
    n : (p : ℕ) → p < first_stamps → none (stamp_in b p)
    n p l = All-none p (omega (arith, count-least b))

    entry-covered : (d k : ℕ) → d ≤ (z b).clients → k < (z b).items
        → none (at b latest (entry_words * (most_items * d + k)))
    entry-covered d k l h =
        let p = most_items * d + k in
        let few : p < message_stamps = omega arith in
        subst none (stamp-entry b p few ∙ entry_at b d k l h (omega arith)) (n p (omega arith))

    message-covered : (i : ℕ) → i < at b header messages_at → (r : ℕ)
        → mentions r (message_in b i) ≡ true → none r
    unfolding mentions
    message-covered i l r e =
        ⊎_elim
        (λ own. subst none (stamp-message b _ i refl (omega arith) ∙ message-stamp b i l
        ∙ eqb-true _ r own) (n (message_stamps + i) (omega arith)))
        (λ its. subst none (stamp-latest b _ i refl (omega arith) ∙ message-latest b i l
        ∙ eqb-true _ r its) (n (latest_stamps + i) (omega arith)))
        (or_cases _ _ e)

    write-covered : (i : ℕ) → i < (z b).clients → ((t b).client (i + 1)).write.set ≢ 0
        → none ((t b).client (i + 1)).write.stamp
    write-covered i l w =
        subst none (stamp-write b _ i refl (omega arith) ∙ write-stamp b i l
        ∙ rw (ne-set w) refl) (n (write_stamps + i) (omega arith))
      where
        ne-set : ((t b).client (i + 1)).write.set ≢ 0
            → is_writing ((t b).client (i + 1)) ≡ true
        ne-set w = by-test (eqb ((t b).client (i + 1)).write.set 0)
            (λ e. absurd (w (eqb-true _ 0 e))) (λ e. rw e refl)

    first-covered : (d k : ℕ) → IsClient (z b) d → k < (z b).items
        → has_first ((t b).client d).read k ≡ true → none (((t b).client d).read.firsts k).stamp
    first-covered d k c l h =
        let come : has_first (read_in b d) k ≡ true = sym (come-part b d k c) ∙ h in
        by-test (none_fast b)
        (λ e. not-both come (none-come b e d k c))
        (λ e. let p = most_items * (d - 1) + k in
        let most : stamp_count b ≡ most_stamps = rw e refl in
        subst none
        (stamp-first b _ p refl ∙ first-at b d k c l (omega arith) come
        ∙ sym (first_word b d k c come))
        (All-none (first_stamps + p) (omega (arith, most))))

    covers : Covers none (t b)
    unfolding tables_of
    covers =
        record {
          view = λ d k c l. subst none (sym (view-stamp b d k c l)) (entry-covered d k c.1 l);
          latest = λ k l. subst none (sym (latest-stamp b k l)) (entry-covered 0 k (omega arith) l);
          message = λ m i r e.
              each-table (λ m. mentions r m ≡ true → none r) (at b header messages_at) (message_in b)
              (λ i l. message-covered i l r) m (rw the-messages at i) e;
          write = λ d c w. subst (λ (e : ℕ). ((t b).client e).write.set ≢ 0
              → none ((t b).client e).write.stamp)
              (the-client d c) (write-covered (d - 1) (omega arith)) w;
          first = first-covered;
        }
      where
        the-client : (d : ℕ) → IsClient (z b) d → d - 1 + 1 ≡ d
        the-client d c = omega arith

  tells-absent : (absent (stamps_in b) s ≡ true) ↔ ((p : ℕ) → p < stamp_count b → none (stamp_in b p))
  tells-absent = (
    λ e. simp tells at (sym (all-table (λ r. not (eqb r s)) (stamp_count b) (stamp_in b)) ∙ e),
    λ n. all-table (λ r. not (eqb r s)) (stamp_count b) (stamp_in b) ∙ simp tells n,
  )

  pub absent-unused : absent (stamps_in b) s ≡ unused (tables_of b) s
  absent-unused =
      test-ext _ _ (λ e. (tells-unused (t b) s).1 (covers (tells-absent.0 e)))
      (λ e. tells-absent.1 (λ p l. stamps-none ((tells-unused (t b) s).0 e) p
      (omega (arith, count_most b))))
