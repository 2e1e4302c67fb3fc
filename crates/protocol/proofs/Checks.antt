-- What the check of a block tells (document 02, P9), as one record of plain facts, both ways; and
-- who holds a copy of a stamp's set.
use mathlib.Core.Bool.{Bool, true, false, not, cond, ◌||◌}
use mathlib.Core.List.{List, [], ◌∷◌, map}
use mathlib.Core.Logic.{◌⊎◌, ◌↔◌, inl, inr, ⊎_elim}
use mathlib.Core.Path.{◌≡◌, refl, sym, ap, ◌∙◌, subst}
use Prim.Native.Nat.{ℕ, zero, suc, ◌^◌, ◌≤◌, ◌<◌}
use native.Mathlib.Omega.{arith}
use lib.Dec.{eqb}
use lib.Pow.{pow_pos}
use borrow.Author.Tests.{eqb-true, eqb-false}
use Rattle.basics.proofs.Cases.{by-test, not-both, and_left, and_right, not-true, eqb_same}
use Rattle.basics.proofs.Cases.{or_cases}
use Rattle.basics.specs.Lists.{In, all, counted}
use Rattle.basics.proofs.Lists.{in_left, in_right, in_map, map-in}
use Rattle.itemset.specs.Set.{has}
use Rattle.protocol.specs.declared.Version.{Version}
use Rattle.protocol.specs.declared.Entry.{Entry}
use Rattle.protocol.specs.declared.Message.{Message}
use Rattle.protocol.specs.Tables.{Tables, Client, of_read, of_write, awaited_of, stamp_of}
use Rattle.protocol.specs.Tables.{shows_write, entry_of}
use Rattle.protocol.specs.Message.{parts_of, is_prepare, is_prepared, is_commit, is_get, is_any_got}
use Rattle.protocol.specs.Message.{item_of, owner_of, is_for}
use Rattle.protocol.specs.Range.{each, is_writing, has_first}
use Rattle.protocol.specs.Steps.{alike, stored, found}
use Rattle.protocol.specs.Check.{entry_in, every_entry, written_by, client_sets, clients_sets}
use Rattle.protocol.specs.Check.{sets_held, first_set, write_set, is_whole, whole_or_initial}
use Rattle.protocol.specs.Check.{all_whole, writes, lines_written, agrees, sets_agree, distinct}
use Rattle.protocol.specs.Check.{stored_value, answered_again, values_held, is_counted}
use Rattle.protocol.specs.Check.{all_counted, writes_stamped, writes_stored, fits_client}
use Rattle.protocol.specs.Check.{messages_fit, sound}
use Rattle.protocol.proofs.Tells.{tells-and, tells-every, tells_all}
use Rattle.protocol.proofs.Each.{Each, each_append, each-one}
use Rattle.protocol.proofs.Stored.{in-stored}
use Rattle.protocol.proofs.Ranges.Values.{IsClient}
use Rattle.protocol.proofs.Ranges.Clients.{tells-shown}
use Rattle.protocol.proofs.Ranges.Tables.{is-client, each-client}

-- the tests that join others; what they join stays a test
ruleset joins = (tells-and, tells-shown, tells-every, tells_all)

-- ---- the places that hold an entry

pub record EveryEntry (t : Tables) (P : ℕ → Entry → Type 0) : Type 0 where
  pub view : (d k : ℕ) → IsClient t.sizes d → k < t.sizes.items → P k (t.view d k)
  pub latest : (k : ℕ) → k < t.sizes.items → P k (t.latest k)
  pub first : (d k : ℕ) → IsClient t.sizes d → k < t.sizes.items
      → has_first (t.client d).read k ≡ true → P k ((t.client d).read.firsts k)
  pub got : (m : Message) → In m t.messages → is_any_got m ≡ true
      → P (item_of m) (entry_in m) × P (item_of m) (parts_of m).latest

pub tells-entries : (t : Tables) (p : ℕ → Entry → Bool)
    → (every_entry t p ≡ true) ↔ EveryEntry t (λ k e. p k e ≡ true)
unfolding every_entry
tells-entries t p = (
  λ h.
      let z = t.sizes in
      let f = simp joins at h in
      record {
        view = λ d k i l. each-client z (λ c. (j : ℕ) → j < z.items → p j (t.view c j) ≡ true)
            f.0.0.0 d i k l;
        latest = f.0.0.1;
        first = λ d k i l. each-client z (λ c. (j : ℕ) → j < z.items
            → has_first (t.client c).read j ≡ true → p j ((t.client c).read.firsts j) ≡ true)
            f.0.1 d i k l;
        got = f.1;
      },
  λ r.
      let z = t.sizes in
      simp joins (
        (
          (λ i l k h. r.view (suc i) k (is-client z i l) h, r.latest),
          λ i l k h. r.first (suc i) k (is-client z i l) h,
        ),
        r.got,
      ),
)

-- ---- the nine rules

pub record Checks (t : Tables) : Type 0 where
  -- 1
  pub whole : EveryEntry t (λ k e. whole_or_initial t e.stamp ≡ true)
  pub whole_sent : (m : Message) → In m t.messages → (is_commit m || is_get m) ≡ true
      → whole_or_initial t (parts_of m).stamp ≡ true
  -- 2
  pub written : EveryEntry t (λ k e. writes t k e.stamp ≡ true)
  pub written_sent : (m : Message) → In m t.messages → is_get m ≡ true
      → writes t (item_of m) (parts_of m).stamp ≡ true
  -- 3
  pub agree : EveryEntry t (λ k e. agrees t e ≡ true)
  pub agree_held : (e : Entry) → In e (sets_held t) → agrees t e ≡ true
  pub agree_sent : (m : Message) → In m t.messages → is_prepare m ≡ true
      → agrees t (entry_in m) ≡ true
  -- 4
  pub distinct : distinct t.versions ≡ true
  -- 5
  pub got_values : (m : Message) → In m t.messages → is_any_got m ≡ true
      → eqb (parts_of m).value (stored_value t (item_of m) (parts_of m).stamp) ≡ true
  pub first_values : (d k : ℕ) → IsClient t.sizes d → k < t.sizes.items
      → has_first (t.client d).read k ≡ true
      → (answered_again (t.client d).read k || eqb ((t.client d).read.values k)
      (stored_value t k ((t.client d).read.firsts k).stamp)) ≡ true
  -- 6
  pub numbers : EveryEntry t (λ k e. is_counted t e.stamp ≡ true)
  pub numbers_held : (e : Entry) → In e (sets_held t) → is_counted t e.stamp ≡ true
  pub numbers_sent : (m : Message) → In m t.messages → is_counted t (parts_of m).stamp ≡ true
  -- 7
  pub stamped : (d : ℕ) → IsClient t.sizes d → is_writing (t.client d) ≡ true
      → eqb (t.client d).write.stamp (stamp_of (t.client d).count d) ≡ true
  -- 8
  pub arrived : (d k : ℕ) → IsClient t.sizes d → k < t.sizes.items
      → has (t.client d).write.set k ≡ true
      → ((has (t.client d).write.awaited k
      || stored t.versions k (t.client d).write.stamp) ≡ true)
      × (stored t.versions k (t.client d).write.stamp ≡ true
      → eqb (stored_value t k (t.client d).write.stamp) ((t.client d).write.values k) ≡ true)
  pub replied : (m : Message) → In m t.messages → is_prepared m ≡ true
      → stored t.versions (item_of m) (parts_of m).stamp ≡ true
  -- 9
  pub one : (d : ℕ) → IsClient t.sizes d
      → ((k : ℕ) → k < t.sizes.items → eqb (counted (is_for of_read d k) t.messages)
      (cond (has (awaited_of of_read (t.client d)) k) 1 0) ≡ true)
      × ((k : ℕ) → k < t.sizes.items → eqb (counted (is_for of_write d k) t.messages)
      (cond (has (awaited_of of_write (t.client d)) k) 1 0) ≡ true)
  pub fits : (m : Message) → In m t.messages
      → fits_client t (t.client (owner_of m)) m ≡ true

pub tells-checks : (t : Tables) → (sound t ≡ true) ↔ Checks t
unfolding sound all_whole lines_written sets_agree values_held all_counted writes_stamped writes_stored
    messages_fit
tells-checks t = (
  λ h.
      let z = t.sizes in
      let f = simp (joins, tells-entries) at h in
      record {
        whole = f.0.0.0.0.0.0.0.0.0;
        whole_sent = f.0.0.0.0.0.0.0.0.1;
        written = f.0.0.0.0.0.0.0.1.0;
        written_sent = f.0.0.0.0.0.0.0.1.1;
        agree = f.0.0.0.0.0.0.1.0.0;
        agree_held = f.0.0.0.0.0.0.1.0.1;
        agree_sent = f.0.0.0.0.0.0.1.1;
        distinct = f.0.0.0.0.0.1;
        got_values = f.0.0.0.0.1.0;
        first_values = λ d k i l. each-client z (λ c. (j : ℕ) → j < z.items
            → has_first (t.client c).read j ≡ true
            → (answered_again (t.client c).read j || eqb ((t.client c).read.values j)
            (stored_value t j ((t.client c).read.firsts j).stamp)) ≡ true)
            f.0.0.0.0.1.1 d i k l;
        numbers = f.0.0.0.1.0.0;
        numbers_held = f.0.0.0.1.0.1;
        numbers_sent = f.0.0.0.1.1;
        stamped = each-client z (λ d. is_writing (t.client d) ≡ true
            → eqb (t.client d).write.stamp (stamp_of (t.client d).count d) ≡ true)
            f.0.0.1;
        arrived = λ d k i l. each-client z (λ c. (j : ℕ) → j < z.items
            → has (t.client c).write.set j ≡ true
            → ((has (t.client c).write.awaited j
            || stored t.versions j (t.client c).write.stamp) ≡ true)
            × (stored t.versions j (t.client c).write.stamp ≡ true
            → eqb (stored_value t j (t.client c).write.stamp) ((t.client c).write.values j)
            ≡ true)) f.0.1.0 d i k l;
        replied = f.0.1.1;
        one = each-client z (λ d. ((k : ℕ) → k < z.items
            → eqb (counted (is_for of_read d k) t.messages)
            (cond (has (awaited_of of_read (t.client d)) k) 1 0) ≡ true)
            × ((k : ℕ) → k < z.items → eqb (counted (is_for of_write d k) t.messages)
            (cond (has (awaited_of of_write (t.client d)) k) 1 0) ≡ true)) f.1.0;
        fits = f.1.1;
      },
  λ r.
      let z = t.sizes in
      simp (joins, tells-entries) (
        (
          (
            (
              (
                (
                  (
                    ((r.whole, r.whole_sent), (r.written, r.written_sent)),
                    ((r.agree, r.agree_held), r.agree_sent),
                  ),
                  r.distinct,
                ),
                (r.got_values, λ i l k h. r.first_values (suc i) k (is-client z i l) h),
              ),
              ((r.numbers, r.numbers_held), r.numbers_sent),
            ),
            λ i l. r.stamped (suc i) (is-client z i l),
          ),
          (λ i l k h. r.arrived (suc i) k (is-client z i l) h, r.replied),
        ),
        (λ i l. r.one (suc i) (is-client z i l), r.fits),
      ),
)

-- a list of versions of which not all have another stamp has one with it
found_some : (vs : List Version) (s : ℕ) → not (all (λ v. not (eqb v.stamp s)) vs) ≡ true
    → (v : Version) × In v vs × (v.stamp ≡ s)
unfolding all
found_some [] s e = not-both e refl
found_some (v ∷ vs) s e =
    by-test (eqb v.stamp s)
    (λ f. (v, inl refl, eqb-true v.stamp s f))
    (λ f. let (u, i, same) = found_some vs s (rw f at e) in (u, inr i, same))

-- ---- who holds a copy of a stamp's set

-- what holds of both a client's holds of its list
client-each : (P : Entry → Type 0) (c : Client)
    → (is_writing c ≡ true → P (written_by c.write))
    → (shows_write c.last.kind ≡ true → P (written_by c.last.write))
    → Each P (client_sets c)
unfolding client_sets
client-each P c w l =
    each_append P (cond (is_writing c) (written_by c.write ∷ []) [])
    (cond (shows_write c.last.kind) (written_by c.last.write ∷ []) [])
    (by-test (is_writing c) (λ e. rw e (each-one P (written_by c.write) (w e)))
    (λ e. rw e (λ x i. absurd i)))
    (by-test (shows_write c.last.kind)
    (λ e. rw e (each-one P (written_by c.last.write) (l e))) (λ e. rw e (λ x i. absurd i)))

clients-each : (P : Entry → Type 0) (n : ℕ) (client : ℕ → Client)
    → ((d : ℕ) → 1 ≤ d → d ≤ n → Each P (client_sets (client d))) → Each P (clients_sets n client)
unfolding clients_sets
clients-each P zero client h = λ x i. absurd i
clients-each P (suc n) client h =
    each_append P (clients_sets n client) (client_sets (client (suc n)))
    (clients-each P n client (λ d l m. h d l (omega arith)))
    (h (suc n) (omega arith) (omega arith))

-- stored versions, writes under way, last ended writes
pub held-each : (P : Entry → Type 0) (t : Tables)
    → ((v : Version) → In v t.versions → P (entry_of v))
    → ((d : ℕ) → IsClient t.sizes d → is_writing (t.client d) ≡ true
    → P (written_by (t.client d).write))
    → ((d : ℕ) → IsClient t.sizes d → shows_write (t.client d).last.kind ≡ true
    → P (written_by (t.client d).last.write))
    → Each P (sets_held t)
unfolding sets_held
held-each P t v w l =
    each_append P (map entry_of t.versions) (clients_sets t.sizes.clients t.client)
    (λ x i. let (u, j, e) = in_map entry_of x t.versions i in subst P (sym e) (v u j))
    (clients-each P t.sizes.clients t.client
    (λ d a b. client-each P (t.client d) (w d (a, b)) (l d (a, b))))

pub version-held : (t : Tables) (v : Version) → In v t.versions → In (entry_of v) (sets_held t)
unfolding sets_held
version-held t v i =
    in_left (entry_of v) (map entry_of t.versions) (clients_sets t.sizes.clients t.client)
    (map-in entry_of v t.versions i)

client-held : (n : ℕ) (client : ℕ → Client) (d : ℕ) → 1 ≤ d → d ≤ n → (e : Entry)
    → In e (client_sets (client d)) → In e (clients_sets n client)
unfolding clients_sets
client-held zero client d l m e i = absurd (omega arith)
client-held (suc n) client d l m e i =
    by-test (eqb d (suc n))
    (λ f. in_right e (clients_sets n client) (client_sets (client (suc n)))
    (subst (λ (x : ℕ). In e (client_sets (client x))) (eqb-true d (suc n) f) i))
    (λ f. in_left e (clients_sets n client) (client_sets (client (suc n)))
    (client-held n client d l (omega (arith, eqb-false d (suc n) f)) e i))

module _ (t : Tables) (d : ℕ) (i : IsClient t.sizes d) where
  held-here : (e : Entry) → In e (client_sets (t.client d)) → In e (sets_held t)
  unfolding sets_held
  held-here e j =
      in_right e (map entry_of t.versions) (clients_sets t.sizes.clients t.client)
      (client-held t.sizes.clients t.client d i.0 i.1 e j)

  pub write-held : is_writing (t.client d) ≡ true
      → In (written_by (t.client d).write) (sets_held t)
  unfolding client_sets
  write-held w =
      let c = t.client d in
      held-here (written_by c.write)
      (in_left (written_by c.write) (cond (is_writing c) (written_by c.write ∷ []) [])
      (cond (shows_write c.last.kind) (written_by c.last.write ∷ []) [])
      (rw w (inl refl)))

  pub last-held : shows_write (t.client d).last.kind ≡ true
      → In (written_by (t.client d).last.write) (sets_held t)
  unfolding client_sets
  last-held s =
      let c = t.client d in
      held-here (written_by c.last.write)
      (in_right (written_by c.last.write) (cond (is_writing c) (written_by c.write ∷ []) [])
      (cond (shows_write c.last.kind) (written_by c.last.write ∷ []) [])
      (rw s (inl refl)))

-- ---- every other copy of a set is of a stamp that has one there

-- of a whole stamp a version is stored
pub whole-version : (t : Tables) (s : ℕ) → is_whole t s ≡ true
    → (v : Version) × In v t.versions × (v.stamp ≡ s)
unfolding is_whole
whole-version t s e =
    found_some t.versions s
    (and_left (not (all (λ v. not (eqb v.stamp s)) t.versions))
    (each t.sizes (write_set t s) (λ k. stored t.versions k s)) e)

-- so the stamp of a view entry, a latest, a got or a first reply is initial or held
pub entries-held : (t : Tables) → Checks t
    → EveryEntry t (λ k e. (e.stamp ≡ 0) ⊎ ((h : Entry) × In h (sets_held t)
    × (h.stamp ≡ e.stamp)))
entries-held t c =
    record {
      view = λ d k i l. held (t.view d k).stamp (c.whole.view d k i l);
      latest = λ k l. held (t.latest k).stamp (c.whole.latest k l);
      first = λ d k i l e.
          held ((t.client d).read.firsts k).stamp (c.whole.first d k i l e);
      got = λ m i e. (
        held (parts_of m).stamp (c.whole.got m i e).0,
        held (parts_of m).latest.stamp (c.whole.got m i e).1,
      );
    }
  where
    held : (s : ℕ) → whole_or_initial t s ≡ true
        → (s ≡ 0) ⊎ ((h : Entry) × In h (sets_held t) × (h.stamp ≡ s))
    held s e =
        ⊎_elim (λ z. inl (eqb-true s 0 z))
        (λ w. let (v, i, same) = whole-version t s w in
        inr (entry_of v, version-held t v i, same))
        (or_cases (eqb s 0) (is_whole t s) e)

-- ---- a stamp's write set is the first copy's

-- where all copies agree with f, so does the first
pub first-agrees : (f : ℕ → ℕ) (es : List Entry) → Each (λ e. e.set ≡ f e.stamp) es
    → (e : Entry) → In e es → first_set es e.stamp ≡ f e.stamp
unfolding first_set
first-agrees f [] h e i = absurd i
first-agrees f (x ∷ xs) h e i =
    by-test (eqb x.stamp e.stamp)
    (λ u. rw u (h x (inl refl) ∙ ap f (eqb-true x.stamp e.stamp u)))
    (λ u. rw u (⊎_elim
    (λ p. not-both (rw p (eqb_same x.stamp)) u)
    (λ p. first-agrees f xs (λ y j. h y (inr j)) e p) i))

first_below : (es : List Entry) (n : ℕ) → Each (λ e. e.set < 2 ^ n) es → (s : ℕ)
    → first_set es s < 2 ^ n
unfolding first_set
first_below [] n h s = pow_pos n
first_below (e ∷ es) n h s =
    by-test (eqb e.stamp s) (λ f. rw f (h e (inl refl)))
    (λ f. rw f (first_below es n (λ x i. h x (inr i)) s))

pub write_set-below : (t : Tables) (n : ℕ) → Each (λ e. e.set < 2 ^ n) (sets_held t) → (s : ℕ)
    → write_set t s < 2 ^ n
unfolding write_set
write_set-below t n h s =
    by-test (eqb s 0) (λ e. rw e (pow_pos n)) (λ e. rw e (first_below (sets_held t) n h s))

-- ---- of versions none alike, each is the one that is found

pub found-itself : (vs : List Version) (v : Version) → distinct vs ≡ true → In v vs
    → found vs v.item v.stamp ≡ v
unfolding distinct found
found-itself [] v e i = absurd i
found-itself (u ∷ us) v e (inl same) =
    rw same (rw (eqb_same u.item) (rw (eqb_same u.stamp) refl))
found-itself (u ∷ us) v e (inr i) =
    by-test (alike v.item v.stamp u)
    (λ a.
    let item : u.item ≡ v.item =
    eqb-true u.item v.item
    (and_left (eqb u.item v.item) (eqb u.stamp v.stamp) a) in
    let stamp : u.stamp ≡ v.stamp =
    eqb-true u.stamp v.stamp
    (and_right (eqb u.item v.item) (eqb u.stamp v.stamp) a) in
    not-both (in-stored v us i)
    (subst (λ (x : ℕ). stored us x v.stamp ≡ false) item
    (subst (λ (x : ℕ). stored us u.item x ≡ false) stamp
    (not-true (stored us u.item u.stamp)
    (and_left (not (stored us u.item u.stamp)) (distinct us) e)))))
    (λ a. rw a (found-itself us v
    (and_right (not (stored us u.item u.stamp)) (distinct us) e) i))
