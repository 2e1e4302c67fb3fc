-- What a delivery does, sorted: what it changes beside the messages in flight, which messages join,
-- and its outcome. Said once for each kind; what holds of every delivery goes by the sorts.
use mathlib.Core.Bool.{Bool, true, false, cond, ◌&&◌, ◌||◌}
use mathlib.Core.List.{List, [], ◌∷◌, ◌++◌}
use mathlib.Core.Logic.{◌⊎◌, ◌≢◌, inl, inr, ⊎_elim}
use mathlib.Core.Path.{◌≡◌, refl, sym, ap, ◌∙◌, subst}
use Prim.Native.Nat.{ℕ, ◌+◌, ◌≤◌}
use native.Mathlib.Nat.{le_refl, le_trans}
use native.Mathlib.Omega.{arith}
use lib.Dec.{eqb}
use lib.ListN.{length, length-append}
use borrow.Author.Tests.{eqb-true, eqb-false}
use Rattle.basics.proofs.Cases.{by-test, not-both}
use Rattle.basics.specs.Lists.{In}
use Rattle.basics.proofs.Lists.{in-append}
use Rattle.itemset.specs.Set.{has}
use Rattle.protocol.specs.declared.Version.{Version}
use Rattle.protocol.specs.declared.Entry.{Entry}
use Rattle.protocol.specs.declared.Message.{Message}
use Rattle.protocol.specs.declared.Message.TheVariants.{Prepare, Prepared, Commit, Get, Got}
use Rattle.protocol.specs.declared.Message.TheVariants.{FirstGet, FirstReply}
use Rattle.protocol.specs.Tables.{Tables, Client, ReadPart, is_second_part, put, of_read}
use Rattle.protocol.specs.Tables.{of_write, writer_of, with_client, with_view, with_latest}
use Rattle.protocol.specs.Tables.{with_versions}
use Rattle.protocol.specs.Message.{parts_of, kind_of, is_prepare, is_prepared, is_any_get, is_any_got}
use Rattle.protocol.specs.Message.{is_first_get, is_first_reply, item_of, owner_of}
use Rattle.protocol.specs.FastRead.{first_kept, first_replied, second_gets}
use Rattle.protocol.specs.Steps.{is_last, prepared, got, got_first, offered, committed, commits}
use Rattle.protocol.specs.Steps.{Delivery, answer_of, delivery_of, delivered, joined, touches}
use Rattle.protocol.specs.Calls.{outcome_of, sought_by}
use Rattle.protocol.proofs.Behaviour.{offered-own, end_ge, committed-later}
use Rattle.protocol.proofs.Put.{by_cond, put_other, put-every}
use Rattle.protocol.proofs.Each.{Each, each_none, each-one, each-upto}
use Rattle.protocol.proofs.Commits.{no-commits}

-- a prepared reply, a got or a first reply
abbrev pub is_answer : Message → Bool
is_answer m = is_prepared m || is_any_got m

-- ---- the sorts

-- c' writes nothing, or has the sets and the stamp of c
abbrev pub KeepsParts : Client → Client → Type 0
KeepsParts c c' = (c'.write.set ≡ 0) ⊎ ((c'.read.set ≡ c.read.set)
    × (c'.write.set ≡ c.write.set) × (c'.write.stamp ≡ c.write.stamp))

-- what changes beside the messages: the sizes stay, counts rise, views and latest grow, only the
-- client of an answer changes, and only a prepare's version is stored
pub record Work (t : Tables) (m : Message) (u : Tables) : Type 0 where
  pub sizes : u.sizes ≡ t.sizes
  pub messages : u.messages ≡ t.messages
  pub rises : (d : ℕ) → (t.client d).count ≤ (u.client d).count
  pub view : (d k : ℕ) → (t.view d k).stamp ≤ (u.view d k).stamp
  pub latest : (k : ℕ) → (t.latest k).stamp ≤ (u.latest k).stamp
  pub client : (d : ℕ) → (is_answer m && eqb (owner_of m) d) ≡ false → u.client d ≡ t.client d
  pub parts : (d : ℕ) → KeepsParts (t.client d) (u.client d)
  pub versions : length u.versions ≡ length t.versions + cond (is_prepare m) 1 0
  pub stores : (v : Version) → In v u.versions → In v t.versions ⊎ (m ≡ Prepare v)

-- j replies to m: a prepared reply to a prepare, a got to a get, a first reply to a first get
pub record Reply (t : Tables) (m j : Message) : Type 0 where
  pub answer : is_answer j ≡ true
  pub owner : owner_of j ≡ owner_of m
  pub item : item_of j ≡ item_of m
  pub stamp : (parts_of j).stamp ≡ sought_by t m
  pub got : is_any_got j ≡ is_any_get m
  pub first : is_first_reply j ≡ is_first_get m

-- which messages join
pub data Joins (t : Tables) (m : Message) : List Message → Type 0 where
  none : Joins t m []
  reply : (j : Message) → Reply t m j → Joins t m (j ∷ [])
  -- where its client's transaction ends, the commits of the write part
  ends : (last : Bool) (stamp : ℕ)
      → (writer_of stamp ≡ owner_of m) ⊎ (stamp ≡ (t.client (owner_of m)).write.stamp)
      → Joins t m (cond last (commits t (t.client (owner_of m)).write.set stamp) [])
  -- where a fast read's second part begins, its gets
  fetches : (n : ℕ) (p : ReadPart) → is_first_reply m ≡ true
      → Joins t m (second_gets n (owner_of m) p)

-- only an answer ends a transaction
pub record DeliverySort (t : Tables) (m : Message) (x : Delivery) : Type 0 where
  pub work : Work t m x.tables
  pub joins : Joins t m x.joins
  pub outcome : (x.outcome ≡ 0) ⊎ ((is_answer m ≡ true) × (x.outcome ≤ 2))

-- ---- the work of a request or commit, and of an answer

-- an answer is no prepare
pub answer-kind : (m : Message) → is_answer m ≡ true → is_prepare m ≡ false
answer-kind m e = by-test (is_prepare m)
    (λ p. not-both e (rw (eqb-true (kind_of m) 1 p) refl)) (λ p. p)

pub put-rises : (client : ℕ → Client) (d : ℕ) (c' : Client) → (client d).count ≤ c'.count → (e : ℕ)
    → (client e).count ≤ (put client d c' e).count
put-rises client d c' h = put-every
    (λ (e : ℕ) (x : Client). (client e).count ≤ x.count) client d c' h
    (λ e n. le_refl (client e).count)

module _ (t : Tables) (m : Message) where
  -- no client changes
  stored-work : (vs : List Version) (f : ℕ → Entry)
      → ((k : ℕ) → (t.latest k).stamp ≤ (f k).stamp)
      → length vs ≡ length t.versions + cond (is_prepare m) 1 0
      → ((v : Version) → In v vs → In v t.versions ⊎ (m ≡ Prepare v))
      → Work t m (with_latest (with_versions t vs) f)
  stored-work vs f l n s =
      record {
        sizes = refl;
        messages = refl;
        rises = λ d. le_refl (t.client d).count;
        view = λ d k. le_refl (t.view d k).stamp;
        latest = l;
        client = λ d e. refl;
        parts = λ d. inr (refl, refl, refl);
        versions = n;
        stores = s;
      }

  -- one client changes, and its view
  answer-work : (c : Client) (view : ℕ → Entry) → is_answer m ≡ true
      → (t.client (owner_of m)).count ≤ c.count → KeepsParts (t.client (owner_of m)) c
      → ((k : ℕ) → (t.view (owner_of m) k).stamp ≤ (view k).stamp)
      → Work t m (with_view (with_client t (owner_of m) c) (owner_of m) view)
  answer-work c view a n p g =
      record {
        sizes = refl;
        messages = refl;
        rises = put-rises t.client (owner_of m) c n;
        view = put-every (λ (e : ℕ) (f : ℕ → Entry). (k : ℕ) → (t.view e k).stamp ≤ (f k).stamp)
            t.view (owner_of m) view g (λ e n k. le_refl (t.view e k).stamp);
        latest = λ k. le_refl (t.latest k).stamp;
        client = λ d e. put_other t.client (owner_of m) c d
            (λ q. eqb-false (owner_of m) d (rw a at e) (sym q));
        parts = put-every (λ (e : ℕ) (x : Client). KeepsParts (t.client e) x) t.client
            (owner_of m) c p (λ e n. inr (refl, refl, refl));
        versions = rw (answer-kind m a) (omega arith);
        stores = λ v i. inl i;
      }

-- ---- the sort of each delivery

-- the client and the outcome at the end of a transaction

end-count : (last : Bool) (n : ℕ) (c c' : Client) → c.count ≡ n → c'.count ≡ n
    → n ≤ (cond last c c').count
end-count true n c c' e e' = omega arith
end-count false n c c' e e' = omega arith

-- at the end it writes nothing, and before it its sets and stamp stay
end-parts : (last : Bool) (c c' o : Client) → c'.write.set ≡ 0 → KeepsParts o c
    → KeepsParts o (cond last c' c)
end-parts true c c' o e p = inl e
end-parts false c c' o e p = p

end-outcome : (last : Bool) (n : ℕ) → n ≤ 2 → cond last n 0 ≤ 2
end-outcome true n l = l
end-outcome false n l = omega arith

-- a first reply leaves the read part's set
replied-set : (n : ℕ) (p : ReadPart) (v : Version) → (first_replied n p v).set ≡ p.set
replied-set n p v = by_cond (λ (q : ReadPart). q.set ≡ p.set) (eqb (first_kept p v).awaited 0) _ _
    (λ e. refl) (λ e. refl)

-- the view with what a reply offers to it
grown-ge : (view : ℕ → Entry) (v : Version) (e : Entry) (j : ℕ)
    → (view j).stamp ≤ (put view v.item (offered (view v.item) v e) j).stamp
grown-ge view v e =
    put-every (λ (j : ℕ) (x : Entry). (view j).stamp ≤ x.stamp) view v.item
    (offered (view v.item) v e) (offered-own (view v.item) v e)
    (λ j n. le_refl (view j).stamp)

pub delivery-sort : (t : Tables) (m : Message) → DeliverySort t m (delivery_of t m)
delivery-sort t (Prepare v) =
    record {
      work = stored-work t (Prepare v) (t.versions ++ v ∷ []) t.latest
          (λ k. le_refl (t.latest k).stamp) (length-append t.versions (v ∷ []))
          (λ u i. ⊎_elim (λ p. inl p)
          (⊎_elim (λ e. inr (ap Prepare (sym e))) (λ z. absurd z))
          (in-append u t.versions (v ∷ []) i));
      joins = reply (Prepared v.item v.stamp) search;
      outcome = inl refl;
    }
delivery-sort t (Prepared k stamp) =
    let d = writer_of stamp in
    let c = t.client d in
    let last = is_last of_write c k in
    record {
      work = answer-work t (Prepared k stamp) (prepared c k) _ refl
          (end-count last c.count _ _ refl refl)
          (end-parts last _ _ c refl (inr (refl, refl, refl)))
          (end_ge last (t.view d) c.write.set stamp);
      joins = ends last stamp (inl refl);
      outcome = inr (refl, end-outcome last 2 (omega arith));
    }
delivery-sort t (Commit p stamp) =
    record {
      work = stored-work t (Commit p stamp) t.versions (committed t p stamp)
          (committed-later t p stamp) (omega arith) (λ v i. inl i);
      joins = none;
      outcome = inl refl;
    }
delivery-sort t (Get d k stamp) =
    record {
      work = stored-work t (Get d k stamp) t.versions t.latest
          (λ k. le_refl (t.latest k).stamp) (omega arith) (λ v i. inl i);
      joins = reply (Got d (answer_of t k stamp) (t.latest k)) search;
      outcome = inl refl;
    }
delivery-sort t (Got d v e) =
    let c = t.client d in
    let k = v.item in
    let last = is_last of_read c k in
    record {
      work = answer-work t (Got d v e) (got c k v.value) _ refl
          (end-count last c.count _ _ refl refl)
          (end-parts last _ _ c refl (inr (refl, refl, refl)))
          (λ j. le_trans (grown-ge (t.view d) v e j)
          (end_ge last _ c.write.set c.write.stamp j));
      joins = ends last c.write.stamp (inr refl);
      outcome = inr (
        refl,
        end-outcome last (cond (eqb c.write.set 0) 1 2)
            (by_cond (λ (n : ℕ). n ≤ 2) (eqb c.write.set 0) 1 2 (λ e. omega arith)
            (λ e. omega arith)),
      );
    }
delivery-sort t (FirstGet d k) =
    record {
      work = stored-work t (FirstGet d k) t.versions t.latest
          (λ k. le_refl (t.latest k).stamp) (omega arith) (λ v i. inl i);
      joins = reply (FirstReply d (answer_of t k (t.latest k).stamp) (t.latest k)) search;
      outcome = inl refl;
    }
delivery-sort t (FirstReply d v e) =
    let c = t.client d in
    let n = t.sizes.items in
    let p = first_replied n c.read v in
    let last = eqb p.awaited 0 in
    record {
      work = answer-work t (FirstReply d v e) (got_first n c v) _ refl
          (end-count last c.count _ _ refl refl)
          (end-parts last _ _ c refl (inr (replied-set n c.read v, refl, refl)))
          (grown-ge (t.view d) v e);
      joins = fetches n p refl;
      outcome = inr (refl, end-outcome last 1 (omega arith));
    }

-- ---- what holds of every delivery

pub delivered-work : (t : Tables) (m : Message) → Work t m (delivered t m)
unfolding delivered
delivered-work t m = (delivery-sort t m).work

pub outcome-none : (t : Tables) (m : Message) → is_answer m ≡ false → outcome_of t m ≡ 0
unfolding outcome_of
outcome-none t m f = ⊎_elim (λ e. e) (λ e. not-both e.0 f) (delivery-sort t m).outcome

pub outcome-most : (t : Tables) (m : Message) → outcome_of t m ≤ 2
unfolding outcome_of
outcome-most t m = ⊎_elim (λ e. omega arith) (λ e. e.1) (delivery-sort t m).outcome

-- what holds of each reply, of each commit of the client's write part and of each get of a second
-- part holds of what joins
pub joined-each : (P : Message → Type 0) (t : Tables) (m : Message)
    → ((j : Message) → Reply t m j → P j)
    → ((p stamp : ℕ) → (t.client (owner_of m)).write.set ≢ 0
    → (writer_of stamp ≡ owner_of m) ⊎ (stamp ≡ (t.client (owner_of m)).write.stamp)
    → P (Commit p stamp))
    → (is_first_reply m ≡ true → (k stamp : ℕ) → P (Get (owner_of m) k stamp))
    → Each P (joined t m)
unfolding joined
joined-each P t m r c g = go (delivery-sort t m).joins
  where
    go : {js : List Message} → Joins t m js → Each P js
    go none = each_none P
    go (reply j x) = each-one P j (r j x)
    go (ends last stamp o) =
        let s = (t.client (owner_of m)).write.set in
        by_cond (Each P) last _ _
        (λ l. by-test (eqb s 0)
        (λ e. subst (Each P) (sym (ap (λ (x : ℕ). commits t x stamp) (eqb-true s 0 e)
        ∙ no-commits t stamp)) (each_none P))
        (λ e. each-upto P (λ p. Commit p stamp) t.sizes.partitions
        (λ p. touches t s p t.sizes.items) (λ p l u. c p stamp (eqb-false s 0 e) o)))
        (λ l. each_none P)
    go (fetches n p first) =
        by_cond (Each P) (is_second_part p) _ _
        (λ e. each-upto P (λ k. Get (owner_of m) k (p.asked k)) n (has p.awaited)
        (λ k l h. g first k (p.asked k)))
        (λ e. each_none P)

-- none of them is a prepare
pub joined-prepare : (t : Tables) (m j : Message) → In j (joined t m) → is_prepare j ≡ false
joined-prepare t m =
    joined-each (λ j. is_prepare j ≡ false) t m (λ j r. answer-kind j r.answer)
    (λ p stamp s o. refl) (λ f k stamp. refl)
