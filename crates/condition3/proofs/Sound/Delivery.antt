-- Each awaited item keeps its one message when a message is taken out and its reply joins, or when
-- a reply is taken out and its item struck.
use mathlib.Core.Bool.{Bool, true, false, cond, ◌&&◌, and-false}
use mathlib.Core.List.{List, ◌++◌}
use mathlib.Core.Logic.{◌⊎◌, ⊎_elim}
use mathlib.Core.Path.{◌≡◌, refl, sym, ◌∙◌, subst}
use Prim.Native.Nat.{ℕ, ◌+◌, ◌≤◌, ◌<◌}
use native.Mathlib.Omega.{arith}
use lib.Dec.{eqb}
use lib.ListN.{length}
use borrow.Author.Tests.{eqb-true, eqb-false, ne_eqb}
use Rattle.basics.proofs.Cases.{by-test, not-both, eqb_same}
use Rattle.basics.specs.Lists.{In, counted, without}
use Rattle.basics.proofs.Lists.{in-get_or, counted-in, counted_none, counted-append, counted-without}
use Rattle.itemset.specs.Set.{has, remove}
use Rattle.itemset.proofs.Laws.{has-remove-same, has-remove-other}
use Rattle.protocol.specs.declared.Message.{Message}
use Rattle.protocol.specs.declared.Message.TheVariants.{Commit}
use Rattle.protocol.specs.Tables.{Tables, Client, Side, awaited_of, put}
use Rattle.protocol.specs.Message.{owner_of, item_of}
use Rattle.protocol.specs.Range.{Capacities}
use Rattle.protocol.specs.Steps.{is_last, message_at}
use Rattle.protocol.proofs.Ranges.Values.{IsClient}
use Rattle.protocol.proofs.Refusals.{Idle, idle-awaits}
use Rattle.condition3.proofs.Sound.{Ledger, SoundBy}
use Rattle.condition3.proofs.Sound.Carry.{owner-client}
use Rattle.condition3.proofs.Common.{is_for, has_item, of_side, side-of, left_of, Like}
use Rattle.condition3.proofs.Common.{like-self, struck-last}

-- m stands at place i
pub record Taken (t : Tables) (i : ℕ) (m : Message) : Type 0 where
  pub is_in : In m t.messages
  pub split : (p : Message → Bool)
      → cond (p m) 1 0 + counted p (without i t.messages) ≡ counted p t.messages

pub taken : (t : Tables) (i : ℕ) → i < length t.messages → Taken t i (message_at t i)
taken t i l =
    record {
      is_in = in-get_or t.messages i (Commit 0 0) l;
      split = λ p. counted-without p i t.messages (Commit 0 0) l;
    }

module _ (caps : Capacities) (L : Ledger) (t : Tables) (sound : SoundBy caps L t) where
  -- a message for an item is awaited
  pub awaited-in : (m : Message) → In m t.messages → (σ : Side) (d k : ℕ) → IsClient t.sizes d
      → is_for σ d k m ≡ true → has (awaited_of σ (t.client d)) k ≡ true
  awaited-in m i σ d k c e =
      let some : 1 ≤ counted (is_for σ d k) t.messages =
      counted-in (is_for σ d k) t.messages m i e in
      by-test (has (awaited_of σ (t.client d)) k) (λ h. h)
      (λ f. let none : counted (is_for σ d k) t.messages ≡ 0 = sound.one σ d k c ∙ rw f refl in
      absurd (omega arith))

  -- an idle client has no message in flight but commits
  pub no-message : (m : Message) → In m t.messages → has_item m ≡ true
      → Idle (t.client (owner_of m))
      → ⊥
  no-message m i e idle =
      let side = side-of m e in
      not-both
      (awaited-in m i side.0 (owner_of m) (item_of m) (owner-client caps L t sound m i)
      (rw (side.1, eqb_same (owner_of m)) (eqb_same (item_of m))))
      (idle-awaits (t.client (owner_of m)) idle side.0 (item_of m))

  module _ (i : ℕ) (m : Message) (taken : Taken t i m) where
    pub none_left : (σ : Side) (d k : ℕ) → IsClient t.sizes d → is_for σ d k m ≡ true
        → counted (is_for σ d k) (without i t.messages) ≡ 0
    none_left σ d k c e =
        let one : counted (is_for σ d k) t.messages ≡ 1 =
        sound.one σ d k c ∙ rw (awaited-in m taken.is_in σ d k c e) refl in
        let s : 1 + counted (is_for σ d k) (without i t.messages) ≡ counted (is_for σ d k)
        t.messages = rw e at (taken.split (is_for σ d k)) in
        omega arith

    pub not-again : (σ : Side) (d k : ℕ) → IsClient t.sizes d → is_for σ d k m ≡ true
        → (x : Message) → In x (without i t.messages) → is_for σ d k x ≡ false
    not-again σ d k c e x h = counted_none (is_for σ d k) (without i t.messages)
        (none_left σ d k c e) x h

    -- the reply for item k of side σ of client d
    module _ (σ : Side) (d k : ℕ) (owner : owner_of m ≡ d) (item : item_of m ≡ k)
        (mine : (τ : Side) → ((of_side τ m ≡ true) × (left_of σ (t.client d) k τ ≡ remove
        (awaited_of τ (t.client d)) k))
        ⊎ ((of_side τ m ≡ false) × (left_of σ (t.client d) k τ ≡ awaited_of τ (t.client d)))) where
      abbrev c : Client
      c = t.client d

      is-client : IsClient t.sizes d
      is-client = subst (λ (e : ℕ). IsClient t.sizes e) owner
          (owner-client caps L t sound m taken.is_in)

      is-for : (τ : Side) (b : Bool) → of_side τ m ≡ b → (e j : ℕ)
          → is_for τ e j m ≡ (b && (eqb d e && eqb k j))
      is-for τ b h e j = rw (h, owner, item) refl

      for-this : (τ : Side) → of_side τ m ≡ true → is_for τ d k m ≡ true
      for-this τ h = is-for τ true h d k ∙ rw (eqb_same d) (eqb_same k)

      others-counted : (τ : Side) (e j : ℕ) → IsClient t.sizes e → is_for τ e j m ≡ false
          → counted (is_for τ e j) (without i t.messages) ≡ cond
          (has (awaited_of τ (t.client e)) j) 1 0
      others-counted τ e j h f =
          let s : 0 + counted (is_for τ e j) (without i t.messages) ≡ counted (is_for τ e j)
          t.messages = rw f at (taken.split (is_for τ e j)) in
          omega arith ∙ sound.one τ e j h

      -- of client d: the side of the message, or the other
      one-here : (τ : Side) (j : ℕ)
          → counted (is_for τ d j) (without i t.messages) ≡ cond (has (left_of σ c k τ) j) 1 0
      one-here τ j =
          ⊎_elim
          (λ p. by-test (eqb k j)
          (λ u. subst (λ (x : ℕ). counted (is_for τ d x) (without i t.messages) ≡ cond
          (has (left_of σ c k τ) x) 1 0) (eqb-true k j u)
          (none_left τ d k is-client (for-this τ p.0)
          ∙ rw (p.1, has-remove-same (awaited_of τ c) k) refl))
          (λ u. others-counted τ d j is-client (is-for τ true p.0 d j ∙ rw (eqb_same d) u)
          ∙ rw (p.1, has-remove-other (awaited_of τ c) k j (λ e. eqb-false k j u (sym e))) refl))
          (λ p. others-counted τ d j is-client (is-for τ false p.0 d j) ∙ rw p.1 refl)
          (mine τ)

      -- a message of this client that stays is for an item still awaited, so this was not the last
      pub not_last : (x : Message) → In x (without i t.messages) → has_item x ≡ true
          → owner_of x ≡ d → is_last σ c k ≡ false
      not_last x p e o =
          let j : ℕ = item_of x in
          let side = side-of x e in
          let τ : Side = side.0 in
          let for-x : is_for τ d j x ≡ true = rw (side.1, o, eqb_same d) (eqb_same j) in
          by-test (is_last σ c k)
          (λ u.
          let some : 1 ≤ counted (is_for τ d j) (without i t.messages) =
          counted-in (is_for τ d j) (without i t.messages) x p for-x in
          let none : counted (is_for τ d j) (without i t.messages) ≡ 0 =
          one-here τ j ∙ rw (struck-last σ c k u τ j) refl in
          absurd (omega arith))
          (λ f. f)

      pub likes : (c' : Client) → (is_last σ c k ≡ false → Like c c') → (x : Message)
          → In x (without i t.messages) → has_item x ≡ true
          → Like (t.client (owner_of x)) (put t.client d c' (owner_of x))
      likes c' like x p e =
          by-test (eqb (owner_of x) d)
          (λ u. rw u
          (subst (λ (f : ℕ). Like (t.client f) c') (sym (eqb-true (owner_of x) d u))
          (like (not_last x p e (eqb-true (owner_of x) d u)))))
          (λ f. rw f (like-self (t.client (owner_of x))))

      -- whose record becomes c', with k struck
      module _ (c' : Client) (struck : (τ : Side) (j : ℕ) → has (awaited_of τ c') j ≡ has
          (left_of σ c k τ) j) where
        pub one-struck : (τ : Side) (e j : ℕ) → IsClient t.sizes e
            → counted (is_for τ e j) (without i t.messages) ≡ cond
            (has (awaited_of τ (put t.client d c' e)) j) 1 0
        one-struck τ e j h =
            by-test (eqb e d)
            (λ u. rw u
            (subst (λ (f : ℕ). counted (is_for τ f j) (without i t.messages) ≡ cond
            (has (awaited_of τ c') j) 1 0) (sym (eqb-true e d u))
            (one-here τ j ∙ rw (struck τ j) refl)))
            (λ f. rw f (others-counted τ e j h (other τ e j (λ x. eqb-false e d f (sym x)))))
          where
            other : (τ : Side) (e j : ℕ) → (d ≡ e → ⊥) → is_for τ e j m ≡ false
            other τ e j n = is-for τ (of_side τ m) refl e j
                ∙ rw (ne_eqb d e n) (and-false (of_side τ m))

        pub one-after : (js : List Message) → ((τ : Side) (e j : ℕ) → counted (is_for τ e j) js ≡ 0)
            → (τ : Side) (e j : ℕ) → IsClient t.sizes e
            → counted (is_for τ e j) (without i t.messages ++ js) ≡ cond
            (has (awaited_of τ (put t.client d c' e)) j) 1 0
        one-after js none τ e j h =
            counted-append (is_for τ e j) (without i t.messages) js ∙ omega (arith, none τ e j)
            ∙ one-struck τ e j h
