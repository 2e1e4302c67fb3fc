-- While a read is under way each item it awaits has exactly one message in flight, its get or its
-- got.
use mathlib.Core.Bool.{true, ◌||◌, and-false}
use mathlib.Core.Path.{◌≡◌, refl, sym, ap, ◌∙◌}
use Prim.Native.Nat.{ℕ}
use lib.Dec.{eqb}
use Rattle.basics.proofs.Cases.{by-test}
use Rattle.basics.specs.Lists.{In, counted}
use Rattle.basics.proofs.Lists.{counted-map, counted-ext}
use Rattle.itemset.specs.Set.{has}
use Rattle.protocol.specs.declared.Message.{Message}
use Rattle.protocol.specs.Tables.{of_read}
use Rattle.protocol.specs.declared.Message.TheVariants.{Prepare, Prepared, Commit, Get, Got}
use Rattle.protocol.specs.declared.Message.TheVariants.{FirstGet, FirstReply}
use Rattle.protocol.specs.Message.{is_any_get, is_any_got, names_client, owner_of}
use Rattle.protocol.specs.Range.{Capacities}
use Rattle.condition3.specs.World.{World, Label, Labelled, is_read_message}
use Rattle.protocol.proofs.Ranges.Values.{IsClient}
use Rattle.condition3.proofs.Link.{Inv}
use Rattle.condition3.proofs.Common.{is_for}

-- a message that names its client is a get or a got, of either kind
asks-or-answers : (m : Message) → names_client m ≡ (is_any_get m || is_any_got m)
asks-or-answers (Prepare v) = refl
asks-or-answers (Prepared k stamp) = refl
asks-or-answers (Commit p stamp) = refl
asks-or-answers (Get d k stamp) = refl
asks-or-answers (Got d v e) = refl
asks-or-answers (FirstGet d k) = refl
asks-or-answers (FirstReply d v e) = refl

module _ (caps : Capacities) (v : World) (inv : Inv caps v) (d : ℕ)
    (is-client : IsClient v.tables.sizes d) where
  -- a message is for an item of the read part exactly where it is a get or a got of it
  for-read : (k : ℕ) (l : Label) (m : Message)
      → In (record { label = l; message = m }) v.in_flight
      → is_for of_read d k m ≡ is_read_message d k (record { label = l; message = m })
  for-read k l m here =
      rw (inv.owners (record { label = l; message = m }) here)
      (by-test (eqb (owner_of m) d) (λ t. rw (t, asks-or-answers m) refl)
      (λ t. rw (t, and-false (names_client m)) refl))

  pub one-message : (k : ℕ) → has (v.tables.client d).read.awaited k ≡ true
      → counted (is_read_message d k) v.in_flight ≡ 1
  one-message k e =
      sym (counted-ext (λ l. is_for of_read d k l.message) (is_read_message d k) v.in_flight
      (λ l i. for-read k l.label l.message i))
      ∙ sym (counted-map (λ (l : Labelled). l.message) (is_for of_read d k) v.in_flight)
      ∙ ap (counted (is_for of_read d k)) inv.in_flight ∙ inv.sound.one of_read d k is-client
      ∙ rw e refl
