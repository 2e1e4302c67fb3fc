-- A read, of either kind, occupies no version, a write, alone or mixed, one for each item of its
-- set, and a delivery none more: a delivered prepare leaves and its version stays.
use mathlib.Core.Bool.{Bool, true, false, cond}
use mathlib.Core.List.{List, [], ◌∷◌, map}
use mathlib.Core.Path.{◌≡◌, refl, ◌∙◌}
use Prim.Native.Nat.{ℕ, ◌+◌, ◌^◌, ◌<◌}
use native.Mathlib.Omega.{arith}
use lib.ListN.{length}
use Rattle.basics.specs.Lists.{counted, without}
use Rattle.basics.proofs.Lists.{counted-append, counted-without, none-counted}
use Rattle.itemset.specs.Set.{count, members}
use Rattle.itemset.proofs.Members.{length-members}
use Rattle.protocol.specs.declared.Message.{Message}
use Rattle.protocol.specs.declared.Message.TheVariants.{Prepare, Commit, Get, FirstGet}
use Rattle.protocol.specs.Tables.{Tables}
use Rattle.protocol.specs.Message.{is_prepare}
use Rattle.protocol.specs.Range.{Capacities, occupied}
use Rattle.protocol.specs.FastRead.{first_gets}
use Rattle.protocol.specs.Steps.{asks, gets, value_of, next_stamp, version, prepares, joined}
use Rattle.protocol.specs.Steps.{message_at, mixed_messages}
use Rattle.protocol.specs.Calls.{start_read, start_fast_read, start_write, start_mixed, deliver}
use Rattle.protocol.specs.Calls.{effect}
use Rattle.protocol.proofs.Refusals.{AcceptedStart, AcceptedMixed, AcceptedDeliver}
use Rattle.protocol.proofs.Delivered.{delivered-work, joined-prepare}

-- ---- Prepares among the messages of one kind

counted-each : {A : Type 0} (f : A → Message) (b : Bool) (xs : List A)
    → ((x : A) → is_prepare (f x) ≡ b)
    → counted is_prepare (map f xs) ≡ cond b (length xs) 0
unfolding counted
counted-each f true [] h = refl
counted-each f false [] h = refl
counted-each f true (x ∷ xs) h = rw (h x) (omega (arith, counted-each f true xs h))
counted-each f false (x ∷ xs) h = rw (h x) (omega (arith, counted-each f false xs h))

-- one prepare for each item of a write
pub counted-prepares : (t : Tables) (d s : ℕ) (bytes : List ℕ) → s < 2 ^ t.sizes.items
    → counted is_prepare (prepares t d s bytes) ≡ count s
counted-prepares t d s bytes h =
    counted-each (λ k. Prepare (version k (value_of s bytes k) (next_stamp t d) s)) true
    (members t.sizes.items s) (λ k. refl)
    ∙ length-members s t.sizes.items h

-- and none for the gets of a mixed transaction
pub counted-mixed : (t : Tables) (d r s : ℕ) (bytes : List ℕ) → s < 2 ^ t.sizes.items
    → counted is_prepare (mixed_messages t d r s bytes) ≡ count s
counted-mixed t d r s bytes h =
    counted-append is_prepare (gets t d r) (prepares t d s bytes)
    ∙ omega (
      arith,
      counted-each (λ k. Get d k (asks t d k)) false (members t.sizes.items r) (λ k. refl),
      counted-prepares t d s bytes h,
    )

-- ---- Starts

module _ (caps : Capacities) (t : Tables) (d s : ℕ) (a : AcceptedStart caps t d s) where
  pub occupied-read : occupied (effect t (start_read d s)) ≡ occupied t
  unfolding effect occupied
  occupied-read =
      omega (
        arith,
        counted-append is_prepare t.messages (gets t d s),
        counted-each (λ k. Get d k (asks t d k)) false (members t.sizes.items s) (λ k. refl),
      )

  pub occupied-fast-read : occupied (effect t (start_fast_read d s)) ≡ occupied t
  unfolding effect occupied
  occupied-fast-read =
      omega (
        arith,
        counted-append is_prepare t.messages (first_gets t d s),
        counted-each (FirstGet d) false (members t.sizes.items s) (λ k. refl),
      )

  pub occupied-write : (bytes : List ℕ)
      → occupied (effect t (start_write d s bytes)) ≡ occupied t + count s
  unfolding effect occupied
  occupied-write bytes =
      omega (
        arith,
        counted-append is_prepare t.messages (prepares t d s bytes),
        counted-prepares t d s bytes a.set,
      )

-- of a mixed transaction the items written
pub occupied-mixed : (caps : Capacities) (t : Tables) (d r s : ℕ) (bytes : List ℕ)
    → AcceptedMixed caps t d r s bytes
    → occupied (effect t (start_mixed d r s bytes)) ≡ occupied t + count s
unfolding effect occupied
occupied-mixed caps t d r s bytes a =
    omega (
      arith,
      counted-append is_prepare t.messages (mixed_messages t d r s bytes),
      counted-mixed t d r s bytes a.write.start.set,
    )

-- ---- Deliveries

pub occupied-deliver : (caps : Capacities) (t : Tables) (i : ℕ) → AcceptedDeliver caps t i
    → occupied (effect t (deliver i)) ≡ occupied t
unfolding effect occupied
occupied-deliver caps t i a =
    omega (
      arith,
      counted-append is_prepare (without i t.messages) (joined t (message_at t i)),
      counted-without is_prepare i t.messages (Commit 0 0) a.place,
      (delivered-work t (message_at t i)).versions,
      none-counted is_prepare (joined t (message_at t i)) (joined-prepare t (message_at t i)),
    )
