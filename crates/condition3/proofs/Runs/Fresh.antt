-- The first replies of a fast read that has ended: each item's was answered since the start, with
-- the stamp of the item's latest then.
use mathlib.Core.Bool.{Bool, true}
use mathlib.Core.List.{List, [], ◌∷◌, ◌++◌}
use mathlib.Core.Path.{◌≡◌, sym, ap, ◌∙◌, subst}
use Prim.Native.Nat.{ℕ}
use Rattle.basics.proofs.Cases.{not-both, eqb_same}
use Rattle.itemset.specs.Set.{has}
use Rattle.protocol.specs.declared.Message.TheVariants.{FirstGet}
use Rattle.protocol.specs.Message.{parts_of}
use Rattle.protocol.specs.Range.{Capacities}
use Rattle.protocol.specs.Calls.{Call, deliver, is_start}
use Rattle.condition3.specs.World.{World, placed, does, after}
use Rattle.condition3.specs.Condition3.{Manner, start_of, came, answered_at}
use Rattle.condition3.specs.Condition3.Manner.{fast}
use Rattle.condition3.proofs.Link.{Inv}
use Rattle.condition3.proofs.Runs.Run.{after-append, after-inv}
use Rattle.condition3.proofs.Runs.FastKinds.{FirstCame}
use Rattle.condition3.proofs.Runs.FirstReplies.{AnsweredSince, answered-since}
use Rattle.condition3.proofs.Runs.Ended.{by-manner, EndedRead}

module _ (caps : Capacities) (w : World) (inv : Inv caps w) (μ : Manner) (d s : ℕ)
    (before during : List Call) (end : Call) (r : EndedRead caps w μ d s before during end)
    (is : μ ≡ fast) (k : ℕ) (m : has s k ≡ true) where
  abbrev w₁ : World
  w₁ = after caps w before

  abbrev begins : Call
  begins = start_of μ d s

  inv₁ : Inv caps w₁
  inv₁ = after-inv caps w inv before

  -- its first reply, and where that was answered
  pub first : FirstCame d k (r.stamps k) (came caps w begins before (during ++ end ∷ []))
  first = (r.firsts is).came k m

  abbrev is_starting : Call → Bool
  is_starting c = is_start d (does w₁ c).origin

  no-delivery : (i : ℕ) → begins ≡ deliver i → ⊥
  no-delivery i =
      by-manner (λ ν. start_of ν d s ≡ deliver i → ⊥) (λ e. not-both (eqb_same d) (ap is_starting e))
      (λ e. not-both (eqb_same d) (ap is_starting e))
      (λ z bytes e. not-both (eqb_same d) (ap is_starting e)) μ

  pub answered : AnsweredSince caps w₁ d k begins (during ++ end ∷ []) first.reply
  answered = answered-since caps w₁ inv₁ d k r.start.idle begins no-delivery
      (during ++ end ∷ []) first.reply first.is_for first.is_left

  -- the world then
  abbrev pub then : World
  then = after caps w (before ++ begins ∷ answered.early)

  then_is : after caps w₁ (begins ∷ answered.early) ≡ then
  then_is = sym (after-append caps w before (begins ∷ answered.early))

  pub asked-then : (placed then answered.place).message ≡ FirstGet d k
  asked-then = subst (λ (v : World). (placed v answered.place).message ≡ FirstGet d k) then_is
      answered.request

  pub then-time : answered_at first.reply ≡ then.time
  then-time = answered.since ∙ ap (λ (v : World). v.time) then_is

  pub then-stamp : (parts_of first.reply.message).stamp ≡ (then.tables.latest k).stamp
  then-stamp = answered.stamp ∙ ap (λ (v : World). (v.tables.latest k).stamp) then_is
