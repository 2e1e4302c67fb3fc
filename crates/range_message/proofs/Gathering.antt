-- What a loop has gathered of messages passes with one more exactly when it passed before and the
-- words of that one pass.
use mathlib.Core.Bool.{Bool, true, false, ◌&&◌}
use mathlib.Core.Path.{◌≡◌, refl, sym, subst}
use Prim.Native.Nat.{ℕ, ◌+◌, ◌^◌, ◌<◌}
use lib.Bits.{bit_or}
use lib.Dec.{ltb}
use Rattle.basics.proofs.Cases.{and_both, test-ext}
use Rattle.itemset.specs.Set.{all_below}
use Rattle.protocol.proofs.Tells.{tells-and}
use Rattle.gather.specs.Words.{owns_test}
use Rattle.gather.proofs.Gathers.{below, owns}
use Rattle.gather.proofs.Tested.{SoFar, tested-none, tested-next}
use Rattle.range_message.specs.declared.Gathered.{Gathered}
use Rattle.range_message.specs.Messages.{gathered_test}

-- ---- the same tests in another order

none_after : (a : Bool) → false ≡ (a && false)
none_after true = refl
none_after false = refl

rest-order : (ok here values owns sets : Bool)
    → (ok && here && values && owns && sets) ≡ ((ok && values && owns && sets) && here)
rest-order ok here values owns sets =
    test-ext _ _ (λ e. let f = simp tells-and at e in simp tells-and search)
    (λ e. let f = simp tells-and at e in simp tells-and search)

stamp-order : (ok here values owns own sets : Bool)
    → (ok && here && values && (owns && own) && sets)
    ≡ ((ok && values && owns && sets) && (here && own))
stamp-order ok here values owns own sets =
    test-ext _ _ (λ e. let f = simp tells-and at e in simp tells-and search)
    (λ e. let f = simp tells-and at e in simp tells-and search)

version-order : (ok here values value owns own sets set : Bool)
    → (ok && here && (values && value) && (owns && own) && (sets && set))
    ≡ ((ok && values && owns && sets) && (here && value && own && set))
version-order ok here values value owns own sets set =
    test-ext _ _ (λ e. let f = simp tells-and at e in simp tells-and search)
    (λ e. let f = simp tells-and at e in simp tells-and search)

got-order : (ok here values value owns own later sets set wide : Bool)
    → (ok && here && (values && value) && (owns && (own && later)) && (sets && (set && wide)))
    ≡ ((ok && values && owns && sets) && (here && value && (own && set) && (later && wide)))
got-order ok here values value owns own later sets set wide =
    test-ext _ _ (λ e. let f = simp tells-and at e in simp tells-and search)
    (λ e. let f = simp tells-and at e in simp tells-and search)

-- ---- by the words that a kind uses

module _ (items : ℕ) (g : Gathered) where
  abbrev Takes : Bool → Gathered → Type 0
  Takes whole r = gathered_test items r ≡ (gathered_test items g && whole)

  -- none of those that are gathered
  pub takes-rest : {whole : Bool} (here : Bool) → here ≡ whole
      → Takes whole (record {
        ok = g.ok && here;
        values = g.values;
        owns = g.owns;
        sets = g.sets;
      })
  unfolding gathered_test
  takes-rest here h =
      rw (sym h)
      (rest-order g.ok here (ltb g.values (2 ^ 32)) (owns_test g.owns)
      (all_below g.sets items))

  pub takes_none : {whole : Bool} → false ≡ whole
      → Takes whole (record {
        ok = false;
        values = g.values;
        owns = g.owns;
        sets = g.sets;
      })
  unfolding gathered_test
  takes_none h = rw (sym h) (none_after (gathered_test items g))

  -- a stamp
  pub takes-stamp : {whole : Bool} (here : Bool) (own : ℕ) → (here && owns_test own) ≡ whole
      → Takes whole (record {
        ok = g.ok && here;
        values = g.values;
        owns = bit_or g.owns own;
        sets = g.sets;
      })
  unfolding gathered_test
  takes-stamp here own h =
      rw (sym (owns.joined g.owns own), sym h)
      (stamp-order g.ok here (ltb g.values (2 ^ 32)) (owns_test g.owns) (owns_test own)
      (all_below g.sets items))

  -- a value, a stamp and a set
  pub takes-version : {whole : Bool} (here : Bool) (v own s : ℕ)
      → (here && ltb v (2 ^ 32) && owns_test own && all_below s items) ≡ whole
      → Takes whole (record {
        ok = g.ok && here;
        values = bit_or g.values v;
        owns = bit_or g.owns own;
        sets = bit_or g.sets s;
      })
  unfolding gathered_test
  takes-version here v own s h =
      rw (
        sym ((below 32).joined g.values v),
        sym (owns.joined g.owns own),
        sym ((below items).joined g.sets s),
        sym h,
      )
      (version-order g.ok here (ltb g.values (2 ^ 32)) (ltb v (2 ^ 32)) (owns_test g.owns)
      (owns_test own) (all_below g.sets items) (all_below s items))

  -- a value, and two stamps and sets
  pub takes-got : {whole : Bool} (here : Bool) (v own later s wide : ℕ)
      → (here && ltb v (2 ^ 32) && (owns_test own && all_below s items)
      && (owns_test later && all_below wide items)) ≡ whole
      → Takes whole (record {
        ok = g.ok && here;
        values = bit_or g.values v;
        owns = bit_or g.owns (bit_or own later);
        sets = bit_or g.sets (bit_or s wide);
      })
  unfolding gathered_test
  takes-got here v own later s wide h =
      rw (
        sym ((below 32).joined g.values v),
        sym (owns.joined g.owns (bit_or own later)),
        sym (owns.joined own later),
        sym ((below items).joined g.sets (bit_or s wide)),
        sym ((below items).joined s wide),
        sym h,
      )
      (got-order g.ok here (ltb g.values (2 ^ 32)) (ltb v (2 ^ 32)) (owns_test g.owns)
      (owns_test own) (owns_test later) (all_below g.sets items) (all_below s items)
      (all_below wide items))

-- ---- the loop

module _ {n : ℕ} {p : ℕ → Bool} where
  pub gathered_none : (items : ℕ)
      → SoFar n p 0 (gathered_test items (record { ok = true; values = 0; owns = 0; sets = 0 }))
  unfolding gathered_test
  gathered_none items =
      subst (SoFar n p 0)
      (sym (and_both _ _ (and_both _ _ (below 32).empty owns.empty) (below items).empty))
      tested-none

  pub gathered_next : {k : ℕ} {before after : Bool} → SoFar n p k before → k < n
      → after ≡ (before && p k) → SoFar n p (k + 1) after
  gathered_next {k = k} s l e = subst (SoFar n p (k + 1)) (sym e) (tested-next s l refl)
