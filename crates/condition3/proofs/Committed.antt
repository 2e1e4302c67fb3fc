-- A fast read misses no write of a line whose commit the line's partition had got before the read
-- started, its client's own included: by `fresh` and `latest_committed` of the condition alone.
use mathlib.Core.Bool.{true}
use mathlib.Core.List.{List, [], ◌∷◌, ◌++◌, append_assoc}
use mathlib.Core.Logic.{inl, inr, ⊎_elim}
use mathlib.Core.Path.{◌≡◌, refl, sym, ap, ◌∙◌}
use Prim.Native.Nat.{ℕ, ◌+◌, ◌*◌, ◌≤◌}
use native.Mathlib.Omega.{arith}
use lib.Dec.{ltb}
use lib.ListN.{length}
use borrow.Author.Tests.{ltb-true, ltb-false}
use Rattle.basics.proofs.Cases.{by-test}
use Rattle.basics.specs.Lists.{In}
use Rattle.itemset.specs.Set.{has, count}
use Rattle.protocol.specs.declared.Message.TheVariants.{Commit}
use Rattle.protocol.specs.Tables.{number_of, partition_of}
use Rattle.protocol.specs.Range.{Capacities}
use Rattle.protocol.specs.Calls.{Call, start_fast_read, deliver, show}
use Rattle.condition3.specs.World.{World, Write, after, rests}
use Rattle.condition3.specs.Condition3.{ShownOlder, DeliveredBy, EndedBy, shown_at}
use Rattle.condition3.specs.Condition3.{output_of_read, Condition3}
use Rattle.condition3.specs.Condition3.Manner.{fast}
use Rattle.condition3.proofs.Runs.Run.{longer-writes}

-- older than a stamp, and than every later one
older-than : (s : ℕ) (output : List ℕ) (k a b : ℕ) → a ≤ b → ShownOlder s output k a
    → ShownOlder s output k b
older-than s output k a b l =
    ⊎_elim (λ p. inl (omega (arith, l, p)))
    (λ p. by-test (ltb (number_of a) (number_of b))
    (λ e. inl (omega (arith, p.0, ltb-true (number_of a) (number_of b) e)))
    (λ e. let same = ltb-false (number_of a) (number_of b) e in
    inr (omega (arith, l, p.0, same), omega (arith, l, p.1, same))))

module _ (caps : Capacities) (w : World) where
  -- what some calls delivered, a longer list did
  delivered-longer : (xs ys : List Call) (p stamp : ℕ) → DeliveredBy caps w xs (Commit p stamp)
      → DeliveredBy caps w (xs ++ ys) (Commit p stamp)
  delivered-longer xs ys p stamp x = (
    x.0,
    x.1 ++ ys,
    (
      x.2.0,
      ap (λ (l : List Call). l ++ ys) x.2.1
          ∙ append_assoc x.0 (deliver x.2.0 ∷ x.1) ys,
      x.2.2,
      x.2.3,
    ),
  )

  -- the calls before the first get's delivery are a part of the list's
  part : (before during early late until rest : List Call) (start end c last : Call)
      → during ++ end ∷ [] ≡ early ++ c ∷ late
      → before ++ start ∷ during ++ end ∷ until ++ last ∷ rest
      ≡ (before ++ start ∷ early) ++ (c ∷ late ++ until ++ last ∷ rest)
  part before during early late until rest start end c last e =
      ap (λ (l : List Call). l ++ last ∷ rest)
      (append_assoc before (start ∷ during) (end ∷ until)
      ∙ ap (λ (l : List Call). before ++ start ∷ l)
      (sym (append_assoc during (end ∷ []) until) ∙ ap (λ (l : List Call). l ++ until) e
      ∙ append_assoc early (c ∷ late) until)
      ∙ sym (append_assoc before (start ∷ early) (c ∷ late ++ until)))
      ∙ append_assoc (before ++ start ∷ early) (c ∷ late ++ until) (last ∷ rest)

  pub never-missed : (calls : List Call) → Condition3 caps w calls
      → (before during until rest : List Call) (d s : ℕ) (end : Call) (room : List ℕ)
      → calls ≡ before ++ start_fast_read d s ∷ during ++ end ∷ until ++ show d room ∷ rest
      → EndedBy caps w d (start_fast_read d s) before during end
      → rests caps (shown_at caps w (start_fast_read d s) before during end []) d until ≡ true
      → 10 + 9 * count s ≤ length room
      → (a : Write) → In a (after caps w before).writes → (k : ℕ) → has s k ≡ true
      → has a.set k ≡ true
      → DeliveredBy caps w before (Commit (partition_of w.tables k) a.stamp)
      → ShownOlder s (output_of_read caps w fast d s before during end until room) k a.stamp → ⊥
  never-missed calls c before during until rest d s end room e u quietly enough a i k m h x older =
      let start = start_fast_read d s in
      let f = (c.shows fast before during until rest d s end room e u quietly enough).fresh refl k m
      in
      let early = f.3.0 in
      let then = before ++ start ∷ early in
      let latest = (c.latest_committed then (deliver f.3.2.0 ∷ f.3.1 ++ until
      ++ show d room ∷ rest)
      (e ∙ part before during early f.3.1 until rest start end (deliver f.3.2.0)
      (show d room) f.3.2.1) k).0 a (longer-writes caps w before (start ∷ early) a i) h
      (delivered-longer before (start ∷ early) (partition_of w.tables k) a.stamp x) in
      f.3.2.5 (older-than s (output_of_read caps w fast d s before during end until room) k
      a.stamp ((after caps w then).tables.latest k).stamp latest older)
