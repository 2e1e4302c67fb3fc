-- The outcome told from the block after a delivery is the tables': a client is idle after the last
-- reply, and after no other.
use mathlib.Core.Bool.{Bool, false, cond}
use mathlib.Core.List.{List}
use mathlib.Core.Path.{◌≡◌, refl, sym, ap, ◌∙◌, subst}
use Prim.Native.Nat.{ℕ, ◌+◌, ◌≤◌}
use native.Mathlib.Omega.{arith}
use lib.Dec.{eqb}
use borrow.Author.Tests.{eqb-true, ne_eqb}
use Rattle.basics.proofs.Cases.{by-test, not-both}
use Rattle.itemset.proofs.Laws.{has-empty}
use Rattle.protocol.specs.declared.Message.{Message}
use Rattle.protocol.specs.declared.Message.TheVariants.{Prepare, Prepared, Commit, Get, Got}
use Rattle.protocol.specs.declared.Message.TheVariants.{FirstGet, FirstReply}
use Rattle.protocol.specs.Tables.{Tables, Client, ReadPart, WritePart, Ended, of_read, of_write}
use Rattle.protocol.specs.Tables.{writer_of, rested}
use Rattle.protocol.specs.Tables.{with_messages, with_read}
use Rattle.protocol.specs.Range.{is_idle, is_writing}
use Rattle.protocol.specs.FastRead.{first_replied}
use Rattle.protocol.specs.Steps.{is_last, struck, answered, kind_ended, ended, got, delivered}
use Rattle.protocol.specs.Calls.{outcome_of}
use Rattle.protocol.proofs.Put.{put_same}
use Rattle.protocol.proofs.Ranges.Values.{MessageInRange}
use Rattle.protocol.proofs.Ranges.Tables.{InRange}
use Rattle.protocol.proofs.Refusals.{Expected, tells-got}
use Rattle.layout.specs.Layout.{is_mixed_kind}
use Rattle.layout.specs.Encodes.{Encodes, number_of_mode}
use Rattle.deliver_tests.specs.Tests.{over, got_outcome, outcome_in}

-- the mode tells who is idle
mode-idle : (c : Client) → eqb (number_of_mode c) 0 ≡ is_idle c
mode-idle c =
    by-test (is_idle c) (λ i. rw i refl)
    (λ i. rw i (by-test (is_writing c) (λ w. rw w
    (by-test (eqb c.read.set 0) (λ e. rw e refl) (λ e. rw e refl)))
    (λ w. rw w (by-test (eqb c.read.stage 0) (λ e. rw e refl)
    (λ e. rw e (ne_eqb (c.read.stage + 2) 0 (omega arith)))))))

-- a transaction that a got ends has a read part, and is a mixed one if it has a write part too
got-ended : (p : ReadPart) (w : WritePart) → eqb p.set 0 ≡ false
    → ◌≡◌ {A = ℕ} (cond (is_mixed_kind (kind_ended p w)) 2 1) (cond (eqb w.set 0) 1 2)
got-ended p w s =
    by-test (eqb w.set 0)
    (λ e. rw e (by-test (eqb p.stage 0) (λ n. rw n refl) (λ n. rw n refl)))
    (λ e. rw (e, s) refl)

-- client d of the tables after the delivery rests after the last reply; before it, it awaits one
module _ {b : List ℕ} {u : Tables} (n : Encodes b u) (d : ℕ) (first : 1 ≤ d)
    (last : d ≤ u.sizes.clients) (o : Client) (e : Ended) (c : Client) (l : Bool)
    (outcome : ℕ) where
  over-told : u.client d ≡ cond l (rested o e) c → (l ≡ false → is_idle c ≡ false)
      → over b d outcome ≡ cond l outcome 0
  over-told same more =
      ap (λ (x : Bool). cond x outcome 0)
      (ap (λ (x : ℕ). eqb x 0) (n.client d first last).mode
      ∙ mode-idle (u.client d)
      ∙ subst (λ (x : Client). is_idle x ≡ l) (sym same)
      (by-test l (λ x. rw x refl) (λ x. rw x (more x))))

pub outcome-told : {b : List ℕ} {t : Tables} (m : Message) (ms : List Message)
    → Encodes b (with_messages (delivered t m) ms) → InRange t → MessageInRange t.sizes m
    → Expected t m → outcome_in b m ≡ outcome_of t m
unfolding outcome_in outcome_of delivered
outcome-told (Prepare v) ms n z i e = refl
outcome-told {b} {t} (Prepared k stamp) ms n z i e =
    let w = (i.written (omega arith)).writer in
    let d = writer_of stamp in
    let c = t.client d in
    over-told n d w.0 w.1 c (ended c) (struck c k) (is_last of_write c k) 2
    (put_same t.client d _) (λ more. more)
outcome-told (Commit p stamp) ms n z i e = refl
outcome-told (Get d k stamp) ms n z i e = refl
outcome-told {b} {t} (Got d v latest) ms n z i e =
    let w = i.client (omega arith) in
    let c = t.client d in
    let k = v.item in
    let after = answered c k v.value in
    let own = (z.client d w).read.within k ((tells-got t d v latest).0 e).awaited in
    let some : eqb c.read.set 0 ≡ false =
    by-test (eqb c.read.set 0)
    (λ x. not-both own (rw (eqb-true c.read.set 0 x) (has-empty k))) (λ x. x) in
    over-told n d w.0 w.1 c (ended after) after (is_last of_read c k) (got_outcome b d)
    (put_same t.client d _) (λ more. more)
    ∙ by-test (is_last of_read c k)
    (λ l. let kind : (got c k v.value).last.kind ≡ kind_ended c.read c.write = rw l refl in
    rw l (ap (λ (x : ℕ). cond (is_mixed_kind x) 2 1)
    ((n.client d w.0 w.1).last.kind
    ∙ ap (λ (x : Client). x.last.kind) (put_same t.client d (got c k v.value)) ∙ kind)
    ∙ got-ended c.read c.write some))
    (λ l. rw l refl)
outcome-told (FirstGet d k) ms n z i e = refl
outcome-told {b} {t} (FirstReply d v latest) ms n z i e =
    let w = i.client (omega arith) in
    let c = t.client d in
    let p = first_replied t.sizes.items c.read v in
    over-told n d w.0 w.1 c (ended (with_read c p)) (with_read c p) (eqb p.awaited 0) 1
    (put_same t.client d _) (λ more. rw more refl)
