-- Condition 3, proved: of every list of calls made from a world with the invariant, and so from
-- freshly made tables of any sizes that refusal 2 allows, and from tables that the check accepts.
use mathlib.Core.Bool.{Bool, true, cond}
use mathlib.Core.List.{List, [], ◌∷◌, ◌++◌}
use mathlib.Core.Path.{◌≡◌, refl, sym, ap, ◌∙◌, subst}
use Prim.Native.Nat.{ℕ, zero, suc, ◌+◌}
use native.Mathlib.Nat.{le_of_eq}
use native.Mathlib.Omega.{arith}
use lib.Dec.{eqb, eqb-suc-zero}
use lib.ListN.{replicate, length-replicate}
use Rattle.basics.proofs.Cases.{by-test}
use Rattle.basics.specs.Lists.{counted}
use Rattle.itemset.specs.Set.{has}
use Rattle.itemset.proofs.Laws.{has-empty}
use Rattle.protocol.specs.Tables.{Sizes, Tables}
use Rattle.protocol.specs.Range.{Capacities, sizes_in_range}
use Rattle.protocol.specs.Calls.{Call, start_fast_read, check, refusal, effect, step, pick}
use Rattle.condition3.specs.World.{World, Labelled, begin, moved, passed, next, after}
use Rattle.condition3.specs.World.{is_reply_for}
use Rattle.condition3.specs.Held.{held, Promised}
use Rattle.condition3.specs.Condition3.{Manner, start_of, EndedBy, sent, came, Shows}
use Rattle.condition3.specs.Condition3.{Condition3, length_of}
use Rattle.condition3.specs.Condition3.Manner.{ordinary, fast, writing}
use Rattle.protocol.proofs.Refusals.{accepted-fast-read}
use Rattle.condition3.proofs.Sound.Checked.{tells-check, check_sound}
use Rattle.condition3.proofs.Link.{Inv}
use Rattle.condition3.proofs.Link.Step.{begin-inv}
use Rattle.condition3.proofs.Link.Held.{held-inv}
use Rattle.condition3.proofs.Link.Dated.{held-in-use}
use Rattle.condition3.proofs.Runs.Run.{after-append, after-inv, still-client}
use Rattle.condition3.proofs.Runs.Replies.{Awaiting}
use Rattle.condition3.proofs.Runs.Ended.{EndedRead}
use Rattle.condition3.proofs.Runs.Provenance.{writes-iff, stores-iff}
use Rattle.condition3.proofs.Runs.Deliverable.{deliverable}
use Rattle.condition3.proofs.Runs.OneMessage.{one-message}
use Rattle.condition3.proofs.Runs.ReadCounts.{begins, inv_at, left, is-reading, ends-iff}
use Rattle.condition3.proofs.Runs.ReadCounts.{all-requested, all-replied, all-prepared, once}
use Rattle.condition3.proofs.Runs.ReadCounts.{prepared-each, ended_by, ended-read}
use Rattle.condition3.proofs.Runs.ReadCounts.{ends-by-gots}
use Rattle.condition3.proofs.Runs.FastCounts.{is-awaited, is-fast, two-rounds, bounded}
use Rattle.condition3.proofs.Runs.FastCounts.{ends-iff as fast-ends-iff}
use Rattle.condition3.proofs.Runs.FastCounts.{counts-exact as fast-counts-exact, ended-fast}
use Rattle.condition3.proofs.Runs.ReadShows.{shows, silent, wins}
use Rattle.condition3.proofs.Runs.Chosen.{shows-chosen, shown-older}
use Rattle.condition3.proofs.Runs.Falls.{never-falls}
use Rattle.condition3.proofs.Runs.Latest.{committed-latest, latest-from}
use Rattle.condition3.proofs.Runs.Freed.{clears, serves}
use Rattle.condition3.proofs.Runs.WriteShows.{own-shown, own-head, own-set, own-number}
use Rattle.condition3.proofs.Runs.WriteShows.{own-values, wins-own}
use Rattle.condition3.proofs.Runs.Sends.{prepares-sent, prepared-for, no-commits-sent}
use Rattle.condition3.proofs.Runs.Sends.{commits-sent, then-seen}

-- the tables go on as `step` leaves them
next-step : (caps : Capacities) (w : World) (c : Call)
    → (next caps w c).tables ≡ (step caps w.tables c).tables
unfolding next step
next-step caps w c = go (refusal caps w.tables c) refl
  where
    go : (r : ℕ) → refusal caps w.tables c ≡ r
        → (cond (eqb r 0) (moved w c) (passed w)).tables ≡ pick r (effect w.tables c) w.tables
    go zero e = refl
    go (suc r) e = rw (eqb-suc-zero r) refl

-- an item of the set that has had no reply is awaited
awaited : (d s : ℕ) (v : World) (left : List Labelled) → Awaiting d s 0 v left
    → (k : ℕ) → has s k ≡ true
    → counted (is_reply_for d k) left ≡ 0 → has (v.tables.client d).read.awaited k ≡ true
awaited d s v left r k m none =
    by-test (has (v.tables.client d).read.awaited k) (λ e. e)
    (λ e. absurd (never (ap (λ (b : Bool). counted (is_reply_for d k) left + cond b 1 0) (sym e)
    ∙ r.once k ∙ rw (m, has-empty k) refl)))
  where
    never : counted (is_reply_for d k) left + 0 ≡ 1 → ⊥
    never e = omega arith

-- a read that ended, in any manner
ended : (caps : Capacities) (w : World) → Inv caps w → (μ : Manner) (d s : ℕ)
    (before during : List Call) (end : Call) → EndedBy caps w d (start_of μ d s) before during end
    → EndedRead caps w μ d s before during end
ended caps w inv ordinary d s before during end e =
    ended-read caps w inv ordinary refl d s before during end e
ended caps w inv fast d s before during end e =
    ended-fast caps w inv d s before during e.under_way end e.ended
ended caps w inv (writing z bytes) d s before during end e =
    ended-read caps w inv (writing z bytes) refl d s before during end e

pub condition-3-from : (caps : Capacities) (w : World) → Inv caps w → (calls : List Call)
    → Condition3 caps w calls
unfolding after
condition-3-from caps w inv calls =
    record {
      steps = λ before rest c e.
          ap (λ (v : World). v.tables) (after-append caps w before (c ∷ []))
          ∙ next-step caps (after caps w before) c;
      labels = λ before rest e.
          let here = after-inv caps w inv before in
          (here.in_flight, here.owners);
      history = writes-iff caps w calls;
      preparations = stores-iff caps w calls;
      one_message = λ μ viewed before during rest d s e u k m none.
          let v = after caps w (before ++ start_of μ d s ∷ during) in
          one-message caps v (inv_at caps w inv μ viewed d s before during u) d
          (still-client caps w d before (start_of μ d s ∷ during)
          (begins caps w inv μ viewed d s before during u).start.client) k
          (awaited d s v (left caps w inv μ viewed d s before during u)
          (is-reading caps w inv μ viewed d s before during u).awaiting k m none);
      one_message_fast = λ before during rest d s e u k m open'.
          let v = after caps w (before ++ start_fast_read d s ∷ during) in
          one-message caps v (after-inv caps w inv (before ++ start_fast_read d s ∷ during)) d
          (still-client caps w d before (start_fast_read d s ∷ during)
          ((accepted-fast-read caps (after caps w before).tables d s).0 u.accepted).client) k
          (is-awaited d s v (came caps w (start_fast_read d s) before during)
          (sent caps w (start_fast_read d s) before during)
          (is-fast caps w inv d s before during u) k m open');
      ends = λ before during rest d s c e u. ends-by-gots caps w inv d s before during u c;
      ends_fast = λ before during rest d s c e u. fast-ends-iff caps w inv d s before during u c;
      ends_mixed = λ before during rest d s z bytes c e u.
          ends-iff caps w inv (writing z bytes) refl d s before during u c;
      silent = λ μ before during until rest d s end e u quietly.
          silent caps w inv μ d s before during end (ended caps w inv μ d s before during end u)
          until [] (replicate (length_of μ s) 0) quietly
          (le_of_eq (sym (length-replicate (length_of μ s) 0)));
      counts = λ before during rest d s end e u.
          let v = u.under_way in (
            all-requested caps w inv ordinary refl d s before during v end u.ended,
            all-replied caps w inv ordinary refl d s before during v end u.ended,
            once caps w inv ordinary refl d s before during v end u.ended,
            ended_by caps w inv ordinary refl d s before during v end u.ended,
          );
      counts_fast = λ before during rest d s end e u.
          fast-counts-exact caps w inv d s before during u.under_way end u.ended;
      two_rounds = λ before during rest d s c e u. two-rounds caps w inv d s before during u c;
      bounded_fast = λ before during rest d s c e u.
          bounded caps w inv d s before during u c;
      counts_mixed = λ before during rest d s z bytes end e u.
          let v = u.under_way in
          let μ = writing z bytes in (
            all-requested caps w inv μ refl d s before during v end u.ended,
            all-replied caps w inv μ refl d s before during v end u.ended,
            once caps w inv μ refl d s before during v end u.ended,
            all-prepared caps w inv μ refl d s before during v end u.ended,
            prepared-each caps w inv μ refl d s before during v end u.ended,
            ended_by caps w inv μ refl d s before during v end u.ended,
          );
      commits_then = λ κ before during rest d z written c e u. (
        prepares-sent caps w inv κ d z written before during u,
        prepared-for caps w inv κ d z written before during u,
        no-commits-sent caps w inv κ d z written before during u,
        λ end. (
          commits-sent caps w inv κ d z written before during u c end,
          then-seen caps w inv κ d z written before during u c end,
        ),
      );
      shows = λ μ before during until rest d s end room e u quietly enough.
          subst (λ (cs : List Call). Shows caps w cs μ d s before during end until room) (sym e)
          (shows caps w inv μ d s before during end (ended caps w inv μ d s before during end u)
          until rest room quietly enough);
      shows_chosen = λ before during until rest d s z bytes end room e u quietly enough k m. (
        shows-chosen caps w inv d s z bytes before during until end room u quietly enough k m,
        shown-older caps w inv d s z bytes before during until end room u quietly enough k m,
      );
      wins = λ μ before during until between rest d s end room κ v bytes e u quietly enough a k m.
          wins caps w inv μ d s before during end (ended caps w inv μ d s before during end u)
          until [] room quietly enough between k m;
      shows_own = λ κ before during until rest d z written end room e u quietly enough. (
        own-shown caps w inv κ d z written before during end until room u quietly enough,
        own-head caps w inv κ d z written before during end until room u quietly enough,
        own-set caps w inv κ d z written before during end until room u quietly enough,
        own-number caps w inv κ d z written before during end until room u quietly enough,
        own-values caps w inv κ d z written before during end until room u quietly enough,
      );
      wins_own = λ κ κ' before during until between rest d z written end room v bytes e u quietly
          enough a.
          wins-own caps w inv κ d z written before during end until room u quietly enough between;
      never_falls = λ μ μ' viewed before during until between before' during' until' rest d s s' end
          end' room room' split e u quietly enough u' quietly' enough'.
          never-falls caps w inv μ d s before during end
          (ended caps w inv μ d s before during end u) until room quietly enough
          μ' viewed s' between before' during' end'
          (ended-read caps w inv μ' viewed d s' before' during' end' u')
          until' room' split quietly' enough';
      latest_committed = λ before rest e k. (
        λ a i h x. committed-latest caps w inv before k a i h x,
        latest-from caps k w inv before,
      );
      clears = λ before rest e. clears caps w inv before;
      serves = λ κ before between rest n d s bytes e.
          serves caps w inv before κ between n d s bytes;
      checks = λ before rest e.
          let here = after-inv caps w inv before in
          (tells-check caps (after caps w before).tables).1 (here.ledger, here.sound);
      deliverable =
          λ before rest e. deliverable caps (after caps w before) (after-inv caps w inv before);
    }

-- from freshly made tables
pub condition-3 : (caps : Capacities) (z : Sizes) → sizes_in_range z ≡ true → (calls : List Call)
    → Condition3 caps (begin z) calls
condition-3 caps z ok = condition-3-from caps (begin z) (begin-inv caps z ok)

-- 'If it accepts, all promises from a fresh start hold of reads and writes begun from then on'
-- (document 02, P9)
pub condition-3-accepted : (caps : Capacities) (t : Tables) → refusal caps t check ≡ 0
    → (calls : List Call) → Promised caps t calls
condition-3-accepted caps t e calls =
    let sound = check_sound caps t e in
    record {
      condition3 = condition-3-from caps (held t) (held-inv caps t sound) calls;
      entries = held-in-use caps t sound calls;
    }
