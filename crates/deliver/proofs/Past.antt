-- A delivery keeps the block's length, and every word past the length that a block needs.
use mathlib.Core.Bool.{◌&&◌}
use mathlib.Core.List.{List}
use Prim.Native.Nat.{ℕ, ◌+◌, ◌-◌, ◌*◌, ◌%◌, ◌≤◌, ◌<◌}
use native.Mathlib.Omega.{arith}
use lib.Dec.{eqb, ltb, lit<}
use lib.ListN.{take, drop, length-take}
use borrow.Author.Tests.{ltb-true}
use Rattle.basics.proofs.Cases.{and_right}
use Rattle.itemset.specs.Set.{remove}
use Rattle.protocol.specs.declared.Version.{Version}
use Rattle.protocol.specs.declared.Entry.{Entry}
use Rattle.protocol.specs.declared.Message.{Message}
use Rattle.protocol.specs.declared.Message.TheVariants.{Prepare, Prepared, Commit, Get, Got}
use Rattle.protocol.specs.declared.Message.TheVariants.{FirstGet, FirstReply}
use Rattle.protocol.specs.Tables.{entry_of, writer_of}
use Rattle.protocol.proofs.Put.{by_cond}
use Rattle.layout.specs.Layout.{most_messages, message_words, scalars, latest, views, values}
use Rattle.layout.specs.Layout.{messages, base, at, messages_at, awaited_at, latest_at}
use Rattle.layout.specs.Layout.{mode_at, write_awaited_at, view_at, item_at, message_at, is_mixed_mode}
use Rattle.layout.specs.Decode.{version_in}
use Rattle.layout.specs.Store.{take_out}
use Rattle.slots.proofs.Runs.{run_length, run-behind}
use Rattle.layout.proofs.Past.{SamePast, past-none, past-trans, past-when, past-each, past-store}
use Rattle.layout.proofs.Past.{past-entry, past_first}
use Rattle.slots.proofs.PastLists.{past-keep, past-send}
use Rattle.ends.proofs.Past.{past-scalar, past-read-ended, past-write-ended, past-mixed-ended}
use Rattle.second_part.proofs.Past.{past-second}
use Rattle.slots.specs.Room.{keep}
use Rattle.commit.specs.Commit.{commit_version, commit_delivered}
use Rattle.deliver.specs.declared.Counts.{Counts}
use Rattle.deliver_tests.specs.Tests.{Bounded}
use Rattle.deliver.specs.Deliver.{prepare_delivered, written_delivered, mixed_prepared}
use Rattle.deliver.specs.Deliver.{prepared_delivered, get_delivered, kept_answer}
use Rattle.deliver.specs.Deliver.{read_delivered, mixed_got, got_delivered, first_get_delivered}
use Rattle.deliver.specs.Deliver.{kept_first, first_delivered, message_delivered}

past-take-out : (b : List ℕ) (n i : ℕ) → i < n → n ≤ most_messages → SamePast b (take_out b n i)
unfolding take_out
past-take-out b n i l h =
    let from = base messages + message_at i 0 in
    let moved = take (message_words * (n - (i + 1))) (drop (from + message_words) b) in
    record {
      long = run_length b from moved messages_at (n - 1) 0;
      past = λ j g. run-behind b from moved messages_at (n - 1) 0 j
          (omega (arith, length-take (message_words * (n - (i + 1))) (drop (from + message_words) b)))
          (omega arith);
    }

-- ---- messages

past-answer : (b : List ℕ) (d : ℕ) (v : Version) (e : Entry) → 1 ≤ d → d ≤ 8 → v.item < 64
    → SamePast b (kept_answer b d v e)
past-answer b d v e first last l =
    past-trans (past-entry b views (view_at d v.item) _ (omega arith))
    (past-store _ values (item_at d v.item) _ (omega arith))

past_work : (b : List ℕ) (n : Counts) (found : Version) (m : Message) → n.items ≤ 64 → Bounded m
    → SamePast b (message_delivered b n found m)
unfolding message_delivered prepare_delivered written_delivered mixed_prepared prepared_delivered
    commit_delivered get_delivered read_delivered mixed_got got_delivered first_get_delivered
    first_delivered
past_work b n found (Prepare v) h r =
    past-trans (past-keep b v) (past-send (keep b v) (Prepared v.item v.stamp))
past_work b n found (Prepared k stamp) h r =
    let d = writer_of stamp in
    by_cond (SamePast b) (is_mixed_mode (at b scalars (mode_at d))) _ _
    (λ m. by_cond (SamePast b) (eqb (at b scalars (awaited_at d)) 0
    && eqb (remove (at b scalars (write_awaited_at d)) k) 0) _ _
    (λ e. past-mixed-ended d r.0 r.1 b n.partitions n.items h)
    (λ e. past-scalar d r.0 r.1 b 9 _ (lit< tt)))
    (λ m. by_cond (SamePast b) (eqb (remove (at b scalars (awaited_at d)) k) 0) _ _
    (λ e. past-write-ended d r.0 r.1 b n.partitions n.items stamp h)
    (λ e. past-scalar d r.0 r.1 b 3 _ (lit< tt)))
past_work b n found (Commit p stamp) h r =
    past-each (commit_version n.partitions p stamp) b n.versions (λ i c l.
    past-when c _ (eqb (version_in c i).stamp stamp)
    (by_cond (SamePast c) (eqb ((version_in c i).item % n.partitions) p
    && ltb (version_in c i).item 64) _ c
    (λ e.
    let item : (version_in c i).item < 64 =
    ltb-true (version_in c i).item 64
    (and_right (eqb ((version_in c i).item % n.partitions) p)
    (ltb (version_in c i).item 64) e) in
    past-entry c latest (latest_at (version_in c i).item) _ (omega arith))
    (λ e. past-none c)))
past_work b n found (Get d k stamp) h r = past-send b _
past_work b n found (Got d v entry) h r =
    let kept = kept_answer b d v entry in
    let rest = remove (at b scalars (awaited_at d)) v.item in
    past-trans (past-answer b d v entry r.0 r.1 r.2)
    (by_cond (SamePast kept) (is_mixed_mode (at b scalars (mode_at d))) _ _
    (λ m. by_cond (SamePast kept) (eqb rest 0 && eqb (at b scalars (write_awaited_at d)) 0) _ _
    (λ e. past-mixed-ended d r.0 r.1 kept n.partitions n.items h)
    (λ e. past-scalar d r.0 r.1 kept 3 _ (lit< tt)))
    (λ m. by_cond (SamePast kept) (eqb rest 0) _ _
    (λ e. past-read-ended d r.0 r.1 kept n.items h)
    (λ e. past-scalar d r.0 r.1 kept 3 _ (lit< tt))))
past_work b n found (FirstGet d k) h r = past-send b _
past_work b n found (FirstReply d v entry) h r =
    past-trans
    (past-trans (past-answer b d v entry r.0 r.1 r.2)
    (past_first d r.0 r.1 (kept_answer b d v entry) v.item (entry_of v) r.2))
    (by_cond (SamePast (kept_first b d v entry))
    (eqb (remove (at b scalars (awaited_at d)) v.item) 0) _ _
    (λ e. past-second d r.0 r.1 (kept_first b d v entry) n.items h)
    (λ e. past-scalar d r.0 r.1 (kept_first b d v entry) 3 _ (lit< tt)))

-- of n messages the one at place i
pub past-deliver : (b : List ℕ) (n i : ℕ) (counts : Counts) (found : Version) (m : Message) → i < n
    → n ≤ most_messages → counts.items ≤ 64 → Bounded m
    → SamePast b (message_delivered (take_out b n i) counts found m)
past-deliver b n i counts found m l h items r =
    past-trans (past-take-out b n i l h) (past_work (take_out b n i) counts found m items r)
