-- The work of each message on the block is its work in the tables, with its new messages at the
-- end.
use mathlib.Core.Bool.{true, false, cond}
use mathlib.Core.List.{List, [], ◌∷◌, ◌++◌, append-nil}
use mathlib.Core.Path.{◌≡◌, refl, sym, ap, ◌∙◌, subst}
use Prim.Native.Nat.{ℕ, ◌≤◌, ◌<◌}
use native.Mathlib.Omega.{arith}
use lib.ListN.{length, length-append}
use lib.Dec.{eqb}
use Rattle.basics.proofs.Cases.{by-test, and_left, and_right}
use Rattle.protocol.specs.declared.Version.{Version}
use Rattle.protocol.specs.declared.Entry.{Entry}
use Rattle.protocol.specs.declared.Message.{Message}
use Rattle.protocol.specs.declared.Message.TheVariants.{Prepare, Prepared, Commit, Get, Got}
use Rattle.protocol.specs.declared.Message.TheVariants.{FirstGet, FirstReply}
use Rattle.protocol.specs.Tables.{Tables, Client, of_read, writer_of, with_versions, with_messages}
use Rattle.protocol.specs.Range.{is_writing}
use Rattle.protocol.specs.Steps.{version, found, delivered, joined, is_last, commits}
use Rattle.protocol.proofs.Ranges.Values.{MessageInRange}
use Rattle.protocol.proofs.Ranges.Tables.{InRange}
use Rattle.protocol.proofs.Ranges.Clients.{ClientInRange}
use Rattle.protocol.proofs.Refusals.{Expected, tells-prepared, tells-got, tells-first-reply}
use Rattle.protocol.proofs.Commits.{no-commits}
use Rattle.layout.specs.Decode.{latest_in}
use Rattle.layout.specs.Encodes.{writes_alone, is_mixed, Encodes}
use Rattle.layout.proofs.Room.{HasRoom}
use Rattle.layout.proofs.Parts.{alone-or-mixed, writes_nothing, awaits-answer, awaits-reply}
use Rattle.layout.proofs.Parts.{mode-both}
use Rattle.slots.specs.Room.{send}
use Rattle.commit.specs.Commit.{commit_delivered}
use Rattle.deliver_tests.proofs.TestedTables.{answer_of}
use Rattle.slots.proofs.EncodesRoom.{encodes-keep, encodes-send}
use Rattle.layout.specs.Layout.{most_versions, most_messages, scalars, at, mode_at, is_mixed_mode}
use Rattle.deliver.specs.declared.Counts.{Counts}
use Rattle.deliver.specs.Deliver.{prepare_delivered, prepared_delivered, get_delivered}
use Rattle.deliver.specs.Deliver.{read_delivered, got_delivered, first_get_delivered}
use Rattle.deliver.specs.Deliver.{message_delivered}
use Rattle.commit.proofs.Committed.{latest-held, encodes-committed}
use Rattle.deliver.proofs.Replied.{encodes-written}
use Rattle.deliver.proofs.Got.{encodes-read-got}
use Rattle.deliver.proofs.Mixed.{encodes-mixed-prepared, encodes-mixed-got}
use Rattle.deliver.proofs.First.{encodes-first}

abbrev pub counts_of : Tables → Counts
counts_of t = record {
  partitions = t.sizes.partitions;
  items = t.sizes.items;
  versions =
      length t.versions;
}

alone-unmixed : (c : Client) → writes_alone c ≡ true → is_mixed c ≡ false
alone-unmixed c a =
    rw (
      and_left (is_writing c) (eqb c.read.set 0) a,
      and_right (is_writing c) (eqb c.read.set 0) a,
    ) refl

reads-unmixed : (c : Client) → is_writing c ≡ false → is_mixed c ≡ false
reads-unmixed c w = rw w refl

module _ {b : List ℕ} (t : Tables) (ms : List Message) (n : Encodes b (with_messages t ms))
    (r : HasRoom (with_messages t ms)) where
  encodes-prepare : (v : Version) → length (t.versions ++ v ∷ []) ≤ most_versions
      → length (ms ++ Prepared v.item v.stamp ∷ []) ≤ most_messages
      → Encodes (prepare_delivered b v)
      (with_messages (with_versions t (t.versions ++ v ∷ []))
      (ms ++ Prepared v.item v.stamp ∷ []))
  unfolding prepare_delivered
  encodes-prepare v versions messages =
      encodes-send (Prepared v.item v.stamp)
      (encodes-keep v n r (omega (arith, length-append t.versions (v ∷ []))))
      (record {
        clients = r.clients;
        items = r.items;
        versions = versions;
        messages =
            r.messages;
        client = r.client;
      })
      (omega (arith, length-append ms (Prepared v.item v.stamp ∷ [])))

  -- a reply to a get that is made with the item's latest
  encodes-reply : (made : Entry → Message) (k : ℕ) → k < t.sizes.items
      → length (ms ++ made (t.latest k) ∷ []) ≤ most_messages
      → Encodes (send b (made (latest_in b k))) (with_messages t (ms ++ made (t.latest k) ∷ []))
  encodes-reply made k item room =
      subst
      (λ (e : Entry). Encodes (send b (made e)) (with_messages t (ms ++ made (t.latest k) ∷ [])))
      (sym (latest-held k (n.latest k item)))
      (encodes-send (made (t.latest k)) n r
      (omega (arith, length-append ms (made (t.latest k) ∷ []))))

  -- with no write part no commit joins
  got-joins : (d : ℕ) (v : Version) → ClientInRange t.sizes (t.client d)
      → is_writing (t.client d) ≡ false
      → cond (is_last of_read (t.client d) v.item)
      (commits t (t.client d).write.set (t.client d).write.stamp) [] ≡ []
  got-joins d v range reads =
      let c = t.client d in
      by-test (is_last of_read c v.item)
      (λ l. rw (l, writes_nothing t.sizes c range reads) (no-commits t c.write.stamp))
      (λ l. rw l refl)

  -- which of the modes a client is in
  mode-mixed : (d : ℕ) → 1 ≤ d → d ≤ t.sizes.clients → ClientInRange t.sizes (t.client d)
      → is_mixed_mode (at b scalars (mode_at d)) ≡ is_mixed (t.client d)
  mode-mixed d first last range =
      ap is_mixed_mode (n.client d first last).mode ∙ mode-both t.sizes (t.client d) range

  pub encodes-work : (m : Message) (v : Version) → InRange t → MessageInRange t.sizes m
      → Expected t m → v ≡ answer_of t m
      → length (delivered t m).versions ≤ most_versions → length (ms ++ joined t m) ≤ most_messages
      → Encodes (message_delivered b (counts_of t) v m)
      (with_messages (delivered t m) (ms ++ joined t m))
  unfolding message_delivered prepared_delivered get_delivered got_delivered first_get_delivered delivered
      joined answer_of
  encodes-work (Prepare v) u z i e same versions messages = encodes-prepare v versions messages
  encodes-work (Prepared k stamp) u z i e same versions messages =
      let w = (i.written (omega arith)).writer in
      let x = (tells-prepared t k stamp).0 e in
      let d = writer_of stamp in
      let c = t.client d in
      let range = z.client d w in
      let mixed = mode-mixed d w.0 w.1 range in
      let writes = awaits-reply t.sizes c range k x.awaited in
      by-test (writes_alone c)
      (λ a. rw (mixed ∙ alone-unmixed c a)
      (encodes-written t ms k stamp n r z.sizes.some_partition z.sizes.partitions w.0
      w.1 range x.awaited x.stamp a messages))
      (λ a. rw (mixed ∙ alone-or-mixed c writes a)
      (encodes-mixed-prepared t ms k stamp n r z.sizes.some_partition z.sizes.partitions
      w.0 w.1 range x.awaited x.stamp writes a messages))
  encodes-work (Commit p stamp) u z i e same versions messages =
      subst (λ (x : List Message). Encodes
      (commit_delivered b t.sizes.partitions (length t.versions) p stamp)
      (with_messages (delivered t (Commit p stamp)) x))
      (sym (append-nil ms))
      (encodes-committed (with_messages t ms) r p stamp n (λ v h. (z.versions v h).item))
  encodes-work (Get d k stamp) v z i e same versions messages =
      let u = found t.versions k stamp in
      rw same
      (encodes-reply (Got d (version k u.value stamp u.set)) k i.item messages)
  encodes-work (Got d v latest) u z i e same versions messages =
      let w = i.client (omega arith) in
      let x = (tells-got t d v latest).0 e in
      let awaited = x.awaited in
      let c = t.client d in
      let range = z.client d w in
      let mixed = mode-mixed d w.0 w.1 range in
      by-test (is_writing c)
      (λ writes. let both = awaits-answer t.sizes c range v.item awaited in
      rw (mixed ∙ alone-or-mixed c writes both)
      (encodes-mixed-got t ms d v latest n r z.sizes.some_partition z.sizes.partitions w.0
      w.1 i.item i.value range x.by_stamp awaited writes both messages))
      (λ reads. rw (mixed ∙ reads-unmixed c reads)
      (subst (λ (x : List Message). Encodes (read_delivered b t.sizes.items d v latest)
      (with_messages (delivered t (Got d v latest)) x))
      (sym (ap (λ (x : List Message). ms ++ x) (got-joins d v range reads) ∙ append-nil ms))
      (encodes-read-got d v latest n r w.0 w.1 i.item range x.by_stamp awaited i.value
      reads)))
  encodes-work (FirstGet d k) v z i e same versions messages =
      let u = found t.versions k (t.latest k).stamp in
      rw same
      (encodes-reply (λ x. FirstReply d (version k u.value x.stamp u.set) x) k i.item
      messages)
  encodes-work (FirstReply d v latest) u z i e same versions messages =
      let w = i.client (omega arith) in
      let x = (tells-first-reply t d v latest).0 e in
      encodes-first t ms d v latest n r w.0 w.1 i.item (z.client d w) x.by_item
      x.awaited i.value messages
