-- A prepared reply to a write on the block is a prepared reply in the tables: the client goes on,
-- or with the last one its write ends and commits join.
use mathlib.Core.Bool.{true, false, cond}
use mathlib.Core.List.{List, [], ◌++◌, append-nil}
use mathlib.Core.Path.{◌≡◌, refl, sym, ap, ◌∙◌, subst}
use Prim.Native.Nat.{ℕ, ◌≤◌}
use native.Mathlib.Omega.{arith}
use lib.Dec.{eqb, lit<}
use lib.ListN.{length}
use borrow.Author.Tests.{eqb-true}
use Rattle.basics.proofs.Cases.{by-test}
use Rattle.basics.specs.Fold.{up_to}
use Rattle.itemset.specs.Set.{has, remove}
use Rattle.protocol.specs.declared.Message.{Message}
use Rattle.protocol.specs.declared.Message.TheVariants.{Prepared}
use Rattle.protocol.specs.Tables.{Tables, Client, of_write, writer_of, rested, put}
use Rattle.protocol.specs.Tables.{with_client}
use Rattle.protocol.specs.Tables.{with_view, with_messages}
use Rattle.protocol.specs.Range.{is_idle, is_writing}
use Rattle.protocol.specs.Steps.{struck, is_last, ended, seen, delivered, touches, commits, joined}
use Rattle.protocol.proofs.Ranges.Clients.{ClientInRange}
use Rattle.layout.specs.Layout.{most_messages, scalars, at, store, mode_at, set_at, awaited_at}
use Rattle.layout.specs.Layout.{is_mixed_mode}
use Rattle.layout.specs.Encodes.{writes_alone, number_of_mode, Encodes, HoldsClient}
use Rattle.layout.proofs.Room.{HasRoom}
use Rattle.layout.proofs.Parts.{awaits-reply, awaits-busy, no-answer-awaited, mode-writing}
use Rattle.layout.proofs.ClientWords.{words_of}
use Rattle.layout.proofs.ClientHolds.{words-hold}
use Rattle.layout.proofs.Changed.{changed-none, changed-put, encodes-changed}
use Rattle.layout.proofs.Room.{room-client}
use Rattle.ends.specs.Ends.{send_commit, touched, write_kept, write_ended}
use Rattle.deliver.specs.Deliver.{written_delivered}
use Rattle.layout.proofs.Same.{encodes-same-view}
use Rattle.ends.proofs.Rests.{narrow-last}
use Rattle.ends.proofs.Ended.{encodes-write-kept}
use Rattle.deliver.proofs.Struck.{words-struck, narrow-struck}
use Rattle.ends.proofs.Touched.{has-touched}
use Rattle.ends.proofs.Commits.{encodes-commits}

module _ {b : List ℕ} (t : Tables) (ms : List Message) (k stamp : ℕ)
    (n : Encodes b (with_messages t ms)) (r : HasRoom (with_messages t ms))
    (some : 1 ≤ t.sizes.partitions) (few : t.sizes.partitions ≤ 8) (first : 1 ≤ writer_of stamp)
    (last : writer_of stamp ≤ t.sizes.clients)
    (range : ClientInRange t.sizes (t.client (writer_of stamp)))
    (awaits : has (t.client (writer_of stamp)).write.awaited k ≡ true)
    (own : (t.client (writer_of stamp)).write.stamp ≡ stamp)
    (alone : writes_alone (t.client (writer_of stamp)) ≡ true) where
  abbrev d : ℕ
  d = writer_of stamp

  abbrev c : Client
  c = t.client d

  held : HoldsClient b d c
  held = n.client d first last

  writes : is_writing c ≡ true
  writes = awaits-reply t.sizes c range k awaits

  busy : is_idle c ≡ false
  busy = awaits-busy t.sizes c range of_write k awaits

  none : c.read.awaited ≡ 0
  none = no-answer-awaited t.sizes c range alone

  number : number_of_mode c ≡ 2
  number = mode-writing t.sizes c range alone

  mode : at b scalars (mode_at d) ≡ 2
  mode = held.mode ∙ number

  -- its set and awaited items
  set_word : at b scalars (set_at d) ≡ c.write.set
  set_word = let x = (held.write writes).set in rw mode at x

  awaited-word : at b scalars (awaited_at d) ≡ c.write.awaited
  awaited-word = let x = (held.write writes).awaited in rw mode at x

  -- the last item of the write part is the last of all
  last_word : is_last of_write c k ≡ eqb (remove c.write.awaited k) 0
  last_word = rw none refl

  -- with the last one
  abbrev over : Tables
  over = with_view (with_client t d (rested c (ended c))) d
      (seen (t.view d) c.write.set stamp)

  kept : Encodes (write_kept b t.sizes.items d c.write.set stamp) (with_messages over ms)
  kept = encodes-write-kept d stamp n r first last alone number range.write.set own

  room-over : HasRoom (with_messages over ms)
  room-over = room-client (with_messages t ms) d (rested c (ended c)) r
      (narrow-last c (r.client d first last))

  ends : length (ms ++ commits t c.write.set stamp) ≤ most_messages
      → Encodes (write_ended b t.sizes.partitions t.sizes.items d stamp)
      (with_messages over (ms ++ commits t c.write.set stamp))
  unfolding write_ended
  ends room =
      subst
      (λ (s : ℕ).
      Encodes (up_to (send_commit (touched t.sizes.partitions s t.sizes.items) stamp)
      (write_kept b t.sizes.items d s stamp) t.sizes.partitions)
      (with_messages over (ms ++ commits t c.write.set stamp)))
      (sym set_word)
      (encodes-commits (with_messages over ms)
      (touched t.sizes.partitions c.write.set t.sizes.items) stamp
      t.sizes.partitions
      (λ p. touches t c.write.set p t.sizes.items)
      (λ p l. has-touched t some few c.write.set t.sizes.items p) room-over room kept)

  -- before the last one
  goes_on : is_last of_write c k ≡ false
      → Encodes (store b scalars (awaited_at d) (remove c.write.awaited k))
      (with_messages (with_view (with_client t d (struck c k)) d (t.view d)) (ms ++ []))
  goes_on more =
      subst
      (λ (x : List Message).
      Encodes (store b scalars (awaited_at d) (remove c.write.awaited k))
      (with_messages (with_view (with_client t d (struck c k)) d (t.view d)) x))
      (sym (append-nil ms))
      (encodes-same-view (put t.view d (t.view d))
      (encodes-changed n r last
      (changed-put (changed-none d b first (omega (arith, r.clients)) n.long) scalars 3
      (remove c.write.awaited k) (lit< tt))
      (narrow-struck c k (r.client d first last))
      (words-struck (words_of b d) c k (words-hold held) busy alone writes (ap is_mixed_mode mode)
      more))
      (λ e p q j g. by-test (eqb e d) (λ x. rw (x, eqb-true e d x) refl) (λ x. rw x refl)))

  pub encodes-written : length (ms ++ joined t (Prepared k stamp)) ≤ most_messages
      → Encodes (written_delivered b t.sizes.partitions t.sizes.items k stamp)
      (with_messages (delivered t (Prepared k stamp)) (ms ++ joined t (Prepared k stamp)))
  unfolding written_delivered delivered joined
  encodes-written room =
      subst
      (λ (z : ℕ).
      Encodes
      (cond (eqb (remove z k) 0) (write_ended b t.sizes.partitions t.sizes.items d stamp)
      (store b scalars (awaited_at d) (remove z k)))
      (with_messages (delivered t (Prepared k stamp)) (ms ++ joined t (Prepared k stamp))))
      (sym awaited-word)
      (by-test (eqb (remove c.write.awaited k) 0)
      (λ e. rw (e, none) (ends (rw (e, none) at room)))
      (λ e. rw (last_word ∙ e, e) (goes_on (last_word ∙ e))))
