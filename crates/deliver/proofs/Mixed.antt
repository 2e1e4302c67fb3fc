-- Replies to a mixed transaction on the block are those in the tables: the client goes on, or with
-- the last reply of either kind it rests, the view takes what it wrote, and commits join.
use mathlib.Core.Bool.{Bool, true, false, ◌&&◌, ◌||◌}
use mathlib.Core.List.{List, [], map, ◌++◌, append-nil}
use mathlib.Core.Logic.{◌≢◌}
use mathlib.Core.Path.{◌≡◌, refl, sym, ap, ◌∙◌, subst, fun_ext}
use Prim.Native.Nat.{ℕ, zero, suc, ◌^◌, ◌≤◌, ◌<◌}
use native.Mathlib.Omega.{arith}
use lib.Dec.{eqb, lit<}
use lib.ListN.{length}
use borrow.Author.Tests.{eqb-true}
use Rattle.basics.proofs.Cases.{by-test}
use Rattle.itemset.specs.Set.{has, remove, upto}
use Rattle.protocol.specs.declared.Version.{Version}
use Rattle.protocol.specs.declared.Entry.{Entry}
use Rattle.protocol.specs.declared.Message.{Message}
use Rattle.protocol.specs.declared.Message.TheVariants.{Prepared, Commit, Got}
use Rattle.protocol.specs.Tables.{Sizes, Tables, Client, of_read, of_write, writer_of, rested, put}
use Rattle.protocol.specs.Tables.{partition_of, with_client, with_view, with_messages}
use Rattle.protocol.specs.Range.{is_writing}
use Rattle.protocol.specs.Steps.{struck, answered, is_last, ended, seen, delivered, touches, commits}
use Rattle.protocol.specs.Steps.{joined}
use Rattle.protocol.proofs.Put.{put_same}
use Rattle.protocol.proofs.Ranges.Clients.{ClientInRange}
use Rattle.layout.specs.Layout.{most_messages, scalars, asked, values, at, store, mode_at}
use Rattle.layout.specs.Layout.{awaited_at, write_set_at, write_awaited_at, is_mixed_mode}
use Rattle.layout.specs.Layout.{low_half, high_half}
use Rattle.layout.specs.Encodes.{writes_alone, is_mixed, Encodes, HoldsClient}
use Rattle.slots.proofs.Chosen.{when}
use Rattle.layout.proofs.Room.{HasRoom, NarrowClient, room-client}
use Rattle.layout.proofs.Parts.{alone-or-mixed, mixed-reads, mode-mixed, awaits-busy}
use Rattle.layout.proofs.ClientWords.{Words, words_of}
use Rattle.layout.proofs.ClientHolds.{words-hold}
use Rattle.layout.proofs.Changed.{Changed, changed-none, changed-put, encodes-changed}
use Rattle.layout.proofs.Same.{encodes-same-view}
use Rattle.ends.specs.Ends.{touched, mixed_ended}
use Rattle.ends.proofs.Rests.{narrow-last}
use Rattle.ends.proofs.Ended.{encodes-mixed-kept}
use Rattle.ends.proofs.Touched.{has-touched}
use Rattle.ends.proofs.Commits.{encodes-commits}
use Rattle.deliver.specs.Deliver.{mixed_prepared, kept_answer, mixed_got}
use Rattle.deliver.proofs.Answered.{grown, seen_block, answer_words, encodes-seen-later}
use Rattle.deliver.proofs.Answered.{held-later, answer-changed, answers-held, values-held}
use Rattle.deliver.proofs.Struck.{words-answered, words-mixed-struck, narrow-answered}
use Rattle.deliver.proofs.Struck.{narrow-struck}

-- ---- the end, of client c with words w in block b

module _ {a b : List ℕ} (t : Tables) (ms : List Message) {d : ℕ} {w : Words} (c : Client)
    (n : Encodes a (with_messages t ms)) (r : HasRoom (with_messages t ms)) (narrow : NarrowClient c)
    (some : 1 ≤ t.sizes.partitions) (few : t.sizes.partitions ≤ 8)
    (last : d ≤ t.sizes.clients) (reads : c.read.set < 2 ^ t.sizes.items)
    (writes : c.write.set < 2 ^ t.sizes.items) (changed : Changed d a b w)
    (writing : is_writing c ≡ true) (reading : eqb c.read.set 0 ≡ false)
    (counted : w scalars 1 ≡ c.count) (set : w scalars 2 ≡ c.read.set)
    (stamp : w scalars 4 ≡ c.write.stamp) (written : w scalars 8 ≡ c.write.set)
    (asks : (k : ℕ) → has c.read.set k ≡ true → w asked k ≡ c.read.asked k)
    (answers : (k : ℕ) → has c.read.set k ≡ true → low_half (w values k) ≡ c.read.values k)
    (kept : (k : ℕ) → has c.write.set k ≡ true → high_half (w values k) ≡ c.write.values k)
  where
    abbrev s : ℕ
    s = c.write.set

    abbrev σ : ℕ
    σ = c.write.stamp

    abbrev over : Tables
    over = with_view (with_client t d (rested c (ended c))) d (seen (t.view d) s σ)

    room-over : HasRoom (with_messages over ms)
    room-over = room-client (with_messages t ms) d (rested c (ended c)) r (narrow-last c narrow)

    pub encodes-mixed-ended : length (ms ++ commits t s σ) ≤ most_messages
        → Encodes (mixed_ended b t.sizes.partitions t.sizes.items d)
        (with_messages over (ms ++ commits t s σ))
    unfolding mixed_ended
    encodes-mixed-ended room =
        let word = changed.words.row scalars in
        rw (word 8 (lit< tt) ∙ written, word 4 (lit< tt) ∙ stamp, word 2 (lit< tt) ∙ set)
        (encodes-commits (with_messages over ms)
        (touched t.sizes.partitions s t.sizes.items) σ
        t.sizes.partitions (λ p. touches t s p t.sizes.items)
        (λ p l. has-touched t some few s t.sizes.items p) room-over room
        (encodes-mixed-kept c n r narrow last reads writes changed writing reading counted asks
        answers kept))

-- commits go by the sizes alone, not by a view
same-touches : (t : Tables) (d : ℕ) (f : ℕ → Entry) (s p n : ℕ)
    → touches (with_view t d f) s p n ≡ touches t s p n
unfolding touches
same-touches t d f s p zero = refl
same-touches t d f s p (suc n) =
    ap (λ (x : Bool). x || (has s n && eqb (partition_of t n) p)) (same-touches t d f s p n)

same-commits : (t : Tables) (d : ℕ) (f : ℕ → Entry) (s σ : ℕ)
    → commits (with_view t d f) s σ ≡ commits t s σ
same-commits t d f s σ =
    ap (λ (q : ℕ → Bool). map (λ p. Commit p σ) (upto t.sizes.partitions q))
    (fun_ext (λ p. same-touches t d f s p t.sizes.items))

-- ---- what the words of such a client are

module _ {b : List ℕ} {d : ℕ} {z : Sizes} (c : Client) (h : HoldsClient b d c)
    (range : ClientInRange z c) (writes : is_writing c ≡ true) (both : writes_alone c ≡ false) where
  mixed : is_mixed c ≡ true
  mixed = alone-or-mixed c writes both

  pub mixed-word : at b scalars (mode_at d) ≡ 5
  mixed-word = h.mode ∙ mode-mixed z c range mixed

  pub mixed-mode : is_mixed_mode (at b scalars (mode_at d)) ≡ true
  mixed-mode = ap is_mixed_mode mixed-word

  pub reads-some : eqb c.read.set 0 ≡ false
  reads-some = mixed-reads z c range mixed

  pub write-set-word : at b scalars (write_set_at d) ≡ c.write.set
  write-set-word = let own = (h.write writes).set in rw mixed-word at own

  pub write-awaited-word : at b scalars (write_awaited_at d) ≡ c.write.awaited
  write-awaited-word = let own = (h.write writes).awaited in rw mixed-word at own

-- ---- a prepared reply

module _ {b : List ℕ} (t : Tables) (ms : List Message) (k stamp : ℕ)
    (n : Encodes b (with_messages t ms)) (r : HasRoom (with_messages t ms))
    (some : 1 ≤ t.sizes.partitions) (few : t.sizes.partitions ≤ 8) (first : 1 ≤ writer_of stamp)
    (last : writer_of stamp ≤ t.sizes.clients)
    (range : ClientInRange t.sizes (t.client (writer_of stamp)))
    (awaits : has (t.client (writer_of stamp)).write.awaited k ≡ true)
    (own : (t.client (writer_of stamp)).write.stamp ≡ stamp)
    (writes : is_writing (t.client (writer_of stamp)) ≡ true)
    (both : writes_alone (t.client (writer_of stamp)) ≡ false) where
  abbrev d : ℕ
  d = writer_of stamp

  abbrev c : Client
  c = t.client d

  held : HoldsClient b d c
  held = n.client d first last

  mode : at b scalars (mode_at d) ≡ 5
  mode = mixed-word c held range writes both

  none : Changed d b b (words_of b d)
  none = changed-none d b first (omega (arith, r.clients)) n.long

  prepared-ends : length (ms ++ commits t c.write.set stamp) ≤ most_messages
      → Encodes (mixed_ended b t.sizes.partitions t.sizes.items d)
      (with_messages (with_view (with_client t d (rested c (ended c))) d
      (seen (t.view d) c.write.set stamp)) (ms ++ commits t c.write.set stamp))
  prepared-ends =
      subst (λ (σ : ℕ). length (ms ++ commits t c.write.set σ) ≤ most_messages
      → Encodes (mixed_ended b t.sizes.partitions t.sizes.items d)
      (with_messages (with_view (with_client t d (rested c (ended c))) d
      (seen (t.view d) c.write.set σ)) (ms ++ commits t c.write.set σ))) own
      (encodes-mixed-ended t ms c n r (r.client d first last) some few last range.read.set
      range.write.set none writes (reads-some c held range writes both) held.count
      (held.read both).set (held.write writes).stamp (write-set-word c held range writes both)
      (held.read both).asked
      (λ j e. let x = (held.read both).values j e in rw mode at x)
      (λ j e. let x = (held.write writes).values j e in rw mode at x))

  prepared-goes-on : is_last of_write c k ≡ false
      → Encodes (store b scalars (write_awaited_at d) (remove c.write.awaited k))
      (with_messages (with_view (with_client t d (struck c k)) d (t.view d)) (ms ++ []))
  prepared-goes-on more =
      subst
      (λ (x : List Message).
      Encodes (store b scalars (write_awaited_at d) (remove c.write.awaited k))
      (with_messages (with_view (with_client t d (struck c k)) d (t.view d)) x))
      (sym (append-nil ms))
      (encodes-same-view (put t.view d (t.view d))
      (encodes-changed n r last
      (changed-put none scalars 9 (remove c.write.awaited k) (lit< tt))
      (narrow-struck c k (r.client d first last))
      (words-mixed-struck (words_of b d) c k (words-hold held)
      (awaits-busy t.sizes c range of_write k awaits) both writes (ap is_mixed_mode mode) more))
      (λ e p q j g. by-test (eqb e d) (λ x. rw (x, eqb-true e d x) refl) (λ x. rw x refl)))

  pub encodes-mixed-prepared : length (ms ++ joined t (Prepared k stamp)) ≤ most_messages
      → Encodes (mixed_prepared b t.sizes.partitions t.sizes.items d k)
      (with_messages (delivered t (Prepared k stamp)) (ms ++ joined t (Prepared k stamp)))
  unfolding mixed_prepared delivered joined
  encodes-mixed-prepared room =
      rw ((held.read both).awaited, write-awaited-word c held range writes both)
      (by-test (is_last of_write c k)
      (λ e. rw e (prepared-ends (rw e at room))) (λ e. rw e (prepared-goes-on e)))

-- ---- a got reply

module _ {b : List ℕ} (t : Tables) (ms : List Message) (d : ℕ) (v : Version) (latest : Entry)
    (n : Encodes b (with_messages t ms)) (r : HasRoom (with_messages t ms))
    (some : 1 ≤ t.sizes.partitions) (few : t.sizes.partitions ≤ 8) (first : 1 ≤ d)
    (last : d ≤ t.sizes.clients) (item : v.item < t.sizes.items) (fits : v.value < 2 ^ 32)
    (range : ClientInRange t.sizes (t.client d)) (by_stamp : (t.client d).read.stage ≢ 1)
    (awaits : has (t.client d).read.awaited v.item ≡ true)
    (writes : is_writing (t.client d) ≡ true) (both : writes_alone (t.client d) ≡ false) where
  abbrev asker : Client
  asker = t.client d

  abbrev after : Client
  after = answered asker v.item v.value

  abbrev view : ℕ → Entry
  view = grown t d v latest

  abbrev seen_tables : Tables
  seen_tables = with_view t d view

  seen-later : Encodes (seen_block b d v latest) (with_messages seen_tables ms)
  seen-later = encodes-seen-later d v latest n r first last item

  client-held : HoldsClient (seen_block b d v latest) d asker
  client-held = held-later d v latest n r first last item

  got-mode : at (seen_block b d v latest) scalars (mode_at d) ≡ 5
  got-mode = mixed-word asker client-held range writes both

  mixed-got : is_mixed_mode (at (seen_block b d v latest) scalars (mode_at d)) ≡ true
  mixed-got = ap is_mixed_mode got-mode

  kept : Changed d (seen_block b d v latest) (kept_answer b d v latest) (answer_words b d v latest)
  kept = answer-changed d v latest n r first last item

  narrow : NarrowClient after
  narrow = narrow-answered asker v.item v.value (r.client d first last)

  abbrev wrote : ℕ
  wrote = asker.write.set

  abbrev stamped : ℕ
  stamped = asker.write.stamp

  got-ends : length (ms ++ commits t wrote stamped) ≤ most_messages
      → Encodes (mixed_ended (kept_answer b d v latest) t.sizes.partitions t.sizes.items d)
      (with_messages (with_view (with_client t d (rested asker (ended after))) d
      (seen view wrote stamped)) (ms ++ commits t wrote stamped))
  got-ends =
      subst (λ (cs : List Message). length (ms ++ cs) ≤ most_messages
      → Encodes (mixed_ended (kept_answer b d v latest) t.sizes.partitions t.sizes.items d)
      (with_messages (with_view (with_client t d (rested asker (ended after))) d
      (seen view wrote stamped)) (ms ++ cs)))
      (same-commits t d view wrote stamped)
      (λ room. encodes-same-view (put t.view d (seen view wrote stamped))
      (encodes-mixed-ended seen_tables ms after seen-later r narrow some few last range.read.set
      range.write.set kept writes (reads-some asker client-held range writes both)
      client-held.count (client-held.read both).set (client-held.write writes).stamp
      (write-set-word asker client-held range writes both) (client-held.read both).asked
      (λ j e. when _ _ _ _ mixed-got refl
      ∙ answers-held d v latest n r first last item fits both j e)
      (λ j e. when _ _ _ _ mixed-got refl
      ∙ values-held d v latest n r first last item mixed-got writes j e) room)
      (λ e p q j g. by-test (eqb e d)
      (λ x. rw x (ap (λ (f : ℕ → Entry). seen f wrote stamped j) (put_same t.view d view)))
      (λ x. rw x refl)))

  got-goes-on : is_last of_read asker v.item ≡ false
      → Encodes (store (kept_answer b d v latest) scalars (awaited_at d)
      (remove asker.read.awaited v.item))
      (with_messages (with_view (with_client t d after) d view) (ms ++ []))
  got-goes-on more =
      subst (λ (x : List Message). Encodes (store (kept_answer b d v latest) scalars (awaited_at d)
      (remove asker.read.awaited v.item))
      (with_messages (with_view (with_client t d after) d view) x)) (sym (append-nil ms))
      (encodes-changed seen-later r last
      (changed-put kept scalars 3 (remove asker.read.awaited v.item) (lit< tt)) narrow
      (words-answered (words_of (seen_block b d v latest) d) asker v.item (words-hold client-held)
      (awaits-busy t.sizes asker range of_read v.item awaits) v.value _ by_stamp both
      (λ x. mixed-got) more
      (answers-held d v latest n r first last item fits both)
      (λ x. values-held d v latest n r first last item mixed-got writes)))

  pub encodes-mixed-got : length (ms ++ joined t (Got d v latest)) ≤ most_messages
      → Encodes (mixed_got b t.sizes.partitions t.sizes.items d v latest)
      (with_messages (delivered t (Got d v latest)) (ms ++ joined t (Got d v latest)))
  unfolding mixed_got delivered joined
  encodes-mixed-got room =
      let held = n.client d first last in
      rw ((held.read both).awaited, write-awaited-word asker held range writes both)
      (by-test (is_last of_read asker v.item)
      (λ e. rw e (got-ends (rw e at room))) (λ e. rw e (got-goes-on e)))
