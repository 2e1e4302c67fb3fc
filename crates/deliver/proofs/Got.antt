-- A got reply to a read on the block is a got reply in the tables: the answer is kept, the view
-- takes the latest of three, and the client goes on, or with the last one rests.
use mathlib.Core.Bool.{true, false, cond, and-true}
use mathlib.Core.List.{List}
use mathlib.Core.Logic.{◌≢◌}
use mathlib.Core.Path.{◌≡◌, refl, sym, ap, ◌∙◌, subst, fun_ext}
use Prim.Native.Nat.{ℕ, ◌^◌, ◌≤◌, ◌<◌}
use lib.Dec.{eqb, lit<}
use Rattle.basics.proofs.Cases.{by-test, not-both}
use Rattle.itemset.specs.Set.{has, remove}
use Rattle.itemset.proofs.Laws.{has-empty}
use Rattle.protocol.specs.declared.Version.{Version}
use Rattle.protocol.specs.declared.Entry.{Entry}
use Rattle.protocol.specs.Tables.{Tables, Client, of_read, rested, with_client, with_view}
use Rattle.protocol.specs.Range.{is_idle, is_writing}
use Rattle.protocol.specs.Steps.{answered, is_last, ended, got, seen}
use Rattle.protocol.proofs.Ranges.Clients.{ClientInRange}
use Rattle.layout.specs.Layout.{scalars, at, store, mode_at, awaited_at, is_mixed_mode}
use Rattle.layout.specs.Encodes.{writes_alone, Encodes, HoldsClient}
use Rattle.slots.proofs.Chosen.{unless}
use Rattle.layout.proofs.Room.{NarrowClient, HasRoom}
use Rattle.layout.proofs.Parts.{awaits-busy, writes_nothing, no-reply-awaited, mode-both}
use Rattle.layout.proofs.ClientWords.{words_of}
use Rattle.layout.proofs.ClientHolds.{words-hold}
use Rattle.layout.proofs.Changed.{Changed, changed-put, encodes-changed}
use Rattle.ends.specs.Ends.{read_ended}
use Rattle.ends.proofs.Rests.{kind-read}
use Rattle.ends.proofs.Ended.{encodes-read-ended}
use Rattle.deliver.specs.Deliver.{kept_answer, read_delivered}
use Rattle.deliver.proofs.Answered.{grown, seen_block, answer_words, encodes-seen-later}
use Rattle.deliver.proofs.Answered.{held-later, answer-changed, answers-held}
use Rattle.deliver.proofs.Struck.{words-answered, narrow-answered}

module _ {b : List ℕ} {t : Tables} (d : ℕ) (v : Version) (latest : Entry) (n : Encodes b t)
    (r : HasRoom t) (first : 1 ≤ d)
    (last : d ≤ t.sizes.clients) (item : v.item < t.sizes.items)
    (range : ClientInRange t.sizes (t.client d)) (by_stamp : (t.client d).read.stage ≢ 1)
    (awaits : has (t.client d).read.awaited v.item ≡ true) (fits : v.value < 2 ^ 32)
    (reads : is_writing (t.client d) ≡ false) where
  abbrev c : Client
  c = t.client d

  abbrev view : ℕ → Entry
  view = grown t d v latest

  reading : writes_alone c ≡ false
  reading = rw reads refl

  -- so that its words are one value each
  unmixed : {x : List ℕ} → HoldsClient x d c → is_mixed_mode (at x scalars (mode_at d)) ≡ false
  unmixed h = ap is_mixed_mode h.mode ∙ mode-both t.sizes c range ∙ rw reads refl

  busy : is_idle c ≡ false
  busy = awaits-busy t.sizes c range of_read v.item awaits

  -- the last item of the read part is the last of all
  last_word : is_last of_read c v.item ≡ eqb (remove c.read.awaited v.item) 0
  last_word = rw (no-reply-awaited t.sizes c range reads)
      (and-true (eqb (remove c.read.awaited v.item) 0))

  seen-later : Encodes (seen_block b d v latest) (with_view t d view)
  seen-later = encodes-seen-later d v latest n r first last item

  held : HoldsClient (seen_block b d v latest) d c
  held = held-later d v latest n r first last item

  kept : Changed d (seen_block b d v latest) (kept_answer b d v latest) (answer_words b d v latest)
  kept = answer-changed d v latest n r first last item

  narrow : NarrowClient (answered c v.item v.value)
  narrow = narrow-answered c v.item v.value (r.client d first last)

  ends : Encodes (read_ended (kept_answer b d v latest) t.sizes.items d)
      (with_client (with_view t d view) d
      (rested c (ended (answered c v.item v.value))))
  ends =
      let after = answered c v.item v.value in
      encodes-read-ended after seen-later r narrow last range.read.set kept
      (ap (λ (stage : ℕ). cond (eqb stage 0) 1 3) (held.read reading).stage
      ∙ sym (kind-read after reads))
      reads held.count (held.read reading).set (held.read reading).asked
      (λ j e. unless _ _ _ _ (unmixed held) refl
      ∙ answers-held d v latest n r first last item fits reading j e)

  goes_on : is_last of_read c v.item ≡ false
      → Encodes (store (kept_answer b d v latest) scalars (awaited_at d)
      (remove c.read.awaited v.item))
      (with_client (with_view t d view) d (answered c v.item v.value))
  goes_on more =
      encodes-changed seen-later r last
      (changed-put kept scalars 3 (remove c.read.awaited v.item) (lit< tt)) narrow
      (words-answered (words_of (seen_block b d v latest) d) c v.item (words-hold held) busy
      v.value _ by_stamp reading (λ w. not-both w reads) more
      (answers-held d v latest n r first last item fits reading) (λ w. not-both w reads))

  -- with no write part nothing of one is seen
  abbrev view_after : ℕ → Entry
  view_after = cond (is_last of_read c v.item) (seen view c.write.set c.write.stamp) view

  view-after : view_after ≡ view
  view-after =
      by-test (is_last of_read c v.item)
      (λ e. rw (e, writes_nothing t.sizes c range reads) (fun_ext (λ j. rw (has-empty j) refl)))
      (λ e. rw e refl)

  pub encodes-read-got : Encodes (read_delivered b t.sizes.items d v latest)
      (with_view (with_client t d (got c v.item v.value)) d view_after)
  unfolding read_delivered
  encodes-read-got =
      subst (λ (f : ℕ → Entry). Encodes (read_delivered b t.sizes.items d v latest)
      (with_view (with_client t d (got c v.item v.value)) d f)) (sym view-after)
      (subst
      (λ (z : ℕ).
      Encodes
      (cond (eqb (remove z v.item) 0) (read_ended (kept_answer b d v latest) t.sizes.items d)
      (store (kept_answer b d v latest) scalars (awaited_at d) (remove z v.item)))
      (with_view (with_client t d (got c v.item v.value)) d view))
      (sym ((n.client d first last).read reading).awaited)
      (by-test (eqb (remove c.read.awaited v.item) 0)
      (λ e. rw (e, no-reply-awaited t.sizes c range reads) ends)
      (λ e. rw e (goes_on (last_word ∙ e)))))
