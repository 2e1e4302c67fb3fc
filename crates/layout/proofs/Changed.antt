-- A change of one client, store by store: each store adds one word, and at the end the words say
-- which client the block holds.
use mathlib.Core.Bool.{false}
use mathlib.Core.List.{List}
use mathlib.Core.Path.{◌≡◌, ap, ◌∙◌, subst}
use Prim.Native.Nat.{ℕ, ◌+◌, ◌*◌, ◌≤◌, ◌<◌}
use native.Mathlib.Omega.{arith}
use lib.ListN.{length}
use Rattle.protocol.specs.declared.Entry.{Entry}
use Rattle.protocol.specs.Tables.{Tables, Client, put, with_client}
use Rattle.layout.specs.Layout.{entry_words, Section, firsts, store, needed}
use Rattle.layout.specs.Store.{store_first}
use Rattle.layout.specs.Encodes.{Encodes}
use Rattle.layout.proofs.Room.{HasRoom, NarrowClient}
use Rattle.layout.proofs.Sections.{is_section, row_width, row_at}
use Rattle.layout.proofs.ClientWords.{Words, words_of, HasWords, has_words, has-words-put}
use Rattle.layout.proofs.ClientWords.{put_word, with_row, put-row, put-row-other}
use Rattle.layout.proofs.ClientHolds.{WordsHold, holds-words}
use Rattle.layout.proofs.RowEntries.{put_entry}
use Rattle.layout.proofs.SameBut.{SameBut, same-but-refl, same-but-trans, same-but-put}
use Rattle.layout.proofs.EncodesClient.{encodes-client}

-- b' is b but for words of client d, which are w now
pub record Changed (d : ℕ) (b b' : List ℕ) (w : Words) : Type 0 where
  pub first : 1 ≤ d
  pub last : d ≤ 8
  pub long : needed ≤ length b'
  pub same : SameBut d b b'
  pub words : HasWords d b' w

pub changed-none : (d : ℕ) (b : List ℕ) → 1 ≤ d → d ≤ 8 → needed ≤ length b
    → Changed d b b (words_of b d)
changed-none d b l h long = record
    { first = l; last = h; long = long; same = same-but-refl d b; words = has_words d b }

-- one store more
pub changed-put : {d : ℕ} {b b' : List ℕ} {w : Words} → Changed d b b' w → (s : Section)
    (k v : ℕ) → k < row_width s → Changed d b (store b' s (row_at s d k) v) (put_word w s k v)
changed-put {d} {b} {b'} {w} c s k v l =
    let same : SameBut d b' (store b' s (row_at s d k) v) =
    same-but-put d b' s k v c.first c.last l in
    record {
      first = c.first;
      last = c.last;
      long = omega (arith, c.long, same.long);
      same = same-but-trans c.same same;
      words = has-words-put c.first c.last c.long c.words s k v l;
    }

-- into a row that is told as a whole
pub changed_row : {d : ℕ} {b b' : List ℕ} (w : Words) (s : Section) (f : ℕ → ℕ)
    → Changed d b b' (with_row w s f) → (k v : ℕ) → k < row_width s
    → Changed d b (store b' s (row_at s d k) v) (with_row w s (put f k v))
changed_row {d} {b} w s f c k v l =
    subst (Changed d b _) (put-row w s f k v) (changed-put c s k v l)

-- into two such rows
pub changed-rows : {d : ℕ} {b b' : List ℕ} (w : Words) (s : Section) (f : ℕ → ℕ) (r : Section)
    (g : ℕ → ℕ) → is_section s r ≡ false → Changed d b b' (with_row (with_row w s f) r g)
    → (k u v : ℕ) → k < row_width s → k < row_width r
    → Changed d b (store (store b' s (row_at s d k) u) r (row_at r d k) v)
    (with_row (with_row w s (put f k u)) r (put g k v))
changed-rows {d} {b} w s f r g n c k u v l h =
    changed_row (with_row w s (put f k u)) r g
    (subst (Changed d b _)
    (put-row-other (with_row w s f) r g s k u n
    ∙ ap (λ (x : Words). with_row x r g) (put-row w s f k u)) (changed-put c s k u l))
    k v h

-- a first reply into their row
pub changed-first : {d : ℕ} {b b' : List ℕ} (w : Words) (f : ℕ → ℕ)
    → Changed d b b' (with_row w firsts f) → (k : ℕ) (e : Entry) → k < 64
    → Changed d b (store_first b' d k e) (with_row w firsts (put_entry f k e))
changed-first w f c k e l =
    changed_row w firsts (put f (entry_words * k + 0) e.stamp)
    (changed_row w firsts f c (entry_words * k + 0) e.stamp (omega arith))
    (entry_words * k + 1) e.set (omega arith)

pub encodes-changed : {b b' : List ℕ} {t : Tables} {d : ℕ} {w : Words} {c : Client} → Encodes b t
    → HasRoom t → d ≤ t.sizes.clients
    → Changed d b b' w → NarrowClient c → WordsHold w c → Encodes b' (with_client t d c)
encodes-changed n r h x narrow holds =
    encodes-client n r x.first h x.same (holds-words x.words narrow holds)
