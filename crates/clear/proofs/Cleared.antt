-- A clearing on the block is the protocol's in the tables that it holds.
use mathlib.Core.Bool.{true}
use mathlib.Core.List.{List, [], ◌∷◌, ◌++◌}
use mathlib.Core.Logic.{◌≢◌}
use mathlib.Core.Path.{◌≡◌, refl, sym, ap, ap₂, ◌∙◌}
use Prim.Native.Nat.{ℕ, zero, suc, ◌+◌, ◌-◌, ◌≤◌, ◌<◌, min}
use native.Mathlib.Nat.{not-suc-le-zero, le_of_suc-le-suc}
use native.Mathlib.Omega.{arith}
use lib.ListN.{length, get_or, set, get_or-append}
use lib.Seq.{sets, get_or-append-add}
use Rattle.basics.specs.Lists.{In, table, dropped}
use Rattle.basics.proofs.Lists.{length-table, in_table, dropped-ext}
use Rattle.protocol.specs.declared.Version.{Version}
use Rattle.protocol.specs.Tables.{Tables}
use Rattle.protocol.specs.Range.{capacities}
use Rattle.protocol.specs.Clear.{goes, cleared, gone}
use Rattle.protocol.proofs.Cleared.{length-cleared}
use Rattle.protocol.proofs.Ranges.Values.{initial-not}
use Rattle.protocol.proofs.Ranges.Tables.{Valid, valid-within}
use Rattle.layout.specs.Layout.{most_clients, most_versions, version_words, header, versions, messages}
use Rattle.layout.specs.Layout.{base, needed, at, store, clients_at, versions_at, messages_at}
use Rattle.layout.specs.Layout.{version_at, message_at}
use Rattle.layout.specs.Decode.{version_in, tables_of, valid_block}
use Rattle.layout.specs.Store.{words_of_version}
use Rattle.layout.specs.Encodes.{Encodes, HoldsVersion}
use Rattle.layout.proofs.Kept.{moved-message}
use Rattle.layout.proofs.EncodesLists.{encodes-lists}
use Rattle.layout.proofs.Past.{SamePast}
use Rattle.layout.proofs.Room.{room-valid}
use Rattle.slots.proofs.Runs.{run_length, run-before, run-behind, run-within, run-elsewhere}
use Rattle.slots.proofs.SameLists.{same_lists}
use Rattle.encoding.proofs.WellFormed.{tells-valid-block}
use Rattle.encoding.proofs.Decoded.{few-versions}
use Rattle.clear.specs.Clear.{words_of_versions, cleared_block}
use Rattle.clear.specs.Stamps.{stamps_in, absent, staying, NoneInitial}
use Rattle.clear.proofs.Gathered.{absent-unused}
use Rattle.clear.proofs.Staying.{length-words}

-- ---- what the code leaves of a valid block

module _ (b : List ℕ) (v : valid_block b ≡ true) where
  abbrev n : ℕ
  n = at b header versions_at

  pub few : n ≤ most_versions
  few = ((tells-valid-block b).0 v).well_formed.version_count

  pub clients-few : at b header clients_at ≤ most_clients
  clients-few = ((tells-valid-block b).0 v).well_formed.sizes.clients

  pub long : needed ≤ length b
  long = ((tells-valid-block b).0 v).well_formed.long

  the-versions : (tables_of b).versions ≡ table n (version_in b)
  unfolding tables_of
  the-versions =
      let less : min n most_versions ≡ n = omega (arith, few) in
      rw less refl

  not-initial : (x : Version) → In x (table n (version_in b)) → x.stamp ≢ 0
  not-initial x i =
      initial-not (tables_of b).sizes x.stamp
      (((tells-valid-block b).0 v).valid.in_range.versions x (rw the-versions i)).stamp

  pub none-initial : {count : ℕ} → count ≡ n → NoneInitial b count
  none-initial e i l = not-initial (version_in b i) (in_table n (version_in b) i (omega arith))

  pub staying-cleared : staying (stamps_in b) b n ≡ (cleared (tables_of b)).versions
  unfolding staying
  staying-cleared =
      let f = ((tells-valid-block b).0 v).well_formed in
      dropped-ext (λ x. absent (stamps_in b) x.stamp) (goes (tables_of b)) (table n (version_in b))
      (λ x i. absent-unused b f.sizes.clients f.sizes.items f.message_count x.stamp
      (not-initial x i))
      ∙ ap (dropped (goes (tables_of b))) (sym the-versions)

  cleared-gone : (kept : ℕ) → kept ≡ length (staying (stamps_in b) b n)
      → n - kept ≡ gone (tables_of b)
  cleared-gone kept e =
      omega (
        arith,
        e ∙ ap length staying-cleared,
        length-cleared (tables_of b),
        ap length the-versions ∙ length-table n (version_in b),
      )

  cleared-words : (kept : ℕ) (after : List ℕ) → kept ≡ length (staying (stamps_in b) b n)
      → after ≡ store (sets b (base versions) (words_of_versions (staying (stamps_in b) b n))) header
      versions_at kept
      → after ≡ cleared_block b
  unfolding cleared_block
  cleared-words kept after e a =
      a ∙ ap (λ (k : ℕ). store (sets b (base versions)
      (words_of_versions (staying (stamps_in b) b n))) header versions_at k) e
      ∙ ap (λ (vs : List Version). store (sets b (base versions) (words_of_versions vs)) header
      versions_at (length vs)) staying-cleared

  pub cleared-given : {stamps : List ℕ} {count kept : ℕ} {moved after : List ℕ}
      → stamps ≡ stamps_in b → count ≡ n
      → kept ≡ length (staying stamps b count)
      → moved ≡ sets b (base versions) (words_of_versions (staying stamps b count))
      → after ≡ store moved header versions_at kept
      → (count - kept ≡ gone (tables_of b)) × (after ≡ cleared_block b)
  cleared-given {stamps} {count} {kept} {moved} {after} s c k m a =
      let k' : kept ≡ length (staying (stamps_in b) b n) = k
      ∙ ap₂ (λ (x : List ℕ) (y : ℕ). length (staying x b y)) s c in
      let m' : moved ≡ sets b (base versions) (words_of_versions (staying (stamps_in b) b n)) = m
      ∙ ap₂ (λ (x : List ℕ) (y : ℕ). sets b (base versions) (words_of_versions (staying x b y))) s c
      in (
        ap (λ (x : ℕ). x - kept) c ∙ cleared-gone kept k',
        cleared-words kept after k'
            (a ∙ ap (λ (l : List ℕ). store l header versions_at kept) m'),
      )

-- ---- the tables that the block then holds

words-at : (vs : List Version) (i f : ℕ) (none : Version) → i < length vs → f < version_words
    → get_or (words_of_versions vs) (version_at i f) 0 ≡ get_or (words_of_version (get_or vs i none)) f 0
unfolding words_of_versions
words-at [] i f none l h = absurd (not-suc-le-zero l)
words-at (v ∷ vs) zero f none l h =
    ap (λ (p : ℕ). get_or (words_of_version v ++ words_of_versions vs) p 0) (first f)
    ∙ get_or-append (words_of_version v) (words_of_versions vs) 0 f h
  where
    first : (f : ℕ) → version_at 0 f ≡ f
    first f = omega arith
words-at (v ∷ vs) (suc i) f none l h =
    ap (λ (p : ℕ). get_or (words_of_version v ++ words_of_versions vs) p 0) (next i f)
    ∙ get_or-append-add (words_of_version v) (words_of_versions vs) (version_at i f) 0
    ∙ words-at vs i f none (le_of_suc-le-suc l) h
  where
    next : (i f : ℕ) → version_at (suc i) f ≡ version_words + version_at i f
    next i f = omega arith

module _ (b : List ℕ) (t : Tables) (same : tables_of b ≡ t) (h : Encodes b t)
    (v : Valid capacities t) where
  abbrev kept : List Version
  kept = (cleared t).versions

  abbrev ws : List ℕ
  ws = words_of_versions kept

  kept-few : length kept ≤ most_versions
  kept-few = omega (arith, length-cleared t, few-versions t (valid-within capacities t v))

  is-cleared : cleared_block b ≡ set (sets b (base versions) ws) versions_at (length kept)
  unfolding cleared_block
  is-cleared = rw same refl

  word_of : (i f : ℕ) → i < length kept → f < version_words → (none : Version)
      → at (cleared_block b) versions (version_at i f)
      ≡ get_or (words_of_version (get_or kept i none)) f 0
  word_of i f l g none =
      ap (λ (c : List ℕ). at c versions (version_at i f)) is-cleared
      ∙ run-within b (base versions) ws versions_at (length kept) 0
      (base versions + version_at i f) (version_at i f) refl
      (omega (arith, length-words kept)) (omega (arith, length-words kept, kept-few, h.long))
      (omega arith)
      ∙ words-at kept i f none l g

  holds : (i : ℕ) → i < length kept → (none : Version)
      → HoldsVersion (cleared_block b) i (get_or kept i none)
  holds i l none =
      record {
        item = word_of i 0 l (omega arith) none;
        value = word_of i 1 l (omega arith) none;
        stamp = word_of i 2 l (omega arith) none;
        set = word_of i 3 l (omega arith) none;
      }

  pub encodes-clear : Encodes (cleared_block b) (cleared t)
  encodes-clear =
      rw is-cleared
      (encodes-lists kept t.messages h (room-valid t v)
      (same_lists b (base versions) ws versions_at (length kept) (omega arith) (omega arith)
      (omega arith))
      (run-elsewhere b (base versions) ws versions_at (length kept) 0 (omega (arith, h.long)))
      (run-before b (base versions) ws versions_at (length kept) 0 messages_at (omega arith)
      (omega arith) ∙ h.message_count)
      (λ i l none. rw is-cleared at (holds i l none))
      (λ i l none.
      moved-message b (set (sets b (base versions) ws) versions_at (length kept)) i i
      (get_or t.messages i none)
      (λ f g. run-behind b (base versions) ws versions_at (length kept) 0
      (base messages + message_at i f) (omega (arith, length-words kept, kept-few)) (omega arith))
      (h.messages i l none)))

  -- it keeps the block's length and every word past what a block needs
  pub past-clear : SamePast b (cleared_block b)
  past-clear =
      rw is-cleared (record {
        long = run_length b (base versions) ws versions_at (length kept) 0;
        past = λ j l. run-behind b (base versions) ws versions_at (length kept) 0 j
            (omega (arith, length-words kept, kept-few)) (omega arith);
      })
