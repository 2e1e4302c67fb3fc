-- The changes of a block, one for each field, and for whole entries, versions and messages: what
-- the setters write.
use Rattle.std.specs.Prelude.{List, [], ◌∷◌, ◌++◌, ℕ, ◌+◌, ◌-◌, ◌*◌, get_or, take, drop, replicate}
use Rattle.std.proofs.lemmas.List.Edits.{sets}
use Rattle.protocol.specs.declared.Version.{Version}
use Rattle.protocol.specs.declared.Entry.{Entry}
use Rattle.protocol.specs.declared.Message.{Message}
use Rattle.protocol.specs.Message.{parts_of}
use Rattle.layout.specs.Layout.{message_words, Section, header, latest, views, firsts}
use Rattle.layout.specs.Layout.{versions, messages, base, needed, store, clients_at}
use Rattle.layout.specs.Layout.{partitions_at, items_at, versions_at, messages_at, latest_at}
use Rattle.layout.specs.Layout.{view_at, first_at, version_at, message_at}

-- ---- sizes

abbrev pub store_sizes : List ℕ → ℕ → ℕ → ℕ → List ℕ
store_sizes b clients partitions items =
    store (store (store b header clients_at clients) header partitions_at partitions) header items_at
    items

-- the first n words are 0
unfoldable pub blank : ℕ → List ℕ → List ℕ
blank n b = replicate n 0 ++ drop n b

-- what an accepted fresh leaves: every word of the needed length is 0 but the sizes
unfoldable pub fresh_block : List ℕ → ℕ → ℕ → ℕ → List ℕ
fresh_block b clients partitions items = store_sizes (blank needed b) clients partitions items

-- ---- entries

abbrev pub store_entry : List ℕ → Section → ℕ → Entry → List ℕ
store_entry b s i e = store (store b s i e.stamp) s (i + 1) e.set

abbrev pub store_latest : List ℕ → ℕ → Entry → List ℕ
store_latest b k e = store_entry b latest (latest_at k) e

abbrev pub store_view : List ℕ → ℕ → ℕ → Entry → List ℕ
store_view b d k e = store_entry b views (view_at d k) e

abbrev pub store_first : List ℕ → ℕ → ℕ → Entry → List ℕ
store_first b d k e = store (store b firsts (first_at d k 0) e.stamp) firsts (first_at d k 1)
    e.set

-- ---- versions and messages: their words in order, 0 where a message's kind doesn't use one

abbrev pub words_of_version : Version → List ℕ
words_of_version v = v.item ∷ v.value ∷ v.stamp ∷ v.set ∷ []

abbrev pub words_of_message : Message → List ℕ
words_of_message m =
    let p = parts_of m in
    p.kind ∷ p.place ∷ p.item ∷ p.value ∷ p.stamp ∷ p.set
    ∷ p.latest.stamp ∷ p.latest.set ∷ []

abbrev pub word_of : Message → ℕ → ℕ
word_of m f = get_or (words_of_message m) f 0

unfoldable pub store_version : List ℕ → ℕ → Version → List ℕ
store_version b i v = sets b (base versions + version_at i 0) (words_of_version v)

unfoldable pub store_message : List ℕ → ℕ → Message → List ℕ
store_message b i m = sets b (base messages + message_at i 0) (words_of_message m)

-- a version, or a message, joins the n that are there, at the end
unfoldable pub append_version : List ℕ → ℕ → Version → List ℕ
append_version b n v = store (store_version b n v) header versions_at (n + 1)

unfoldable pub append_message : List ℕ → ℕ → Message → List ℕ
append_message b n m = store (store_message b n m) header messages_at (n + 1)

-- of n messages, the words of those after message i move up by one message, and the count falls by
-- 1
unfoldable pub take_out : List ℕ → ℕ → ℕ → List ℕ
take_out b n i =
    let from = base messages + message_at i 0 in
    store (sets b from (take (message_words * (n - (i + 1))) (drop (from + message_words) b))) header
    messages_at (n - 1)
