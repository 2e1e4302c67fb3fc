-- A block that holds tables holds them without a message after it is taken out: earlier messages
-- stay, the words of each later one move up by one message.
use mathlib.Core.List.{List}
use mathlib.Core.Path.{◌≡◌, ap, ◌∙◌}
use Prim.Native.Nat.{ℕ, suc, ◌+◌, ◌-◌, ◌*◌, ◌<◌, ◌≤◌}
use native.Mathlib.Omega.{arith}
use lib.ListN.{length, get_or, take, drop, length-drop}
use lib.Seq.{length-take-le, get_or-take, get_or-drop}
use Rattle.basics.specs.Lists.{without}
use Rattle.basics.proofs.Lists.{length_without}
use Rattle.protocol.specs.Tables.{Tables, with_messages}
use Rattle.layout.specs.Layout.{most_messages, message_words, versions, messages, base, versions_at}
use Rattle.layout.specs.Layout.{messages_at, version_at, message_at, needed}
use Rattle.layout.specs.Store.{take_out}
use Rattle.layout.specs.Encodes.{Encodes, HoldsMessage, word}
use Rattle.layout.proofs.Room.{HasRoom}
use Rattle.layout.proofs.Kept.{moved-version, moved-message}
use Rattle.layout.proofs.EncodesLists.{encodes-lists}
use Rattle.slots.proofs.Runs.{run-before, run-within, run-elsewhere}
use Rattle.slots.proofs.Each.{each-without}
use Rattle.slots.proofs.SameLists.{same_lists}

-- the words that move: those of the messages after message i, of n
abbrev later : List ℕ → ℕ → ℕ → List ℕ
later b n i = take (message_words * (n - (i + 1)))
    (drop (base messages + message_at i 0 + message_words) b)

module _ (b : List ℕ) (n i : ℕ) (long : needed ≤ length b) (some : i < n)
    (room : n ≤ most_messages) where
  length-later : length (later b n i) ≡ message_words * (n - (i + 1))
  length-later =
      length-take-le (message_words * (n - (i + 1)))
      (drop (base messages + message_at i 0 + message_words) b)
      (omega (arith, length-drop (base messages + message_at i 0 + message_words) b))

  moved_word : (j f : ℕ) → i ≤ j → suc j < n → f < message_words
      → word (take_out b n i) j f ≡ word b (suc j) f
  unfolding take_out
  moved_word j f l h g =
      let from = base messages + message_at i 0 in
      let k = message_words * (j - i) + f in
      run-within b from (later b n i) messages_at (n - 1) 0 (base messages + message_at j f) k
      (omega arith) (omega (arith, length-later)) (omega (arith, length-later)) (omega arith)
      ∙ get_or-take (message_words * (n - (i + 1))) (drop (from + message_words) b) k 0 (omega arith)
      ∙ get_or-drop (from + message_words) b k 0
      ∙ ap (λ (m : ℕ). get_or b m 0) (omega arith)

pub encodes-take-out : {b : List ℕ} {t : Tables} (n i : ℕ) → Encodes b t → HasRoom t
    → n ≡ length t.messages → i < n → n ≤ most_messages
    → Encodes (take_out b n i) (with_messages t (without i t.messages))
unfolding take_out
encodes-take-out {b} {t} n i e r k some room =
    let c = take_out b n i in
    let from = base messages + message_at i 0 in
    let ws = later b n i in
    encodes-lists t.versions (without i t.messages) e r
    (same_lists b from ws messages_at (n - 1) (omega arith) (omega arith) (omega arith))
    (run-before b from ws messages_at (n - 1) 0 versions_at (omega arith) (omega arith)
    ∙ e.version_count)
    (run-elsewhere b from ws messages_at (n - 1) 0 (omega (arith, e.long))
    ∙ omega (arith, length_without i t.messages (omega arith)))
    (λ j l none.
    moved-version (λ f g. run-before b from ws messages_at (n - 1) 0 (base versions + version_at j f)
    (omega (arith, r.versions)) (omega arith)) (e.versions j l none))
    (each-without (HoldsMessage b) (HoldsMessage c) t.messages i (omega arith)
    (λ j m l. moved-message b c j j m
    (λ f g. run-before b from ws messages_at (n - 1) 0 (base messages + message_at j f)
    (omega arith) (omega arith)))
    (λ j m l h. moved-message b c (suc j) j m
    (λ f g. moved_word b n i e.long some room j f l (omega arith) g))
    e.messages)
