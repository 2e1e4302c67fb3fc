-- What a block holds at a place is what is read there, and what is read there the block holds.
use mathlib.Core.Bool.{true, cond}
use mathlib.Core.List.{List}
use mathlib.Core.Path.{◌≡◌, refl, sym, ap, ◌∙◌, subst}
use Prim.Native.Nat.{ℕ, zero, suc, ◌-◌, ◌≤◌, ◌<◌}
use native.Mathlib.Omega.{arith}
use lib.Dec.{lit<}
use lib.ListN.{get_or}
use Rattle.basics.specs.Lists.{table, every}
use Rattle.basics.proofs.Lists.{table_at, every-at}
use Rattle.basics.proofs.Cases.{by-test}
use Rattle.itemset.specs.Set.{has}
use Rattle.protocol.specs.declared.Version.{Version}
use Rattle.protocol.specs.declared.Entry.{Entry}
use Rattle.protocol.specs.declared.Message.{Message}
use Rattle.protocol.specs.declared.Message.TheVariants.{Prepare, Prepared, Commit, Get, Got}
use Rattle.protocol.specs.declared.Message.TheVariants.{FirstGet, FirstReply}
use Rattle.protocol.specs.Message.{kinds, kind_of}
use Rattle.protocol.proofs.MessageKinds.{kind-within}
use Rattle.layout.specs.Layout.{message_words}
use Rattle.layout.specs.Store.{words_of_message, word_of}
use Rattle.layout.specs.Encodes.{HoldsVersion, used, HoldsMessage, word}
use Rattle.layout.specs.Decode.{version_in, kind_in, message_of, message_from, message_in}

-- ---- versions

pub version-held : (b : List ℕ) (i : ℕ) (v : Version) → HoldsVersion b i v → version_in b i ≡ v
version-held b i v h = rw (h.item, h.value, h.stamp, h.set) refl

pub held-version : (b : List ℕ) (i : ℕ) → HoldsVersion b i (version_in b i)
held-version b i = record { item = refl; value = refl; stamp = refl; set = refl }

-- ---- messages

-- w's words that this kind uses, and 0 in the others
abbrev only_used : ℕ → (ℕ → ℕ) → ℕ → ℕ
only_used kind w f = cond (has (used kind) f) (w f) 0

-- a kind's message is read from the words that it uses, and has these words and no others
record Decoded (n : ℕ) (w : ℕ → ℕ) : Type 0 where
  pub kind : kind_of (message_from w) ≡ n
  pub same : message_from w ≡ message_from (only_used n w)
  pub words : words_of_message (message_from w) ≡ table message_words (only_used n w)

decoded : (kind : ℕ) (w : ℕ → ℕ) → w 0 ≡ kind → 1 ≤ kind → kind ≤ kinds → Decoded kind w
unfolding message_of used has table
decoded zero w e l h = absurd (omega arith)
decoded (suc zero) w e l h = record { kind = rw e refl; same = rw e refl; words = rw e refl }
decoded (suc (suc zero)) w e l h =
    record { kind = rw e refl; same = rw e refl; words = rw e refl }
decoded (suc (suc (suc zero))) w e l h =
    record { kind = rw e refl; same = rw e refl; words = rw e refl }
decoded (suc (suc (suc (suc zero)))) w e l h =
    record { kind = rw e refl; same = rw e refl; words = rw e refl }
decoded (suc (suc (suc (suc (suc zero))))) w e l h =
    record { kind = rw e refl; same = rw e refl; words = rw e refl }
decoded (suc (suc (suc (suc (suc (suc zero)))))) w e l h =
    record { kind = rw e refl; same = rw e refl; words = rw e refl }
decoded (suc (suc (suc (suc (suc (suc (suc zero))))))) w e l h =
    record { kind = rw e refl; same = rw e refl; words = rw e refl }
decoded (suc (suc (suc (suc (suc (suc (suc (suc n)))))))) w e l h = absurd (omega arith)

-- what is written of a message and read again is the message
message-kept : (m : Message) → message_from (word_of m) ≡ m
unfolding message_of
message-kept (Prepare v) = refl
message-kept (Prepared k stamp) = refl
message-kept (Commit p stamp) = refl
message-kept (Get d k stamp) = refl
message-kept (Got d v e) = refl
message-kept (FirstGet d k) = refl
message-kept (FirstReply d v e) = refl

from-same : (w w' : ℕ → ℕ) → ((f : ℕ) → f < message_words → w f ≡ w' f)
    → message_from w ≡ message_from w'
from-same w w' h =
    rw (
      h 0 (lit< tt),
      h 1 (lit< tt),
      h 2 (lit< tt),
      h 3 (lit< tt),
      h 4 (lit< tt),
      h 5 (lit< tt),
      h 6 (lit< tt),
      h 7 (lit< tt),
    ) refl

-- every kind uses the first word
kind-used : (kind : ℕ) → 1 ≤ kind → kind ≤ kinds → has (used kind) 0 ≡ true
unfolding every used has
kind-used zero l h = absurd (omega arith)
kind-used (suc n) l h = every-at kinds (λ k. has (used (suc k)) 0) refl n (omega arith)

module _ (b : List ℕ) (i : ℕ) (m : Message) (h : HoldsMessage b i m) where
  pub kind-held : kind_in b i ≡ kind_of m
  kind-held = h 0 (lit< tt) (kind-used (kind_of m) (kind-within m).0 (kind-within m).1)

  pub message-held : message_in b i ≡ m
  unfolding message_in
  message-held =
      let n = kind_of m in
      let k = kind-within m in
      (decoded n (word b i) kind-held k.0 k.1).same
      ∙ from-same (only_used n (word b i)) (only_used n (word_of m))
      (λ f l. by-test (has (used n) f) (λ u. rw (u, h f l u) refl) (λ u. rw u refl))
      ∙ sym (decoded n (word_of m) refl k.0 k.1).same ∙ message-kept m

-- and a message that is read is held
module _ (b : List ℕ) (i : ℕ) (l : 1 ≤ kind_in b i) (h : kind_in b i ≤ kinds) where
  read : Decoded (kind_in b i) (word b i)
  read = decoded (kind_in b i) (word b i) refl l h

  read_word : (f : ℕ) → f < message_words
      → word_of (message_in b i) f ≡ only_used (kind_in b i) (word b i) f
  unfolding message_in
  read_word f g = ap (λ (ws : List ℕ). get_or ws f 0) read.words
      ∙ table_at message_words (only_used (kind_in b i) (word b i)) f 0 g

  pub kind-read : kind_of (message_in b i) ≡ kind_in b i
  unfolding message_in
  kind-read = read.kind

  pub held-message : HoldsMessage b i (message_in b i)
  held-message f g u = sym (read_word f g ∙ rw (rw kind-read at u) refl)

-- from the last kind on, the message is one of the last kind
pub last-kind : (n who k v stamp s : ℕ) (e : Entry) → kinds ≤ n
    → message_of n who k v stamp s e ≡ message_of kinds who k v stamp s e
unfolding message_of
last-kind n who k v stamp s e h =
    let last : suc (suc (suc (suc (suc (suc (suc (n - kinds))))))) ≡ n = omega arith in
    subst (λ (x : ℕ). message_of x who k v stamp s e ≡ message_of kinds who k v stamp s e) last refl
