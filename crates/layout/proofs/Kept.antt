-- Words that two blocks share: what one holds there, the other holds too.
use mathlib.Core.List.{List}
use mathlib.Core.Path.{◌≡◌, ◌∙◌}
use Prim.Native.Nat.{ℕ, ◌+◌, ◌<◌}
use native.Mathlib.Omega.{arith}
use lib.Dec.{lit<}
use Rattle.protocol.specs.declared.Version.{Version}
use Rattle.protocol.specs.declared.Entry.{Entry}
use Rattle.protocol.specs.declared.Message.{Message}
use Rattle.layout.specs.Layout.{most_versions, most_messages, message_words, Section, versions}
use Rattle.layout.specs.Layout.{messages, size, at, version_at, message_at}
use Rattle.layout.specs.Encodes.{HoldsEntry, HoldsVersion, HoldsMessage}

-- ---- a whole section

abbrev pub Kept : Section → List ℕ → List ℕ → Type 0
Kept s b b' = (i : ℕ) → i < size s → at b' s i ≡ at b s i

pub kept_trans : (s : Section) (a b c : List ℕ) → Kept s a b → Kept s b c → Kept s a c
kept_trans s a b c p q i l = q i l ∙ p i l

pub kept_entry : {s : Section} {b b' : List ℕ} {i : ℕ} {e : Entry} → Kept s b b' → i + 1 < size s
    → HoldsEntry b s i e → HoldsEntry b' s i e
kept_entry {i = i} k l h = record {
  stamp = k i (omega arith) ∙ h.stamp;
  set =
      k (i + 1) l ∙ h.set;
}

-- ---- a version, or a message, whose words stand at the same place or at another

pub moved-version : {b b' : List ℕ} {i j : ℕ} {v : Version}
    → ((f : ℕ) → f < 4 → at b' versions (version_at j f) ≡ at b versions (version_at i f))
    → HoldsVersion b i v → HoldsVersion b' j v
moved-version w h =
    record {
      item = w 0 (lit< tt) ∙ h.item;
      value = w 1 (lit< tt) ∙ h.value;
      stamp =
          w 2 (lit< tt) ∙ h.stamp;
      set = w 3 (lit< tt) ∙ h.set;
    }

pub moved-message : (b b' : List ℕ) (i j : ℕ) (m : Message)
    → ((f : ℕ) → f < message_words → at b' messages (message_at j f) ≡ at b messages (message_at i f))
    → HoldsMessage b i m → HoldsMessage b' j m
moved-message b b' i j m w h f l u = w f l ∙ h f l u

pub kept-version : {b b' : List ℕ} {i : ℕ} {v : Version} → Kept versions b b' → i < most_versions
    → HoldsVersion b i v → HoldsVersion b' i v
kept-version {i = i} k l = moved-version (λ f g. k (version_at i f) (omega arith))

pub kept-message : (b b' : List ℕ) (i : ℕ) (m : Message) → Kept messages b b' → i < most_messages
    → HoldsMessage b i m → HoldsMessage b' i m
kept-message b b' i m k l = moved-message b b' i i m (λ f g. k (message_at i f) (omega arith))
