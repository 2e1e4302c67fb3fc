-- A block that holds tables holds them with one version, or one message, more after the append.
use mathlib.Core.List.{List, [], ◌∷◌, ◌++◌}
use mathlib.Core.Path.{◌≡◌, refl, ◌∙◌, subst}
use Prim.Native.Nat.{ℕ, ◌+◌, ◌<◌, ◌≤◌}
use native.Mathlib.Omega.{arith}
use lib.ListN.{length, get_or, length-append}
use Rattle.protocol.specs.declared.Version.{Version}
use Rattle.protocol.specs.declared.Message.{Message}
use Rattle.protocol.specs.Tables.{Tables, with_versions, with_messages}
use Rattle.layout.specs.Layout.{most_versions, most_messages, message_words, versions, messages, base}
use Rattle.layout.specs.Layout.{needed, at, versions_at, messages_at, version_at, message_at}
use Rattle.layout.specs.Store.{words_of_version, words_of_message, store_version, store_message}
use Rattle.layout.specs.Store.{append_version, append_message}
use Rattle.layout.specs.Encodes.{Encodes, HoldsVersion, HoldsMessage, word}
use Rattle.layout.proofs.Room.{HasRoom}
use Rattle.layout.proofs.Kept.{moved-version, moved-message}
use Rattle.layout.proofs.EncodesLists.{encodes-lists}
use Rattle.slots.proofs.Runs.{run-before, run-behind, run-within, run-elsewhere}
use Rattle.slots.proofs.Each.{each_append}
use Rattle.slots.proofs.SameLists.{same_lists}

-- ---- versions

module _ (b : List ℕ) (n : ℕ) (v : Version) (long : needed ≤ length b)
    (room : n < most_versions) where
  appended-version-word : (f : ℕ) → f < 4
      → at (append_version b n v) versions (version_at n f) ≡ get_or (words_of_version v) f 0
  unfolding append_version store_version
  appended-version-word f l =
      run-within b (base versions + version_at n 0) (words_of_version v) versions_at (n + 1) 0
      (base versions + version_at n f) f
      (omega arith) l (omega arith) (omega arith)

  appended-version : HoldsVersion (append_version b n v) n v
  appended-version =
      record {
        item = appended-version-word 0 (omega arith);
        value = appended-version-word 1 (omega arith);
        stamp = appended-version-word 2 (omega arith);
        set = appended-version-word 3 (omega arith);
      }

pub encodes-append-version : {b : List ℕ} {t : Tables} (n : ℕ) (v : Version) → Encodes b t
    → HasRoom t → n ≡ length t.versions → n < most_versions
    → Encodes (append_version b n v) (with_versions t (t.versions ++ v ∷ []))
unfolding append_version store_version
encodes-append-version {b} {t} n v e r k h =
    let c = append_version b n v in
    let from = base versions + version_at n 0 in
    let ws = words_of_version v in
    encodes-lists (t.versions ++ v ∷ []) t.messages e r
    (same_lists b from ws versions_at (n + 1) (omega arith) (omega arith) (omega arith))
    (run-elsewhere b from ws versions_at (n + 1) 0 (omega (arith, e.long))
    ∙ omega (arith, length-append t.versions (v ∷ [])))
    (run-before b from ws versions_at (n + 1) 0 messages_at (omega arith) (omega arith)
    ∙ e.message_count)
    (each_append (HoldsVersion c) t.versions v
    (λ i l none.
    moved-version (λ f g. run-before b from ws versions_at (n + 1) 0 (base versions + version_at i f)
    (omega arith) (omega arith)) (e.versions i l none))
    (subst (λ (m : ℕ). HoldsVersion c m v) k (appended-version b n v e.long h)))
    (λ i l none.
    moved-message b c i i (get_or t.messages i none)
    (λ f g. run-behind b from ws versions_at (n + 1) 0 (base messages + message_at i f) (omega arith)
    (omega arith)) (e.messages i l none))

-- ---- messages

pub length-words : (m : Message) → length (words_of_message m) ≡ message_words
length-words m = refl

module _ (b : List ℕ) (n : ℕ) (long : needed ≤ length b) (room : n < most_messages) where
  appended-word : (m : Message) (f : ℕ) → f < message_words
      → word (append_message b n m) n f ≡ get_or (words_of_message m) f 0
  unfolding append_message store_message
  appended-word m f l =
      run-within b (base messages + message_at n 0) (words_of_message m) messages_at (n + 1) 0
      (base messages + message_at n f) f
      (omega arith) (omega (arith, length-words m)) (omega (arith, length-words m)) (omega arith)

  appended-message : (m : Message) → HoldsMessage (append_message b n m) n m
  appended-message m f l u = appended-word m f l

pub encodes-append-message : {b : List ℕ} {t : Tables} (n : ℕ) (m : Message) → Encodes b t
    → HasRoom t → n ≡ length t.messages → n < most_messages
    → Encodes (append_message b n m) (with_messages t (t.messages ++ m ∷ []))
unfolding append_message store_message
encodes-append-message {b} {t} n m e r k h =
    let c = append_message b n m in
    let from = base messages + message_at n 0 in
    let ws = words_of_message m in
    encodes-lists t.versions (t.messages ++ m ∷ []) e r
    (same_lists b from ws messages_at (n + 1) (omega arith) (omega arith) (omega arith))
    (run-before b from ws messages_at (n + 1) 0 versions_at (omega arith) (omega arith)
    ∙ e.version_count)
    (run-elsewhere b from ws messages_at (n + 1) 0 (omega (arith, e.long))
    ∙ omega (arith, length-append t.messages (m ∷ [])))
    (λ i l none.
    moved-version (λ f g. run-before b from ws messages_at (n + 1) 0 (base versions + version_at i f)
    (omega (arith, r.versions)) (omega arith)) (e.versions i l none))
    (each_append (HoldsMessage c) t.messages m
    (λ i l none.
    moved-message b c i i (get_or t.messages i none)
    (λ f g. run-before b from ws messages_at (n + 1) 0 (base messages + message_at i f) (omega arith)
    (omega arith)) (e.messages i l none))
    (subst (λ (j : ℕ). HoldsMessage c j m) k (appended-message b n e.long h m)))
