-- A well-formed block holds the tables that it decodes to.
use mathlib.Core.Bool.{true, cond, ◌||◌}
use mathlib.Core.List.{List}
use mathlib.Core.Path.{◌≡◌, refl, sym, ◌∙◌}
use Prim.Native.Nat.{ℕ, ◌<◌, min}
use native.Mathlib.Omega.{arith}
use lib.ListN.{length, get_or}
use lib.Dec.{eqb}
use borrow.Author.Tests.{lt-ltb}
use Rattle.basics.proofs.Cases.{by-test, not-both}
use Rattle.basics.specs.Lists.{table}
use Rattle.basics.proofs.Lists.{length-table, table_at}
use Rattle.itemset.specs.Set.{has}
use Rattle.protocol.specs.declared.Entry.{Entry}
use Rattle.protocol.specs.Tables.{Sizes}
use Rattle.protocol.proofs.Ranges.Clients.{ClientInRange}
use Rattle.layout.specs.Layout.{most_versions, most_messages}
use Rattle.layout.specs.Layout.{header, scalars, at, messages_at, versions_at, mode_at, modes}
use Rattle.layout.specs.Layout.{is_write_mode, is_mixed_mode}
use Rattle.layout.specs.Decode.{sizes_in, read_of, write_of, ended_in, client_in, version_in, message_in}
use Rattle.layout.specs.Decode.{tables_of, awaits_none, has_parts}
use Rattle.layout.specs.Encodes.{HoldsVersion, HoldsMessage, HeldRead, HeldWrite, HoldsEnded}
use Rattle.layout.specs.Encodes.{HoldsClient, Encodes}
use Rattle.layout.proofs.Held.{held-version, held-message}
use Rattle.layout.proofs.FirstWords.{reply-come}
use Rattle.encoding.proofs.WellFormed.{client-test, ValidBlock, client-range}
use Rattle.encoding.proofs.Modes.{none-word, alone-word, mode-word}

-- ---- Parts

-- an item of the set keeps its word
within_has : (s k v : ℕ) → has s k ≡ true → v ≡ cond (has s k) v 0
within_has s k v e = rw e

holds_read : (s awaits stage : ℕ) (stamps vs : ℕ → ℕ) (replies : ℕ → Entry)
    → HeldRead s awaits stage stamps vs replies (read_of s awaits stage stamps vs replies)
holds_read s awaits stage stamps vs replies = record {
  set = refl;
  awaited = refl;
  stage = refl;
  asked = λ k. within_has s k (stamps k);
  values = λ k. within_has s k (vs k);
  firsts = λ k e. sym (reply-come s awaits stage stamps vs replies k e);
}

holds-write : (s awaits stamp : ℕ) (vs : ℕ → ℕ)
    → HeldWrite s awaits stamp vs (write_of s awaits stamp vs)
holds-write s awaits stamp vs = record {
  set = refl;
  awaited = refl;
  stamp = refl;
  values = λ k. within_has s k (vs k);
}

holds-ended : (b : List ℕ) (d : ℕ) → HoldsEnded b d (ended_in b d)
holds-ended b d = record {
  kind = refl;
  read = λ s. rw s (holds_read _ _ _ _ _ _);
  write = λ s. rw s (holds-write _ _ _ _);
}

-- ---- Clients

pub holds-client : (b : List ℕ) (z : Sizes) (d : ℕ) → ClientInRange z (client_in b d)
    → at b scalars (mode_at d) < modes → eqb (at b scalars (mode_at d)) 0 ≡ awaits_none b d
    → has_parts b d ≡ true → HoldsClient b d (client_in b d)
unfolding client_in
holds-client b z d range below idle parts =
    let mode = at b scalars (mode_at d) in
    record {
      mode = mode-word b d z range idle parts below;
      count = refl;
      read = λ w. by-test (is_write_mode mode)
          (λ m. not-both (alone-word b d z range idle m) w)
          (λ m. rw m (holds_read _ _ _ _ _ _));
      write = λ w. by-test (is_write_mode mode || is_mixed_mode mode)
          (λ m. rw m (holds-write _ _ _ _))
          (λ m. not-both w (none-word b d m));
      last = holds-ended b d;
    }

-- what holds of each place's element holds at each place of the table
table-holds : {A : Type 0} (P : ℕ → A → Type 0) (n : ℕ) (f : ℕ → A) → ((i : ℕ) → i < n → P i (f i))
    → (i : ℕ) → i < length (table n f) → (none : A) → P i (get_or (table n f) i none)
table-holds P n f h i l none =
    let below : i < n = omega (arith, length-table n f) in
    rw (table_at n f i none below) (h i below)

-- ---- The whole

pub encodes-tables : (b : List ℕ) → ValidBlock b → Encodes b (tables_of b)
unfolding tables_of
encodes-tables b v =
    let w = v.well_formed in
    let vs : min (at b header versions_at) most_versions ≡ at b header versions_at = omega arith in
    let ms : min (at b header messages_at) most_messages ≡ at b header messages_at = omega arith in
    record {
      long = w.long;
      clients = refl;
      partitions = refl;
      items = refl;
      version_count = sym (length-table _ _ ∙ vs);
      message_count = sym (length-table _ _ ∙ ms);
      latest = λ k l. rw (lt-ltb k (sizes_in b).items l) (record { stamp = refl; set = refl });
      view = λ d l h k m. rw (client-test (sizes_in b) d (l, h), lt-ltb k (sizes_in b).items m)
          (record { stamp = refl; set = refl });
      client = λ d l h. rw (client-test (sizes_in b) d (l, h))
          (holds-client b (sizes_in b) d (client-range b v d (l, h)) (w.mode d (l, h))
          (w.idle d (l, h)) (w.parts d (l, h)));
      versions = table-holds (HoldsVersion b) _ (version_in b) (λ i l. held-version b i);
      messages = table-holds (HoldsMessage b) _ (message_in b)
          (λ i l. held-message b i (w.some_kind i (omega arith)) (w.kind i (omega arith)));
    }
