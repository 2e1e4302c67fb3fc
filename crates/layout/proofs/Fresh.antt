-- A block after an accepted fresh holds fresh tables: its words are 0 but for the sizes.
use mathlib.Core.List.{List}
use mathlib.Core.Path.{◌≡◌, refl, ap, ◌∙◌}
use Prim.Native.Nat.{ℕ, ◌+◌, ◌≤◌, ◌<◌}
use native.Mathlib.Omega.{arith}
use lib.Dec.{lit<}
use lib.ListN.{length, length-set}
use Rattle.basics.proofs.Cases.{not-both}
use Rattle.itemset.proofs.Laws.{has-empty}
use Rattle.protocol.specs.Tables.{Sizes, fresh, initial, no_read, resting, nothing}
use Rattle.protocol.proofs.FastRead.{no-first}
use Rattle.layout.specs.Layout.{client_words, Section, header, scalars, latest, views, base}
use Rattle.layout.specs.Layout.{needed, at, store, clients_at, partitions_at, items_at}
use Rattle.layout.specs.Layout.{versions_at, messages_at, scalar_at, latest_at, view_at, stage_of}
use Rattle.layout.specs.Store.{store_sizes, blank, fresh_block}
use Rattle.layout.specs.Encodes.{Encodes, HoldsEntry, HoldsClient}
use Rattle.layout.proofs.Blank.{length-blank, blank-zero}
use Rattle.layout.proofs.At.{at_store, at-store-other}

-- ---- the sizes

module _ (b : List ℕ) (clients partitions items : ℕ) where
  abbrev one : List ℕ
  one = store b header clients_at clients

  abbrev two : List ℕ
  two = store one header partitions_at partitions

  pub length-sizes : length (store_sizes b clients partitions items) ≡ length b
  length-sizes = simp length-set

  pub at-sizes-other : (s : Section) (i : ℕ) → 3 ≤ base s + i
      → at (store_sizes b clients partitions items) s i ≡ at b s i
  at-sizes-other s i l =
      at-store-other two header items_at items s i (omega arith)
      ∙ (at-store-other one header partitions_at partitions s i (omega arith)
      ∙ at-store-other b header clients_at clients s i (omega arith))

  pub at-clients : 3 ≤ length b → at
      (store_sizes b clients partitions items) header clients_at ≡ clients
  at-clients l =
      at-store-other two header items_at items header clients_at (omega arith)
      ∙ (at-store-other one header partitions_at partitions header clients_at (omega arith)
      ∙ at_store b header clients_at clients (omega arith))

  pub at-partitions : 3 ≤ length b
      → at (store_sizes b clients partitions items) header partitions_at ≡ partitions
  at-partitions l =
      at-store-other two header items_at items header partitions_at (omega arith)
      ∙ at_store one header partitions_at partitions (simp length-set (omega arith))

  pub at-items : 3 ≤ length b → at (store_sizes b clients partitions items) header items_at ≡ items
  at-items l = at_store two header items_at items (simp length-set (omega arith))

-- ---- the fresh block

abbrev pub fresh_of : List ℕ → Sizes → List ℕ
fresh_of b z = fresh_block b z.clients z.partitions z.items

module _ (b : List ℕ) (z : Sizes) (long : needed ≤ length b) where
  pub length-fresh : length (fresh_of b z) ≡ length b
  unfolding fresh_block
  length-fresh = length-sizes (blank needed b) z.clients z.partitions z.items
      ∙ length-blank needed b long

  -- every word but the sizes
  pub fresh-zero : (s : Section) (i : ℕ) → 3 ≤ base s + i → base s + i < needed
      → at (fresh_of b z) s i ≡ 0
  unfolding fresh_block
  fresh-zero s i h l =
      at-sizes-other (blank needed b) z.clients z.partitions z.items s i h
      ∙ blank-zero needed b (base s + i) l

  fresh-client : (d : ℕ) → 1 ≤ d → d ≤ 8 → HoldsClient (fresh_of b z) d (resting 0 nothing)
  fresh-client d l h =
      let zero : (f : ℕ) → f < client_words → at (fresh_of b z) scalars (scalar_at d f) ≡ 0 =
      λ f g. fresh-zero scalars (scalar_at d f) (omega arith) (omega arith) in
      record {
        mode = zero 0 (lit< tt);
        count = zero 1 (lit< tt);
        read = λ e. record {
          set = zero 2 (lit< tt);
          awaited = zero 3 (lit< tt);
          stage = ap stage_of (zero 0 (lit< tt));
          asked = λ k i. not-both i (has-empty k);
          values = λ k i. not-both i (has-empty k);
          firsts = λ k i. not-both i (no-first no_read k refl);
        };
        write = λ e. not-both e refl;
        last = record {
          kind = zero 5 (lit< tt);
          read = λ e. not-both e refl;
          write = λ e. not-both e refl;
        };
      }

  fresh-entry : (s : Section) (i : ℕ) → 3 ≤ base s + i → base s + i + 1 < needed
      → HoldsEntry (fresh_of b z) s i initial
  fresh-entry s i h l =
      record {
        stamp = fresh-zero s i h (omega arith);
        set =
            fresh-zero s (i + 1) (omega arith) (omega arith);
      }

  pub encodes-fresh : z.clients ≤ 8 → z.items ≤ 64 → Encodes (fresh_of b z) (fresh z)
  unfolding fresh_block
  encodes-fresh h g =
      let zeros : 3 ≤ length (blank needed b) = omega (arith, length-blank needed b long) in
      record {
        long = omega (arith, length-fresh);
        clients = at-clients (blank needed b) z.clients z.partitions z.items zeros;
        partitions = at-partitions (blank needed b) z.clients z.partitions z.items zeros;
        items = at-items (blank needed b) z.clients z.partitions z.items zeros;
        version_count = fresh-zero header versions_at (omega arith) (omega arith);
        message_count = fresh-zero header messages_at (omega arith) (omega arith);
        latest = λ k l. fresh-entry latest (latest_at k) (omega arith) (omega arith);
        view = λ d u v k l. fresh-entry views (view_at d k) (omega arith) (omega arith);
        client = λ d u v. fresh-client d u (omega arith);
        versions = λ i l none. absurd (omega arith);
        messages = λ i l none. absurd (omega arith);
      }
