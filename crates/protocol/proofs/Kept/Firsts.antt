-- A first reply keeps its client in range: what it keeps came in the message, and the second part
-- asks for stamps that first replies have.
use mathlib.Core.Bool.{true}
use mathlib.Core.Path.{◌≡◌, sym, ◌∙◌}
use Prim.Native.Nat.{ℕ, ◌^◌, ◌<◌}
use native.Mathlib.Nat.{le_refl}
use native.Mathlib.Omega.{arith}
use lib.Dec.{eqb}
use borrow.Author.Tests.{eqb-true, eqb-false}
use Rattle.itemset.specs.Set.{has}
use Rattle.itemset.proofs.Laws.{has-empty, has-below}
use Rattle.protocol.specs.declared.Version.{Version}
use Rattle.protocol.specs.declared.Entry.{Entry}
use Rattle.protocol.specs.Tables.{Sizes, Client, ReadPart, entry_of, with_read}
use Rattle.protocol.specs.Range.{has_first}
use Rattle.protocol.specs.FastRead.{replies_of, first_kept, second_part, first_replied}
use Rattle.protocol.specs.Steps.{ended, got_first}
use Rattle.protocol.proofs.Ranges.Values.{EntryInRange, EntriesInRange, entry-initial}
use Rattle.protocol.proofs.Ranges.Clients.{ReadPartInRange, ClientInRange}
use Rattle.protocol.proofs.FastRead.{first-in-set, first-come, first-other, stale-below}
use Rattle.protocol.proofs.FastRead.{stale-in-set}
use Rattle.protocol.proofs.Put.{by_cond, put_all, put-every}
use Rattle.protocol.proofs.Kept.Values.{range-left, within-left, range-ended, range-rested}
use Rattle.protocol.proofs.Kept.Values.{range-parts}
use Rattle.protocol.proofs.Kept.Starts.{range-choice}

module _ (z : Sizes) where
  -- still in the first part
  range-kept : (p : ReadPart) → ReadPartInRange z p → (v : Version) → v.value < 2 ^ 32
      → EntryInRange z (entry_of v) → ReadPartInRange z (first_kept p v)
  range-kept p r v value entry =
      record {
        set = r.set;
        awaited = range-left p.awaited v.item z.items r.awaited;
        within = within-left p.awaited p.set v.item r.within;
        asked = r.asked;
        values = λ k e. put_all (λ x. x < 2 ^ 32) p.values v.item v.value k value
            (r.values k e);
        stage = r.stage;
        firsts = put-every (λ (k : ℕ) (x : Entry). has_first (first_kept p v) k ≡ true
            → EntryInRange z x) p.firsts v.item (entry_of v) (λ h. entry)
            (λ k other h. r.firsts k (sym (first-other p v k other) ∙ h));
      }

  -- all first replies have come
  range-second : (p : ReadPart) → ReadPartInRange z p → p.stage ≡ 1 → p.awaited ≡ 0
      → ReadPartInRange z (second_part z.items p)
  range-second p r first none =
      let come : (k : ℕ) → has p.set k ≡ true → has_first p k ≡ true =
      λ k e. first-come p k first e (rw none (has-empty k)) in
      let replies : EntriesInRange z (replies_of p) =
      λ k l. by_cond (EntryInRange z) (has p.set k) _ _ (λ e. r.firsts k (come k e))
      (λ e. entry-initial z) in
      record {
        set = r.set;
        awaited = stale-below z.items p;
        within = stale-in-set z.items p;
        asked = λ k e. rw e (range-choice z (replies_of p) replies k
            (has-below p.set k z.items r.set e) z.items (le_refl z.items));
        values = r.values;
        stage = omega arith;
        firsts = λ k e. r.firsts k (come k (first-in-set (second_part z.items p) k e));
      }

  module _ (c : Client) (r : ClientInRange z c) (v : Version) (first : c.read.stage ≡ 1)
      (value : v.value < 2 ^ 32) (entry : EntryInRange z (entry_of v)) where
    pub range-replied : ReadPartInRange z (first_replied z.items c.read v)
    range-replied =
        let kept = range-kept c.read r.read v value entry in
        by_cond (ReadPartInRange z) (eqb (first_kept c.read v).awaited 0) _ _
        (λ e. range-second (first_kept c.read v) kept first
        (eqb-true (first_kept c.read v).awaited 0 e))
        (λ e. kept)

    pub range-first-reply : c.write.set ≡ 0 → ClientInRange z (got_first z.items c v)
    range-first-reply alone =
        let p = first_replied z.items c.read v in
        by_cond (ClientInRange z) (eqb p.awaited 0) _ _
        (λ e. range-rested z c (ended (with_read c p)) r
        (range-ended z (with_read c p) range-replied r.write))
        (λ e. range-parts z c p c.write r range-replied r.write (λ n. absurd (n alone))
        (λ s. (alone, eqb-false p.awaited 0 e)))
