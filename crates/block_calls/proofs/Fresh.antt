-- A fresh start that is accepted: the block holds fresh tables.
use mathlib.Core.Bool.{true}
use mathlib.Core.List.{List}
use mathlib.Core.Logic.{◌≢◌}
use mathlib.Core.Path.{◌≡◌, refl, sym, ap, ◌∙◌}
use Prim.Native.Nat.{ℕ, zero, suc, ◌≤◌}
use lib.ListN.{length}
use lib.Dec.{ltb}
use native.Mathlib.Omega.{arith}
use borrow.Author.Tests.{ltb-false, le-ltb}
use Rattle.basics.proofs.Cases.{by-test}
use Rattle.protocol.specs.declared.Answer.TheVariants.{Refused, Made}
use Rattle.protocol.specs.Tables.{Sizes, fresh}
use Rattle.protocol.specs.Range.{capacities, sizes_in_range}
use Rattle.protocol.specs.Calls.{first, fresh_answer}
use Rattle.protocol.proofs.Ranges.Values.{tells-sizes}
use Rattle.protocol.proofs.Valid.{valid-fresh}
use Rattle.layout.specs.Layout.{needed}
use Rattle.layout.specs.Decode.{tables_of}
use Rattle.layout.specs.Store.{fresh_block}
use Rattle.layout.proofs.Fresh.{encodes-fresh}
use Rattle.encoding.proofs.MaskedStep.{masked-fresh}
use Rattle.block_calls.specs.Calls.{fresh_refusal_on, fresh_answer_on, fresh_after, fresh_tables}
use Rattle.block_calls.proofs.Holds.{Holds, tables-are}

-- sizes in range, and a block long enough
pub fresh-accepted : (b : List ℕ) (z : Sizes) → fresh_refusal_on b z ≡ 0 → (sizes_in_range z ≡ true)
    × (needed ≤ length b)
unfolding fresh_refusal_on first
fresh-accepted b z e =
    by-test (sizes_in_range z)
    (λ s. by-test (ltb (length b) needed)
    (λ l. absurd (never-one (rw (s, l) at e)))
    (λ l. (s, ltb-false (length b) needed l)))
    (λ s. absurd (never-two (rw s at e)))
  where
    never-one : ◌≡◌ {A = ℕ} 1 0 → ⊥
    never-one x = omega arith

    never-two : ◌≡◌ {A = ℕ} 2 0 → ⊥
    never-two x = omega arith

-- on a block long enough a fresh start answers as the protocol's
pub fresh-long : (b : List ℕ) (z : Sizes) → needed ≤ length b → fresh_answer_on b z ≡ fresh_answer z
unfolding fresh_answer_on fresh_refusal_on fresh_answer first
fresh-long b z l =
    by-test (sizes_in_range z) (λ s. rw (s, le-ltb (length b) needed l) refl) (λ s. rw s refl)

module _ (b : List ℕ) (z : Sizes) (e : fresh_refusal_on b z ≡ 0) where
  pub fresh_holds : Holds (fresh_after b z) (fresh z)
  unfolding fresh_after
  fresh_holds =
      let ok = fresh-accepted b z e in
      let sizes = (tells-sizes z).0 ok.0 in
      rw e
      (record {
        encodes = encodes-fresh b z ok.1 sizes.clients sizes.items;
        masked = masked-fresh z;
        is_valid = valid-fresh capacities z ok.0;
      })

  pub fresh-given : (after : List ℕ) → after ≡ fresh_block b z.clients z.partitions z.items
      → (Made ≡ fresh_answer_on b z) × ((after ≡ fresh_after b z) × (tables_of after ≡ fresh_tables b z))
  unfolding fresh_answer_on fresh_after fresh_tables
  fresh-given after a =
      let same : after ≡ fresh_after b z = rw e a in (
        rw e refl,
        (
          rw e a,
          rw e (ap tables_of same ∙ tables-are (fresh_after b z)
              (fresh z) fresh_holds),
        ),
      )

module _ (b : List ℕ) (z : Sizes) where
  pub fresh-refused : (r : ℕ) → r ≡ fresh_refusal_on b z → r ≢ 0 → (Refused r ≡ fresh_answer_on b z)
      × ((b ≡ fresh_after b z) × (tables_of b ≡ fresh_tables b z))
  unfolding fresh_answer_on fresh_after fresh_tables
  fresh-refused zero e some = absurd (some refl)
  fresh-refused (suc r) e some = (rw (sym e) refl, (rw (sym e) refl, rw (sym e) refl))
