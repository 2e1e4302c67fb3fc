use mathlib.Core.List.{List}
use mathlib.Core.Path.{ap, ◌∙◌}
use Prim.Native.Nat.{ℕ}
use Rattle.protocol.specs.declared.Entry.{Entry}
use Rattle.protocol.specs.Check.{stored_value}
use Rattle.layout.specs.Decode.{tables_of}
use Rattle.check_stamps.proofs.Truncated.{held-of}
use Rattle.check_clients.proofs.Clients.{first_read, first-read-ranged, first-read-small}
use Rattle.check_clients.proofs.Clients.{first_some, first-none, in-most}
use Rattle.check_clients.proofs.good_first.Goals as goal

pub has_first-requires : goal.has_first-requires
has_first-requires c =
    in-most _ (held-of _ _ _ c.args.looks.now.wholes.stamps.held).valid _ _ c.requires.0
    c.requires.1 c.requires.2

pub returns-then-not-has_first : goal.returns-then-not-has_first
returns-then-not-has_first c =
    first-none _ _ c.requires.0 c.requires.1 _ c.has_first.ensures c.if-not-has_first.true

pub first-e-requires : goal.first-e-requires
first-e-requires c =
    in-most _ (held-of _ _ _ c.args.looks.now.wholes.stamps.held).valid _ _ c.requires.0
    c.requires.1 c.requires.2

pub answer-value-requires : goal.answer-value-requires
answer-value-requires c =
    in-most _ (held-of _ _ _ c.args.looks.now.wholes.stamps.held).valid _ _ c.requires.0
    c.requires.1 c.requires.2

pub stored_value-held-requires : goal.stored_value-held-requires
stored_value-held-requires c =
    let valid = (held-of _ _ _ c.args.looks.now.wholes.stamps.held).valid in (
      (in-most _ valid _ _ c.requires.0 c.requires.1 c.requires.2).2,
      first-read-small _ valid _ c.requires.0 c.requires.1 _ c.has_first.ensures
          c.if-not-has_first.false c.first-e.ensures,
    )

pub answered_again-again-requires : goal.answered_again-again-requires
answered_again-again-requires c =
    let valid = (held-of _ _ _ c.args.looks.now.wholes.stamps.held).valid in
    let most = in-most _ valid _ _ c.requires.0 c.requires.1 c.requires.2 in (
      most.0,
      most.1,
      most.2,
      ap (λ (x : Entry). x.stamp) (first_read _ valid _ c.requires.0 c.requires.1 _
          c.has_first.ensures c.if-not-has_first.false c.first-e.ensures),
    )

pub good_entry-requires : goal.good_entry-requires
good_entry-requires c =
    first-read-ranged _ (held-of _ _ _ c.args.looks.now.wholes.stamps.held).valid _ c.requires.0
    c.requires.1 _ c.has_first.ensures c.if-not-has_first.false c.first-e.ensures

pub returns : goal.returns
returns c =
    let valid = (held-of _ _ _ c.args.looks.now.wholes.stamps.held).valid in
    let held = c.stored_value-held.ensures
    ∙ ap (λ (b : List ℕ). stored_value (tables_of b) c.args.k c.first-e.result.stamp)
    c.args.looks.now.same in
    first_some _ _ c.requires.0 c.requires.1 _ c.has_first.ensures c.if-not-has_first.false
    (first_read _ valid _ c.requires.0 c.requires.1 _ c.has_first.ensures
    c.if-not-has_first.false c.first-e.ensures)
    c.answer-value.ensures held c.answered_again-again.ensures c.good_entry.ensures
