-- `judge::search::holds` meets its contract, for each finding.
use Rattle.std.proofs.Common.{true, false, refl, sym, ◌∙◌}
use Rattle.judge.proofs.Searching.{finding-one, finding-two, finding-three}
use Rattle.judge.proofs.search.holds.Goals as goal

pub returns-in-Unwritten : goal.returns-in-Unwritten
returns-in-Unwritten c =
    let a = c.args in
    rw c.in-Unwritten.is
    (finding-one _ _ a.n _ _ c.requires.0.gathered a.line a.item _ c.requires.2 c.frame-r.ensures
    _ _ _ c.is_unwritten.ensures c.shown_stamp-stamp.ensures c.shown_value-value.ensures)

pub returns-in-Fractured : goal.returns-in-Fractured
returns-in-Fractured c =
    let a = c.args in
    rw c.in-Fractured.is
    (finding-two _ _ a.n _ _ c.requires.0.gathered a.line a.item _ c.requires.2 c.frame-r.ensures
    _ _ c.is_fractured.ensures c.shown_stamp-stamp.ensures)

pub returns-then-reads_own : goal.returns-then-reads_own
returns-then-reads_own c =
    let a = c.args in
    rw c.in-Missed.is
    (finding-three _ _ a.n _ _ c.requires.0.gathered a.line a.item _ c.requires.2 c.frame-r.ensures
    true _ _ _ _ (sym c.if-reads_own.true ∙ c.reads_own.ensures) c.is_missed.ensures c.requires.1
    c.client.ensures.value c.shown_stamp-stamp.ensures)

pub returns-else-reads_own : goal.returns-else-reads_own
returns-else-reads_own c =
    let a = c.args in
    rw c.in-Missed.is
    (c.if-reads_own.false
    ∙ finding-three _ _ a.n _ _ c.requires.0.gathered a.line a.item _ c.requires.2 c.frame-r.ensures
    false _ a.owners.now _ _ (sym c.if-reads_own.false ∙ c.reads_own.ensures) refl c.requires.1
    refl c.shown_stamp-stamp.ensures)
