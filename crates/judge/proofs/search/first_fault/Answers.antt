-- `judge::search::first_fault` meets its contract: the tests of an item are those of `item_faulted`,
-- and the items of a read decide as `fault_at` does.
use Rattle.std.proofs.Common.{◌≡◌, refl, sym, ◌∙◌, subst, arith}
use mathlib.Core.Bool.{Bool, true, false}
use native.Mathlib.Nat.{sub-zero}
use lib.ListN.{get_or}
use Rattle.findings.specs.Findings.{fault_at}
use Rattle.judge_findings.specs.Owned.{SmallClients}
use Rattle.judge_findings.specs.Tests.{faults_by}
use Rattle.judge_findings.specs.Writes.{line_of, items_of, stamp_of}
use Rattle.judge_findings.proofs.Owning.{owned-next}
use Rattle.judge_frames.specs.Cut.{frames_in}
use Rattle.log_format.specs.Some.{some_from}
use Rattle.log_format.proofs.Some.{first_from-here, first_from-next, first_from-end}
use Rattle.log_format.proofs.Some.{some_from-here, some_from-next, some_from-end}
use Rattle.judge.specs.Search.{item_faulted, faulted}
use Rattle.judge.proofs.Searching.{read-faulted}
use Rattle.judge.proofs.Shown.{not-shown, lost-faults, write-faults, neither-faults}
use Rattle.judge.proofs.search.first_fault.Goals as goal

pub lines-init : goal.lines-init
lines-init c = (rw sub-zero, c.requires.1, refl)

pub shown-preserved-then-not-has : goal.shown-preserved-then-not-has
shown-preserved-then-not-has c =
    let a = c.args in
    let none = not-shown a.writes.frames.bytes.now a.writes.frames.starts.now a.writes.table.now a.writes.count
    c.lines.owners c.frame-read.result.now c.shown.item c.shown-items.result c.shown-items.ensures
    (sym c.has.ensures ∙ c.if-not-has.true) in
    (sym (some_from-next _ _ _ c.shown-test.true none) ∙ c.shown.invariant.0, c.shown.invariant.1)

pub writes-preserved : goal.writes-preserved
writes-preserved c = (
  sym (some_from-next _ _ _ c.writes-test.true (sym c.faults_at.ensures ∙ c.if-faults_at.false))
      ∙ c.writes.invariant.0,
  c.writes.invariant.1,
)

pub shown-preserved : goal.shown-preserved
shown-preserved c =
    let a = c.args in
    let no-write = sym c.writes.invariant.0 ∙ some_from-end _ _ _ c.writes-test.false in
    let none = neither-faults a.writes.frames.bytes.now a.writes.frames.starts.now a.writes.table.now a.writes.count
    c.lines.owners c.frame-read.result.now c.shown.item c.shown-items.result
    c.shown_stamp-stamp.result c.shown_value-value.result c.client-of.result c.shown-items.ensures
    (sym c.has.ensures ∙ c.if-not-has.false) c.shown_stamp-stamp.ensures c.shown_value-value.ensures
    c.client-of.ensures.value (sym c.is_unwritten.ensures ∙ c.if-is_unwritten.false) no-write in
    (sym (some_from-next _ _ _ c.shown-test.true none) ∙ c.shown.invariant.0, c.writes.invariant.1)

pub pass_line-requires : goal.pass_line-requires
pass_line-requires c = (
  omega (arith, c.lines.invariant.1.long),
  subst SmallClients (sym c.frame-read.ensures) (c.requires.0.small c.lines.line c.lines-test.true),
)

pub lines-preserved : goal.lines-preserved
lines-preserved c =
    let a = c.args in
    let l = c.lines in
    let none = sym (read-faulted a.writes.frames.bytes.now a.writes.frames.starts.now a.n
    a.writes.table.now a.writes.count c.requires.0.gathered l.line l.owners _ l.invariant.1
    c.frame-read.ensures c.lines-test.true) ∙ sym c.shown.invariant.0
    ∙ some_from-end _ _ _ c.shown-test.false in (
      sym (first_from-next a.n l.line _ c.lines-test.true none) ∙ l.invariant.0,
      owned-next a.writes.frames.bytes.now a.writes.frames.starts.now a.n l.line _ c.lines-test.true
          c.frame-read.ensures _ _ l.invariant.1 c.pass_line.ensures,
      c.shown.invariant.1,
    )

pub returns-after-lines-clause-value : goal.returns-after-lines-clause-value
returns-after-lines-clause-value c =
    let l = c.lines in
    let last : c.args.n ≡ l.line = omega arith in
    rw l.invariant.2 (last ∙ sym (first_from-end c.args.n l.line _ c.lines-test.false) ∙ l.invariant.0)

pub returns-then-is_unwritten-clause-value : goal.returns-then-is_unwritten-clause-value
returns-then-is_unwritten-clause-value c =
    let a = c.args in
    let l = c.lines in
    let fault = lost-faults a.writes.frames.bytes.now a.writes.frames.starts.now a.writes.table.now a.writes.count
    l.owners c.frame-read.result.now c.shown.item c.shown-items.result
    c.shown_stamp-stamp.result c.shown_value-value.result c.client-of.result c.shown-items.ensures
    (sym c.has.ensures ∙ c.if-not-has.false) c.shown_stamp-stamp.ensures c.shown_value-value.ensures
    c.client-of.ensures.value (sym c.is_unwritten.ensures ∙ c.if-is_unwritten.true) in
    let some = sym (read-faulted a.writes.frames.bytes.now a.writes.frames.starts.now a.n
    a.writes.table.now a.writes.count c.requires.0.gathered l.line l.owners _ l.invariant.1
    c.frame-read.ensures c.lines-test.true) ∙ sym c.shown.invariant.0
    ∙ some_from-here _ _ _ c.shown-test.true fault in
    sym (first_from-here a.n l.line _ c.lines-test.true some) ∙ l.invariant.0

pub returns-then-faults_at-clause-value : goal.returns-then-faults_at-clause-value
returns-then-faults_at-clause-value c =
    let a = c.args in
    let l = c.lines in
    let write = sym c.writes.invariant.0
    ∙ some_from-here _ _ _ c.writes-test.true (sym c.faults_at.ensures ∙ c.if-faults_at.true) in
    let fault = write-faults a.writes.frames.bytes.now a.writes.frames.starts.now a.writes.table.now a.writes.count
    l.owners c.frame-read.result.now c.shown.item c.shown-items.result
    c.shown_stamp-stamp.result c.shown_value-value.result c.client-of.result c.shown-items.ensures
    (sym c.has.ensures ∙ c.if-not-has.false) c.shown_stamp-stamp.ensures c.shown_value-value.ensures
    c.client-of.ensures.value write in
    let some = sym (read-faulted a.writes.frames.bytes.now a.writes.frames.starts.now a.n
    a.writes.table.now a.writes.count c.requires.0.gathered l.line l.owners _ l.invariant.1
    c.frame-read.ensures c.lines-test.true) ∙ sym c.shown.invariant.0
    ∙ some_from-here _ _ _ c.shown-test.true fault in
    sym (first_from-here a.n l.line _ c.lines-test.true some) ∙ l.invariant.0
