-- `judge_scan::take_line` meets its contract: a line that isn't digits is malformed, and one that is
-- has its bytes behind the frames before, where parsing finds them.
use Rattle.std.proofs.Common.{◌≡◌, ◌+◌, sym, ap, ◌∙◌, subst, arith}
use Rattle.hexadecimal.proofs.Line.{line_end-ge}
use Rattle.judge_frames.specs.Cut.{part, frames_in}
use Rattle.judge_form.specs.Parsed.{parsed, refused}
use Rattle.judge_scan.specs.Scan.{Well}
use Rattle.judge_scan.proofs.Taking.{unended, undecoded, Stored, parsed-line, same-frames, judged-line, taken}
use Rattle.judge_scan.proofs.take_line.Goals as goal
use Rattle.judge_scan.proofs.take_line.Goals.{In_ok-size, After-parse}

stored : (c : In_ok-size) → Stored c.args.log.now c.args.at c.args.bytes.now c.args.starts.now
    c.args.i c.line_end-e.result c.start-end.result c.in_ok-size.size c.store.new.bytes
stored c =
    record {
      room = c.requires;
      ends = c.line_end-e.ensures;
      begins = c.start-end.ensures;
      inside = c.if-e-log.false;
      answer = sym (c.in_ok-size.was) ∙ c.store.ensures.value;
      bytes-are = c.store.ensures.bytes_after;
    }

pub returns-then-e-log : goal.returns-then-e-log
returns-then-e-log c = unended _ _ _ _ c.line_end-e.ensures c.if-e-log.true

pub slice_bounds-store-count : goal.slice_bounds-store-count
slice_bounds-store-count c =
    omega (arith, c.line_end-e.ensures, line_end-ge c.args.log.now c.args.at)

pub slice_bounds-store-start : goal.slice_bounds-store-start
slice_bounds-store-start c =
    omega (arith, c.line_end-e.ensures, line_end-ge c.args.log.now c.args.at)

pub returns-in_err-size : goal.returns-in_err-size
returns-in_err-size c =
    rw c.from_residual.ensures
    (undecoded _ _ _ _ c.line_end-e.ensures c.if-e-log.false
    (sym (c.in_err-size.was) ∙ c.store.ensures.value))

-- what parsing the stored bytes answered
parsing : (c : After-parse) → c.parse.result
    ≡ parsed (part c.store.new.bytes c.start-end.result (c.start-end.result + c.in_ok-size.size))
parsing c = c.parse.ensures ∙ ap parsed c.part.ensures

pub returns-in_default : goal.returns-in_default
returns-in_default c =
    let s = stored (goal.at-returns-in_default c).In_ok-size in
    let p = parsing (goal.at-returns-in_default c).After-parse in
    parsed-line s ∙ ap (refused (frames_in c.args.bytes.now c.args.starts.now c.args.i))
    (sym p ∙ c.in_default.is)

pub repeats-requires : goal.repeats-requires
repeats-requires c =
    let s = stored (goal.at-repeats-requires c).In_ok-size in
    (omega (arith, c.requires.few), subst Well (sym (same-frames s)) c.requires.well)

pub returns-then-repeats : goal.returns-then-repeats
returns-then-repeats c =
    let s = stored (goal.at-returns-then-repeats c).In_ok-size in
    let p = parsing (goal.at-returns-then-repeats c).After-parse in
    judged-line s _ _ _ (sym p ∙ c.in-Some.is) c.repeats.ensures c.if-repeats.true

pub returns : goal.returns
returns c =
    let s = stored (goal.at-returns c).In_ok-size in
    let p = parsing (goal.at-returns c).After-parse in
    taken s
    (judged-line s _ _ _ (sym p ∙ c.in-Some.is) c.repeats.ensures c.if-repeats.false)
