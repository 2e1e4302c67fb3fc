-- `judge_scan::reached` meets its contract.
use Rattle.std.proofs.Common.{◌≡◌, ℕ, ◌+◌, ◌-◌, ◌<◌, Bool, sym, ap, ◌∙◌, arith}
use lib.Dec.{leb}
use Rattle.judge_form.specs.Parsed.{is_write_of}
use Rattle.judge_frames.specs.Cut.{frame_in}
use Rattle.judge_frames.proofs.Cuts.{frames-some}
use Rattle.judge_scan.proofs.Rising.{other-line, last-write}
use Rattle.log_format.specs.Log.{number_of, reaches}
use Rattle.log_format.specs.Some.{some_from}
use Rattle.judge_scan.proofs.reached.Goals as goal

-- the frames up to the line before the j-th decide as those before the j-th
up_to_lem : (p : ℕ → Bool) (j : ℕ) (all : Bool) → 0 < j → some_from j 0 p ≡ all
    → some_from (j - 1 + 1) 0 p ≡ all
up_to_lem p j all h e =
    let same : j - 1 + 1 ≡ j = omega arith in
    ap (λ (k : ℕ). some_from k 0 p) same ∙ e

pub loop-j-init : goal.loop-j-init
loop-j-init c =
    let a = c.args in
    frames-some a.frames.bytes.now a.frames.starts.now (reaches a.of a.number) a.n

pub returns-then-is_write_of : goal.returns-then-is_write_of
returns-then-is_write_of c =
    let a = c.args in
    let line = c.loop-j.j - 1 in
    let tested : is_write_of a.of (frame_in a.frames.bytes.now a.frames.starts.now line) ≡ _ =
    ap (is_write_of a.of) (sym c.frame-w.ensures) ∙ sym c.is_write_of.ensures ∙ c.if-is_write_of.true in
    ap (leb a.number) (c.write_number.ensures.value ∙ ap number_of c.frame-w.ensures)
    ∙ last-write a.frames.bytes.now a.frames.starts.now a.n c.requires.2 a.of a.number line (omega arith) tested
    ∙ up_to_lem _ c.loop-j.j _ (omega arith) c.loop-j.invariant

pub loop-j-preserved : goal.loop-j-preserved
loop-j-preserved c =
    let a = c.args in
    let line = c.loop-j.j - 1 in
    let tested : is_write_of a.of (frame_in a.frames.bytes.now a.frames.starts.now line) ≡ _ =
    ap (is_write_of a.of) (sym c.frame-w.ensures) ∙ sym c.is_write_of.ensures ∙ c.if-is_write_of.false in
    sym (other-line a.frames.bytes.now a.frames.starts.now a.n c.requires.2 a.of a.number line (omega arith)
    c.requires.1 tested)
    ∙ up_to_lem _ c.loop-j.j _ (omega arith) c.loop-j.invariant

pub returns : goal.returns
unfolding some_from
returns c =
    let a = c.args in
    let none : 0 ≡ c.loop-j.j = omega arith in
    ap (λ (j : ℕ). some_from j 0 (λ k. reaches a.of a.number (frame_in a.frames.bytes.now a.frames.starts.now k)))
    none
    ∙ c.loop-j.invariant
