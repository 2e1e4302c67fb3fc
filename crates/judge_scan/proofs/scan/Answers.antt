-- `judge_scan::scan` meets its contract.
use Rattle.std.proofs.Common.{◌≡◌, ℕ, Option, Some, None, Result, Ok, Err, refl, sym, ap, ◌∙◌, arith}
use Rattle.std.specs.Option.{ok_or}
use Rattle.std.specs.Result.{result_ok}
use Rattle.std.proofs.lemmas.Result.{err_from_is_err_and}
use Rattle.hexadecimal.proofs.Line.{line_end-ge}
use Rattle.judge_scan.proofs.Scanning.{scan-end, scan-room, scan-malformed, scan_step}
use Rattle.judge_scan.specs.Scan.{Step}
use Rattle.judge_scan.specs.declared.BadLine.{BadLine}
use Rattle.judge_scan.proofs.scan.Goals as goal
use Rattle.judge_scan.proofs.scan.Goals.{In_ok-at}

pub take_line-requires : goal.take_line-requires
take_line-requires c =
    let l = c.loop-at in
    scan-room _ l.at l.bytes l.starts l.i l.invariant c.loop-at-test.true

-- an error is that of a line that couldn't be taken
err-is : (o : Option ℕ) (r : Result ℕ BadLine) (b e : BadLine) → r ≡ ok_or o b → r ≡ Err e
    → (o ≡ None) × (e ≡ b)
err-is None r b e p q = (refl, (let h : Err e ≡ Err b = sym q ∙ p in cc))
err-is (Some n) r b e p q = let h : Err e ≡ Ok n = sym q ∙ p in (cc, cc)

pub returns-in_err-at : goal.returns-in_err-at
returns-in_err-at c =
    let l = c.loop-at in
    let p = err_from_is_err_and c.from_residual.result c.from_residual.ensures.1 in
    let none = err-is _ _ _ _ c.ok_or.ensures.value c.in_err-at.was in
    let bad = scan-malformed c.args.log.now l.at l.bytes l.starts l.i l.invariant c.loop-at-test.true
    (rw none.0 at c.take_line.ensures) in
    rw (p.1, p.2, none.1) (bad.0, bad.1, omega (arith, l.invariant.ends))

stepped : (c : In_ok-at) → Step c.args.log.now c.loop-at.at c.loop-at.i c.loop-at.bytes
    c.loop-at.starts c.take_line.new.bytes c.take_line.new.starts c.in_ok-at.at
stepped c = rw (c.ok_or.ensures.ok_part ∙ ap result_ok c.in_ok-at.was) at c.take_line.ensures

pub loop-at-smaller : goal.loop-at-smaller
loop-at-smaller c =
    omega (arith, (stepped c).after, line_end-ge c.args.log.now c.loop-at.at, c.loop-at-test.true)

pub loop-at-preserved : goal.loop-at-preserved
loop-at-preserved c =
    let l = c.loop-at in
    scan_step _ l.at l.bytes l.starts l.i l.invariant c.loop-at-test.true _ _ _ (stepped c)

pub returns : goal.returns
returns c =
    let l = c.loop-at in
    let p = scan-end c.args.log.now l.at l.bytes l.starts l.i l.invariant c.loop-at-test.false in
    (p.0, p.1, p.2, omega (arith, l.invariant.ends))
