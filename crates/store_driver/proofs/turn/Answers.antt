-- Without bytes nothing changes, at the end the input is ended, and the bytes read are those of the
-- buffer.
use Rattle.std.proofs.Common.{◌≡◌, ◌≤◌, true, false, refl, arith, rules}
use lib.ListN.{length, take, length-take}
use Rattle.lines.specs.Input.{fed_all}
use Rattle.store_driver.specs.Turn.{turned}
use Rattle.store_driver.proofs.Turning.{took-part}
use Rattle.store_driver.proofs.turn.Goals as goal

pub returns-in_err-n : goal.returns-in_err-n
unfolding turned fed_all
returns-in_err-n c =
    record {
      taken = 0;
      ended = false;
      goes = λ e. refl;
      some = search rules;
      stops = search rules;
      folded = refl;
    }

pub returns-in_err-finish : goal.returns-in_err-finish
unfolding turned fed_all
returns-in_err-finish c =
    record {
      taken = 0;
      ended = true;
      goes = search rules;
      some = search rules;
      stops = λ e. refl;
      folded = c.finish.ensures;
    }

pub returns-then-n-eq0 : goal.returns-then-n-eq0
unfolding turned fed_all
returns-then-n-eq0 c =
    record {
      taken = 0;
      ended = true;
      goes = λ e. cc;
      some = λ e. cc;
      stops = λ e. refl;
      folded = c.finish.ensures;
    }

pub returns-in_err-take_bytes : goal.returns-in_err-take_bytes
returns-in_err-take_bytes c =
    took-part c.in_ok-n.n c.take_bytes.ensures _ (search rules) (search rules)

pub returns : goal.returns
returns c =
    let n = c.in_ok-n.n in
    let e = c.take_bytes.ensures in
    let fits : n ≤ length c.read.new.buf = search rules in
    let whole : e.taken ≡ length (take n c.read.new.buf) = search rules in
    took-part n e _ (λ o. omega (arith, fits, whole, length-take n c.read.new.buf)) (λ o. cc)
