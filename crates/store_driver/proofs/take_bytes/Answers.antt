-- The byte of each turn is fed behind those before it.
use Rattle.std.proofs.Common.{◌+◌, refl, arith, rules}
use Rattle.lines.specs.Input.{fed_all}
use Rattle.store_driver.proofs.Turning.{fed-next}
use Rattle.store_driver.proofs.take_bytes.Goals as goal

pub loop-c-init : goal.loop-c-init
unfolding fed_all
loop-c-init c = refl

pub loop-c-preserved : goal.loop-c-preserved
loop-c-preserved c =
    fed-next _ _ _ c.args.input.now c.loop-c.c-index (omega arith) c.loop-c.invariant
    c.take_byte.ensures

pub returns-in_err-take_byte : goal.returns-in_err-take_byte
returns-in_err-take_byte c =
    record {
      taken = c.loop-c.c-index + 1;
      within = omega arith;
      whole = search rules;
      folded =
          fed-next _ _ _ c.args.input.now c.loop-c.c-index (omega arith) c.loop-c.invariant
          c.take_byte.ensures;
    }
