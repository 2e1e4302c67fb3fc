use native.Mathlib.Omega.{arith}
use Rattle.check_messages.proofs.Seen.{met-none, met_next, met_all, long, read-few}
use Rattle.check_messages.proofs.Seen.{read_low, read-high, read_small}
use Rattle.check_messages.proofs.one_each.Goals as goal

pub loop-i-init : goal.loop-i-init
loop-i-init c = met-none _ _ _ _

pub is_of-own-requires : goal.is_of-own-requires
is_of-own-requires c =
    let valid = c.requires.0 in
    let count = c.message_count-i-end.ensures in
    let one = c.loop-i-test.true in (
      read-few _ valid count one,
      long _ valid,
      read_low _ valid count one,
      read-high _ valid count one,
    )

pub message_word-item-requires : goal.message_word-item-requires
message_word-item-requires c =
    let valid = c.requires.0 in
    (read-few _ valid c.message_count-i-end.ensures c.loop-i-test.true, omega arith, long _ valid)

pub loop-i-preserved : goal.loop-i-preserved
loop-i-preserved c =
    let valid = c.requires.0 in
    let count = c.message_count-i-end.ensures in
    let one = c.loop-i-test.true in
    let own = c.is_of-own.ensures in
    let item = c.message_word-item.ensures in
    met_next _ c.args.write c.args.d _ _ c.loop-i.invariant one (read_low _ valid count one) own item
    (read_small _ valid count one c.args.write c.args.d own item) c.has.ensures c.met-seen.ensures

pub returns : goal.returns
returns c =
    met_all _ c.requires.0 c.args.write c.args.d c.requires.1 c.requires.2
    c.message_count-i-end.ensures c.loop-i.invariant c.loop-i-test.false c.requires.3
