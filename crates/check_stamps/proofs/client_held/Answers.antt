use native.Mathlib.Omega.{arith}
use Rattle.check_stamps.proofs.Block.{few-clients}
use Rattle.check_stamps.proofs.Read.{client-none, client-even, client-odd}
use Rattle.check_stamps.proofs.client_held.Goals as goal

pub returns-then-clients-i : goal.returns-then-clients-i
returns-then-clients-i c = client-none _ _ c.clients-clients.ensures c.if-clients-i.true

pub under_way-requires : goal.under_way-requires
under_way-requires c =
    (omega arith, omega (arith, c.clients-clients.ensures, few-clients c.args.b.now c.requires))

pub returns-then-q-eq0 : goal.returns-then-q-eq0
returns-then-q-eq0 c =
    client-even _ _ c.clients-clients.ensures (omega arith) c.if-q-eq0.true c.under_way.ensures

pub last_ended-requires : goal.last_ended-requires
last_ended-requires c =
    (omega arith, omega (arith, c.clients-clients.ensures, few-clients c.args.b.now c.requires))

pub returns : goal.returns
returns c =
    client-odd _ _ c.clients-clients.ensures (omega arith) c.if-q-eq0.false c.last_ended.ensures
