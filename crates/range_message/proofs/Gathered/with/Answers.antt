-- `Gathered::with` meets its contract, kind by kind.
use Rattle.std.proofs.Common.{ltb, leb, eqb, ◌&&◌, ◌||◌, arith}
use Rattle.range_message.proofs.MessageTests.{prepare-tests, prepared-tests, commit-tests}
use Rattle.range_message.proofs.MessageTests.{owned-word, no-kind-tests, get_tests}
use Rattle.range_message.proofs.MessageTests.{first-get-tests, got-tests}
use Rattle.range_message.proofs.Gathering.{takes-version, takes-stamp, takes-rest}
use Rattle.range_message.proofs.Gathering.{takes_none, takes-got}
use Rattle.range_message.proofs.Gathered.with.Goals as goal

pub returns-then-kind-eq-PREPARE : goal.returns-then-kind-eq-PREPARE
returns-then-kind-eq-PREPARE c =
    let m = c.args.m in
    let l = c.args.limits.now in
    takes-version l.items c.args.self (ltb m.item l.items && c.has.result) m.value c.owned.result
    m.set
    (prepare-tests l.clients l.partitions l.items (omega arith) (omega arith) m
    (owned-word l.clients m.stamp (omega arith) (omega arith) c.owned.ensures)
    c.has.ensures (omega arith))

pub returns-then-kind-eq-PREPARED : goal.returns-then-kind-eq-PREPARED
returns-then-kind-eq-PREPARED c =
    let m = c.args.m in
    let l = c.args.limits.now in
    let o = c.owned-then-kind-eq-PREPARED in
    takes-stamp l.items c.args.self (ltb m.item l.items) o.result
    (prepared-tests l.clients l.partitions l.items (omega arith) (omega arith) m
    (owned-word l.clients m.stamp (omega arith) (omega arith) o.ensures) (omega arith))

pub returns-then-kind-eq-COMMIT : goal.returns-then-kind-eq-COMMIT
returns-then-kind-eq-COMMIT c =
    let m = c.args.m in
    let l = c.args.limits.now in
    let o = c.owned-then-kind-eq-COMMIT in
    takes-stamp l.items c.args.self (ltb m.who l.partitions) o.result
    (commit-tests l.clients l.partitions l.items (omega arith) (omega arith) m
    (owned-word l.clients m.stamp (omega arith) (omega arith) o.ensures) (omega arith))

pub returns-then-kind-lt-GET : goal.returns-then-kind-lt-GET
returns-then-kind-lt-GET c =
    let l = c.args.limits.now in
    takes_none l.items c.args.self
    (no-kind-tests l.clients l.partitions l.items (omega arith) (omega arith) c.args.m
    (omega arith))

pub returns-then-kind-eq-GET : goal.returns-then-kind-eq-GET
returns-then-kind-eq-GET c =
    let m = c.args.m in
    let l = c.args.limits.now in
    takes-stamp l.items c.args.self ((leb 1 m.who && leb m.who l.clients) && ltb m.item l.items)
    c.owned_or_initial.result
    (get_tests l.clients l.partitions l.items (omega arith) (omega arith) m
    c.owned_or_initial.ensures (omega arith))

pub returns-then-kind-eq-FIRST_GET : goal.returns-then-kind-eq-FIRST_GET
returns-then-kind-eq-FIRST_GET c =
    let m = c.args.m in
    let l = c.args.limits.now in
    takes-rest l.items c.args.self ((leb 1 m.who && leb m.who l.clients) && ltb m.item l.items)
    (first-get-tests l.clients l.partitions l.items (omega arith) (omega arith) m (omega arith))

pub returns : goal.returns
returns c =
    let m = c.args.m in
    let l = c.args.limits.now in
    takes-got l.items c.args.self
    ((eqb m.kind 5 || eqb m.kind 7) && (leb 1 m.who && leb m.who l.clients) && ltb m.item l.items)
    m.value c.owned_or_initial-2.result c.owned_or_initial-3.result m.set m.latest.set
    (got-tests l.clients l.partitions l.items (omega arith) (omega arith) m
    c.owned_or_initial-2.ensures c.owned_or_initial-3.ensures (omega arith) (omega arith))
