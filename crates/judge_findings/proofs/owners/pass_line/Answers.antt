-- `judge_findings::owners::pass_line` meets its contract.
use Rattle.std.proofs.Common.{◌≡◌, ◌<◌, ◌++◌, ap, ◌∙◌, length, take, drop, arith}
use Rattle.std.proofs.Common.{length-take, length-append, length-drop}
use Rattle.itemset.specs.Set.{insert64}
use Rattle.itemset.proofs.Laws.{insert64-lt}
use Rattle.log_format.specs.Log.{client_of}
use Rattle.judge_findings.proofs.Owning.{heir-over, hands, handed-first, handed-next, handed-front, passed}
use Rattle.judge_findings.proofs.owners.pass_line.Goals as goal

pub loop-clients-init : goal.loop-clients-init
loop-clients-init c = handed-first (take c.handed-above.result c.args.owners.now) c.args.f.now

pub loop-clients-preserved : goal.loop-clients-preserved
loop-clients-preserved c =
    let l = c.loop-clients in
    let f = c.args.f.now in
    let table = take c.handed-above.result c.args.owners.now in
    let inside : l.clients-index < c.handed-above.result =
    omega (arith, length-take c.handed-above.result c.args.owners.now) in
    let over = hands f _ _ _ c.handed-above.ensures.value inside in
    handed-next table f l.clients-items l.clients-index _ l.invariant (omega arith)
    (c.with_heir.ensures
    ∙ heir-over f _ _ _ over c.client-giver.ensures.value c.receiver-to.ensures.value)

pub returns : goal.returns
returns c =
    let l = c.loop-clients in
    let f = c.args.f.now in
    let owners = c.args.owners.now in
    let above = c.handed-above.result in
    let size : length (take above owners) ≡ above = omega (arith, length-take above owners) in
    let end : l.clients-index ≡ above = omega arith in
    let done =
    handed-front owners f l.clients-items above (omega arith) (omega arith) (rw end at l.invariant) in
    let long : length (l.clients-items ++ drop above owners) ≡ length owners =
    omega (arith, length-append l.clients-items (drop above owners), length-drop above owners) in
    passed owners f (l.clients-items ++ drop above owners) c.args.line above _ done
    c.handed-above.ensures.value long (omega arith)
    (c.insert.ensures ∙ ap (insert64 0) c.client-giver.ensures.value
    ∙ insert64-lt 0 (client_of f) c.requires.1.client)
