use mathlib.Core.List.{List}
use mathlib.Core.Logic.{inl, inr}
use mathlib.Core.Path.{sym, subst, ap, ◌∙◌, ◌≡◌}
use mathlib.Core.Bool.{true}
use Prim.Native.Nat.{ℕ}
use native.Mathlib.Omega.{arith}
use Rattle.protocol.specs.declared.Message.TheVariants.{Prepared, Commit, Get, Got, FirstGet}
use Rattle.protocol.specs.declared.Message.TheVariants.{FirstReply}
use Rattle.protocol.specs.Range.{message_in_range}
use Rattle.layout.specs.Decode.{message_of, tables_of}
use Rattle.check_stamps.proofs.Truncated.{held-of}
use Rattle.check_stamps.specs.Parts.{good_message}
use Rattle.check_messages.proofs.Told.{some-stamp, stamp-ranged, item-few, owner-few}
use Rattle.check_messages.proofs.Told.{commit-is, get-is, got-is, first-get-is}
use Rattle.check_messages.proofs.Told.{first-reply-is, of-kind, of-reply, test-kind}
use Rattle.check_messages.proofs.kinds.good_words.Goals as goal

pub prepare-requires : goal.prepare-requires
unfolding message_of
prepare-requires c =
    let a = c.args in
    of-kind _ a.kind a.who a.v a.latest 1 c.in-1.is c.requires.2

pub returns-in-1 : goal.returns-in-1
unfolding message_of
returns-in-1 c =
    let a = c.args in
    test-kind _ a.kind a.who a.v a.latest 1 c.in-1.is c.prepare.ensures

pub prepared-requires : goal.prepared-requires
unfolding message_of
prepared-requires c =
    let a = c.args in
    subst (λ (b : List ℕ). message_in_range (tables_of b).sizes (Prepared a.v.item a.v.stamp) ≡ true)
    (sym a.looks.now.same) (of-kind _ a.kind a.who a.v a.latest 2 c.in-2.is c.requires.2)

pub returns-in-2 : goal.returns-in-2
unfolding message_of
returns-in-2 c =
    let a = c.args in
    test-kind _ a.kind a.who a.v a.latest 2 c.in-2.is
    (c.prepared.ensures
    ∙ ap (λ (b : List ℕ). good_message (tables_of b) (Prepared a.v.item a.v.stamp)) a.looks.now.same)

pub committed-requires : goal.committed-requires
unfolding message_of
committed-requires c =
    let a = c.args in
    let valid = (held-of _ _ _ a.looks.now.wholes.stamps.held).valid in
    let m = Commit a.who a.v.stamp in
    let r = of-kind _ a.kind a.who a.v a.latest 3 c.in-3.is c.requires.2 in
    (some-stamp _ valid m r (omega arith), stamp-ranged _ valid m r)

pub returns-in-3 : goal.returns-in-3
unfolding message_of
returns-in-3 c =
    let a = c.args in
    let valid = (held-of _ _ _ a.looks.now.wholes.stamps.held).valid in
    test-kind _ a.kind a.who a.v a.latest 3 c.in-3.is
    (commit-is _ valid a.who a.v.stamp c.committed.ensures)

pub good_ask-requires : goal.good_ask-requires
unfolding message_of
good_ask-requires c =
    let a = c.args in
    let valid = (held-of _ _ _ a.looks.now.wholes.stamps.held).valid in
    stamp-ranged _ valid (Get a.who a.v.item a.v.stamp)
    (of-kind _ a.kind a.who a.v a.latest 4 c.in-4.is c.requires.2)

pub is_asked-requires : goal.is_asked-requires
unfolding message_of
is_asked-requires c =
    let a = c.args in
    let valid = (held-of _ _ _ a.looks.now.wholes.stamps.held).valid in
    let m = Get a.who a.v.item a.v.stamp in
    let r = of-kind _ a.kind a.who a.v a.latest 4 c.in-4.is c.requires.2 in
    let few = owner-few _ valid m r in
    (few.0, few.1, item-few _ valid m r)

pub returns-in-4 : goal.returns-in-4
unfolding message_of
returns-in-4 c =
    let a = c.args in
    let valid = (held-of _ _ _ a.looks.now.wholes.stamps.held).valid in
    let r = of-kind _ a.kind a.who a.v a.latest 4 c.in-4.is c.requires.2 in
    test-kind _ a.kind a.who a.v a.latest 4 c.in-4.is
    (get-is _ valid a.who a.v.item a.v.stamp r c.good_ask.ensures c.is_asked.ensures)

pub brought-requires : goal.brought-requires
unfolding message_of
brought-requires c =
    let a = c.args in
    of-reply _ a.kind a.who a.v a.latest
    (held-of _ _ _ a.looks.now.wholes.stamps.held).valid
    (inl c.in-5.is) c.requires.2

pub is_asked-requires-in-5 : goal.is_asked-requires-in-5
unfolding message_of
is_asked-requires-in-5 c =
    let a = c.args in
    let valid = (held-of _ _ _ a.looks.now.wholes.stamps.held).valid in
    let m = Got a.who a.v a.latest in
    let r = of-kind _ a.kind a.who a.v a.latest 5 c.in-5.is c.requires.2 in
    let few = owner-few _ valid m r in
    (few.0, few.1, item-few _ valid m r)

pub returns-in-5 : goal.returns-in-5
unfolding message_of
returns-in-5 c =
    let a = c.args in
    let valid = (held-of _ _ _ a.looks.now.wholes.stamps.held).valid in
    let r = of-kind _ a.kind a.who a.v a.latest 5 c.in-5.is c.requires.2 in
    test-kind _ a.kind a.who a.v a.latest 5 c.in-5.is
    (got-is _ valid a.who a.v a.latest c.brought.ensures r c.is_asked-in-5.ensures)

pub in_first_part-requires : goal.in_first_part-requires
unfolding message_of
in_first_part-requires c =
    let a = c.args in
    let valid = (held-of _ _ _ a.looks.now.wholes.stamps.held).valid in
    owner-few _ valid (FirstGet a.who a.v.item)
    (of-kind _ a.kind a.who a.v a.latest 6 c.in-6.is c.requires.2)

pub returns-in-6 : goal.returns-in-6
unfolding message_of
returns-in-6 c =
    let a = c.args in
    let valid = (held-of _ _ _ a.looks.now.wholes.stamps.held).valid in
    let r = of-kind _ a.kind a.who a.v a.latest 6 c.in-6.is c.requires.2 in
    test-kind _ a.kind a.who a.v a.latest 6 c.in-6.is
    (first-get-is _ valid a.who a.v.item r c.in_first_part.ensures)

pub brought-requires-in_default : goal.brought-requires-in_default
unfolding message_of
brought-requires-in_default c =
    let a = c.args in
    let last : a.kind ≡ 7 = omega arith in
    of-reply _ a.kind a.who a.v a.latest
    (held-of _ _ _ a.looks.now.wholes.stamps.held).valid
    (inr last) c.requires.2

pub in_first_part-requires-in_default : goal.in_first_part-requires-in_default
unfolding message_of
in_first_part-requires-in_default c =
    let a = c.args in
    let last : a.kind ≡ 7 = omega arith in
    let valid = (held-of _ _ _ a.looks.now.wholes.stamps.held).valid in
    owner-few _ valid (FirstReply a.who a.v a.latest)
    (of-kind _ a.kind a.who a.v a.latest 7 last c.requires.2)

pub returns-in_default : goal.returns-in_default
unfolding message_of
returns-in_default c =
    let a = c.args in
    let last : a.kind ≡ 7 = omega arith in
    let valid = (held-of _ _ _ a.looks.now.wholes.stamps.held).valid in
    let r = of-kind _ a.kind a.who a.v a.latest 7 last c.requires.2 in
    test-kind _ a.kind a.who a.v a.latest 7 last
    (first-reply-is _ valid a.who a.v a.latest c.brought-in_default.ensures r
    c.in_first_part-in_default.ensures)
