-- What is copied into the part that is lent stands in the whole.
use Rattle.std.proofs.Common.{◌∙◌, List, ℕ, ◌-◌, ◌+◌, ap, arith, length}
use borrow.Rule.Slice.PartMut.{put_mid}
use Rattle.judge_driver.proofs.Reading.{kept-part}
use Rattle.judge_driver.proofs.keep.Goals as goal

pub returns : goal.returns
returns c =
    let size = c.args.done + length c.args.chunk.now - c.args.done in
    ap (λ (l : List ℕ). put_mid c.args.done size c.args.buf.now l) c.copy_from_slice.ensures.after
    ∙ kept-part c.args.chunk.now c.args.buf.now c.args.done size (omega arith) c.requires
