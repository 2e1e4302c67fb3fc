-- Of a line with a frame the bytes read are the frame's, so that its call is the line's.
use Rattle.std.proofs.Common.{arith}
use Rattle.std.proofs.Math.Seq.{length-take-le}
use Rattle.store_frames.proofs.Reading.{frame-stored, frame-front, frame-parsed}
use Rattle.lines.proofs.carry_out.Goals as goal

pub slice_bounds-bytes-end : goal.slice_bounds-bytes-end
slice_bounds-bytes-end c =
    let s = frame-stored c.args.line.now c.in-Some.field-0 c.in-Some.ensures.value in
    omega (arith, s.fits)

pub slice_bounds-call-end : goal.slice_bounds-call-end
slice_bounds-call-end c =
    let s = frame-stored c.args.line.now c.in-Some.field-0 c.in-Some.ensures.value in
    let bytes = c.read_frame.new.bytes in
    let long = length-take-le c.in-Some.field-0.length bytes (omega (arith, s.fits)) in
    cc

pub call-requires : goal.call-requires
call-requires c =
    let e = c.in-Some.ensures in
    let p = c.in-Some.field-0 in
    let front = frame-front c.args.line.now p e.value _ e.bytes_after (omega arith) in
    rw front (frame-parsed c.args.line.now c.in-Some.field-0 e.value)

pub returns-clause-value : goal.returns-clause-value
returns-clause-value c =
    let e = c.in-Some.ensures in
    let p = c.in-Some.field-0 in
    let front = frame-front c.args.line.now p e.value _ e.bytes_after (omega arith) in
    rw (← e.value) (rw front at c.call.ensures.value)

pub returns-clause-b_after : goal.returns-clause-b_after
returns-clause-b_after c =
    let e = c.in-Some.ensures in
    let p = c.in-Some.field-0 in
    let front = frame-front c.args.line.now p e.value _ e.bytes_after (omega arith) in
    rw (← e.value) (rw front at c.call.ensures.b_after)
