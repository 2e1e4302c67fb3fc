-- A line that isn't decoded is malformed, and of one that is the bytes stored are the frame's.
use Rattle.std.proofs.Common.{arith}
use Rattle.store_frames.proofs.Reading.{store_frame_of-malformed, stored_bytes_lem, stored-front}
use Rattle.frame_reader.proofs.read_frame.Goals as goal

pub returns-in_err-n-clause-value : goal.returns-in_err-n-clause-value
returns-in_err-n-clause-value c =
    let malformed = store_frame_of-malformed c.args.line.now c.in_err-n.ensures.value in cc

pub shared_ref_as_front-parse : goal.shared_ref_as_front-parse
shared_ref_as_front-parse c =
    let s = stored_bytes_lem c.args.line.now c.in_ok-n.n c.in_ok-n.ensures.value in
    omega (arith, s.fits)

pub returns-clause-value : goal.returns-clause-value
returns-clause-value c =
    let line = c.args.line.now in
    let e = c.in_ok-n.ensures in
    let s = stored_bytes_lem line c.in_ok-n.n e.value in
    let front = stored-front line c.args.bytes.now c.in_ok-n.n s e.bytes_after (omega arith) in
    rw front at c.parse.ensures
