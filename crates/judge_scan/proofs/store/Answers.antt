-- `judge_scan::store` meets its contract: what decoding stores in the part that it was lent, it
-- stores in the whole.
use Rattle.std.proofs.Common.{ℕ, ◌-◌, ◌++◌, List, length, take, drop, ap, ◌∙◌, arith}
use Rattle.hexadecimal.specs.Text.{bytes_of}
use Rattle.hexadecimal.proofs.Text.{length-bytes_of-le}
use Rattle.judge_frames.proofs.Cuts.{put-part}
use Rattle.judge_scan.proofs.store.Goals as goal

pub returns-clause-bytes_after : goal.returns-clause-bytes_after
returns-clause-bytes_after c =
    let line = c.args.line.now in
    let bytes = c.args.bytes.now in
    let end = c.args.end in
    ap (λ (l : List ℕ). take end bytes ++ (l ++ drop (length bytes - end) (drop end bytes)))
    c.decode.ensures.stores
    ∙ put-part (bytes_of line) bytes end (omega (arith, length-bytes_of-le line, c.requires))
