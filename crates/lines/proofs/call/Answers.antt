-- A write has ten bytes before its values, a mixed start eighteen.
use Rattle.std.proofs.Common.{length, arith}
use Rattle.store_frames.proofs.Parsing.{parsed-write, parsed-mixed}
use Rattle.lines.proofs.call.Goals as goal

pub slice_bounds-start_write-count : goal.slice_bounds-start_write-count
slice_bounds-start_write-count c =
    let f = c.args.f.now in
    let w = c.in-Write in
    omega (arith, parsed-write f w.client w.set (length f) (rw w.is at c.requires))

pub slice_bounds-start_write-start : goal.slice_bounds-start_write-start
slice_bounds-start_write-start c =
    let f = c.args.f.now in
    let w = c.in-Write in
    omega (arith, parsed-write f w.client w.set (length f) (rw w.is at c.requires))

pub slice_bounds-start_mixed-count : goal.slice_bounds-start_mixed-count
slice_bounds-start_mixed-count c =
    let f = c.args.f.now in
    let m = c.in-Mixed in
    omega (arith, parsed-mixed f m.client m.reads m.writes (length f) (rw m.is at c.requires))

pub slice_bounds-start_mixed-start : goal.slice_bounds-start_mixed-start
slice_bounds-start_mixed-start c =
    let f = c.args.f.now in
    let m = c.in-Mixed in
    omega (arith, parsed-mixed f m.client m.reads m.writes (length f) (rw m.is at c.requires))
