-- `show::frame_length` meets its contract: kind and client, and the parts that the kind shows.
use mathlib.Core.Path.{sym, ap, ap₂, ◌∙◌}
use Prim.Native.Nat.{ℕ, ◌+◌}
use lib.ListN.{length}
use Rattle.show.proofs.LogFrames.{frame_in-nothing, length-frame_in}
use Rattle.show.proofs.frame_length.Goals as goal

pub returns-then-kind-eq-NONE : goal.returns-then-kind-eq-NONE
returns-then-kind-eq-NONE c = sym (ap length
    (frame_in-nothing _ _ c.last_kind-kind.ensures c.last_set-s.ensures
    c.if-kind-eq-NONE.true))

pub returns-else-kind-eq-NONE : goal.returns-else-kind-eq-NONE
returns-else-kind-eq-NONE c = ap₂ (λ (m n : ℕ). 2 + m + n) c.read_length.ensures c.write_length.ensures
    ∙ sym (length-frame_in _ _ c.last_kind-kind.ensures c.last_set-s.ensures
    c.last_written_set-written.ensures c.last_set-s.type_inv
    c.last_written_set-written.type_inv c.if-kind-eq-NONE.false)
