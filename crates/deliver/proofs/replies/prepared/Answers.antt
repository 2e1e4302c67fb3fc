-- `deliver::replies::prepared` meets its contract: by the mode.
use Rattle.deliver.proofs.Rows.{prepared-mixed, prepared-other}
use Rattle.deliver.proofs.replies.prepared.Goals as goal

pub returns-then-mode-eq-MIXING : goal.returns-then-mode-eq-MIXING
returns-then-mode-eq-MIXING c =
    prepared-mixed _ _ _ _ _ _ _ c.mode.ensures c.if-mode-eq-MIXING.true
    c.mixed_prepared.ensures

pub returns-else-mode-eq-MIXING : goal.returns-else-mode-eq-MIXING
returns-else-mode-eq-MIXING c =
    prepared-other _ _ _ _ _ _ _ c.mode.ensures c.if-mode-eq-MIXING.false
    c.written.ensures
