-- `deliver::replies::got` meets its contract: by the mode.
use Rattle.deliver.proofs.Rows.{got-mixed, got_other}
use Rattle.deliver.proofs.replies.got.Goals as goal

pub returns-then-mode-eq-MIXING : goal.returns-then-mode-eq-MIXING
returns-then-mode-eq-MIXING c =
    got-mixed _ _ _ _ _ _ _ _ c.mode.ensures c.if-mode-eq-MIXING.true
    c.mixed_got.ensures

pub returns-else-mode-eq-MIXING : goal.returns-else-mode-eq-MIXING
returns-else-mode-eq-MIXING c =
    got_other _ _ _ _ _ _ _ _ c.mode.ensures c.if-mode-eq-MIXING.false
    c.read_got.ensures
