-- `client_parts::write_stamp` meets its contract: by the mode.
use Rattle.client_parts.proofs.Words.{write-stamp}
use Rattle.client_parts.proofs.write_stamp.Goals as goal

pub returns : goal.returns
returns c = write-stamp _ _ c.written.ensures c.mode-mode.ensures c.stamp-stamp.ensures
