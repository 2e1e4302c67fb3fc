-- `client_parts::last_write_stamp` meets its contract: by the kind.
use Rattle.client_parts.proofs.Words.{last-stamp}
use Rattle.client_parts.proofs.last_write_stamp.Goals as goal

pub returns : goal.returns
returns c = last-stamp _ _ c.written.ensures c.last_kind-kind.ensures c.last_stamp-stamp.ensures
