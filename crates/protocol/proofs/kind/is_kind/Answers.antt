-- `protocol::kind::is_kind` meets its contract: it is the test that it is defined by.
use borrow.Author.Rules.{rules}
use Rattle.protocol.specs.Tables.{is_kind}
use Rattle.protocol.proofs.kind.is_kind.Goals as goal

pub returns : goal.returns
unfolding is_kind
returns c = search rules
