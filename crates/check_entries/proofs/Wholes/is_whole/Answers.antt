use mathlib.Core.Path.{◌∙◌}
use borrow.Author.Tests.{le-ltb}
use Rattle.check_entries.proofs.Good.{look-whole, look-missing}
use Rattle.check_entries.proofs.Facts.{known-of}
use Rattle.check_entries.proofs.Wholes.is_whole.Goals as goal

pub returns-then-p-self : goal.returns-then-p-self
returns-then-p-self c =
    let w = c.args.self.now in
    look-whole _ _ _ _ (known-of _ _ _ _ w.stamps.held w.whole) _ c.requires.0 c.requires.1
    c.if-p-self.true

pub returns-else-p-self : goal.returns-else-p-self
returns-else-p-self c =
    let w = c.args.self.now in
    le-ltb _ _ c.if-p-self.false
    ∙ look-missing _ _ _ _ (known-of _ _ _ _ w.stamps.held w.whole) _ c.requires.0 c.requires.1
    c.if-p-self.false
