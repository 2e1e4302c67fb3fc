use mathlib.Core.Bool.{Bool}
use mathlib.Core.Path.{◌∙◌}
use Prim.Native.Nat.{ℕ}
use borrow.Author.Rules.{rules}
use Rattle.layout.specs.Decode.{message_in, tables_of}
use Rattle.check_stamps.specs.Parts.{good_message}
use Rattle.check_stamps.proofs.Truncated.{held-of}
use Rattle.check_entries.proofs.Every.{every-of_all}
use Rattle.check_entries.proofs.Good.{every-to}
use Rattle.check_messages.proofs.Told.{messages-all}
use Rattle.check_messages.proofs.kinds.good_messages.Goals as goal

pub returns : goal.returns
returns c =
    let stamps = c.args.looks.now.wholes.stamps in
    let n = c.message_count.result in
    let good : ℕ → Bool = λ j. good_message (tables_of stamps.b.now) (message_in stamps.b.now j) in
    every-of_all n good c.all.ensures.ran (λ x q k. search rules) (λ x q k. search rules)
    ∙ every-to _ c.message_count.ensures
    ∙ messages-all _ (held-of _ _ _ stamps.held).valid
