use mathlib.Core.Path.{ap, ◌∙◌}
use Rattle.std.specs.Prelude.{unwrap_or}
use Rattle.check_stamps.proofs.Read.{value-or-zero}
use Rattle.check_stamps.proofs.Truncated.{keyed-of}
use Rattle.check_stamps.proofs.Versions.stored_value.Goals as goal

pub returns : goal.returns
returns c =
    c.unwrap_or.ensures ∙ ap (λ o. unwrap_or o 0) c.value.ensures
    ∙ value-or-zero _ (keyed-of _ _ _ c.args.self.now.keyed).valid _ _ c.requires.0
