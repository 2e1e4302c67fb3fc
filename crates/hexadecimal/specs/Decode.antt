-- What decoding a line answers (document 01: frames).
use Rattle.std.specs.Prelude.{Option, Some, None, cond, List, ℕ, ◌/◌, length}
use Rattle.hexadecimal.specs.Text.{is_hex}

-- how many bytes the line holds where it is hex
abbrev pub decoded : List ℕ → Option ℕ
decoded line = cond (is_hex line) (Some (length line / 2)) None
