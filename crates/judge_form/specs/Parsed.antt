-- What parsing a frame answers: its client and its number, or none of a malformed one.
use Rattle.std.specs.Prelude.{Bool, true, cond, ◌&&◌, List, ℕ, eqb, leb, Option, Some, None}
use Rattle.log_format.specs.Some.{some}
use Rattle.log_format.specs.Log.{client_of, number_of, shaped, reaches}
use Rattle.judge_form.specs.declared.Parsed.{Parsed}

-- a log frame's client and number
unfoldable pub parsed : List ℕ → Option Parsed
parsed f = cond (shaped f) (Some (record { client = client_of f; number = number_of f })) None

-- w is of that client, and has a number
unfoldable pub is_write_of : ℕ → List ℕ → Bool
is_write_of client w = eqb (client_of w) client && leb 1 (number_of w)

-- what scanning the lines asks of a parsed frame
abbrev pub refused : List (List ℕ) → Option Parsed → Bool
refused above None = true
refused above (Some f) = leb 1 f.number && some (reaches f.client f.number) above
