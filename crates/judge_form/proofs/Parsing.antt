-- What parsing a frame answers decides which frame is malformed.
use mathlib.Core.List.{List}
use mathlib.Core.Path.{◌≡◌}
use Prim.Native.Nat.{ℕ}
use Rattle.basics.proofs.Cases.{by-test}
use Rattle.log_format.specs.Log.{shaped, malformed}
use Rattle.judge_form.specs.Parsed.{parsed, refused}

pub malformed-parsed : (above : List (List ℕ)) (f : List ℕ)
    → malformed above f ≡ refused above (parsed f)
unfolding malformed parsed
malformed-parsed above f = by-test (shaped f) (λ t. rw t) (λ t. rw t)
