-- `judge_frames::fields::word` meets its contract: four bytes are a number below 256 ^ 4.
use native.Mathlib.Omega.{arith}
use Rattle.hexadecimal.proofs.Number.{number_at-lt}
use Rattle.judge_frames.proofs.fields.word.Goals as goal

pub returns-clause-upper_bound : goal.returns-clause-upper_bound
returns-clause-upper_bound c = omega (
  arith,
  c.number.ensures,
  number_at-lt 4
      c.args.f.now c.args.at
      (λ i. (c.type_inv.f i).fits),
)
