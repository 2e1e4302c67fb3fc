-- `judge_frames::fields::place` meets its contract: a set of 64 bits has at most 64 members.
use native.Mathlib.Omega.{arith}
use Rattle.itemset.proofs.Counts.{count-le, rank-count}
use borrow.Author.Rules.{rules}
use Rattle.judge_frames.proofs.fields.place.Goals as goal

pub returns-clause-upper_bound : goal.returns-clause-upper_bound
returns-clause-upper_bound c = let a = c.args in omega (
  arith,
  c.rank.ensures,
  rank-count a.items a.item,
  count-le a.items 64 (search rules),
)
