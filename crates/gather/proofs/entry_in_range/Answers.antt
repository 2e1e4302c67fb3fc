-- `gather::entry_in_range` meets its contract: it is the definition, test by test.
use Rattle.std.proofs.Common.{◌&&◌, ap₂}
use Rattle.protocol.specs.Range.{stamp_in_range, entry_in_range}
use Rattle.gather.proofs.entry_in_range.Goals as goal

pub returns : goal.returns
unfolding stamp_in_range entry_in_range
returns c = ap₂ ◌&&◌ c.stamp_in_range.ensures c.all_below.ensures
