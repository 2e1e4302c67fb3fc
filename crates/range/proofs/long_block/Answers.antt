-- `long_block` meets its contract: the header's words first, then all that they lead to.
use Rattle.std.proofs.Common.{◌∙◌}
use Rattle.range.proofs.BlockTests.{header-bounds, long-tests, long-header}
use Rattle.range.proofs.long_block.Goals as goal

pub tables_in_range-requires : goal.tables_in_range-requires
tables_in_range-requires c =
    let f = header-bounds _ _ _ _ _ c.header_in_range.ensures c.if-header_in_range.true in
    (f.0, f.1, f.2, f.3, f.4, f.5, c.requires)

pub returns-then-header_in_range : goal.returns-then-header_in_range
returns-then-header_in_range c =
    long-tests c.args.b.now c.clients-clients.ensures c.partitions-partitions.ensures
    c.items-items.ensures c.version_count-versions.ensures c.message_count-messages.ensures
    c.header_in_range.ensures c.if-header_in_range.true c.requires c.tables_in_range.ensures

pub returns-else-header_in_range : goal.returns-else-header_in_range
returns-else-header_in_range c =
    c.if-header_in_range.false
    ∙ long-header c.args.b.now c.clients-clients.ensures c.partitions-partitions.ensures
    c.items-items.ensures c.version_count-versions.ensures c.message_count-messages.ensures
    c.header_in_range.ensures c.if-header_in_range.false
