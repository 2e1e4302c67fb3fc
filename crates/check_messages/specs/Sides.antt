-- The part of a client that a test is about.
use Rattle.std.specs.Prelude.{Bool, cond}
use Rattle.protocol.specs.Tables.{Side, of_read, of_write}

abbrev pub side_if : Bool → Side
side_if write = cond write of_write of_read
