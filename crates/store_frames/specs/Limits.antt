-- The most bytes of a store frame and of its line.
use Rattle.std.specs.Prelude.{ℕ, ◌+◌, ◌*◌}

-- a mixed start of 64 values: kind, client and two sets, and 4 bytes each
abbrev pub most_frame : ℕ
most_frame = 18 + 4 * 64

-- two digits a byte, and 0a
abbrev pub most_line : ℕ
most_line = 2 * most_frame + 1
