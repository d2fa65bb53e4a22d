-- The widest column that a prompt takes.
use Rattle.std.specs.Prelude.{ℕ}

-- the widest that a column can be (Release 2 Reference Manual)
abbrev pub MOST_WIDTH : ℕ
MOST_WIDTH = 240
