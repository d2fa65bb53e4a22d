-- The longest text.
use Rattle.std.specs.Prelude.{ℕ}

-- the most bytes of a label's text, of a text value and of a line (Release 2 Reference Manual)
abbrev pub MAX_LEN : ℕ
MAX_LEN = 240
