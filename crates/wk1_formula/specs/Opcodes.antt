-- The codes of a formula in a worksheet file, but for those of operators and functions (worksheet file format).
use Rattle.std.specs.Prelude.{ℕ}

-- a number, as the eight bytes of a double
abbrev pub DOUBLE : ℕ
DOUBLE = 0x00

-- a reference
abbrev pub REFERENCE : ℕ
REFERENCE = 0x01

-- a range, by two references
abbrev pub RANGE : ℕ
RANGE = 0x02

-- the end of a formula
abbrev pub FINISH : ℕ
FINISH = 0x03

-- round brackets about what stands before
abbrev pub BRACKETS : ℕ
BRACKETS = 0x04

-- a whole number of two bytes
abbrev pub SHORT : ℕ
SHORT = 0x05

-- a text, which a 00 ends
abbrev pub TEXT : ℕ
TEXT = 0x06

-- a minus in front
abbrev pub MINUS : ℕ
MINUS = 0x08

-- #NOT#
abbrev pub NOT : ℕ
NOT = 0x16

-- a plus in front
abbrev pub PLUS : ℕ
PLUS = 0x17
