-- Format bytes (worksheet file format).
use Rattle.std.specs.Prelude.{ℕ, ◌+◌, ◌/◌, ◌%◌, ◌==◌, Bool, nat_le}

-- no format of the cell's own; it is protected
abbrev pub default_format : ℕ
default_format = 255

-- a fresh sheet's
abbrev pub general_format : ℕ
general_format = 113

-- the first form of a date
abbrev pub date_format : ℕ
date_format = 114

-- a formula is shown as its text
abbrev pub text_format : ℕ
text_format = 117

-- nothing is shown
abbrev pub hidden_format : ℕ
hidden_format = 118

-- bits 6 to 4
abbrev pub kind_of : ℕ → ℕ
kind_of format = format / 16 % 8

-- bits 3 to 0: the number of decimals, or which of the formats of kind 7
abbrev pub places_of : ℕ → ℕ
places_of format = format % 16

-- bit 7
abbrev pub has_protection : ℕ → Bool
has_protection format = nat_le 128 format

-- bits 6 to 0
abbrev pub unprotected : ℕ → ℕ
unprotected format = format % 128

-- the same but for protection
abbrev pub is_shown_as : ℕ → ℕ → Bool
is_shown_as format other = unprotected format == unprotected other

-- bits 6 to 0, with bit 7
abbrev pub protected : ℕ → ℕ
protected format = unprotected format + 128
