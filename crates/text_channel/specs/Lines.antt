-- Lines of a text file. A line ends at CR LF, at LF alone or at the end.
use Rattle.std.specs.Prelude.{ℕ, ◌+◌, ◌==◌, ◌&&◌, nat_lt, Bool, false, List, [], ◌∷◌, length, min, map, take, drop, if◌then◌else◌}
use Rattle.lics_text.specs.Ascii as ascii
use Rattle.lics_text.specs.Limits.{MAX_LEN}

-- a byte as a text takes it: one below 32 becomes a blank
abbrev pub text_byte : ℕ → ℕ
text_byte b = if nat_lt b ascii.space then ascii.space else b

-- whether bytes begin with the end of a line
abbrev pub starts_with_lf : List ℕ → Bool
starts_with_lf [] = false
starts_with_lf (b ∷ rest) = b == ascii.line_feed

-- how many bytes of an ending stand in front
abbrev pub ending_of : List ℕ → ℕ
ending_of [] = 0
ending_of (b ∷ rest) =
    if b == ascii.line_feed then 1
    else if (b == ascii.carriage_return) && starts_with_lf rest then 2
    else 0

-- how many bytes stand before the first ending
abbrev pub line_length : List ℕ → ℕ
line_length [] = 0
line_length (b ∷ rest) = if ending_of (b ∷ rest) == 0 then line_length rest + 1 else 0

-- what is read of the bytes that are left: the bytes given, and how many are passed over
pub record Piece : Type 0 where
  pub text : List ℕ
  pub passed : ℕ

-- what was read: the bytes as they are shown, and how many were passed
abbrev pub piece : List ℕ → ℕ → Piece
piece bytes passed = record { text = map text_byte bytes; passed = passed }

-- the next bytes, fewer at the end
abbrev pub next_bytes : ℕ → List ℕ → Piece
next_bytes count left = piece (take count left) (min count (length left))

-- the next line, and its ending; of a longer line the first 240 bytes
abbrev pub next_line : List ℕ → Piece
next_line left = if nat_lt MAX_LEN (line_length left) then piece (take MAX_LEN left) MAX_LEN
    else piece (take (line_length left) left) (line_length left + ending_of (drop (line_length left) left))
