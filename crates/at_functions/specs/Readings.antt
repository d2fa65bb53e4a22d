-- Numbers, dates and times that texts spell.
use Rattle.std.specs.Char.{is_ascii_digit, to_ascii_uppercase}
use Rattle.std.specs.Prelude.{ℕ, ◌+◌, ◌-◌, ◌*◌, ◌==◌, ◌&&◌, Bool, ℤ, pos, Option, Some, None, List, [], ◌∷◌, get_or, length, if◌then◌else◌}
use Rattle.lics_text.specs.Ascii as ascii
use Rattle.fixed_value.specs.declared.decimal.Decimal.{Decimal}
use Rattle.fixed_value.specs.declared.decimal.Decimal.TheVariants.{Num, TooLarge, NotNumber}
use Rattle.fixed_value.specs.Decimals.{decimal_of}
use Rattle.lics_text.specs.Texts.{trimmed}
use Rattle.at_functions.specs.Dates.{date_by, time_of}

-- the number that a text spells; none where it spells none, or one that is too large
abbrev pub number_in : Decimal → Option ℤ
number_in (Num v) = Some v
number_in TooLarge = None
number_in NotNumber = None

-- a decimal, and the empty text is 0
abbrev pub value_of : List ℕ → Option ℤ
value_of [] = Some (pos 0)
value_of (b ∷ bs) = number_in (decimal_of (b ∷ bs))

-- spaces at the ends are left out
abbrev pub value : List ℕ → Option ℤ
value bytes = value_of (trimmed bytes)

-- what stands before the first such byte, and behind it
abbrev pub before : ℕ → List ℕ → List ℕ
before sep [] = []
before sep (b ∷ bs) = if b == sep then [] else b ∷ before sep bs

-- the bytes behind the first byte that separates; none where no byte does
abbrev pub behind : ℕ → List ℕ → Option (List ℕ)
behind sep [] = None
behind sep (b ∷ bs) = if b == sep then Some bs else behind sep bs

-- the byte at a place, 0 past the end
abbrev pub byte_at : List ℕ → ℕ → ℕ
byte_at bytes at = get_or bytes at 0

-- two digits
abbrev pub two_digits : List ℕ → Option ℕ
two_digits bytes =
    if (length bytes == 2) && (is_ascii_digit (byte_at bytes 0) && is_ascii_digit (byte_at bytes 1))
    then Some ((byte_at bytes 0 - ascii.zero) * 10 + (byte_at bytes 1 - ascii.zero))
    else None

-- one digit, or two
abbrev pub short_number : List ℕ → Option ℕ
short_number bytes =
    if (length bytes == 1) && is_ascii_digit (byte_at bytes 0)
    then Some (byte_at bytes 0 - ascii.zero)
    else two_digits bytes

-- three letters of a month's name
abbrev pub is_name : ℕ → ℕ → ℕ → ℕ → ℕ → ℕ → Bool
is_name a b c x y z = (a == x) && ((b == y) && (c == z))

-- the month of the name, and 0 where no month has it
unfoldable pub month_named : ℕ → ℕ → ℕ → ℕ
month_named a b c =
    if is_name a b c ascii.capital_j ascii.capital_a ascii.capital_n then 1
    else if is_name a b c ascii.capital_f ascii.capital_e ascii.capital_b then 2
    else if is_name a b c ascii.capital_m ascii.capital_a ascii.capital_r then 3
    else if is_name a b c ascii.capital_a ascii.capital_p ascii.capital_r then 4
    else if is_name a b c ascii.capital_m ascii.capital_a ascii.capital_y then 5
    else if is_name a b c ascii.capital_j ascii.capital_u ascii.capital_n then 6
    else if is_name a b c ascii.capital_j ascii.capital_u ascii.capital_l then 7
    else if is_name a b c ascii.capital_a ascii.capital_u ascii.capital_g then 8
    else if is_name a b c ascii.capital_s ascii.capital_e ascii.capital_p then 9
    else if is_name a b c ascii.capital_o ascii.capital_c ascii.capital_t then 10
    else if is_name a b c ascii.capital_n ascii.capital_o ascii.capital_v then 11
    else if is_name a b c ascii.capital_d ascii.capital_e ascii.capital_c then 12
    else 0

-- three letters, folded
abbrev pub month_number : List ℕ → Option ℕ
month_number bytes =
    if length bytes == 3
    then Some (month_named (to_ascii_uppercase (byte_at bytes 0)) (to_ascii_uppercase (byte_at bytes 1))
    (to_ascii_uppercase (byte_at bytes 2)))
    else None

-- what stands between two such bytes, before and behind them
abbrev pub with_third : List ℕ → List ℕ → Option (List ℕ) → Option (List ℕ × List ℕ × List ℕ)
with_third first second None = None
with_third first second (Some third) = Some (first, second, third)

-- a first part, with the two that a second separator parts in the bytes behind the first one
abbrev pub with_rest : ℕ → List ℕ → Option (List ℕ) → Option (List ℕ × List ℕ × List ℕ)
with_rest sep first None = None
with_rest sep first (Some rest) = with_third first (before sep rest) (behind sep rest)

-- the three parts that two separators make of bytes; none where there are fewer separators
abbrev pub three : ℕ → List ℕ → Option (List ℕ × List ℕ × List ℕ)
three sep bytes = with_rest sep (before sep bytes) (behind sep bytes)

-- D-MMM-YY
abbrev pub dashed : List ℕ × List ℕ × List ℕ → Option ℤ
dashed (d, m, y) = date_by (short_number y) (month_number m) (short_number d)

-- M/D/YY
abbrev pub slashed : List ℕ × List ℕ × List ℕ → Option ℤ
slashed (m, d, y) = date_by (short_number y) (short_number m) (short_number d)

-- the date of three parts between dashes, or else of three between slashes
abbrev pub date_in : Option (List ℕ × List ℕ × List ℕ) → Option (List ℕ × List ℕ × List ℕ) → Option ℤ
date_in None None = None
date_in None (Some parts) = slashed parts
date_in (Some parts) other = dashed parts

-- the answer of @DATEVALUE: the serial number of a date such as 1-Jun-87 or 6/1/87; none for another text
abbrev pub datevalue : List ℕ → Option ℤ
datevalue bytes = date_in (three ascii.minus bytes) (three ascii.slash bytes)

-- an hour, a minute and a second
abbrev pub clock : Option ℕ → Option ℕ → Option ℕ → Option ℤ
clock None m s = None
clock (Some h) None s = None
clock (Some h) (Some m) None = None
clock (Some h) (Some m) (Some s) = time_of (pos h) (pos m) (pos s)

-- the time of hours and minutes with the seconds behind them, 0 where none are written
abbrev pub with_seconds : List ℕ → List ℕ → Option (List ℕ) → Option ℤ
with_seconds h m None = clock (short_number h) (two_digits m) (Some 0)
with_seconds h m (Some s) = clock (short_number h) (two_digits m) (two_digits s)

-- the time of hours with what stands behind the first colon; none without a colon
abbrev pub with_minutes : List ℕ → Option (List ℕ) → Option ℤ
with_minutes h None = None
with_minutes h (Some rest) = with_seconds h (before ascii.colon rest) (behind ascii.colon rest)

-- H:MM or H:MM:SS
abbrev pub timevalue : List ℕ → Option ℤ
timevalue bytes = with_minutes (before ascii.colon bytes) (behind ascii.colon bytes)
