-- The number that a text spells.
use Rattle.std.specs.Char.{is_ascii_digit}
use Rattle.std.specs.Prelude.{ℕ, ◌+◌, ◌-◌, ◌*◌, ◌^◌, Bool, false, ◌&&◌, ◌||◌, ◌==◌, nat_le, List, [], ◌∷◌, ◌++◌, length, fold, Option, Some, None, if◌then◌else◌}
use Rattle.std.specs.List.{list_all}
use Rattle.lics_text.specs.Ascii as ascii
use Rattle.fixed_value.specs.declared.decimal.Decimal.{Decimal}
use Rattle.fixed_value.specs.declared.decimal.Decimal.TheVariants.{Num, TooLarge, NotNumber}
use Rattle.fixed_value.specs.Numbers.{nearest, signed}

-- a number with one more decimal digit behind it, by the digit's byte
abbrev pub digit_more : ℕ → ℕ → ℕ
digit_more n b = n * 10 + (b - ascii.zero)

-- what digits stand for
abbrev pub number_of : List ℕ → ℕ
number_of digits = fold digit_more 0 digits

-- whether a text begins with a minus
abbrev pub is_minus : List ℕ → Bool
is_minus [] = false
is_minus (b ∷ bs) = b == ascii.minus

-- a text without the plus or the minus in front of it
abbrev pub without_sign : List ℕ → List ℕ
without_sign [] = []
without_sign (b ∷ bs) = if b == ascii.plus || b == ascii.minus then bs else b ∷ bs

-- the digits that the bytes begin with, and the bytes behind them
abbrev pub whole_digits : List ℕ → List ℕ
whole_digits [] = []
whole_digits (b ∷ bs) = if is_ascii_digit b then b ∷ whole_digits bs else []

-- what stands behind the digits at a text's front
abbrev pub behind_digits : List ℕ → List ℕ
behind_digits [] = []
behind_digits (b ∷ bs) = if is_ascii_digit b then behind_digits bs else b ∷ bs

-- the digits behind the point, of which there may be none; no other byte may stand there
abbrev pub places_of : List ℕ → Option (List ℕ)
places_of [] = Some []
places_of (b ∷ bs) = if b == ascii.dot && list_all is_ascii_digit bs then Some bs else None

-- the exact fraction, rounded once
abbrev pub fraction_of : Bool → List ℕ → List ℕ → Decimal
fraction_of minus whole places =
    if nat_le (nearest (number_of (whole ++ places) * 1000000) (10 ^ length places)) 999999999999999
    then Num (signed minus (nearest (number_of (whole ++ places) * 1000000) (10 ^ length places)))
    else TooLarge

-- at least one digit is wanted
abbrev pub decimal_from : Bool → List ℕ → Option (List ℕ) → Decimal
decimal_from minus whole None = NotNumber
decimal_from minus [] (Some []) = NotNumber
decimal_from minus [] (Some (p ∷ ps)) = fraction_of minus [] (p ∷ ps)
decimal_from minus (w ∷ ws) (Some places) = fraction_of minus (w ∷ ws) places

-- what a text spells as a decimal: a number, one that is too large, or none
abbrev pub decimal_of : List ℕ → Decimal
decimal_of bytes =
    decimal_from (is_minus bytes) (whole_digits (without_sign bytes)) (places_of (behind_digits (without_sign bytes)))
