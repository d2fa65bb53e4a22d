-- How a number is written.
use Rattle.std.specs.Int.RustNames.{int_lt}
use Rattle.std.specs.Prelude.{ℕ, zero, suc, ◌+◌, ◌*◌, ◌/◌, ◌%◌, ◌^◌, ℤ, pos, nat_abs, Bool, true, false, not, ◌&&◌, ◌==◌, List, [], ◌∷◌, ◌++◌, length, take, drop, if◌then◌else◌}
use Rattle.std.specs.List.{list_all}
use Rattle.lics_text.specs.Ascii as ascii
use Rattle.fixed_value.specs.Numbers.{nearest}

-- so many digits of a number, with zeros in front
abbrev pub fixed_digits : ℕ → ℕ → List ℕ
fixed_digits zero n = []
fixed_digits (suc k) n = fixed_digits k (n / 10) ++ (ascii.zero + n % 10) ∷ []

-- the size in units of the last place, rounded once
abbrev pub scaled : ℤ → ℕ → ℕ
scaled v places = nearest (nat_abs v * 10 ^ places) 1000000

-- the zeros in front are left out, but for the last digit
abbrev pub without_zeros : List ℕ → List ℕ
without_zeros [] = []
without_zeros (d ∷ []) = d ∷ []
without_zeros (d ∷ e ∷ ds) = if d == ascii.zero then without_zeros (e ∷ ds) else d ∷ e ∷ ds

-- no point without places
abbrev pub pointed : List ℕ → List ℕ
pointed [] = []
pointed (d ∷ ds) = ascii.dot ∷ d ∷ ds

-- no sign where all digits are zero
abbrev pub minus_sign : Bool → List ℕ
minus_sign true = ascii.minus ∷ []
minus_sign false = []

-- a sign, the whole digits, and the places behind a point; ten digits before the point are enough
abbrev pub written : ℤ → ℕ → List ℕ
written v places =
    minus_sign (int_lt v (pos 0) && not (scaled v places == 0))
    ++ (without_zeros (take 10 (fixed_digits (10 + places) (scaled v places)))
    ++ pointed (drop 10 (fixed_digits (10 + places) (scaled v places))))

-- zeros at the end are left out
abbrev pub without_last_zeros : List ℕ → List ℕ
without_last_zeros [] = []
without_last_zeros (d ∷ ds) =
    if list_all (λ e. e == ascii.zero) (d ∷ ds) then [] else d ∷ without_last_zeros ds

-- how many decimals a number has, without zeros at their end
abbrev pub decimals : ℤ → ℕ
decimals v = length (without_last_zeros (fixed_digits 6 (nat_abs v)))

-- how many whole digits a number has, at least one
abbrev pub whole_len : ℤ → ℕ
whole_len v = length (without_zeros (fixed_digits 10 (nat_abs v / 1000000)))

-- with at most so many places, and no more than are needed
abbrev pub short : ℤ → ℕ → List ℕ
short v places =
    minus_sign (int_lt v (pos 0) && not (scaled v places == 0))
    ++ (without_zeros (take 10 (fixed_digits (10 + places) (scaled v places)))
    ++ pointed (without_last_zeros (drop 10 (fixed_digits (10 + places) (scaled v places)))))

-- a hundred times the number, multiplied exactly and rounded once; twelve digits before the point are enough
abbrev pub hundredfold : ℤ → ℕ → List ℕ
hundredfold v places =
    minus_sign (int_lt v (pos 0) && not (scaled v (places + 2) == 0))
    ++ (without_zeros (take 12 (fixed_digits (12 + places) (scaled v (places + 2))))
    ++ pointed (drop 12 (fixed_digits (12 + places) (scaled v (places + 2)))))
