-- Numbers as they are written.
use Rattle.std.specs.Char.{is_ascii_digit}
use Rattle.std.proofs.Common.{◌≡◌, ℕ, zero, suc, ◌+◌, ◌-◌, ◌*◌, ◌/◌, ◌%◌, ◌^◌, ◌≤◌, ◌<◌, Bool, true, false, Some, List}
use Rattle.std.proofs.Common.{[], ◌∷◌, ◌++◌, length, take, drop, refl, ap, sym, ◌∙◌, arith, inl, inr, length-append}
use Rattle.std.proofs.Common.{length-drop}
use Rattle.std.proofs.Math.Nat.{mul-le-mul_right}
use Rattle.std.specs.Int.RustNames.{int_lt}
use Rattle.std.specs.Prelude.{◌==◌, ◌&&◌, not, nat_le, ℤ, pos, negsuc, nat_abs}
use Rattle.std.specs.List.{list_all}
use Rattle.std.proofs.lemmas.Bool.{and_parts, cases_Bool, eqb-true}
use Rattle.std.proofs.lemmas.Bool.Decides.{nat_tests}
use Rattle.std.proofs.lemmas.Nat.{pow-add}
use Rattle.std.proofs.lemmas.Int.{ints}
use Rattle.std.proofs.lemmas.List.{length-take-le, take-append-drop}
use Rattle.std.proofs.lemmas.List.Folds.{list_all-append}
use Rattle.fixed_value.specs.declared.decimal.Decimal.TheVariants.{Num}
use Rattle.fixed_value.specs.Decimals.{behind_digits, decimal_from, decimal_of, fraction_of, is_minus, number_of}
use Rattle.fixed_value.specs.Decimals.{whole_digits, without_sign}
use Rattle.fixed_value.specs.Numbers.{nearest, signed}
use Rattle.fixed_value.specs.Written.{fixed_digits, minus_sign, pointed, scaled, without_zeros, written}
use Rattle.fixed_value.proofs.Places.{number_of-append, number_of-more, power_positive, quotient_is, ten_more}

-- so many digits are asked for, and so many there are
pub fixed_digits_length : (k n : ℕ) → length (fixed_digits k n) ≡ k
fixed_digits_length zero n = refl
fixed_digits_length (suc k) n =
    omega (arith, length-append (fixed_digits k (n / 10)) ((48 + n % 10) ∷ []), fixed_digits_length k (n / 10))

all_fixed_digits : (k n : ℕ) → list_all is_ascii_digit (fixed_digits k n) ≡ true
all_fixed_digits zero n = refl
all_fixed_digits (suc k) n =
    let last : is_ascii_digit (48 + n % 10) ≡ true = grind (arith, nat_tests) in
    list_all-append is_ascii_digit (fixed_digits k (n / 10)) ((48 + n % 10) ∷ [])
    ∙ rw (all_fixed_digits k (n / 10), last) refl

number_of_fixed : (k n : ℕ) → n < 10 ^ k → number_of (fixed_digits k n) ≡ n
number_of_fixed zero n h = omega arith
number_of_fixed (suc k) n h =
    let below : n / 10 < 10 ^ k = omega (arith, ten_more k, h) in
    number_of-more (fixed_digits k (n / 10)) (48 + n % 10) ∙ omega (arith, number_of_fixed k (n / 10) below)

number_of_stripped : (ds : List ℕ) → number_of (without_zeros ds) ≡ number_of ds
number_of_stripped [] = refl
number_of_stripped (d ∷ []) = refl
number_of_stripped (d ∷ e ∷ ds) = elim (cases_Bool (d == 48)) [
  | inl nought ↦ rw nought (number_of_stripped (e ∷ ds) ∙ (let is : d ≡ 48 = eqb-true _ _ nought in rw is refl))
  | inr other ↦ rw other refl
]

-- without leading zeros they are digits still
pub all_stripped : (ds : List ℕ) → list_all is_ascii_digit ds ≡ true → list_all is_ascii_digit (without_zeros ds) ≡ true
all_stripped [] h = refl
all_stripped (d ∷ []) h = h
all_stripped (d ∷ e ∷ ds) h = elim (cases_Bool (d == 48)) [
  | inl nought ↦ rw nought (all_stripped (e ∷ ds) (and_parts (is_ascii_digit d) (list_all is_ascii_digit (e ∷ ds)) h).1)
  | inr other ↦ rw other h
]

-- some digit stays
pub stripped_stays : (ds : List ℕ) → 0 < length ds → 0 < length (without_zeros ds)
stripped_stays [] h = absurd (omega arith)
stripped_stays (d ∷ []) h = omega arith
stripped_stays (d ∷ e ∷ ds) h = elim (cases_Bool (d == 48)) [
  | inl nought ↦ rw nought (stripped_stays (e ∷ ds) (omega arith))
  | inr other ↦ rw other (omega arith)
]

-- digits up to a point
whole_to_point : (ds rest : List ℕ) → list_all is_ascii_digit ds ≡ true → whole_digits (ds ++ 46 ∷ rest) ≡ ds
whole_to_point [] rest h = refl
whole_to_point (d ∷ ds) rest h =
    let digit : is_ascii_digit d ≡ true = (and_parts (is_ascii_digit d) (list_all is_ascii_digit ds) h).0 in
    rw digit (ap (λ (l : List ℕ). d ∷ l)
    (whole_to_point ds rest (and_parts (is_ascii_digit d) (list_all is_ascii_digit ds) h).1))

behind_to_point : (ds rest : List ℕ) → list_all is_ascii_digit ds ≡ true → behind_digits (ds ++ 46 ∷ rest) ≡ 46 ∷ rest
behind_to_point [] rest h = refl
behind_to_point (d ∷ ds) rest h =
    let digit : is_ascii_digit d ≡ true = (and_parts (is_ascii_digit d) (list_all is_ascii_digit ds) h).0 in
    rw digit (behind_to_point ds rest (and_parts (is_ascii_digit d) (list_all is_ascii_digit ds) h).1)

-- digits and places are the fraction that they make
pub from_digits : (minus : Bool) (whole places : List ℕ) → 0 < length whole
    → decimal_from minus whole (Some places) ≡ fraction_of minus whole places
from_digits minus [] places h = absurd (omega arith)
from_digits minus (w ∷ ws) places h = refl

-- digits behind a sign or none
pub no_sign : (ds rest : List ℕ) → 0 < length ds → list_all is_ascii_digit ds ≡ true
    → (without_sign (ds ++ rest) ≡ ds ++ rest) × (is_minus (ds ++ rest) ≡ false)
no_sign [] rest h all = absurd (omega arith)
no_sign (d ∷ ds) rest h all =
    let digit : is_ascii_digit d ≡ true = (and_parts (is_ascii_digit d) (list_all is_ascii_digit ds) all).0 in
    let plus : (d == 43) ≡ false = grind (arith, nat_tests, digit) in
    let minus : (d == 45) ≡ false = grind (arith, nat_tests, digit) in
    (rw (plus, minus) refl, minus)

read_signed : (minus : Bool) (whole places : List ℕ) → 0 < length whole → list_all is_ascii_digit whole ≡ true
    → list_all is_ascii_digit places ≡ true →
    decimal_of (minus_sign minus ++ (whole ++ 46 ∷ places)) ≡ fraction_of minus whole places
read_signed true whole places h all later =
    rw (whole_to_point whole places all, behind_to_point whole places all, later) (from_digits true whole places h)
read_signed false whole places h all later =
    let bare = no_sign whole (46 ∷ places) h all in
    rw (bare.0, bare.1, whole_to_point whole places all, behind_to_point whole places all, later)
    (from_digits false whole places h)

-- a multiple is its own quotient
pub nearest_exact : (a d : ℕ) → 0 < d → nearest (a * d) d ≡ a
nearest_exact a d h = quotient_is (2 * d) a (2 * (a * d) + d) (omega arith) (omega arith) (omega arith)

-- places stand behind a point
pub pointed_more : (ds : List ℕ) → 0 < length ds → pointed ds ≡ 46 ∷ ds
pointed_more [] h = absurd (omega arith)
pointed_more (d ∷ ds) h = refl

-- a count is not below zero
pub plus_size : (k : ℕ) → int_lt (pos k) (pos 0) ≡ false
plus_size k = grind (arith, ints)

-- the sign that is written with a size in units of the last place
abbrev pub sign_with : ℤ → ℕ → Bool
sign_with v n = int_lt v (pos 0) && not (n == 0)

-- a number's sign and size are the number
pub signed_back : (v : ℤ) (n p : ℕ) → 0 < p → n ≡ nat_abs v * p → signed (sign_with v n) (nat_abs v) ≡ v
signed_back (pos k) n p h is = rw (plus_size k) refl
signed_back (negsuc k) n p h is =
    let large : 0 < n = omega (arith, is, mul-le-mul_right p (let e : 1 ≤ suc k = omega arith in e)) in
    let test : (n == 0) ≡ false = grind (arith, nat_tests, large) in
    rw test refl

module _ (v : ℤ) (places : ℕ) (within : nat_abs v ≤ 999999999999999) (enough : 6 ≤ places) where
  -- what one millionth is in places past the sixth
  abbrev pub unit : ℕ
  unit = 10 ^ (places - 6)

  -- the power of ten of the places, by this unit
  pub power_splits : 10 ^ places ≡ unit * 1000000
  power_splits = ap (λ n. 10 ^ n) (let e : places ≡ (places - 6) + 6 = omega arith in e) ∙ pow-add 10 (places - 6) 6

  -- with six places or more nothing is rounded away
  pub exact : scaled v places ≡ nat_abs v * unit
  exact =
      ap (λ n. nearest n 1000000)
      (ap (λ n. nat_abs v * n) power_splits
      ∙ (let e : nat_abs v * (unit * 1000000) ≡ nat_abs v * unit * 1000000 = omega arith in e))
      ∙ nearest_exact (nat_abs v * unit) 1000000 (omega arith)

  -- all digits, those behind the point among them
  abbrev pub digits : List ℕ
  digits = fixed_digits (10 + places) (scaled v places)

  -- the digits before the point
  abbrev pub whole : List ℕ
  whole = without_zeros (take 10 digits)

  -- the digits behind the point
  abbrev pub behind : List ℕ
  behind = drop 10 digits

  fits : scaled v places < 10 ^ (10 + places)
  fits =
      let power : 10 ^ (10 + places) ≡ 10000000000 * (unit * 1000000) =
      pow-add 10 10 places ∙ ap (λ n. 10000000000 * n) power_splits in
      let most : nat_abs v * unit ≤ 999999999999999 * unit = mul-le-mul_right unit within in
      let some : 0 < unit = power_positive (places - 6) in
      omega (arith, exact, power, most, some)

  -- there are as many as places
  pub long : length behind ≡ places
  long = omega (arith, length-drop 10 digits, fixed_digits_length (10 + places) (scaled v places))

  -- there are ten before them
  pub front_long : length (take 10 digits) ≡ 10
  front_long = length-take-le 10 digits (omega (arith, fixed_digits_length (10 + places) (scaled v places)))

  parts : take 10 digits ++ behind ≡ digits
  parts = take-append-drop 10 digits

  -- all of them are digits
  pub both : (list_all is_ascii_digit (take 10 digits) && list_all is_ascii_digit behind) ≡ true
  both =
      sym (list_all-append is_ascii_digit (take 10 digits) behind) ∙ ap (list_all is_ascii_digit) parts
      ∙ all_fixed_digits (10 + places) (scaled v places)

  -- what the digits are as one number
  pub number : number_of (whole ++ behind) ≡ nat_abs v * unit
  number =
      number_of-append whole behind
      ∙ ap (λ n. n * 10 ^ length behind + number_of behind) (number_of_stripped (take 10 digits))
      ∙ sym (number_of-append (take 10 digits) behind)
      ∙ ap number_of parts ∙ number_of_fixed (10 + places) (scaled v places) fits ∙ exact

  size : nearest (number_of (whole ++ behind) * 1000000) (10 ^ length behind) ≡ nat_abs v
  size =
      let same : number_of (whole ++ behind) * 1000000 ≡ nat_abs v * 10 ^ places =
      ap (λ n. n * 1000000) number
      ∙ (let e : nat_abs v * unit * 1000000 ≡ nat_abs v * (unit * 1000000) = omega arith in e)
      ∙ ap (λ n. nat_abs v * n) (sym power_splits) in
      ap (λ n. nearest (number_of (whole ++ behind) * 1000000) (10 ^ n)) long ∙ ap (λ n. nearest n (10 ^ places)) same
      ∙ nearest_exact (nat_abs v) (10 ^ places) (power_positive places)

  -- a number that is written with six places or more is read back
  pub read_back : decimal_of (written v places) ≡ Num v
  read_back =
      let minus : Bool = sign_with v (scaled v places) in
      let read : decimal_of (minus_sign minus ++ (whole ++ 46 ∷ behind)) ≡ fraction_of minus whole behind =
      read_signed minus whole behind (stripped_stays (take 10 digits) (omega (arith, front_long)))
      (all_stripped (take 10 digits) (and_parts _ _ both).0) (and_parts _ _ both).1 in
      let point : pointed behind ≡ 46 ∷ behind = pointed_more behind (omega (arith, long)) in
      let value : fraction_of minus whole behind ≡ Num (signed minus (nat_abs v)) =
      (let test : nat_le (nat_abs v) 999999999999999 ≡ true = grind (arith, nat_tests, within) in
      rw (size, test) refl) in
      ap (λ (l : List ℕ). decimal_of (minus_sign minus ++ (whole ++ l))) point ∙ read ∙ value
      ∙ ap (λ z. Num z) (signed_back v (scaled v places) unit (power_positive (places - 6)) exact)
