-- Numbers in decimal digits.
use Rattle.std.proofs.Common.{◌≡◌, ℕ, zero, suc, ◌+◌, ◌/◌, ◌%◌, ◌≤◌, ◌<◌, ◌^◌, false, List, [], ◌∷◌, ◌++◌, length, map}
use Rattle.std.proofs.Common.{refl, ap, sym, ◌∙◌, arith, length-append}
use Rattle.std.specs.Prelude.{◌==◌}
use Rattle.std.proofs.lemmas.Bool.{ne_eqb}
use Rattle.std.proofs.lemmas.Bool.Decides.{nat_tests}
use Rattle.std.proofs.lemmas.List.{map-append, length-map}
use Rattle.std.specs.Int.Digits.{digits_of}
use Rattle.std.proofs.lemmas.Int.Digits.{digits_of_step, length-digits_of-le}
use Rattle.grid_address.specs.Address.{decimal, column_name}

digits : (n : ℕ) → 0 < n → decimal n ≡ map (λ d. 48 + d) (digits_of 10 n)
digits n h = let some : (n == 0) ≡ false = ne_eqb n 0 (λ e. omega (arith, e)) in rw some refl

-- a number from ten on is written as its tenth and its last digit
pub decimal_more : (n : ℕ) → 10 ≤ n → decimal n ≡ decimal (n / 10) ++ (48 + n % 10) ∷ []
decimal_more n h =
    digits n (omega arith) ∙ ap (map (λ d. 48 + d)) (digits_of_step 10 n (omega arith) (omega arith))
    ∙ map-append (λ d. 48 + d) (digits_of 10 (n / 10)) (n % 10 ∷ [])
    ∙ ap (λ (l : List ℕ). l ++ (48 + n % 10) ∷ []) (sym (digits (n / 10) (omega arith)))

-- a number below ten is written as one digit
pub decimal_one : (n : ℕ) → n < 10 → decimal n ≡ (48 + n % 10) ∷ []
decimal_one zero h = refl
decimal_one (suc m) h =
    let step : digits_of 10 (suc m) ≡ digits_of 10 (suc m / 10) ++ (suc m % 10 ∷ []) =
    digits_of_step 10 (suc m) (omega arith) (omega arith) in
    let none : suc m / 10 ≡ 0 = omega arith in
    let alone : digits_of 10 (suc m) ≡ suc m % 10 ∷ [] =
    step ∙ ap (λ (k : ℕ). digits_of 10 k ++ (suc m % 10 ∷ [])) none in
    digits (suc m) (omega arith) ∙ ap (map (λ d. 48 + d)) alone

decimal_length : (k n : ℕ) → 0 < n → n < 10 ^ k → length (decimal n) ≤ k
decimal_length k n more h =
    omega (
      arith,
      ap length (digits n more),
      length-map (digits_of 10 n) (λ d. 48 + d),
      length-digits_of-le 10 k n (omega arith) h,
    )

-- it has one digit more than its tenth
pub length-decimal_more : (n : ℕ) → 10 ≤ n → length (decimal n) ≡ length (decimal (n / 10)) + 1
length-decimal_more n h =
    omega (arith, ap length (decimal_more n h), length-append (decimal (n / 10)) ((48 + n % 10) ∷ []))

-- a number below 2 ^ 64 has at most 20 digits
pub digits_in : (n : ℕ) → n < 2 ^ 64 → length (decimal n) ≤ 20
digits_in zero h = omega arith
digits_in (suc m) h = decimal_length 20 (suc m) (omega arith) (omega arith)

-- a row's number has at most four digits
pub row_digits : (row : ℕ) → row < 8192 → length (decimal (row + 1)) ≤ 4
row_digits row h = decimal_length 4 (row + 1) (omega arith) (omega arith)

-- a column has at most two letters
pub column_letters : (col : ℕ) → length (column_name col) ≤ 2
column_letters col = grind (arith, nat_tests)
