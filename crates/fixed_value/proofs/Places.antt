-- The places behind the point, of which seven decide.
use Rattle.std.specs.Char.{is_ascii_digit}
use Rattle.std.proofs.Common.{◌≡◌, ℕ, suc, ◌+◌, ◌*◌, ◌/◌, ◌≤◌, ◌<◌, ◌^◌, ◌-◌, min, Bool, true, false, List, [], ◌∷◌}
use Rattle.std.proofs.Common.{◌++◌, length, take, drop, replicate, get_or, refl, sym, ap, ◌∙◌, arith, inl, inr}
use Rattle.std.proofs.Common.{length-append, length-drop}
use Rattle.std.proofs.Math.Nat.{pow-suc, pow-le-pow_right, mul-le-mul_right}
use native.Mathlib.Nat.{div-eq_of_lt-le, div-div-eq-div-mul, add-mul-div_right}
use Rattle.std.specs.Prelude.{fold, ◌&&◌, nat_le}
use Rattle.std.specs.List.{list_all}
use Rattle.std.proofs.lemmas.Bool.{and_parts, cases_Bool}
use Rattle.std.proofs.lemmas.Bool.Decides.{nat_tests}
use Rattle.std.proofs.lemmas.List.{take_more, take-append-drop}
use Rattle.std.proofs.lemmas.List.Folds.{list_all-append}
use Rattle.std.proofs.lemmas.List.Sums.{fold-append}
use Rattle.fixed_value.specs.declared.decimal.Decimal.TheVariants.{Num, TooLarge}
use Rattle.fixed_value.specs.Decimals.{digit_more, fraction_of, number_of, whole_digits}
use Rattle.fixed_value.specs.Numbers.{nearest, signed}

-- a quotient is told by the two multiples that hold the number
pub quotient_is : (d k m : ℕ) → 0 < d → d * k ≤ m → m < d * (k + 1) → m / d ≡ k
quotient_is d k m h p q = div-eq_of_lt-le d (omega arith) (omega arith)

-- x / p to the nearest, from one digit more
nearest_by_digit : (x p : ℕ) → 0 < p → nearest x p ≡ (x * 10 / p + 5) / 10
nearest_by_digit x p h =
    let k : ℕ = (2 * x + p) / (2 * p) in
    let low : 2 * p * k ≤ 2 * x + p = omega arith in
    let high : 2 * x + p < 2 * p * k + 2 * p = omega arith in
    let low5 : p * 10 * k ≤ x * 10 + 5 * p = omega arith in
    let high5 : x * 10 + 5 * p < p * 10 * (k + 1) = omega arith in
    sym (ap (λ q. q / 10) (sym (add-mul-div_right (x * 10) 5 h)) ∙ div-div-eq-div-mul (x * 10 + 5 * p) p 10
    ∙ quotient_is (p * 10) k (x * 10 + 5 * p) (omega arith) low5 high5)

-- the next power of ten
pub ten_more : (k : ℕ) → 10 ^ suc k ≡ 10 * 10 ^ k
ten_more k = omega (arith, pow-suc 10 k)

shift : (n d p f : ℕ) → (n * 10 + d) * p + f ≡ n * (10 * p) + ((0 * 10 + d) * p + f)
shift n d p f = omega arith

folded_on : (n : ℕ) (ds : List ℕ) → fold digit_more n ds ≡ n * 10 ^ length ds + fold digit_more 0 ds
folded_on n [] = omega arith
folded_on n (d ∷ ds) =
    let p : ℕ = 10 ^ length ds in
    let f : ℕ = fold digit_more 0 ds in
    folded_on (n * 10 + (d - 48)) ds ∙ shift n (d - 48) p f
    ∙ ap (λ k. n * k + ((0 * 10 + (d - 48)) * p + f)) (sym (ten_more (length ds)))
    ∙ ap (λ k. n * 10 ^ suc (length ds) + k) (sym (folded_on (0 * 10 + (d - 48)) ds))

-- the number of digits in two parts
pub number_of-append : (xs ys : List ℕ) → number_of (xs ++ ys) ≡ number_of xs * 10 ^ length ys + number_of ys
number_of-append xs ys = fold-append digit_more 0 xs ys ∙ folded_on (number_of xs) ys

-- the number of one digit more
pub number_of-more : (xs : List ℕ) (d : ℕ) → number_of (xs ++ d ∷ []) ≡ number_of xs * 10 + (d - 48)
number_of-more xs d = fold-append digit_more 0 xs (d ∷ [])

-- the exact fraction, from the number before the point and one digit more behind it
pub fraction_rounded : (w f p : ℕ) → 0 < p
    → nearest ((w * p + f) * 1000000) p ≡ w * 1000000 + (f * 10000000 / p + 5) / 10
fraction_rounded w f p h =
    nearest_by_digit ((w * p + f) * 1000000) p h
    ∙ ap (λ k. (k / p + 5) / 10)
    (let e : (w * p + f) * 1000000 * 10 ≡ f * 10000000 + w * 10000000 * p = omega arith in e)
    ∙ ap (λ k. (k + 5) / 10) (add-mul-div_right (f * 10000000) (w * 10000000) h)
    ∙ (let e : (f * 10000000 / p + w * 10000000 + 5) / 10 ≡ w * 1000000 + (f * 10000000 / p + 5) / 10 = omega arith in
    e)

digit_small : (d : ℕ) → is_ascii_digit d ≡ true → d - 48 ≤ 9
digit_small d h = grind (arith, nat_tests)

-- digits stand for less than the power of ten that has one digit more
below_power : (ds : List ℕ) → list_all is_ascii_digit ds ≡ true → number_of ds < 10 ^ length ds
below_power [] h = omega arith
below_power (d ∷ ds) h =
    let small : d - 48 ≤ 9 = digit_small d (and_parts (is_ascii_digit d) (list_all is_ascii_digit ds) h).0 in
    let later : number_of ds < 10 ^ length ds =
    below_power ds (and_parts (is_ascii_digit d) (list_all is_ascii_digit ds) h).1 in
    let split : number_of (d ∷ ds) ≡ (0 * 10 + (d - 48)) * 10 ^ length ds + number_of ds =
    folded_on (0 * 10 + (d - 48)) ds in
    let bound : (d - 48) * 10 ^ length ds ≤ 9 * 10 ^ length ds = mul-le-mul_right (10 ^ length ds) small in
    omega (arith, ten_more (length ds), split, bound, later)

-- a power of ten is above zero
pub power_positive : (n : ℕ) → 0 < 10 ^ n
power_positive n = pow-le-pow_right {n = 10} (omega arith) {i = 0} {j = n} (omega arith)

-- the first seven of the places and of zeros behind them
pub seven_first : (places : List ℕ) → list_all is_ascii_digit places ≡ true
    → number_of (take 7 (places ++ replicate 7 48)) ≡ number_of places * 10000000 / 10 ^ length places
seven_first places h =
    let xs : List ℕ = places ++ replicate 7 48 in
    let all : list_all is_ascii_digit xs ≡ true =
    list_all-append is_ascii_digit places (replicate 7 48) ∙ ap (λ b. b && true) h in
    let parts : take 7 xs ++ drop 7 xs ≡ xs = take-append-drop 7 xs in
    let rest : list_all is_ascii_digit (drop 7 xs) ≡ true =
    (and_parts (list_all is_ascii_digit (take 7 xs)) (list_all is_ascii_digit (drop 7 xs))
    (sym (list_all-append is_ascii_digit (take 7 xs) (drop 7 xs)) ∙ ap (list_all is_ascii_digit) parts ∙ all)).1 in
    let long : length (drop 7 xs) ≡ length places =
    omega (arith, length-drop 7 xs, length-append places (replicate 7 48)) in
    let p : ℕ = 10 ^ length places in
    let small : number_of (drop 7 xs) < p = rw (← long) (below_power (drop 7 xs) rest) in
    let as_whole : number_of xs ≡ number_of places * 10000000 =
    number_of-append places (replicate 7 48) ∙ (omega arith) in
    let as_parts : number_of xs ≡ number_of (take 7 xs) * 10 ^ length (drop 7 xs) + number_of (drop 7 xs) =
    ap number_of (sym parts) ∙ number_of-append (take 7 xs) (drop 7 xs) in
    let as_parts' : number_of xs ≡ number_of (take 7 xs) * p + number_of (drop 7 xs) =
    as_parts ∙ ap (λ n. number_of (take 7 xs) * 10 ^ n + number_of (drop 7 xs)) long in
    sym (quotient_is p (number_of (take 7 xs)) (number_of places * 10000000) (power_positive (length places))
    (omega arith) (omega arith))

-- one more of the seven places
pub seven_more : (places : List ℕ) (at number digit : ℕ) → at < 7
    → number ≡ number_of (take at (places ++ replicate 7 48)) → number < 10 ^ at
    → digit ≡ get_or (places ++ replicate 7 48) at 48 - 48 → digit ≤ 9 →
    (number * 10 + digit ≡ number_of (take (at + 1) (places ++ replicate 7 48))) × (number * 10 + digit < 10 ^ (at + 1))
seven_more places at number digit below is size digit_is small =
    let xs : List ℕ = places ++ replicate 7 48 in
    let inside : at < length xs = omega (arith, length-append places (replicate 7 48)) in
    let later : number_of (take (at + 1) xs) ≡ number_of (take at xs) * 10 + (get_or xs at 48 - 48) =
    ap number_of (take_more xs at 48 inside) ∙ number_of-more (take at xs) (get_or xs at 48) in
    let power : 10 ^ (at + 1) ≡ 10 * 10 ^ at =
    ap (λ n. 10 ^ n) (let e : at + 1 ≡ suc at = omega arith in e) ∙ ten_more at in
    (omega (arith, later, is, digit_is), omega (arith, power, size, small))

-- the digits that bytes begin with are digits
pub whole_are_digits : (xs : List ℕ) → list_all is_ascii_digit (whole_digits xs) ≡ true
whole_are_digits [] = refl
whole_are_digits (x ∷ xs) = elim (cases_Bool (is_ascii_digit x)) [
  | inl digit ↦ rw digit (rw digit (whole_are_digits xs))
  | inr other ↦ rw other refl
]

-- the size of the fraction, from the whole part and the first seven places
pub fraction_size : (whole places : List ℕ)
    → nearest (number_of (whole ++ places) * 1000000) (10 ^ length places)
    ≡ number_of whole * 1000000 + (number_of places * 10000000 / 10 ^ length places + 5) / 10
fraction_size whole places =
    ap (λ n. nearest (n * 1000000) (10 ^ length places)) (number_of-append whole places)
    ∙ fraction_rounded (number_of whole) (number_of places) (10 ^ length places) (power_positive (length places))

-- digits that come to more than the largest number are too large
pub too_large : (minus : Bool) (whole places : List ℕ) (w s : ℕ) → w ≡ min (number_of whole) 1000000000
    → s ≡ number_of places * 10000000 / 10 ^ length places → 999999999999999 < w * 1000000 + (s + 5) / 10 →
    fraction_of minus whole places ≡ TooLarge
too_large minus whole places w s w_is s_is large =
    let n : ℕ = nearest (number_of (whole ++ places) * 1000000) (10 ^ length places) in
    let size : n ≡ number_of whole * 1000000 + (s + 5) / 10 = rw s_is (fraction_size whole places) in
    let past : 999999999999999 < n = omega (arith, size, w_is, large) in
    let test : nat_le n 999999999999999 ≡ false = grind (arith, nat_tests, past) in
    rw test refl

-- any others are the number that they come to
pub in_size : (minus : Bool) (whole places : List ℕ) (w s : ℕ) → w ≡ min (number_of whole) 1000000000
    → s ≡ number_of places * 10000000 / 10 ^ length places → w * 1000000 + (s + 5) / 10 ≤ 999999999999999 →
    fraction_of minus whole places ≡ Num (signed minus (w * 1000000 + (s + 5) / 10))
in_size minus whole places w s w_is s_is within =
    let n : ℕ = nearest (number_of (whole ++ places) * 1000000) (10 ^ length places) in
    let size : n ≡ number_of whole * 1000000 + (s + 5) / 10 = rw s_is (fraction_size whole places) in
    let same : n ≡ w * 1000000 + (s + 5) / 10 = omega (arith, size, w_is, within) in
    let test : nat_le n 999999999999999 ≡ true = grind (arith, nat_tests, same, within) in
    rw test (ap (λ k. Num (signed minus k)) same)
