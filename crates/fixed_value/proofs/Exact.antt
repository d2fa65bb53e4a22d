-- The decimals that a number has are enough: with more of them its short text is the same.
use Rattle.std.specs.Int.RustNames.{int_lt}
use Rattle.std.proofs.Common.{◌≡◌, ℕ, zero, suc, ◌+◌, ◌-◌, ◌*◌, ◌/◌, ◌%◌, ◌^◌, ◌≤◌, ◌<◌, Bool, true, false, ◌++◌}
use Rattle.std.proofs.Common.{length, take, drop, replicate, refl, sym, ap, ◌∙◌, arith, inl, inr}
use Rattle.std.specs.Prelude.{◌==◌, ◌&&◌, not, nat_lt, ℤ, pos, nat_abs}
use Rattle.std.proofs.Math.Nat.{div-div-eq-div-mul, mul-le-mul_right}
use Rattle.std.proofs.Math.Nat.{div-lt_iff_lt-mul, mul-div-le}
use Rattle.std.proofs.lemmas.Bool.{cases_Bool, eqb-true}
use Rattle.std.proofs.lemmas.List.{append-nil}
use Rattle.std.proofs.lemmas.Bool.Decides.{nat_tests}
use Rattle.std.proofs.lemmas.Nat.{pow-add}
use Rattle.fixed_value.specs.Written.{decimals, fixed_digits, minus_sign, pointed, scaled, short, whole_len}
use Rattle.fixed_value.specs.Written.{without_last_zeros, without_zeros, written}
use Rattle.fixed_value.proofs.LastDigits.{count_more, digit_stays, one_digit, raised, zero_gone, zeros_behind}
use Rattle.fixed_value.proofs.Kept.{front_kept, last_kept, len_of_short, len_with_point, same_text, short_is, sixth}
use Rattle.fixed_value.proofs.Kept.{zero_raised, zeros_dropped}
use Rattle.fixed_value.proofs.Places.{power_positive, ten_more}
use Rattle.fixed_value.proofs.Written.{fixed_digits_length, nearest_exact, stripped_stays}

-- a number of units without the zeros at its end
record IsStripped (places n : ℕ) : Type 0 where
  left : ℕ
  rest : ℕ
  size : left ≤ places
  number : n ≡ rest * 10 ^ (places - left)
  digits : fixed_digits left rest ≡ without_last_zeros (fixed_digits places n)

stripped : (places n : ℕ) → IsStripped places n
stripped zero n = record { left = 0; rest = n; size = omega arith; number = omega arith; digits = refl }
stripped (suc k) n = elim (cases_Bool (n % 10 == 0)) [
  | inl nought ↦ (let more = stripped k (n / 10) in let none : n % 10 ≡ 0 = eqb-true _ _ nought in
      let same : suc k - 1 ≡ k = omega arith in
      let longer : suc k - more.left ≡ suc (k - more.left) = omega (arith, more.size) in
      record {
        left = more.left;
        rest = more.rest;
        size = omega (arith, more.size);
        number =
            (let e : n ≡ 10 * (n / 10) = omega (arith, none) in e) ∙ ap (λ m. 10 * m) more.number
            ∙ (let e : 10 * (more.rest * 10 ^ (k - more.left)) ≡ more.rest * (10 * 10 ^ (k - more.left)) =
            omega arith in e) ∙ ap (λ m. more.rest * m) (sym (ap (λ j. 10 ^ j) longer ∙ ten_more (k - more.left)));
        digits =
            more.digits ∙ sym (ap (λ j. without_last_zeros (fixed_digits j (n / 10))) same)
            ∙ zero_gone (suc k) n (omega arith) none;
      })
  | inr other ↦
      (let some : n % 10 ≡ 0 → ⊥ =
      λ h. (let e : (n % 10 == 0) ≡ true = grind (arith, nat_tests, h) in absurd (let e' = sym other ∙ e in cc)) in
      let none : suc k - suc k ≡ 0 = omega arith in
      record {
        left = suc k;
        rest = n;
        size = omega arith;
        number = (let e : n ≡ n * 10 ^ 0 = omega arith in e) ∙ ap (λ j. n * 10 ^ j) (sym none);
        digits = digit_stays (suc k) n (omega arith) some;
      })
]

module _ (v : ℤ) (places left rest : ℕ) (size : left ≤ 6) (number : nat_abs v ≡ rest * 10 ^ (6 - left))
    (enough : left ≤ places) where
  scaled_is : scaled v places ≡ rest * 10 ^ (places - left)
  scaled_is =
      let power : 10 ^ (6 - left) * 10 ^ places ≡ 10 ^ (places - left) * 1000000 =
      sym (pow-add 10 (6 - left) places)
      ∙ ap (λ k. 10 ^ k) (let e : 6 - left + places ≡ places - left + 6 = omega (arith, size, enough) in e)
      ∙ pow-add 10 (places - left) 6 in
      let exact : nat_abs v * 10 ^ places ≡ rest * 10 ^ (places - left) * 1000000 =
      ap (λ n. n * 10 ^ places) number
      ∙ (let e : rest * 10 ^ (6 - left) * 10 ^ places ≡ rest * (10 ^ (6 - left) * 10 ^ places) = omega arith in e)
      ∙ ap (λ n. rest * n) power ∙ (omega arith) in
      ap (λ n. (2 * n + 1000000) / 2000000) exact ∙ nearest_exact (rest * 10 ^ (places - left)) 1000000 (omega arith)

  parts : places ≡ left + (places - left)
  parts = omega (arith, enough)

  whole_is : take 10 (fixed_digits (10 + places) (scaled v places)) ≡ fixed_digits 10 (rest / 10 ^ left)
  whole_is = front_kept 10 left (places - left) places rest (scaled v places) parts scaled_is

  behind_is : drop 10 (fixed_digits (10 + places) (scaled v places))
      ≡ fixed_digits left rest ++ replicate (places - left) 48
  behind_is = last_kept 10 left (places - left) places rest (scaled v places) parts scaled_is

  none_is : (scaled v places == 0) ≡ (rest == 0)
  none_is = zero_raised rest (places - left) (scaled v places) scaled_is

same_from : (v : ℤ) (places left rest : ℕ) → left ≤ 6 → nat_abs v ≡ rest * 10 ^ (6 - left) → left ≤ places
    → fixed_digits left rest ≡ without_last_zeros (fixed_digits 6 (nat_abs v)) → short v places ≡ written v left
same_from v places left rest size number enough digits =
    let zeros : fixed_digits 6 (nat_abs v) ≡ fixed_digits left rest ++ replicate (6 - left) 48 =
    ap (λ k. fixed_digits k (nat_abs v)) (let e : 6 ≡ left + (6 - left) = omega (arith, size) in e)
    ∙ ap (fixed_digits (left + (6 - left))) number ∙ zeros_behind left (6 - left) rest in
    let stays : without_last_zeros (fixed_digits left rest) ≡ fixed_digits left rest =
    sym (zeros_dropped (fixed_digits left rest) (6 - left)) ∙ ap without_last_zeros (sym zeros) ∙ sym digits in
    let no_more : left - left ≡ 0 = omega arith in
    let behind : without_last_zeros (drop 10 (fixed_digits (10 + places) (scaled v places))) ≡ fixed_digits left rest =
    ap without_last_zeros (behind_is v places left rest size number enough)
    ∙ zeros_dropped (fixed_digits left rest) (places - left) ∙ stays in
    let behind_left : drop 10 (fixed_digits (10 + left) (scaled v left)) ≡ fixed_digits left rest =
    behind_is v left left rest size number (omega arith) ∙ ap (λ k. fixed_digits left rest ++ replicate k 48) no_more
    ∙ append-nil (fixed_digits left rest) in
    same_text (int_lt v (pos 0)) (int_lt v (pos 0)) (scaled v places == 0) (scaled v left == 0)
    (take 10 (fixed_digits (10 + places) (scaled v places))) (take 10 (fixed_digits (10 + left) (scaled v left)))
    (without_last_zeros (drop 10 (fixed_digits (10 + places) (scaled v places))))
    (drop 10 (fixed_digits (10 + left) (scaled v left)))
    refl (none_is v places left rest size number enough ∙ sym (none_is v left left rest size number (omega arith)))
    (whole_is v places left rest size number enough ∙ sym (whole_is v left left rest size number (omega arith)))
    (behind ∙ sym behind_left)

left_is : (v : ℤ) (s : IsStripped 6 (nat_abs v)) → s.left ≡ decimals v
left_is v s = sym (fixed_digits_length s.left s.rest) ∙ ap length s.digits

-- a number has at most six decimals
pub few_decimals : (v : ℤ) → decimals v ≤ 6
few_decimals v = (let s = stripped 6 (nat_abs v) in omega (arith, s.size, left_is v s))

-- more places than a number has decimals add nothing to its short text
pub enough_places : (v : ℤ) (places : ℕ) → decimals v ≤ places → short v places ≡ written v (decimals v)
enough_places v places enough =
    let s = stripped 6 (nat_abs v) in
    same_from v places s.left s.rest s.size s.number (omega (arith, enough, left_is v s)) s.digits
    ∙ ap (written v) (left_is v s)

-- the text with the decimals that a number has, and its length
pub exact_is : (v : ℤ) (n left rest : ℕ) (minus : Bool) → n ≡ nat_abs v → nat_abs v ≤ 999999999999999
    → minus ≡ int_lt v (pos 0) → fixed_digits left rest ≡ without_last_zeros (fixed_digits 6 n)
    → rest / 10 ^ left ≡ n / 10 ^ 6 → (rest == 0) ≡ (n == 0) →
    minus_sign (minus && not (rest == 0))
    ++ (without_zeros (fixed_digits 10 (rest / 10 ^ left)) ++ pointed (fixed_digits left rest ++ replicate 0 48))
    ≡ written v (decimals v)
exact_is v n left rest minus size within sign digits whole none =
    short_is v 6 6 n left rest minus within (omega arith) (size ∙ sym (sixth v within)) sign digits whole none
    ∙ enough_places v 6 (few_decimals v)

-- how long a number with all its decimals is, by its parts
pub exact_len : (v : ℤ) (n left rest : ℕ) → n ≡ nat_abs v → nat_abs v ≤ 999999999999999
    → fixed_digits left rest ≡ without_last_zeros (fixed_digits 6 n) → rest / 10 ^ left ≡ n / 10 ^ 6
    → (rest == 0) ≡ (n == 0) →
    length (minus_sign (int_lt v (pos 0) && not (n == 0))) + length (without_zeros (fixed_digits 10 (n / 1000000)))
    + length (pointed (fixed_digits left rest)) ≡ length (written v (decimals v))
exact_len v n left rest size within digits whole none =
    let text =
    len_of_short v left rest (int_lt v (pos 0)) (written v (decimals v)) refl
    (sym (exact_is v n left rest (int_lt v (pos 0)) size within refl digits whole none)) in
    let signs : length (minus_sign (int_lt v (pos 0) && not (rest == 0)))
    ≡ length (minus_sign (int_lt v (pos 0) && not (n == 0))) =
    ap (λ k. length (minus_sign (int_lt v (pos 0) && not k))) none in
    let wholes : length (without_zeros (fixed_digits 10 (rest / 10 ^ left)))
    ≡ length (without_zeros (fixed_digits 10 (n / 1000000))) =
    ap (λ k. length (without_zeros (fixed_digits 10 k))) whole in
    omega (arith, text, signs, wholes)

-- a larger number has no fewer digits
no_shorter : (k a b : ℕ) → a ≤ b → b < 10 ^ k
    → length (without_zeros (fixed_digits k a)) ≤ length (without_zeros (fixed_digits k b))
no_shorter zero a b less below = omega arith
no_shorter (suc k) a b less below = elim (cases_Bool (nat_lt a 10)) [
  | inl one ↦ (let small : a < 10 = grind (arith, nat_tests, one) in
      let some : 0 < length (without_zeros (fixed_digits (suc k) b)) =
      stripped_stays (fixed_digits (suc k) b) (omega (arith, fixed_digits_length (suc k) b)) in
      omega (arith, ap length (one_digit (suc k) a (omega arith) small), some))
  | inr more ↦ (let large : 10 ≤ a = grind (arith, nat_tests, more) in
      let same : suc k - 1 ≡ k = omega arith in
      let first = count_more (suc k) a large (omega (arith, less, below)) in
      let second = count_more (suc k) b (omega (arith, large, less)) below in
      let a_is : length (without_zeros (fixed_digits (suc k) a))
      ≡ length (without_zeros (fixed_digits k (a / 10))) + 1 =
      first ∙ ap (λ j. length (without_zeros (fixed_digits j (a / 10))) + 1) same in
      let b_is : length (without_zeros (fixed_digits (suc k) b))
      ≡ length (without_zeros (fixed_digits k (b / 10))) + 1 =
      second ∙ ap (λ j. length (without_zeros (fixed_digits j (b / 10))) + 1) same in
      omega (
        arith,
        a_is,
        b_is,
        no_shorter k (a / 10) (b / 10) (omega (arith, less)) (omega (arith, below, ten_more k)),
      ))
]

quotient_less : (a b k : ℕ) → 0 < k → a ≤ b → a / k ≤ b / k
quotient_less a b k some less =
    let q : k * (a / k) ≤ a = mul-div-le a k in
    elim (cases_Bool (nat_lt (b / k) (a / k))) [
      | inl above ↦ (let large : b / k < a / k = grind (arith, nat_tests, above) in
          let past : b < a / k * k = (div-lt_iff_lt-mul {k = k} {x = b} {y = a / k} some).0 large in
          absurd (omega (arith, past, q, less)))
      | inr within ↦ grind (arith, nat_tests, within)
    ]

-- rounding makes the whole part no smaller, and leaves it within ten digits
no_smaller : (size places : ℕ) → size / 1000000 ≤ (2 * (size * 10 ^ places) + 1000000) / 2000000 / 10 ^ places
no_smaller size places =
    let n : ℕ = size * 10 ^ places in
    let as_one : n / 1000000 / 10 ^ places ≡ size / 1000000 =
    div-div-eq-div-mul n 1000000 (10 ^ places)
    ∙ ap (λ m. n / m) (let e : 1000000 * 10 ^ places ≡ 10 ^ places * 1000000 = omega arith in e)
    ∙ sym (div-div-eq-div-mul n (10 ^ places) 1000000) ∙ ap (λ m. m / 1000000) (raised places size) in
    let least : n / 1000000 ≤ (2 * n + 1000000) / 2000000 = omega arith in
    rw (← as_one) (quotient_less (n / 1000000) ((2 * n + 1000000) / 2000000) (10 ^ places) (power_positive places)
    least)

within_ten : (v : ℤ) (places : ℕ) → nat_abs v ≤ 999999999999999 → scaled v places / 10 ^ places < 10 ^ 10
within_ten v places within =
    let some : 0 < 10 ^ places = power_positive places in
    let most : nat_abs v * 10 ^ places ≤ 999999999999999 * 10 ^ places = mul-le-mul_right (10 ^ places) within in
    (div-lt_iff_lt-mul {k = 10 ^ places} {x = scaled v places} {y = 10 ^ 10} some).1 (omega (arith, some, most))

-- beside the whole digits and the point there is room for so many places at most
pub whole_fits : (v : ℤ) (places : ℕ) → nat_abs v ≤ 999999999999999 → 0 < places
    → whole_len v + 1 + places ≤ length (written v places)
whole_fits v places within some =
    let number : ℕ = scaled v places in
    let longer : whole_len v ≤ length (without_zeros (fixed_digits 10 (scaled v places / 10 ^ places))) =
    no_shorter 10 (nat_abs v / 1000000) (scaled v places / 10 ^ places) (no_smaller (nat_abs v) places)
    (within_ten v places within) in
    let text =
    len_with_point v places (scaled v places) (length (minus_sign (int_lt v (pos 0) && not (scaled v places == 0))))
    (length (without_zeros (fixed_digits 10 (scaled v places / 10 ^ places)))) refl some refl refl in
    omega (arith, longer, text)

-- with a sign there is room for one place less
pub signed_fits : (v : ℤ) (places : ℕ) → nat_abs v ≤ 999999999999999 → 0 < places → int_lt v (pos 0) ≡ true
    → 1000000 ≤ nat_abs v → whole_len v + 2 + places ≤ length (written v places)
signed_fits v places within some minus large =
    let longer : whole_len v ≤ length (without_zeros (fixed_digits 10 (scaled v places / 10 ^ places))) =
    no_shorter 10 (nat_abs v / 1000000) (scaled v places / 10 ^ places) (no_smaller (nat_abs v) places)
    (within_ten v places within) in
    let least : 1000000 * 10 ^ places ≤ nat_abs v * 10 ^ places = mul-le-mul_right (10 ^ places) large in
    let one : 1 ≤ scaled v places = omega (arith, least, power_positive places) in
    let shown : (scaled v places == 0) ≡ false = grind (arith, nat_tests, one) in
    let sign : 1 ≡ length (minus_sign (int_lt v (pos 0) && not (scaled v places == 0))) = rw (minus, shown) refl in
    let text =
    len_with_point v places (scaled v places) 1
    (length (without_zeros (fixed_digits 10 (scaled v places / 10 ^ places)))) refl some sign refl in
    omega (arith, longer, text)
