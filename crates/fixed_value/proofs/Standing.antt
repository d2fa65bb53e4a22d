-- A number that was put at its place.
use Rattle.std.specs.Int.RustNames.{int_lt}
use Rattle.std.proofs.Common.{◌≡◌, ℕ, ◌+◌, ◌-◌, ◌*◌, ◌/◌, ◌%◌, ◌^◌, ◌≤◌, ◌<◌, Bool, true, false, List, ◌++◌, length}
use Rattle.std.proofs.Common.{replicate, refl, sym, ap, subst, ◌∙◌, arith, inl, inr}
use Rattle.std.specs.Prelude.{◌==◌, ◌&&◌, not, nat_le, ℤ, pos, nat_abs}
use Rattle.std.proofs.Math.Nat.{div-lt_iff_lt-mul, mul-le-mul_right}
use Rattle.std.proofs.lemmas.Bool.{cases_Bool, eqb-true}
use Rattle.std.proofs.lemmas.Bool.Decides.{nat_tests}
use Rattle.std.proofs.lemmas.List.{append-nil}
use Rattle.fixed_value.specs.Standing.{Stands}
use Rattle.fixed_value.specs.Written.{decimals, fixed_digits, minus_sign, pointed, without_last_zeros, without_zeros}
use Rattle.fixed_value.specs.Written.{written}
use Rattle.fixed_value.proofs.Exact.{exact_is, exact_len}
use Rattle.fixed_value.proofs.Kept.{same_text}
use Rattle.fixed_value.proofs.LastDigits.{low_digits}
use Rattle.fixed_value.proofs.Places.{power_positive, quotient_is}

module _ (v : ℤ) (n left behind : ℕ) (size : n ≡ nat_abs v) (within : nat_abs v ≤ 999999999999999)
    (digits : fixed_digits left behind ≡ without_last_zeros (fixed_digits 6 (n % 1000000)))
    (below : behind < 10 ^ left) (none : (behind == 0) ≡ (n % 1000000 == 0)) where
  -- the number in units of its last place
  abbrev rest : ℕ
  rest = n / 1000000 * 10 ^ left + behind

  rest_digits : fixed_digits left rest ≡ without_last_zeros (fixed_digits 6 n)
  rest_digits =
      let parts : n / 1000000 * 10 ^ 6 + n % 1000000 ≡ n = omega arith in
      low_digits left (n / 1000000) behind ∙ digits
      ∙ ap without_last_zeros (sym (low_digits 6 (n / 1000000) (n % 1000000)) ∙ ap (fixed_digits 6) parts)

  rest_whole : rest / 10 ^ left ≡ n / 10 ^ 6
  rest_whole =
      quotient_is (10 ^ left) (n / 1000000) (n / 1000000 * 10 ^ left + behind) (power_positive left) (omega arith)
      (omega (arith, below))

  rest_none : (rest == 0) ≡ (n == 0)
  rest_none = elim (cases_Bool (n / 1000000 == 0)) [
    | inl small ↦
        let whole : n / 1000000 ≡ 0 = eqb-true _ _ small in
        let same : rest ≡ behind = ap (λ (k : ℕ). k * 10 ^ left + behind) whole ∙ omega arith in
        let part : n % 1000000 ≡ n = omega (arith, whole) in
        ap (λ (k : ℕ). k == 0) same ∙ none ∙ ap (λ (k : ℕ). k == 0) part
    | inr large ↦
        let some : 1 ≤ n / 1000000 = grind (arith, nat_tests, large) in
        let more : 1 * 10 ^ left ≤ n / 1000000 * 10 ^ left = mul-le-mul_right (10 ^ left) some in
        let first : (rest == 0) ≡ false = grind (arith, nat_tests, more, power_positive left) in
        let second : (n == 0) ≡ false = grind (arith, nat_tests, some) in
        first ∙ sym second
  ]

  same_behind : fixed_digits left rest ≡ fixed_digits left behind
  same_behind = low_digits left (n / 1000000) behind

  text_is : minus_sign (int_lt v (pos 0) && not (n == 0))
      ++ (without_zeros (fixed_digits 10 (n / 1000000)) ++ pointed (fixed_digits left behind)) ≡ written v (decimals v)
  text_is =
      same_text (int_lt v (pos 0)) (int_lt v (pos 0)) (n == 0) (rest == 0) (fixed_digits 10 (n / 1000000))
      (fixed_digits 10 (rest / 10 ^ left)) (fixed_digits left behind) (fixed_digits left rest ++ replicate 0 48)
      refl (sym rest_none) (ap (fixed_digits 10) (sym rest_whole))
      (sym same_behind ∙ sym (append-nil (fixed_digits left rest)))
      ∙ exact_is v n left rest (int_lt v (pos 0)) size within refl rest_digits rest_whole rest_none

  -- how long it is, by its parts
  pub parts_long : (sign len point whole : ℕ) → sign ≡ length (minus_sign (int_lt v (pos 0) && not (n == 0)))
      → whole ≡ n / 1000000 → len ≡ length (without_zeros (fixed_digits 10 whole)) →
      point ≡ length (pointed (fixed_digits left behind)) → sign + len + point ≡ length (written v (decimals v))
  parts_long sign len point whole a is b c =
      omega (
        arith,
        a,
        b ∙ ap (λ (k : ℕ). length (without_zeros (fixed_digits 10 k))) is,
        c
            ∙ ap (λ (l : List ℕ). length (pointed l)) (sym same_behind),
        exact_len v n left rest size within rest_digits rest_whole rest_none,
      )

  -- the number stands where its parts were put
  pub number_stands : (minus : Bool) (whole from end : ℕ) (old new : List ℕ)
      → minus ≡ (int_lt v (pos 0) && not (n == 0)) → whole ≡ n / 1000000 →
      Stands (minus_sign minus ++ (without_zeros (fixed_digits 10 whole) ++ pointed (fixed_digits left behind))) from
      end old new →
      Stands (written v (decimals v)) (end - length (written v (decimals v))) end old new
  number_stands minus whole from end old new sign whole_is s =
      let text : List ℕ = written v (decimals v) in
      let is : minus_sign minus ++ (without_zeros (fixed_digits 10 whole) ++ pointed (fixed_digits left behind))
      ≡ text =
      ap (λ (m : Bool). minus_sign m ++ (without_zeros (fixed_digits 10 whole) ++ pointed (fixed_digits left behind)))
      sign
      ∙ ap (λ (k : ℕ). minus_sign (int_lt v (pos 0) && not (n == 0))
      ++ (without_zeros (fixed_digits 10 k) ++ pointed (fixed_digits left behind))) whole_is ∙ text_is in
      let stands : Stands text from end old new = subst (λ (t : List ℕ). Stands t from end old new) is s in
      let at : from ≡ end - length text = omega (arith, stands.at) in
      subst (λ (f : ℕ). Stands text f end old new) at stands

-- a number below a million that has so many places
pub behind_below : (places number millionths : ℕ) → number / 10 ^ places ≡ millionths / 10 ^ 6 → millionths < 1000000
    → number < 10 ^ places
behind_below places number millionths is below =
    let none : number / 10 ^ places ≡ 0 = omega (arith, is, below) in
    (omega (
      arith,
      (div-lt_iff_lt-mul {k = 10 ^ places} {x = number} {y = 1} (power_positive places)).0
          (omega (arith, none)),
    ))

-- whether there is room
pub does_fit : (len room : ℕ) → len ≤ room → true ≡ nat_le len room
does_fit len room fits = grind (arith, nat_tests, fits)

-- a text that is longer than the room doesn't fit
pub does_not_fit : (len room : ℕ) → room < len → false ≡ nat_le len room
does_not_fit len room past = grind (arith, nat_tests, past)
