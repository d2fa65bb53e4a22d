-- Decimals of formats.
use Rattle.std.proofs.Common.{◌≡◌, ◌≤◌, ◌<◌, ◌/◌, ℕ, length, ap, arith, inl, inr}
use Rattle.std.specs.Prelude.{nat_lt}
use Rattle.std.proofs.lemmas.Bool.{cases_Bool}
use Rattle.std.proofs.lemmas.Bool.Decides.{nat_tests}
use Rattle.grid_address.specs.Address.{decimal}
use Rattle.grid_address.proofs.Decimals.{decimal_one, length-decimal_more}

one_digit : (n : ℕ) → n < 10 → length (decimal n) ≡ 1
one_digit n h = ap length (decimal_one n h)

-- a number below 16 has at most two digits
pub two_digits_in : (n : ℕ) → n < 16 → length (decimal n) ≤ 2
two_digits_in n h = elim (cases_Bool (nat_lt n 10)) [
  | inl one ↦ omega (arith, one_digit n (grind (arith, nat_tests, one)))
  | inr two ↦
      (let large : 10 ≤ n = grind (arith, nat_tests, two) in
      omega (arith, length-decimal_more n large, one_digit (n / 10) (omega (arith, h))))
]
