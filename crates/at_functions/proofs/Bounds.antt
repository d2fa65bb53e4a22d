-- Numbers within bounds.
use Rattle.std.proofs.Common.{◌≡◌, ℕ, ◌≤◌, ℤ, pos, negsuc, true, refl, arith}
use Rattle.std.specs.Prelude.{unsigned_abs}
use Rattle.std.proofs.lemmas.Bool.Decides.{nat_tests}
use Rattle.serial_date.specs.Calendar.{is_between}

-- a number between two counts is its size
pub small_is : (low high : ℕ) (z : ℤ) → is_between low high z ≡ true
    → (low ≤ unsigned_abs z) × (unsigned_abs z ≤ high) × (z ≡ pos (unsigned_abs z))
small_is low high (pos n) h = (grind (arith, nat_tests, h), grind (arith, nat_tests, h), refl)
small_is low high (negsuc n) h = absurd cc
