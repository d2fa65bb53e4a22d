-- A number without a sign isn't negative.
use Rattle.std.proofs.Common.{◌≡◌, ℕ, suc, zero, ◌<◌, ◌==◌, Bool, true, false, cond, List, [], ◌∷◌, take, Option, Some}
use Rattle.std.proofs.Common.{None, refl, sym, ◌∙◌, subst, arith}
use Rattle.std.proofs.lemmas.Bool.Decides.{nat_tests}
use Rattle.std.proofs.lemmas.Bool.{false_from_ne_true}
use Rattle.fixed_value.specs.Decimals.{decimal_from, decimal_of, is_minus, places_of, whole_digits, behind_digits}
use Rattle.fixed_value.specs.Decimals.{without_sign}
use Rattle.fixed_value.specs.Numbers.{signed}
use Rattle.fixed_value.specs.declared.decimal.Decimal.TheVariants.{Num as decimal, TooLarge}
use Rattle.formula_text.specs.inner.Fine.{is_fine_kind}
use Rattle.formula_text.specs.Operands.{number_found, number_kind, number_len}

in_range : (b : Bool) (at n : ℕ) → is_fine_kind (number_kind at (cond b (decimal (signed false n)) TooLarge)) ≡ true
in_range true at n = refl
in_range false at n = refl

from_fine : (at : ℕ) (whole : List ℕ) (places : Option (List ℕ))
    → is_fine_kind (number_kind at (decimal_from false whole places)) ≡ true
from_fine at whole None = refl
from_fine at [] (Some []) = refl
from_fine at [] (Some (p ∷ ps)) = in_range _ at _
from_fine at (w ∷ ws) (Some places) = in_range _ at _

unsigned : (at : ℕ) (bytes : List ℕ) → is_minus bytes ≡ false → is_fine_kind (number_kind at (decimal_of bytes)) ≡ true
unsigned at bytes h =
    subst (λ m. is_fine_kind (number_kind at
    (decimal_from m (whole_digits (without_sign bytes)) (places_of (behind_digits (without_sign bytes))))) ≡ true)
    (sym h) (from_fine at (whole_digits (without_sign bytes)) (places_of (behind_digits (without_sign bytes))))

no_minus : (bytes : List ℕ) → 0 < number_len bytes → is_minus bytes ≡ false
no_minus [] h = refl
no_minus (b ∷ bs) h =
    false_from_ne_true (b == 45) (λ (e : (b == 45) ≡ true).
    (let q : b ≡ 45 = grind (arith, nat_tests) in
    let z : 0 < number_len (45 ∷ bs) = subst (λ n. 0 < number_len (n ∷ bs)) q h in
    let y : 0 < 0 = z in
    omega (arith, y)))

front_minus : (n : ℕ) (bytes : List ℕ) → 0 < n → is_minus (take n bytes) ≡ is_minus bytes
front_minus zero bytes h = absurd (omega arith)
front_minus (suc n) [] h = refl
front_minus (suc n) (b ∷ bs) h = refl

-- the number that stands first
pub number_is_fine : (at : ℕ) (bytes : List ℕ) → 0 < number_len bytes → is_fine_kind (number_found at bytes).kind ≡ true
number_is_fine at bytes h =
    unsigned at (take (number_len bytes) bytes) (front_minus (number_len bytes) bytes h ∙ no_minus bytes h)
