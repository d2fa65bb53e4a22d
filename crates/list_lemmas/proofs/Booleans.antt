-- Tests joined, and tests that say the same.
use Rattle.std.proofs.Common.{◌≡◌, ◌||◌, Bool, true, false, refl, sym}

-- two answers that are yes for one another are the same
pub same_from_both : (a b : Bool) → (a ≡ true → b ≡ true) → (b ≡ true → a ≡ true) → a ≡ b
same_from_both true b f g = sym (f refl)
same_from_both false true f g = g refl
same_from_both false false f g = refl

-- one of three that holds is one of them in another order
pub or_turned : (a b c : Bool) → ((a || b) || c) ≡ true → (b || (a || c)) ≡ true
or_turned true true c k = refl
or_turned true false c k = refl
or_turned false b c k = k
