-- A power that has no value once has none later.
use Rattle.std.proofs.Common.{◌≡◌, ℕ, zero, suc, ◌+◌, ◌-◌, ◌<◌, ℤ, None, Some, ap, ◌∙◌, arith}
use Rattle.fixed_value.specs.Numbers.{product}
use Rattle.fixed_value.specs.Powers.{powered, times}

stays_none : (x : ℤ) (n k : ℕ) → powered x n ≡ None → powered x (n + k) ≡ None
stays_none x n zero none = ap (powered x) (let e : n + 0 ≡ n = omega arith in e) ∙ none
stays_none x n (suc k) none =
    ap (powered x) (let e : n + suc k ≡ suc (n + k) = omega arith in e) ∙ ap (λ p. times p x) (stays_none x n k none)

-- the factor that ends it
pub ends_none : (x p : ℤ) (n count : ℕ) → n < count → powered x n ≡ Some p → product p x ≡ None → powered x count ≡ None
ends_none x p n count below so_far none =
    let next : powered x (suc n) ≡ None = ap (λ q. times q x) so_far ∙ none in
    ap (powered x) (let e : count ≡ suc n + (count - suc n) = omega arith in e)
    ∙ stays_none x (suc n) (count - suc n) next
