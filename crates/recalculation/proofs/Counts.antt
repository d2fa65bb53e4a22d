-- How evaluations add up.
use Rattle.std.specs.Prelude.{ℕ, zero, suc, ◌≡◌, ◌+◌, ◌*◌, ◌-◌, ◌≤◌, ◌^◌, false, cond, min, nat_eq}
use Rattle.std.proofs.Common.{sym, ◌∙◌, ap, arith}
use Rattle.std.proofs.lemmas.Bool.Decides.{nat_tests}
use Rattle.recalculation.specs.Passes.{raised_by}

raised_some : (n k : ℕ) → 1 ≤ n → raised_by n k ≡ min (k + n) (2 ^ 64 - 1)
raised_some n k h =
    let e : nat_eq n 0 ≡ false = grind (arith, nat_tests, h) in
    ap (λ b. cond b k (min (k + n) (2 ^ 64 - 1))) e

-- some evaluations and then more are so many together
pub raised_more : (a b k : ℕ) → raised_by b (raised_by a k) ≡ raised_by (a + b) k
raised_more zero b k = let e : b ≡ 0 + b = omega arith in ap (λ n. raised_by n k) e
raised_more (suc a) zero k = let e : suc a ≡ suc a + 0 = omega arith in ap (λ n. raised_by n k) e
raised_more (suc a) (suc b) k =
    let one = raised_some (suc b) (raised_by (suc a) k) (omega arith) in
    let two = raised_some (suc a) k (omega arith) in
    let both = raised_some (suc a + suc b) k (omega arith) in
    one ∙ ap (λ n. min (n + suc b) (2 ^ 64 - 1)) two ∙ added (suc a) (suc b) k ∙ sym both
  where
    added : (a b k : ℕ) → min (min (k + a) (2 ^ 64 - 1) + b) (2 ^ 64 - 1) ≡ min (k + (a + b)) (2 ^ 64 - 1)
    added a b k = omega arith

-- some turns and one more are one turn more
pub one_more_turn : (n k : ℕ) → n * k + k ≡ (n + 1) * k
one_more_turn n k = omega arith
