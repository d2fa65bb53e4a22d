-- Whole years and months taken off a day number.
use Rattle.std.proofs.Common.{◌≡◌, ℕ, zero, suc, ◌+◌, ◌-◌, ◌≤◌, ◌<◌, nat_le, true, false, sym, ap, ◌∙◌, subst, arith}
use Rattle.std.proofs.Common.{inl, inr}
use Rattle.std.proofs.lemmas.Bool.{cases_Bool}
use Rattle.std.proofs.lemmas.Bool.Decides.{nat_tests}
use Rattle.std.proofs.Math.Nat.{add-zero}
use Rattle.serial_date.specs.Calendar.{piece_of, total}

zero_plus : (n : ℕ) → 0 + n ≡ n
zero_plus n = omega arith

plus_suc : (n j : ℕ) → n + 1 + j ≡ n + suc j
plus_suc n j = omega arith

-- the piece in which a number lies
pub record IsIn (length : ℕ → ℕ) (count first n : ℕ) : Type 0 where
  pub j : ℕ
  pub r : ℕ
  pub few : j ≤ count
  pub is : n ≡ total length first j + r
  pub from : 1 ≤ r
  pub upto : r ≤ length (first + j)

in_first : (length : ℕ → ℕ) (count first n : ℕ) → 1 ≤ n → n ≤ length first → IsIn length count first n
unfolding total
in_first length count first n more below =
    record {
      j = 0;
      r = n;
      few = omega arith;
      is = omega arith;
      from = more;
      upto = subst (λ k. n ≤ length k) (sym (add-zero first)) below;
    }

-- a count up to a total lies in one of the parts
pub lies_in : (length : ℕ → ℕ) (count first n : ℕ) → 1 ≤ n → n ≤ total length first (suc count)
    → IsIn length count first n
unfolding total
lies_in length zero first n more below = in_first length 0 first n more (omega (arith, below))
lies_in length (suc count) first n more below = elim (cases_Bool (nat_le n (length first))) [
  | inl here ↦ in_first length (suc count) first n more (grind (arith, nat_tests, here))
  | inr later ↦ (let past : length first < n = grind (arith, nat_tests, later) in
      let rest : IsIn length count (first + 1) (n - length first) =
      lies_in length count (first + 1) (n - length first) (omega (arith, past)) (omega (arith, below)) in
      record {
        j = suc rest.j;
        r = rest.r;
        few = omega (arith, rest.few);
        is = omega (arith, rest.is, past);
        from = rest.from;
        upto = subst (λ k. rest.r ≤ length k) (plus_suc first rest.j) rest.upto;
      })
]

-- the walk finds it
pub walk : (length : ℕ → ℕ) (j count first r : ℕ) → j ≤ count → 1 ≤ r → r ≤ length (first + j)
    → piece_of length count first (total length first j + r) ≡ (first + j, r)
unfolding total piece_of
walk length zero zero first r few more below =
    ap (λ k. (k, 0 + r)) (sym (add-zero first)) ∙ ap (λ k. (first + 0, k)) (zero_plus r)
walk length zero (suc count) first r few more below =
    let here : nat_le (0 + r) (length first) ≡ true =
    (let short : r ≤ length first = subst (λ k. r ≤ length k) (add-zero first) below in
    grind (arith, nat_tests, short)) in
    rw here (ap (λ k. (k, 0 + r)) (sym (add-zero first)) ∙ ap (λ k. (first + 0, k)) (zero_plus r))
walk length (suc j) zero first r few more below = absurd (omega (arith, few))
walk length (suc j) (suc count) first r few more below =
    let later : nat_le (length first + total length (first + 1) j + r) (length first) ≡ false =
    grind (arith, nat_tests, more) in
    let left : length first + total length (first + 1) j + r - length first ≡ total length (first + 1) j + r =
    omega arith in
    rw (later, left) (walk length j count (first + 1) r (omega (arith, few)) more
    (subst (λ k. r ≤ length k) (sym (plus_suc first j)) below) ∙ ap (λ k. (k, r)) (plus_suc first j))

-- one piece more at the end
pub total_more : (length : ℕ → ℕ) (first count : ℕ)
    → total length first (suc count) ≡ total length first count + length (first + count)
unfolding total
total_more length first zero = omega (arith, ap length (add-zero first))
total_more length first (suc count) =
    omega (arith, total_more length (first + 1) count, ap length (plus_suc first count))

-- more parts make no smaller total
pub total_grows : (length : ℕ → ℕ) (first count more : ℕ) → total length first count ≤ total length first (count + more)
total_grows length first count zero = omega (arith, ap (total length first) (add-zero count))
total_grows length first count (suc more) =
    omega (
      arith,
      total_grows length first count more,
      total_more length first (count + more),
      ap (total length first) (let e : count + suc more ≡ suc (count + more) = omega arith in e),
    )
