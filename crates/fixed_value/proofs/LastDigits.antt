-- Digits of a number, from its end.
use Rattle.std.proofs.Common.{◌≡◌, ℕ, zero, suc, ◌+◌, ◌-◌, ◌*◌, ◌/◌, ◌%◌, ◌^◌, ◌≤◌, ◌<◌, true, false, List, [], ◌∷◌}
use Rattle.std.proofs.Common.{◌++◌, length, take, drop, replicate, refl, sym, ap, subst, ◌∙◌, arith, inl, inr}
use Rattle.std.proofs.Common.{append_assoc, length-append}
use Rattle.std.specs.Prelude.{◌==◌, nat_lt}
use Rattle.std.specs.List.{list_all}
use Rattle.std.proofs.Math.Nat.{div-div-eq-div-mul}
use Rattle.std.proofs.lemmas.Bool.{cases_Bool, eqb-true}
use Rattle.std.proofs.lemmas.Bool.Decides.{nat_tests}
use Rattle.std.proofs.lemmas.Nat.{pow-add}
use Rattle.std.proofs.lemmas.List.{append-nil, take_at, drop_at, replicate-append-replicate}
use Rattle.std.proofs.lemmas.List.Folds.{list_all-append}
use Rattle.fixed_value.specs.Written.{fixed_digits, without_last_zeros, without_zeros}
use Rattle.fixed_value.proofs.LastZeros.{digit_kept, is_zero, zero_dropped}
use Rattle.fixed_value.proofs.Places.{power_positive, quotient_is, ten_more}
use Rattle.fixed_value.proofs.Written.{fixed_digits_length}

-- one digit at the end, and the digits before it
pub last_digit : (k n : ℕ) → 0 < k → fixed_digits k n ≡ fixed_digits (k - 1) (n / 10) ++ (48 + n % 10) ∷ []
last_digit zero n h = absurd (omega (arith, h))
last_digit (suc k) n h =
    (let same : suc k - 1 ≡ k = omega arith in sym (ap (λ j. fixed_digits j (n / 10) ++ (48 + n % 10) ∷ []) same))

-- a digit that has been put in front
pub one_more : (k n : ℕ) (text : List ℕ) → 0 < k
    → fixed_digits (k - 1) (n / 10) ++ (48 + n % 10) ∷ text ≡ fixed_digits k n ++ text
one_more k n text h =
    sym (ap (λ (l : List ℕ). l ++ text) (last_digit k n h)
    ∙ append_assoc (fixed_digits (k - 1) (n / 10)) ((48 + n % 10) ∷ []) text)

-- a tenth by one power less is the same
pub by_ten : (k n : ℕ) → 0 < k → n / 10 / 10 ^ (k - 1) ≡ n / 10 ^ k
by_ten zero n h = absurd (omega (arith, h))
by_ten (suc k) n h =
    let same : suc k - 1 ≡ k = omega arith in
    ap (λ j. n / 10 / 10 ^ j) same ∙ div-div-eq-div-mul n 10 (10 ^ k) ∙ ap (λ m. n / m) (sym (ten_more k))

-- the digits before the last ones, and these
split : (a p n : ℕ) → fixed_digits (a + p) n ≡ fixed_digits a (n / 10 ^ p) ++ fixed_digits p n
split a zero n =
    (let same : a + 0 ≡ a = omega arith in let one : n / 10 ^ 0 ≡ n = omega arith in
    ap (λ k. fixed_digits k n) same ∙ ap (fixed_digits a) (sym one) ∙ sym (append-nil (fixed_digits a (n / 10 ^ 0))))
split a (suc p) n =
    let more : a + suc p ≡ suc (a + p) = omega arith in
    let power : n / 10 / 10 ^ p ≡ n / 10 ^ suc p =
    div-div-eq-div-mul n 10 (10 ^ p) ∙ ap (λ m. n / m) (sym (ten_more p)) in
    ap (λ k. fixed_digits k n) more ∙ ap (λ (l : List ℕ). l ++ (48 + n % 10) ∷ []) (split a p (n / 10))
    ∙ append_assoc (fixed_digits a (n / 10 / 10 ^ p)) (fixed_digits p (n / 10)) ((48 + n % 10) ∷ [])
    ∙ ap (λ k. fixed_digits a k ++ fixed_digits (suc p) n) power

zeros : (z n : ℕ) → fixed_digits z (n * 10 ^ z) ≡ replicate z 48
zeros zero n = refl
zeros (suc z) n =
    let power : n * 10 ^ suc z ≡ 10 * (n * 10 ^ z) = ap (λ m. n * m) (ten_more z) ∙ omega arith in
    let front : n * 10 ^ suc z / 10 ≡ n * 10 ^ z = omega (arith, power) in
    let last : n * 10 ^ suc z % 10 ≡ 0 = omega (arith, power) in
    let one_longer : z + 1 ≡ suc z = omega arith in
    ap (λ (l : List ℕ). l ++ (48 + n * 10 ^ suc z % 10) ∷ []) (ap (fixed_digits z) front ∙ zeros z n)
    ∙ ap (λ d. replicate z 48 ++ (48 + d) ∷ []) last ∙ replicate-append-replicate z 1 48
    ∙ ap (λ k. replicate k 48) one_longer

-- zeros behind a number: the digits before the point, and those behind it
pub raised : (z n : ℕ) → n * 10 ^ z / 10 ^ z ≡ n
raised z n = quotient_is (10 ^ z) n (n * 10 ^ z) (power_positive z) (omega arith) (omega (arith, power_positive z))

-- the front of a number's digits are those of the number before the cut
pub front_part : (a k z n : ℕ) → take a (fixed_digits (a + (k + z)) (n * 10 ^ z)) ≡ fixed_digits a (n / 10 ^ k)
front_part a k z n =
    let power : 10 ^ (k + z) ≡ 10 ^ z * 10 ^ k = pow-add 10 k z ∙ omega arith in
    let number : n * 10 ^ z / 10 ^ (k + z) ≡ n / 10 ^ k =
    ap (λ m. n * 10 ^ z / m) power ∙ sym (div-div-eq-div-mul (n * 10 ^ z) (10 ^ z) (10 ^ k))
    ∙ ap (λ m. m / 10 ^ k) (raised z n) in
    ap (take a) (split a (k + z) (n * 10 ^ z))
    ∙ take_at (fixed_digits a (n * 10 ^ z / 10 ^ (k + z))) (fixed_digits (k + z) (n * 10 ^ z)) a
    (fixed_digits_length a (n * 10 ^ z / 10 ^ (k + z))) ∙ ap (fixed_digits a) number

-- a power of ten more is so many zeros more
pub zeros_behind : (k z n : ℕ) → fixed_digits (k + z) (n * 10 ^ z) ≡ fixed_digits k n ++ replicate z 48
zeros_behind k z n =
    split k z (n * 10 ^ z) ∙ ap (λ m. fixed_digits k m ++ fixed_digits z (n * 10 ^ z)) (raised z n)
    ∙ ap (λ (l : List ℕ). fixed_digits k n ++ l) (zeros z n)

-- the digits behind the cut, with the zeros that a power of ten makes
pub last_part : (a k z n : ℕ) → drop a (fixed_digits (a + (k + z)) (n * 10 ^ z)) ≡ fixed_digits k n ++ replicate z 48
last_part a k z n =
    ap (drop a) (split a (k + z) (n * 10 ^ z))
    ∙ drop_at (fixed_digits a (n * 10 ^ z / 10 ^ (k + z))) (fixed_digits (k + z) (n * 10 ^ z)) a
    (fixed_digits_length a (n * 10 ^ z / 10 ^ (k + z)))
    ∙ zeros_behind k z n

-- zeros in front
no_digit : (ds : List ℕ) (e : ℕ) → list_all is_zero ds ≡ true → without_zeros (ds ++ e ∷ []) ≡ e ∷ []
no_digit [] e h = refl
no_digit (d ∷ []) e h = elim (cases_Bool (d == 48)) [
  | inl nought ↦ rw nought refl
  | inr other ↦ absurd (let h' = rw other at h in cc)
]
no_digit (d ∷ d2 ∷ ds) e h = elim (cases_Bool (d == 48)) [
  | inl nought ↦ rw nought (no_digit (d2 ∷ ds) e (rw nought at h))
  | inr other ↦ absurd (let h' = rw other at h in cc)
]

some_digit : (ds : List ℕ) (e : ℕ) → list_all is_zero ds ≡ false
    → without_zeros (ds ++ e ∷ []) ≡ without_zeros ds ++ e ∷ []
some_digit [] e h = absurd cc
some_digit (d ∷ []) e h = elim (cases_Bool (d == 48)) [
  | inl nought ↦ absurd (let h' = rw nought at h in cc)
  | inr other ↦ rw other refl
]
some_digit (d ∷ d2 ∷ ds) e h = elim (cases_Bool (d == 48)) [
  | inl nought ↦ rw nought (some_digit (d2 ∷ ds) e (rw nought at h))
  | inr other ↦ rw other refl
]

all_zero : (k n : ℕ) → n ≡ 0 → list_all is_zero (fixed_digits k n) ≡ true
all_zero zero n none = refl
all_zero (suc k) n none =
    let last : is_zero (48 + n % 10) ≡ true = grind (arith, nat_tests, none) in
    list_all-append is_zero (fixed_digits k (n / 10)) ((48 + n % 10) ∷ [])
    ∙ rw (all_zero k (n / 10) (omega (arith, none)), last) refl

not_all_zero : (k n : ℕ) → 0 < n → n < 10 ^ k → list_all is_zero (fixed_digits k n) ≡ false
not_all_zero zero n some below = absurd (omega (arith, some, below))
not_all_zero (suc k) n some below =
    list_all-append is_zero (fixed_digits k (n / 10)) ((48 + n % 10) ∷ []) ∙ elim (cases_Bool (n / 10 == 0)) [
      | inl none ↦
          (let front : n / 10 ≡ 0 = eqb-true _ _ none in
          let last : is_zero (48 + n % 10) ≡ false = grind (arith, nat_tests, front, some) in
          rw (all_zero k (n / 10) front, last) refl)
      | inr more ↦
          (let large : 0 < n / 10 = grind (arith, nat_tests, more) in
          rw (not_all_zero k (n / 10) large (omega (arith, below, ten_more k))) refl)
    ]

-- a number below ten has one digit
pub one_digit : (k n : ℕ) → 0 < k → n < 10 → without_zeros (fixed_digits k n) ≡ (48 + n) ∷ []
one_digit k n some below =
    let last : 48 + n % 10 ≡ 48 + n = omega (arith, below) in
    ap without_zeros (last_digit k n some)
    ∙ no_digit (fixed_digits (k - 1) (n / 10)) (48 + n % 10) (all_zero (k - 1) (n / 10) (omega (arith, below)))
    ∙ ap (λ d. d ∷ []) last

-- a number from ten on has two places at least, and its tenth one fewer
pub smaller : (k n : ℕ) → 10 ≤ n → n < 10 ^ k → (2 ≤ k) × (n / 10 < 10 ^ (k - 1))
smaller zero n large below = absurd (omega (arith, large, below))
smaller (suc zero) n large below = absurd (omega (arith, large, below))
smaller (suc (suc k)) n large below =
    (let same : suc (suc k) - 1 ≡ suc k = omega arith in
    (omega arith, rw same (omega (arith, below, ten_more (suc k)))))

-- a number from ten on is written as its tenth and its last digit
pub more_digits : (k n : ℕ) → 10 ≤ n → n < 10 ^ k
    → without_zeros (fixed_digits k n) ≡ without_zeros (fixed_digits (k - 1) (n / 10)) ++ (48 + n % 10) ∷ []
more_digits k n large below =
    let less = smaller k n large below in
    ap without_zeros (last_digit k n (omega (arith, less.0)))
    ∙ some_digit (fixed_digits (k - 1) (n / 10)) (48 + n % 10)
    (not_all_zero (k - 1) (n / 10) (omega (arith, large)) less.1)

-- a whole digit that has been put in front, and the first one
pub whole_more : (k n : ℕ) (text : List ℕ) → 10 ≤ n → n < 10 ^ k
    → without_zeros (fixed_digits (k - 1) (n / 10)) ++ (48 + n % 10) ∷ text ≡ without_zeros (fixed_digits k n) ++ text
whole_more k n text large below =
    sym (ap (λ (l : List ℕ). l ++ text) (more_digits k n large below)
    ∙ append_assoc (without_zeros (fixed_digits (k - 1) (n / 10))) ((48 + n % 10) ∷ []) text)

-- it has one digit more than its tenth
pub count_more : (k n : ℕ) → 10 ≤ n → n < 10 ^ k
    → length (without_zeros (fixed_digits k n)) ≡ length (without_zeros (fixed_digits (k - 1) (n / 10))) + 1
count_more k n large below =
    ap length (more_digits k n large below)
    ∙ length-append (without_zeros (fixed_digits (k - 1) (n / 10))) ((48 + n % 10) ∷ [])

-- a zero at the end
pub zero_gone : (k n : ℕ) → 0 < k → n % 10 ≡ 0
    → without_last_zeros (fixed_digits (k - 1) (n / 10)) ≡ without_last_zeros (fixed_digits k n)
zero_gone k n some none =
    sym (ap without_last_zeros (last_digit k n some)
    ∙ ap (λ d. without_last_zeros (fixed_digits (k - 1) (n / 10) ++ (48 + d) ∷ [])) none
    ∙ zero_dropped (fixed_digits (k - 1) (n / 10)))

-- digits that end with no zero lose none
pub digit_stays : (k n : ℕ) → 0 < k → (n % 10 ≡ 0 → ⊥) → fixed_digits k n ≡ without_last_zeros (fixed_digits k n)
digit_stays k n some other =
    let test : (48 + n % 10 == 48) ≡ false = grind (arith, nat_tests, other) in
    sym (ap without_last_zeros (last_digit k n some) ∙ digit_kept (fixed_digits (k - 1) (n / 10)) (48 + n % 10) test
    ∙ sym (last_digit k n some))

-- no digits lose none
pub no_digits : (k n : ℕ) → k ≡ 0 → fixed_digits k n ≡ without_last_zeros (fixed_digits k n)
no_digits zero n none = refl
no_digits (suc k) n none = absurd (omega (arith, none))

-- how many digits a number has between two powers of ten
pub count_is : (j k n : ℕ) → j < k → 10 ^ j ≤ n → n < 10 ^ suc j → n < 10 ^ k
    → suc j ≡ length (without_zeros (fixed_digits k n))
count_is zero k n some least below most = sym (ap length (one_digit k n (omega (arith, some)) (omega (arith, below))))
count_is (suc j) zero n some least below most = absurd (omega (arith, some))
count_is (suc j) (suc k) n some least below most =
    let same : suc k - 1 ≡ k = omega arith in
    let large : 10 ≤ n = omega (arith, least, ten_more j, power_positive j) in
    let less =
    count_is j k (n / 10) (omega (arith, some)) (omega (arith, least, ten_more j))
    (omega (arith, below, ten_more (suc j))) (omega (arith, most, ten_more k)) in
    omega (
      arith,
      less,
      count_more (suc k) n large most
          ∙ ap (λ i. length (without_zeros (fixed_digits i (n / 10))) + 1) same,
    )

-- the digits of a number below so many digits are its digits
pub low_digits : (k a b : ℕ) → fixed_digits k (a * 10 ^ k + b) ≡ fixed_digits k b
low_digits zero a b = refl
low_digits (suc k) a b =
    let power : a * 10 ^ suc k ≡ 10 * (a * 10 ^ k) = ap (λ m. a * m) (ten_more k) ∙ omega arith in
    let front : (a * 10 ^ suc k + b) / 10 ≡ a * 10 ^ k + b / 10 = omega (arith, power) in
    let last : (a * 10 ^ suc k + b) % 10 ≡ b % 10 = omega (arith, power) in
    ap (λ (l : List ℕ). l ++ (48 + (a * 10 ^ suc k + b) % 10) ∷ [])
    (ap (fixed_digits k) front ∙ low_digits k a (b / 10)) ∙ ap (λ d. fixed_digits k (b / 10) ++ (48 + d) ∷ []) last

-- a number is below the power of as many digits as it has
pub below_len : (k n : ℕ) → 0 < k → n < 10 ^ k → n < 10 ^ length (without_zeros (fixed_digits k n))
below_len zero n some below = absurd (omega (arith, some))
below_len (suc k) n some below = elim (cases_Bool (nat_lt n 10)) [
  | inl one ↦
      let small : n < 10 = grind (arith, nat_tests, one) in
      let is : 1 ≡ length (without_zeros (fixed_digits (suc k) n)) =
      sym (ap length (one_digit (suc k) n (omega arith) small)) in
      subst (λ (j : ℕ). n < 10 ^ j) is (omega (arith, small))
  | inr more ↦
      let large : 10 ≤ n = grind (arith, nat_tests, more) in
      let same : suc k - 1 ≡ k = omega arith in
      let less = smaller (suc k) n large below in
      let len : ℕ = length (without_zeros (fixed_digits k (n / 10))) in
      let is : suc len ≡ length (without_zeros (fixed_digits (suc k) n)) =
      omega (
        arith,
        count_more (suc k) n large below
            ∙ ap (λ i. length (without_zeros (fixed_digits i (n / 10))) + 1) same,
      ) in
      let rest : n / 10 < 10 ^ len =
      below_len k (n / 10) (omega (arith, less.0)) (subst (λ (j : ℕ). n / 10 < 10 ^ j) same less.1) in
      subst (λ (j : ℕ). n < 10 ^ j) is (omega (arith, rest, ten_more len))
]
