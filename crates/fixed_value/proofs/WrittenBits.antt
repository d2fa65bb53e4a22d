-- Doubles that are written are read back.
use Rattle.std.proofs.Common.{◌≡◌, ℕ, suc, ◌+◌, ◌-◌, ◌*◌, ◌/◌, ◌%◌, ◌^◌, ◌≤◌, ◌<◌, max, true, false, refl, ap, ◌∙◌}
use Rattle.std.proofs.Common.{arith, inl, inr, sym}
use Rattle.std.proofs.Math.Nat.{pow-le-pow_right}
use Rattle.std.specs.Prelude.{◌==◌, nat_le, nat_lt, ℤ, pos, negsuc, nat_abs}
use Rattle.std.proofs.lemmas.Bool.{cases_Bool}
use Rattle.std.proofs.lemmas.Bool.Decides.{nat_tests}
use Rattle.std.proofs.lemmas.Nat.{pow-add}
use Rattle.fixed_value.proofs.Written.{plus_size}
use Rattle.fixed_value.specs.declared.doubles.DoubleRead.TheVariants.{Num}
use Rattle.fixed_value.specs.Doubles.{double_of, exponent_of, fraction_bits, has_minus, nearest_even, sign_bit, size_by}
use Rattle.fixed_value.specs.Doubles.{IsWritten}
use Rattle.fixed_value.specs.Numbers.{nearest, signed}
use Rattle.fixed_value.proofs.Places.{quotient_is}

two_more : (k : ℕ) → 2 ^ (k + 1) ≡ 2 * 2 ^ k
two_more k = pow-add 2 k 1 ∙ omega arith

-- one more power of two
pub raised : (n k : ℕ) → n * 2 ^ k < 4503599627370496000000 → n * 2 ^ (k + 1) < 9007199254740992000000
raised n k h =
    let more : n * 2 ^ (k + 1) ≡ n * (2 * 2 ^ k) = ap (λ p. n * p) (two_more k) in
    omega (arith, more, h)

-- a power of two of something is something
positive : (m s : ℕ) → 1 ≤ m → 1 ≤ m * 2 ^ s
positive m s h =
    let power : 2 ^ 0 ≤ 2 ^ s = pow-le-pow_right {n = 2} (omega arith) {i = 0} {j = s} (omega arith) in
    let more : ℕ = m - 1 in
    let split : m * 2 ^ s ≡ (1 + more) * 2 ^ s = ap (λ k. k * 2 ^ s) (let is : m ≡ 1 + more = omega (arith, h) in is) in
    let parts : (1 + more) * 2 ^ s ≡ 2 ^ s + more * 2 ^ s = omega arith in
    omega (arith, power, split, parts)

-- one more power of two is twice as much
raised_twice : (n k : ℕ) → n * 2 ^ (k + 1) ≡ 2 * (n * 2 ^ k)
raised_twice n k = ap (λ p. n * p) (two_more k) ∙ omega arith

-- a size below a power of two, raised as far as to 2 ^ 72
pub raised_below : (n k s : ℕ) → n < 2 * 2 ^ k → k + s ≡ 71 → n * 2 ^ s < 4722366482869645213696
raised_below n k s h e =
    let more : ℕ = 2 * 2 ^ k - n in
    let power : 2 ^ k * 2 ^ s ≡ 2361183241434822606848 = sym (pow-add 2 k s) ∙ ap (λ m. 2 ^ m) e in
    let split : 2 * 2 ^ k ≡ n + more = omega (arith, h) in
    let all : 2 * 2 ^ k * 2 ^ s ≡ (n + more) * 2 ^ s = ap (λ m. m * 2 ^ s) split in
    let twice : 2 * 2 ^ k * 2 ^ s ≡ 2 * (2 ^ k * 2 ^ s) = omega arith in
    let parts : (n + more) * 2 ^ s ≡ n * 2 ^ s + more * 2 ^ s = omega arith in
    let some : 1 ≤ more * 2 ^ s = positive more s (omega (arith, h)) in
    omega (arith, power, all, twice, parts, some)

-- a size of at least a power of two, raised as far as to 2 ^ 71
pub raised_least : (n k s : ℕ) → 2 ^ k ≤ n → k + s ≡ 71 → 2361183241434822606848 ≤ n * 2 ^ s
raised_least n k s h e =
    let more : ℕ = n - 2 ^ k in
    let power : 2 ^ k * 2 ^ s ≡ 2361183241434822606848 = sym (pow-add 2 k s) ∙ ap (λ m. 2 ^ m) e in
    let split : n ≡ 2 ^ k + more = omega (arith, h) in
    let all : n * 2 ^ s ≡ (2 ^ k + more) * 2 ^ s = ap (λ m. m * 2 ^ s) split in
    let parts : (2 ^ k + more) * 2 ^ s ≡ 2 ^ k * 2 ^ s + more * 2 ^ s = omega arith in
    omega (arith, power, all, parts)

-- the highest bit of a size
pub highest_in : (n k : ℕ) → 2 ^ k ≤ n → n ≤ 999999999999999 → k ≤ 49
highest_in n k h most = elim (cases_Bool (nat_le k 49)) [
  | inl few ↦ grind (arith, nat_tests, few)
  | inr many ↦
      (let far : 50 ≤ k = grind (arith, nat_tests, many) in
      let large : 2 ^ 50 ≤ 2 ^ k = pow-le-pow_right {n = 2} (omega arith) {i = 50} {j = k} far in
      absurd (omega (arith, h, most, large)))
]

-- a count that is shifted in 128 bits, and doubled
pub shifted_twice : (n m s : ℕ) → m ≡ n → n * 2 ^ s < 4722366482869645213696
    → 2 * (m * 2 ^ s % 340282366920938463463374607431768211456) ≡ n * 2 ^ (s + 1)
shifted_twice n m s same below =
    let count : m * 2 ^ s ≡ n * 2 ^ s = ap (λ k. k * 2 ^ s) same in
    omega (arith, count, below, raised_twice n s)

-- the unit of a double that isn't as far below
pub unit_small : (k : ℕ) → k ≤ 73 → 2 ^ k ≤ 2 ^ 73
unit_small k h = pow-le-pow_right {n = 2} (omega arith) {i = k} {j = 73} h

-- a double far below a millionth
pub tiny : (m e : ℕ) → m < 9007199254740992 → 74 ≤ 1075 - e → size_by m e ≡ 0
tiny m e h far =
    let none : e - 1075 ≡ 0 = omega arith in
    let count : m * 1000000 * 2 ^ (e - 1075) ≡ m * 1000000 = ap (λ k. m * 1000000 * 2 ^ k) none ∙ omega arith in
    let unit : 2 ^ 74 ≤ 2 ^ (1075 - e) = pow-le-pow_right {n = 2} (omega arith) far in
    ap (λ x. nearest x (2 ^ (1075 - e))) count
    ∙ quotient_is (2 * 2 ^ (1075 - e)) 0 (2 * (m * 1000000) + 2 ^ (1075 - e)) (omega arith) (omega arith)
    (omega (arith, unit, h))

-- the even rounding lies within half of the divisor
even_near : (x : ℕ) → (2 * (nearest_even x 1000000 * 1000000) ≤ 2 * x + 1000000)
    × (2 * x ≤ 2 * (nearest_even x 1000000 * 1000000) + 1000000)
even_near x =
    let q : ℕ = x / 1000000 in
    let r : ℕ = x % 1000000 in
    let split : x ≡ q * 1000000 + r = omega arith in
    elim (cases_Bool (nat_lt 1000000 (2 * r + q % 2))) [
      | inl up ↦
          (let more : 1000000 < 2 * r + q % 2 = grind (arith, nat_tests, up) in
          rw up (omega (arith, split, more), omega (arith, split, more)))
      | inr down ↦
          (let less : 2 * r + q % 2 ≤ 1000000 = grind (arith, nat_tests, down) in
          rw down (omega (arith, split, less), omega (arith, split, less)))
    ]

-- what was raised by a scale comes back
nearest_back : (n k m : ℕ) → 1000000 < k → 2 * (m * 1000000) ≤ 2 * (n * k) + 1000000
    → 2 * (n * k) ≤ 2 * (m * 1000000) + 1000000 → nearest (m * 1000000) k ≡ n
nearest_back n k m large most least =
    let low : 2 * k * n ≡ 2 * (n * k) = omega arith in
    let high : 2 * k * (n + 1) ≡ 2 * (n * k) + 2 * k = omega arith in
    quotient_is (2 * k) n (2 * (m * 1000000) + k) (omega (arith, large)) (omega (arith, low, least, large))
    (omega (arith, high, most, large))

scale_large : (k : ℕ) → 22 ≤ k → 1000000 < 2 ^ k
scale_large k h =
    let least : 2 ^ 22 ≤ 2 ^ k = pow-le-pow_right {n = 2} (omega arith) h in
    omega (arith, least)

-- at an exponent below 1075 only the divisor is a power of two
size_below : (m e : ℕ) → e ≤ 1075 → size_by m e ≡ nearest (m * 1000000) (2 ^ (1075 - e))
size_below m e h =
    let none : e - 1075 ≡ 0 = omega arith in
    ap (λ x. nearest x (2 ^ (1075 - e))) (ap (λ k. m * 1000000 * 2 ^ k) none ∙ omega arith)

-- the parts of the bits, and the size that they have
record Split (v : ℤ) (bits : ℕ) : Type 0 where
  exponent : ℕ
  fraction : ℕ
  exponent_in : exponent < 2047
  exponent_from : 1 ≤ exponent
  fraction_in : fraction < 4503599627370496
  bits_are : bits ≡ sign_bit v + (exponent * 4503599627370496 + fraction)
  size : size_by (4503599627370496 + fraction) exponent ≡ nat_abs v

read_plus : (e f bits n : ℕ) → e < 2047 → 1 ≤ e → f < 4503599627370496 → bits ≡ 0 + (e * 4503599627370496 + f)
    → size_by (4503599627370496 + f) e ≡ n → n ≤ 999999999999999 → double_of bits ≡ Num (pos n)
read_plus e f bits n e_in e_from f_in is size within =
    let no_na : (bits == 18442240474082181120) ≡ false =
    grind (arith, nat_tests, (let apart : bits < 18442240474082181120 = omega (arith, is, e_in, f_in) in apart)) in
    let exponent : exponent_of bits ≡ e = omega (arith, is, e_in, f_in) in
    let fraction : fraction_bits bits ≡ f = omega (arith, is, f_in) in
    let no_ones : (e == 2047) ≡ false = grind (arith, nat_tests, e_in) in
    let normal : (e == 0) ≡ false = grind (arith, nat_tests, e_from) in
    let sign : has_minus bits ≡ false =
    grind (arith, nat_tests, (let low : bits < 9223372036854775808 = omega (arith, is, e_in, f_in) in low)) in
    let top : max e 1 ≡ e = omega (arith, e_from) in
    let test : nat_le n 999999999999999 ≡ true = grind (arith, nat_tests, within) in
    rw (no_na, exponent, no_ones, sign, fraction, normal, top, size, test) refl

read_minus : (e f bits n : ℕ) → e < 2047 → 1 ≤ e → f < 4503599627370496
    → bits ≡ 9223372036854775808 + (e * 4503599627370496 + f) → size_by (4503599627370496 + f) e ≡ n
    → n ≤ 999999999999999 → double_of bits ≡ Num (signed true n)
read_minus e f bits n e_in e_from f_in is size within =
    let exponent : exponent_of bits ≡ e = omega (arith, is, e_in, f_in) in
    let no_na : (bits == 18442240474082181120) ≡ false =
    grind (arith, nat_tests, (let apart : bits < 18442240474082181120 = omega (arith, is, e_in, f_in) in apart)) in
    let fraction : fraction_bits bits ≡ f = omega (arith, is, f_in) in
    let no_ones : (e == 2047) ≡ false = grind (arith, nat_tests, e_in) in
    let normal : (e == 0) ≡ false = grind (arith, nat_tests, e_from) in
    let sign : has_minus bits ≡ true =
    grind (arith, nat_tests, (let high : 9223372036854775808 ≤ bits = omega (arith, is) in high)) in
    let top : max e 1 ≡ e = omega (arith, e_from) in
    let test : nat_le n 999999999999999 ≡ true = grind (arith, nat_tests, within) in
    rw (no_na, exponent, no_ones, sign, fraction, normal, top, size, test) refl

module _ (v : ℤ) (bits : ℕ) (w : IsWritten v bits) (within : nat_abs v ≤ 999999999999999) where
  abbrev n : ℕ
  n = nat_abs v

  abbrev m : ℕ
  m = nearest_even (n * 2 ^ w.scale) 1000000

  near : (2 * (m * 1000000) ≤ 2 * (n * 2 ^ w.scale) + 1000000) × (2 * (n * 2 ^ w.scale) ≤ 2 * (m * 1000000) + 1000000)
  near = even_near (n * 2 ^ w.scale)

  least : 4503599627370496 ≤ m
  least = omega (arith, near.1, w.least)

  most : m ≤ 9007199254740992
  most = omega (arith, near.0, w.below)

  small : m < 9007199254740992 → Split v bits
  small h =
      let back : 1075 - (1075 - w.scale) ≡ w.scale = omega (arith, w.scale_in) in
      let whole : 4503599627370496 + (m - 4503599627370496) ≡ m = omega (arith, least) in
      record {
        exponent = 1075 - w.scale;
        fraction = m - 4503599627370496;
        exponent_in = omega (arith, w.scale_from);
        exponent_from = omega (arith, w.scale_in);
        fraction_in = omega (arith, h, least);
        bits_are = w.bits_are;
        size =
            ap (λ x. size_by x (1075 - w.scale)) whole ∙ size_below m (1075 - w.scale) (omega arith)
            ∙ ap (λ k. nearest (m * 1000000) (2 ^ k)) back
            ∙ nearest_back n (2 ^ w.scale) m (scale_large w.scale (omega (arith, w.scale_from))) near.0 near.1;
      }

  carried : m ≡ 9007199254740992 → Split v bits
  carried h =
      let half : ℕ = 2 ^ (w.scale - 1) in
      let back : 1075 - (1076 - w.scale) ≡ w.scale - 1 = omega (arith, w.scale_in, w.scale_from) in
      let scale_is : w.scale ≡ (w.scale - 1) + 1 = omega (arith, w.scale_from) in
      let twice : n * 2 ^ w.scale ≡ n * (2 * half) =
      ap (λ k. n * 2 ^ k) scale_is ∙ ap (λ p. n * p) (two_more (w.scale - 1)) in
      record {
        exponent = 1076 - w.scale;
        fraction = 0;
        exponent_in = omega (arith, w.scale_from);
        exponent_from = omega (arith, w.scale_in);
        fraction_in = omega arith;
        bits_are =
            w.bits_are ∙ ap (λ k. sign_bit v + k)
            (let carry : (1075 - w.scale) * 4503599627370496 + (m - 4503599627370496)
            ≡ (1076 - w.scale) * 4503599627370496 + 0 = omega (arith, h, w.scale_in) in carry);
        size =
            size_below 4503599627370496 (1076 - w.scale) (omega (arith, w.scale_from))
            ∙ ap (λ k. nearest (4503599627370496 * 1000000) (2 ^ k)) back
            ∙ nearest_back n half 4503599627370496 (scale_large (w.scale - 1) (omega (arith, w.scale_from)))
            (omega (arith, near.0, twice, h)) (omega (arith, near.1, twice, h));
      }

  splits : Split v bits
  splits = elim (cases_Bool (nat_lt m 9007199254740992)) [
    | inl less ↦ small (grind (arith, nat_tests, less))
    | inr even ↦ carried (grind (arith, nat_tests, even, most))
  ]

-- the sign of a number, and its size, give the number
pub read_back : (v : ℤ) (bits : ℕ) → IsWritten v bits → nat_abs v ≤ 999999999999999 → double_of bits ≡ Num v
read_back (pos k) bits w within =
    let split : Split (pos k) bits = splits (pos k) bits w within in
    let plus : sign_bit (pos k) ≡ 0 = rw (plus_size k) refl in
    read_plus split.exponent split.fraction bits k split.exponent_in split.exponent_from split.fraction_in
    (split.bits_are ∙ ap (λ s. s + (split.exponent * 4503599627370496 + split.fraction)) plus) split.size within
read_back (negsuc k) bits w within =
    let split : Split (negsuc k) bits = splits (negsuc k) bits w within in
    read_minus split.exponent split.fraction bits (suc k) split.exponent_in split.exponent_from split.fraction_in
    split.bits_are split.size within

-- no bits at all are zero
pub nothing_back : double_of 0 ≡ Num (pos 0)
nothing_back = refl
