-- Six places tell all of a number; past these there are zeros.
use Rattle.std.specs.Int.RustNames.{int_lt}
use Rattle.std.proofs.Common.{◌≡◌, ℕ, zero, suc, ◌+◌, ◌-◌, ◌*◌, ◌/◌, ◌^◌, ◌≤◌, ◌<◌, Bool, true, false, Some, None, List}
use Rattle.std.proofs.Common.{[], ◌∷◌, ◌++◌, length, take, drop, replicate, min, refl, sym, ap, ◌∙◌, arith, inl, inr}
use Rattle.std.proofs.Common.{append_assoc, length-append}
use Rattle.std.specs.Prelude.{◌==◌, ◌&&◌, not, nat_le, ℤ, pos, nat_abs, if◌then◌else◌}
use Rattle.std.proofs.lemmas.Bool.{cases_Bool, eqb-true}
use Rattle.std.proofs.lemmas.List.{append-nil}
use Rattle.std.proofs.lemmas.Bool.Decides.{nat_tests}
use Rattle.std.proofs.Math.Nat.{div-div-eq-div-mul, mul-le-mul_right}
use Rattle.std.proofs.lemmas.Nat.{pow-add}
use Rattle.fixed_value.specs.Written.{fixed_digits, hundredfold, minus_sign, pointed, scaled, short, without_last_zeros}
use Rattle.fixed_value.specs.Written.{without_zeros, written}
use Rattle.fixed_value.proofs.LastDigits.{front_part, last_part}
use Rattle.fixed_value.proofs.LastZeros.{zero_dropped}
use Rattle.fixed_value.proofs.Places.{power_positive}
use Rattle.fixed_value.proofs.Written.{exact, fixed_digits_length}

past_sixth : (v : ℤ) (z : ℕ) → nat_abs v ≤ 999999999999999 → scaled v (6 + z) ≡ nat_abs v * 10 ^ z
past_sixth v z within =
    (let same : 6 + z - 6 ≡ z = omega arith in exact v (6 + z) within (omega arith) ∙ ap (λ k. nat_abs v * 10 ^ k) same)

-- with six places a number is its size in millionths
pub sixth : (v : ℤ) → nat_abs v ≤ 999999999999999 → scaled v 6 ≡ nat_abs v
sixth v within = past_sixth v 0 within ∙ (omega arith)

-- the places that are kept, and how many zeros stand behind them
pub raised_kept : (v : ℤ) (places kept : ℕ) → nat_abs v ≤ 999999999999999 → kept ≡ min places 6
    → scaled v places ≡ scaled v kept * 10 ^ (places - kept)
raised_kept v places kept within is = elim (cases_Bool (nat_le places 6)) [
  | inl few ↦
      (let same : kept ≡ places = grind (arith, nat_tests, is, few) in
      let none : places - kept ≡ 0 = omega (arith, same) in
      ap (scaled v) (sym same) ∙ (let e : scaled v kept ≡ scaled v kept * 10 ^ 0 = omega arith in e)
      ∙ ap (λ k. scaled v kept * 10 ^ k) (sym none))
  | inr many ↦
      (let six : kept ≡ 6 = grind (arith, nat_tests, is, many) in
      let parts : places ≡ 6 + (places - kept) = grind (arith, nat_tests, is, many) in
      ap (scaled v) parts ∙ past_sixth v (places - kept) within
      ∙ ap (λ n. n * 10 ^ (places - kept)) (sym (ap (scaled v) six ∙ sixth v within)))
]

zero_same : (n z : ℕ) → (n == 0) ≡ (n * 10 ^ z == 0)
zero_same n z = elim (cases_Bool (n == 0)) [
  | inl none ↦
      (let nothing : n ≡ 0 = eqb-true _ _ none in rw nothing (let e : 0 * 10 ^ z ≡ 0 = omega arith in rw e refl))
  | inr some ↦
      (let large : 1 ≤ n = grind (arith, nat_tests, some) in
      let larger : 1 * 10 ^ z ≤ n * 10 ^ z = mul-le-mul_right (10 ^ z) large in
      let test : (n * 10 ^ z == 0) ≡ false = grind (arith, nat_tests, larger, power_positive z) in some ∙ sym test)
]

-- what is kept of a number is zero exactly where all of it is
pub zero_kept : (v : ℤ) (places kept n : ℕ) → nat_abs v ≤ 999999999999999 → kept ≡ min places 6 → n ≡ scaled v kept
    → (n == 0) ≡ (scaled v places == 0)
zero_kept v places kept n within is number =
    ap (λ k. k == 0) number ∙ zero_same (scaled v kept) (places - kept)
    ∙ ap (λ k. k == 0) (sym (raised_kept v places kept within is))

-- the parts of a written number, by its kept places
pub front_kept : (a k z all n m : ℕ) → all ≡ k + z → m ≡ n * 10 ^ z
    → take a (fixed_digits (a + all) m) ≡ fixed_digits a (n / 10 ^ k)
front_kept a k z all n m parts is =
    ap (λ l. take a (fixed_digits (a + l) m)) parts ∙ ap (λ l. take a (fixed_digits (a + (k + z)) l)) is
    ∙ front_part a k z n

-- the kept digits, and zeros behind them
pub last_kept : (a k z all n m : ℕ) → all ≡ k + z → m ≡ n * 10 ^ z
    → drop a (fixed_digits (a + all) m) ≡ fixed_digits k n ++ replicate z 48
last_kept a k z all n m parts is =
    ap (λ l. drop a (fixed_digits (a + l) m)) parts ∙ ap (λ l. drop a (fixed_digits (a + (k + z)) l)) is
    ∙ last_part a k z n

-- a power of ten more keeps what is zero, and only that
pub zero_raised : (n z m : ℕ) → m ≡ n * 10 ^ z → (m == 0) ≡ (n == 0)
zero_raised n z m is = ap (λ k. k == 0) is ∙ sym (zero_same n z)

abbrev signed_text : Bool → Bool → List ℕ → List ℕ → List ℕ
signed_text minus none whole places = minus_sign (minus && not none) ++ (without_zeros whole ++ pointed places)

-- the same parts are the same text
pub same_text : (minus minus2 none none2 : Bool) (whole whole2 places places2 : List ℕ) → minus ≡ minus2 → none ≡ none2
    → whole ≡ whole2 → places ≡ places2 → signed_text minus none whole places ≡ signed_text minus2 none2 whole2 places2
same_text minus minus2 none none2 whole whole2 places places2 a b c d =
    ap (λ m. signed_text m none whole places) a ∙ ap (λ n. signed_text minus2 n whole places) b
    ∙ ap (λ (l : List ℕ). signed_text minus2 none2 l places) c
    ∙ ap (λ (l : List ℕ). signed_text minus2 none2 whole2 l) d

-- the number of the kept places with zeros behind is the number as it is written
pub decimal_is : (v : ℤ) (places kept n : ℕ) (minus : Bool) → nat_abs v ≤ 999999999999999 → kept ≡ min places 6
    → n ≡ scaled v kept → minus ≡ int_lt v (pos 0) →
    minus_sign (minus && not (n == 0))
    ++ (without_zeros (fixed_digits 10 (n / 10 ^ kept))
    ++ pointed (fixed_digits kept n ++ replicate (places - kept) 48)) ≡ written v places
decimal_is v places kept n minus within is number sign =
    let parts : places ≡ kept + (places - kept) = omega (arith, is) in
    let value : scaled v places ≡ n * 10 ^ (places - kept) =
    raised_kept v places kept within is ∙ ap (λ k. k * 10 ^ (places - kept)) (sym number) in
    same_text minus (int_lt v (pos 0)) (n == 0) (scaled v places == 0) (fixed_digits 10 (n / 10 ^ kept))
    (take 10 (fixed_digits (10 + places) (scaled v places))) (fixed_digits kept n ++ replicate (places - kept) 48)
    (drop 10 (fixed_digits (10 + places) (scaled v places)))
    sign (sym (zero_raised n (places - kept) (scaled v places) value))
    (sym (front_kept 10 kept (places - kept) places n (scaled v places) parts value))
    (sym (last_kept 10 kept (places - kept) places n (scaled v places) parts value))

-- zeros behind a text are dropped with its last zeros
pub zeros_dropped : (xs : List ℕ) (z : ℕ) → without_last_zeros (xs ++ replicate z 48) ≡ without_last_zeros xs
zeros_dropped xs zero = ap without_last_zeros (append-nil xs)
zeros_dropped xs (suc z) =
    ap without_last_zeros (sym (append_assoc xs (48 ∷ []) (replicate z 48))) ∙ zeros_dropped (xs ++ 48 ∷ []) z
    ∙ zero_dropped xs

-- the digits without last zeros are the short text
pub short_is : (v : ℤ) (places kept n left rest : ℕ) (minus : Bool) → nat_abs v ≤ 999999999999999 → kept ≡ min places 6
    → n ≡ scaled v kept → minus ≡ int_lt v (pos 0) →
    fixed_digits left rest ≡ without_last_zeros (fixed_digits kept n) → rest / 10 ^ left ≡ n / 10 ^ kept
    → (rest == 0) ≡ (n == 0) →
    minus_sign (minus && not (rest == 0))
    ++ (without_zeros (fixed_digits 10 (rest / 10 ^ left)) ++ pointed (fixed_digits left rest ++ replicate 0 48))
    ≡ short v places
short_is v places kept n left rest minus within is number sign digits whole none =
    let parts : places ≡ kept + (places - kept) = omega (arith, is) in
    let value : scaled v places ≡ n * 10 ^ (places - kept) =
    raised_kept v places kept within is ∙ ap (λ k. k * 10 ^ (places - kept)) (sym number) in
    let behind : without_last_zeros (drop 10 (fixed_digits (10 + places) (scaled v places)))
    ≡ fixed_digits left rest ++ [] =
    ap without_last_zeros (last_kept 10 kept (places - kept) places n (scaled v places) parts value)
    ∙ zeros_dropped (fixed_digits kept n) (places - kept) ∙ sym digits ∙ sym (append-nil (fixed_digits left rest)) in
    same_text minus (int_lt v (pos 0)) (rest == 0) (scaled v places == 0) (fixed_digits 10 (rest / 10 ^ left))
    (take 10 (fixed_digits (10 + places) (scaled v places))) (fixed_digits left rest ++ [])
    (without_last_zeros (drop 10 (fixed_digits (10 + places) (scaled v places))))
    sign (none ∙ sym (zero_raised n (places - kept) (scaled v places) value))
    (ap (fixed_digits 10) whole ∙ sym (front_kept 10 kept (places - kept) places n (scaled v places) parts value))
    (sym behind)

-- the kept places two further on, with zeros behind, are the hundredfold
pub hundredfold_is : (v : ℤ) (places kept n : ℕ) (minus : Bool) → nat_abs v ≤ 999999999999999 → kept ≡ min places 4
    → n ≡ scaled v (kept + 2) → minus ≡ int_lt v (pos 0) →
    minus_sign (minus && not (n == 0))
    ++ (without_zeros (fixed_digits 12 (n / 10 ^ kept))
    ++ pointed (fixed_digits kept n ++ replicate (places - kept) 48)) ≡ hundredfold v places
hundredfold_is v places kept n minus within is number sign =
    let parts : places ≡ kept + (places - kept) = omega (arith, is) in
    let both : kept + 2 ≡ min (places + 2) 6 = omega (arith, is) in
    let behind : places + 2 - (kept + 2) ≡ places - kept = omega arith in
    let value : scaled v (places + 2) ≡ n * 10 ^ (places - kept) =
    raised_kept v (places + 2) (kept + 2) within both ∙ ap (λ k. scaled v (kept + 2) * 10 ^ k) behind
    ∙ ap (λ k. k * 10 ^ (places - kept)) (sym number) in
    same_text minus (int_lt v (pos 0)) (n == 0) (scaled v (places + 2) == 0) (fixed_digits 12 (n / 10 ^ kept))
    (take 12 (fixed_digits (12 + places) (scaled v (places + 2))))
    (fixed_digits kept n ++ replicate (places - kept) 48) (drop 12 (fixed_digits (12 + places) (scaled v (places + 2))))
    sign (sym (zero_raised n (places - kept) (scaled v (places + 2)) value))
    (sym (front_kept 12 kept (places - kept) places n (scaled v (places + 2)) parts value))
    (sym (last_kept 12 kept (places - kept) places n (scaled v (places + 2)) parts value))

-- twelve digits hold a hundred times a number
pub hundredfold_below : (n k : ℕ) → n / 10 ^ (k + 2) ≤ 1000000000 → n / 10 ^ k < 1000000000000
hundredfold_below n k most =
    let power : 10 ^ (k + 2) ≡ 10 ^ k * 100 = pow-add 10 k 2 in
    let twice : n / 10 ^ k / 100 ≡ n / 10 ^ (k + 2) = div-div-eq-div-mul n (10 ^ k) 100 ∙ ap (λ m. n / m) (sym power) in
    omega (arith, twice, most)

-- how long a written number is
pub pointed_len : (ds : List ℕ) → 0 < length ds → length (pointed ds) ≡ 1 + length ds
pointed_len [] some = absurd (omega (arith, some))
pointed_len (d ∷ ds) some = omega arith

text_len : (minus none : Bool) (whole places : List ℕ)
    → length (signed_text minus none whole places)
    ≡ length (minus_sign (minus && not none)) + (length (without_zeros whole) + length (pointed places))
text_len minus none whole places =
    length-append (minus_sign (minus && not none)) (without_zeros whole ++ pointed places)
    ∙ ap (λ k. length (minus_sign (minus && not none)) + k) (length-append (without_zeros whole) (pointed places))

parts_len : (v : ℤ) (places n : ℕ) → n ≡ scaled v places
    → length (written v places)
    ≡ length (minus_sign (int_lt v (pos 0) && not (n == 0)))
    + (length (without_zeros (fixed_digits 10 (n / 10 ^ places))) + length (pointed (fixed_digits places n)))
parts_len v places n number =
    let all : places ≡ places + 0 = omega arith in
    let value : scaled v places ≡ n * 10 ^ 0 = omega (arith, number) in
    let front = front_kept 10 places 0 places n (scaled v places) all value in
    let last : drop 10 (fixed_digits (10 + places) (scaled v places)) ≡ fixed_digits places n =
    last_kept 10 places 0 places n (scaled v places) all value ∙ append-nil (fixed_digits places n) in
    let text =
    same_text (int_lt v (pos 0)) (int_lt v (pos 0)) (n == 0) (scaled v places == 0) (fixed_digits 10 (n / 10 ^ places))
    (take 10 (fixed_digits (10 + places) (scaled v places))) (fixed_digits places n)
    (drop 10 (fixed_digits (10 + places) (scaled v places)))
    refl (ap (λ k. k == 0) number) (sym front) (sym last) in
    sym (ap length text) ∙ text_len (int_lt v (pos 0)) (n == 0) (fixed_digits 10 (n / 10 ^ places))
    (fixed_digits places n)

-- how long a number with places is, by its parts
pub len_with_point : (v : ℤ) (places n sign whole : ℕ) → n ≡ scaled v places → 0 < places
    → sign ≡ length (minus_sign (int_lt v (pos 0) && not (n == 0)))
    → whole ≡ length (without_zeros (fixed_digits 10 (n / 10 ^ places))) →
    sign + whole + 1 + places ≡ length (written v places)
len_with_point v places n sign whole number some a b =
    let point : length (pointed (fixed_digits places n)) ≡ 1 + places =
    pointed_len (fixed_digits places n) (omega (arith, some, fixed_digits_length places n))
    ∙ ap (λ k. 1 + k) (fixed_digits_length places n) in
    omega (arith, parts_len v places n number, point, a, b)

-- how long a text is whose last zeros were left out, and how long it would be with them
pub len_of_short : (v : ℤ) (left rest : ℕ) (minus : Bool) (text : List ℕ) → minus ≡ int_lt v (pos 0)
    → text ≡ minus_sign (minus && not (rest == 0))
    ++ (without_zeros (fixed_digits 10 (rest / 10 ^ left)) ++ pointed (fixed_digits left rest ++ replicate 0 48)) →
    length text ≡ length (minus_sign (int_lt v (pos 0) && not (rest == 0)))
    + (length (without_zeros (fixed_digits 10 (rest / 10 ^ left))) + length (pointed (fixed_digits left rest)))
len_of_short v left rest minus text sign is =
    ap length is ∙ text_len minus (rest == 0) (fixed_digits 10 (rest / 10 ^ left))
    (fixed_digits left rest ++ replicate 0 48)
    ∙ ap (λ m. length (minus_sign (m && not (rest == 0)))
    + (length (without_zeros (fixed_digits 10 (rest / 10 ^ left)))
    + length (pointed (fixed_digits left rest ++ replicate 0 48)))) sign
    ∙ ap (λ (l : List ℕ). length (minus_sign (int_lt v (pos 0) && not (rest == 0)))
    + (length (without_zeros (fixed_digits 10 (rest / 10 ^ left))) + length (pointed l)))
    (append-nil (fixed_digits left rest))

-- the zeros that a short text leaves out are what it lacks of the whole length
pub len_with_zeros : (v : ℤ) (places n left rest : ℕ) (minus : Bool) (text : List ℕ) → n ≡ scaled v places
    → minus ≡ int_lt v (pos 0) → rest / 10 ^ left ≡ n / 10 ^ places → (rest == 0) ≡ (n == 0) →
    text ≡ minus_sign (minus && not (rest == 0))
    ++ (without_zeros (fixed_digits 10 (rest / 10 ^ left)) ++ pointed (fixed_digits left rest ++ replicate 0 48)) →
    length (written v places) + length (pointed (fixed_digits left rest))
    ≡ length text + length (pointed (fixed_digits places n))
len_with_zeros v places n left rest minus text number sign whole none is =
    let signs : length (minus_sign (int_lt v (pos 0) && not (rest == 0)))
    ≡ length (minus_sign (int_lt v (pos 0) && not (n == 0))) =
    ap (λ k. length (minus_sign (int_lt v (pos 0) && not k))) none in
    let wholes : length (without_zeros (fixed_digits 10 (rest / 10 ^ left)))
    ≡ length (without_zeros (fixed_digits 10 (n / 10 ^ places))) =
    ap (λ k. length (without_zeros (fixed_digits 10 k))) whole in
    omega (arith, len_of_short v left rest minus text sign is, parts_len v places n number, signs, wholes)

-- a text where there is room for it, and none where there isn't
pub room_for : (len room : ℕ) (text wanted : List ℕ) → len ≤ room → text ≡ wanted
    → Some text ≡ (if nat_le len room then Some wanted else None)
room_for len room text wanted fits is =
    (let test : nat_le len room ≡ true = grind (arith, nat_tests, fits) in
    ap (λ (l : List ℕ). Some l) is ∙ rw test refl)

-- a text that is longer than the room isn't written
pub no_room_for : (len room : ℕ) (wanted : List ℕ) → room < len → None ≡ (if nat_le len room then Some wanted else None)
no_room_for len room wanted past = (let test : nat_le len room ≡ false = grind (arith, nat_tests, past) in rw test refl)
