-- Numbers that are written without zeros at their end.
use Rattle.std.specs.Char.{is_ascii_digit}
use Rattle.std.proofs.Common.{◌≡◌, ℕ, ◌+◌, ◌-◌, ◌*◌, ◌/◌, ◌^◌, ◌≤◌, ◌<◌, Bool, true, false, Some, List, [], ◌∷◌, ◌++◌}
use Rattle.std.proofs.Common.{length, take, drop, get_or, refl, ap, sym, ◌∙◌, arith, inl, inr, append_assoc}
use Rattle.std.specs.Prelude.{◌==◌, ◌&&◌, nat_le, ℤ, nat_abs}
use Rattle.std.specs.List.{list_all}
use Rattle.std.proofs.lemmas.Bool.{and_parts, cases_Bool, eqb-true}
use Rattle.std.proofs.lemmas.Bool.Decides.{nat_tests}
use Rattle.std.proofs.lemmas.List.{append-nil}
use Rattle.std.proofs.lemmas.Nat.{pow-add}
use Rattle.fixed_value.specs.declared.decimal.Decimal.TheVariants.{Num}
use Rattle.fixed_value.specs.Decimals.{behind_digits, decimal_from, decimal_of, fraction_of, number_of, places_of}
use Rattle.fixed_value.specs.Decimals.{whole_digits}
use Rattle.fixed_value.specs.Numbers.{nearest, signed}
use Rattle.fixed_value.specs.Written.{fixed_digits, minus_sign, pointed, scaled, short, without_last_zeros}
use Rattle.fixed_value.specs.Written.{without_zeros}
use Rattle.fixed_value.proofs.Places.{number_of-append, power_positive, quotient_is}
use Rattle.fixed_value.proofs.Written as long

-- no digit stands first
abbrev pub Stops : List ℕ → Type 0
Stops rest = is_ascii_digit (get_or rest 0 0) ≡ false

digits_stop : (rest : List ℕ) → Stops rest → (whole_digits rest ≡ []) × (behind_digits rest ≡ rest)
digits_stop [] h = (refl, refl)
digits_stop (b ∷ bs) h = (rw h refl, rw h refl)

-- digits, and what stands behind them
pub front_digits : (ds rest : List ℕ) → list_all is_ascii_digit ds ≡ true → Stops rest
    → (whole_digits (ds ++ rest) ≡ ds) × (behind_digits (ds ++ rest) ≡ rest)
front_digits [] rest all h = digits_stop rest h
front_digits (d ∷ ds) rest all h =
    let digit : is_ascii_digit d ≡ true = (and_parts (is_ascii_digit d) (list_all is_ascii_digit ds) all).0 in
    let more = front_digits ds rest (and_parts (is_ascii_digit d) (list_all is_ascii_digit ds) all).1 h in
    (rw digit (ap (λ (l : List ℕ). d ∷ l) more.0), rw digit more.1)

-- what stops behind a point's places stops the number too
pub point_stops : (ds rest : List ℕ) → Stops rest → Stops (pointed ds ++ rest)
point_stops [] rest h = h
point_stops (d ∷ ds) rest h = refl

-- the places behind a point are read back
pub pointed_places : (ds : List ℕ) → list_all is_ascii_digit ds ≡ true → places_of (pointed ds) ≡ Some ds
pointed_places [] all = refl
pointed_places (d ∷ ds) all = rw all refl

read_plain : (minus : Bool) (whole places : List ℕ) → list_all is_ascii_digit whole ≡ true
    → list_all is_ascii_digit places ≡ true →
    decimal_from minus (whole_digits (whole ++ pointed places)) (places_of (behind_digits (whole ++ pointed places)))
    ≡ decimal_from minus whole (Some places)
read_plain minus whole places all later =
    let stops : Stops (pointed places) =
    ap (λ (l : List ℕ). is_ascii_digit (get_or l 0 0)) (sym (append-nil (pointed places)))
    ∙ point_stops places [] refl in
    let front = front_digits whole (pointed places) all stops in
    rw (front.0, front.1, pointed_places places later) refl

-- a sign, digits and places are read as the fraction that they are
pub read_signed : (minus : Bool) (whole places : List ℕ) → 0 < length whole → list_all is_ascii_digit whole ≡ true
    → list_all is_ascii_digit places ≡ true →
    decimal_of (minus_sign minus ++ (whole ++ pointed places)) ≡ fraction_of minus whole places
read_signed true whole places h all later =
    read_plain true whole places all later ∙ long.from_digits true whole places h
read_signed false whole places h all later =
    let bare = long.no_sign whole (pointed places) h all in
    rw (bare.0, bare.1) (read_plain false whole places all later ∙ long.from_digits false whole places h)

only_zeros : (ds : List ℕ) → list_all (λ e. e == 48) ds ≡ true
    → (number_of ds ≡ 0) × (list_all is_ascii_digit ds ≡ true)
only_zeros [] h = (refl, refl)
only_zeros (d ∷ ds) h =
    let nought : d ≡ 48 = eqb-true d 48 (and_parts (d == 48) (list_all (λ e. e == 48) ds) h).0 in
    let more = only_zeros ds (and_parts (d == 48) (list_all (λ e. e == 48) ds) h).1 in
    (rw nought more.0, rw nought more.1)

-- what the zeros at the end stand for
record IsCut (ds : List ℕ) : Type 0 where
  count : ℕ
  long : length (without_last_zeros ds) + count ≡ length ds
  value : (front : List ℕ) → number_of (front ++ without_last_zeros ds) * 10 ^ count ≡ number_of (front ++ ds)
  digits : list_all is_ascii_digit ds ≡ true → list_all is_ascii_digit (without_last_zeros ds) ≡ true

cut : (ds : List ℕ) → IsCut ds
cut [] = record { count = 0; long = refl; value = λ front. omega arith; digits = λ h. h }
cut (d ∷ ds) = elim (cases_Bool (list_all (λ e. e == 48) (d ∷ ds))) [
  | inl zeros ↦ (let none = only_zeros (d ∷ ds) zeros in record {
    count = length (d ∷ ds);
    long = rw zeros (let e : 0 + length (d ∷ ds) ≡ length (d ∷ ds) = omega arith in e);
    value =
        λ front. rw zeros (ap (λ (l : List ℕ). number_of l * 10 ^ length (d ∷ ds)) (append-nil front)
        ∙ omega (arith, number_of-append front (d ∷ ds), none.0));
    digits = λ h. rw zeros refl;
  })
  | inr other ↦ (let more = cut ds in record {
    count = more.count;
    long = rw other (omega (arith, more.long));
    value = λ front. rw other (
        ap (λ (l : List ℕ). number_of l * 10 ^ more.count) (sym (append_assoc front (d ∷ []) (without_last_zeros ds)))
        ∙ more.value (front ++ d ∷ [])
        ∙ ap number_of (append_assoc front (d ∷ []) ds));
    digits =
        λ h. rw other (long_digits d ds (and_parts (is_ascii_digit d) (list_all is_ascii_digit ds) h).0
        (more.digits (and_parts (is_ascii_digit d) (list_all is_ascii_digit ds) h).1));
  })
]
  where
    long_digits : (d : ℕ) (ds : List ℕ) → is_ascii_digit d ≡ true
        → list_all is_ascii_digit (without_last_zeros ds) ≡ true
        → (is_ascii_digit d && list_all is_ascii_digit (without_last_zeros ds)) ≡ true
    long_digits d ds p q = rw (p, q) refl

-- a factor of both sides
same_factor : (x y c : ℕ) → 0 < c → x * c ≡ y * c → x ≡ y
same_factor x y c more same =
    sym (quotient_is c x (x * c) more (omega arith) (omega (arith, more))) ∙ ap (λ n. n / c) same
    ∙ quotient_is c y (y * c) more (omega arith) (omega (arith, more))

abbrev digits : ℤ → ℕ → List ℕ
digits v places = fixed_digits (10 + places) (scaled v places)

abbrev behind : ℤ → ℕ → List ℕ
behind v places = drop 10 (digits v places)

-- the digits before the point, and those behind it
abbrev pub whole : ℤ → ℕ → List ℕ
whole v places = without_zeros (take 10 (digits v places))

-- the digits behind the point, without last zeros
abbrev pub shown : ℤ → ℕ → List ℕ
shown v places = without_last_zeros (behind v places)

module _ (v : ℤ) (places : ℕ) (within : nat_abs v ≤ 999999999999999) (enough : 6 ≤ places) where
  abbrev unit : ℕ
  unit = 10 ^ (places - 6)

  cut_off : IsCut (behind v places)
  cut_off = cut (behind v places)

  both : (list_all is_ascii_digit (take 10 (digits v places)) && list_all is_ascii_digit (behind v places)) ≡ true
  both = long.both v places within enough

  -- a number has a digit before its point
  pub some : 0 < length (whole v places)
  some = long.stripped_stays (take 10 (digits v places)) (omega (arith, long.front_long v places within enough))

  -- these are digits
  pub all_whole : list_all is_ascii_digit (whole v places) ≡ true
  all_whole = long.all_stripped (take 10 (digits v places)) (and_parts _ _ both).0

  -- so are those behind the point
  pub all_shown : list_all is_ascii_digit (shown v places) ≡ true
  all_shown = cut_off.digits (and_parts _ _ both).1

  size : nearest (number_of ((whole v places) ++ (shown v places)) * 1000000) (10 ^ length (shown v places)) ≡ nat_abs v
  size =
      let raised : number_of ((whole v places) ++ (shown v places)) * 10 ^ cut_off.count ≡ nat_abs v * unit =
      cut_off.value (whole v places) ∙ long.number v places within enough in
      let power : 10 ^ length (shown v places) * 10 ^ cut_off.count ≡ unit * 1000000 =
      sym (pow-add 10 (length (shown v places)) cut_off.count)
      ∙ ap (λ n. 10 ^ n) (cut_off.long ∙ long.long v places within enough) ∙ long.power_splits v places within enough in
      let same : number_of ((whole v places) ++ (shown v places)) * 1000000 * 10 ^ cut_off.count
      ≡ nat_abs v * 10 ^ length (shown v places) * 10 ^ cut_off.count =
      (let e : number_of ((whole v places) ++ (shown v places)) * 1000000 * 10 ^ cut_off.count
      ≡ number_of ((whole v places) ++ (shown v places)) * 10 ^ cut_off.count * 1000000 = omega arith in
      e) ∙ ap (λ n. n * 1000000) raised
      ∙ (let e : nat_abs v * unit * 1000000 ≡ nat_abs v * (unit * 1000000) = omega arith in e)
      ∙ ap (λ n. nat_abs v * n) (sym power)
      ∙ (let e : nat_abs v * (10 ^ length (shown v places) * 10 ^ cut_off.count)
      ≡ nat_abs v * 10 ^ length (shown v places) * 10 ^ cut_off.count = omega arith in e) in
      ap (λ n. nearest n (10 ^ length (shown v places)))
      (same_factor (number_of ((whole v places) ++ (shown v places)) * 1000000)
      (nat_abs v * 10 ^ length (shown v places)) (10 ^ cut_off.count) (power_positive cut_off.count) same)
      ∙ long.nearest_exact (nat_abs v) (10 ^ length (shown v places)) (power_positive (length (shown v places)))

  -- the short text of a number is read back as it
  pub read_back : decimal_of (short v places) ≡ Num v
  read_back =
      let minus : Bool = long.sign_with v (scaled v places) in
      let value : fraction_of minus (whole v places) (shown v places) ≡ Num (signed minus (nat_abs v)) =
      (let test : nat_le (nat_abs v) 999999999999999 ≡ true = grind (arith, nat_tests, within) in
      rw (size, test) refl) in
      read_signed minus (whole v places) (shown v places) some all_whole all_shown ∙ value
      ∙ ap (λ z. Num z) (long.signed_back v (scaled v places) unit (power_positive (places - 6))
      (long.exact v places within enough))
