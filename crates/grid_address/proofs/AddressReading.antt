-- Addresses read byte by byte.
use Rattle.std.specs.Char.{is_ascii_digit, is_ascii_uppercase, to_ascii_uppercase}
use Rattle.std.proofs.Common.{◌≡◌, ℕ, zero, suc, ◌+◌, ◌-◌, ◌*◌, ◌/◌, ◌%◌, ◌≤◌, ◌<◌, true, false, Option, Some, None}
use Rattle.std.proofs.Common.{List, [], ◌∷◌, ◌++◌, length, get_or, map, refl, take, ap, sym, subst, ◌∙◌, arith, ◌⊎◌}
use Rattle.std.proofs.Common.{inl, inr, append_assoc, length-append}
use Rattle.std.specs.Prelude.{◌&&◌, nat_le, nat_lt, fold}
use Rattle.std.specs.List.{list_all}
use Rattle.std.proofs.lemmas.Bool.{and_parts, cases_Bool}
use Rattle.std.proofs.lemmas.Bool.Decides.{nat_tests}
use Rattle.std.proofs.lemmas.List.{append-nil, map-append, take_all, take_more}
use Rattle.std.proofs.lemmas.List.Folds.{list_all-append}
use Rattle.std.proofs.lemmas.List.Sums.{fold-append}
use Rattle.grid_address.proofs.Written.{decimal_digits}
use Rattle.grid_address.specs.declared.reading.Progress.{Progress}
use Rattle.grid_address.specs.declared.reading.Progress.TheVariants.{Nothing, Letter, Column, Row}
use Rattle.grid_address.specs.Address.{address_of, column_name, decimal}
use Rattle.grid_address.specs.Place.{InSheet, Place}
use Rattle.grid_address.specs.Progress.{first_digit, later_digit, next_of, second_letter, whole_cell}
use Rattle.grid_address.specs.inner.Progress.{IsFront, IsRead}
use Rattle.grid_address.specs.Reading.{Begins, IsAddress, SpellsCell, StopsAt}
use Rattle.grid_address.proofs.Decimals.{decimal_more, decimal_one}

-- the bytes are the front of an address
abbrev pub BeginsAddress : List ℕ → Type 0
BeginsAddress = Begins IsAddress

-- what digits stand for
abbrev digit_more : ℕ → ℕ → ℕ
digit_more n b = n * 10 + (b - 48)

grows : (n : ℕ) (ds : List ℕ) → n ≤ fold digit_more n ds
grows n [] = omega arith
grows n (d ∷ ds) = omega (arith, grows (n * 10 + (d - 48)) ds)

-- a row's number: its digits stand for it, and begin with 1 to 9
record IsNumber (n : ℕ) : Type 0 where
  first : ℕ
  rest : List ℕ
  is : decimal n ≡ first ∷ rest
  from : 49 ≤ first
  upto : first ≤ 57
  stands : fold digit_more 0 (decimal n) ≡ n

number_upto : (k n : ℕ) → n ≤ k → 0 < n → IsNumber n
number_upto zero n below more = absurd (omega arith)
number_upto (suc k) n below more = elim (cases_Bool (nat_lt n 10)) [
  | inl one ↦ (let less : n < 10 = grind (arith, nat_tests, one) in
      record {
        first = 48 + n % 10;
        rest = [];
        is = decimal_one n less;
        from = omega arith;
        upto = omega arith;
        stands =
            ap (fold digit_more 0) (decimal_one n less)
            ∙ (let e : 0 * 10 + ((48 + n % 10) - 48) ≡ n = omega arith in e);
      })
  | inr other ↦ (let large : 10 ≤ n = grind (arith, nat_tests, other) in
      let before : IsNumber (n / 10) = number_upto k (n / 10) (omega arith) (omega arith) in
      record {
        first = before.first;
        rest = before.rest ++ (48 + n % 10) ∷ [];
        is = decimal_more n large ∙ ap (λ (l : List ℕ). l ++ (48 + n % 10) ∷ []) before.is;
        from = before.from;
        upto = before.upto;
        stands =
            ap (fold digit_more 0) (decimal_more n large)
            ∙ fold-append digit_more 0 (decimal (n / 10)) ((48 + n % 10) ∷ [])
            ∙ ap (λ m. m * 10 + ((48 + n % 10) - 48)) before.stands
            ∙ (let e : n / 10 * 10 + ((48 + n % 10) - 48) ≡ n = omega arith in e);
      })
]

number : (n : ℕ) → 0 < n → IsNumber n
number n more = number_upto n n (omega arith) more

-- a number whose digits go on with a byte: it is a digit, and the number is as large
goes_far : (m n b : ℕ) (rest : List ℕ) → 0 < n → decimal m ≡ decimal n ++ b ∷ rest → 0 < m
    → (is_ascii_digit b ≡ true) × (n * 10 + (b - 48) ≤ m)
goes_far m n b rest more is large =
    let all : (list_all is_ascii_digit (decimal n) && (is_ascii_digit b && list_all is_ascii_digit rest)) ≡ true =
    sym (list_all-append is_ascii_digit (decimal n) (b ∷ rest)) ∙ ap (list_all is_ascii_digit) (sym is)
    ∙ decimal_digits m in
    let stands : m ≡ fold digit_more (n * 10 + (b - 48)) rest =
    sym (number m large).stands ∙ ap (fold digit_more 0) is ∙ fold-append digit_more 0 (decimal n) (b ∷ rest)
    ∙ ap (λ k. fold digit_more k (b ∷ rest)) (number n more).stands in (
      (and_parts (is_ascii_digit b) (list_all is_ascii_digit rest)
          (and_parts (list_all is_ascii_digit (decimal n)) (is_ascii_digit b && list_all is_ascii_digit rest) all).1).0,
      omega (arith, stands, grows (n * 10 + (b - 48)) rest),
    )

capital_in : (x : ℕ) → is_ascii_uppercase x ≡ true → (65 ≤ x) × (x ≤ 90)
capital_in x h = (grind (arith, nat_tests, h), grind (arith, nat_tests, h))

is_in_capitals : (x : ℕ) → 65 ≤ x → x ≤ 90 → is_ascii_uppercase x ≡ true
is_in_capitals x p q = grind (arith, nat_tests, p, q)

no_capital : (x : ℕ) → x ≤ 57 → is_ascii_uppercase x ≡ false
no_capital x p = grind (arith, nat_tests, p)

digit_in : (x : ℕ) → is_ascii_digit x ≡ true → (48 ≤ x) × (x ≤ 57)
digit_in x h = (grind (arith, nat_tests, h), grind (arith, nat_tests, h))

digit_folded : (b : ℕ) → b ≤ 57 → to_ascii_uppercase b ≡ b
digit_folded b h = grind (arith, nat_tests, h)

unfolded : (b : ℕ) → to_ascii_uppercase b ≤ 57 → b ≡ to_ascii_uppercase b
unfolded b h = grind (arith, nat_tests, h)

from_some : {X : Type 0} (P : X → Type 0) (x t : X) → Some x ≡ Some t → P x → P t
from_some P x t e here = subst P (let same : x ≡ t = cc in same) here

-- something is not nothing
pub some_is_not : {X : Type 0} (x : X) → ◌≡◌ {A = Option X} (Some x) None → ⊥
some_is_not x e = absurd cc

-- the first 26 columns have one letter
pub one_letter : (c : ℕ) → c < 26 → column_name c ≡ (65 + c) ∷ []
one_letter c h = (let test : nat_lt c 26 ≡ true = grind (arith, nat_tests, h) in rw test refl)

-- the others have two
pub two_letters : (c : ℕ) → 26 ≤ c → column_name c ≡ (64 + c / 26) ∷ (65 + c % 26) ∷ []
two_letters c h = (let test : nat_lt c 26 ≡ false = grind (arith, nat_tests, h) in rw test refl)

more_read : (xs : List ℕ) (b : ℕ)
    → map to_ascii_uppercase (xs ++ b ∷ []) ≡ map to_ascii_uppercase xs ++ to_ascii_uppercase b ∷ []
more_read xs b = map-append to_ascii_uppercase xs (b ∷ [])

-- a column and one digit
first_row : (c b : ℕ) (xs : List ℕ) (t : Progress) → c < 256 → map to_ascii_uppercase xs ≡ column_name c
    → first_digit c b ≡ Some t → IsRead t (xs ++ b ∷ [])
first_row c b xs t below is e = elim (cases_Bool (nat_le 49 b && nat_le b 57)) [
  | inl digit ↦ (let from : 49 ≤ b = grind (arith, nat_tests, digit) in
      let upto : b ≤ 57 = grind (arith, nat_tests, digit) in
      let same : Some (Row c (b - 48)) ≡ Some t = rw digit at e in
      let one : decimal (b - 48) ≡ to_ascii_uppercase b ∷ [] =
      decimal_one (b - 48) (omega arith)
      ∙ ap (λ x. x ∷ []) ((let e' : 48 + (b - 48) % 10 ≡ b = omega arith in e') ∙ sym (digit_folded b upto)) in
      from_some (λ s. IsRead s (xs ++ b ∷ [])) (Row c (b - 48)) t same (
        more_read xs b ∙ ap (λ (l : List ℕ). l ++ to_ascii_uppercase b ∷ []) is
            ∙ ap (λ (l : List ℕ). column_name c ++ l) (sym one),
        below,
        omega arith,
        omega arith,
      ))
  | inr other ↦ (let none : None ≡ Some t = rw other at e in absurd (some_is_not t (sym none)))
]

second_column : (c x : ℕ) (t : Progress) (ys : List ℕ) → c < 26 → 65 ≤ x → x ≤ 90
    → map to_ascii_uppercase ys ≡ (65 + c) ∷ x ∷ [] → second_letter c x ≡ Some t → IsRead t ys
second_column c x t ys below p q is e =
    let col : ℕ = (c + 1) * 26 + (x - 65) in
    elim (cases_Bool (nat_lt col 256)) [
      | inl in_sheet ↦ (let less : col < 256 = grind (arith, nat_tests, in_sheet) in
          let same : Some (Column col) ≡ Some t = rw in_sheet at e in
          let letters : (65 + c) ∷ x ∷ [] ≡ (64 + col / 26) ∷ (65 + col % 26) ∷ [] =
          ap (λ a. a ∷ x ∷ []) (let first : 65 + c ≡ 64 + col / 26 = omega arith in first)
          ∙ ap (λ a. (64 + col / 26) ∷ a ∷ []) (let second : x ≡ 65 + col % 26 = omega arith in second) in
          from_some (λ s. IsRead s ys) (Column col) t same (is ∙ letters, omega arith, less))
      | inr past ↦ (let none : None ≡ Some t = rw past at e in absurd (some_is_not t (sym none)))
    ]

later_row : (c n b : ℕ) (xs : List ℕ) (t : Progress) → c < 256 → 1 ≤ n → 48 ≤ b → b ≤ 57
    → map to_ascii_uppercase xs ≡ column_name c ++ decimal n → later_digit c (n * 10 + (b - 48)) ≡ Some t
    → IsRead t (xs ++ b ∷ [])
later_row c n b xs t below from p q is e =
    let m : ℕ = n * 10 + (b - 48) in
    elim (cases_Bool (nat_le m 8192)) [
      | inl in_sheet ↦ (let most : m ≤ 8192 = grind (arith, nat_tests, in_sheet) in
          let same : Some (Row c m) ≡ Some t = rw in_sheet at e in
          let digits : decimal m ≡ decimal n ++ to_ascii_uppercase b ∷ [] =
          decimal_more m (omega arith)
          ∙ ap (λ k. decimal k ++ (48 + m % 10) ∷ []) (let front : m / 10 ≡ n = omega arith in front)
          ∙ ap (λ k. decimal n ++ k ∷ [])
          ((let last : 48 + m % 10 ≡ b = omega arith in last) ∙ sym (digit_folded b q)) in
          from_some (λ s. IsRead s (xs ++ b ∷ [])) (Row c m) t same (
            more_read xs b ∙ ap (λ (l : List ℕ). l ++ to_ascii_uppercase b ∷ []) is
                ∙ append_assoc (column_name c) (decimal n) (to_ascii_uppercase b ∷ [])
                ∙ ap (λ (l : List ℕ). column_name c ++ l) (sym digits),
            below,
            omega arith,
            most,
          ))
      | inr past ↦ (let none : None ≡ Some t = rw past at e in absurd (some_is_not t (sym none)))
    ]

-- a byte that goes on with what is read keeps it read
pub goes_on : (s t : Progress) (b : ℕ) (xs : List ℕ) → next_of s b ≡ Some t → IsRead s xs → IsRead t (xs ++ b ∷ [])
goes_on Nothing t b xs e is = elim (cases_Bool (is_ascii_uppercase (to_ascii_uppercase b))) [
  | inl capital ↦ (let in_capitals = capital_in (to_ascii_uppercase b) capital in
      let same : Some (Letter (to_ascii_uppercase b - 65)) ≡ Some t = rw capital at e in
      from_some (λ s. IsRead s (xs ++ b ∷ [])) (Letter (to_ascii_uppercase b - 65)) t same (
        more_read xs b ∙ ap (λ (l : List ℕ). map to_ascii_uppercase l ++ to_ascii_uppercase b ∷ []) is
            ∙ ap (λ x. x ∷ []) (let e' : to_ascii_uppercase b ≡ 65 + (to_ascii_uppercase b - 65) =
            omega (arith, in_capitals.0) in e'),
        omega (arith, in_capitals.1),
      ))
  | inr other ↦ (let none : None ≡ Some t = rw other at e in absurd (some_is_not t (sym none)))
]
goes_on (Letter c) t b xs e is = elim (cases_Bool (is_ascii_uppercase (to_ascii_uppercase b))) [
  | inl capital ↦ (let in_capitals = capital_in (to_ascii_uppercase b) capital in
      let same : second_letter c (to_ascii_uppercase b) ≡ Some t = rw capital at e in
      second_column c (to_ascii_uppercase b) t (xs ++ b ∷ []) is.1 in_capitals.0 in_capitals.1
      (more_read xs b ∙ ap (λ (l : List ℕ). l ++ to_ascii_uppercase b ∷ []) is.0) same)
  | inr other ↦ (let same : first_digit c b ≡ Some t = rw other at e in
      first_row c b xs t (omega (arith, is.1)) (is.0 ∙ sym (one_letter c is.1)) same)
]
goes_on (Column c) t b xs e is = first_row c b xs t (is.2) (is.0 ∙ sym (two_letters c is.1)) e
goes_on (Row c n) t b xs e is = elim (cases_Bool (is_ascii_digit b)) [
  | inl digit ↦ (let in_digits = digit_in b digit in
      let same : later_digit c (n * 10 + (b - 48)) ≡ Some t = rw digit at e in
      later_row c n b xs t is.1 is.2 in_digits.0 in_digits.1 is.0 same)
  | inr other ↦ (let none : None ≡ Some t = rw other at e in absurd (some_is_not t (sym none)))
]

-- an address begins with its column and goes on with its row's number
pub spelled : (c n : ℕ) (xs : List ℕ) → IsRead (Row c n) xs → SpellsCell xs (record { row = n - 1; col = c })
spelled c n xs is = (
  is.0 ∙ ap (λ k. column_name c ++ decimal k) (let e : n ≡ n - 1 + 1 = omega (arith, is.2) in e),
  (omega (arith, is.2), is.1),
)

row_one : (c : ℕ) (xs : List ℕ) → c < 256 → map to_ascii_uppercase xs ≡ column_name c → BeginsAddress xs
row_one c xs below is = (
  49 ∷ [],
  (
    record { row = 0; col = c },
    (more_read xs 49 ∙ ap (λ (l : List ℕ). l ++ 49 ∷ []) is, (omega arith, below)),
  ),
)

-- what is read is the front of an address
pub begun : (s : Progress) (xs : List ℕ) → IsRead s xs → BeginsAddress xs
begun Nothing xs is = (
  65 ∷ 49 ∷ [],
  (
    record { row = 0; col = 0 },
    (ap (λ (l : List ℕ). map to_ascii_uppercase (l ++ 65 ∷ 49 ∷ [])) is, (omega arith, omega arith)),
  ),
)
begun (Letter c) xs is = row_one c xs (omega (arith, is.1)) (is.0 ∙ sym (one_letter c is.1))
begun (Column c) xs is = row_one c xs is.2 (is.0 ∙ sym (two_letters c is.1))
begun (Row c n) xs is = (
  [],
  (
    record { row = n - 1; col = c },
    subst (λ (l : List ℕ). SpellsCell l (record { row = n - 1; col = c })) (sym (append-nil xs)) (spelled c n xs is),
  ),
)

-- what stands behind the read bytes of an address
record Behind (xs : List ℕ) (b : ℕ) : Type 0 where
  rest : List ℕ
  place : Place
  is : map to_ascii_uppercase xs ++ to_ascii_uppercase b ∷ rest ≡ address_of place
  inside : InSheet place

behind : (xs : List ℕ) (b : ℕ) → BeginsAddress (xs ++ b ∷ []) → Behind xs b
behind xs b (rest, (p, (is, inside))) = record {
  rest = map to_ascii_uppercase rest;
  place = p;
  is =
      sym (ap (map to_ascii_uppercase) (append_assoc xs (b ∷ []) rest) ∙ map-append to_ascii_uppercase xs (b ∷ rest))
      ∙ is;
  inside = inside;
}

-- one letter is not two: the byte behind it is a letter or a first digit
after_one : (c x : ℕ) (rest : List ℕ) (p : Place) → c < 26 → (65 + c) ∷ x ∷ rest ≡ address_of p → InSheet p
    → ((65 ≤ x) × (x ≤ 90) × ((c + 1) * 26 + (x - 65) < 256)) ⊎ ((49 ≤ x) × (x ≤ 57))
after_one c x rest p below is inside = elim (cases_Bool (nat_lt p.col 26)) [
  | inl one ↦ (let less : p.col < 26 = grind (arith, nat_tests, one) in
      let num = number (p.row + 1) (omega arith) in
      let whole : (65 + c) ∷ x ∷ rest ≡ (65 + p.col) ∷ num.first ∷ num.rest =
      is ∙ ap (λ (l : List ℕ). l ++ decimal (p.row + 1)) (one_letter p.col less)
      ∙ ap (λ (l : List ℕ). (65 + p.col) ∷ l) num.is in
      let first : x ≡ num.first = cc in
      inr (omega (arith, first, num.from), omega (arith, first, num.upto)))
  | inr two ↦ (let large : 26 ≤ p.col = grind (arith, nat_tests, two) in
      let whole : (65 + c) ∷ x ∷ rest ≡ (64 + p.col / 26) ∷ (65 + p.col % 26) ∷ decimal (p.row + 1) =
      is ∙ ap (λ (l : List ℕ). l ++ decimal (p.row + 1)) (two_letters p.col large) in
      let first : 65 + c ≡ 64 + p.col / 26 = cc in
      let second : x ≡ 65 + p.col % 26 = cc in
      inl (omega (arith, second), omega (arith, second), omega (arith, first, second, inside.1)))
]

-- a column is its letters: what stands behind it is the row's number
after_column : (c : ℕ) (tail : List ℕ) (x : ℕ) (rest : List ℕ) (p : Place) → c < 256 → tail ≡ x ∷ rest
    → x ≤ 57 ⊎ (26 ≤ c) → column_name c ++ tail ≡ address_of p → InSheet p → tail ≡ decimal (p.row + 1)
after_column c tail x rest p below tail_is apart is inside =
    let num = number (p.row + 1) (omega arith) in
    elim (cases_Bool (nat_lt c 26)) [
      | inl one ↦ (let less : c < 26 = grind (arith, nat_tests, one) in
          elim (cases_Bool (nat_lt p.col 26)) [
            | inl same ↦ (let less' : p.col < 26 = grind (arith, nat_tests, same) in
                let whole : (65 + c) ∷ tail ≡ (65 + p.col) ∷ decimal (p.row + 1) =
                ap (λ (l : List ℕ). l ++ tail) (sym (one_letter c less)) ∙ is
                ∙ ap (λ (l : List ℕ). l ++ decimal (p.row + 1)) (one_letter p.col less') in
                cc)
            | inr two ↦ (let large : 26 ≤ p.col = grind (arith, nat_tests, two) in
                let whole : (65 + c) ∷ x ∷ rest ≡ (64 + p.col / 26) ∷ (65 + p.col % 26) ∷ decimal (p.row + 1) =
                ap (λ (l : List ℕ). (65 + c) ∷ l) (sym tail_is)
                ∙ ap (λ (l : List ℕ). l ++ tail) (sym (one_letter c less)) ∙ is
                ∙ ap (λ (l : List ℕ). l ++ decimal (p.row + 1)) (two_letters p.col large) in
                let second : x ≡ 65 + p.col % 26 = cc in
                elim apart [
                  | inl small ↦ absurd (omega (arith, second, small))
                  | inr wide ↦ absurd (omega (arith, wide, less))
                ])
          ])
      | inr two ↦ (let large : 26 ≤ c = grind (arith, nat_tests, two) in
          elim (cases_Bool (nat_lt p.col 26)) [
            | inl one ↦ (let less : p.col < 26 = grind (arith, nat_tests, one) in
                let whole : (64 + c / 26) ∷ (65 + c % 26) ∷ tail ≡ (65 + p.col) ∷ num.first ∷ num.rest =
                ap (λ (l : List ℕ). l ++ tail) (sym (two_letters c large)) ∙ is
                ∙ ap (λ (l : List ℕ). l ++ decimal (p.row + 1)) (one_letter p.col less)
                ∙ ap (λ (l : List ℕ). (65 + p.col) ∷ l) num.is in
                let second : 65 + c % 26 ≡ num.first = cc in
                absurd (omega (arith, second, num.upto)))
            | inr same ↦ (let large' : 26 ≤ p.col = grind (arith, nat_tests, same) in
                let whole : (64 + c / 26) ∷ (65 + c % 26) ∷ tail
                ≡ (64 + p.col / 26) ∷ (65 + p.col % 26) ∷ decimal (p.row + 1) =
                ap (λ (l : List ℕ). l ++ tail) (sym (two_letters c large)) ∙ is
                ∙ ap (λ (l : List ℕ). l ++ decimal (p.row + 1)) (two_letters p.col large') in
                cc)
          ])
    ]

head_capital : (x : ℕ) (rest : List ℕ) (p : Place) → InSheet p → x ∷ rest ≡ address_of p → is_ascii_uppercase x ≡ true
head_capital x rest p inside is = elim (cases_Bool (nat_lt p.col 26)) [
  | inl one ↦ (let less : p.col < 26 = grind (arith, nat_tests, one) in
      let whole : x ∷ rest ≡ (65 + p.col) ∷ decimal (p.row + 1) =
      is ∙ ap (λ (l : List ℕ). l ++ decimal (p.row + 1)) (one_letter p.col less) in
      let first : x ≡ 65 + p.col = cc in
      is_in_capitals x (omega (arith, first)) (omega (arith, first, less)))
  | inr two ↦ (let large : 26 ≤ p.col = grind (arith, nat_tests, two) in
      let whole : x ∷ rest ≡ (64 + p.col / 26) ∷ (65 + p.col % 26) ∷ decimal (p.row + 1) =
      is ∙ ap (λ (l : List ℕ). l ++ decimal (p.row + 1)) (two_letters p.col large) in
      let first : x ≡ 64 + p.col / 26 = cc in
      is_in_capitals x (omega (arith, first, large)) (omega (arith, first, inside.1)))
]

-- a first digit goes on behind a column
digit_goes_on : (c b : ℕ) → 49 ≤ to_ascii_uppercase b → to_ascii_uppercase b ≤ 57 → first_digit c b ≡ None → ⊥
digit_goes_on c b from upto e =
    let same : b ≡ to_ascii_uppercase b = unfolded b upto in
    let test : (nat_le 49 b && nat_le b 57) ≡ true = grind (arith, nat_tests, same, from, upto) in
    some_is_not (Row c (b - 48)) (rw test at e)

-- with a byte that doesn't go on it no longer is
pub ends : (s : Progress) (b : ℕ) (xs : List ℕ) → next_of s b ≡ None → IsRead s xs → BeginsAddress (xs ++ b ∷ []) → ⊥
ends Nothing b xs e is begins =
    let on : Behind xs b = behind xs b begins in
    let capital : is_ascii_uppercase (to_ascii_uppercase b) ≡ true =
    head_capital (to_ascii_uppercase b) on.rest on.place on.inside
    (ap (λ (l : List ℕ). map to_ascii_uppercase l ++ to_ascii_uppercase b ∷ on.rest) (sym is) ∙ on.is) in
    some_is_not (Letter (to_ascii_uppercase b - 65)) (rw capital at e)
ends (Letter c) b xs e is begins =
    let on : Behind xs b = behind xs b begins in
    let whole : (65 + c) ∷ to_ascii_uppercase b ∷ on.rest ≡ address_of on.place =
    ap (λ (l : List ℕ). l ++ to_ascii_uppercase b ∷ on.rest) (sym is.0) ∙ on.is in
    elim (after_one c (to_ascii_uppercase b) on.rest on.place is.1 whole on.inside) [
      | inl letter ↦
          (let capital : is_ascii_uppercase (to_ascii_uppercase b) ≡ true =
          is_in_capitals (to_ascii_uppercase b) letter.0 letter.1 in
          let in_sheet : nat_lt ((c + 1) * 26 + (to_ascii_uppercase b - 65)) 256 ≡ true =
          grind (arith, nat_tests, letter.2) in
          some_is_not (Column ((c + 1) * 26 + (to_ascii_uppercase b - 65))) (rw (capital, in_sheet) at e))
      | inr digit ↦
          (let no : is_ascii_uppercase (to_ascii_uppercase b) ≡ false = no_capital (to_ascii_uppercase b) digit.1 in
          digit_goes_on c b digit.0 digit.1 (rw no at e))
    ]
ends (Column c) b xs e is begins =
    let on : Behind xs b = behind xs b begins in
    let whole : column_name c ++ to_ascii_uppercase b ∷ on.rest ≡ address_of on.place =
    ap (λ (l : List ℕ). l ++ to_ascii_uppercase b ∷ on.rest) (sym (is.0 ∙ sym (two_letters c is.1))) ∙ on.is in
    let tail : to_ascii_uppercase b ∷ on.rest ≡ decimal (on.place.row + 1) =
    after_column c (to_ascii_uppercase b ∷ on.rest) (to_ascii_uppercase b) on.rest on.place is.2 refl (inr is.1) whole
    on.inside in
    let num = number (on.place.row + 1) (omega arith) in
    let both : to_ascii_uppercase b ∷ on.rest ≡ num.first ∷ num.rest = tail ∙ num.is in
    let first : to_ascii_uppercase b ≡ num.first = cc in
    digit_goes_on c b (omega (arith, first, num.from)) (omega (arith, first, num.upto)) e
ends (Row c n) b xs e is begins =
    let on : Behind xs b = behind xs b begins in
    let num = number n is.2 in
    let tail : List ℕ = decimal n ++ to_ascii_uppercase b ∷ on.rest in
    let whole : column_name c ++ tail ≡ address_of on.place =
    sym (append_assoc (column_name c) (decimal n) (to_ascii_uppercase b ∷ on.rest))
    ∙ ap (λ (l : List ℕ). l ++ to_ascii_uppercase b ∷ on.rest) (sym is.0) ∙ on.is in
    let begins_so : tail ≡ num.first ∷ (num.rest ++ to_ascii_uppercase b ∷ on.rest) =
    ap (λ (l : List ℕ). l ++ to_ascii_uppercase b ∷ on.rest) num.is in
    let same : tail ≡ decimal (on.place.row + 1) =
    after_column c tail num.first (num.rest ++ to_ascii_uppercase b ∷ on.rest) on.place is.1 begins_so (inl num.upto)
    whole on.inside in
    let far = goes_far (on.place.row + 1) n (to_ascii_uppercase b) on.rest is.2 (sym same) (omega arith) in
    let upto = digit_in (to_ascii_uppercase b) far.0 in
    let b_is : b ≡ to_ascii_uppercase b = unfolded b upto.1 in
    let digit : is_ascii_digit b ≡ true = ap is_ascii_digit b_is ∙ far.0 in
    let in_sheet : nat_le (n * 10 + (b - 48)) 8192 ≡ true =
    (let most : n * 10 + (b - 48) ≤ 8192 = omega (arith, far.1, b_is, on.inside.0) in grind (arith, nat_tests, most)) in
    some_is_not (Row c (n * 10 + (b - 48))) (rw (digit, in_sheet) at e)

long_address : (p : Place) → 2 ≤ length (address_of p)
long_address p =
    let num = number (p.row + 1) (omega arith) in
    let digits : length (decimal (p.row + 1)) ≡ suc (length num.rest) = ap length num.is in
    elim (cases_Bool (nat_lt p.col 26)) [
      | inl one ↦
          (let less : p.col < 26 = grind (arith, nat_tests, one) in
          omega (
            arith,
            length-append (column_name p.col) (decimal (p.row + 1)),
            ap length (one_letter p.col less),
            digits,
          ))
      | inr two ↦
          (let large : 26 ≤ p.col = grind (arith, nat_tests, two) in
          omega (
            arith,
            length-append (column_name p.col) (decimal (p.row + 1)),
            ap length (two_letters p.col large),
            digits,
          ))
    ]

-- what is no whole cell yet is no address
pub unfinished : (s : Progress) (xs : List ℕ) → whole_cell s ≡ None → IsRead s xs → IsAddress xs → ⊥
unfinished Nothing xs u is (p, (same, inside)) =
    absurd (omega (arith, ap length (sym same ∙ ap (map to_ascii_uppercase) is), long_address p))
unfinished (Letter c) xs u is (p, (same, inside)) = absurd (omega (arith, ap length (sym same ∙ is.0), long_address p))
unfinished (Column c) xs u is (p, (same, inside)) =
    let num = number (p.row + 1) (omega arith) in
    let whole : (64 + c / 26) ∷ (65 + c % 26) ∷ [] ≡ address_of p = sym is.0 ∙ same in
    elim (cases_Bool (nat_lt p.col 26)) [
      | inl one ↦ (let less : p.col < 26 = grind (arith, nat_tests, one) in
          let both : (64 + c / 26) ∷ (65 + c % 26) ∷ [] ≡ (65 + p.col) ∷ num.first ∷ num.rest =
          whole ∙ ap (λ (l : List ℕ). l ++ decimal (p.row + 1)) (one_letter p.col less)
          ∙ ap (λ (l : List ℕ). (65 + p.col) ∷ l) num.is in
          let second : 65 + c % 26 ≡ num.first = cc in
          absurd (omega (arith, second, num.upto)))
      | inr two ↦ (let large : 26 ≤ p.col = grind (arith, nat_tests, two) in
          absurd (omega (
            arith,
            ap length whole,
            length-append (column_name p.col) (decimal (p.row + 1)),
            ap length (two_letters p.col large),
            ap length num.is,
          )))
    ]
unfinished (Row c n) xs u is same = some_is_not (record { row = n - 1; col = c }) u

-- what is a whole cell spells it
pub spells : (s : Progress) (p : Place) (xs : List ℕ) → whole_cell s ≡ Some p → IsRead s xs → SpellsCell xs p
spells Nothing p xs e is = absurd (some_is_not p (sym e))
spells (Letter c) p xs e is = absurd (some_is_not p (sym e))
spells (Column c) p xs e is = absurd (some_is_not p (sym e))
spells (Row c n) p xs e is = from_some (SpellsCell xs) (record { row = n - 1; col = c }) p e (spelled c n xs is)

-- one byte more
pub reads_on : (s t : Progress) (bytes : List ℕ) (at : ℕ) → at < length bytes → IsRead s (take at bytes)
    → next_of s (get_or bytes at 0) ≡ Some t → IsRead t (take (at + 1) bytes)
reads_on s t bytes at inside is e =
    subst (IsRead t) (sym (take_more bytes at 0 inside)) (goes_on s t (get_or bytes at 0) (take at bytes) e is)

-- where the read front ends before the bytes do, the next byte begins no address
pub front_ends : (s : Progress) (bytes : List ℕ) (end : ℕ) → IsFront bytes s end → end < length bytes
    → BeginsAddress (take end bytes ++ get_or bytes end 0 ∷ []) → ⊥
front_ends s bytes end front inside b = ends s (get_or bytes end 0) (take end bytes) (front.ends inside) front.read b

-- a front that is no address
pub no_address : (s : Progress) (bytes : List ℕ) (end : ℕ) → IsFront bytes s end
    → (end ≡ length bytes → whole_cell s ≡ None) → StopsAt IsAddress bytes end
no_address s bytes end front u = record {
  within = front.within;
  begins = begun s (take end bytes) front.read;
  stops = λ inside b. front_ends s bytes end front inside (subst BeginsAddress (take_more bytes end 0 inside) b);
  short =
      λ same address. unfinished s bytes (u same)
      (subst (IsRead s) (take_all end bytes (omega (arith, same))) front.read) address;
}
