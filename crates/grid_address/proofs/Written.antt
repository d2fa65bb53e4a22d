-- An address that is written is read.
use Rattle.std.specs.Char.{is_ascii_digit, is_ascii_uppercase, to_ascii_uppercase}
use Rattle.std.proofs.Common.{◌≡◌, ℕ, zero, suc, ◌+◌, ◌-◌, ◌*◌, ◌/◌, ◌%◌, ◌≤◌, ◌<◌, true, false, Option, Some, List, []}
use Rattle.std.proofs.Common.{◌∷◌, ◌++◌, length, refl, ap, ◌∙◌, arith, inl, inr}
use Rattle.std.specs.Prelude.{fold, nat_lt, nat_le, ◌&&◌}
use Rattle.std.specs.List.{list_all}
use Rattle.std.proofs.lemmas.Bool.{cases_Bool}
use Rattle.std.proofs.lemmas.Bool.Decides.{nat_tests}
use Rattle.std.proofs.lemmas.List.Folds.{list_all-append}
use Rattle.grid_address.specs.declared.reading.Progress.{Progress}
use Rattle.grid_address.specs.declared.reading.Progress.TheVariants.{Nothing, Letter, Column, Row}
use Rattle.grid_address.specs.Address.{column_name, decimal}
use Rattle.grid_address.specs.Place.{InSheet, Place}
use Rattle.grid_address.specs.Progress.{address_in, end_of, first_digit, next_of, step_on}
use Rattle.grid_address.proofs.Decimals.{decimal_more, decimal_one, length-decimal_more}

fold_append : (s : Option Progress) (xs ys : List ℕ) → fold step_on s (xs ++ ys) ≡ fold step_on (fold step_on s xs) ys
fold_append s [] ys = refl
fold_append s (x ∷ xs) ys = fold_append (step_on s x) xs ys

-- the digits of a row's number go on from here
abbrev RowFollows : Progress → ℕ → Type 0
RowFollows s c = (b : ℕ) → is_ascii_digit b ≡ true → next_of s b ≡ first_digit c b

first : (c n : ℕ) → 1 ≤ n → n < 10 → first_digit c (48 + n % 10) ≡ Some (Row c n)
first c n low high =
    let digit : (nat_le 49 (48 + n % 10) && nat_le (48 + n % 10) 57) ≡ true = grind (arith, nat_tests) in
    rw digit (ap (λ k. Some (Row c k)) (let e : 48 + n % 10 - 48 ≡ n = omega arith in e))

digit_byte : (n : ℕ) → is_ascii_digit (48 + n % 10) ≡ true
digit_byte n = grind (arith, nat_tests)

later : (c n : ℕ) → n ≤ 8192 → next_of (Row c (n / 10)) (48 + n % 10) ≡ Some (Row c n)
later c n high =
    let digit : is_ascii_digit (48 + n % 10) ≡ true = digit_byte n in
    let whole : n / 10 * 10 + (48 + n % 10 - 48) ≡ n = omega arith in
    let small : nat_le n 8192 ≡ true = grind (arith, nat_tests, high) in
    rw (digit, whole, small) refl

row_read : (fuel n c : ℕ) (s : Progress) → n ≤ fuel → 1 ≤ n → n ≤ 8192 → RowFollows s c
    → fold step_on (Some s) (decimal n) ≡ Some (Row c n)
row_read zero n c s most low high follows = absurd (omega arith)
row_read (suc fuel) n c s most low high follows = elim (cases_Bool (nat_lt n 10)) [
  | inl small ↦ (let less : n < 10 = grind (arith, nat_tests, small) in
      ap (fold step_on (Some s)) (decimal_one n less) ∙ follows (48 + n % 10) (digit_byte n) ∙ first c n low less)
  | inr large ↦ (let more : 10 ≤ n = grind (arith, nat_tests, large) in
      ap (fold step_on (Some s)) (decimal_more n more) ∙ fold_append (Some s) (decimal (n / 10)) ((48 + n % 10) ∷ [])
      ∙ ap (λ (o : Option Progress). fold step_on o ((48 + n % 10) ∷ []))
      (row_read fuel (n / 10) c s (omega arith) (omega arith) (omega arith) follows)
      ∙ later c n high)
]

capital : (k : ℕ) → k < 26
    → (is_ascii_uppercase (to_ascii_uppercase (65 + k)) ≡ true) × (to_ascii_uppercase (65 + k) ≡ 65 + k)
capital k h = (grind (arith, nat_tests), grind (arith, nat_tests))

one_letter : (k : ℕ) → k < 26 → next_of Nothing (65 + k) ≡ Some (Letter k)
one_letter k h =
    let c = capital k h in
    rw (c.0) (ap (λ n. Some (Letter n)) (ap (λ n. n - 65) c.1 ∙ (let e : 65 + k - 65 ≡ k = omega arith in e)))

two_letters : (col : ℕ) → 26 ≤ col → col < 256 → next_of (Letter (col / 26 - 1)) (65 + col % 26) ≡ Some (Column col)
two_letters col low high =
    let c = capital (col % 26) (omega arith) in
    let is : (col / 26 - 1 + 1) * 26 + (65 + col % 26 - 65) ≡ col = omega arith in
    let small : nat_lt col 256 ≡ true = grind (arith, nat_tests, high) in
    rw (c.0, c.1) (rw (is, small) refl)

no_capital : (b : ℕ) → is_ascii_digit b ≡ true → is_ascii_uppercase (to_ascii_uppercase b) ≡ false
no_capital b h = grind (arith, nat_tests)

record IsColumn (col : ℕ) : Type 0 where
  end : Progress
  reads : fold step_on (Some Nothing) (column_name col) ≡ Some end
  follows : RowFollows end col

column_read : (col : ℕ) → col < 256 → IsColumn col
column_read col h = elim (cases_Bool (nat_lt col 26)) [
  | inl small ↦ (let less : col < 26 = grind (arith, nat_tests, small) in record {
    end = Letter col;
    reads = rw small (one_letter col less);
    follows = λ b digit. rw (no_capital b digit) refl;
  })
  | inr large ↦ (let more : 26 ≤ col = grind (arith, nat_tests, large) in record {
    end = Column col;
    reads = rw large (two_read col more h);
    follows = λ b digit. refl;
  })
]
  where
    two_read : (col : ℕ) → 26 ≤ col → col < 256
        → fold step_on (Some Nothing) ((64 + col / 26) ∷ (65 + col % 26) ∷ []) ≡ Some (Column col)
    two_read col low high =
        ap (λ k. fold step_on (next_of Nothing k) ((65 + col % 26) ∷ []))
        (let e : 64 + col / 26 ≡ 65 + (col / 26 - 1) = omega arith in e)
        ∙ ap (λ (o : Option Progress). fold step_on o ((65 + col % 26) ∷ [])) (one_letter (col / 26 - 1) (omega arith))
        ∙ two_letters col low high

-- an address that is written is that of its cell
pub address_written : (p : Place) → InSheet p → address_in (column_name p.col ++ decimal (p.row + 1)) ≡ Some p
address_written p h =
    let column = column_read p.col h.1 in
    ap end_of (
    fold_append (Some Nothing) (column_name p.col) (decimal (p.row + 1))
    ∙ ap (λ (o : Option Progress). fold step_on o (decimal (p.row + 1))) column.reads
    ∙ row_read (p.row + 1) (p.row + 1) p.col column.end (omega arith) (omega arith) (omega (arith, h.0)) column.follows)
    ∙ ap (λ n. Some (record { row = n; col = p.col })) (let e : p.row + 1 - 1 ≡ p.row = omega arith in e)

digits_in : (fuel n : ℕ) → n ≤ fuel → list_all is_ascii_digit (decimal n) ≡ true
digits_in zero n most = ap (λ k. list_all is_ascii_digit (decimal k)) (let e : n ≡ 0 = omega (arith, most) in e)
digits_in (suc fuel) n most = elim (cases_Bool (nat_lt n 10)) [
  | inl small ↦
      (let less : n < 10 = grind (arith, nat_tests, small) in
      ap (list_all is_ascii_digit) (decimal_one n less) ∙ rw (digit_byte n) refl)
  | inr large ↦ (let more : 10 ≤ n = grind (arith, nat_tests, large) in
      ap (list_all is_ascii_digit) (decimal_more n more)
      ∙ list_all-append is_ascii_digit (decimal (n / 10)) ((48 + n % 10) ∷ [])
      ∙ rw (digits_in fuel (n / 10) (omega arith), digit_byte n) refl)
]

-- a number is written in digits
pub decimal_digits : (n : ℕ) → list_all is_ascii_digit (decimal n) ≡ true
decimal_digits n = digits_in n n (omega arith)

-- a number has a digit
pub decimal_some : (n : ℕ) → 0 < length (decimal n)
decimal_some n = elim (cases_Bool (nat_lt n 10)) [
  | inl small ↦ (let less : n < 10 = grind (arith, nat_tests, small) in omega (arith, ap length (decimal_one n less)))
  | inr large ↦ (let more : 10 ≤ n = grind (arith, nat_tests, large) in omega (arith, length-decimal_more n more))
]
