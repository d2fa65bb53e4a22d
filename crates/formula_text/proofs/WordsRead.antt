-- Addresses and names that are written are read.
use Rattle.std.specs.Char.{is_ascii_alphabetic, is_ascii_digit}
use Rattle.std.proofs.Common.{◌≡◌, ◌⊎◌, ℕ, ◌+◌, ◌-◌, ◌*◌, ◌%◌, ◌/◌, ◌≤◌, ◌<◌, Bool, true, false, ◌&&◌, cond, ◌==◌}
use Rattle.std.proofs.Common.{nat_le, nat_lt, List, [], ◌∷◌, ◌++◌, take, drop, length, get_or, Some, None, refl, ap}
use Rattle.std.proofs.Common.{◌∙◌, arith, inl, inr}
use Rattle.std.specs.List.{list_all}
use Rattle.std.proofs.lemmas.Bool.{and_parts, cases_Bool}
use Rattle.std.proofs.lemmas.Bool.Decides.{nat_tests}
use Rattle.std.proofs.lemmas.Nat.{mod-mul-add, mod_below}
use Rattle.std.proofs.lemmas.List.Folds.{list_all-append}
use Rattle.grid_address.specs.declared.reference.Axis.{Axis}
use Rattle.grid_address.specs.declared.reference.Axis.TheVariants.{Fixed, Offset}
use Rattle.grid_address.specs.Address.{column_name, decimal}
use Rattle.grid_address.specs.Axes.{axis_to, is_fixed, number_of, resolved, Reference}
use Rattle.grid_address.specs.Leads.{reference_to, resolve}
use Rattle.grid_address.specs.Place.{InSheet, Place}
use Rattle.grid_address.specs.Progress.{address_in}
use Rattle.grid_address.proofs.Written.{address_written, decimal_digits, decimal_some}
use Rattle.formula_tree.specs.Ranges.{is_reference}
use Rattle.formula_text.specs.Printed.{mark, reference_text}
use Rattle.formula_text.specs.Words.{behind_letters, has_dollar, is_word_byte, letters_len, marked, plain_address}
use Rattle.formula_text.specs.Words.{reference_from, reference_in, without_dollar}
use Rattle.formula_text.proofs.Cuts.{drop_front, front_len, take_front}

-- an offset leads back to itself
wraps : (t at n count : ℕ) → at < count → n < count → (t ≡ at + n) ⊎ (t + count ≡ at + n)
    → axis_to false t at count ≡ Offset n
wraps t at n count h g (inl whole) =
    let test : nat_le at t ≡ true = (let more : at ≤ t = omega (arith, whole) in grind (arith, nat_tests, more)) in
    rw test (ap Offset (let e : t - at ≡ n = omega (arith, whole) in e))
wraps t at n count h g (inr past) =
    let test : nat_le at t ≡ false = (let less : t < at = omega (arith, past, g) in grind (arith, nat_tests, less)) in
    rw test (ap Offset (let e : t + count - at ≡ n = omega (arith, past) in e))

once : (x count : ℕ) → 0 < count → x < count + count → (x % count ≡ x) ⊎ (x % count + count ≡ x)
once x count some h = elim (cases_Bool (nat_lt x count)) [
  | inl small ↦ (let less : x < count = grind (arith, nat_tests, small) in
      inl (ap (λ k. k % count) (let e : x ≡ 0 * count + x = omega arith in e) ∙ mod-mul-add 0 count x less))
  | inr large ↦ (
      let more : count ≤ x = grind (arith, nat_tests, large) in
      let is : x % count ≡ x - count = ap (λ k. k % count) (let e : x ≡ 1 * count + (x - count) = omega (arith, more) in
      e) ∙ mod-mul-add 1 count (x - count) (omega (arith, more, h)) in
      inr (omega (arith, is, more)))
]

axis_back : (a : Axis) (at count : ℕ) → at < count → number_of a < count
    → axis_to (is_fixed a) (resolved a at count) at count ≡ a
axis_back (Fixed n) at count h g = refl
axis_back (Offset n) at count h g =
    wraps ((at + n) % count) at n count h g (once (at + n) count (omega (arith, h)) (omega (arith, h, g)))

low : (n m k l : ℕ) → (nat_lt n k && nat_lt m l) ≡ true → (n < k) × (m < l)
low n m k l h = (let p = (and_parts (nat_lt n k) (nat_lt m l) h).0 in
    let q = (and_parts (nat_lt n k) (nat_lt m l) h).1 in (grind (arith, nat_tests, p), grind (arith, nat_tests, q)))

-- a reference that is made of the place to which one leads is that one
pub reference_back : (r : Reference) (cell : Place) → InSheet cell → is_reference r ≡ true
    → reference_to (resolve r cell) cell (is_fixed r.col) (is_fixed r.row) ≡ r
reference_back r cell inside h =
    let small = low (number_of r.col) (number_of r.row) 256 8192 h in
    λ i. record {
      col = axis_back r.col cell.col 256 inside.1 small.0 i;
      row = axis_back r.row cell.row 8192 inside.0 small.1 i;
    }

-- where a reference leads is in the sheet
resolved_low : (a : Axis) (at count : ℕ) → 0 < count → number_of a < count → resolved a at count < count
resolved_low (Fixed n) at count some h = h
resolved_low (Offset n) at count some h = mod_below (at + n) count some

-- a reference leads to a place in the sheet
pub leads_inside : (r : Reference) (cell : Place) → is_reference r ≡ true → InSheet (resolve r cell)
leads_inside r cell h =
    let small = low (number_of r.col) (number_of r.row) 256 8192 h in
    (resolved_low r.row cell.row 8192 (omega arith) small.1, resolved_low r.col cell.col 256 (omega arith) small.0)

-- the letters of a column
capital : (k : ℕ) → k < 26 → is_ascii_alphabetic (65 + k) ≡ true
capital k h = grind (arith, nat_tests, h)

-- a column's name has letters alone
pub column_letters : (col : ℕ) → col < 256 → list_all is_ascii_alphabetic (column_name col) ≡ true
column_letters col h = elim (cases_Bool (nat_lt col 26)) [
  | inl small ↦ (let less : col < 26 = grind (arith, nat_tests, small) in rw (small, capital col less) refl)
  | inr large ↦ (
      let more : 26 ≤ col = grind (arith, nat_tests, large) in
      let first : is_ascii_alphabetic (64 + col / 26) ≡ true = ap is_ascii_alphabetic (let e : 64 + col / 26 ≡ 65
      + (col / 26 - 1) = omega (arith, more) in e) ∙ capital (col / 26 - 1) (omega (arith, more, h)) in
      rw (large, first, capital (col % 26) (omega arith)) refl)
]

-- a column's name is not empty
pub column_some : (col : ℕ) → 0 < length (column_name col)
column_some col = elim (cases_Bool (nat_lt col 26)) [
  | inl small ↦ rw small (omega arith)
  | inr large ↦ rw large (omega arith)
]

-- a byte that is no dollar stands first
pub plain_first : (bytes : List ℕ) → (get_or bytes 0 0 == 36) ≡ false
    → (has_dollar bytes ≡ false) × (without_dollar bytes ≡ bytes)
plain_first [] h = (refl, refl)
plain_first (b ∷ bs) h = (h, rw h refl)

-- a letter is no dollar
pub letter_no_dollar : (b : ℕ) → is_ascii_alphabetic b ≡ true → (b == 36) ≡ false
letter_no_dollar b h = grind (arith, nat_tests, h)

digit_no_dollar : (b : ℕ) → is_ascii_digit b ≡ true → (b == 36) ≡ false
digit_no_dollar b h = grind (arith, nat_tests, h)

digit_no_letter : (b : ℕ) → is_ascii_digit b ≡ true → is_ascii_alphabetic b ≡ false
digit_no_letter b h = grind (arith, nat_tests, h)

-- the first byte of bytes that all pass
pub first_passes : (p : ℕ → Bool) (xs rest : List ℕ) → 0 < length xs → list_all p xs ≡ true
    → p (get_or (xs ++ rest) 0 0) ≡ true
first_passes p [] rest some all = absurd (omega arith)
first_passes p (x ∷ xs) rest some all = (and_parts (p x) (list_all p xs) all).0

first_alone : (p : ℕ → Bool) (xs : List ℕ) → 0 < length xs → list_all p xs ≡ true → p (get_or xs 0 0) ≡ true
first_alone p [] some all = absurd (omega arith)
first_alone p (x ∷ xs) some all = (and_parts (p x) (list_all p xs) all).0

-- behind a mark or none
pub mark_off : (fixed : Bool) (rest : List ℕ) → (get_or rest 0 0 == 36) ≡ false
    → (has_dollar (mark fixed ++ rest) ≡ fixed) × (without_dollar (mark fixed ++ rest) ≡ rest)
mark_off true rest h = (refl, refl)
mark_off false rest h = plain_first rest h

mark_no_letter : (fixed : Bool) (ds : List ℕ) → is_ascii_digit (get_or ds 0 0) ≡ true
    → is_ascii_alphabetic (get_or (mark fixed ++ ds) 0 0) ≡ false
mark_no_letter true ds h = refl
mark_no_letter false ds h = digit_no_letter (get_or ds 0 0) h

parted : (cell : Place) (fixed_col fixed_row : Bool) (column row : List ℕ) (target : Place) → 0 < length column
    → list_all is_ascii_alphabetic column ≡ true → 0 < length row → list_all is_ascii_digit row ≡ true
    → address_in (column ++ row) ≡ Some target → reference_in cell (mark fixed_col
    ++ (column ++ (mark fixed_row ++ row))) ≡ Some (reference_to target cell fixed_col fixed_row)
parted cell fixed_col fixed_row column row target some letters digits all is =
    let behind_column : List ℕ = mark fixed_row ++ row in
    let word : List ℕ = column ++ behind_column in
    let letter = first_passes is_ascii_alphabetic column behind_column some letters in
    let digit = first_alone is_ascii_digit row digits all in
    let col = mark_off fixed_col word (letter_no_dollar (get_or word 0 0) letter) in
    let bare = mark_off fixed_row row (digit_no_dollar (get_or row 0 0) digit) in
    let long : letters_len word ≡ length column =
    front_len is_ascii_alphabetic column behind_column letters (mark_no_letter fixed_row row digit) in
    let behind : behind_letters word ≡ behind_column = ap (λ k. drop k word) long ∙ drop_front column behind_column in
    let front : take (letters_len word) word ≡ column = ap (λ k. take k word) long ∙ take_front column behind_column in
    ap (λ b. reference_from cell b (without_dollar (mark fixed_col ++ word))) col.0
    ∙ ap (reference_from cell fixed_col) col.1
    ∙ ap (λ (l : List ℕ). marked cell fixed_col (has_dollar l)
    (plain_address (take (letters_len word) word) (without_dollar l))) behind
    ∙ ap (λ (l : List ℕ). marked cell fixed_col (has_dollar behind_column)
    (plain_address l (without_dollar behind_column))) front
    ∙ ap (λ b. marked cell fixed_col b (plain_address column (without_dollar behind_column))) bare.0
    ∙ ap (λ (l : List ℕ). marked cell fixed_col fixed_row (plain_address column l)) bare.1
    ∙ ap (λ b. marked cell fixed_col fixed_row (cond b (address_in (column ++ row)) None)) all
    ∙ ap (marked cell fixed_col fixed_row) is

-- an address is read as its reference
pub reference_read : (r : Reference) (cell : Place) → InSheet cell → is_reference r ≡ true
    → reference_in cell (reference_text cell r) ≡ Some r
reference_read r cell inside h =
    let target : Place = resolve r cell in
    let within = leads_inside r cell h in
    parted cell (is_fixed r.col) (is_fixed r.row) (column_name target.col) (decimal (target.row + 1)) target
    (column_some target.col) (column_letters target.col within.1) (decimal_some (target.row + 1))
    (decimal_digits (target.row + 1)) (address_written target within)
    ∙ ap (λ x. Some x) (reference_back r cell inside h)

-- the bytes of an address
letter_word : (b : ℕ) → is_ascii_alphabetic b ≡ true → is_word_byte b ≡ true
letter_word b h = grind (arith, h)

digit_word : (b : ℕ) → is_ascii_digit b ≡ true → is_word_byte b ≡ true
digit_word b h = grind (arith, h)

-- bytes that all pass a test pass a weaker one
pub all_weaker : (p q : ℕ → Bool) (xs : List ℕ) → ((b : ℕ) → p b ≡ true → q b ≡ true) → list_all p xs ≡ true
    → list_all q xs ≡ true
all_weaker p q [] f h = refl
all_weaker p q (x ∷ xs) f h = (let first = f x (and_parts (p x) (list_all p xs) h).0 in
    rw first (all_weaker p q xs f (and_parts (p x) (list_all p xs) h).1))

-- the mark of a fixed coordinate is a word's byte
pub mark_words : (fixed : Bool) → list_all is_word_byte (mark fixed) ≡ true
mark_words true = refl
mark_words false = refl

-- bytes that all pass a test pass it joined to others that do
pub all_two : (p : ℕ → Bool) (xs ys : List ℕ) → list_all p xs ≡ true → list_all p ys ≡ true
    → list_all p (xs ++ ys) ≡ true
all_two p xs ys h g = list_all-append p xs ys ∙ rw (h, g) refl

-- an address has bytes of a word alone
pub reference_words : (r : Reference) (cell : Place) → is_reference r ≡ true
    → list_all is_word_byte (reference_text cell r) ≡ true
reference_words r cell h =
    let target : Place = resolve r cell in
    let within = leads_inside r cell h in
    let column = all_weaker is_ascii_alphabetic is_word_byte (column_name target.col) letter_word
    (column_letters target.col within.1) in
    let row = all_weaker is_ascii_digit is_word_byte (decimal (target.row + 1)) digit_word
    (decimal_digits (target.row + 1)) in
    all_two is_word_byte (mark (is_fixed r.col)) _ (mark_words (is_fixed r.col)) (all_two is_word_byte (column_name
    target.col) _ column (all_two is_word_byte (mark (is_fixed r.row)) _ (mark_words (is_fixed r.row)) row))
