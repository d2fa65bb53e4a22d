-- Cells by column and then by row are the same cells.
use Rattle.std.specs.Prelude.{ℕ, zero, suc, ◌≡◌, ◌+◌, ◌-◌, ◌<◌, ◌≤◌, Bool, true, false, cond, ◌&&◌, ◌||◌, nat_eq}
use Rattle.std.specs.Prelude.{nat_le, nat_lt, refl, List, [], ◌∷◌, ◌++◌, length}
use Rattle.std.specs.List.{filter}
use Rattle.std.proofs.Common.{sym, ◌∙◌, ap, arith, inl, inr, append-nil, append_assoc}
use Rattle.std.proofs.lemmas.Bool.{false≢true, or_cases, or_left, or_right}
use Rattle.std.proofs.lemmas.Bool.Decides.{nat_tests}
use Rattle.std.proofs.lemmas.List.{length-append}
use Rattle.std.proofs.lemmas.List.Folds.{list_any-append}
use Rattle.grid_address.proofs.Places.{same_place_is, same_place_itself}
use Rattle.grid_address.specs.Place.{same_place, InSheet, Place}
use Rattle.natural_order.proofs.Cut.{filter-append, filter_in}
use Rattle.cell_maps.specs.Sets.{has}
use Rattle.recalculation.specs.Reading.{by_columns, of_columns}

abbrev in_column : ℕ → Place → Bool
in_column col c = nat_eq c.col col

-- one more column of a loop
pub column_step : (col : ℕ) (cells done new total : List Place) → col < 256 → new ≡ done ++ filter (in_column col) cells
    → done ++ of_columns (256 - col) col cells ≡ total → new ++ of_columns (256 - (col + 1)) (col + 1) cells ≡ total
column_step col cells done new total h e inv =
    let n : ℕ = 256 - (col + 1) in
    let k : 256 - col ≡ suc n = omega arith in
    ap (λ l. l ++ of_columns n (col + 1) cells) e
    ∙ append_assoc done (filter (in_column col) cells) (of_columns n (col + 1) cells)
    ∙ sym (ap (λ m. done ++ of_columns m col cells) k) ∙ inv

-- and the end of that loop
pub column_end : (col : ℕ) (cells done total : List Place) → 256 ≤ col
    → done ++ of_columns (256 - col) col cells ≡ total → done ≡ total
column_end col cells done total h inv =
    let k : 256 - col ≡ 0 = omega arith in
    sym (append-nil done) ∙ sym (ap (λ m. done ++ of_columns m col cells) k) ∙ inv

filter_swap : (p q : Place → Bool) (xs : List Place) → filter p (filter q xs) ≡ filter q (filter p xs)
filter_swap p q [] = refl
filter_swap p q (x ∷ xs) = with (p x) (q x) refl refl (filter_swap p q xs)
  where
    with : (a b : Bool) → p x ≡ a → q x ≡ b → filter p (filter q xs) ≡ filter q (filter p xs)
        → filter p (cond b (x ∷ filter q xs) (filter q xs)) ≡ filter q (cond a (x ∷ filter p xs) (filter p xs))
    with true true a b h = ap (λ c. cond c (x ∷ filter p (filter q xs)) (filter p (filter q xs))) a ∙ ap (λ l. x ∷ l) h
        ∙ sym (ap (λ c. cond c (x ∷ filter q (filter p xs)) (filter q (filter p xs))) b)
    with true false a b h = h ∙ sym (ap (λ c. cond c (x ∷ filter q (filter p xs)) (filter q (filter p xs))) b)
    with false true a b h = ap (λ c. cond c (x ∷ filter p (filter q xs)) (filter p (filter q xs))) a ∙ h
    with false false a b h = h

filter_of : (p : Place → Bool) (n col : ℕ) (xs : List Place)
    → filter p (of_columns n col xs) ≡ of_columns n col (filter p xs)
filter_of p zero col xs = refl
filter_of p (suc n) col xs = filter-append p (filter (in_column col) xs) (of_columns n (col + 1) xs)
    ∙ (λ i. filter_swap p (in_column col) xs i ++ filter_of p n (col + 1) xs i)

-- those that pass a test, by column
pub filter_columns : (p : Place → Bool) (xs : List Place) → filter p (by_columns xs) ≡ by_columns (filter p xs)
filter_columns p xs = filter_of p 256 0 xs

from_column : (n col : ℕ) → Place → Bool
from_column n col c = nat_le col c.col && nat_lt c.col (col + n)

length_none : (p : Place → Bool) (xs : List Place) → ((c : Place) → p c ≡ false) → length (filter p xs) ≡ 0
length_none p [] h = refl
length_none p (x ∷ xs) h = ap (λ b. length (cond b (x ∷ filter p xs) (filter p xs))) (h x) ∙ length_none p xs h

-- two tests of which one at most holds
length_split : (p q r : Place → Bool) (xs : List Place) → ((c : Place) → r c ≡ (p c || q c))
    → ((c : Place) → (p c && q c) ≡ false) → length (filter p xs) + length (filter q xs) ≡ length (filter r xs)
length_split p q r [] h k = refl
length_split p q r (x ∷ xs) h k = with (p x) (q x) refl refl (length_split p q r xs h k)
  where
    with : (a b : Bool) → p x ≡ a → q x ≡ b → length (filter p xs) + length (filter q xs) ≡ length (filter r xs)
        → length (cond (p x) (x ∷ filter p xs) (filter p xs))
        + length (cond (q x) (x ∷ filter q xs) (filter q xs)) ≡ length (cond (r x) (x ∷ filter r xs) (filter r xs))
    with true true a b e = absurd (false≢true (sym (k x) ∙ (λ i. a i && b i)))
    with true false a b e =
        (λ i. length (cond (a i) (x ∷ filter p xs) (filter p xs)) + length (cond (b i) (x ∷ filter q xs) (filter q xs)))
        ∙ (let g = e in omega arith)
        ∙ sym (ap (λ c. length (cond c (x ∷ filter r xs) (filter r xs))) (h x ∙ (λ i. a i || b i)))
    with false true a b e =
        (λ i. length (cond (a i) (x ∷ filter p xs) (filter p xs)) + length (cond (b i) (x ∷ filter q xs) (filter q xs)))
        ∙ (let g = e in omega arith)
        ∙ sym (ap (λ c. length (cond c (x ∷ filter r xs) (filter r xs))) (h x ∙ (λ i. a i || b i)))
    with false false a b e =
        (λ i. length (cond (a i) (x ∷ filter p xs) (filter p xs)) + length (cond (b i) (x ∷ filter q xs) (filter q xs)))
        ∙ e
        ∙ sym (ap (λ c. length (cond c (x ∷ filter r xs) (filter r xs))) (h x ∙ (λ i. a i || b i)))

length_of : (n col : ℕ) (xs : List Place) → length (of_columns n col xs) ≡ length (filter (from_column n col) xs)
unfolding from_column
length_of zero col xs = sym (length_none (from_column 0 col) xs (λ c. none c.col col))
  where
    none : (x c : ℕ) → (nat_le c x && nat_lt x (c + 0)) ≡ false
    none x c = grind (arith, nat_tests)
length_of (suc n) col xs =
    length-append (filter (in_column col) xs) (of_columns n (col + 1) xs)
    ∙ ap (λ k. length (filter (in_column col) xs) + k) (length_of n (col + 1) xs)
    ∙ length_split (in_column col) (from_column n (col + 1)) (from_column (suc n) col) xs (λ c. joined c.col col n)
    (λ c. apart c.col col n)
  where
    joined : (x c n : ℕ)
        → (nat_le c x && nat_lt x (c + suc n)) ≡ (nat_eq x c || (nat_le (c + 1) x && nat_lt x (c + 1 + n)))
    joined x c n = grind (arith, nat_tests)

    apart : (x c n : ℕ) → (nat_eq x c && (nat_le (c + 1) x && nat_lt x (c + 1 + n))) ≡ false
    apart x c n = grind (arith, nat_tests)

filter_whole : (p : Place → Bool) (xs : List Place) → ((c : Place) → has same_place xs c ≡ true → p c ≡ true)
    → length (filter p xs) ≡ length xs
filter_whole p [] h = refl
filter_whole p (x ∷ xs) h =
    ap (λ b. length (cond b (x ∷ filter p xs) (filter p xs))) (h x (or_left _ _ (same_place_itself x)))
    ∙ (let g = filter_whole p xs (λ c m. h c (or_right _ _ m)) in omega arith)

-- cells of the sheet are as many by column
pub length_columns : (xs : List Place) → ((c : Place) → has same_place xs c ≡ true → InSheet c)
    → length (by_columns xs) ≡ length xs
unfolding from_column
length_columns xs h = length_of 256 0 xs ∙ filter_whole (from_column 256 0) xs (λ c m. inside c.col (h c m).1)
  where
    inside : (x : ℕ) → x < 256 → (nat_le 0 x && nat_lt x (0 + 256)) ≡ true
    inside x k = grind (arith, nat_tests, k)

has_of : (n col : ℕ) (xs : List Place) (c : Place) → has same_place (of_columns n col xs) c ≡ true
    → has same_place xs c ≡ true
has_of zero col xs c m = absurd cc
has_of (suc n) col xs c m = elim
    (or_cases _ _ (sym (list_any-append (same_place c) (filter (in_column col) xs) (of_columns n (col + 1) xs)) ∙ m)) [
      | inl h ↦ filter_in same_place same_place_is (in_column col) xs c h
      | inr h ↦ has_of n (col + 1) xs c h
    ]

-- by column there is no other cell
pub has_columns : (xs : List Place) (c : Place) → has same_place (by_columns xs) c ≡ true → has same_place xs c ≡ true
has_columns xs c m = has_of 256 0 xs c m
