-- Spans read byte by byte.
use Rattle.std.specs.Char.{is_ascii_digit, to_ascii_uppercase}
use Rattle.std.proofs.Common.{◌≡◌, ℕ, zero, suc, ◌+◌, ◌/◌, ◌%◌, ◌≤◌, ◌<◌, Bool, true, false, None, List, [], ◌∷◌, ◌++◌}
use Rattle.std.proofs.Common.{length, get_or, map, refl, take, drop, ap, sym, subst, ◌∙◌, arith, ◌⊎◌, inl, inr}
use Rattle.std.proofs.Common.{append_assoc}
use Rattle.std.specs.Prelude.{◌==◌, nat_lt}
use Rattle.std.specs.List.{list_all}
use Rattle.std.proofs.lemmas.Bool.{and_parts, cases_Bool}
use Rattle.std.proofs.lemmas.Bool.Decides.{nat_tests}
use Rattle.std.proofs.lemmas.List.{drop-drop, length-drop, take-append-drop, take_all, take_more}
use Rattle.std.proofs.lemmas.List.Folds.{list_all-append}
use Rattle.std.proofs.Math.Seq.{take-add}
use Rattle.grid_address.proofs.Written.{decimal_digits}
use Rattle.grid_address.specs.declared.reading.Progress.{Progress}
use Rattle.grid_address.specs.declared.reading.Progress.TheVariants.{Nothing, Letter, Column, Row}
use Rattle.grid_address.specs.Address.{column_name, decimal}
use Rattle.grid_address.specs.Place.{spanned, Place}
use Rattle.grid_address.specs.Progress.{count_dots, whole_cell}
use Rattle.grid_address.specs.inner.Progress.{IsFront, IsRead}
use Rattle.grid_address.specs.Reading.{AreDots, Begins, IsAddress, IsSpan, SpellsCell, SpellsSpan, StopsAt}
use Rattle.grid_address.proofs.AddressReading.{begun, front_ends, one_letter, two_letters, unfinished}
use Rattle.grid_address.proofs.AddressReading.{BeginsAddress}

abbrev is_past_dot : ℕ → Bool
is_past_dot x = nat_lt 46 x

-- no byte is a dot, nor one below it
abbrev no_dot : List ℕ → Bool
no_dot xs = list_all is_past_dot (map to_ascii_uppercase xs)

digits_no_dot : (xs : List ℕ) → list_all is_ascii_digit xs ≡ true → list_all is_past_dot xs ≡ true
digits_no_dot [] h = refl
digits_no_dot (x ∷ xs) h =
    let digit : is_ascii_digit x ≡ true = (and_parts (is_ascii_digit x) (list_all is_ascii_digit xs) h).0 in
    let past : is_past_dot x ≡ true = grind (arith, nat_tests, digit) in
    rw (past, digits_no_dot xs (and_parts (is_ascii_digit x) (list_all is_ascii_digit xs) h).1) refl

column_no_dot : (c : ℕ) → list_all is_past_dot (column_name c) ≡ true
column_no_dot c = elim (cases_Bool (nat_lt c 26)) [
  | inl one ↦
      ap (list_all is_past_dot) (one_letter c (grind (arith, nat_tests, one)))
      ∙ (let past : is_past_dot (65 + c) ≡ true = grind (arith, nat_tests) in rw past refl)
  | inr two ↦
      ap (list_all is_past_dot) (two_letters c (grind (arith, nat_tests, two)))
      ∙ (let first : is_past_dot (64 + c / 26) ≡ true = grind (arith, nat_tests) in
      let second : is_past_dot (65 + c % 26) ≡ true = grind (arith, nat_tests) in
      rw (first, second) refl)
]

number_no_dot : (c n : ℕ) → list_all is_past_dot (column_name c ++ decimal n) ≡ true
number_no_dot c n =
    list_all-append is_past_dot (column_name c) (decimal n)
    ∙ rw (column_no_dot c, digits_no_dot (decimal n) (decimal_digits n)) refl

address_no_dot : (p : Place) (xs : List ℕ) → SpellsCell xs p → no_dot xs ≡ true
address_no_dot p xs is = ap (list_all is_past_dot) is.0 ∙ number_no_dot p.col (p.row + 1)

read_no_dot : (s : Progress) (xs : List ℕ) → IsRead s xs → no_dot xs ≡ true
read_no_dot Nothing xs is = ap no_dot is
read_no_dot (Letter c) xs is = ap (list_all is_past_dot) (is.0 ∙ sym (one_letter c is.1)) ∙ column_no_dot c
read_no_dot (Column c) xs is = ap (list_all is_past_dot) (is.0 ∙ sym (two_letters c is.1)) ∙ column_no_dot c
read_no_dot (Row c n) xs is = ap (list_all is_past_dot) is.0 ∙ number_no_dot c n

-- bytes with a dot among them
has_dot : (xs ys : List ℕ) → no_dot (xs ++ 46 ∷ ys) ≡ true → ⊥
has_dot [] ys h = absurd cc
has_dot (x ∷ xs) ys h = has_dot xs ys (and_parts (is_past_dot (to_ascii_uppercase x)) (no_dot (xs ++ 46 ∷ ys)) h).1

-- where the first dot stands, seen from bytes without one
record IsBefore (b : ℕ) (rest more xs left : List ℕ) : Type 0 where
  last : List ℕ
  is : left ≡ xs ++ b ∷ last

record IsTheDot (b : ℕ) (rest more xs left : List ℕ) : Type 0 where
  same : left ≡ xs
  dot : b ≡ 46
  behind : rest ≡ more

split : (b : ℕ) (rest more xs left : List ℕ) → no_dot xs ≡ true → xs ++ b ∷ rest ≡ left ++ 46 ∷ more
    → IsBefore b rest more xs left ⊎ IsTheDot b rest more xs left
split b rest more [] [] none e = inr (record { same = refl; dot = cc; behind = cc })
split b rest more [] (l ∷ ls) none e = inl (record { last = ls; is = (let same : l ≡ b = cc in ap (λ h. h ∷ ls) same) })
split b rest more (x ∷ xs) [] none e =
    let same : x ≡ 46 = cc in
    absurd (has_dot [] xs (ap (λ h. no_dot (h ∷ xs)) (sym same) ∙ none))
split b rest more (x ∷ xs) (l ∷ ls) none e =
    let head : l ≡ x = cc in
    let tail : xs ++ b ∷ rest ≡ ls ++ 46 ∷ more = cc in
    elim (split b rest more xs ls (and_parts (is_past_dot (to_ascii_uppercase x)) (no_dot xs) none).1 tail) [
      | inl before ↦
          inl (record { last = before.last; is = ap (λ h. h ∷ ls) head ∙ ap (λ (t : List ℕ). x ∷ t) before.is })
      | inr at ↦
          inr (record {
            same = ap (λ h. h ∷ ls) head
                ∙ ap (λ (t : List ℕ). x ∷ t) at.same;
            dot = at.dot;
            behind = at.behind;
          })
    ]

-- dots begin with a dot
record FromDot (dots right : List ℕ) : Type 0 where
  more : List ℕ
  is : dots ++ right ≡ 46 ∷ more

from_dot : (dots right : List ℕ) → AreDots dots → FromDot dots right
from_dot dots right (inl one) = record { more = right; is = ap (λ (l : List ℕ). l ++ right) one }
from_dot dots right (inr two) = record { more = 46 ∷ right; is = ap (λ (l : List ℕ). l ++ right) two }

begins_span : (xs : List ℕ) → BeginsAddress xs → Begins IsSpan xs
begins_span xs (rest, (p, is)) =
    (rest, (record { first = p; last = p }, inl (record { cell = p; spelled = is; is = refl })))

begun_with : (b : ℕ) (xs left last : List ℕ) (p : Place) → left ≡ xs ++ b ∷ last → SpellsCell left p
    → BeginsAddress (xs ++ b ∷ [])
begun_with b xs left last p same is =
    (last, (p, subst (λ (l : List ℕ). SpellsCell l p) (same ∙ sym (append_assoc xs (b ∷ []) last)) is))

-- with the byte behind the first cell no span begins
first_ends : (s : Progress) (bytes : List ℕ) (end : ℕ) → IsFront bytes s end → end < length bytes
    → (get_or bytes end 0 ≡ 46 → whole_cell s ≡ None) → Begins IsSpan (take end bytes ++ get_or bytes end 0 ∷ []) → ⊥
first_ends s bytes end front inside u (rest, (extent, inl one)) =
    front_ends s bytes end front inside (rest, (one.cell, one.spelled))
first_ends s bytes end front inside u (rest, (extent, inr two)) =
    let b : ℕ = get_or bytes end 0 in
    let xs : List ℕ = take end bytes in
    let dot = from_dot two.dots two.right two.parted in
    let parts : xs ++ b ∷ rest ≡ two.left ++ 46 ∷ dot.more =
    sym (append_assoc xs (b ∷ []) rest) ∙ two.parts ∙ ap (λ (l : List ℕ). two.left ++ l) dot.is in
    elim (split b rest dot.more xs two.left (read_no_dot s xs front.read) parts) [
      | inl before ↦
          front_ends s bytes end front inside (begun_with b xs two.left before.last two.one before.is two.spelled_left)
      | inr at ↦
          unfinished s xs (u at.dot) front.read
          (two.one, subst (λ (l : List ℕ). SpellsCell l two.one) at.same two.spelled_left)
    ]

first_short : (s : Progress) (bytes : List ℕ) → IsRead s bytes → whole_cell s ≡ None → IsSpan bytes → ⊥
first_short s bytes is u (extent, inl one) = unfinished s bytes u is (one.cell, one.spelled)
first_short s bytes is u (extent, inr two) =
    let dot = from_dot two.dots two.right two.parted in
    has_dot two.left dot.more
    (ap no_dot (sym (two.parts ∙ ap (λ (l : List ℕ). two.left ++ l) dot.is)) ∙ read_no_dot s bytes is)

-- the first cell can't go on
pub no_first : (s : Progress) (bytes : List ℕ) (end : ℕ) → IsFront bytes s end
    → (end < length bytes → get_or bytes end 0 ≡ 46 → whole_cell s ≡ None) → (end ≡ length bytes → whole_cell s ≡ None)
    → StopsAt IsSpan bytes end
no_first s bytes end front apart u = record {
  within = front.within;
  begins = begins_span (take end bytes) (begun s (take end bytes) front.read);
  stops =
      λ inside b. first_ends s bytes end front inside (apart inside)
      (subst (Begins IsSpan) (take_more bytes end 0 inside) b);
  short =
      λ same span. first_short s bytes (subst (IsRead s) (take_all end bytes (omega (arith, same))) front.read)
      (u same) span;
}

-- a first cell and its dots, with all dots that there are
pub record IsParted (left dots tail : List ℕ) (one : Place) : Type 0 where
  pub spelled : SpellsCell left one
  pub parted : AreDots dots
  pub only : dots ≡ 46 ∷ [] → get_or tail 0 0 ≡ 46 → ⊥

-- behind the dots of a span stands an address
last_is_address : (left dots tail dots' right : List ℕ) (one other : Place) → IsParted left dots tail one
    → AreDots dots' → SpellsCell right other → dots ++ tail ≡ dots' ++ right → IsAddress tail
last_is_address left dots tail dots' right one other parted are' is e = elim parted.parted [
  | inl single ↦ elim are' [
    | inl single' ↦
        (let both : 46 ∷ tail ≡ 46 ∷ right =
        ap (λ (l : List ℕ). l ++ tail) (sym single) ∙ e ∙ ap (λ (l : List ℕ). l ++ right) single' in
        let same : right ≡ tail = cc in
        (other, subst (λ (l : List ℕ). SpellsCell l other) same is))
    | inr double' ↦
        (let both : 46 ∷ tail ≡ 46 ∷ 46 ∷ right =
        ap (λ (l : List ℕ). l ++ tail) (sym single) ∙ e ∙ ap (λ (l : List ℕ). l ++ right) double' in
        let same : tail ≡ 46 ∷ right = cc in
        absurd (parted.only single (ap (λ (l : List ℕ). get_or l 0 0) same)))
  ]
  | inr double ↦ elim are' [
    | inl single' ↦
        (let both : 46 ∷ 46 ∷ tail ≡ 46 ∷ right =
        ap (λ (l : List ℕ). l ++ tail) (sym double) ∙ e ∙ ap (λ (l : List ℕ). l ++ right) single' in
        let same : 46 ∷ tail ≡ right = cc in
        absurd (has_dot [] tail (ap no_dot same ∙ address_no_dot other right is)))
    | inr double' ↦
        (let both : 46 ∷ 46 ∷ tail ≡ 46 ∷ 46 ∷ right =
        ap (λ (l : List ℕ). l ++ tail) (sym double) ∙ e ∙ ap (λ (l : List ℕ). l ++ right) double' in
        let same : right ≡ tail = cc in
        (other, subst (λ (l : List ℕ). SpellsCell l other) same is))
  ]
]

tail_is_address : (left dots tail : List ℕ) (one : Place) → IsParted left dots tail one
    → IsSpan (left ++ (dots ++ tail)) → IsAddress tail
tail_is_address left dots tail one parted (extent, inl single) =
    let dot = from_dot dots tail parted.parted in
    absurd (has_dot left dot.more
    (ap (λ (l : List ℕ). no_dot (left ++ l)) (sym dot.is)
    ∙ address_no_dot single.cell (left ++ (dots ++ tail)) single.spelled))
tail_is_address left dots tail one parted (extent, inr two) =
    let dot = from_dot dots tail parted.parted in
    let dot' = from_dot two.dots two.right two.parted in
    let parts : left ++ 46 ∷ dot.more ≡ two.left ++ 46 ∷ dot'.more =
    ap (λ (l : List ℕ). left ++ l) (sym dot.is) ∙ two.parts ∙ ap (λ (l : List ℕ). two.left ++ l) dot'.is in
    elim (split 46 dot.more dot'.more left two.left (address_no_dot one left parted.spelled) parts) [
      | inl before ↦
          absurd (has_dot left before.last
          (ap no_dot (sym before.is) ∙ address_no_dot two.one two.left two.spelled_left))
      | inr at ↦
          last_is_address left dots tail two.dots two.right one two.other parted two.parted two.spelled_right
          (dot.is ∙ ap (λ (l : List ℕ). 46 ∷ l) at.behind ∙ sym dot'.is)
    ]

begins_two : (left dots xs : List ℕ) (one : Place) → SpellsCell left one → AreDots dots → BeginsAddress xs
    → Begins IsSpan (left ++ (dots ++ xs))
begins_two left dots xs one is are (rest, (p, is')) = (
  rest,
  (
    spanned one p,
    inr (record {
      left = left;
      dots = dots;
      right = xs ++ rest;
      one = one;
      other = p;
      parts = append_assoc left (dots ++ xs) rest ∙ ap (λ (l : List ℕ). left ++ l) (append_assoc dots xs rest);
      parted = are;
      spelled_left = is;
      spelled_right = is';
      is = refl;
    }),
  ),
)

-- the first byte of a list that has one stays the first of its front
first_stays : (n : ℕ) (tail rest : List ℕ) → n < length tail → get_or (take (n + 1) tail ++ rest) 0 0 ≡ get_or tail 0 0
first_stays n [] rest inside = absurd (omega (arith, inside))
first_stays n (x ∷ xs) rest inside =
    (let more : n + 1 ≡ suc n = omega arith in ap (λ k. get_or (take k (x ∷ xs) ++ rest) 0 0) more)

second_ends : (left dots tail : List ℕ) (one : Place) (end : ℕ) → IsParted left dots tail one
    → StopsAt IsAddress tail end → end < length tail → Begins IsSpan (left ++ (dots ++ take (end + 1) tail)) → ⊥
second_ends left dots tail one end parted stops inside (rest, (extent, is)) =
    let on : List ℕ = take (end + 1) tail ++ rest in
    let whole : (left ++ (dots ++ take (end + 1) tail)) ++ rest ≡ left ++ (dots ++ on) =
    append_assoc left (dots ++ take (end + 1) tail) rest
    ∙ ap (λ (l : List ℕ). left ++ l) (append_assoc dots (take (end + 1) tail) rest) in
    let parted' : IsParted left dots on one = record {
      spelled = parted.spelled;
      parted = parted.parted;
      only = λ single dot. parted.only single (sym (first_stays end tail rest inside) ∙ dot);
    } in
    stops.stops inside (
      rest,
      tail_is_address left dots on one parted' (extent, subst (λ (l : List ℕ). SpellsSpan l extent) whole is),
    )

-- the second cell can't go on
no_second : (bytes left dots tail : List ℕ) (one : Place) (from end : ℕ) → bytes ≡ left ++ (dots ++ tail)
    → from + length tail ≡ length bytes → ((at : ℕ) → take (from + at) bytes ≡ left ++ (dots ++ take at tail))
    → IsParted left dots tail one → StopsAt IsAddress tail end → StopsAt IsSpan bytes (from + end)
no_second bytes left dots tail one from end parts long cut parted stops = record {
  within = omega (arith, stops.within, long);
  begins =
      subst (Begins IsSpan) (sym (cut end))
      (begins_two left dots (take end tail) one parted.spelled parted.parted stops.begins);
  stops =
      λ inside b. second_ends left dots tail one end parted stops (omega (arith, inside, long))
      (subst (Begins IsSpan) ((let e : from + end + 1 ≡ from + (end + 1) = omega arith in ap (λ k. take k bytes) e)
      ∙ cut (end + 1)) b);
  short =
      λ same span. stops.short (omega (arith, same, long))
      (tail_is_address left dots tail one parted (subst IsSpan parts span));
}

-- so many dots in front of some bytes, and no more behind one
record HasDots (bytes : List ℕ) (k : ℕ) : Type 0 where
  parted : AreDots (take k bytes)
  within : k ≤ length bytes
  only : take k bytes ≡ 46 ∷ [] → get_or (drop k bytes) 0 0 ≡ 46 → ⊥

is_dot : (x : ℕ) → (x == 46) ≡ true → x ≡ 46
is_dot x h = grind (arith, nat_tests, h)

no_dots : (x : ℕ) (rest : List ℕ) → (x == 46) ≡ false → (count_dots (x ∷ rest) ≡ 0 → ⊥) → ⊥
no_dots x rest other some = some (rw other refl)

has_dots : (bytes : List ℕ) → (count_dots bytes ≡ 0 → ⊥) → HasDots bytes (count_dots bytes)
has_dots [] some = absurd (some refl)
has_dots (x ∷ []) some = elim (cases_Bool (x == 46)) [
  | inl one ↦ (let count : count_dots (x ∷ []) ≡ 1 = rw one refl in
      subst (HasDots (x ∷ [])) (sym count) (record {
        parted = inl (ap (λ b. b ∷ []) (is_dot x one));
        within = omega arith;
        only = λ _ e. absurd (omega (arith, e));
      }))
  | inr other ↦ absurd (no_dots x [] other some)
]
has_dots (x ∷ y ∷ r) some = elim (cases_Bool (x == 46)) [
  | inl one ↦ elim (cases_Bool (y == 46)) [
    | inl two ↦ (let count : count_dots (x ∷ y ∷ r) ≡ 2 = rw (one, two) refl in
        subst (HasDots (x ∷ y ∷ r)) (sym count) (record {
          parted = inr (ap (λ b. b ∷ y ∷ []) (is_dot x one) ∙ ap (λ b. 46 ∷ b ∷ []) (is_dot y two));
          within = omega arith;
          only = λ e _. absurd (omega (arith, ap length e));
        }))
    | inr single ↦ (let count : count_dots (x ∷ y ∷ r) ≡ 1 = rw (one, single) refl in
        subst (HasDots (x ∷ y ∷ r)) (sym count) (record {
          parted = inl (ap (λ b. b ∷ []) (is_dot x one));
          within = omega arith;
          only = λ _ e. grind (arith, nat_tests, single, e);
        }))
  ]
  | inr other ↦ absurd (no_dots x (y ∷ r) other some)
]

dots_at : (bytes : List ℕ) (n k : ℕ) → k ≡ count_dots (drop n bytes) → (k ≡ 0 → ⊥) → HasDots (drop n bytes) k
dots_at bytes n k count some =
    subst (HasDots (drop n bytes)) (sym count) (has_dots (drop n bytes) (λ e. some (count ∙ e)))

-- the cell at the front, the dots behind it, and the rest
parted_at : (bytes : List ℕ) (n k : ℕ) (one : Place) → SpellsCell (take n bytes) one → HasDots (drop n bytes) k
    → IsParted (take n bytes) (take k (drop n bytes)) (drop (n + k) bytes) one
parted_at bytes n k one is dots = record {
  spelled = is;
  parted = dots.parted;
  only = λ single e. dots.only single (ap (λ (l : List ℕ). get_or l 0 0) (drop-drop k n bytes) ∙ e);
}

parts_at : (bytes : List ℕ) (n k : ℕ) → bytes ≡ take n bytes ++ (take k (drop n bytes) ++ drop (n + k) bytes)
parts_at bytes n k =
    sym (take-append-drop n bytes)
    ∙ ap (λ (l : List ℕ). take n bytes ++ l)
    (sym (take-append-drop k (drop n bytes)) ∙ ap (λ (l : List ℕ). take k (drop n bytes) ++ l) (drop-drop k n bytes))

cut_at : (bytes : List ℕ) (n k at : ℕ)
    → take (n + k + at) bytes ≡ take n bytes ++ (take k (drop n bytes) ++ take at (drop (n + k) bytes))
cut_at bytes n k at =
    (let e : n + k + at ≡ n + (k + at) = omega arith in ap (λ m. take m bytes) e) ∙ take-add n (k + at) bytes
    ∙ ap (λ (l : List ℕ). take n bytes ++ l)
    (take-add k at (drop n bytes) ∙ ap (λ (l : List ℕ). take k (drop n bytes) ++ take at l) (drop-drop k n bytes))

long_at : (bytes : List ℕ) (n k : ℕ) → n + k ≤ length bytes → n + k + length (drop (n + k) bytes) ≡ length bytes
long_at bytes n k inside = omega (arith, length-drop (n + k) bytes)

-- where no dots stand
dots_some : (x : ℕ) (rest : List ℕ) → count_dots (x ∷ rest) ≡ 0 → x ≡ 46 → ⊥
dots_some x rest none e =
    let dot : (x == 46) ≡ true = grind (arith, nat_tests, e) in
    elim (cases_Bool (get_or rest 0 0 == 46)) [
      | inl two ↦ (let count : suc (suc zero) ≡ zero = rw (dot, two) at none in absurd (omega (arith, count)))
      | inr one ↦ (let count : suc zero ≡ zero = rw (dot, one) at none in absurd (omega (arith, count)))
    ]

no_dot_at : (n : ℕ) (bytes : List ℕ) → n < length bytes → count_dots (drop n bytes) ≡ 0 → get_or bytes n 0 ≡ 46 → ⊥
no_dot_at n [] inside none e = omega (arith, inside)
no_dot_at zero (x ∷ rest) inside none e = dots_some x rest none e
no_dot_at (suc n) (x ∷ rest) inside none e = no_dot_at n rest (omega (arith, inside)) none e

-- a first cell with something behind it that is no dot
pub no_dots_at : (s : Progress) (bytes : List ℕ) (end : ℕ) → IsFront bytes s end → (end ≡ length bytes → ⊥)
    → count_dots (drop end bytes) ≡ 0 → StopsAt IsSpan bytes end
no_dots_at s bytes end front more none =
    no_first s bytes end front (λ inside dot. absurd (no_dot_at end bytes inside none dot)) (λ same. absurd (more same))

-- dots with no address behind them end the span before it begins
pub no_second_at : (bytes : List ℕ) (n k end : ℕ) (one : Place) → n ≤ length bytes → SpellsCell (take n bytes) one
    → k ≡ count_dots (drop n bytes) → (k ≡ 0 → ⊥) → StopsAt IsAddress (drop (n + k) bytes) end
    → StopsAt IsSpan bytes (n + k + end)
no_second_at bytes n k end one inside is count some stops =
    let dots : HasDots (drop n bytes) k = dots_at bytes n k count some in
    no_second bytes (take n bytes) (take k (drop n bytes)) (drop (n + k) bytes) one (n + k) end (parts_at bytes n k)
    (long_at bytes n k (omega (arith, inside, dots.within, length-drop n bytes))) (cut_at bytes n k)
    (parted_at bytes n k one is dots) stops

-- two cells with dots between them spell their span
pub two_cells_at : (bytes : List ℕ) (n k : ℕ) (one other : Place) → SpellsCell (take n bytes) one
    → k ≡ count_dots (drop n bytes) → (k ≡ 0 → ⊥) → SpellsCell (drop (n + k) bytes) other
    → SpellsSpan bytes (spanned one other)
two_cells_at bytes n k one other is count some is' = inr (record {
  left = take n bytes;
  dots = take k (drop n bytes);
  right = drop (n + k) bytes;
  one = one;
  other = other;
  parts = parts_at bytes n k;
  parted = (dots_at bytes n k count some).parted;
  spelled_left = is;
  spelled_right = is';
  is = refl;
})
