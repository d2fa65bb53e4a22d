-- Cells and spans that are written are read.
use Rattle.std.specs.Char.{is_ascii_alphabetic, is_ascii_digit}
use Rattle.std.proofs.Common.{◌≡◌, ℕ, zero, suc, ◌+◌, ◌≤◌, ◌<◌, Bool, true, false, not, ◌&&◌, ◌||◌, cond, ◌==◌, nat_le}
use Rattle.std.proofs.Common.{List, [], ◌∷◌, ◌++◌, take, drop, length, get_or, Option, Some, None, refl, sym, ap, ◌∙◌}
use Rattle.std.proofs.Common.{arith, append_assoc, length-append}
use Rattle.std.specs.Prelude.{codes, is_some, max, min}
use Rattle.std.specs.List.{list_all}
use Rattle.std.proofs.lemmas.Bool.Decides.{nat_tests}
use Rattle.std.proofs.lemmas.List.{take-append-drop}
use Rattle.std.proofs.lemmas.Bool.{and_parts}
use Rattle.grid_address.specs.Address.{column_name, decimal}
use Rattle.grid_address.specs.Axes.{is_fixed, Reference}
use Rattle.grid_address.specs.Leads.{reference_to, resolve}
use Rattle.grid_address.specs.Place.{same_place, spanned, Extent, InSheet, Place}
use Rattle.grid_address.specs.Progress.{address_in, count_dots}
use Rattle.grid_address.proofs.Places.{same_place_itself}
use Rattle.range_names.specs.Names.{is_word_byte as names_byte, is_plain, is_word, name_of_span, AreKeys, NameMap}
use Rattle.range_names.proofs.Named.{finds, Finds}
use Rattle.formula_tree.specs.Ranges.{is_reference}
use Rattle.formula_text.specs.declared.lexeme.LexemeKind.{LexemeKind}
use Rattle.formula_text.specs.declared.lexeme.LexemeKind.TheVariants.{Cell, Span}
use Rattle.formula_text.specs.declared.lexeme.Found.{Found}
use Rattle.formula_text.specs.Lexed.{found_by, part_found}
use Rattle.formula_text.specs.Printed.{alike, cell_text, in_order, mark, name_of_cell, name_of_corners, named_or}
use Rattle.formula_text.specs.Printed.{reference_text, same, span_text}
use Rattle.formula_text.specs.Words.{corner_behind, dotted, has_dollar, is_word_byte, letters_len, marked, named_span}
use Rattle.formula_text.specs.Words.{plain_address, reference_from, reference_in, span_kind, with_corner}
use Rattle.formula_text.specs.Words.{without_dollar, word_found, word_len, word_or_address}
use Rattle.formula_text.proofs.Cuts.{by_first, drop_front, front_len, take_front, IsPart, Starts}
use Rattle.formula_text.proofs.WordsRead.{all_two, all_weaker, column_letters, column_some, first_passes, leads_inside}
use Rattle.formula_text.proofs.WordsRead.{letter_no_dollar, mark_off, mark_words, plain_first, reference_back}
use Rattle.formula_text.proofs.WordsRead.{reference_read, reference_words}

-- what an address or a name begins with
abbrev begins_word : ℕ → Bool
begins_word b = is_ascii_alphabetic b || b == 36

starts : (b : ℕ) → begins_word b ≡ true → Starts b
starts b h = record {
  space = grind (arith, nat_tests, h);
  equal = grind (arith, nat_tests, h);
  greater = grind (arith, nat_tests, h);
}

by_word : (names : NameMap) (cell : Place) (at b : ℕ) (bs : List ℕ) → begins_word b ≡ true
    → part_found names cell at (b ∷ bs) ≡ word_found names cell at (b ∷ bs)
unfolding found_by
by_word names cell at b bs h =
    let digit : is_ascii_digit b ≡ false = grind (arith, nat_tests, h) in
    let point : (b == 46) ≡ false = grind (arith, nat_tests, h) in
    let quote : (b == 34) ≡ false = grind (arith, nat_tests, h) in
    let at_sign : (b == 64) ≡ false = grind (arith, nat_tests, h) in
    let hash : (b == 35) ≡ false = grind (arith, nat_tests, h) in
    let word : is_word_byte b ≡ true = grind (arith, nat_tests, h) in
    by_first names cell at b bs digit point ∙ rw (quote, at_sign, hash, word) refl

word_is : (names : NameMap) (cell : Place) (at : ℕ) (word rest : List ℕ) → 0 < length word
    → begins_word (get_or word 0 0) ≡ true → list_all is_word_byte word ≡ true
    → is_word_byte (get_or rest 0 0) ≡ false → part_found names cell at (word ++ rest)
    ≡ word_or_address names cell at word (length word) rest (reference_in cell word)
word_is names cell at [] rest some first all stops = absurd (omega arith)
word_is names cell at (b ∷ bs) rest some first all stops =
    let word : List ℕ = b ∷ bs in
    let found : ℕ → List ℕ → List ℕ → Found =
    λ len word behind. word_or_address names cell at word len behind (reference_in cell word) in
    let long : word_len (word ++ rest) ≡ length word = front_len is_word_byte word rest all stops in
    by_word names cell at b (bs ++ rest) first
    ∙ ap (λ k. found k (take k (word ++ rest)) (drop k (word ++ rest))) long
    ∙ ap (λ (l : List ℕ). found (length word) l (drop (length word) (word ++ rest))) (take_front word rest)
    ∙ ap (found (length word) word) (drop_front word rest)

begins_mark : (fixed : Bool) (rest : List ℕ) → is_ascii_alphabetic (get_or rest 0 0) ≡ true
    → begins_word (get_or (mark fixed ++ rest) 0 0) ≡ true
begins_mark true rest h = refl
begins_mark false rest h = rw h refl

no_dots : (rest : List ℕ) → (get_or rest 0 0 == 46) ≡ false → count_dots rest ≡ 0
no_dots [] h = refl
no_dots (b ∷ bs) h = rw h refl

first_stays : (xs ys : List ℕ) → 0 < length xs → get_or (xs ++ ys) 0 0 ≡ get_or xs 0 0
first_stays [] ys h = absurd (omega arith)
first_stays (x ∷ xs) ys h = refl

-- an address
reference_first : (r : Reference) (cell : Place) → is_reference r ≡ true
    → begins_word (get_or (reference_text cell r) 0 0) ≡ true
reference_first r cell h =
    let col : ℕ = (resolve r cell).col in
    begins_mark (is_fixed r.col) _ (first_passes is_ascii_alphabetic (column_name col) (mark (is_fixed r.row) ++ decimal
    ((resolve r cell).row + 1)) (column_some col) (column_letters col (leads_inside r cell h).1))

reference_some : (r : Reference) (cell : Place) → 0 < length (reference_text cell r)
reference_some r cell =
    let col : List ℕ = column_name (resolve r cell).col in
    let row : List ℕ = mark (is_fixed r.row) ++ decimal ((resolve r cell).row + 1) in
    omega (
      arith,
      column_some (resolve r cell).col,
      length-append (mark (is_fixed r.col)) (col ++ row),
      length-append col row,
    )

reference_part : (names : NameMap) (cell : Place) (r : Reference) → InSheet cell → is_reference r ≡ true
    → IsPart names cell (reference_text cell r) (Cell r)
reference_part names cell r inside h =
    let word : List ℕ = reference_text cell r in
    record {
      some = reference_some r cell;
      first = λ rest. starts (get_or (word ++ rest) 0 0)
          (ap begins_word (first_stays word rest (reference_some r cell)) ∙ reference_first r cell h);
      found = λ rest at stops.
          word_is names cell at word rest (reference_some r cell) (reference_first r cell h)
          (reference_words r cell h) stops.word
          ∙ ap (word_or_address names cell at word (length word) rest) (reference_read r cell inside h)
          ∙ ap (λ k. dotted cell r (length word) k (drop k rest)) (no_dots rest stops.point);
    }

corners_part : (names : NameMap) (cell : Place) (a b : Reference)
    → InSheet cell → is_reference a ≡ true → is_reference b ≡ true
    → IsPart names cell (reference_text cell a ++ (codes ".." ++ reference_text cell b)) (Span a b)
corners_part names cell a b inside h g =
    let one : List ℕ = reference_text cell a in
    let two : List ℕ = reference_text cell b in
    let whole : List ℕ = one ++ (codes ".." ++ two) in
    let size : length whole ≡ length one + 2 + length two = omega (arith, length-append one (46 ∷ 46 ∷ two)) in
    let some = reference_some a cell in
    record {
      some = omega (arith, size, some);
      first = λ rest. starts (get_or (whole ++ rest) 0 0) (
          ap (λ (l : List ℕ). begins_word (get_or l 0 0)) (append_assoc one (46 ∷ 46 ∷ two) rest)
          ∙ ap begins_word (first_stays one (46 ∷ 46 ∷ (two ++ rest)) some) ∙ reference_first a cell h);
      found = λ rest at stops. (
          let behind : List ℕ = two ++ rest in
          let long : word_len behind ≡ length two =
          front_len is_word_byte two rest (reference_words b cell g) stops.word in
          let corner : corner_behind cell 2 behind ≡ Some b = ap (λ k. reference_in cell (take k behind)) long
          ∙ ap (reference_in cell) (take_front two rest) ∙ reference_read b cell inside g in
          ap (part_found names cell at) (append_assoc one (46 ∷ 46 ∷ two) rest)
          ∙ word_is names cell at one (46 ∷ 46 ∷ behind) some (reference_first a cell h) (reference_words a cell h) refl
          ∙ ap (word_or_address names cell at one (length one) (46 ∷ 46 ∷ behind)) (reference_read a cell inside h)
          ∙ ap (with_corner a (length one) (length one + 2 + word_len behind)) corner
          ∙ ap (λ k. record { kind = Span a b; len = k }) (ap (λ k. length one + 2 + k) long ∙ sym size));
    }

-- a name
record IsNamed (name : List ℕ) : Type 0 where
  some : 0 < length name
  letter : is_ascii_alphabetic (get_or name 0 0) ≡ true
  words : list_all is_word_byte name ≡ true
  undollared : list_all (λ b. not (b == 36)) name ≡ true
  unread : address_in name ≡ None

word_fits : (b : ℕ) → names_byte b ≡ true → (is_word_byte b ≡ true) × (not (b == 36) ≡ true)
word_fits b h = (grind (arith, nat_tests, h), grind (arith, nat_tests, h))

no_some : {X : Type 0} (o : Option X) → not (is_some o) ≡ true → o ≡ None
no_some None h = refl
no_some (Some x) h = cc

letter_fits : (b : ℕ) → is_ascii_alphabetic b ≡ true → (is_word_byte b ≡ true) × (not (b == 36) ≡ true)
letter_fits b h = (grind (arith, nat_tests, h), grind (arith, nat_tests, h))

is_named : (name : List ℕ) → is_plain name ≡ true → IsNamed name
is_named [] h = absurd cc
is_named (b ∷ bs) h =
    let word = (and_parts (is_word (b ∷ bs)) (not (is_some (address_in (b ∷ bs)))) h).0 in
    let first = (and_parts (is_ascii_alphabetic b) (list_all names_byte bs) word).0 in
    let more = (and_parts (is_ascii_alphabetic b) (list_all names_byte bs) word).1 in
    let fits = letter_fits b first in
    record {
      some = omega arith;
      letter = first;
      words = rw fits.0 (all_weaker names_byte is_word_byte bs (λ b h. (word_fits b h).0) more);
      undollared = rw fits.1 (all_weaker names_byte (λ b. not (b == 36)) bs (λ b h. (word_fits b h).1) more);
      unread = no_some (address_in (b ∷ bs)) (and_parts (is_word (b ∷ bs)) (not (is_some (address_in (b ∷ bs)))) h).1;
    }

dropped_first : (k : ℕ) (bs : List ℕ) → list_all (λ b. not (b == 36)) bs ≡ true → (get_or (drop k bs) 0 0 == 36) ≡ false
dropped_first zero [] h = refl
dropped_first zero (b ∷ bs) h =
    (let first = (and_parts (not (b == 36)) (list_all (λ b. not (b == 36)) bs) h).0 in grind (arith, first))
dropped_first (suc k) [] h = refl
dropped_first (suc k) (b ∷ bs) h = dropped_first k bs (and_parts (not (b == 36)) (list_all (λ b. not (b == 36)) bs) h).1

either_none : {X : Type 0} (c : Bool) (o : Option X) → o ≡ None → cond c o None ≡ None
either_none true o h = h
either_none false o h = refl

name_unread : (cell : Place) (fixed : Bool) (name : List ℕ) → IsNamed name
    → reference_in cell (mark fixed ++ name) ≡ None
name_unread cell fixed name n =
    let off = mark_off fixed name (letter_no_dollar (get_or name 0 0) n.letter) in
    let k : ℕ = letters_len name in
    let row = plain_first (drop k name) (dropped_first k name n.undollared) in
    let none : plain_address (take k name) (drop k name) ≡ None = either_none (list_all is_ascii_digit (drop k name))
    (address_in (take k name ++ drop k name)) (ap address_in (take-append-drop k name) ∙ n.unread) in
    ap (λ b. reference_from cell b (without_dollar (mark fixed ++ name))) off.0 ∙ ap (reference_from cell fixed) off.1
    ∙ ap (λ (l : List ℕ). marked cell fixed (has_dollar (drop k name)) (plain_address (take k name) l)) row.1
    ∙ ap (marked cell fixed (has_dollar (drop k name))) none

named_is : (names : NameMap) (name : List ℕ) (s : Extent) → Finds names s name → named_span names name ≡ Some s
named_is names name s f = (let test : nat_le (length name) 15 ≡ true =
    (let short = f.short in grind (arith, nat_tests, short)) in rw test f.found)

name_part : (names : NameMap) (cell : Place) (fixed : Bool) (name : List ℕ) (s : Extent) (kind : LexemeKind)
    → Finds names s name → ((at : ℕ) → span_kind cell at fixed (Some s) ≡ kind)
    → IsPart names cell (mark fixed ++ name) kind
name_part names cell fixed name s kind f is =
    let n = is_named name f.plain in
    let word : List ℕ = mark fixed ++ name in
    let some : 0 < length word = omega (arith, n.some, length-append (mark fixed) name) in
    let first = begins_mark fixed name n.letter in
    let off = mark_off fixed name (letter_no_dollar (get_or name 0 0) n.letter) in
    record {
      some = some;
      first = λ rest. starts (get_or (word ++ rest) 0 0) (ap begins_word (first_stays word rest some) ∙ first);
      found = λ rest at stops.
          word_is names cell at word rest some first
          (all_two is_word_byte (mark fixed) name (mark_words fixed) n.words) stops.word
          ∙ ap (word_or_address names cell at word (length word) rest) (name_unread cell fixed name n)
          ∙ ap (λ b. record { kind = span_kind cell at b (named_span names (without_dollar word)); len = length word })
          off.0
          ∙ ap (λ (l : List ℕ). record { kind = span_kind cell at fixed (named_span names l); len = length word }) off.1
          ∙ ap (λ x. record { kind = span_kind cell at fixed x; len = length word }) (named_is names name s f)
          ∙ ap (λ k. record { kind = k; len = length word }) (is at);
    }

if_some : {X : Type 0} (c : Bool) (o : Option X) (x : X) → cond c o None ≡ Some x → (c ≡ true) × (o ≡ Some x)
if_some true o x h = (refl, h)
if_some false o x h = absurd cc

same_is : (a b : Bool) → same a b ≡ true → a ≡ b
same_is true b h = sym h
same_is false false h = refl
same_is false true h = absurd cc

-- the corners of a span whose corners are in order
corners : (p q : Place) → p.row ≤ q.row → p.col ≤ q.col → spanned p q ≡ record { first = p; last = q }
corners p q h g =
    let one : min p.row q.row ≡ p.row = grind (arith, nat_tests, h) in
    let two : min p.col q.col ≡ p.col = grind (arith, nat_tests, g) in
    let three : max p.row q.row ≡ q.row = grind (arith, nat_tests, h) in
    let four : max p.col q.col ≡ q.col = grind (arith, nat_tests, g) in
    λ i. record { first = record { row = one i; col = two i }; last = record { row = three i; col = four i } }

cell_kind : (cell : Place) (r : Reference) (at : ℕ) → InSheet cell → is_reference r ≡ true → alike r r ≡ true
    → span_kind cell at (is_fixed r.col) (Some (spanned (resolve r cell) (resolve r cell))) ≡ Cell r
cell_kind cell r at inside h a =
    let p : Place = resolve r cell in
    let row : is_fixed r.row ≡ is_fixed r.col =
    same_is (is_fixed r.row) (is_fixed r.col) (and_parts (same (is_fixed r.row) (is_fixed r.col)) _ a).0 in
    ap (λ s. span_kind cell at (is_fixed r.col) (Some s)) (corners p p (omega arith) (omega arith))
    ∙ ap (λ c. cond c (Cell (reference_to p cell (is_fixed r.col) (is_fixed r.col))) (Span (reference_to p cell
    (is_fixed r.col) (is_fixed r.col)) (reference_to p cell (is_fixed r.col) (is_fixed r.col)))) (same_place_itself p)
    ∙ ap (λ b. Cell (reference_to p cell (is_fixed r.col) b)) (sym row)
    ∙ ap Cell (reference_back r cell inside h)

cell_by : (names : NameMap) (cell : Place) (r : Reference) (o : Option (List ℕ))
    → AreKeys names → InSheet cell → is_reference r ≡ true → name_of_cell names cell r ≡ o
    → IsPart names cell (named_or (is_fixed r.col) (reference_text cell r) o) (Cell r)
cell_by names cell r None keyed inside h is = reference_part names cell r inside h
cell_by names cell r (Some name) keyed inside h is =
    let s : Extent = spanned (resolve r cell) (resolve r cell) in
    let parts = if_some (alike r r) (name_of_span names s) name is in
    name_part names cell (is_fixed r.col) name s (Cell r) (finds names s name keyed parts.1)
    (λ at. cell_kind cell r at inside h parts.0)

-- the text of a reference is one part, the cell
pub cell_part : (names : NameMap) (cell : Place) (r : Reference) → AreKeys names → InSheet cell → is_reference r ≡ true
    → IsPart names cell (cell_text names cell r) (Cell r)
cell_part names cell r keyed inside h = cell_by names cell r (name_of_cell names cell r) keyed inside h refl

record InOrder (p q : Place) : Type 0 where
  rows : p.row ≤ q.row
  cols : p.col ≤ q.col
  apart : same_place p q ≡ false

ordered : (p q : Place) → in_order p q ≡ true → InOrder p q
ordered p q h = record {
  rows = grind (arith, nat_tests, h);
  cols = grind (arith, nat_tests, h);
  apart = grind (arith, nat_tests, h);
}

span_kind_is : (cell : Place) (a b : Reference) (at : ℕ) → InSheet cell → is_reference a ≡ true → is_reference b ≡ true
    → alike a b ≡ true → in_order (resolve a cell) (resolve b cell) ≡ true →
    span_kind cell at (is_fixed a.col) (Some (spanned (resolve a cell) (resolve b cell))) ≡ Span a b
span_kind_is cell a b at inside h g like order =
    let p : Place = resolve a cell in
    let q : Place = resolve b cell in
    let fixed : Bool = is_fixed a.col in
    let o = ordered p q order in
    let more =
    (and_parts (same (is_fixed a.row) fixed) (same (is_fixed b.col) fixed && same (is_fixed b.row) fixed) like).1 in
    let row : is_fixed a.row ≡ fixed =
    same_is (is_fixed a.row) fixed (and_parts (same (is_fixed a.row) fixed) _ like).0 in
    let other_col : is_fixed b.col ≡ fixed =
    same_is (is_fixed b.col) fixed (and_parts (same (is_fixed b.col) fixed) _ more).0 in
    let other_row : is_fixed b.row ≡ fixed =
    same_is (is_fixed b.row) fixed (and_parts (same (is_fixed b.col) fixed) _ more).1 in
    let one : reference_to p cell fixed fixed ≡ a = ap (λ x. reference_to p cell fixed x) (sym row)
    ∙ reference_back a cell inside h in
    let two : reference_to q cell fixed fixed ≡ b = ap (λ x. reference_to q cell x fixed) (sym other_col)
    ∙ ap (λ x. reference_to q cell (is_fixed b.col) x) (sym other_row) ∙ reference_back b cell inside g in
    ap (λ s. span_kind cell at fixed (Some s)) (corners p q o.rows o.cols)
    ∙ ap (λ c. cond c (Cell (reference_to p cell fixed fixed))
    (Span (reference_to p cell fixed fixed) (reference_to q cell fixed fixed))) o.apart
    ∙ ap (λ x. Span x (reference_to q cell fixed fixed)) one ∙ ap (Span a) two

span_by : (names : NameMap) (cell : Place) (a b : Reference) (o : Option (List ℕ)) → AreKeys names → InSheet cell
    → is_reference a ≡ true → is_reference b ≡ true → name_of_corners names cell a b ≡ o → IsPart names cell
    (named_or (is_fixed a.col) (reference_text cell a ++ (codes ".." ++ reference_text cell b)) o) (Span a b)
span_by names cell a b None keyed inside h g is = corners_part names cell a b inside h g
span_by names cell a b (Some name) keyed inside h g is =
    let s : Extent = spanned (resolve a cell) (resolve b cell) in
    let parts = if_some (alike a b && in_order (resolve a cell) (resolve b cell)) (name_of_span names s) name is in
    let like = (and_parts (alike a b) (in_order (resolve a cell) (resolve b cell)) parts.0).0 in
    let order = (and_parts (alike a b) (in_order (resolve a cell) (resolve b cell)) parts.0).1 in
    name_part names cell (is_fixed a.col) name s (Span a b) (finds names s name keyed parts.1)
    (λ at. span_kind_is cell a b at inside h g like order)

-- the text of two references with their points is one part, the span
pub span_part : (names : NameMap) (cell : Place) (a b : Reference) → AreKeys names → InSheet cell
    → is_reference a ≡ true → is_reference b ≡ true → IsPart names cell (span_text names cell a b) (Span a b)
span_part names cell a b keyed inside h g =
    span_by names cell a b (name_of_corners names cell a b) keyed inside h g refl
