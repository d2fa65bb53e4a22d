-- The records of a cell say the cell.
use Rattle.std.proofs.Common.{◌≡◌, ℕ, suc, ◌-◌, ◌*◌, ◌/◌, ◌%◌, ◌^◌, ◌≤◌, ◌<◌, true, false, ◌&&◌, nat_le, List, [], ◌∷◌}
use Rattle.std.proofs.Common.{◌++◌, length, take, refl, ap, ◌∙◌, sym, subst, arith, inl, inr}
use Rattle.std.specs.Int.RustNames.{int_lt}
use Rattle.std.specs.List.{list_all}
use Rattle.std.specs.Int.{from_le_bytes, to_le_bytes, w16, w64}
use Rattle.std.specs.Prelude.{◌==◌, ◌||◌, nat_lt, ℤ, pos, negsuc, nat_abs, cond, Some, Ok}
use Rattle.std.proofs.lemmas.Bool.{and_parts, cases_Bool, or_cases}
use Rattle.std.proofs.lemmas.Bool.Decides.{nat_tests}
use Rattle.std.proofs.lemmas.List.{append-nil, take_all}
use Rattle.std.proofs.lemmas.Nat.{from_le_bytes-to_le_bytes_2, from_le_bytes-to_le_bytes_8}
use Rattle.fixed_value.specs.Doubles.{double_of}
use Rattle.fixed_value.specs.Numbers.{signed}
use Rattle.fixed_value.specs.declared.doubles.DoubleRead.TheVariants as double
use Rattle.grid_address.specs.Place.{InSheet, Place}
use Rattle.grid_address.specs.declared.format.Format.{Format}
use Rattle.formula_tree.specs.Ranges.{is_ranged, is_text}
use Rattle.formula_tree.specs.Shape.{code_size, every, is_fine, IsFormula}
use Rattle.formula_tree.specs.Tree.{Tree}
use Rattle.formula_tree.specs.declared.value.Content.{Content}
use Rattle.formula_tree.specs.declared.value.Content.TheVariants as content
use Rattle.formula_tree.specs.declared.value.Value.{Value}
use Rattle.formula_tree.specs.declared.value.Value.TheVariants as value
use Rattle.sheet_store.specs.State.{CellState}
use Rattle.wk1_formula.specs.Doubles.{bits_of}
use Rattle.wk1_formula.specs.Reading.{before_zero, short_value, with_byte}
use Rattle.wk1_formula.specs.Stack.{tree_in}
use Rattle.wk1_formula.specs.Written.{code_of}
use Rattle.wk1_formula.proofs.Again.{code_read}
use Rattle.wk1_formula.proofs.Bits.{bits_back}
use Rattle.wk1_formula.proofs.Fronts.{before_back, bits_most}
use Rattle.wk1_formula.proofs.Sizes.{code_long}
use Rattle.wk1_records.specs.Meanings.{formula_state, label_state, meaning, number_state, stored_value, text_entry}
use Rattle.wk1_file.specs.Said.{content_entries, IsCell, IsValue, Says}
use Rattle.wk1_records.specs.Bodies.{head, made}
use Rattle.wk1_file.specs.Saved.{content_pieces, formula_piece, integer_bytes, is_integer, number_piece, value_bits}
use Rattle.wk1_records.specs.declared.entry.Entry.TheVariants as entry
use Rattle.wk1_records.specs.declared.kind.RecordKind.TheVariants as kind
use Rattle.wk1_file.proofs.Heads.{head_cell, headed}
use Rattle.lics_text.specs.Prefixes.{prefix_byte}
use Rattle.lics_text.specs.declared.prefix.LabelPrefix.{LabelPrefix}
use Rattle.lics_text.proofs.Prefixes.{prefix_back}
use Rattle.fixed_value.proofs.Written.{plus_size}
use Rattle.wk1_file.proofs.Prefixes.{prefix_some}

abbrev cell : Content → Value → Format → CellState
cell c v f = record { content = c; value = v; format = f }

-- ---- numbers

-- the number of two bytes of a whole number
abbrev two_bytes : ℤ → ℕ
two_bytes v = cond (int_lt v (pos 0)) (65536 - nat_abs v / 1000000) (nat_abs v / 1000000)

integer_back : (v : ℤ) → is_integer v ≡ true → (two_bytes v < 65536) × (short_value (two_bytes v) ≡ v)
integer_back (pos n) e =
    let x = and_parts (n % 1000000 == 0) (nat_le n 32767000000 || (int_lt (pos n) (pos 0) && (n == 32768000000))) e in
    let whole : n % 1000000 ≡ 0 = grind (arith, nat_tests, x.0) in
    let few : n ≤ 32767000000 =
    elim (or_cases (nat_le n 32767000000) (int_lt (pos n) (pos 0) && (n == 32768000000)) x.1) [
      | inl l ↦ grind (arith, nat_tests, l)
      | inr r ↦
          absurd (let y = (and_parts (int_lt (pos n) (pos 0)) (n == 32768000000) r).0 in
          let z = sym (plus_size n) ∙ y in cc)
    ] in
    let less : nat_lt (n / 1000000) 32768 ≡ true =
    (let l : n / 1000000 < 32768 = omega (arith, few) in grind (arith, nat_tests, l)) in
    rw (plus_size n) (omega (arith, few), rw less (ap pos (omega (arith, whole))))
integer_back (negsuc n) e =
    let x =
    and_parts (suc n % 1000000 == 0)
    (nat_le (suc n) 32767000000 || (int_lt (negsuc n) (pos 0) && (suc n == 32768000000))) e in
    let whole : suc n % 1000000 ≡ 0 = grind (arith, nat_tests, x.0) in
    let few : suc n ≤ 32768000000 =
    elim (or_cases (nat_le (suc n) 32767000000) (int_lt (negsuc n) (pos 0) && (suc n == 32768000000)) x.1) [
      | inl l ↦ (let k : suc n ≤ 32767000000 = grind (arith, nat_tests, l) in omega (arith, k))
      | inr r ↦
          (let k : suc n ≡ 32768000000 =
          (let y = (and_parts (int_lt (negsuc n) (pos 0)) (suc n == 32768000000) r).1 in grind (arith, nat_tests, y)) in
          omega (arith, k))
    ] in
    let some : 1 ≤ suc n / 1000000 = omega (arith, whole) in
    let more : nat_lt (65536 - suc n / 1000000) 32768 ≡ false =
    (let l : 32768 ≤ 65536 - suc n / 1000000 = omega (arith, few) in grind (arith, nat_tests, l)) in
    let back : (65536 - (65536 - suc n / 1000000)) * 1000000 ≡ suc n = omega (arith, whole, few) in
    (omega (arith, some), rw more (ap (signed true) back))

number_said : (n : ℕ) (p : Place) (f : Format) (v : ℤ) → InSheet p → nat_abs v ≤ 999999999999999
    → meaning n (number_piece p (cell (content.Number v) (value.Num v) f) v)
    ≡ Ok (entry.State p (cell (content.Number v) (value.Num v) f))
number_said n p f v inside most =
    let s : CellState = cell (content.Number v) (value.Num v) f in
    elim (cases_Bool (is_integer v)) [
      | inl short ↦ (
          let back = integer_back v short in
          let bytes : from_le_bytes w16 (to_le_bytes w16 (two_bytes v)) ≡ two_bytes v =
          from_le_bytes-to_le_bytes_2 (two_bytes v) (omega (arith, back.0)) in
          let is = ap short_value bytes ∙ back.1 in
          rw short (headed n p s (integer_bytes v) kind.Integer (entry.State p s) inside (λ x. absurd cc) (omega arith)
          (ap (λ (q : Place). Ok (entry.State q (cell (content.Number (short_value (from_le_bytes w16
          (to_le_bytes w16 (two_bytes v))))) (value.Num
          (short_value (from_le_bytes w16 (to_le_bytes w16 (two_bytes v))))) f)))
          (head_cell p s (integer_bytes v) inside)
          ∙ ap (λ x. Ok (entry.State p (cell (content.Number x) (value.Num x) f))) is))
          )
      | inr long ↦ (
          let bytes : from_le_bytes w64 (to_le_bytes w64 (bits_of v)) ≡ bits_of v =
          from_le_bytes-to_le_bytes_8 (bits_of v) (bits_most v most) in
          let is : double_of (from_le_bytes w64 (to_le_bytes w64 (bits_of v))) ≡ double.Num v =
          ap double_of bytes ∙ bits_back v most in
          rw long
          (headed n p s (to_le_bytes w64 (bits_of v)) kind.Number (entry.State p s) inside (λ x. absurd cc)
          (omega arith)
          (ap (number_state n (head p s ++ to_le_bytes w64 (bits_of v))) is
          ∙ ap (λ q. Ok (entry.State q s)) (head_cell p s (to_le_bytes w64 (bits_of v)) inside)))
          )
    ]

blank_said : (n : ℕ) (p : Place) (f : Format) → InSheet p
    → meaning n (made kind.Blank (head p (cell content.Blank value.Blank f)))
    ≡ Ok (entry.State p (cell content.Blank value.Blank f))
blank_said n p f inside =
    let s : CellState = cell content.Blank value.Blank f in
    headed n p s [] kind.Blank (entry.State p s) inside (λ x. absurd cc) (omega arith)
    (ap (λ q. Ok (entry.State q s)) (head_cell p s [] inside))

-- ---- texts

all_text : (t : List ℕ) → is_text t ≡ true → list_all (λ b. nat_le 32 b) t ≡ true
all_text t e = (and_parts (nat_le (length t) 240) (list_all (λ b. nat_le 32 b) t) e).1

text_back : (t : List ℕ) → is_text t ≡ true → before_zero (t ++ 0 ∷ []) ≡ Some t
text_back t e = ap before_zero (sym (append-nil (t ++ 0 ∷ []))) ∙ before_back t [] (all_text t e)

label_back : (prefix : LabelPrefix) (t : List ℕ) → is_text t ≡ true
    → before_zero (prefix_byte prefix ∷ (t ++ 0 ∷ [])) ≡ Some (prefix_byte prefix ∷ t)
label_back prefix t ok = rw (prefix_some prefix) (ap (with_byte (prefix_byte prefix)) (text_back t ok))

label_said : (n : ℕ) (p : Place) (f : Format) (prefix : LabelPrefix) (t : List ℕ) → InSheet p → is_text t ≡ true
    → meaning n
    (made kind.Label (head p (cell (content.Label prefix t) (value.Str t) f) ++ prefix_byte prefix ∷ (t ++ 0 ∷ [])))
    ≡ Ok (entry.State p (cell (content.Label prefix t) (value.Str t) f))
label_said n p f prefix t inside ok =
    let s : CellState = cell (content.Label prefix t) (value.Str t) f in
    let rest : List ℕ = prefix_byte prefix ∷ (t ++ 0 ∷ []) in
    headed n p s rest kind.Label (entry.State p s) inside (λ x. absurd cc) (omega arith)
    (ap (label_state n (head p s ++ rest)) (label_back prefix t ok)
    ∙ rw (prefix_back prefix, ok) (ap (λ q. Ok (entry.State q s)) (head_cell p s rest inside)))

text_said : (n : ℕ) (p : Place) (s : CellState) (t : List ℕ) → InSheet p → is_text t ≡ true
    → meaning n (made kind.Str (head p s ++ (t ++ 0 ∷ []))) ≡ Ok (entry.Text p t)
text_said n p s t inside ok =
    let rest : List ℕ = t ++ 0 ∷ [] in
    headed n p s rest kind.Str (entry.Text p t) inside (λ x. absurd cc) (omega arith)
    (ap (text_entry n (head p s ++ rest)) (text_back t ok)
    ∙ rw ok (ap (λ q. Ok (entry.Text q t)) (head_cell p s rest inside)))

-- ---- formulas

-- what the bits of a value are read as
abbrev bits_read : Value → Value
bits_read value.Blank = value.Num (pos 0)
bits_read (value.Num v) = value.Num v
bits_read (value.Str t) = value.Err
bits_read value.Err = value.Err
bits_read value.Na = value.Na

value_back : (v : Value) → IsValue v → stored_value (double_of (value_bits v)) ≡ bits_read v
value_back value.Blank h = refl
value_back (value.Num v) h = ap stored_value (bits_back v h)
value_back (value.Str t) h = refl
value_back value.Err h = refl
value_back value.Na h = refl

value_small : (v : Value) → IsValue v → value_bits v < 2 ^ 64
value_small value.Blank h = omega arith
value_small (value.Num v) h = bits_most v h
value_small (value.Str t) h = omega arith
value_small value.Err h = omega arith
value_small value.Na h = omega arith

-- a formula's code is short
short_code : (t : Tree) (p : Place) → IsFormula t → length (code_of t p) < 65536
short_code t p f =
    let most : code_size t ≤ 65520 =
    (let x = (and_parts (every is_fine t) (nat_le (code_size t) 65520) f.shaped).1 in grind (arith, nat_tests, x)) in
    omega (arith, most, code_long t p)

formula_said : (n : ℕ) (p : Place) (t : Tree) (v : Value) (f : Format) → InSheet p → IsFormula t
    → every is_ranged t ≡ true → IsValue v → length (code_of t p) < 65536
    → meaning n (formula_piece p (cell (content.Formula t) v f) (code_of t p))
    ≡ Ok (entry.Formula p (cell (content.Formula t) (bits_read v) f))
formula_said n p t v f inside ok ranged good short =
    let s : CellState = cell (content.Formula t) v f in
    let code : List ℕ = code_of t p in
    let rest : List ℕ = to_le_bytes w64 (value_bits v) ++ (to_le_bytes w16 (length code) ++ code) in
    let size : from_le_bytes w16 (to_le_bytes w16 (length code)) ≡ length code =
    from_le_bytes-to_le_bytes_2 (length code) (omega (arith, short)) in
    let bits : from_le_bytes w64 (to_le_bytes w64 (value_bits v)) ≡ value_bits v =
    from_le_bytes-to_le_bytes_8 (value_bits v) (value_small v good) in
    let stored : stored_value (double_of (from_le_bytes w64 (to_le_bytes w64 (value_bits v)))) ≡ bits_read v =
    ap (λ b. stored_value (double_of b)) bits ∙ value_back v good in
    let back : tree_in (take (from_le_bytes w16 (to_le_bytes w16 (length code))) code) ≡ Ok t =
    ap (λ k. tree_in (take k code)) size ∙ ap tree_in (take_all (length code) code (omega arith))
    ∙ code_read t p ok ranged inside in
    headed n p s rest kind.Formula (entry.Formula p (cell (content.Formula t) (bits_read v) f)) inside (λ x. absurd cc)
    (omega (arith, size)) (ap (formula_state n (head p s ++ rest)) back
    ∙ ap (λ q. Ok (entry.Formula q (cell (content.Formula t)
    (stored_value (double_of (from_le_bytes w64 (to_le_bytes w64 (value_bits v))))) f))) (head_cell p s rest inside)
    ∙ ap (λ w. Ok (entry.Formula p (cell (content.Formula t) w f))) stored)

-- the records of a cell say its state, and a formula's text
pub cell_said : (p : Place) (c : Content) (v : Value) (f : Format) → IsCell p (cell c v f)
    → Says (content_pieces p (cell c v f) c) (content_entries p (cell c v f) c)
cell_said p content.Blank v f h =
    subst (λ w. Says (content_pieces p (cell content.Blank w f) content.Blank)
    (content_entries p (cell content.Blank w f) content.Blank)) (sym h.fits) ((λ n. blank_said n p f h.inside), tt)
cell_said p (content.Number x) v f h =
    subst (λ w. Says (content_pieces p (cell (content.Number x) w f) (content.Number x))
    (content_entries p (cell (content.Number x) w f) (content.Number x))) (sym h.fits)
    ((λ n. number_said n p f x h.inside h.content), tt)
cell_said p (content.Label prefix t) v f h =
    subst (λ w. Says (content_pieces p (cell (content.Label prefix t) w f) (content.Label prefix t))
    (content_entries p (cell (content.Label prefix t) w f) (content.Label prefix t))) (sym h.fits)
    ((λ n. label_said n p f prefix t h.inside h.content), tt)
cell_said p (content.Formula t) value.Blank f h = absurd (h.fits refl)
cell_said p (content.Formula t) (value.Num v) f h = (
  (λ n. formula_said n p t (value.Num v) f h.inside h.content.0 h.content.1 h.value (short_code t p h.content.0)),
  tt,
)
cell_said p (content.Formula t) (value.Str u) f h = (
  (λ n. formula_said n p t (value.Str u) f h.inside h.content.0 h.content.1 h.value (short_code t p h.content.0)),
  ((λ n. text_said n p (cell (content.Formula t) (value.Str u) f) u h.inside h.value), tt),
)
cell_said p (content.Formula t) value.Err f h = (
  (λ n. formula_said n p t value.Err f h.inside h.content.0 h.content.1 h.value (short_code t p h.content.0)),
  tt,
)
cell_said p (content.Formula t) value.Na f h = (
  (λ n. formula_said n p t value.Na f h.inside h.content.0 h.content.1 h.value (short_code t p h.content.0)),
  tt,
)
