-- The records of a sheet are short enough, and none of them is an EOF.
use Rattle.std.proofs.Common.{◌≡◌, ℕ, ◌-◌, ◌≤◌, ◌<◌, true, nat_le, List, [], ◌∷◌, ◌++◌, length, map, replicate, arith}
use Rattle.std.proofs.Common.{inl, inr, length-append}
use Rattle.std.specs.Int.{to_le_bytes, w64}
use Rattle.std.specs.List.{AllByRecursion}
use Rattle.std.specs.Prelude.{Option, Some, None, flat_map, ℤ}
use Rattle.std.proofs.lemmas.Bool.{and_parts, cases_Bool}
use Rattle.std.proofs.lemmas.Bool.Decides.{nat_tests}
use Rattle.std.proofs.lemmas.List.{length-replicate}
use Rattle.std.specs.List.{list_all}
use Rattle.grid_address.specs.Place.{Extent, Place}
use Rattle.formula_tree.specs.Ranges.{is_text}
use Rattle.formula_tree.specs.Shape.{code_size, every, is_fine, IsFormula}
use Rattle.formula_tree.specs.Tree.{Tree}
use Rattle.formula_tree.specs.declared.value.Content.{Content}
use Rattle.formula_tree.specs.declared.value.Content.TheVariants as content
use Rattle.formula_tree.specs.declared.value.Value.{Value}
use Rattle.formula_tree.specs.declared.value.Value.TheVariants as value
use Rattle.range_names.specs.Names.{name_in}
use Rattle.sheet_store.specs.Choices.{Choices}
use Rattle.sheet_store.specs.Grid.{width_of, Grid}
use Rattle.sheet_store.specs.State.{CellState}
use Rattle.wk1_formula.specs.Doubles.{bits_of}
use Rattle.wk1_formula.specs.Written.{code_of}
use Rattle.wk1_formula.proofs.Sizes.{code_long}
use Rattle.wk1_records.specs.Kinds.{number_of}
use Rattle.wk1_records.specs.Records.{Piece}
use Rattle.wk1_file.specs.Said.{IsContent, IsRecord, IsSavedCell, IsSavedName, IsValue}
use Rattle.wk1_records.specs.Bodies.{head, made, place_bytes}
use Rattle.wk1_file.specs.Saved.{cell_pieces, columns, content_pieces, formula_piece, integer_bytes, is_integer}
use Rattle.wk1_file.specs.Saved.{name_piece, number_piece, range_piece, settings_pieces, text_pieces, width_piece}
use Rattle.wk1_file.specs.Saved.{width_pieces, bof}
use Rattle.wk1_records.specs.declared.kind.RecordKind.{RecordKind}
use Rattle.wk1_records.specs.declared.kind.RecordKind.TheVariants as kind
use Rattle.wk1_file.proofs.NamesRead.{short_name}
use Rattle.wk1_file.proofs.Widths.{each_column}
use Rattle.lics_text.specs.Prefixes.{prefix_byte}

numbered : (k : RecordKind) → number_of k < 65536
numbered kind.Bof = omega arith
numbered kind.Eof = omega arith
numbered kind.CalcMode = omega arith
numbered kind.CalcOrder = omega arith
numbered kind.Range = omega arith
numbered kind.Window = omega arith
numbered kind.ColumnWidth = omega arith
numbered kind.Name = omega arith
numbered kind.Blank = omega arith
numbered kind.Integer = omega arith
numbered kind.Number = omega arith
numbered kind.Label = omega arith
numbered kind.Formula = omega arith
numbered kind.Protection = omega arith
numbered kind.LabelFormat = omega arith
numbered kind.CalcCount = omega arith
numbered kind.Str = omega arith
numbered kind.HiddenColumns = omega arith
numbered kind.Other = omega arith

record_of : (k : RecordKind) (body : List ℕ) → (number_of k ≡ 1 → ⊥) → length body < 65536 → IsRecord (made k body)
record_of k body inner short = record { fits = (numbered k, short); inner = inner }

-- two lists of records that are short enough, and no EOF, are so together
pub both_records : (ps qs : List Piece) → AllByRecursion IsRecord ps → AllByRecursion IsRecord qs
    → AllByRecursion IsRecord (ps ++ qs)
both_records [] qs h k = k
both_records (p ∷ ps) qs h k = (h.0, both_records ps qs h.1 k)

-- so are the records of each of many
pub each_records : {X : Type 0} (f : X → List Piece) (xs : List X)
    → AllByRecursion (λ x. AllByRecursion IsRecord (f x)) xs → AllByRecursion IsRecord (flat_map f xs)
each_records f [] h = tt
each_records f (x ∷ xs) h = both_records (f x) (flat_map f xs) h.0 (each_records f xs h.1)

-- BOF and the range are short enough, and no EOF
pub head_records : (p : Place) → AllByRecursion IsRecord (bof ∷ range_piece p ∷ [])
head_records p = (
  record_of kind.Bof _ (λ e. absurd (omega (arith, e))) (omega arith),
  (record_of kind.Range _ (λ e. absurd (omega (arith, e))) (omega arith), tt),
)

-- so are the records of the settings
pub settings_records : (c : Choices) → AllByRecursion IsRecord (settings_pieces c)
settings_records c = (
  record_of kind.CalcCount _ (λ e. absurd (omega (arith, e))) (omega arith),
  (
    record_of kind.CalcMode _ (λ e. absurd (omega (arith, e))) (omega arith),
    (
      record_of kind.CalcOrder _ (λ e. absurd (omega (arith, e))) (omega arith),
      (
        record_of kind.Protection _ (λ e. absurd (omega (arith, e))) (omega arith),
        (
          record_of kind.LabelFormat _ (λ e. absurd (omega (arith, e))) (omega arith),
          (record_of kind.Window _ (λ e. absurd (omega (arith, e))) (omega arith), tt),
        ),
      ),
    ),
  ),
)

width_records : (col : ℕ) (o : Option ℕ) → AllByRecursion IsRecord (width_piece col o)
width_records col None = tt
width_records col (Some w) = (record_of kind.ColumnWidth _ (λ e. absurd (omega (arith, e))) (omega arith), tt)

-- so are those of the own widths
pub widths_records : (g : Grid) → AllByRecursion IsRecord (width_pieces g)
widths_records g =
    each_records (λ col. width_piece col (width_of g col)) columns
    (each_column _ (λ k less. width_records k (width_of g k)))

name_record : (e : List ℕ × Extent) → IsSavedName e → IsRecord (name_piece (name_in e.0) e.1)
name_record e h =
    let name : List ℕ = name_in e.0 in
    let zeros : List ℕ = replicate (16 - length name) 0 in
    let places : List ℕ = place_bytes e.1.first ++ place_bytes e.1.last in
    let body : List ℕ = name ++ (zeros ++ places) in
    let short = short_name name h.name in
    let size : length body < 65536 =
    omega (
      arith,
      length-append name (zeros ++ places),
      length-append zeros places,
      length-replicate {A = ℕ} (16 - length name) 0,
      short,
    ) in
    record_of kind.Name body (λ e. absurd (omega (arith, e))) size

-- so are those of the names
pub names_records : (es : List (List ℕ × Extent)) → AllByRecursion IsSavedName es
    → AllByRecursion IsRecord (map (λ e. name_piece (name_in e.0) e.1) es)
names_records [] h = tt
names_records (e ∷ es) h = (name_record e h.0, names_records es h.1)

text_short : (t : List ℕ) → is_text t ≡ true → length t ≤ 240
text_short t e =
    (let x = (and_parts (nat_le (length t) 240) (list_all (λ b. nat_le 32 b) t) e).0 in grind (arith, nat_tests, x))

number_record : (p : Place) (s : CellState) (v : ℤ) → IsRecord (number_piece p s v)
number_record p s v = elim (cases_Bool (is_integer v)) [
  | inl e ↦ rw e (record_of kind.Integer (head p s ++ integer_bytes v) (λ x. absurd (omega (arith, x))) (omega arith))
  | inr e ↦
      rw e (record_of kind.Number (head p s ++ to_le_bytes w64 (bits_of v)) (λ x. absurd (omega (arith, x)))
      (omega arith))
]

formula_record : (p : Place) (s : CellState) (t : Tree) → IsFormula t → IsRecord (formula_piece p s (code_of t p))
formula_record p s t f =
    let most : code_size t ≤ 65520 =
    (let x = (and_parts (every is_fine t) (nat_le (code_size t) 65520) f.shaped).1 in grind (arith, nat_tests, x)) in
    record_of kind.Formula _ (λ e. absurd (omega (arith, e))) (omega (arith, most, code_long t p))

text_records : (p : Place) (s : CellState) (v : Value) → IsValue v → AllByRecursion IsRecord (text_pieces p s v)
text_records p s value.Blank h = tt
text_records p s (value.Num v) h = tt
text_records p s (value.Str t) h = (
  record_of kind.Str (head p s ++ (t ++ 0 ∷ [])) (λ e. absurd (omega (arith, e)))
      (omega (arith, text_short t h, length-append t (0 ∷ []))),
  tt,
)
text_records p s value.Err h = tt
text_records p s value.Na h = tt

content_records : (p : Place) (s : CellState) (c : Content) → IsContent c → IsValue s.value
    → AllByRecursion IsRecord (content_pieces p s c)
content_records p s content.Blank h v = (
  record_of kind.Blank (head p s) (λ e. absurd (omega (arith, e))) (omega arith),
  tt,
)
content_records p s (content.Number x) h v = (number_record p s x, tt)
content_records p s (content.Label prefix t) h v = (
  record_of kind.Label (head p s ++ prefix_byte prefix ∷ (t ++ 0 ∷ [])) (λ e. absurd (omega (arith, e)))
      (omega (arith, text_short t h, length-append t (0 ∷ []))),
  tt,
)
content_records p s (content.Formula t) h v = (formula_record p s t h.0, text_records p s s.value v)

-- so are those of the cells
pub cells_records : (es : List (Place × CellState)) → AllByRecursion IsSavedCell es
    → AllByRecursion IsRecord (flat_map cell_pieces es)
cells_records [] h = tt
cells_records (e ∷ es) h =
    both_records (cell_pieces e) (flat_map cell_pieces es)
    (content_records e.0 e.1 e.1.content h.0.0.content h.0.0.value) (cells_records es h.1)
