-- Lookups in ranges.
use Rattle.std.specs.Prelude.{ℕ, ◌+◌, ◌==◌, nat_lt, not, position, zero, suc, ℤ, pos, Bool, true, false, Option, Some, None, List, [], ◌∷◌, length, if◌then◌else◌}
use Rattle.std.specs.FinMap.{get}
use Rattle.std.specs.Int.RustNames.{int_lt}
use Rattle.std.specs.List.{prefix_len}
use Rattle.std.specs.Ordering.{is_eq}
use Rattle.grid_address.specs.Place.{height_of, spanned, width_of, Extent, Place}
use Rattle.grid_address.specs.Progress.{address_in}
use Rattle.range_names.specs.Names.{key_of, NameMap}
use Rattle.at_functions.specs.Numbers.{count_of}
use Rattle.formula_tree.specs.declared.function.Function.{Function}
use Rattle.formula_tree.specs.declared.function.Function.TheVariants as function
use Rattle.formula_tree.specs.declared.value.Value.{Value}
use Rattle.formula_tree.specs.declared.value.Value.TheVariants as value
use Rattle.formula_parts.specs.declared.argument.Operand.{Operand}
use Rattle.formula_parts.specs.declared.argument.Operand.TheVariants as operand
use Rattle.value_functions.specs.Operators.{order_of_texts}
use Rattle.value_functions.specs.Values.{counted, number_in, on_number, on_text, stop_one, stop_two, text_in, unless_stopped}

-- a cell is a range of one cell
abbrev pub range_of : Operand → Option Extent
range_of operand.Other = None
range_of (operand.Cell p) = Some (spanned p p)
range_of (operand.Span s) = Some s

-- a range is wanted
abbrev pub on_range : Option Extent → (Extent → Value) → Value
on_range (Some s) f = f s
on_range None f = value.Err

-- COLS and ROWS
abbrev pub extent_value : Function → Extent → Value
extent_value function.Cols s = counted (width_of s)
extent_value f s = counted (height_of s)

-- a range is looked through by lines, which are its rows, or its columns across
abbrev pub lines_of : Bool → Extent → ℕ
lines_of true s = width_of s
lines_of false s = height_of s

-- how many cells a line has
abbrev pub depth_of : Bool → Extent → ℕ
depth_of true s = height_of s
depth_of false s = width_of s

-- a cell of a line
abbrev pub line_cell : Bool → Extent → ℕ → ℕ → Place
line_cell true s line k = record { row = s.first.row + k; col = s.first.col + line }
line_cell false s line k = record { row = s.first.row + line; col = s.first.col + k }

-- the first cells of so many lines, from a line on
abbrev pub firsts : (Place → Value) → Bool → Extent → ℕ → ℕ → List Value
firsts values across s line zero = []
firsts values across s line (suc count) = values (line_cell across s line 0) ∷ firsts values across s (line + 1) count

-- a number isn't passed where it is greater; labels and blanks count as 0, and ERR and NA stop
abbrev pub passes : ℤ → Value → Bool
passes x (value.Num y) = not (int_lt x y)
passes x value.Blank = not (int_lt x (pos 0))
passes x (value.Str t) = not (int_lt x (pos 0))
passes x value.Err = false
passes x value.Na = false

-- a label that is equal after folding
abbrev pub is_label : List ℕ → Value → Bool
is_label t (value.Str s) = is_eq (order_of_texts s t)
is_label t _ = false

-- the last line that was passed answers
abbrev pub by_passed : (Place → Value) → Bool → Extent → ℕ → ℕ → Value
by_passed values across s k zero = value.Err
by_passed values across s k (suc passed) = values (line_cell across s passed k)

-- the lookup of a number, by the cell at a place of each line
abbrev pub by_number : (Place → Value) → Bool → Extent → ℕ → ℤ → Value
by_number values across s k x =
    by_passed values across s k (prefix_len (passes x) (firsts values across s 0 (lines_of across s)))

-- the first line with the label answers, with its position for the place 0
abbrev pub by_place : (Place → Value) → Bool → Extent → ℕ → Option ℕ → Value
by_place values across s k None = value.Err
by_place values across s k (Some line) = if k == 0 then counted line else values (line_cell across s line k)

-- the lookup of a label
abbrev pub by_text : (Place → Value) → Bool → Extent → ℕ → List ℕ → Value
by_text values across s k t =
    by_place values across s k (position (is_label t) (firsts values across s 0 (lines_of across s)))

-- the lookup of any value; a blank one is 0
abbrev pub looked_up : (Place → Value) → Bool → Extent → ℕ → Value → Value
looked_up values across s k (value.Str t) = by_text values across s k t
looked_up values across s k (value.Num x) = by_number values across s k x
looked_up values across s k value.Blank = by_number values across s k (pos 0)
looked_up values across s k value.Err = value.Err
looked_up values across s k value.Na = value.Err

-- a place among so many, cut toward zero
abbrev pub place_by : Option ℕ → ℕ → Option ℕ
place_by None count = None
place_by (Some k) count = if nat_lt k count then Some k else None

-- the place that a number means
abbrev pub place_in : ℤ → ℕ → Option ℕ
place_in n count = place_by (count_of n) count

-- a place is wanted
abbrev pub on_place : Option ℕ → (ℕ → Value) → Value
on_place (Some k) f = f k
on_place None f = value.Err

-- VLOOKUP, and HLOOKUP across
abbrev pub lookup_value : (Place → Value) → Bool → Value → Operand → Value → Value
lookup_value values across x place n =
    on_range (range_of place) (λ s. unless_stopped (stop_two x n) (on_number (number_in n) (λ k.
    on_place (place_in k (depth_of across s)) (λ k. looked_up values across s k x))))

-- INDEX
abbrev pub index_value : (Place → Value) → Operand → Value → Value → Value
index_value values place col row =
    on_range (range_of place) (λ s. unless_stopped (stop_two col row) (on_number (number_in col) (λ c.
    on_number (number_in row) (λ r. on_place (place_in c (width_of s)) (λ c. on_place (place_in r (height_of s)) (λ r.
    values (line_cell false s r c)))))))

-- the cell, or the first cell of the name, that a text spells
abbrev pub named_cell : Option Extent → Option Place
named_cell None = None
named_cell (Some s) = Some s.first

-- the cell of an address, and otherwise of a name, which has 15 bytes at most
abbrev pub cell_or_name : NameMap → List ℕ → Option Place → Option Place
cell_or_name names t (Some p) = Some p
cell_or_name names t None = if nat_lt 15 (length t) then None else named_cell (get names (key_of t))

-- the cell that a text spells
abbrev pub spelled_cell : NameMap → List ℕ → Option Place
spelled_cell names t = cell_or_name names t (address_in t)

-- ERR where no cell is spelled
abbrev pub value_there : (Place → Value) → Option Place → Value
value_there values None = value.Err
value_there values (Some p) = values p

-- @@
abbrev pub pointed_value : (Place → Value) → NameMap → Value → Value
pointed_value values names a =
    unless_stopped (stop_one a) (on_text (text_in a) (λ t. value_there values (spelled_cell names t)))
