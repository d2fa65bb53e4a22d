-- What a record says, or why it is faulty.
use Rattle.std.specs.Int.{from_le_bytes, w64}
use Rattle.std.specs.List.{range_with_len}
use Rattle.std.specs.Prelude.{ℕ, ℤ, ◌+◌, ◌/◌, ◌%◌, ◌^◌, Bool, not, ◌&&◌, ◌==◌, nat_le, nat_lt, min, max, map, get_or, Option, Some, None, Result, Ok, Err, List, [], ◌∷◌, length, take, drop, if◌then◌else◌}
use Rattle.fixed_value.specs.Doubles.{double_of}
use Rattle.fixed_value.specs.declared.doubles.DoubleRead.{DoubleRead}
use Rattle.fixed_value.specs.declared.doubles.DoubleRead.TheVariants as double
use Rattle.grid_address.specs.Limits.{COLUMNS, ROWS}
use Rattle.grid_address.specs.Place.{Place}
use Rattle.formula_tree.specs.Ranges.{is_text}
use Rattle.formula_tree.specs.Tree.{call, no_trees, Tree}
use Rattle.formula_tree.specs.declared.value.Content.{Content}
use Rattle.formula_tree.specs.declared.value.Content.TheVariants as content
use Rattle.formula_tree.specs.declared.value.Value.{Value}
use Rattle.formula_tree.specs.declared.value.Value.TheVariants as value
use Rattle.range_names.specs.Names.{fault_of}
use Rattle.range_names.specs.declared.fault.NameFault.{NameFault}
use Rattle.sheet_store.specs.Choices.{is_global_prefix}
use Rattle.sheet_store.specs.declared.order.Order.{Order}
use Rattle.sheet_store.specs.declared.order.Order.TheVariants.{Natural, Columnwise, Rowwise}
use Rattle.sheet_store.specs.State.{CellState}
use Rattle.sheet_store.specs.Limits.{MOST_WIDTH}
use Rattle.wk1_formula.specs.Reading.{before_zero, short_at, short_value}
use Rattle.wk1_formula.specs.Stack.{tree_in}
use Rattle.wk1_formula.specs.declared.fault.CodeFault.{CodeFault}
use Rattle.wk1_formula.specs.declared.fault.CodeFault.TheVariants as code
use Rattle.wk1_records.specs.Kinds.{has_head, kind_of, least_length, order_byte}
use Rattle.wk1_records.specs.Records.{Piece}
use Rattle.wk1_records.specs.declared.entry.Entry.{Entry}
use Rattle.wk1_records.specs.declared.entry.Entry.TheVariants as entry
use Rattle.wk1_records.specs.declared.fault.Wk1Fault.{Wk1Fault}
use Rattle.wk1_records.specs.declared.fault.Wk1Fault.TheVariants as fault
use Rattle.wk1_records.specs.declared.kind.RecordKind.{RecordKind}
use Rattle.wk1_records.specs.declared.kind.RecordKind.TheVariants as kind
use Rattle.lics_text.specs.Prefixes.{prefix_of}
use Rattle.lics_text.specs.declared.prefix.LabelPrefix.{LabelPrefix}
use Rattle.lics_text.specs.declared.prefix.LabelPrefix.TheVariants as label
use Rattle.formula_tree.specs.declared.function.Function.{Function}
use Rattle.formula_tree.specs.declared.function.Function.TheVariants as function

-- the byte at an offset
abbrev pub byte_at : ℕ → List ℕ → ℕ
byte_at at body = get_or body at 0

-- a cell as two numbers of two bytes, the column first
abbrev pub place_at : ℕ → List ℕ → Place
place_at at body = record { row = short_at (at + 2) body; col = short_at at body }

-- whether a cell is in the sheet
abbrev pub is_inside : Place → Bool
is_inside p = nat_lt p.row ROWS && nat_lt p.col COLUMNS

-- the cell of a head, which begins with the format byte
abbrev pub cell_of : List ℕ → Place
cell_of body = place_at 1 body

-- a content and its value, with the format byte of the head
abbrev pub state_of : List ℕ → Content → Value → CellState
state_of body c v = record { content = c; value = v; format = record { 0 = byte_at 0 body } }

-- the double in the eight bytes at an offset
abbrev pub double_at : ℕ → List ℕ → DoubleRead
double_at at body = double_of (from_le_bytes w64 (take 8 (drop at body)))

-- ERR and NA as a cell holds them: as formulas
abbrev pub constant : Function → Content
constant f = content.Formula (call f no_trees)

-- a cell's state with a number
abbrev pub numbered : List ℕ → ℤ → CellState
numbered body v = state_of body (content.Number v) (value.Num v)

-- a number, or the formula of ERR or NA
abbrev pub number_state : ℕ → List ℕ → DoubleRead → Result Entry Wk1Fault
number_state n body (double.Num v) = Ok (entry.State (cell_of body) (numbered body v))
number_state n body double.Err = Ok (entry.State (cell_of body) (state_of body (constant function.Err) value.Err))
number_state n body double.Na = Ok (entry.State (cell_of body) (state_of body (constant function.Na) value.Na))
number_state n body double.TooLarge = Err (fault.NumberTooLarge n)

-- a text behind its prefix, or a whole text where its first byte is none
abbrev pub label_by : Option LabelPrefix → ℕ → List ℕ → LabelPrefix × List ℕ
label_by None b t = (label.Left, b ∷ t)
label_by (Some p) b t = (p, t)

-- a label's prefix is told by its first byte, and is ' where that is none
abbrev pub label_of : List ℕ → LabelPrefix × List ℕ
label_of [] = (label.Left, [])
label_of (b ∷ t) = label_by (prefix_of b) b t

-- a cell's state with a label
abbrev pub labelled : List ℕ → LabelPrefix × List ℕ → CellState
labelled body l = state_of body (content.Label l.0 l.1) (value.Str l.1)

-- a label, whose text is one that a cell may hold
abbrev pub label_state : ℕ → List ℕ → Option (List ℕ) → Result Entry Wk1Fault
label_state n body None = Err (fault.BadText n)
label_state n body (Some t) =
    if is_text (label_of t).1
    then Ok (entry.State (cell_of body) (labelled body (label_of t)))
    else Err (fault.BadText n)

-- the value that stands with a formula; one that is too large is ERR
abbrev pub stored_value : DoubleRead → Value
stored_value (double.Num v) = value.Num v
stored_value double.Err = value.Err
stored_value double.Na = value.Na
stored_value double.TooLarge = value.Err

-- a formula with its stored value, or the fault of its code
abbrev pub formula_state : ℕ → List ℕ → Result Tree CodeFault → Result Entry Wk1Fault
formula_state n body (Ok t) =
    Ok (entry.Formula (cell_of body) (state_of body (content.Formula t) (stored_value (double_at 5 body))))
formula_state n body (Err (code.Bad at)) = Err (fault.BadCode n at)
formula_state n body (Err (code.Outside f)) = Err (fault.FunctionOutside n f)
formula_state n body (Err code.TooLarge) = Err (fault.NumberTooLarge n)
formula_state n body (Err code.TooDeep) = Err (fault.TooDeep n)
formula_state n body (Err code.Memory) = Err fault.Memory

-- a formula's code, whose length stands before it
abbrev pub code_in : List ℕ → List ℕ
code_in body = take (short_at 13 body) (drop 15 body)

-- a text that is a value
abbrev pub text_entry : ℕ → List ℕ → Option (List ℕ) → Result Entry Wk1Fault
text_entry n body None = Err (fault.BadText n)
text_entry n body (Some t) = if is_text t then Ok (entry.Text (cell_of body) t) else Err (fault.BadText n)

-- the order of a byte; any that is no other order's is the natural one's
abbrev pub order_of : ℕ → Order
order_of b =
    if b == order_byte Columnwise then Columnwise else (if b == order_byte Rowwise then Rowwise else Natural)

-- a pointer outside the sheet is A1
abbrev pub pointer_of : Place → Place
pointer_of p = if is_inside p then p else record { row = 0; col = 0 }

-- a column's width
abbrev pub is_width : ℕ → Bool
is_width n = nat_le 1 n && nat_le n MOST_WIDTH

-- the global width, which is 9 where it is none
abbrev pub window_width : List ℕ → ℕ
window_width body = if is_width (short_at 6 body) then short_at 6 body else 9

-- the pointer, the global format and the global width
abbrev pub window_entry : List ℕ → Entry
window_entry body = entry.Window (pointer_of (place_at 0 body)) (record { 0 = byte_at 4 body }) (window_width body)

-- the own width of a column, if both are such
abbrev pub width_entry : List ℕ → Entry
width_entry body =
    if nat_lt (short_at 0 body) COLUMNS && is_width (byte_at 2 body) then entry.Width (short_at 0 body) (byte_at 2 body)
    else entry.Nothing

-- each bit of 32 bytes is a column, the lowest first
abbrev pub bit_at : List ℕ → ℕ → Bool
bit_at body c = byte_at (c / 8) body / 2 ^ (c % 8) % 2 == 1

-- whether each column is hidden
unfoldable pub bits_in : List ℕ → List Bool
bits_in body = map (bit_at body) (range_with_len 0 COLUMNS)

-- a span whose corners are in the sheet and in order
abbrev pub is_span : Place → Place → Bool
is_span a b = (is_inside a && is_inside b) && (nat_le a.row b.row && nat_le a.col b.col)

-- a name with its span, which comes behind 16 bytes
abbrev pub span_entry : ℕ → List ℕ → List ℕ → Result Entry Wk1Fault
span_entry n body name =
    if is_span (place_at 16 body) (place_at 20 body)
    then Ok (entry.Name name (record { first = place_at 16 body; last = place_at 20 body })) else Err (fault.BadSpan n)

-- a name that names allow
abbrev pub if_name : ℕ → List ℕ → List ℕ → Option NameFault → Result Entry Wk1Fault
if_name n body name None = span_entry n body name
if_name n body name (Some f) = Err (fault.BadName n)

-- a name that ends before a 00
abbrev pub name_entry : ℕ → List ℕ → Option (List ℕ) → Result Entry Wk1Fault
name_entry n body None = Err (fault.BadName n)
name_entry n body (Some name) = if_name n body name (fault_of name)

-- a global label prefix, or ' where it is none
abbrev pub global_prefix : Option LabelPrefix → LabelPrefix
global_prefix None = label.Left
global_prefix (Some p) = if is_global_prefix p then p else label.Left

-- what a body says by its type
abbrev pub said : ℕ → List ℕ → RecordKind → Result Entry Wk1Fault
said n body kind.Bof = Ok entry.Nothing
said n body kind.Eof = Ok entry.Nothing
said n body kind.CalcMode = Ok (entry.Automatic (not (byte_at 0 body == 0)))
said n body kind.CalcOrder = Ok (entry.Order (order_of (byte_at 0 body)))
said n body kind.Range = Ok entry.Nothing
said n body kind.Window = Ok (window_entry body)
said n body kind.ColumnWidth = Ok (width_entry body)
said n body kind.Name = name_entry n body (before_zero (take 16 body))
said n body kind.Blank = Ok (entry.State (cell_of body) (state_of body content.Blank value.Blank))
said n body kind.Integer = Ok (entry.State (cell_of body) (numbered body (short_value (short_at 5 body))))
said n body kind.Number = number_state n body (double_at 5 body)
said n body kind.Label = label_state n body (before_zero (drop 5 body))
said n body kind.Formula = formula_state n body (tree_in (code_in body))
said n body kind.Protection = Ok (entry.Protection (not (byte_at 0 body == 0)))
said n body kind.LabelFormat = Ok (entry.Prefix (global_prefix (prefix_of (byte_at 0 body))))
said n body kind.CalcCount = Ok (entry.Passes (min (max (byte_at 0 body) 1) 50))
said n body kind.Str = text_entry n body (before_zero (drop 5 body))
said n body kind.HiddenColumns = Ok (entry.Hidden (bits_in body))
said n body kind.Other = Ok entry.Nothing

-- a short body comes first, then a cell outside the sheet, then the rest
abbrev pub meaning_by : ℕ → List ℕ → RecordKind → Result Entry Wk1Fault
meaning_by n body k =
    if nat_lt (length body) (least_length k body) then Err (fault.BadLength n)
    else if has_head k && not (is_inside (cell_of body)) then Err (fault.CellOutside n)
    else said n body k

-- what the record of a number says
abbrev pub meaning : ℕ → Piece → Result Entry Wk1Fault
meaning n p = meaning_by n p.body (kind_of p.kind)
