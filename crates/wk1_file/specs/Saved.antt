-- The records that are saved of a sheet, in their order.
use Rattle.std.specs.Int.{to_le_bytes, w16, w64}
use Rattle.std.specs.Int.RustNames.{int_lt}
use Rattle.std.specs.List.{list_any, range_with_len}
use Rattle.std.specs.Prelude.{ℕ, zero, suc, ◌+◌, ◌-◌, ◌*◌, ◌/◌, ◌%◌, ◌^◌, ℤ, pos, nat_abs, Bool, true, false, ◌&&◌, ◌||◌, ◌==◌, nat_le, nat_lt, max, map, flat_map, sum, replicate, get_or, Option, Some, None, List, [], ◌∷◌, ◌++◌, length, if◌then◌else◌}
use Rattle.std.specs.FinMap as finite
use Rattle.grid_address.specs.Limits.{COLUMNS}
use Rattle.grid_address.specs.Place.{Extent, Place}
use Rattle.formula_tree.specs.declared.value.Content.{Content}
use Rattle.formula_tree.specs.declared.value.Content.TheVariants as content
use Rattle.formula_tree.specs.declared.value.Value.{Value}
use Rattle.formula_tree.specs.declared.value.Value.TheVariants as value
use Rattle.range_names.specs.Names.{name_in, NameMap}
use Rattle.sheet_store.specs.Choices.{Choices}
use Rattle.sheet_store.specs.Grid.{is_hidden, last_used, width_of, Grid}
use Rattle.sheet_store.specs.declared.order.Order.{Order}
use Rattle.sheet_store.specs.declared.order.Order.TheVariants.{Natural, Columnwise, Rowwise}
use Rattle.sheet_store.specs.State.{CellState}
use Rattle.sheet_store.specs.declared.writes.SavedSheet.{SavedSheet}
use Rattle.wk1_formula.specs.Doubles.{bits_of, ERR_BITS, NA_BITS}
use Rattle.wk1_formula.specs.Written.{code_of}
use Rattle.wk1_records.specs.Bodies.{head, made, place_bytes}
use Rattle.wk1_records.specs.Kinds.{order_byte}
use Rattle.wk1_records.specs.Records.{pieces_bytes, Piece}
use Rattle.wk1_records.specs.declared.kind.RecordKind.{RecordKind}
use Rattle.wk1_records.specs.declared.kind.RecordKind.TheVariants as kind
use Rattle.lics_text.specs.Prefixes.{prefix_byte}

-- a whole number of -32768 to 32767, in millionths
abbrev pub is_integer : ℤ → Bool
is_integer v =
    (nat_abs v % 1000000 == 0) && (nat_le (nat_abs v) 32767000000 || (int_lt v (pos 0) && (nat_abs v == 32768000000)))

-- the two bytes of a whole number, in two's complement
abbrev pub integer_bytes : ℤ → List ℕ
integer_bytes v = to_le_bytes w16 (if int_lt v (pos 0) then 65536 - nat_abs v / 1000000 else nat_abs v / 1000000)

-- a number takes two bytes where they hold it, and else the eight of a double
abbrev pub number_piece : Place → CellState → ℤ → Piece
number_piece p s v =
    if is_integer v then made kind.Integer (head p s ++ integer_bytes v)
    else made kind.Number (head p s ++ to_le_bytes w64 (bits_of v))

-- the bits of a value that is a text: those that 1-2-3 saves, of no number; other programs take eight zeros for 0
abbrev pub TEXT_BITS : ℕ
TEXT_BITS = 0x7FF0FFFFFFFFFFFF

-- the eight bytes of a formula's value; a text stands in a record of its own
abbrev pub value_bits : Value → ℕ
value_bits value.Blank = 0
value_bits (value.Num v) = bits_of v
value_bits (value.Str t) = TEXT_BITS
value_bits value.Err = ERR_BITS
value_bits value.Na = NA_BITS

-- a formula's value, the length of its code, and its code
abbrev pub formula_piece : Place → CellState → List ℕ → Piece
formula_piece p s code =
    made kind.Formula (head p s ++ (to_le_bytes w64 (value_bits s.value) ++ (to_le_bytes w16 (length code) ++ code)))

-- a byte for what is on, and 0 for what is off
abbrev pub on_byte : Bool → ℕ → ℕ
on_byte true n = n
on_byte false n = 0

-- a byte of eight columns, the lowest bit first
abbrev pub bits_byte : List Bool → ℕ → ℕ
bits_byte bits k = sum (map (λ j. on_byte (get_or bits (8 * k + j) false) (2 ^ j)) (range_with_len 0 8))

-- eight columns to a byte
unfoldable pub bits_bytes : List Bool → List ℕ
bits_bytes bits = map (bits_byte bits) (range_with_len 0 32)

-- BOF says that the file is of Release 2
abbrev pub bof : Piece
bof = made kind.Bof (6 ∷ 4 ∷ [])

-- EOF has no body
abbrev pub eof : Piece
eof = made kind.Eof []

-- whether a column has a width of its own or is hidden
abbrev pub is_marked : Grid → ℕ → Bool
is_marked g col = nat_lt 0 (get_or g.widths col 0) || is_hidden g col

-- the last marked column of as many from A on; A where there is none
unfoldable pub last_marked : Grid → ℕ → ℕ
last_marked g zero = 0
last_marked g (suc n) = if is_marked g n then n else last_marked g n

-- a place, or A1 where there is none
abbrev pub place_or_first : Option Place → Place
place_or_first None = record { row = 0; col = 0 }
place_or_first (Some p) = p

-- the last used row, and the last column that is used or marked: some programs refuse a width past the range's end
abbrev pub range_end : Grid → Place
range_end g = record {
  row = (place_or_first (last_used g)).row;
  col = max (place_or_first (last_used g)).col (last_marked g COLUMNS);
}

-- the range of a sheet, from A1 on
abbrev pub range_piece : Place → Piece
range_piece end = made kind.Range (place_bytes (record { row = 0; col = 0 }) ++ place_bytes end)

-- the pointer, the global format and width, and 23 bytes that mean nothing here
abbrev pub window_piece : Choices → Piece
window_piece c = made kind.Window (place_bytes c.pointer ++ c.format ∷ 0 ∷ (to_le_bytes w16 c.width ++ replicate 23 0))

-- the byte of a sheet that recalculates by itself
abbrev pub AUTOMATIC : ℕ
AUTOMATIC = 0xFF

-- the byte of a protected sheet
abbrev pub PROTECTED : ℕ
PROTECTED = 0x01

-- the settings, one record each
abbrev pub settings_pieces : Choices → List Piece
settings_pieces c =
    made kind.CalcCount (c.passes ∷ [])
    ∷ made kind.CalcMode (on_byte c.automatic AUTOMATIC ∷ [])
    ∷ made kind.CalcOrder (order_byte c.order ∷ [])
    ∷ made kind.Protection (on_byte c.protection PROTECTED ∷ [])
    ∷ made kind.LabelFormat (prefix_byte c.prefix ∷ [])
    ∷ window_piece c
    ∷ []

-- a column and its own width, where it has one
abbrev pub width_piece : ℕ → Option ℕ → List Piece
width_piece col None = []
width_piece col (Some w) = made kind.ColumnWidth (to_le_bytes w16 col ++ w ∷ []) ∷ []

-- the columns of a sheet
unfoldable pub columns : List ℕ
columns = range_with_len 0 COLUMNS

-- the own widths, by column
abbrev pub width_pieces : Grid → List Piece
width_pieces g = flat_map (λ col. width_piece col (width_of g col)) columns

-- the hidden columns, where there is one
abbrev pub hidden_pieces : List Bool → List Piece
hidden_pieces bits = if list_any (λ b. b) bits then made kind.HiddenColumns (bits_bytes bits) ∷ [] else []

-- 16 bytes of a name with zeros behind it, and the corners of its span
abbrev pub name_piece : List ℕ → Extent → Piece
name_piece name span =
    made kind.Name (name ++ (replicate (16 - length name) 0 ++ (place_bytes span.first ++ place_bytes span.last)))

-- the names, in byte order
abbrev pub names_pieces : NameMap → List Piece
names_pieces names = map (λ e. name_piece (name_in e.0) e.1) (finite.entries names)

-- the text of a formula's value stands behind the formula
abbrev pub text_pieces : Place → CellState → Value → List Piece
text_pieces p s (value.Str t) = made kind.Str (head p s ++ (t ++ 0 ∷ [])) ∷ []
text_pieces p s _ = []

-- one record for a cell, and a second for a formula whose value is a text
abbrev pub content_pieces : Place → CellState → Content → List Piece
content_pieces p s content.Blank = made kind.Blank (head p s) ∷ []
content_pieces p s (content.Number v) = number_piece p s v ∷ []
content_pieces p s (content.Label prefix t) = made kind.Label (head p s ++ prefix_byte prefix ∷ (t ++ 0 ∷ [])) ∷ []
content_pieces p s (content.Formula f) = formula_piece p s (code_of f p) ∷ text_pieces p s s.value

-- the records of a cell
abbrev pub cell_pieces : Place × CellState → List Piece
cell_pieces e = content_pieces e.0 e.1 e.1.content

-- a sheet of these cells, names and settings
abbrev pub of_parts : Grid → NameMap → Choices → SavedSheet
of_parts store names settings = record { store = store; names = names; settings = settings }

-- the records of a sheet before the EOF, in the one order
abbrev pub records_before : SavedSheet → List Piece
records_before s =
    (bof ∷ range_piece (range_end s.store) ∷ settings_pieces s.settings)
    ++ (width_pieces s.store
    ++ (hidden_pieces s.store.hidden ++ (names_pieces s.names ++ flat_map cell_pieces (finite.entries s.store.cells))))

-- the records of a sheet
abbrev pub saved : SavedSheet → List Piece
saved s = records_before s ++ eof ∷ []

-- the bytes of the file
abbrev pub file_bytes : SavedSheet → List ℕ
file_bytes s = pieces_bytes (saved s)
