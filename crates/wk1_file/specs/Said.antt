-- What the saved records of a sheet say.
use Rattle.std.specs.FinMap.{entries}
use Rattle.std.specs.List.{AllByRecursion}
use Rattle.sheet_store.specs.declared.writes.SavedSheet.{SavedSheet}
use Rattle.std.specs.Prelude.{ℕ, ◌≡◌, ◌≤◌, nat_abs, true, Option, Some, None, flat_map, length, get_or, Ok, List, [], ◌∷◌, ⊤}
use Rattle.grid_address.specs.Limits.{COLUMNS}
use Rattle.grid_address.specs.Place.{Extent, InSheet, Place}
use Rattle.formula_tree.specs.Ranges.{is_ranged, is_text}
use Rattle.formula_tree.specs.Shape.{every, IsFormula}
use Rattle.formula_tree.specs.declared.value.Content.{Content}
use Rattle.formula_tree.specs.declared.value.Content.TheVariants as content
use Rattle.formula_tree.specs.declared.value.Value.{Value}
use Rattle.formula_tree.specs.declared.value.Value.TheVariants as value
use Rattle.sheet_store.specs.Choices.{AreWithin, Choices}
use Rattle.sheet_store.specs.Grid.{is_kept, width_of, Fits, Grid}
use Rattle.sheet_store.specs.State.{CellState}
use Rattle.sheet_store.specs.Limits.{MOST_WIDTH}
use Rattle.range_names.specs.Names.{fault_of, key_of, name_in}
use Rattle.wk1_file.specs.Saved.{columns}
use Rattle.wk1_records.specs.Kinds.{number_of}
use Rattle.wk1_records.specs.Meanings.{meaning}
use Rattle.wk1_records.specs.declared.kind.RecordKind.TheVariants as kind
use Rattle.wk1_records.specs.Records.{ended, piece, IsPiece, Piece, Records}
use Rattle.wk1_records.specs.declared.entry.Entry.{Entry}
use Rattle.wk1_records.specs.declared.entry.Entry.TheVariants as entry

-- each record says this, whatever its number
abbrev pub Says : List Piece → List Entry → Type 0
Says [] [] = ⊤
Says [] (e ∷ es) = ⊥
Says (p ∷ ps) [] = ⊥
Says (p ∷ ps) (e ∷ es) = ((n : ℕ) → meaning n p ≡ Ok e) × Says ps es

-- what is kept of a number, a text or a tree by its type
abbrev pub IsContent : Content → Type 0
IsContent content.Blank = ⊤
IsContent (content.Number v) = nat_abs v ≤ 999999999999999
IsContent (content.Label p t) = is_text t ≡ true
IsContent (content.Formula f) = IsFormula f × (every is_ranged f ≡ true)

-- what is kept of a value by its type
abbrev pub IsValue : Value → Type 0
IsValue value.Blank = ⊤
IsValue (value.Num v) = nat_abs v ≤ 999999999999999
IsValue (value.Str t) = is_text t ≡ true
IsValue value.Err = ⊤
IsValue value.Na = ⊤

-- a cell as a store holds it
pub record IsCell (p : Place) (s : CellState) : Type 0 where
  pub inside : InSheet p
  pub fits : Fits s.content s.value
  pub content : IsContent s.content
  pub value : IsValue s.value

-- a formula whose value is a text is saved with bits that are read as ERR, and its text stands in a second record
abbrev pub formula_entries : Place → CellState → Value → List Entry
formula_entries p s value.Blank = entry.Formula p s ∷ []
formula_entries p s (value.Num v) = entry.Formula p s ∷ []
formula_entries p s (value.Str t) = entry.Formula p (record s { value = value.Err }) ∷ entry.Text p t ∷ []
formula_entries p s value.Err = entry.Formula p s ∷ []
formula_entries p s value.Na = entry.Formula p s ∷ []

-- what the records of a content say
abbrev pub content_entries : Place → CellState → Content → List Entry
content_entries p s content.Blank = entry.State p s ∷ []
content_entries p s (content.Number v) = entry.State p s ∷ []
content_entries p s (content.Label prefix t) = entry.State p s ∷ []
content_entries p s (content.Formula f) = formula_entries p s s.value

-- what a cell's records say
abbrev pub cell_entries : Place × CellState → List Entry
cell_entries e = content_entries e.0 e.1 e.1.content

-- a record that is no EOF, and whose type and length take two bytes each
pub record IsRecord (p : Piece) : Type 0 where
  pub fits : IsPiece p
  pub inner : p.kind ≡ number_of kind.Eof → ⊥

-- the records of a file that ends with its EOF
abbrev pub records_of : List Piece → Records
records_of [] = ended
records_of (p ∷ ps) = piece p (records_of ps)

-- settings as settings keep them
pub record AreSettings (c : Choices) : Type 0 where
  pub within : AreWithin c
  pub inside : InSheet c.pointer

-- what the records of settings say
abbrev pub settings_entries : Choices → List Entry
settings_entries c =
    entry.Passes c.passes ∷ entry.Automatic c.automatic ∷ entry.Order c.order ∷ entry.Protection c.protection
    ∷ entry.Prefix c.prefix ∷ entry.Window c.pointer (record { 0 = c.format }) c.width ∷ []

-- a cell that a store keeps
abbrev pub IsSavedCell : Place × CellState → Type 0
IsSavedCell e = IsCell e.0 e.1 × (is_kept e.1 ≡ true)

-- what the record of an own width says
abbrev pub width_entries : ℕ → Option ℕ → List Entry
width_entries col None = []
width_entries col (Some w) = entry.Width col w ∷ []

-- what the records of a sheet's own widths say
abbrev pub widths_entries : Grid → List Entry
widths_entries g = flat_map (λ col. width_entries col (width_of g col)) columns

-- own widths as a store keeps them: one for each column, and 0 for none
pub record AreWidths (ws : List ℕ) : Type 0 where
  pub all : length ws ≡ COLUMNS
  pub most : (k : ℕ) → get_or ws k 0 ≤ MOST_WIDTH

-- a span whose corners are in the sheet and in order
pub record IsExtent (s : Extent) : Type 0 where
  pub first : InSheet s.first
  pub last : InSheet s.last
  pub rows : s.first.row ≤ s.last.row
  pub cols : s.first.col ≤ s.last.col

-- a name as names keep it
pub record IsSavedName (e : List ℕ × Extent) : Type 0 where
  pub name : fault_of (name_in e.0) ≡ None
  pub key : key_of (name_in e.0) ≡ e.0
  pub first : InSheet e.1.first
  pub last : InSheet e.1.last
  pub rows : e.1.first.row ≤ e.1.last.row
  pub cols : e.1.first.col ≤ e.1.last.col

-- what the record of a name says
abbrev pub name_entry_of : List ℕ × Extent → Entry
name_entry_of e = entry.Name (name_in e.0) e.1

-- a sheet as its parts keep it
pub record IsSavedSheet (s : SavedSheet) : Type 0 where
  pub settings : AreSettings s.settings
  pub widths : AreWidths s.store.widths
  pub hidden : length s.store.hidden ≡ COLUMNS
  pub names : AllByRecursion IsSavedName (entries s.names)
  pub cells : AllByRecursion IsSavedCell (entries s.store.cells)
