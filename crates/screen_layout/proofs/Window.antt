-- The lines between the panel's.
use Rattle.std.proofs.Common.{◌≡◌, ℕ, zero, suc, ◌+◌, ◌-◌, ◌≤◌, ◌<◌, Bool, true, false, ◌||◌, List, [], ◌∷◌, ◌++◌, drop}
use Rattle.std.proofs.Common.{get_or, Option, Some, None, refl, ap, sym, ◌∙◌, arith}
use Rattle.std.specs.Prelude.{if◌then◌else◌, nat_le, nat_lt, unwrap_or}
use Rattle.std.proofs.lemmas.Bool.Decides.{nat_tests}
use Rattle.std.specs.FinMap.{get}
use Rattle.session_rooms.specs.declared.panel.Panel.{Panel}
use Rattle.grid_address.specs.Place.{Place}
use Rattle.recalculation.specs.Context.{width_or}
use Rattle.range_names.specs.Names.{NameMap}
use Rattle.sheet_store.specs.Grid.{is_hidden, own_width, width_of}
use Rattle.sheet_store.specs.State.{CellState}
use Rattle.work_sheet.specs.Seen.{Sheet}
use Rattle.screen_layout.specs.inner.Alike.{AreAlike}
use Rattle.shown_cells.specs.Cells.{state_text}
use Rattle.screen_layout.specs.Columns.{beside, cell_text, column_text, columns_from, columns_line, margin}
use Rattle.screen_layout.specs.Columns.{shown_columns}
use Rattle.shown_cells.specs.Cells.{padded}
use Rattle.screen_layout.specs.Lines.{shown_line}
use Rattle.screen_layout.specs.Screen.{line_text, row_line, screen_line}
use Rattle.screen_layout.specs.Sheets.{width_in}
use Rattle.screen_layout.specs.declared.shown_columns.Column.{Column}

-- a row is another one than those that were touched
abbrev IsApart : (ℕ → Bool) → Option ℕ → Type 0
IsApart touched None = Unit {0}
IsApart touched (Some row) = touched row ≡ false

-- the lines of letters and of rows that were not touched
module _ (touched : ℕ → Bool) (s t : Sheet) (alike : AreAlike touched s t) where
  width_same : (col : ℕ) → width_in t col ≡ width_in s col
  width_same col =
      ap (λ (own : List ℕ). width_or t.settings.width (own_width (get_or own col 0))) alike.widths
      ∙ ap (λ (whole : ℕ). width_or whole (width_of s.grid col)) alike.width

  hidden_same : (col : ℕ) → is_hidden t.grid col ≡ is_hidden s.grid col
  hidden_same col = ap (λ (marks : List Bool). get_or marks col false) alike.hidden

  columns_from_same : (first : Bool) (count col room : ℕ)
      → columns_from t first count col room ≡ columns_from s first count col room
  unfolding columns_from
  columns_from_same first zero col room = refl
  columns_from_same first (suc count) col room =
      let next : Bool → ℕ → List Column → List Column → List Column = λ hidden width passed others.
      if hidden then passed
      else if first || nat_le width room then record { col = col; width = width } ∷ others
      else [] in
      let behind : ℕ → List Column = λ width. columns_from t false count (col + 1) (room - width) in
      ap (λ (hidden : Bool). next hidden (width_in t col) (columns_from t first count (col + 1) room)
      (behind (width_in t col))) (hidden_same col)
      ∙ ap (λ (width : ℕ). next (is_hidden s.grid col) width (columns_from t first count (col + 1) room)
      (behind width)) (width_same col)
      ∙ ap (λ (passed : List Column). next (is_hidden s.grid col) (width_in s col) passed (behind (width_in s col)))
      (columns_from_same first count (col + 1) room)
      ∙ ap (next (is_hidden s.grid col) (width_in s col) (columns_from s first count (col + 1) room))
      (columns_from_same false count (col + 1) (room - width_in s col))

  cell_same : (c : Place) (width : ℕ) → touched c.row ≡ false → cell_text t c width ≡ cell_text s c width
  cell_same c width apart =
      ap (λ (o : Option CellState). state_text t.names t.settings.format c o width) (alike.cells c apart)
      ∙ ap (λ (names : NameMap). state_text names t.settings.format c (get s.grid.cells c) width) alike.names
      ∙ ap (λ (format : ℕ). state_text s.names format c (get s.grid.cells c) width) alike.format

  column_same : (row : Option ℕ) (x : Column) → IsApart touched row → column_text t row x ≡ column_text s row x
  column_same None x apart = refl
  column_same (Some row) x apart = cell_same (record { row = row; col = x.col }) x.width apart

  beside_same : (row : Option ℕ) (xs : List Column) (over : List ℕ) → IsApart touched row
      → beside t row xs over ≡ beside s row xs over
  unfolding beside
  beside_same row [] over apart = refl
  beside_same row (x ∷ xs) over apart =
      let text : Option (List ℕ) → List ℕ = λ own. unwrap_or own over in
      ap (λ (own : Option (List ℕ)). padded x.width (text own) ++ beside t row xs (drop x.width (text own)))
      (column_same row x apart)
      ∙ ap (λ (l : List ℕ). padded x.width (text (column_text s row x)) ++ l)
      (beside_same row xs (drop x.width (text (column_text s row x))) apart)

  columns_line_same : (row : Option ℕ) (first : ℕ) → IsApart touched row
      → columns_line t row first ≡ columns_line s row first
  columns_line_same row first apart =
      ap (λ (xs : List Column). margin row ++ beside t row xs []) (columns_from_same true (256 - first) first 76)
      ∙ ap (λ (l : List ℕ). margin row ++ l) (beside_same row (shown_columns s first) [] apart)

  -- the letters are the same from the same column on
  pub letters_same : (a b : Panel) (corner from : Place) (d e : Option ℕ) (x y : ℕ) → corner.col ≡ from.col →
      screen_line s a corner d x 3 ≡ screen_line t b from e y 3
  letters_same a b corner from d e x y stays =
      sym (ap (λ (col : ℕ). shown_line (columns_line t None col)) (sym stays)
      ∙ ap shown_line (columns_line_same None corner.col tt))

  -- a line of a row that was not touched is the same, whatever the panel and the moment are
  pub row_same : (a b : Panel) (corner : Place) (d e : Option ℕ) (x y n : ℕ) → 4 ≤ n → n < 24
      → touched (corner.row + (n - 4)) ≡ false →
      screen_line s a corner d x n ≡ screen_line t b corner e y n
  row_same a b corner d e x y n least most apart =
      let zeroth : nat_lt n 1 ≡ false = grind (arith, nat_tests) in
      let first : nat_lt n 2 ≡ false = grind (arith, nat_tests) in
      let second : nat_lt n 3 ≡ false = grind (arith, nat_tests) in
      let third : nat_lt n 4 ≡ false = grind (arith, nat_tests) in
      let between : nat_lt n 24 ≡ true = grind (arith, nat_tests) in
      let row : ℕ = corner.row + (n - 4) in
      let same : row_line s row corner.col ≡ row_line t row corner.col =
      sym (ap (λ (l : List ℕ). if nat_lt row 8192 then l else []) (columns_line_same (Some row) corner.col apart)) in
      let text : line_text s a corner d x n ≡ line_text t b corner e y n =
      rw (zeroth, first, second, third, between) same in
      ap shown_line text
