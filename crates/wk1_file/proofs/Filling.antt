-- The cells that are said make the sheet's map.
use Rattle.std.proofs.Common.{◌≡◌, ℕ, Bool, true, false, cond, List, [], ◌∷◌, refl, ap, ◌∙◌, sym}
use Rattle.std.specs.Prelude.{Option, Some, None, fold, flat_map, pos}
use Rattle.std.specs.FinMap.{empty, entries, entries_sorted, from_entries, get, insert, remove}
use Rattle.std.specs.List.{AllByRecursion}
use Rattle.std.proofs.lemmas.List.Sums.{fold-append}
use Rattle.grid_address.specs.Place.{same_place, Place}
use Rattle.grid_address.specs.declared.format.Format.{Format}
use Rattle.grid_address.proofs.Maps.{get_entries, get_lookup, in_order}
use Rattle.grid_address.proofs.Places.{cells_total, get_inserted, same_place_itself, same_places}
use Rattle.formula_tree.specs.declared.value.Content.{Content}
use Rattle.formula_tree.specs.declared.value.Content.TheVariants as content
use Rattle.formula_tree.specs.declared.value.Value.{Value}
use Rattle.formula_tree.specs.declared.value.Value.TheVariants as value
use Rattle.sheet_store.specs.Grid.{is_kept, put_state, valued, Cells, Grid}
use Rattle.sheet_store.specs.State.{CellState}
use Rattle.sheet_store.specs.declared.writes.SavedSheet.{SavedSheet}
use Rattle.wk1_file.specs.Said.{cell_entries, content_entries, IsCell, IsSavedCell}
use Rattle.wk1_file.specs.Sheets.{with_cells, with_entry, with_store}
use Rattle.wk1_records.specs.declared.entry.Entry.TheVariants as entry
use Rattle.grid_address.proofs.Places.{cells_exact}
use Rattle.wk1_file.proofs.Maps.{filled, filled_again}

abbrev cell : Content → Value → Format → CellState
cell c v f = record { content = c; value = v; format = f }

put_kept : (g : Grid) (p : Place) (c : CellState) → is_kept c ≡ true
    → put_state g p c ≡ record g { cells = insert g.cells p c }
put_kept g p c kept = ap (λ b. record g { cells = cond b (insert g.cells p c) (remove g.cells p) }) kept

state_taken : (s : SavedSheet) (m : Cells) (f : Option Place) (p : Place) (c : CellState) → is_kept c ≡ true
    → fold with_entry (with_cells s m f) (entry.State p c ∷ []) ≡ with_cells s (insert m p c) None
state_taken s m f p c kept = ap (λ g. with_store s g None) (put_kept (record s.store { cells = m }) p c kept)

formula_taken : (s : SavedSheet) (m : Cells) (f : Option Place) (p : Place) (c : CellState) → is_kept c ≡ true
    → fold with_entry (with_cells s m f) (entry.Formula p c ∷ []) ≡ with_cells s (insert m p c) (Some p)
formula_taken s m f p c kept = ap (λ g. with_store s g (Some p)) (put_kept (record s.store { cells = m }) p c kept)

second_wins : {X : Type 0} (b : Bool) (x y z : X) → cond b x (cond b y z) ≡ cond b x z
second_wins true x y z = refl
second_wins false x y z = refl

put_again : (m : Cells) (p : Place) (c d : CellState) → insert (insert m p c) p d ≡ insert m p d
put_again m p c d =
    same_places (insert (insert m p c) p d) (insert m p d) (λ q.
    get_inserted (insert m p c) p d q ∙ ap (cond (same_place q p) (Some d)) (get_inserted m p c q)
    ∙ second_wins (same_place q p) (Some d) (Some c) (get m q) ∙ sym (get_inserted m p d q))

there : (m : Cells) (p : Place) (c : CellState) → get (insert m p c) p ≡ Some c
there m p c = get_inserted m p c p ∙ ap (λ b. cond b (Some c) (get m p)) (same_place_itself p)

text_taken : (s : SavedSheet) (m : Cells) (p : Place) (c : CellState) (t : List ℕ)
    → with_entry (with_cells s (insert m p c) (Some p)) (entry.Text p t)
    ≡ with_cells s (insert m p (record c { value = value.Str t })) None
text_taken s m p c t =
    let g : Grid = record s.store { cells = insert m p c } in
    ap (λ b. with_store s (cond b (record g { cells = valued (get (insert m p c) p) (insert m p c) p (value.Str t) }) g)
    None) (same_place_itself p)
    ∙ ap (λ o. with_store s (record g { cells = valued o (insert m p c) p (value.Str t) }) None) (there m p c)
    ∙ ap (λ k. with_cells s k None) (put_again m p c (record c { value = value.Str t }))

cell_taken : (s : SavedSheet) (m : Cells) (f : Option Place) (p : Place) (c : Content) (v : Value) (k : Format)
    → IsCell p (cell c v k) → is_kept (cell c v k) ≡ true
    → (g : Option Place)
    × (fold with_entry (with_cells s m f) (content_entries p (cell c v k) c) ≡ with_cells s (insert m p (cell c v k)) g)
cell_taken s m f p content.Blank v k h kept = (None, state_taken s m f p (cell content.Blank v k) kept)
cell_taken s m f p (content.Number x) v k h kept = (None, state_taken s m f p (cell (content.Number x) v k) kept)
cell_taken s m f p (content.Label prefix t) v k h kept = (
  None,
  state_taken s m f p (cell (content.Label prefix t) v k) kept,
)
cell_taken s m f p (content.Formula t) value.Blank k h kept = absurd (h.fits refl)
cell_taken s m f p (content.Formula t) (value.Num v) k h kept = (
  Some p,
  formula_taken s m f p (cell (content.Formula t) (value.Num v) k) kept,
)
cell_taken s m f p (content.Formula t) (value.Str u) k h kept =
    let c : CellState = cell (content.Formula t) value.Err k in
    (None, ap (λ r. with_entry r (entry.Text p u)) (formula_taken s m f p c refl) ∙ text_taken s m p c u)
cell_taken s m f p (content.Formula t) value.Err k h kept = (
  Some p,
  formula_taken s m f p (cell (content.Formula t) value.Err k) kept,
)
cell_taken s m f p (content.Formula t) value.Na k h kept = (
  Some p,
  formula_taken s m f p (cell (content.Formula t) value.Na k) kept,
)

all_taken : (s : SavedSheet) (es : List (Place × CellState)) (m : Cells) (f : Option Place)
    → AllByRecursion IsSavedCell es
    → (g : Option Place)
    × (fold with_entry (with_cells s m f) (flat_map cell_entries es) ≡ with_cells s (filled m es) g)
all_taken s [] m f h = (f, refl)
all_taken s (e ∷ es) m f h =
    let one = cell_taken s m f e.0 e.1.content e.1.value e.1.format h.0.0 h.0.1 in
    let rest = all_taken s es (insert m e.0 e.1) one.0 h.1 in (
      rest.0,
      fold-append with_entry (with_cells s m f) (cell_entries e) (flat_map cell_entries es)
          ∙ ap (λ r. fold with_entry r (flat_map cell_entries es)) one.1 ∙ rest.1,
    )

-- what the records of a map's cells say, put into an empty map one by one, is the map
pub cells_taken : (s : SavedSheet) (m : Cells) (f : Option Place) → AllByRecursion IsSavedCell (entries m)
    → (g : Option Place)
    × (fold with_entry (with_cells s empty f) (flat_map cell_entries (entries m)) ≡ with_cells s m g)
cells_taken s m f h =
    let x = all_taken s (entries m) empty f h in
    let is : filled empty (entries m) ≡ m = filled_again cells_total cells_exact m in
    (x.0, x.1 ∙ ap (λ k. with_cells s k x.0) is)
