-- What cells hold that are told what they hold.
use Rattle.std.specs.Prelude.{◌≡◌, ◌||◌, Bool, true, false, cond, refl, List, [], ◌∷◌, Option, None, Some}
use Rattle.std.specs.FinMap.{get}
use Rattle.std.proofs.Common.{sym, ◌∙◌, ap}
use Rattle.grid_address.proofs.Places.{get_inserted, get_removed, same_place_is}
use Rattle.grid_address.specs.Place.{is_within, same_place, Extent, Place}
use Rattle.cell_maps.specs.Sets.{has}
use Rattle.sheet_edits.proofs.Overlaid.{same_grid}
use Rattle.sheet_edits.specs.Spans.{changed, AreGiven, Becomes}
use Rattle.sheet_store.specs.Grid.{Cells, Grid}
use Rattle.sheet_store.specs.State.{CellState}
use Rattle.formula_parts.specs.Outlook.{cells_of}
use Rattle.recalculation.proofs.Filled.{has_cells}
use Rattle.work_sheet.specs.Cells.{with_cell, with_cells, with_cells_in}

get_with_cell : (m : Cells) (c : Place) (o : Option CellState) (d : Place)
    → get (with_cell m c o) d ≡ cond (same_place d c) o (get m d)
get_with_cell m c None d = get_removed m c d
get_with_cell m c (Some s) d = get_inserted m c s d

get_with_cells : (told : Place → Option CellState) (cs : List Place) (m : Cells) (d : Place)
    → get (with_cells told cs m) d ≡ cond (has same_place cs d) (told d) (get m d)
unfolding with_cells
get_with_cells told [] m d = refl
get_with_cells told (c ∷ cs) m d = get_with_cells told cs (with_cell m c (told c)) d ∙ ap (λ o. cond
    (has same_place cs d) (told d) o) (get_with_cell m c (told c) d) ∙ by (same_place d c) refl (has same_place cs d)
  where
    by : (b : Bool) → same_place d c ≡ b → (h : Bool)
        → cond h (told d) (cond b (told c) (get m d)) ≡ cond (b || h) (told d) (get m d)
    by true e true = refl
    by true e false = ap told (sym (same_place_is d c e))
    by false e h = refl

-- cells of a span that were given what they hold
pub held_is : (g h : Grid) (s : Extent) (told : Place → Option CellState) (listed : List Place) (changes : Cells)
    → ((c : Place) → has same_place listed c ≡ is_within s c) → AreGiven changes (has same_place listed) told
    → Becomes g (λ c. changed (get changes c) (get g.cells c)) h
    → h ≡ with_cells_in s (λ c. changed (told c) (get g.cells c)) g
held_is g h s told listed changes among given b =
    same_grid h (with_cells_in s (λ c. changed (told c) (get g.cells c)) g)
    (λ c. b.cells c ∙ ap (λ o. changed o (get g.cells c)) (given c)
    ∙ by (has same_place listed c) (told c) (get g.cells c)
    ∙ ap (λ t. cond t (changed (told c) (get g.cells c)) (get g.cells c)) (among c ∙ sym (has_cells s c))
    ∙ sym (get_with_cells (λ x. changed (told x) (get g.cells x)) (cells_of s) g.cells c))
    b.widths b.hidden
  where
    by : (t : Bool) (x o : Option CellState) → changed (cond t x None) o ≡ cond t (changed x o) o
    by true x o = refl
    by false x o = refl
