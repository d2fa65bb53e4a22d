-- There is one worksheet of so many rows.
use Rattle.std.proofs.Common.{◌≡◌, ℕ, Bool, List, sym, ap, ◌∙◌}
use Rattle.std.specs.FinMap.{same_map}
use Rattle.grid_address.proofs.Places.{cells_exact, cells_total}
use Rattle.range_names.specs.Names.{NameMap}
use Rattle.sheet_store.specs.Choices.{Choices}
use Rattle.sheet_store.specs.Grid.{Cells, Grid}
use Rattle.sheet_store.specs.declared.writes.SavedSheet.{SavedSheet}
use Rattle.sheet_gen.specs.Rows.{IsGenerated}

-- sheets of the same parts are one
same_parts : (s t : SavedSheet) → s.store.cells ≡ t.store.cells → s.store.widths ≡ t.store.widths
    → s.store.hidden ≡ t.store.hidden → s.names ≡ t.names → s.settings ≡ t.settings → s ≡ t
same_parts s t cells widths hidden names settings =
    ap (λ (c : Cells). record s { store = record s.store { cells = c } }) cells
    ∙ ap (λ (w : List ℕ). record s { store = record s.store { cells = t.store.cells; widths = w } }) widths
    ∙ ap (λ (h : List Bool). record s
    { store = record { cells = t.store.cells; widths = t.store.widths; hidden = h } }) hidden
    ∙ ap (λ (n : NameMap). record s { store = t.store; names = n }) names
    ∙ ap (λ (c : Choices). record { store = t.store; names = t.names; settings = c }) settings

-- of so many rows there is one generated worksheet
pub one_sheet : (rows : ℕ) (s t : SavedSheet) → IsGenerated rows s → IsGenerated rows t → s ≡ t
one_sheet rows s t a b = same_parts s t
    (same_map cells_total cells_exact s.store.cells t.store.cells (λ p. a.cells p ∙ sym (b.cells p)))
    (a.widths ∙ sym b.widths) (a.hidden ∙ sym b.hidden) (a.names ∙ sym b.names) (a.settings ∙ sym b.settings)
