-- A map whose entries are put in one by one.
use Rattle.std.specs.Prelude.{◌≡◌, cond, List, [], ◌∷◌, Option, None, Some, refl}
use Rattle.std.specs.Ordering.{eq_by_cmp}
use Rattle.std.specs.FinMap.{empty, find, from_entries, get, get-empty, get-from_entries, get-insert, insert, same_map}
use Rattle.std.proofs.Common.{sym, ◌∙◌, ap, inl, inr}
use Rattle.std.proofs.lemmas.Bool.{cases_Bool}
use Rattle.grid_address.specs.Place.{place_cmp, Place}
use Rattle.cell_maps.specs.Filled.{cells_of, filled, AreOnce}
use Rattle.cell_maps.specs.declared.held.Held.{Held}
use Rattle.sheet_store.specs.inner.Copies.{inserted_all}
use Rattle.sheet_store.specs.Grid.{Cells}
use Rattle.sheet_store.specs.State.{CellState}
use Rattle.grid_address.proofs.Places.{cells_exact, cells_total}
use Rattle.sheet_store.proofs.Held.{tied}
use Rattle.sheet_store.proofs.RowOrder.{filled_apart, AreApart}

abbrev or_else : Option CellState → Option CellState → Option CellState
or_else (Some s) other = Some s
or_else None other = other

-- one by one into a map, where no place has two entries
inserted_get : (es : List (Place × CellState)) (m : Cells) (q : Place) → AreApart es
    → get (inserted_all m es) q ≡ or_else (find place_cmp q es) (get m q)
inserted_get [] m q apart = refl
inserted_get (e ∷ es) m q apart =
    inserted_get es (insert m e.0 e.1) q apart.1
    ∙ ap (or_else (find place_cmp q es)) (get-insert cells_total m e.0 e.1 q)
    ∙ elim (cases_Bool (eq_by_cmp place_cmp q e.0)) [
      | inl same ↦ (
          let gone : find place_cmp q es ≡ None = ap (λ x. find place_cmp x es) (tied q e.0 same) ∙ apart.0 in
          ap (λ o. or_else o (cond (eq_by_cmp place_cmp q e.0) (Some e.1) (get m q))) gone
          ∙ ap (λ b. cond b (Some e.1) (get m q)) same
          ∙ ap (λ b. or_else (cond b (Some e.1) (find place_cmp q es)) (get m q)) (sym same))
      | inr other ↦
          ap (λ b. or_else (find place_cmp q es) (cond b (Some e.1) (get m q))) other
          ∙ ap (λ b. or_else (cond b (Some e.1) (find place_cmp q es)) (get m q)) (sym other)
    ]

or_nothing : (o : Option CellState) → or_else o None ≡ o
or_nothing None = refl
or_nothing (Some s) = refl

-- held cells put into an empty map one by one make the map of them all
pub all_inserted : (hs : List (Held CellState)) → AreOnce (cells_of hs)
    → inserted_all empty (filled hs) ≡ from_entries (filled hs)
all_inserted hs once =
    same_map cells_total cells_exact (inserted_all empty (filled hs)) (from_entries (filled hs)) (λ q.
    inserted_get (filled hs) empty q (filled_apart hs once)
    ∙ ap (or_else (find place_cmp q (filled hs))) (get-empty place_cmp q) ∙ or_nothing (find place_cmp q (filled hs))
    ∙ sym (get-from_entries cells_total (filled hs) q))
