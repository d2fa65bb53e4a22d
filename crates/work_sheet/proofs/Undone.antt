-- The latest state comes back.
use Rattle.std.specs.Prelude.{◌≡◌, refl, List, [], ◌∷◌, None, Some, true}
use Rattle.std.specs.List.{IsDistinct}
use Rattle.std.proofs.Common.{ap, sym, ◌∙◌}
use Rattle.std.proofs.lemmas.Option.{none-some, same_Some}
use Rattle.cell_maps.specs.Sets.{has}
use Rattle.grid_address.specs.Place.{same_place, Place}
use Rattle.recalculation.specs.Reading.{is_formula_at}
use Rattle.sheet_undo.specs.Histories.{latest}
use Rattle.work_sheet.specs.Kept.{Undoes}
use Rattle.work_sheet.specs.Seen.{of_worksheet, Sheet}
use Rattle.work_sheet.specs.Sheets.{Worksheet}

-- a sheet that is the latest state, with what was kept before it
pub latest_undone : (kept : List Sheet) (s : Sheet) (a b : Worksheet) → Some s ≡ latest kept → of_worksheet b ≡ s
    → ((c : Place) → has same_place b.dirty c ≡ is_formula_at b.grid c) → IsDistinct same_place b.dirty
    → ((x : Sheet) (rest : List Sheet) → kept ≡ x ∷ rest → b.grid ≡ x.grid → b.names ≡ x.names
    → b.history ≡ record { kept = rest; begun = None })
    → Undoes kept true a b
latest_undone [] s a b e sheet dirty distinct history = absurd (none-some s (sym e))
latest_undone (x ∷ rest) s a b e sheet dirty distinct history =
    let is : of_worksheet b ≡ x = sheet ∙ same_Some s x e in (
      refl,
      record {
        sheet = is;
        dirty = λ c. dirty c ∙ ap (λ (y : Sheet). is_formula_at y.grid c) is;
        distinct = distinct;
        history = history x rest refl (ap (λ (y : Sheet). y.grid) is) (ap (λ (y : Sheet). y.names) is);
      },
    )
