-- A write that comes alone.
use Rattle.std.specs.Prelude.{◌≡◌, ◌||◌, Bool, true, false, refl, slice_get, length, List, [], ◌∷◌, Some}
use Rattle.std.proofs.Common.{ap, arith}
use Rattle.std.proofs.lemmas.Option.{none-some, same_Some}
use Rattle.grid_address.specs.Place.{same_place, Place}
use Rattle.cell_maps.specs.Sets.{has}
use Rattle.sheet_store.specs.declared.writes.Write.{Write}

-- a list of one write
pub alone : (ws : List Write) (w : Write) → slice_get ws 0 ≡ Some w → length ws ≡ 1 → ws ≡ w ∷ []
alone [] w e n = absurd (none-some w e)
alone (x ∷ []) w e n = ap (λ y. y ∷ []) (same_Some x w e)
alone (x ∷ y ∷ ws) w e n = absurd (omega (arith, n))

-- the cell is the only one that is written
pub only_cell : (cell c : Place) → same_place c cell ≡ has same_place (cell ∷ []) c
only_cell cell c = by (same_place c cell)
  where
    by : (b : Bool) → b ≡ (b || false)
    by true = refl
    by false = refl
