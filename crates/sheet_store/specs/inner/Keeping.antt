-- What a store keeps beside its cells.
use Rattle.std.specs.Prelude.{◌≡◌, ◌∷◌, [], false, ℤ}
use Rattle.grid_address.specs.Place.{same_place, Place}
use Rattle.formula_tree.specs.declared.value.Value.{Value}
use Rattle.formula_parts.specs.declared.kept.Kept.{Kept}
use Rattle.formula_parts.specs.declared.items.Item.TheVariants as item
use Rattle.formula_parts.specs.Lists.{in_range}
use Rattle.formula_parts.specs.inner.Kept.{IsKept}
use Rattle.sheet_store.specs.Grid.{value_in, AreHeld, Cells}

-- each cell is as it must be, and what evaluations found is so with the values as they stand
pub record Keeps (m : Cells) (k : Kept) : Type 0 where
  pub held : AreHeld m
  pub found : IsKept k (value_in m)

-- what was found before a cell takes a value goes on as something that is so behind it
abbrev pub GoesOn : Kept → Kept → Cells → Place → Value → Type 0
GoesOn old new m c v =
    (others : Place → Value) → IsKept old (value_in m) → others c ≡ v →
    ((d : Place) → same_place d c ≡ false → others d ≡ value_in m d) → IsKept new others

-- the same of a value that counts for a number
abbrev pub GoesOnWith : Kept → Kept → Cells → Place → ℤ → Type 0
GoesOnWith old new m c n =
    (others : Place → Value) → IsKept old (value_in m) → in_range (others c) ≡ item.Is n ∷ [] →
    ((d : Place) → same_place d c ≡ false → others d ≡ value_in m d) → IsKept new others

-- it is so with whatever values
abbrev pub AlwaysHolds : Kept → Type 0
AlwaysHolds k = (values : Place → Value) → IsKept k values
