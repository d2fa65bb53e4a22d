-- The first marked cell of some.
use Rattle.std.specs.Prelude.{◌≡◌, Bool, false, true, Option, None, Some}
use Rattle.std.specs.declared.cmp.Ordering.TheVariants.{Less}
use Rattle.grid_address.specs.Place.{place_cmp, Place}
use Rattle.sheet_store.specs.Grid.{Grid}
use Rattle.sheet_edits.specs.Spans.{is_marked}

-- c is one of the cells, is marked, and none of the cells before it is
pub record IsFirstMarked (g : Grid) (among : Place → Bool) (c : Place) : Type 0 where
  pub here : among c ≡ true
  pub marked : is_marked g c ≡ true
  pub first : (d : Place) → among d ≡ true → is_marked g d ≡ true → place_cmp d c ≡ Less → ⊥

-- none of the cells is marked
abbrev pub NoneMarked : Grid → (Place → Bool) → Type 0
NoneMarked g among = (c : Place) → among c ≡ true → is_marked g c ≡ false

-- the first marked one of the cells, or none where none is
abbrev pub IsFirstOf : Grid → (Place → Bool) → Option Place → Type 0
IsFirstOf g among None = NoneMarked g among
IsFirstOf g among (Some c) = IsFirstMarked g among c
