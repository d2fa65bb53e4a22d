-- What every edit keeps of references and places.
use Rattle.std.specs.Prelude.{◌≡◌, Option, Some}
use Rattle.grid_address.specs.Axes.{is_fixed, Reference}
use Rattle.grid_address.specs.Leads.{resolve}
use Rattle.grid_address.specs.Place.{InSheet, Place}
use Rattle.ref_adjust.specs.Adjusted.{adjusted}

-- no place leaves the sheet and is there still
abbrev pub StaysInSheet : (Place → Option Place) → Type 0
StaysInSheet goes = (p q : Place) → InSheet p → goes p ≡ Some q → InSheet q

-- no two places come to the same place
abbrev pub IsOneToOne : (Place → Option Place) → Type 0
IsOneToOne goes = (p q here : Place) → InSheet p → InSheet q → goes p ≡ Some here → goes q ≡ Some here → p ≡ q

-- what a reference names from the new cell is where the place went that the old one named from the old cell, and its
-- coordinates are absolute as before
pub record Follows (goes : Place → Option Place) (old_at new_at : Place) (old new : Reference) : Type 0 where
  pub place : goes (resolve old old_at) ≡ Some (resolve new new_at)
  pub col : is_fixed new.col ≡ is_fixed old.col
  pub row : is_fixed new.row ≡ is_fixed old.row

-- each reference that isn't lost follows
abbrev pub ReferencesFollow : (Place → Option Place) → Type 0
ReferencesFollow goes =
    (old_at new_at : Place) (old new : Reference) → InSheet new_at → InSheet (resolve old old_at) →
    adjusted goes old_at new_at old ≡ Some new → Follows goes old_at new_at old new
