-- The history of a sheet: the states that undo gives back.
use Rattle.std.specs.Prelude.{◌≡◌, ℕ, zero, suc, Bool, true, false, List, [], ◌∷◌, Option, None, Some, take}
use Rattle.range_names.specs.Names.{NameMap}
use Rattle.sheet_store.specs.Choices.{Choices}
use Rattle.sheet_store.specs.Grid.{Grid}

-- one map of cells, with the columns, whether the last recalculation told a circle, whether a change was made since
-- then, the names and the settings
pub record Sheet : Type 0 where
  pub grid : Grid
  pub circular : Bool
  pub stale : Bool
  pub names : NameMap
  pub settings : Choices

-- the kept states, the latest first, and the begun one, if there is one
pub record History : Type 0 where
  pub kept : List Sheet
  pub begun : Option Sheet

-- none
abbrev pub no_history : History
no_history = record { kept = []; begun = None }

-- a state is kept as the latest; past 20 the oldest is dropped
abbrev pub with_kept : Sheet → List Sheet → List Sheet
with_kept s kept = take 20 (s ∷ kept)

-- the settings other than the pointer
abbrev pub but_pointer : Choices → Choices
but_pointer c = record c { pointer = record { row = 0; col = 0 } }

-- The cells, the columns, the names and the settings other than the pointer are the same.
pub record IsAlike (a b : Sheet) : Type 0 where
  pub grid : a.grid ≡ b.grid
  pub names : a.names ≡ b.names
  pub settings : but_pointer a.settings ≡ but_pointer b.settings

-- the answer tells whether a sheet differs from the begun state
abbrev pub Tells : Bool → Option Sheet → Sheet → Type 0
Tells differs None now = ⊥
Tells true (Some begun) now = IsAlike begun now → ⊥
Tells false (Some begun) now = IsAlike begun now

-- the begun state is kept where the sheet differs from it; afterwards none is begun
abbrev pub ended : Bool → Option Sheet → List Sheet → History
ended differs None kept = record { kept = kept; begun = None }
ended true (Some begun) kept = record { kept = with_kept begun kept; begun = None }
ended false (Some begun) kept = record { kept = kept; begun = None }

-- the latest state, if one is kept
abbrev pub latest : List Sheet → Option Sheet
latest [] = None
latest (s ∷ kept) = Some s

-- states are kept, one after another
abbrev pub all_kept : List Sheet → List Sheet → List Sheet
all_kept [] kept = kept
all_kept (s ∷ ss) kept = all_kept ss (with_kept s kept)

-- the sheet after so many undos
abbrev pub undone : ℕ → List Sheet → Sheet → Sheet
undone zero kept now = now
undone (suc n) [] now = now
undone (suc n) (s ∷ kept) now = undone n kept s
