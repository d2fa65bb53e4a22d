-- The work of recalculation: which formulas are dirty, and how many evaluations there were. It has no part in what the
-- sheet becomes, and what happened tells it.
use Rattle.std.specs.Prelude.{◌≡◌, ℕ, ◌+◌, ◌-◌, ◌*◌, Bool, List, [], ◌∷◌, length}
use Rattle.std.specs.List.{filter, IsDistinct}
use Rattle.grid_address.specs.Place.{same_place, Extent, Place}
use Rattle.cell_maps.specs.Sets.{has}
use Rattle.recalculation.specs.Passes.{raised_by, IsDirtyAfter}
use Rattle.recalculation.specs.Reading.{is_formula_at}
use Rattle.sheet_edits.specs.Edits.{AreDirtied}
use Rattle.sheet_store.specs.Grid.{formulas_within, Grid}
use Rattle.sheet_store.specs.declared.order.Order.{Order}
use Rattle.work_sheet.specs.Doing.{all_dirty, evaluated_once, passed, swept, wrote, Happened}

-- the dirty formulas, each once, and how many evaluations there were
pub record Work : Type 0 where
  pub dirty : List Place
  pub count : ℕ

-- none
abbrev pub no_work : Work
no_work = record { dirty = []; count = 0 }

-- Written cells make dirty the formulas that they hold and each that reaches one of them; a cell that holds no formula
-- is dirty no more.
pub record HasMarked (cells : Place → Bool) (g : Grid) (w v : Work) : Type 0 where
  pub dirty : AreDirtied g (has same_place w.dirty) cells (has same_place v.dirty)
  pub distinct : IsDistinct same_place v.dirty
  pub count : v.count ≡ w.count

-- A recalculation evaluates the dirty formulas, and in each further pass those that stay dirty.
pub record HasPassed (order : Order) (passes : ℕ) (g : Grid) (w v : Work) : Type 0 where
  pub dirty : IsDirtyAfter order g (has same_place w.dirty) (has same_place v.dirty)
  pub distinct : IsDistinct same_place v.dirty
  pub count : v.count ≡ raised_by (length w.dirty + (passes - 1) * length v.dirty) w.count

-- All formulas become dirty.
pub record HasAllDirty (g : Grid) (w v : Work) : Type 0 where
  pub dirty : (c : Place) → has same_place v.dirty c ≡ is_formula_at g c
  pub distinct : IsDistinct same_place v.dirty
  pub count : v.count ≡ w.count

-- how many formulas of a span are dirty
abbrev pub dirty_within : Grid → Extent → Work → ℕ
dirty_within g span w = length (filter (has same_place w.dirty) (formulas_within g span))

-- the work of one thing that happened
abbrev pub Works : Happened → Work → Work → Type 0
Works (wrote cells g) w v = HasMarked cells g w v
Works evaluated_once w v = v ≡ record w { count = raised_by 1 w.count }
Works (passed order passes g) w v = HasPassed order passes g w v
Works (all_dirty g) w v = HasAllDirty g w v
Works (swept span passes g) w v = v ≡ record w { count = raised_by (passes * dirty_within g span w) w.count }

-- the work of what happened, one after another
abbrev pub HasWorked : List Happened → Work → Work → Type 0
HasWorked [] w v = v ≡ w
HasWorked (h ∷ hs) w v = (between : Work) × Works h w between × HasWorked hs between v

-- the same formulas are dirty, each once, and the counts are equal
pub record IsSameWork (w v : Work) : Type 0 where
  pub dirty : (c : Place) → has same_place w.dirty c ≡ has same_place v.dirty c
  pub long : length w.dirty ≡ length v.dirty
  pub count : w.count ≡ v.count
