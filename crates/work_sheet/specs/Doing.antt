-- What an entry, a recalculation and a move of the pointer leave of a sheet, and what happens to its formulas.
use Rattle.std.specs.Prelude.{ℕ, Bool, true, false, List, [], ◌∷◌, ◌++◌, if◌then◌else◌}
use Rattle.formula_parts.specs.declared.look.Scene.{Scene}
use Rattle.formula_tree.specs.declared.value.Content.{Content}
use Rattle.grid_address.specs.Place.{Extent, Place}
use Rattle.natural_order.specs.Walk.{Walked}
use Rattle.recalculation.specs.Context.{context_of, Context}
use Rattle.recalculation.specs.Passes.{passes, Meaning}
use Rattle.recalculation.specs.Reading.{order_in}
use Rattle.sheet_edits.specs.Edits.{entered, is_evaluated, just, written}
use Rattle.sheet_store.specs.Grid.{Grid}
use Rattle.sheet_store.specs.declared.order.Order.{Order}
use Rattle.work_sheet.specs.Seen.{Sheet}

-- what happens to the formulas of a sheet
pub data Happened : Type 0 where
  -- cells were written, which left this grid
  wrote : (Place → Bool) → Grid → Happened
  -- the formula that was written was evaluated once
  evaluated_once : Happened
  -- all formulas were evaluated in an order, in so many passes, which left this grid
  passed : Order → ℕ → Grid → Happened
  -- all formulas of this grid became dirty
  all_dirty : Grid → Happened
  -- the formulas of a span of this grid were evaluated, in so many passes
  swept : Extent → ℕ → Grid → Happened

-- what an act leaves of a sheet, and what happened in it, in order
pub record Done : Type 0 where
  pub sheet : Sheet
  pub log : List Happened

-- what is done, and then an act on the sheet that it leaves
abbrev pub and_then : Done → (Sheet → Done) → Done
and_then d act = record { sheet = (act d.sheet).sheet; log = d.log ++ (act d.sheet).log }

-- the sheet becomes this one, and nothing happens to its formulas
abbrev pub quiet : Sheet → Done
quiet s = record { sheet = s; log = [] }

-- cells are written, which leaves this grid; a recalculation is wanted
abbrev pub edited : (Place → Bool) → Grid → Sheet → Done
edited cells g s = record { sheet = record s { grid = g; stale = true }; log = wrote cells g ∷ [] }

-- a cell takes a content
abbrev pub with_content : Place → Content → Sheet → Done
with_content c x s = edited (just c) (written s.grid c x) s

-- what formulas look at beside the cells
abbrev pub context_in : Scene → Sheet → Context
context_in scene s = context_of s.names s.settings scene

-- one evaluation, or none
abbrev pub evaluation_if : Bool → List Happened
evaluation_if true = evaluated_once ∷ []
evaluation_if false = []

-- all formulas, in the order in which they are evaluated, and whether a circle is told
abbrev pub ordered : Sheet → Walked Place
ordered s = order_in s.settings.order s.grid

module _ (mean : Meaning) where
  -- A cell takes a content that a line spells. In Manual mode a formula is then evaluated once.
  abbrev pub put : Scene → Place → Content → Sheet → Done
  put scene c x s = record {
    sheet = record s { grid = entered mean (context_in scene s) (is_evaluated s.settings x) s.grid c x; stale = true };
    log = wrote (just c) (written s.grid c x) ∷ evaluation_if (is_evaluated s.settings x);
  }

  -- the grid after every formula was evaluated, as many times as there are passes
  abbrev pub all_passed : Scene → Sheet → Grid
  all_passed scene s = passes mean (context_in scene s) s.settings.passes (ordered s).done s.grid

  -- every formula is evaluated, as many times as there are passes; no recalculation is wanted
  abbrev pub recalculated : Scene → Sheet → Done
  recalculated scene s = record {
    sheet = record s { grid = all_passed scene s; circular = (ordered s).circular; stale = false };
    log = passed s.settings.order s.settings.passes (all_passed scene s) ∷ [];
  }

  -- in Automatic mode all is recalculated
  abbrev pub settled : Scene → Sheet → Done
  settled scene s = if s.settings.automatic then recalculated scene s else quiet s

  -- a content that a line spells is entered into a cell; in Automatic mode a recalculation follows
  abbrev pub with_entry : Scene → Place → Content → Sheet → Done
  with_entry scene c x s = and_then (put scene c x s) (settled scene)

-- the pointer stands in a cell
abbrev pub with_pointer : Place → Sheet → Sheet
with_pointer p s = record s { settings = record s.settings { pointer = p } }
