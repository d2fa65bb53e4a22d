-- Passes over formulas, and what holds of the dirty ones.
use Rattle.std.specs.Prelude.{ℕ, zero, suc, ◌≡◌, ◌+◌, ◌-◌, ◌^◌, ◌⊎◌, ◌↔◌, min, Bool, true, false, cond, nat_eq, Option, None, Some, List}
use Rattle.std.specs.FinMap as map
use Rattle.std.specs.List.{filter, fold}
use Rattle.grid_address.specs.Place.{same_place, Place}
use Rattle.formula_tree.specs.Spans.{is_volatile}
use Rattle.formula_tree.specs.Tree.{Tree}
use Rattle.formula_tree.specs.declared.value.Value.{Value}
use Rattle.formula_parts.specs.Outlook.{Outlook}
use Rattle.depend_graph.specs.Network.{ReachesCell}
use Rattle.cell_maps.specs.Sets.{has}
use Rattle.natural_order.specs.Walk.{Reaches}
use Rattle.sheet_store.specs.Grid.{set_value_at, value_at, Grid}
use Rattle.sheet_store.specs.declared.order.Order.{Order}
use Rattle.sheet_store.specs.declared.order.Order.TheVariants as orders
use Rattle.recalculation.specs.Context.{content_of, format_of, formula_at, outlook_at, Context}
use Rattle.recalculation.specs.Reading.{is_formula_at, natural_order, pre, reads_at, StaysDirty}

-- what a formula in a cell is worth in an outlook
abbrev pub Meaning : Type 0
Meaning = Tree → Place → Outlook → Value

-- the value of a cell becomes what its formula is worth now; a cell without one stays as it is
abbrev pub revalued : Meaning → Context → Grid → Place → Option Tree → Grid
revalued mean x g c None = g
revalued mean x g c (Some t) = set_value_at g c (mean t c (outlook_at x g))

-- a cell takes the meaning of its formula over the values as they stand
abbrev pub evaluated : Meaning → Context → Grid → Place → Grid
evaluated mean x g c = revalued mean x g c (formula_at g c)

-- each of the cells is evaluated once, in their order, over what those before it left
abbrev pub pass : Meaning → Context → List Place → Grid → Grid
pass mean x cells g = fold (evaluated mean x) g cells

-- so many passes along the same cells, each over what the one before left
abbrev pub passes : Meaning → Context → ℕ → List Place → Grid → Grid
passes mean x zero cells g = g
passes mean x (suc n) cells g = passes mean x n cells (pass mean x cells g)

-- a count after so many evaluations: it stays at the last u64
abbrev pub raised_by : ℕ → ℕ → ℕ
raised_by n count = cond (nat_eq n 0) count (min (count + n) (2 ^ 64 - 1))

-- what holds of the dirty formulas between the edits
pub record IsSound (mean : Meaning) (x : Context) (g : Grid) (dirty : Place → Bool) : Type 0 where
  pub only : (c : Place) → dirty c ≡ true → is_formula_at g c ≡ true
  pub up : (c d : Place) → has same_place (pre g c) d ≡ true → dirty d ≡ true → dirty c ≡ true
  pub calm : (c : Place) (t : Tree) → formula_at g c ≡ Some t → dirty c ≡ false → is_volatile t ≡ false
  pub acyclic : (c : Place) → dirty c ≡ false → Reaches same_place (pre g) c c → ⊥
  pub right : (c : Place) (t : Tree) → formula_at g c ≡ Some t → dirty c ≡ false →
      value_at g c ≡ mean t c (outlook_at x g)

-- these are just the formulas that a recalculation leaves dirty
abbrev pub IsWhatStays : Grid → (Place → Bool) → Type 0
IsWhatStays g rest = (c : Place) → (rest c ≡ true) ↔ StaysDirty g c

-- the formulas that are dirty after a recalculation: those that stay in natural order, and in another order all that
-- were
abbrev pub IsDirtyAfter : Order → Grid → (Place → Bool) → (Place → Bool) → Type 0
IsDirtyAfter orders.Natural g old new = IsWhatStays g new
IsDirtyAfter orders.Columnwise g old new = (c : Place) → new c ≡ old c
IsDirtyAfter orders.Rowwise g old new = (c : Place) → new c ≡ old c

-- contents, formats, widths and marks are the same
pub record SameContents (old new : Grid) : Type 0 where
  pub contents : (c : Place) → content_of (map.get new.cells c) ≡ content_of (map.get old.cells c)
  pub formats : (c : Place) → format_of (map.get new.cells c) ≡ format_of (map.get old.cells c)
  pub widths : new.widths ≡ old.widths
  pub hidden : new.hidden ≡ old.hidden

-- the cells that aren't among these have what they had
abbrev pub SameOutside : (Place → Bool) → Grid → Grid → Type 0
SameOutside among old new = (c : Place) → among c ≡ false → map.get new.cells c ≡ map.get old.cells c

-- no formula is volatile, and none reaches itself
pub record IsPlain (g : Grid) : Type 0 where
  pub steady : (c : Place) (t : Tree) → formula_at g c ≡ Some t → is_volatile t ≡ false
  pub acyclic : (c : Place) → Reaches same_place (pre g) c c → ⊥

-- each formula has its meaning over the sheet's values
abbrev pub IsRight : Meaning → Context → Grid → Type 0
IsRight mean x g = (c : Place) (t : Tree) → formula_at g c ≡ Some t → value_at g c ≡ mean t c (outlook_at x g)

-- cells were written, and the formulas that they hold or that reach one of them are dirty now
pub record IsSpread (old new : Grid) (written dirty spread : Place → Bool) : Type 0 where
  pub others : (c : Place) → written c ≡ false → map.get new.cells c ≡ map.get old.cells c
  pub only : (c : Place) → spread c ≡ true → is_formula_at new c ≡ true
  pub written_too : (c : Place) → written c ≡ true → is_formula_at new c ≡ true → spread c ≡ true
  pub reaching : (c w : Place) → written w ≡ true → ReachesCell (reads_at new) c w → spread c ≡ true
  pub kept : (c : Place) → dirty c ≡ true → is_formula_at new c ≡ true → spread c ≡ true
  pub exact : (c : Place) → spread c ≡ true →
      (written c ≡ true) ⊎ (((w : Place) × (written w ≡ true) × ReachesCell (reads_at new) c w) ⊎ (dirty c ≡ true))

-- an edit that spreads keeps what holds of the dirty formulas
abbrev pub EditKeepsSound : Meaning → Context → Type 0
EditKeepsSound mean x = (old new : Grid) (written dirty spread : Place → Bool) → IsSound mean x old dirty →
    IsSpread old new written dirty spread → IsSound mean x new spread

-- the formulas that stay dirty after a recalculation, as a set: what is left out isn't volatile, and reads nothing that
-- is in
pub record IsRest (g : Grid) (rest : Place → Bool) : Type 0 where
  pub only : (c : Place) → rest c ≡ true → is_formula_at g c ≡ true
  pub volatile : (c : Place) (t : Tree) → formula_at g c ≡ Some t → rest c ≡ false → is_volatile t ≡ false
  pub up : (c d : Place) → has same_place (pre g c) d ≡ true → rest d ≡ true → rest c ≡ true
  pub acyclic : (c : Place) → rest c ≡ false → Reaches same_place (pre g) c c → ⊥

-- the passes over all formulas are one over the dirty ones and the further ones over the rest
abbrev pub RecalculationIsCut : Meaning → Context → Type 0
RecalculationIsCut mean x = (g : Grid) (dirty rest : Place → Bool) → IsSound mean x g dirty → IsRest g rest → (n : ℕ)
    → passes mean x (suc n) (natural_order g).done g
    ≡ passes mean x n (filter rest (natural_order g).done) (pass mean x (filter dirty (natural_order g).done) g)
