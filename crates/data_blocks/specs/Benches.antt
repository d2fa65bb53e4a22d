-- A bench: a sheet on which inputs are tried, and whose cells get their old contents back.
use Rattle.std.specs.Prelude.{◌≡◌, Bool, true, false, Option, Some, unwrap_or, List, [], ◌∷◌, ◌++◌, map, Result, Ok, Err, if◌then◌else◌}
use Rattle.std.specs.List.{list_any}
use Rattle.grid_address.specs.Place.{same_place, Extent, Place}
use Rattle.formula_tree.specs.declared.value.Content.{Content}
use Rattle.formula_tree.specs.declared.value.Value.{Value}
use Rattle.formula_tree.specs.declared.value.Value.TheVariants as value
use Rattle.block_writes.specs.Writing.{as_content}
use Rattle.sheet_store.specs.declared.writes.SheetFault.TheVariants as sheet_fault
use Rattle.sheet_store.specs.declared.writes.Write.{Write}
use Rattle.data_blocks.specs.Tables.{answer_written, table_fault, Trial, Scenario}
use Rattle.data_blocks.specs.declared.fault.BlockFault.{BlockFault}
use Rattle.data_blocks.specs.declared.fault.BlockFault.TheVariants as fault

-- What a bench shows: the values of its sheet's cells, where it holds something of them, their contents, which of them
-- are protected, the cells that take inputs, and what each cell held before the first input.
pub record OnBench : Type 0 where
  pub answers : Place → Option Value
  pub contents : Place → Content
  pub guarded : Place → Bool
  pub inputs : List Place
  pub kept : Place → Content

-- the values of its cells; one of which nothing is held is blank
abbrev pub values_on : OnBench → Place → Value
values_on b p = unwrap_or (b.answers p) value.Blank

-- whether a cell takes inputs
abbrev pub takes : OnBench → Place → Bool
takes b p = list_any (same_place p) b.inputs

-- one cell holds another content
abbrev pub with_content : Place → Content → (Place → Content) → Place → Content
with_content cell x held p = if same_place p cell then x else held p

-- what no call of a bench changes
pub record IsSameBench (a b : OnBench) : Type 0 where
  pub guarded : b.guarded ≡ a.guarded
  pub inputs : b.inputs ≡ a.inputs
  pub kept : b.kept ≡ a.kept

-- an input was entered
abbrev pub HasEntered : Trial → OnBench → OnBench → Type 0
HasEntered t a b = b.contents ≡ with_content t.cell (as_content t.value) a.contents

-- each cell holds what it held before the first input
abbrev pub HoldsOld : OnBench → Type 0
HoldsOld b = b.contents ≡ b.kept

-- a protected cell refuses each input and leaves the contents, and beside that want of memory alone is answered
abbrev pub IsTrialOf : Bool → Place → Result (Unit {0}) BlockFault → OnBench → OnBench → Type 0
IsTrialOf true cell r a b = (r ≡ Err (fault.Sheet (sheet_fault.Protected cell))) × (b.contents ≡ a.contents)
IsTrialOf false cell (Ok x) a b = Unit {0}
IsTrialOf false cell (Err f) a b = f ≡ fault.Memory

-- why a table with these input cells fails: want of memory, or what refuses it; after any fault but want of memory all
-- contents are as before
pub data IsFaultOf (s : Extent) (inputs : List Place) (a b : OnBench) (f : BlockFault) : Type 0 where
  memory : f ≡ fault.Memory → IsFaultOf s inputs a b f
  refused : table_fault s inputs a.guarded ≡ Some f → b.contents ≡ a.contents → IsFaultOf s inputs a b f

module _ {B : Type 0} (tries : Trial → B → B → Type 0) where
  -- inputs were tried one after another
  abbrev pub HasTried : List Trial → B → B → Type 0
  HasTried [] a z = z ≡ a
  HasTried (t ∷ ts) a z = (b : B) × tries t a b × HasTried ts b z

module _ {B : Type 0} (shows : B → OnBench) (tries : Trial → B → B → Type 0) where
  -- scenarios were tried one after another, and the answers of each added to the writes
  abbrev pub HasTaken : List Scenario → B → List Write → B → List Write → Type 0
  HasTaken [] a before z after = (z ≡ a) × (after ≡ before)
  HasTaken (t ∷ ts) a before z after = (b : B)
      × HasTried tries t.trials a b
      × HasTaken ts b (before ++ map (answer_written (values_on (shows b))) t.answers) z after

  -- scenarios were tried from no write on, and the old contents given back
  abbrev pub IsTable : (B → B → Type 0) → List Scenario → B → B → List Write → Type 0
  IsTable gives_back scenarios a z writes = (b : B) × HasTaken scenarios a [] b writes × gives_back b z
