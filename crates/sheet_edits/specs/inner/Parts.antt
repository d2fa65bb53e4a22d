-- The parts of a sheet that an edit changes are held by reference.
use Rattle.std.specs.Prelude.{◌≡◌}
use Rattle.sheet_edits.specs.declared.parts.Parts.{Parts}

-- the same store, graph and dirty set are held
pub record IsSame (a b : Parts) : Type 0 where
  pub store : b.store.ghost_name ≡ a.store.ghost_name
  pub graph : b.graph.ghost_name ≡ a.graph.ghost_name
  pub dirty : b.dirty.ghost_name ≡ a.dirty.ghost_name
