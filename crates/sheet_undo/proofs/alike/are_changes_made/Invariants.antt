use Rattle.std.specs.Prelude.{◌≡◌, take}
use Rattle.std.specs.FinMap.{get}
use Rattle.std.specs.List.{AllByRecursion}
use Rattle.sheet_undo.proofs.alike.are_changes_made.Given as goal

abbrev pub invariant-loop-change : goal.invariant-loop-change
invariant-loop-change l = AllByRecursion (λ e. get l.store.cells e.0 ≡ e.1) (take l.change-index l.changes)
