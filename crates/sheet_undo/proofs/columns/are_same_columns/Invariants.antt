use Rattle.std.specs.Prelude.{ℕ, ◌<◌}
use Rattle.sheet_undo.specs.inner.Same.{IsSameColumn}
use Rattle.sheet_undo.proofs.columns.are_same_columns.Given as goal

abbrev pub invariant-loop-col : goal.invariant-loop-col
invariant-loop-col l = (i : ℕ) → i < l.col → IsSameColumn l.one l.other i
