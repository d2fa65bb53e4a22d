use Rattle.sheet_shifts.specs.inner.Puts.{IsNaming}
use Rattle.sheet_shifts.proofs.names.names_after.Given as goal

abbrev pub invariant-loop-key : goal.invariant-loop-key
invariant-loop-key l = IsNaming l.shift l.names l.after l.key-iterator
