use Rattle.macro_text.specs.inner.Formulas.{AreReadOf}
use Rattle.macro_text.proofs.arguments.formulas_in.Given as goal

abbrev pub invariant-loop-place : goal.invariant-loop-place
invariant-loop-place l = AreReadOf l.list l.formulas.items
