use Rattle.std.proofs.Common.{◌≡◌, ◌≤◌, ◌-◌, ◌++◌, true, length, drop}
use Rattle.formula_text.specs.inner.Fine.{are_fine}
use Rattle.formula_text.specs.Lexed.{lexed}
use Rattle.formula_text.proofs.lex.lex.Given as goal

abbrev pub invariant-loop-at : goal.invariant-loop-at
invariant-loop-at l = (l.at ≤ length l.text) × (l.lexemes.items ++ lexed l.names l.cell 0 l.at (drop l.at l.text)
    ≡ lexed l.names l.cell 0 0 l.text) × (are_fine l.lexemes.items ≡ true) × (length l.lexemes.items ≤ l.at)

abbrev pub decreases-loop-at : goal.decreases-loop-at
decreases-loop-at l = length l.text - l.at
