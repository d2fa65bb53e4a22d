use Rattle.std.proofs.Common.{◌+◌, ◌*◌, length}
use Rattle.formula_tree.specs.View.{tree_of, trees_in}
use Rattle.formula_text.specs.inner.Reads.{Grown, Listed}
use Rattle.formula_text.proofs.parse.+parse.Given as goal

abbrev pub decreases-expression : goal.decreases-expression
decreases-expression l = 3 * length l.lexemes.now + 2

abbrev pub decreases-operand : goal.decreases-operand
decreases-operand l = 3 * length l.lexemes.now + 1

abbrev pub decreases-signed : goal.decreases-signed
decreases-signed l = 3 * length l.lexemes.now + 3

abbrev pub decreases-call : goal.decreases-call
decreases-call l = 3 * length l.lexemes.now + 3

abbrev pub invariant-expression-loop-op : goal.invariant-expression-loop-op
invariant-expression-loop-op l = Grown l.fn.lexemes l.least (tree_of l.left) l.rest

abbrev pub decreases-expression-loop-op : goal.decreases-expression-loop-op
decreases-expression-loop-op l = length l.rest

abbrev pub invariant-call-loop-next : goal.invariant-call-loop-next
invariant-call-loop-next l = Listed l.fn.lexemes l.function l.count (trees_in l.arguments) l.rest

abbrev pub decreases-call-loop-next : goal.decreases-call-loop-next
decreases-call-loop-next l = length l.rest
