use Rattle.std.proofs.Common.{ap, ◌∙◌}
use Rattle.formula_parts.specs.Lists.{in_range}
use Rattle.sheet_store.proofs.store.tell.Goals as goal

pub returns-then-is_nothing : goal.returns-then-is_nothing
returns-then-is_nothing c = λ others is takes same. c.is_nothing.ensures c.if-is_nothing.true others

pub returns-in-Some : goal.returns-in-Some
returns-in-Some c = λ others is takes same.
    c.tell_number.ensures others is (ap in_range takes ∙ c.in-Some.ensures) same

pub returns-in-None : goal.returns-in-None
returns-in-None c = λ others is takes same.
    c.tell_other.ensures c.args.cells.now c.args.state.now.value others is takes same
