use Rattle.formula_parts.proofs.kept.Findings.begun.Goals as goal

pub returns-in-Some-clause-total : goal.returns-in-Some-clause-total
returns-in-Some-clause-total c = λ values is. c.in-Some.ensures.total values is.last

pub returns-in-Some-first_rows-clause-total : goal.returns-in-Some-first_rows-clause-total
returns-in-Some-first_rows-clause-total c = λ values is. c.in-Some-first_rows.ensures.total values is.before

pub returns-in-None-clause-total : goal.returns-in-None-clause-total
returns-in-None-clause-total c = λ values is. c.nothing.ensures
