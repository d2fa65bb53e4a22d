use Rattle.formula_parts.proofs.kept.Findings.none.Goals as goal

pub returns : goal.returns
returns c = λ values. record { last = tt; before = tt; rising = tt }
