use Rattle.formula_parts.proofs.kept.Findings.filled.Goals as goal

pub returns : goal.returns
returns c = λ values others is blank takes same. record {
  last = c.grown-last.ensures values others is.last blank takes same;
  before = c.grown-before.ensures values others is.before blank takes same;
  rising = (c.without-apart.ensures values others is same).rising;
}
