use Rattle.formula_parts.proofs.Ascent.{let_go}
use Rattle.formula_parts.proofs.kept.Findings.without.Goals as goal

pub returns : goal.returns
returns c = λ values others is same. record {
  last = c.without-last.ensures values others is.last same;
  before = c.without-before.ensures values others is.before same;
  rising =
      let_go values others c.args.self.rising c.beside-rising.result c.args.cell same is.rising c.beside-rising.ensures;
}
