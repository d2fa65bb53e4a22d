use Rattle.std.proofs.Common.{ap, arith, slice_get, sym, ◌∙◌}
use Rattle.screen_show.proofs.LineBits.{next_on, next_passed, next_there, nothing_left}
use Rattle.screen_show.proofs.line_set.LineSet.next_from.Goals as goal

pub returns-then-rest-eq0-clause-passed : goal.returns-then-rest-eq0-clause-passed
returns-then-rest-eq0-clause-passed c k from before =
    sym (ap (λ lines. slice_get lines k) c.self.view_is)
    ∙ nothing_left c.self.inside.bits c.args.row c.requires c.if-rest-eq0.true k from before

pub returns-clause-within : goal.returns-clause-within
returns-clause-within c = (
  next_on c.self.inside.bits c.args.row c.requires c.if-rest-eq0.false c.min.result c.min.ensures,
  omega (arith, c.min.ensures),
)

pub returns-clause-passed : goal.returns-clause-passed
returns-clause-passed c k from before =
    sym (ap (λ lines. slice_get lines k) c.self.view_is)
    ∙ next_passed c.self.inside.bits c.args.row c.requires c.if-rest-eq0.false c.min.result c.min.ensures k from before

pub returns-clause-there : goal.returns-clause-there
returns-clause-there c inside =
    sym (ap (λ lines. slice_get lines c.min.result) c.self.view_is)
    ∙ next_there c.self.inside.bits c.args.row c.requires c.if-rest-eq0.false c.min.result c.min.ensures inside
