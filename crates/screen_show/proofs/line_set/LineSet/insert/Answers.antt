use Rattle.std.proofs.Common.{ap, arith, set, true, ◌∙◌}
use Rattle.screen_show.proofs.LineBits.{line_added}
use Rattle.screen_show.proofs.line_set.LineSet.insert.Goals as goal

pub returns : goal.returns
returns c =
    line_added c.self.inside.bits c.args.row (omega arith) ∙ ap (λ lines. set lines c.args.row true) c.self.view_is
