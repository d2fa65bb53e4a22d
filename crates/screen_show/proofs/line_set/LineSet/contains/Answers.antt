use Rattle.std.proofs.Common.{ap, arith, slice_get, sym, ◌∙◌}
use Rattle.screen_show.proofs.LineBits.{line_tested}
use Rattle.screen_show.proofs.line_set.LineSet.contains.Goals as goal

pub returns : goal.returns
returns c =
    sym (ap (λ lines. slice_get lines c.args.row) c.self.view_is)
    ∙ line_tested c.self.inside.bits c.args.row (omega arith)
