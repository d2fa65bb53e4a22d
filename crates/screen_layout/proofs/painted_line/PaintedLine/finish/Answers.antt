use Rattle.std.proofs.Common.{arith, ap, ◌∙◌}
use Rattle.screen_layout.specs.Lines.{shown_line}
use Rattle.screen_layout.proofs.Cuts.{shown_whole}
use Rattle.screen_layout.proofs.painted_line.PaintedLine.finish.Goals as goal

pub returns : goal.returns
returns c =
    c.shown.ensures ∙ shown_whole c.self.inside.len c.self.inside.bytes (omega arith) c.self.invariant.0
    c.self.invariant.1 ∙ ap shown_line c.self.view_is
