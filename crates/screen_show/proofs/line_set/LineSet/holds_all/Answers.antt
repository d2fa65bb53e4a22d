use Rattle.std.proofs.Common.{◌≡◌, ap, arith, sym, ◌∙◌}
use Rattle.std.proofs.lemmas.Bool.Decides.{nat_tests}
use Rattle.screen_show.proofs.LineBits.{all_lines}
use Rattle.screen_show.specs.inner.LineSets.{lines_of}
use Rattle.screen_show.proofs.line_set.LineSet.holds_all.Goals as goal

pub returns : goal.returns
returns c holds =
    let all : c.self.inside.bits ≡ 33554431 = grind (arith, nat_tests, holds) in
    sym c.self.view_is ∙ ap (lines_of 25) all ∙ all_lines
