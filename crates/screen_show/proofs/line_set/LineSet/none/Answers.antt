use Rattle.screen_show.proofs.LineBits.{no_lines}
use Rattle.screen_show.proofs.line_set.LineSet.none.Goals as goal

pub returns : goal.returns
returns c = no_lines
