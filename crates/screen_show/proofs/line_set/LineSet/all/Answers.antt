use Rattle.screen_show.proofs.LineBits.{all_lines}
use Rattle.screen_show.proofs.line_set.LineSet.all.Goals as goal

pub returns : goal.returns
returns c = all_lines
