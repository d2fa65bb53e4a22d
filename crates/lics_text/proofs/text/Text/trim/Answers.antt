use Rattle.std.proofs.Common.{sym, subst}
use Rattle.lics_text.specs.Bytes.{IsText}
use Rattle.lics_text.proofs.text.Text.trim.Goals as goal

pub like-requires : goal.like-requires
like-requires c = subst IsText (sym c.bytes.ensures.bytes) c.trimmed-line.ensures.text
