use Rattle.std.proofs.Common.{sym, arith}
use Rattle.lics_text.proofs.Lists.{none_small}
use Rattle.lics_text.proofs.text.Text.from_bytes.Goals as goal

pub copy_of-requires : goal.copy_of-requires
copy_of-requires c = (omega arith, none_small c.args.bytes.now (sym c.in_default.ensures))
