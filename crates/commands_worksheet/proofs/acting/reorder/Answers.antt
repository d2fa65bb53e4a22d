use Rattle.std.proofs.Common.{refl}
use Rattle.commands_worksheet.proofs.acting.reorder.Goals as goal

pub returns : goal.returns
returns c = λ n. record { end = refl; did = c.in_ok-set_order.ensures.did n }
