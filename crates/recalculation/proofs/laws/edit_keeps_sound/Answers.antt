use Rattle.recalculation.proofs.Edit.{edit_keeps_sound}
use Rattle.recalculation.proofs.laws.edit_keeps_sound.Goals as goal

pub returns : goal.returns
returns g c = λ x. edit_keeps_sound g.E.Means.meaning x (record { reads = g.met.E.Means.reads_alone })
