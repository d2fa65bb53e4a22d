use Rattle.std.proofs.Common.{ap, ◌∙◌}
use Rattle.edit_log.proofs.AtOnce.{none_listed}
use Rattle.edit_log.proofs.log.EditLog.take.Goals as goal

pub invariant_of-self : goal.invariant_of-self
invariant_of-self c = none_listed c.truncate.new.self.keys c.replace.new.dest.items c.truncate.ensures
    (ap (λ v. v.items) c.replace.ensures.after ∙ c.new.ensures.items)
