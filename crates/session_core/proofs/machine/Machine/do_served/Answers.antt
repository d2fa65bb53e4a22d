use Rattle.std.proofs.Common.{rules}
use Rattle.session_core.proofs.TextFiles.{carried_leads}
use Rattle.session_core.proofs.machine.Machine.do_served.Goals as goal

pub returns-in_ok-carry-in-Some : goal.returns-in_ok-carry-in-Some
returns-in_ok-carry-in-Some c =
    rw c.in-Some.is (carried_leads _ c.in-Some.deed c.args.self.now _ c.self.inside.engine c.carry.new.self _
    c.self.inside.desk.sheet c.carry.new.sheet c.self.inside.tally.count c.carry.new.tally.count
    (search rules) (search rules) (search rules) (search rules) (search rules)
    (search rules) c.in_ok-carry-in-Some.ensures.step)
