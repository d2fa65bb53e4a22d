use Rattle.session_core.proofs.acting.act_common.Goals as goal

pub returns-in-Goto : goal.returns-in-Goto
returns-in-Goto c = rw c.in-Goto.is (c.go_to.ensures c.args.tally.now.count)
