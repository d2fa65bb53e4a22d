use Rattle.session_core.proofs.pressing.light_pressed.Goals as goal

-- in READY a key comes to that by any sheet
pub returns-in-Ready : goal.returns-in-Ready
returns-in-Ready c = λ d. rw c.in-Ready.is (c.light_turn.ensures d.sheet d.ranges)
