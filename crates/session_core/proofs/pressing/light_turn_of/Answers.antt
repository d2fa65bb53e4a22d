use Rattle.std.proofs.Common.{rules}
use Rattle.session_core.proofs.pressing.light_turn_of.Goals as goal

-- any key but BREAK is the room's, over each desk
pub returns-in_default : goal.returns-in_default
returns-in_default c = λ d. let found = c.light_pressed.ensures d in search (rules, found)
