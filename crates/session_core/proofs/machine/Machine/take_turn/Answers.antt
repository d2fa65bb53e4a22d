use Rattle.std.proofs.Common.{rules}
use Rattle.std.proofs.lemmas.Result.{on_err_weaker}
use Rattle.list_lemmas.proofs.Results.{on_err_always}
use Rattle.commands_file.proofs.Broken.{none_over}
use Rattle.session_core.proofs.Alone.{no_replies}
use Rattle.session_core.proofs.Begun.{moved_over}
use Rattle.session_core.proofs.Breaking.{taken_breaks}
use Rattle.session_core.proofs.machine.Machine.take_turn.Goals as goal

-- no call was made of the shelf
pub returns-in_err-turn-clause-memory : goal.returns-in_err-turn-clause-memory
returns-in_err-turn-clause-memory g c = on_err_always _ (none_over _ no_replies _)

-- memory ran out in what the key came to
pub returns-clause-memory : goal.returns-clause-memory
returns-clause-memory g c =
    on_err_weaker c.carry.result
    (λ b. taken_breaks c.args.key c.in_ok-turn.turn c.args.now.now c.args.self.now.state _ _ _ (search rules)
    (search rules) b)
    c.carry.ensures.memory

pub returns-in_err-begin_for-clause-memory : goal.returns-in_err-begin_for-clause-memory
returns-in_err-begin_for-clause-memory g c = on_err_always _ (none_over _ no_replies _)

-- what begins a command leaves the sheet
pub returns-clause-sheet : goal.returns-clause-sheet
returns-clause-sheet g c =
    moved_over c.args.key c.in_ok-turn.turn c.args.self.now.state c.begin_for.new.self.state c.carry.new.self.state
    (search rules) (search rules) c.carry.ensures.sheet
