use Rattle.std.proofs.lemmas.Result.{on_err_weaker, IfOk-weaker}
use Rattle.session_core.proofs.Breaking.{pressed_breaks}
use Rattle.session_core.proofs.Stepping.{only_given, pressed_over}
use Rattle.session_core.proofs.machine.Machine.press.Goals as goal

-- any key but BREAK
pub returns-in_default : goal.returns-in_default
returns-in_default g c = record {
  ok = IfOk-weaker c.give.result _ _
      (λ t l. pressed_over c.args.key c.args.now.now t.ends c.args.self.now c.give.new.self _ _
      c.in_default.not-Break l) c.give.ensures.ok;
  memory = on_err_weaker c.give.result
      (pressed_breaks c.args.key c.args.now.now c.args.self.now.state _ _ c.in_default.not-Break) c.give.ensures.memory;
  moves = λ h. c.give.ensures.moves (only_given c.args.key c.args.self.now.state c.in_default.not-Break h);
  stays = λ h. c.give.ensures.stays (only_given c.args.key c.args.self.now.state c.in_default.not-Break h);
  sheet = λ h. c.give.ensures.sheet (only_given c.args.key c.args.self.now.state c.in_default.not-Break h);
  touched = c.give.ensures.touched;
}
