use Rattle.std.proofs.Common.{◌≡◌, rules, false, sym, ◌∙◌}
use Rattle.room_keys.specs.menu.Room as menu
use Rattle.session_core.specs.Machine.{sheet_of, State}
use Rattle.session_core.specs.Pressing.{room_panel}
use Rattle.session_core.specs.inner.Showing.{shows_waiting}
use Rattle.session_core.proofs.Kept.{nothing_shown}
use Rattle.session_core.proofs.machine.Machine.plain_menu.Goals as goal

-- no macro shows its own
pub returns-in-Some : goal.returns-in-Some
returns-in-Some c =
    let s : State = c.args.self.now.state in
    let none : shows_waiting s.running ≡ false = search rules in
    let shown : menu.panel c.in-Some.room.now ≡ room_panel s.room = search rules in
    shown ∙ sym (nothing_shown (sheet_of s) s.running (room_panel s.room) none)
