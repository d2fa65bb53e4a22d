use Rattle.std.proofs.Common.{◌≡◌, rules, subst}
use Rattle.std.specs.Prelude.{IfSome, Option, Some}
use Rattle.command_desk.specs.Desks.{of_desk, Desk}
use Rattle.room_keys.specs.LightTurns.{whole_turn}
use Rattle.room_keys.specs.declared.light_turn.LightTurn.{LightTurn}
use Rattle.session_core.proofs.LightTurns.{light_over}
use Rattle.session_core.proofs.TypedOn.{byte_over}
use Rattle.session_core.proofs.machine.Machine.take.Goals as goal
use Rattle.session_core.specs.Pressing.{turn_of}
use Rattle.session_rooms.specs.declared.rooms.Room.{Room}

-- a byte goes into the line that is typed
pub returns-in-Byte-clause-ok : goal.returns-in-Byte-clause-ok
returns-in-Byte-clause-ok g c =
    rw c.in-Byte.is (byte_over c.in-Byte.byte c.args.now.now c.args.self.now c.type_byte.new.self _ (search rules)
    c.type_byte.ensures.state c.type_byte.ensures.work)

-- a key begins no line and no command
pub returns-in-Some-clause-ok : goal.returns-in-Some-clause-ok
returns-in-Some-clause-ok g c =
    let of_room : Room = c.self-in_default.inside.room in
    let desk : Desk = of_desk c.self-in_default.inside.desk in
    let found : IfSome (Some c.in-Some.turn)
    (λ x. whole_turn x ≡ turn_of c.in_default.key of_room c.self-in_default.inside.end desk) =
    subst (λ (r : Option LightTurn). IfSome r
    (λ x. whole_turn x ≡ turn_of c.in_default.key of_room c.self-in_default.inside.end desk))
    c.in-Some.is (c.light_turn_of.ensures desk) in
    light_over c.in-Some.turn c.args.key c.args.now.now c.args.self.now c.take_lightly-touched.new.self _
    (search (rules, found)) (search rules) (search rules)
