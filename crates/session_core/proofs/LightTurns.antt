-- A turn that holds no line is carried out as the turn that it is.
use Rattle.std.specs.Prelude.{◌≡◌, false, refl}
use Rattle.std.proofs.Common.{ap, rules, subst, sym, ◌∙◌}
use Rattle.commands_file.specs.Calls.{ShelfView}
use Rattle.formula_parts.specs.declared.look.Scene.{Scene}
use Rattle.key_words.specs.declared.key.Key.{Key}
use Rattle.room_keys.specs.LightTurns.{whole_turn}
use Rattle.room_keys.specs.declared.light_turn.LightTurn.{LightTurn}
use Rattle.room_keys.specs.declared.light_turn.LightTurn.TheVariants as light
use Rattle.serial_date.specs.declared.moment.Moment.{Moment}
use Rattle.session_core.proofs.Alone.{alone, no_replies}
use Rattle.session_core.specs.Machine.{quiet, scene_at, Outcome, Replies, State}
use Rattle.session_core.specs.Pressing.{turn_of}
use Rattle.session_core.specs.Step.{begun_and_carried, by_key, typed_into}
use Rattle.session_core.specs.inner.Leading.{Leads, LeadsOver, Worked}
use Rattle.session_core.specs.inner.LightTurns.{behind_key, lightly}
use Rattle.session_rooms.specs.declared.turn.Turn.{Turn}

-- it begins no command
carried_lightly : (x : LightTurn) (k : Key) (replies : Replies) (scene : Scene) (s : State) →
    begun_and_carried (whole_turn x) replies scene (typed_into k s) ≡ quiet (lightly x (behind_key k s))
carried_lightly light.Ready k replies scene s = refl
carried_lightly (light.Menu r) k replies scene s = refl
carried_lightly (light.Move w) k replies scene s = refl

-- a key that comes to it leads on to that, and makes no call of the shelf
pub light_over : (x : LightTurn) (k : Key) (now : Moment) (before behind : Worked) (v : ShelfView) →
    whole_turn x ≡ turn_of k before.state.room before.state.end before.state.desk →
    behind.state ≡ lightly x (behind_key k before.state) → behind.work ≡ before.work →
    LeadsOver (by_key k) now false before behind v v
light_over x k now before behind v turn_is state_is work_is =
    let scene : Scene = scene_at before.state now in
    let to : State = lightly x (behind_key k before.state) in
    let same : by_key k no_replies scene before.state ≡ quiet to =
    ap (λ (t : Turn). begun_and_carried t no_replies scene (typed_into k before.state)) (sym turn_is)
    ∙ carried_lightly x k no_replies scene before.state in
    let leads : Leads (quiet to) false before behind = search rules in
    alone (by_key k) now false before behind v
    (subst (λ (o : Outcome). Leads o false before behind) (sym same) leads) (ap (λ (o : Outcome). o.calls) same)
