-- The last command is taken back.
use Rattle.std.proofs.Common.{◌≡◌, Bool, true, List, [], ◌∷◌, refl, ap}
use Rattle.std.specs.Prelude.{if◌then◌else◌}
use Rattle.formula_parts.specs.declared.look.Scene.{Scene}
use Rattle.work_sheet.specs.Seen.{Sheet}
use Rattle.desk_errors.specs.declared.error.CommandError.TheVariants as error
use Rattle.session_core.specs.Carrying.{undone, undone_to}
use Rattle.session_core.specs.Machine.{is_running, quiet, State}
use Rattle.session_core.proofs.Alone.{either_calls}
use Rattle.session_core.proofs.Failing.{failed_calls}

-- inside a macro nothing is done
pub passed_over : (scene : Scene) (s : State) → is_running s ≡ true → undone scene s ≡ quiet s
passed_over scene s runs = ap (λ (r : Bool). if r then quiet s else undone_to s.history.kept scene s) runs

undone_calls : (kept : List Sheet) (scene : Scene) (s : State) → (undone_to kept scene s).calls ≡ []
undone_calls [] scene s = failed_calls error.NothingToUndo scene s
undone_calls (latest ∷ earlier) scene s = refl

-- what takes the last command back makes no call
pub undo_calls : (scene : Scene) (s : State) → (undone scene s).calls ≡ []
undo_calls scene s = either_calls (is_running s) _ _ refl (undone_calls s.history.kept scene s)
