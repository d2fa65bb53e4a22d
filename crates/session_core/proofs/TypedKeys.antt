-- A key that a macro's step types, while the macro runs on.
use Rattle.std.proofs.Common.{◌≡◌, Bool, true, false, Option, None, Some, Result, Ok, Err, refl, sym, ◌∙◌}
use Rattle.std.proofs.lemmas.Bool.{false≢true}
use Rattle.std.specs.Prelude.{is_some}
use Rattle.formula_parts.specs.declared.look.Scene.{Scene}
use Rattle.grid_address.specs.Place.{Place}
use Rattle.key_words.specs.declared.key.Key.{Key}
use Rattle.macro_engine.specs.Changes.{changed, changed_cells, outlook_in, refused_cell}
use Rattle.macro_engine.specs.Keys.{key_step, rested}
use Rattle.macro_engine.specs.Steps.{cell_of, deed_step, ended, format_in, macro_step, placed, row_step, unit_step}
use Rattle.macro_engine.specs.Steps.{unless_protected, worked, MacroStep}
use Rattle.macro_engine.specs.declared.steps.StepEnd.{StepEnd}
use Rattle.macro_engine.specs.declared.steps.StepEnd.TheVariants.{Types}
use Rattle.macro_text.specs.Units.{next_unit}
use Rattle.macro_text.specs.declared.unit.MacroFault.{MacroFault}
use Rattle.macro_text.specs.declared.unit.Unit.{Unit}
use Rattle.macro_text.specs.declared.unit.Unit.TheVariants as unit
use Rattle.macro_words.specs.Keys.{key_row}
use Rattle.macro_words.specs.Moves.{moved}
use Rattle.macro_words.specs.Rows.{return_row, row, Row}
use Rattle.macro_words.specs.declared.running.Change.{Change}
use Rattle.macro_words.specs.declared.running.Change.TheVariants as change
use Rattle.macro_words.specs.declared.running.Deed.{Deed}
use Rattle.macro_words.specs.declared.running.Move.{Move}
use Rattle.macro_words.specs.declared.running.Move.TheVariants as move
use Rattle.macro_words.specs.declared.running.Running.{Running}
use Rattle.work_sheet.specs.Seen.{Sheet}

-- whether a step came to a key
abbrev pub is_typed : StepEnd → Bool
is_typed (Types k) = true
is_typed _ = false

-- behind a step that types a key the macro runs
abbrev pub RunsOn : MacroStep → Type 0
RunsOn x = is_typed x.end ≡ true → is_some x.running ≡ true

untyped : (x : MacroStep) → is_typed x.end ≡ false → RunsOn x
untyped x none typed = absurd (false≢true (sym none ∙ typed))

worked_untyped : (x : Change) → is_typed (worked x) ≡ false
worked_untyped change.Nothing = refl
worked_untyped (change.Write ws) = refl
worked_untyped (change.Erase span) = refl
worked_untyped (change.Recalculate sweep) = refl

ended_untyped : (x : Change) (m : Move) → is_typed (ended x m) ≡ false
ended_untyped x move.Stay = worked_untyped x
ended_untyped x (move.Go to) = worked_untyped x
ended_untyped x (move.Call from to) = worked_untyped x
ended_untyped x (move.Begin l) = worked_untyped x
ended_untyped x (move.Leave to) = worked_untyped x
ended_untyped x move.Forget = worked_untyped x
ended_untyped x move.Stop = worked_untyped x
ended_untyped x (move.Handle h) = worked_untyped x
ended_untyped x (move.Wait w) = worked_untyped x
ended_untyped x (move.Pause at until) = worked_untyped x
ended_untyped x (move.Switch s) = worked_untyped x
ended_untyped x (move.Indicate t) = refl
ended_untyped x (move.Files d) = refl

unless_runs : (cell : Option Place) (x : MacroStep) (r : Running) (s : Sheet) → RunsOn x
    → RunsOn (unless_protected cell x r s)
unless_runs None x r s on = on
unless_runs (Some c) x r s on = λ typed. refl

deed_runs : (scene : Scene) (r : Running) (d : Deed) (s : Sheet) → RunsOn (deed_step scene r d s)
deed_runs scene r d s =
    let x : MacroStep =
    record { end = ended d.change d.after; running = moved d.after r; done = changed scene d.change s } in
    unless_runs (refused_cell s (changed_cells d.change)) x r s (untyped x (ended_untyped d.change d.after))

row_runs : (scene : Scene) (r : Running) (c : Place) (d : Row) (s : Sheet) → RunsOn (row_step scene r c d s)
row_runs scene r c (Ok d) s = deed_runs scene r d s
row_runs scene r c (Err f) s = λ typed. absurd (false≢true typed)

unit_runs : (scene : Scene) (r : Running) (u : Unit) (s : Sheet) → RunsOn (unit_step scene r u s)
unit_runs scene r (unit.Key k) s = λ typed. refl
unit_runs scene r (unit.Command at) s = row_runs scene r at.cell (row (outlook_in scene s) (format_in s) r at) s
unit_runs scene r unit.Down s = λ typed. absurd (false≢true typed)
unit_runs scene r unit.Return s = row_runs scene r (cell_of r) (return_row (outlook_in scene s) r) s
unit_runs scene r (unit.Fault f) s = λ typed. absurd (false≢true typed)

-- the macro's own step
pub macro_runs : (scene : Scene) (running : Option Running) (s : Sheet) → RunsOn (macro_step scene running s)
unfolding macro_step
macro_runs scene None s = λ typed. absurd (false≢true typed)
macro_runs scene (Some r) s =
    let n = next_unit (outlook_in scene s) r.position in
    unit_runs scene (placed r n.1) n.0 s

-- and that by a key for which it waited
pub key_runs : (scene : Scene) (k : Key) (running : Option Running) (s : Sheet) → RunsOn (key_step scene k running s)
unfolding key_step
key_runs scene k None s = λ typed. absurd (false≢true typed)
key_runs scene k (Some r) s =
    row_runs scene (rested r) (cell_of r) (key_row (outlook_in scene s) (rested r) r.waiting k) s
