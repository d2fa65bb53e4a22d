-- A step of a macro that changes nothing of the sheet leaves it.
use Rattle.std.specs.Prelude.{ℕ, ◌≡◌, refl, false, true, Option, None, Some, Ok, Err}
use Rattle.std.proofs.Common.{subst, ◌∙◌}
use Rattle.std.proofs.lemmas.Bool.{false≢true}
use Rattle.formula_parts.specs.declared.look.Scene.{Scene}
use Rattle.grid_address.specs.Place.{Place}
use Rattle.macro_words.specs.Moves.{moved}
use Rattle.key_words.specs.declared.key.Key.{Key}
use Rattle.macro_text.specs.Units.{next_unit, Next}
use Rattle.macro_text.specs.declared.unit.Unit.{Unit}
use Rattle.macro_text.specs.declared.unit.Unit.TheVariants as unit
use Rattle.macro_words.specs.Keys.{key_row}
use Rattle.macro_words.specs.Rows.{return_row, row, Row}
use Rattle.macro_words.specs.declared.running.Change.{Change}
use Rattle.macro_words.specs.declared.running.Change.TheVariants as change
use Rattle.macro_words.specs.declared.running.Deed.{Deed}
use Rattle.macro_words.specs.declared.running.Move.{Move}
use Rattle.macro_words.specs.declared.running.Move.TheVariants as move
use Rattle.macro_words.specs.declared.running.Running.{Running}
use Rattle.work_sheet.specs.Seen.{of_worksheet, Sheet}
use Rattle.work_sheet.specs.Sheets.{Worksheet}
use Rattle.macro_engine.specs.Changes.{changed, changed_cells, refused_cell, outlook_in}
use Rattle.macro_engine.specs.Keys.{key_step, rested}
use Rattle.macro_engine.specs.Steps.{cell_of, ended, format_in, leaves_sheet, macro_step, placed, row_step}
use Rattle.macro_engine.specs.Steps.{unit_step, unless_protected, worked, HasStepped, MacroStep}
use Rattle.macro_engine.specs.declared.steps.StepEnd.{StepEnd}

-- a step that changes nothing of the sheet leaves it
worked_leaves : (x : Change) (scene : Scene) (s : Sheet) → leaves_sheet (worked x) ≡ true
    → (changed scene x s).sheet ≡ s
worked_leaves change.Nothing scene s h = refl
worked_leaves (change.Write ws) scene s h = absurd (false≢true h)
worked_leaves (change.Erase span) scene s h = absurd (false≢true h)
worked_leaves (change.Recalculate sweep) scene s h = absurd (false≢true h)

ended_leaves : (m : Move) (x : Change) (scene : Scene) (s : Sheet) → leaves_sheet (ended x m) ≡ true
    → (changed scene x s).sheet ≡ s
ended_leaves (move.Indicate t) x scene s h = absurd (false≢true h)
ended_leaves (move.Files d) x scene s h = absurd (false≢true h)
ended_leaves move.Stay x scene s h = worked_leaves x scene s h
ended_leaves (move.Go spot) x scene s h = worked_leaves x scene s h
ended_leaves (move.Call word spot) x scene s h = worked_leaves x scene s h
ended_leaves (move.Begin l) x scene s h = worked_leaves x scene s h
ended_leaves (move.Leave spot) x scene s h = worked_leaves x scene s h
ended_leaves move.Forget x scene s h = worked_leaves x scene s h
ended_leaves move.Stop x scene s h = worked_leaves x scene s h
ended_leaves (move.Handle handler) x scene s h = worked_leaves x scene s h
ended_leaves (move.Wait what) x scene s h = worked_leaves x scene s h
ended_leaves (move.Pause spot n) x scene s h = worked_leaves x scene s h
ended_leaves (move.Switch switches) x scene s h = worked_leaves x scene s h

unless_leaves : (o : Option Place) (scene : Scene) (r : Running) (d : Deed) (s : Sheet)
    → (let x : MacroStep =
    record { end = ended d.change d.after; running = moved d.after r; done = changed scene d.change s } in
    leaves_sheet (unless_protected o x r s).end ≡ true → (unless_protected o x r s).done.sheet ≡ s)
unless_leaves None scene r d s h = ended_leaves d.after d.change scene s h
unless_leaves (Some c) scene r d s h = refl

row_leaves : (row : Row) (scene : Scene) (r : Running) (c : Place) (s : Sheet)
    → leaves_sheet (row_step scene r c row s).end ≡ true → (row_step scene r c row s).done.sheet ≡ s
row_leaves (Ok d) scene r c s h = unless_leaves (refused_cell s (changed_cells d.change)) scene r d s h
row_leaves (Err f) scene r c s h = refl

unit_leaves : (u : Unit) (scene : Scene) (r : Running) (s : Sheet) → leaves_sheet (unit_step scene r u s).end ≡ true
    → (unit_step scene r u s).done.sheet ≡ s
unit_leaves (unit.Key k) scene r s h = refl
unit_leaves (unit.Command at) scene r s h = row_leaves (row (outlook_in scene s) (format_in s) r at) scene r at.cell s h
unit_leaves unit.Down scene r s h = refl
unit_leaves unit.Return scene r s h = row_leaves (return_row (outlook_in scene s) r) scene r (cell_of r) s h
unit_leaves (unit.Fault f) scene r s h = refl

-- where a macro's step changes nothing of the sheet, the sheet is as it was
pub macro_leaves : (scene : Scene) (running : Option Running) (s : Sheet)
    → leaves_sheet (macro_step scene running s).end ≡ true → (macro_step scene running s).done.sheet ≡ s
unfolding macro_step
macro_leaves scene None s h = absurd (false≢true h)
macro_leaves scene (Some r) s h =
    let n : Next = next_unit (outlook_in scene s) r.position in
    unit_leaves n.0 scene (placed r n.1) s h

-- where a key that a macro takes changes nothing of the sheet, the sheet is as it was
pub key_leaves : (scene : Scene) (k : Key) (running : Option Running) (s : Sheet)
    → leaves_sheet (key_step scene k running s).end ≡ true → (key_step scene k running s).done.sheet ≡ s
unfolding key_step
key_leaves scene k None s h = absurd (false≢true h)
key_leaves scene k (Some r) s h =
    row_leaves (key_row (outlook_in scene s) (rested r) r.waiting k) scene (rested r) (cell_of r) s h

-- the same of a worksheet
pub stepped_leaves : (x : MacroStep) (came : StepEnd) (now : Option Running) (v w : Worksheet) (m n : ℕ)
    → (leaves_sheet x.end ≡ true → x.done.sheet ≡ of_worksheet v) → HasStepped x came now v w m n
    → leaves_sheet came ≡ true → of_worksheet w ≡ of_worksheet v
stepped_leaves x came now v w m n leaves h is =
    h.did.sheet ∙ leaves (subst (λ (e : StepEnd). leaves_sheet e ≡ true) h.end is)
