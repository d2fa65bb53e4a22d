-- How commands end.
use Rattle.std.specs.Prelude.{ℕ, ◌≡◌, refl, OnErr, OnOk, Option, None, Some, Result, Ok, Err}
use Rattle.std.specs.Option.{ForSome}
use Rattle.std.proofs.Common.{subst}
use Rattle.std.proofs.lemmas.Result.{on_ok_weaker}
use Rattle.command_desk.proofs.Edited.{edit_acted, was_refused}
use Rattle.command_desk.specs.Acting.{HasActed, HasSettled}
use Rattle.command_desk.specs.declared.ending.CommandEnd.{CommandEnd}
use Rattle.command_desk.specs.declared.ending.CommandEnd.TheVariants.{Refused}
use Rattle.commands_range.specs.Commands.{copied_onto}
use Rattle.desk_errors.specs.declared.error.CommandError.TheVariants as error
use Rattle.formula_parts.specs.declared.look.Scene.{Scene}
use Rattle.grid_address.specs.Place.{is_within, Extent}
use Rattle.sheet_edits.specs.Spans.{IsAnswered}
use Rattle.sheet_store.specs.declared.writes.SheetFault.{SheetFault}
use Rattle.sheet_store.specs.declared.writes.SheetFault.TheVariants as fault
use Rattle.recalculation.proofs.Filled.{has_cells, span_ascends}
use Rattle.formula_parts.specs.Outlook.{cells_of}
use Rattle.work_sheet.specs.Did.{DidEdit}
use Rattle.work_sheet.specs.Editing.{copied}
use Rattle.work_sheet.specs.Seen.{of_worksheet}
use Rattle.work_sheet.specs.Sheets.{Worksheet}

-- what a copy comes to is what its edit was answered
pub copy_acted : (target : Option Extent) (from : Extent) (scene : Scene) (v mid w : Worksheet) (m n : ℕ)
    (answer : Result (Unit {0}) SheetFault) (end : CommandEnd) → (target ≡ None → answer ≡ Err (fault.OutOfSheet from))
    →
    ForSome target (λ t. IsAnswered v.settings v.grid (is_within t) answer) →
    OnOk answer (ForSome target (λ t. DidEdit (copied from t) v mid)) → OnErr answer (mid ≡ v) →
    HasSettled answer scene end mid w m n → HasActed (copied_onto target from scene (of_worksheet v)) end v w m n
copy_acted None from scene v mid w m n answer end outside answered did kept settles =
    let is : answer ≡ Err (fault.OutOfSheet from) = outside refl in
    let left_alone : mid ≡ v = subst (λ (a : Result (Unit {0}) SheetFault). OnErr a (mid ≡ v)) is kept in
    let ends : HasSettled (Err (fault.OutOfSheet from)) scene end mid w m n =
    subst (λ (a : Result (Unit {0}) SheetFault). HasSettled a scene end mid w m n) is settles in
    let was =
    was_refused (fault.OutOfSheet from) (Refused (error.OutOfSheet from)) scene end v mid w m n refl left_alone ends in
    record { end = was.0; did = was.1 }
copy_acted (Some t) from scene v mid w m n answer end outside answered did kept settles =
    edit_acted (cells_of t) (is_within t) (span_ascends t) (has_cells t) (copied from t) scene v mid w m n
    answer end (answered t refl) (on_ok_weaker answer (λ d. d t refl) did) kept settles
