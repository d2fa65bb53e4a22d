-- Lists of writes as commands.
use Rattle.std.specs.Prelude.{ℕ, ◌≡◌, refl, List, Option, None, Some, OnErr, OnOk, Result, Ok, Err}
use Rattle.std.proofs.Common.{sym, subst}
use Rattle.desk_errors.specs.declared.error.CommandError.TheVariants as error
use Rattle.formula_eval.specs.Mean.{mean}
use Rattle.formula_parts.specs.declared.look.Scene.{Scene}
use Rattle.grid_address.specs.Place.{same_place, Place}
use Rattle.cell_maps.specs.Sets.{has}
use Rattle.sheet_edits.specs.Edits.{is_protected}
use Rattle.sheet_edits.specs.Spans.{written_cells, IsAnswered}
use Rattle.sheet_store.specs.declared.writes.SheetFault.{SheetFault}
use Rattle.sheet_store.specs.declared.writes.SheetFault.TheVariants as fault
use Rattle.sheet_store.specs.declared.writes.Write.{Write}
use Rattle.work_sheet.proofs.Done.{did_both}
use Rattle.work_sheet.specs.Did.{DidEdit}
use Rattle.work_sheet.specs.Doing.{settled}
use Rattle.work_sheet.specs.Editing.{all_written}
use Rattle.work_sheet.specs.Seen.{of_worksheet}
use Rattle.work_sheet.specs.Sheets.{Worksheet}
use Rattle.command_desk.proofs.Earliest.{first_passing, none_first}
use Rattle.command_desk.proofs.Edited.{memory_is_none, was_refused}
use Rattle.command_desk.specs.Acting.{edited, unless_protected, HasActed, HasSettled}
use Rattle.command_desk.specs.Writing.{all_made, first_guarded}
use Rattle.command_desk.specs.declared.ending.CommandEnd.{CommandEnd}
use Rattle.command_desk.specs.declared.ending.CommandEnd.TheVariants.{Finished, Refused}

module _ (writes : List Write) (scene : Scene) (v mid w : Worksheet) (m n : ℕ) where
  -- what the command is, by the first protected cell
  as_told : (first : Option Place) → first_guarded (written_cells writes) (of_worksheet v) ≡ first → (end : CommandEnd)
      →
      HasActed (unless_protected first (edited scene (all_written writes (of_worksheet v))) (of_worksheet v)) end v w m
      n →
      HasActed (all_made writes scene (of_worksheet v)) end v w m n
  as_told first is end acted = subst (λ (o : Option Place).
      HasActed (unless_protected o (edited scene (all_written writes (of_worksheet v))) (of_worksheet v)) end v w m n)
      (sym is) acted

  -- writes after which all is recalculated in Automatic mode, or which are refused
  pub writes_acted : (answer : Result (Unit {0}) SheetFault) (end : CommandEnd) →
      IsAnswered v.settings v.grid (has same_place (written_cells writes)) answer
      → OnOk answer (DidEdit (all_written writes) v mid) →
      OnErr answer (mid ≡ v) → HasSettled answer scene end mid w m n
      → HasActed (all_made writes scene (of_worksheet v)) end v w m n
  writes_acted (Ok x) end answered did kept settles =
      as_told None (none_first (is_protected v.settings v.grid) (written_cells writes) answered) end
      (record {
        end = settles.0;
        did = did_both (all_written writes (of_worksheet v)) (settled mean scene) v mid w m m n (did m) settles.1;
      })
  writes_acted (Err (fault.Protected c)) end answered did kept settles =
      let was = was_refused (fault.Protected c) (Refused (error.Protected c)) scene end v mid w m n refl kept settles in
      as_told (Some c) (first_passing (is_protected v.settings v.grid) (written_cells writes) c answered.among
      answered.protected answered.first) end
      (record { end = was.0; did = was.1 })
  writes_acted (Err (fault.PushedOff c)) end answered did kept settles = absurd answered
  writes_acted (Err (fault.OutOfSheet s)) end answered did kept settles = absurd answered
  writes_acted (Err fault.Memory) end answered did kept settles = absurd (memory_is_none scene end mid w m n settles)
