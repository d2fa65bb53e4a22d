-- No command but those below Print changes what is kept for reports.
use Rattle.std.specs.Prelude.{◌≡◌, ℕ, Bool, true, false, refl, List, Option, None, Some, Result, Ok, Err, if◌then◌else◌}
use Rattle.std.proofs.lemmas.Bool.{true≢false}
use Rattle.command_desk.specs.Acting.{DeskActed}
use Rattle.command_desk.specs.Answered.{cell_at, span_at}
use Rattle.command_desk.specs.Desks.{Desk}
use Rattle.command_desk.specs.OnDesk.{given}
use Rattle.commands_data.specs.Answers.{key_at}
use Rattle.commands_data.specs.Commands as on_data
use Rattle.commands_file.specs.Calls.{failed, fetched, loaded, puts, there, written, Reply}
use Rattle.commands_file.specs.Commands.{act_by, act_named, by_call, extracted_to, is_readable, named, put_readable}
use Rattle.commands_file.specs.Commands.{refused, saved_as, sheet_bytes, span_bytes, taken_away, with_file}
use Rattle.commands_file.specs.Commands.{without_call, written_out}
use Rattle.commands_file.specs.declared.extracting.Extracting.{Extracting}
use Rattle.commands_file.specs.declared.extracting.Extracting.TheVariants.{Formulas, Values}
use Rattle.desk_errors.specs.declared.error.CommandError.{CommandError}
use Rattle.desk_errors.specs.declared.error.CommandError.TheVariants as error
use Rattle.formula_parts.specs.declared.look.Scene.{Scene}
use Rattle.grid_address.specs.Place.{Extent}
use Rattle.menu_tree.specs.declared.menu.Action.{Action}
use Rattle.menu_tree.specs.declared.menu.Action.TheVariants as action
use Rattle.menu_tree.specs.declared.menu.DataAction.{DataAction}
use Rattle.menu_tree.specs.declared.menu.DataAction.TheVariants as records
use Rattle.menu_tree.specs.declared.menu.FileAction.{FileAction}
use Rattle.menu_tree.specs.declared.menu.FileAction.TheVariants as file
use Rattle.outside_world.specs.declared.file_name.Ext.TheVariants as ext
use Rattle.session_core.specs.Act.{act, is_print}
use Rattle.sheet_store.specs.declared.writes.SavedSheet.{SavedSheet}

-- a desk that was left keeps for reports what another did
abbrev KeepsOf : Desk → DeskActed → Type 0
KeepsOf d a = a.desk.print ≡ d.print

module _ (d : Desk) where
  by_given : {A : Type 0} (r : Result A CommandError) (next : A → DeskActed) → ((a : A) → KeepsOf d (next a))
      → KeepsOf d (given r next d)
  by_given (Ok a) next h = h a
  by_given (Err e) next h = refl

  by_file : (make : SavedSheet → DeskActed) (reply : Reply) → ((saved : SavedSheet) → KeepsOf d (make saved))
      → KeepsOf d (with_file make d reply)
  by_file make failed h = refl
  by_file make (there b) h = refl
  by_file make (loaded None) h = refl
  by_file make (loaded (Some (Ok saved))) h = h saved
  by_file make (loaded (Some (Err f))) h = refl
  by_file make (fetched got) h = refl
  by_file make written h = refl

  by_save : (name : List ℕ) (reply : Reply) → KeepsOf d (saved_as name d reply)
  by_save name failed = refl
  by_save name (there b) = refl
  by_save name (loaded f) = refl
  by_save name (fetched got) = refl
  by_save name written = refl

  by_put : (reply : Reply) → KeepsOf d (written_out d reply)
  by_put failed = refl
  by_put (there b) = refl
  by_put (loaded f) = refl
  by_put (fetched got) = refl
  by_put written = refl

  by_placing : (name bytes : List ℕ) (reply : Reply) (make : Reply → DeskActed) → KeepsOf d (make reply) →
      KeepsOf d (put_readable name bytes reply make d).acted
  by_placing name bytes reply make kept = by (is_readable bytes)
    where
      by : (b : Bool) → KeepsOf d (if b then by_call (puts name bytes) reply make else without_call
          (refused error.WorksheetTooLarge d)).acted
      by true = kept
      by false = refl

  by_removal : (reply : Reply) → KeepsOf d (taken_away d reply)
  by_removal failed = refl
  by_removal (there true) = refl
  by_removal (there false) = refl
  by_removal (loaded f) = refl
  by_removal (fetched got) = refl
  by_removal written = refl

  by_extract : (k : Extracting) (name : List ℕ) (span : Result Extent CommandError) (reply : Reply)
      → KeepsOf d (extracted_to k name span d reply).acted
  by_extract k name (Ok span) reply = by_placing name (span_bytes k span d.sheet) reply (written_out d) (by_put reply)
  by_extract k name (Err e) reply = refl

  by_named : (a : FileAction) (answers : List (List ℕ)) (name : List ℕ) (scene : Scene) (reply : Reply) →
      KeepsOf d (act_named a answers name scene d reply).acted
  by_named file.Retrieve answers name scene reply = by_file _ reply (λ saved. refl)
  by_named file.Save answers name scene reply =
      by_placing name (sheet_bytes d.sheet) reply (saved_as name d) (by_save name reply)
  by_named file.Erase answers name scene reply = by_removal reply
  by_named file.CombineCopy answers name scene reply = by_file _ reply (λ saved. refl)
  by_named file.CombineAdd answers name scene reply = by_file _ reply (λ saved. refl)
  by_named file.CombineSubtract answers name scene reply = by_file _ reply (λ saved. refl)
  by_named file.XtractFormulas answers name scene reply =
      by_extract Formulas name (span_at d.sheet.names answers 1) reply
  by_named file.XtractValues answers name scene reply = by_extract Values name (span_at d.sheet.names answers 1) reply

  by_name : (name : Option (List ℕ)) (a : FileAction) (answers : List (List ℕ)) (scene : Scene) (reply : Reply) →
      KeepsOf d (act_by name a answers scene d reply).acted
  by_name None a answers scene reply = refl
  by_name (Some name) a answers scene reply = by_named a answers name scene reply

  by_data : (a : DataAction) (answers : List (List ℕ)) (scene : Scene) → KeepsOf d (on_data.act a answers scene d)
  by_data records.Fill answers scene = refl
  by_data records.Distribution answers scene = refl
  by_data records.DataRange answers scene = by_given (span_at d.sheet.names answers 0) _ (λ span. refl)
  by_data records.PrimaryKey answers scene = by_given (key_at d.sheet.names answers) _ (λ k. refl)
  by_data records.SecondaryKey answers scene = by_given (key_at d.sheet.names answers) _ (λ k. refl)
  by_data records.SortReset answers scene = refl
  by_data records.SortGo answers scene = refl
  by_data records.Input answers scene = by_given (span_at d.sheet.names answers 0) _ (λ span. refl)
  by_data records.Criterion answers scene = by_given (span_at d.sheet.names answers 0) _ (λ span. refl)
  by_data records.Output answers scene = by_given (span_at d.sheet.names answers 0) _ (λ span. refl)
  by_data records.Extract answers scene = refl
  by_data records.Unique answers scene = refl
  by_data records.QueryReset answers scene = refl
  by_data records.DeleteRecords answers scene = refl
  by_data records.TableOne answers scene =
      by_given (span_at d.sheet.names answers 0) _
      (λ span. by_given (cell_at d.sheet.names answers 1) _ (λ input. refl))
  by_data records.TableTwo answers scene = by_given (span_at d.sheet.names answers 0) _ (λ span.
      by_given (cell_at d.sheet.names answers 1) _
      (λ down. by_given (cell_at d.sheet.names answers 2) _ (λ across. refl)))
  by_data records.TableReset answers scene = refl
  by_data records.RepeatTable answers scene = refl

-- an action that is none of the print menu leaves what the desk keeps of printing
pub keeps : (a : Action) (answers : List (List ℕ)) (scene : Scene) (d : Desk) (reply : Reply) → is_print a ≡ false →
    (act a answers scene d reply).acted.desk.print ≡ d.print
keeps (action.Common a) answers scene d reply other = refl
keeps (action.Worksheet a) answers scene d reply other = refl
keeps (action.Range a) answers scene d reply other = refl
keeps (action.File a) answers scene d reply other = by_name d (named ext.Wk1 answers) a answers scene reply
keeps (action.Print a) answers scene d reply other = absurd (true≢false other)
keeps (action.Data a) answers scene d reply other = by_data d a answers scene
