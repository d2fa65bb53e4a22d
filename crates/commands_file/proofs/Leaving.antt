-- A file's cells are written, unless one of them would stand past the sheet.
use Rattle.std.specs.Prelude.{◌≡◌, ℕ, Bool, false, if◌then◌else◌}
use Rattle.std.specs.FinMap as map
use Rattle.std.specs.List.{list_any}
use Rattle.std.proofs.Common.{subst}
use Rattle.command_desk.specs.Acting.{refused, HasActed}
use Rattle.command_desk.specs.declared.ending.CommandEnd.{CommandEnd}
use Rattle.commands_file.specs.Combined.{combined, leaves_sheet, used_span, written_in}
use Rattle.commands_file.specs.declared.combining.Combining.{Combining}
use Rattle.desk_errors.specs.declared.error.CommandError.TheVariants as error
use Rattle.formula_parts.specs.declared.look.Scene.{Scene}
use Rattle.sheet_store.specs.Grid.{Grid}
use Rattle.work_sheet.specs.Seen.{of_worksheet}
use Rattle.work_sheet.specs.Sheets.{Worksheet}

module _ (k : Combining) (file : Grid) (scene : Scene) (v w : Worksheet) (m n : ℕ) (came : CommandEnd) where
  -- what it is, by whether one would
  abbrev IsSo : Bool → Type 0
  IsSo b =
      HasActed (if b then refused (error.OutOfSheet (used_span file)) (of_worksheet v) else written_in k file scene
      (of_worksheet v)) came v w m n

  by_test : (b : Bool) → b ≡ list_any (leaves_sheet k v.settings.pointer) (map.entries file.cells) → IsSo b →
      HasActed (combined k file scene (of_worksheet v)) came v w m n
  by_test b is so = subst IsSo is so

  -- where no cell leaves the sheet, the file's cells are written
  pub written_acts : false ≡ list_any (leaves_sheet k v.settings.pointer) (map.entries file.cells) →
      HasActed (written_in k file scene (of_worksheet v)) came v w m n
      → HasActed (combined k file scene (of_worksheet v)) came v w m n
  written_acts is acted = by_test false is acted
