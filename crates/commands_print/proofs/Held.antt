-- Behind a report that was printed its file holds it, where the shelf tells its files.
use Rattle.std.specs.Prelude.{◌≡◌, cond, ℕ, refl, List, Option, None, Some, Result, Ok, Err}
use Rattle.std.proofs.Common.{ap, subst, sym, ◌∙◌}
use Rattle.std.proofs.lemmas.Map.Text.{is_eq-slice_cmp}
use Rattle.std.proofs.lemmas.Slice.Eq.{bytes_eq-Decides}
use Rattle.std.specs.Cmp.Lexicographic.{nat_list_cmp_total}
use Rattle.std.specs.FinMap.{get-insert}
use Rattle.command_desk.specs.Desks.{of_desk, Desk}
use Rattle.command_desk.specs.declared.desk.Desk as declared
use Rattle.command_desk.specs.declared.ending.CommandEnd.{CommandEnd}
use Rattle.command_desk.specs.declared.ending.CommandEnd.TheVariants.{Finished, Quits, Refused}
use Rattle.commands_file.specs.Calls.{failed, fetched, loaded, there, written, HaveAnswered, Reply, ShelfView}
use Rattle.commands_file.specs.Commands.{HasActedOver}
use Rattle.commands_print.specs.Commands.{printed, report_of, reported, written_to, HoldsReport}
use Rattle.formula_parts.specs.declared.look.Scene.{Scene}
use Rattle.grid_address.specs.Place.{Extent}
use Rattle.outside_world.specs.Shelf.{file_in, held_as, Files, HasPut, OnShelf}
use Rattle.print_report.specs.declared.settings.PrintFault.{PrintFault}

-- the file of a name holds what was put there
holds_put : (name bytes : List ℕ) (files : Files) → file_in name (held_as name (Some bytes) files) ≡ Some bytes
holds_put name bytes files =
    get-insert nat_list_cmp_total files name bytes name
    ∙ ap (λ b. cond b (Some bytes) (file_in name files))
    (is_eq-slice_cmp name name ∙ (bytes_eq-Decides name name).1 refl)

-- a file holds these bytes, where the shelf tells its files
abbrev HoldsFile : List ℕ → List ℕ → Option OnShelf → Type 0
HoldsFile name bytes None = Unit {0}
HoldsFile name bytes (Some s) = file_in name s.files ≡ Some bytes

put_holds : (name bytes : List ℕ) (before now : Option OnShelf) → HasPut name bytes before now (Ok tt)
    → HoldsFile name bytes now
put_holds name bytes None now is = subst (HoldsFile name bytes) (sym is) tt
put_holds name bytes (Some s) now is = subst (HoldsFile name bytes) (sym is) (holds_put name bytes s.files)

-- whether a command was carried out
abbrev WasMade : CommandEnd → Type 0
WasMade Finished = Unit {0}
WasMade Quits = ⊥
WasMade (Refused e) = ⊥

module _ (scene : Scene) (d : Desk) (reply : Reply) (before now : ShelfView) where
  -- what holds of a command that was carried out
  abbrev IfMade : Option Extent → Type 0
  IfMade range =
      WasMade (printed range scene d reply).acted.end → HaveAnswered (printed range scene d reply).calls before now
      → HoldsReport scene d now.told

  by_held : (name bytes : List ℕ) (range : Extent) (told : Option OnShelf) → d.print.file ≡ Some name
      → d.print.range ≡ Some range →
      report_of scene d range ≡ Ok bytes → HoldsFile name bytes told → HoldsReport scene d told
  by_held name bytes range None file is made held = tt
  by_held name bytes range (Some s) file is made held = (name, range, bytes, file, is, made, held)

  by_reply : (name bytes : List ℕ) (range : Extent) (r : Reply) → d.print.file ≡ Some name → d.print.range ≡ Some range
      →
      report_of scene d range ≡ Ok bytes → WasMade (written_to (Some name) bytes d r).acted.end →
      HaveAnswered (written_to (Some name) bytes d r).calls before now → HoldsReport scene d now.told
  by_reply name bytes range written file is made was (middle, had, same) =
      by_held name bytes range now.told file is made
      (subst (λ (v : ShelfView). HoldsFile name bytes v.told) (sym same)
      (put_holds name bytes before.told middle.told had.told))
  by_reply name bytes range failed file is made was had = absurd was
  by_reply name bytes range (there b) file is made was had = absurd was
  by_reply name bytes range (loaded f) file is made was had = absurd was
  by_reply name bytes range (fetched got) file is made was had = absurd was

  by_file : (file : Option (List ℕ)) (bytes : List ℕ) (range : Extent) → d.print.file ≡ file
      → d.print.range ≡ Some range →
      report_of scene d range ≡ Ok bytes → WasMade (written_to file bytes d reply).acted.end →
      HaveAnswered (written_to file bytes d reply).calls before now → HoldsReport scene d now.told
  by_file None bytes range file is made was had = absurd was
  by_file (Some name) bytes range file is made was had = by_reply name bytes range reply file is made was had

  by_report : (range : Extent) (made : Result (List ℕ) PrintFault) → d.print.range ≡ Some range
      → report_of scene d range ≡ made →
      WasMade (reported made d reply).acted.end → HaveAnswered (reported made d reply).calls before now
      → HoldsReport scene d now.told
  by_report range (Ok bytes) is made was had = by_file d.print.file bytes range refl is made was had
  by_report range (Err f) is made was had = absurd was

  by_range : (range : Option Extent) → d.print.range ≡ range → IfMade range
  by_range None is was had = absurd was
  by_range (Some range) is was had = by_report range (report_of scene d range) is refl was had

-- a command that printed, and was carried out
pub printed_holds : (scene : Scene) (v : declared.Desk) (came : CommandEnd) (n : ℕ) (before now : ShelfView)
    → came ≡ Finished →
    HasActedOver (printed v.print.range scene (of_desk v)) came v v n n before now
    → HoldsReport scene (of_desk v) now.told
printed_holds scene v came n before now is h =
    by_range scene (of_desk v) h.reply before now v.print.range refl (subst WasMade (sym is ∙ h.acted.end) tt)
    h.answered
