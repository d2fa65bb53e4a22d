use Rattle.std.specs.Prelude.{◌≡◌, List}
use Rattle.std.proofs.Common.{ap, subst, sym, ◌∙◌}
use Rattle.commands_file.specs.Combined.{Entry}
use Rattle.commands_file.specs.Extracted.{entries_of, with_entries}
use Rattle.commands_file.proofs.Sound.{all_sound, AreSound}
use Rattle.sheet_store.specs.Grid.{Grid}
use Rattle.work_sheet.specs.Seen.{fresh_sheet}
use Rattle.commands_file.proofs.extracting.part.Goals as goal

pub loop-entry-init : goal.loop-entry-init
loop-entry-init c =
    let store : Grid = c.args.store.now in
    let is : c.new-into.result ≡ fresh_sheet.grid =
    λ i. record {
      cells = c.new-into.ensures.cells i;
      widths = c.new-into.ensures.widths i;
      hidden = c.new-into.ensures.hidden i;
    } in (
      ap (λ (g : Grid). with_entries g (entries_of c.args.kind c.args.span store c.entries-entries.result)) is
          ∙ ap (λ (es : List Entry). with_entries fresh_sheet.grid (entries_of c.args.kind c.args.span store es))
          c.entries-entries.ensures,
      subst AreSound (sym c.entries-entries.ensures) (all_sound store.cells c.are_held.ensures),
    )
