-- What a word's change leaves of the sheet.
use Rattle.std.specs.Option.{option_map_or}
use Rattle.std.specs.Prelude.{ℕ, zero, suc, Bool, false, List, [], ◌∷◌, Option, None, if◌then◌else◌}
use Rattle.formula_eval.specs.Mean.{mean}
use Rattle.formula_parts.specs.Outlook.{Outlook}
use Rattle.formula_parts.specs.declared.look.Scene.{Scene}
use Rattle.grid_address.specs.Place.{Place}
use Rattle.macro_text.specs.Arguments.{meaning_of}
use Rattle.macro_words.specs.Rows.{is_true}
use Rattle.macro_words.specs.declared.running.Change.{Change}
use Rattle.macro_words.specs.declared.running.Change.TheVariants as change
use Rattle.macro_words.specs.declared.running.Sweep.{Sweep}
use Rattle.recalculation.specs.Context.{outlook_at}
use Rattle.sheet_edits.specs.Spans.{sooner, written_cells}
use Rattle.sheet_store.specs.Grid.{Grid}
use Rattle.formula_parts.specs.Outlook.{cells_of}
use Rattle.work_sheet.specs.Doing.{and_then, context_in, quiet, settled, Done}
use Rattle.work_sheet.specs.Editing.{all_written, erased}
use Rattle.work_sheet.specs.Seen.{Sheet}
use Rattle.work_sheet.specs.Spans.{span_recalculated}

-- what macros see of a sheet
abbrev pub outlook_in : Scene → Sheet → Outlook
outlook_in scene s = outlook_at (context_in scene s) s.grid

-- whether the condition of a recalculation is a number other than 0; one that isn't given never is
abbrev pub is_met : Scene → Sweep → Sheet → Bool
is_met scene sweep s = option_map_or is_true (meaning_of (outlook_in scene s) sweep.at sweep.until) false

-- So many passes over the formulas of a span, but none behind the first one after which the condition is met.
unfoldable pub swept_within : ℕ → Scene → Sweep → Sheet → Done
swept_within zero scene sweep s = quiet s
swept_within (suc n) scene sweep s = and_then (span_recalculated mean scene sweep.span sweep.by_columns s)
    (λ t. if is_met scene sweep t then quiet t else swept_within n scene sweep t)

-- A change of the sheet. In Automatic mode all is recalculated behind a change of contents, and nothing behind a
-- recalculation of a span.
abbrev pub changed : Scene → Change → Sheet → Done
changed scene change.Nothing s = quiet s
changed scene (change.Write ws) s = and_then (all_written ws s) (settled mean scene)
changed scene (change.Erase span) s = and_then (erased span s) (settled mean scene)
changed scene (change.Recalculate sweep) s = swept_within sweep.most scene sweep s

-- the cells that a change writes
abbrev pub changed_cells : Change → List Place
changed_cells (change.Write ws) = written_cells ws
changed_cells (change.Erase span) = cells_of span
changed_cells _ = []

-- the first in row order of some cells that are marked
abbrev pub first_marked : Grid → List Place → Option Place
first_marked g [] = None
first_marked g (c ∷ cs) = sooner g (first_marked g cs) c

-- the first in row order of some cells that are protected: the marked ones, where protection is on
abbrev pub refused_cell : Sheet → List Place → Option Place
refused_cell s cells = if s.settings.protection then first_marked s.grid cells else None
