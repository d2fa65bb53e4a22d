-- Lists of writes as commands.
use Rattle.std.specs.Prelude.{List, [], ◌∷◌, Option, None, Some, if◌then◌else◌}
use Rattle.std.specs.List.{filter}
use Rattle.std.specs.Ordering.{is_lt}
use Rattle.formula_parts.specs.Outlook.{Sight}
use Rattle.formula_parts.specs.declared.look.Scene.{Scene}
use Rattle.grid_address.specs.Place.{place_cmp, Place}
use Rattle.recalculation.specs.Context.{sight_of}
use Rattle.sheet_edits.specs.Edits.{is_protected}
use Rattle.sheet_edits.specs.Spans.{written_cells}
use Rattle.sheet_store.specs.declared.writes.Write.{Write}
use Rattle.work_sheet.specs.Editing.{all_written}
use Rattle.work_sheet.specs.Seen.{Sheet}
use Rattle.command_desk.specs.Acting.{edited, unless_protected, Acted}

-- what a sheet tells
abbrev pub sight_in : Sheet → Sight
sight_in s = sight_of s.names s.settings s.grid

-- a cell, unless another comes before it in row order
abbrev pub unless_before : Place → Option Place → Place
unless_before c None = c
unless_before c (Some d) = if is_lt (place_cmp d c) then d else c

-- the first of some cells in row order
abbrev pub first_in_order : List Place → Option Place
first_in_order [] = None
first_in_order (c ∷ cells) = Some (unless_before c (first_in_order cells))

-- the first in row order of the cells that are protected
abbrev pub first_guarded : List Place → Sheet → Option Place
first_guarded cells s = first_in_order (filter (is_protected s.settings s.grid) cells)

-- a list of writes is made, where none of its cells is protected
abbrev pub all_made : List Write → Scene → Sheet → Acted
all_made writes scene s =
    unless_protected (first_guarded (written_cells writes) s) (edited scene (all_written writes s)) s
