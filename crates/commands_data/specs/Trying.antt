-- What a table does to a sheet: inputs are tried, old contents are given back, and answers are written.
use Rattle.std.specs.Prelude.{List, [], ◌∷◌, map, unwrap_or}
use Rattle.std.specs.FinMap as cells
use Rattle.block_writes.specs.Writing.{as_content, content_or_blank, written}
use Rattle.data_blocks.specs.Tables.{after_scenarios, scenarios_one, scenarios_two, scenarios_written, Trial, Scenario}
use Rattle.formula_eval.specs.Mean.{mean}
use Rattle.formula_parts.specs.declared.look.Scene.{Scene}
use Rattle.formula_tree.specs.declared.value.Content.{Content}
use Rattle.formula_tree.specs.declared.value.Value.{Value}
use Rattle.formula_tree.specs.declared.value.Value.TheVariants as value
use Rattle.grid_address.specs.Place.{Extent, Place}
use Rattle.recalculation.specs.Context.{content_of}
use Rattle.sheet_store.specs.Grid.{Grid}
use Rattle.sheet_store.specs.declared.writes.Write.{Write}
use Rattle.work_sheet.specs.Doing.{and_then, quiet, recalculated, with_content, Done}
use Rattle.work_sheet.specs.Editing.{all_written}
use Rattle.work_sheet.specs.Seen.{Sheet}
use Rattle.work_sheet.specs.Sheets.{value_told}

-- what a cell holds; one of which nothing is held is blank
abbrev pub content_at : Grid → Place → Content
content_at g p = content_or_blank (content_of (cells.get g.cells p))

-- the value of a cell; one of which nothing is held is blank
abbrev pub value_in : Sheet → Place → Value
value_in s p = unwrap_or (value_told s.grid p) value.Blank

-- what some cells hold, as writes
abbrev pub contents_of : List Place → Sheet → List Write
contents_of places s = map (λ c. written c (content_at s.grid c)) places

-- a content is entered into a cell, and all is recalculated in either mode
abbrev pub put_out : Scene → Place → Content → Sheet → Done
put_out scene c x s = and_then (with_content c x s) (recalculated mean scene)

-- an input is entered as an answer is written
abbrev pub entered : Scene → Trial → Sheet → Done
entered scene t s = put_out scene t.cell (as_content t.value) s

-- the writes are made, and all is recalculated in either mode
abbrev pub written_out : Scene → List Write → Sheet → Done
written_out scene writes s = and_then (all_written writes s) (recalculated mean scene)

-- an input is tried behind what was done so far
abbrev pub tried : Scene → Trial → Done → Done
tried scene t d = and_then d (entered scene t)

-- the values of the sheet that was left
abbrev pub values_after : Done → Place → Value
values_after d = value_in d.sheet

-- the scenarios are tried, and the input cells get back what they held
abbrev pub all_tried : Scene → List Place → List Scenario → Sheet → Done
all_tried scene inputs scenarios s =
    and_then (after_scenarios (tried scene) scenarios (quiet s)) (written_out scene (contents_of inputs s))

-- what is written then: the answers of the scenarios
abbrev pub answers_of : Scene → List Scenario → Sheet → List Write
answers_of scene scenarios s = scenarios_written (tried scene) values_after scenarios (quiet s)

-- the scenarios are tried, and their answers are written behind that
abbrev pub tabled : Scene → List Place → List Scenario → Sheet → Done
tabled scene inputs scenarios s =
    and_then (all_tried scene inputs scenarios s) (written_out scene (answers_of scene scenarios s))

-- table 1 over a span
abbrev pub table_one : Scene → Extent → Place → Sheet → Done
table_one scene span input s = tabled scene (input ∷ []) (scenarios_one span input (value_in s)) s

-- table 2 over a span
abbrev pub table_two : Scene → Extent → Place → Place → Sheet → Done
table_two scene span down across s = tabled scene (down ∷ across ∷ []) (scenarios_two span down across (value_in s)) s
