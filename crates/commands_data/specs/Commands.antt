-- The commands below Data.
use Rattle.std.specs.Prelude.{ℕ, ◌||◌, nat_lt, Bool, true, false, List, [], ◌∷◌, Option, None, Some, if◌then◌else◌}
use Rattle.std.specs.List.{list_any}
use Rattle.command_desk.specs.Acting.{given, on_desk, refused, Acted, DeskActed}
use Rattle.command_desk.specs.Answered.{span_at}
use Rattle.command_desk.specs.Desks.{Desk}
use Rattle.command_desk.specs.OnDesk as on_the_desk
use Rattle.command_desk.specs.Writing.{all_made, sight_in}
use Rattle.commands_data.specs.Answers.{filling_at, key_at}
use Rattle.commands_data.specs.Kept.{if_finished, kept, with_key, with_range, without_query, without_sort}
use Rattle.commands_data.specs.Made.{block_error, made, query_error}
use Rattle.commands_data.specs.declared.filling.Filling.{Filling}
use Rattle.commands_data.specs.declared.keeping.KeySetting.{KeySetting}
use Rattle.commands_data.specs.declared.keeping.KeySetting.TheVariants.{Primary, Secondary}
use Rattle.commands_data.specs.declared.keeping.RangeSetting.{RangeSetting}
use Rattle.commands_data.specs.declared.keeping.RangeSetting.TheVariants as range
use Rattle.commands_data.specs.TableCommands as tables
use Rattle.data_blocks.specs.Distribution.{distribution}
use Rattle.data_blocks.specs.Filling.{fill}
use Rattle.data_blocks.specs.Sorting.{rows_sorted}
use Rattle.data_blocks.specs.declared.key.SortKey.{SortKey}
use Rattle.data_query.specs.Extraction.{extraction}
use Rattle.data_query.specs.Selection.{deletion}
use Rattle.desk_errors.specs.declared.error.CommandError.TheVariants as error
use Rattle.data_blocks.specs.declared.ranges.DeskRanges.{DeskRanges}
use Rattle.data_blocks.specs.declared.ranges.LastQuery.{LastQuery}
use Rattle.data_blocks.specs.declared.ranges.LastQuery.TheVariants as query
use Rattle.formula_parts.specs.Outlook.{Outlook}
use Rattle.formula_parts.specs.Scenes.{outlook_of}
use Rattle.formula_parts.specs.declared.look.Scene.{Scene}
use Rattle.grid_address.specs.Place.{Extent}
use Rattle.menu_tree.specs.declared.menu.DataAction.{DataAction}
use Rattle.menu_tree.specs.declared.menu.DataAction.TheVariants as records
use Rattle.work_sheet.specs.Seen.{Sheet}

-- numbers are written by steps
abbrev pub filled_by : Filling → Scene → Sheet → Acted
filled_by f scene s = made block_error (fill f.span f.start f.step f.stop) scene s

-- a span is filled
abbrev pub filled : List (List ℕ) → Scene → Sheet → Acted
filled answers scene s = given (filling_at s.names answers) (λ f. filled_by f scene s) s

-- how many of the values lie in each bin is written beside the bins
abbrev pub distributed_in : Extent → Extent → Scene → Sheet → Acted
distributed_in values bins scene s = made block_error (distribution (sight_in s) values bins) scene s

-- the values that the first answer is are counted in the bins that the second one is
abbrev pub distributed : List (List ℕ) → Scene → Sheet → Acted
distributed answers scene s =
    given (span_at s.names answers 0) (λ values.
    given (span_at s.names answers 1) (λ bins. distributed_in values bins scene s) s) s

-- a key's column isn't in a range
abbrev pub is_outside : Extent → SortKey → Bool
is_outside range key = nat_lt key.col range.first.col || nat_lt range.last.col key.col

-- the keys of a sort, of which the first counts most
abbrev pub keys_of : SortKey → Option SortKey → List SortKey
keys_of first None = first ∷ []
keys_of first (Some second) = first ∷ second ∷ []

-- the rows of a range are put in order
abbrev pub put_in_order : Extent → List SortKey → Scene → Sheet → Acted
put_in_order range keys scene s = all_made (rows_sorted (sight_in s) range keys) scene s

-- they are, where the columns of the keys lie in the range
abbrev pub sorted_by : Extent → List SortKey → Scene → Sheet → Acted
sorted_by range keys scene s =
    if list_any (is_outside range) keys then refused error.KeyOutside s else put_in_order range keys scene s

-- a sort needs a range and a first key
abbrev pub sorted_with : Option Extent → Option SortKey → Option SortKey → Scene → Sheet → Acted
sorted_with (Some range) (Some first) second scene s = sorted_by range (keys_of first second) scene s
sorted_with _ _ second scene s = refused error.SortMissing s

-- the kept range is sorted by the kept keys
abbrev pub sorted : DeskRanges → Scene → Sheet → Acted
sorted r scene s = sorted_with r.sort r.primary r.secondary scene s

-- what a query looks at
abbrev pub outlook_in : Scene → Sheet → Outlook
outlook_in scene s = outlook_of (sight_in s) scene

-- the records that match, or those of them that differ, are written into the output
abbrev pub extracted_into : Bool → Extent → Extent → Extent → Scene → Sheet → Acted
extracted_into unique input criterion output scene s =
    made query_error (extraction (outlook_in scene s) input criterion output unique) scene s

-- all three ranges are needed
abbrev pub extracted : Bool → Option Extent → Option Extent → Option Extent → Scene → Sheet → Acted
extracted unique (Some input) (Some criterion) (Some output) scene s =
    extracted_into unique input criterion output scene s
extracted unique _ _ _ scene s = refused error.QueryRangeMissing s

-- the records that match are taken out of the input
abbrev pub deleted_from : Extent → Extent → Scene → Sheet → Acted
deleted_from input criterion scene s = made query_error (deletion (outlook_in scene s) input criterion) scene s

-- the input and the criterion are needed
abbrev pub deleted : Option Extent → Option Extent → Scene → Sheet → Acted
deleted (Some input) (Some criterion) scene s = deleted_from input criterion scene s
deleted _ _ scene s = refused error.QueryRangeMissing s

-- a query over the kept ranges
abbrev pub queried : LastQuery → DeskRanges → Scene → Sheet → Acted
queried query.Nothing r scene s = refused error.QueryRangeMissing s
queried query.Extract r scene s = extracted false r.input r.criterion r.output scene s
queried query.Unique r scene s = extracted true r.input r.criterion r.output scene s
queried query.Delete r scene s = deleted r.input r.criterion scene s

-- where it is carried out, it is the last query
abbrev pub remembered : LastQuery → Acted → Desk → DeskActed
remembered q a d = record {
  end = a.end;
  desk = record d { sheet = a.done.sheet; ranges = if_finished a.end (λ r. record r { last_query = q }) d.ranges };
  log = a.done.log;
}

-- a query is made
abbrev pub query_made : LastQuery → Scene → Desk → DeskActed
query_made q scene d = remembered q (queried q d.ranges scene d.sheet) d

-- the span that the answer is, is kept
abbrev pub range_kept : RangeSetting → List (List ℕ) → Desk → DeskActed
range_kept kind answers d =
    on_the_desk.given (span_at d.sheet.names answers 0) (λ span. kept (with_range kind span) d) d

-- the key that the answers are, is kept
abbrev pub key_kept : KeySetting → List (List ℕ) → Desk → DeskActed
key_kept kind answers d = on_the_desk.given (key_at d.sheet.names answers) (λ k. kept (with_key kind k) d) d

-- what a command below Data does
abbrev pub act : DataAction → List (List ℕ) → Scene → Desk → DeskActed
act records.Fill answers scene d = on_desk (filled answers scene) d
act records.Distribution answers scene d = on_desk (distributed answers scene) d
act records.DataRange answers scene d = range_kept range.Sort answers d
act records.PrimaryKey answers scene d = key_kept Primary answers d
act records.SecondaryKey answers scene d = key_kept Secondary answers d
act records.SortReset answers scene d = kept without_sort d
act records.SortGo answers scene d = on_desk (sorted d.ranges scene) d
act records.Input answers scene d = range_kept range.Input answers d
act records.Criterion answers scene d = range_kept range.Criterion answers d
act records.Output answers scene d = range_kept range.Output answers d
act records.Extract answers scene d = query_made query.Extract scene d
act records.Unique answers scene d = query_made query.Unique scene d
act records.QueryReset answers scene d = kept without_query d
act records.DeleteRecords answers scene d = query_made query.Delete scene d
act records.TableOne answers scene d = tables.table_one answers scene d
act records.TableTwo answers scene d = tables.table_two answers scene d
act records.TableReset answers scene d = tables.forgotten d
act records.RepeatTable answers scene d = tables.repeated scene d
