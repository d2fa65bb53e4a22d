-- The settings that are kept for sorts and queries.
use Rattle.std.specs.Prelude.{None, Some}
use Rattle.command_desk.specs.Acting.{DeskActed}
use Rattle.command_desk.specs.Desks.{Desk}
use Rattle.command_desk.specs.OnDesk.{left}
use Rattle.command_desk.specs.declared.ending.CommandEnd.{CommandEnd}
use Rattle.command_desk.specs.declared.ending.CommandEnd.TheVariants.{Finished}
use Rattle.commands_data.specs.declared.keeping.KeySetting.{KeySetting}
use Rattle.commands_data.specs.declared.keeping.KeySetting.TheVariants as key
use Rattle.commands_data.specs.declared.keeping.RangeSetting.{RangeSetting}
use Rattle.commands_data.specs.declared.keeping.RangeSetting.TheVariants as range
use Rattle.data_blocks.specs.declared.key.SortKey.{SortKey}
use Rattle.data_blocks.specs.declared.ranges.DeskRanges.{DeskRanges}
use Rattle.grid_address.specs.Place.{Extent}

-- the range of a sort, or one of a query's
abbrev pub with_range : RangeSetting → Extent → DeskRanges → DeskRanges
with_range range.Sort span r = record r { sort = Some span }
with_range range.Input span r = record r { input = Some span }
with_range range.Criterion span r = record r { criterion = Some span }
with_range range.Output span r = record r { output = Some span }

-- one of a sort's keys
abbrev pub with_key : KeySetting → SortKey → DeskRanges → DeskRanges
with_key key.Primary k r = record r { primary = Some k }
with_key key.Secondary k r = record r { secondary = Some k }

-- a sort's settings are forgotten
abbrev pub without_sort : DeskRanges → DeskRanges
without_sort r = record r { sort = None; primary = None; secondary = None }

-- a query's ranges are forgotten; which query was the last stays
abbrev pub without_query : DeskRanges → DeskRanges
without_query r = record r { input = None; criterion = None; output = None }

-- where a command was carried out, its settings are kept so
abbrev pub if_finished : CommandEnd → (DeskRanges → DeskRanges) → DeskRanges → DeskRanges
if_finished Finished change r = change r
if_finished _ change r = r

-- other settings are kept, and the sheet stays
abbrev pub kept : (DeskRanges → DeskRanges) → Desk → DeskActed
kept change d = left (record d { ranges = change d.ranges })
