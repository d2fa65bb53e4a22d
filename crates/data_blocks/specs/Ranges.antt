-- What the commands on data keep.
use Rattle.std.specs.Prelude.{None}
use Rattle.data_blocks.specs.declared.ranges.DeskRanges.{DeskRanges}
use Rattle.data_blocks.specs.declared.ranges.LastQuery.TheVariants as query
use Rattle.data_blocks.specs.declared.ranges.LastTable.TheVariants as table

-- nothing is kept
abbrev pub no_ranges : DeskRanges
no_ranges = record {
  input = None;
  criterion = None;
  output = None;
  sort = None;
  primary = None;
  secondary = None;
  last_query = query.Nothing;
  last_table = table.Nothing;
}
