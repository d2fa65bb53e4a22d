-- A distribution: how many values lie in each bin.
use Rattle.std.specs.Prelude.{ℕ, ◌+◌, ◌||◌, ◌&&◌, ◌==◌, not, ℤ, pos, Bool, true, Option, None, Some, List, [], ◌∷◌, map, Result, Ok, Err, if◌then◌else◌}
use Rattle.std.specs.Int.RustNames.{int_lt}
use Rattle.std.specs.List.{count_by, flat_map, zip}
use Rattle.grid_address.specs.Limits.{LAST_COLUMN, LAST_ROW}
use Rattle.grid_address.specs.Place.{height_of, Extent, Place}
use Rattle.formula_tree.specs.declared.value.Value.{Value}
use Rattle.formula_tree.specs.declared.value.Value.TheVariants as value
use Rattle.formula_parts.specs.Outlook.{filled, Sight}
use Rattle.value_functions.specs.Values.{counted}
use Rattle.block_writes.specs.Writing.{as_content, down, numbers_from, rows_of, written}
use Rattle.sheet_store.specs.declared.writes.SheetFault.TheVariants as sheet_fault
use Rattle.sheet_store.specs.declared.writes.Write.{Write}
use Rattle.data_blocks.specs.declared.fault.BlockFault.{BlockFault}
use Rattle.data_blocks.specs.declared.fault.BlockFault.TheVariants as fault

-- a value that is a number counts
abbrev pub number_of : Value → List ℤ
number_of (value.Num x) = x ∷ []
number_of _ = []

-- the numbers among the values of some cells
abbrev pub numbers_in : (Place → Value) → List Place → List ℤ
numbers_in values cells = flat_map (λ p. number_of (values p)) cells

-- a bin that is no number counts as 0
abbrev pub bin_of : Value → ℤ
bin_of (value.Num x) = x
bin_of _ = pos 0

-- above the bin before, if there is one
abbrev pub is_above : Option ℤ → ℤ → Bool
is_above None x = true
is_above (Some before) x = int_lt before x

-- above the bin before, and at most the bin
abbrev pub is_in_bin : Option ℤ → ℤ → ℤ → Bool
is_in_bin before bin x = is_above before x && not (int_lt bin x)

-- how many are at most each bin and above the bin before, and how many are above the last
abbrev pub shares : List ℤ → Option ℤ → List ℤ → List ℕ
shares numbers before [] = count_by (is_above before) numbers ∷ []
shares numbers before (bin ∷ bins) = count_by (is_in_bin before bin) numbers ∷ shares numbers (Some bin) bins

-- the bins are the first column
abbrev pub bins_of : (Place → Value) → Extent → List ℤ
bins_of values bins = map (λ p. bin_of (values p)) (down bins.first.col (rows_of bins))

-- beside each bin, and one row further
abbrev pub beside : Extent → List Place
beside bins = down (bins.first.col + 1) (numbers_from bins.first.row (height_of bins + 1))

-- each count for its cell
abbrev pub counts_written : List Place → List ℕ → List Write
counts_written cells counts = map (λ p. written p.0 (as_content (counted p.1))) (zip cells counts)

-- how many of the numbers of a range lie in each bin, beside the bins
abbrev pub distributed : Sight → Extent → Extent → List Write
distributed sight values bins =
    counts_written (beside bins)
    (shares (numbers_in sight.values (filled sight.values values)) None (bins_of sight.values bins))

-- the last column and the last row leave no room for the counts
abbrev pub has_no_room : Extent → Bool
has_no_room bins = bins.first.col == LAST_COLUMN || bins.last.row == LAST_ROW

-- what a distribution writes, where there is room for it
abbrev pub distribution : Sight → Extent → Extent → Result (List Write) BlockFault
distribution sight values bins =
    if has_no_room bins
    then Err (fault.Sheet (sheet_fault.OutOfSheet bins)) else Ok (distributed sight values bins)
