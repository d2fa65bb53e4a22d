-- A sort: the rows of a span in the order of their keys.
use Rattle.std.specs.Prelude.{ℕ, Bool, List, [], ◌∷◌, ◌≡◌, if◌then◌else◌}
use Rattle.std.specs.Cmp.Lexicographic.{slice_cmp}
use Rattle.std.specs.List.Sorted.{IsPermutation, IsSortedBy, IsStableBy}
use Rattle.std.specs.Ordering.{int_cmp, is_lt, nat_cmp, ordering_reverse, ordering_then}
use Rattle.std.specs.declared.cmp.Ordering.{Ordering}
use Rattle.std.specs.declared.cmp.Ordering.TheVariants.{Equal}
use Rattle.grid_address.specs.Place.{Extent, Place}
use Rattle.formula_tree.specs.declared.value.Value.{Value}
use Rattle.formula_tree.specs.declared.value.Value.TheVariants as value
use Rattle.value_functions.specs.Operators.{order_of_texts}
use Rattle.formula_parts.specs.Outlook.{Sight}
use Rattle.block_writes.specs.Writing.{at, columns_of, rows_copied, rows_of}
use Rattle.sheet_store.specs.declared.writes.Write.{Write}
use Rattle.data_blocks.specs.declared.key.SortKey.{SortKey}

-- blanks, then numbers, then texts, then NA, then ERR
abbrev pub kind_of : Value → ℕ
kind_of value.Blank = 0
kind_of (value.Num x) = 1
kind_of (value.Str t) = 2
kind_of value.Na = 3
kind_of value.Err = 4

-- two numbers by their size, and two texts folded and then by their bytes
abbrev pub order_in_kind : Value → Value → Ordering
order_in_kind (value.Num x) (value.Num y) = int_cmp x y
order_in_kind (value.Str s) (value.Str t) = ordering_then (order_of_texts s t) (slice_cmp nat_cmp s t)
order_in_kind a b = Equal

-- blanks, then numbers, texts, NA and ERR
abbrev pub order_of_values : Value → Value → Ordering
order_of_values a b = ordering_then (nat_cmp (kind_of a) (kind_of b)) (order_in_kind a b)

-- the other way round, where the sort is descending
abbrev pub turned : Bool → Ordering → Ordering
turned descending o = if descending then ordering_reverse o else o

-- two rows by a key
abbrev pub order_by_key : (Place → Value) → SortKey → ℕ → ℕ → Ordering
order_by_key values key a b = turned key.descending (order_of_values (values (at a key.col)) (values (at b key.col)))

-- by several keys, of which the first counts most
abbrev pub order_of_rows : (Place → Value) → List SortKey → ℕ → ℕ → Ordering
order_of_rows values [] a b = Equal
order_of_rows values (key ∷ keys) a b = ordering_then (order_by_key values key a b) (order_of_rows values keys a b)

-- the same rows in order, and rows that tie as they stood
pub record IsStableSort (order : ℕ → ℕ → Ordering) (rows sorted : List ℕ) : Type 0 where
  pub same : IsPermutation rows sorted
  pub ordered : IsSortedBy (λ a b. is_lt (order a b)) sorted
  pub stable : IsStableBy (λ a b. is_lt (order a b)) rows sorted

-- the rows move as copies, each to the next place in order
pub record IsSort (sight : Sight) (s : Extent) (keys : List SortKey) (writes : List Write) : Type 0 where
  pub sorted : List ℕ
  pub order : IsStableSort (order_of_rows sight.values keys) (rows_of s) sorted
  pub moved : writes ≡ rows_copied sight (columns_of s) sorted (rows_of s)

-- a row among rows in order: before the first that doesn't come before it
abbrev pub placed : (ℕ → ℕ → Ordering) → ℕ → List ℕ → List ℕ
placed order row [] = row ∷ []
placed order row (r ∷ rows) = if is_lt (order r row) then r ∷ placed order row rows else row ∷ r ∷ rows

-- rows in order, where those that tie stay as they stand
abbrev pub in_order : (ℕ → ℕ → Ordering) → List ℕ → List ℕ
in_order order [] = []
in_order order (row ∷ rows) = placed order row (in_order order rows)

-- what a sort writes
abbrev pub rows_sorted : Sight → Extent → List SortKey → List Write
rows_sorted sight s keys =
    rows_copied sight (columns_of s) (in_order (order_of_rows sight.values keys) (rows_of s)) (rows_of s)
