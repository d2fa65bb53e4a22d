-- The order of rows by their keys is a total order.
use Rattle.std.proofs.Common.{◌≡◌, ℕ, List, [], ◌∷◌, refl, subst}
use Rattle.std.specs.Prelude.{Bool, true, false, ℤ, pos, map}
use Rattle.std.specs.Char.{to_ascii_uppercase}
use Rattle.std.specs.Cmp.{IsTotalOrder}
use Rattle.std.specs.Cmp.Lexicographic.{slice_cmp}
use Rattle.std.specs.Ordering.{int_cmp, nat_cmp, on, ordering_then, then_cmp}
use Rattle.std.specs.declared.cmp.Ordering.{Ordering}
use Rattle.std.specs.declared.cmp.Ordering.TheVariants.{Less, Equal, Greater}
use Rattle.std.proofs.lemmas.Cmp.{back_total, int_cmp_total, nat_cmp_total, nat_list_cmp_total, on_total, then_total}
use Rattle.grid_address.specs.Place.{Place}
use Rattle.formula_tree.specs.declared.value.Value.{Value}
use Rattle.formula_tree.specs.declared.value.Value.TheVariants as value
use Rattle.block_writes.specs.Writing.{at}
use Rattle.data_blocks.specs.Sorting.{kind_of, order_by_key, order_of_rows, order_of_values, turned}
use Rattle.data_blocks.specs.declared.key.SortKey.{SortKey}

abbrev number_in : Value → ℤ
number_in (value.Num x) = x
number_in value.Blank = pos 0
number_in (value.Str t) = pos 0
number_in value.Err = pos 0
number_in value.Na = pos 0

abbrev text_in : Value → List ℕ
text_in (value.Str t) = t
text_in value.Blank = []
text_in (value.Num x) = []
text_in value.Err = []
text_in value.Na = []

abbrev folded_in : Value → List ℕ
folded_in v = map to_ascii_uppercase (text_in v)

-- by kind, then by number, then by folded text, then by text
abbrev by_parts : Value → Value → Ordering
by_parts =
    then_cmp (on kind_of nat_cmp)
    (then_cmp (on number_in int_cmp) (then_cmp (on folded_in (slice_cmp nat_cmp)) (on text_in (slice_cmp nat_cmp))))

parts_total : IsTotalOrder by_parts
parts_total =
    then_total (on_total kind_of nat_cmp_total)
    (then_total (on_total number_in int_cmp_total)
    (then_total (on_total folded_in nat_list_cmp_total) (on_total text_in nat_list_cmp_total)))

then_equal : (o : Ordering) → ordering_then o Equal ≡ o
then_equal Less = refl
then_equal Equal = refl
then_equal Greater = refl

same_order : (a b : Value) → by_parts a b ≡ order_of_values a b
same_order value.Blank value.Blank = refl
same_order value.Blank (value.Num y) = refl
same_order value.Blank (value.Str t) = refl
same_order value.Blank value.Err = refl
same_order value.Blank value.Na = refl
same_order (value.Num x) value.Blank = refl
same_order (value.Num x) (value.Num y) = then_equal (int_cmp x y)
same_order (value.Num x) (value.Str t) = refl
same_order (value.Num x) value.Err = refl
same_order (value.Num x) value.Na = refl
same_order (value.Str s) value.Blank = refl
same_order (value.Str s) (value.Num y) = refl
same_order (value.Str s) (value.Str t) = refl
same_order (value.Str s) value.Err = refl
same_order (value.Str s) value.Na = refl
same_order value.Err value.Blank = refl
same_order value.Err (value.Num y) = refl
same_order value.Err (value.Str t) = refl
same_order value.Err value.Err = refl
same_order value.Err value.Na = refl
same_order value.Na value.Blank = refl
same_order value.Na (value.Num y) = refl
same_order value.Na (value.Str t) = refl
same_order value.Na value.Err = refl
same_order value.Na value.Na = refl

values_total : IsTotalOrder order_of_values
values_total = subst (λ (R : Value → Value → Ordering). IsTotalOrder R) (λ i a b. same_order a b i) parts_total

turned_total : {K : Type 0} (R : K → K → Ordering) (descending : Bool) → IsTotalOrder R
    → IsTotalOrder (λ a b. turned descending (R a b))
turned_total R true o = subst (λ (S : _ → _ → Ordering). IsTotalOrder S) (λ i a b. o.antisymm b a i) (back_total o)
turned_total R false o = o

key_total : (values : Place → Value) (key : SortKey) → IsTotalOrder (order_by_key values key)
key_total values key =
    turned_total (λ a b. order_of_values (values (at a key.col)) (values (at b key.col))) key.descending
    (on_total (λ row. values (at row key.col)) values_total)

-- the order of rows by several keys
pub rows_total : (values : Place → Value) (keys : List SortKey) → IsTotalOrder (order_of_rows values keys)
rows_total values [] = record { antisymm = λ a b. refl; trans = λ a b c p q. p; congr = λ a b c e. refl }
rows_total values (key ∷ keys) = then_total (key_total values key) (rows_total values keys)
