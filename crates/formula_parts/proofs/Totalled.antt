-- The total of the cells of a range, one cell and one row at a time.
use Rattle.std.proofs.Common.{◌≡◌, ℕ, zero, suc, ◌+◌, ◌-◌, ◌≤◌, ◌<◌, List, [], ◌∷◌, ◌++◌, length, fold, cond, Some}
use Rattle.std.proofs.Common.{None, refl, sym, ap, ◌∙◌, append_assoc, arith}
use Rattle.std.specs.Prelude.{Bool, true, false, ◌||◌, ℤ, pos, ◌+ℤ◌, Option, IfSome}
use Rattle.std.specs.List.{filter, list_any}
use Rattle.std.proofs.lemmas.Bool.Decides.{nat_tests}
use Rattle.std.proofs.lemmas.List.{append-nil}
use lib.IntN.{+ℤ_assoc}
use Rattle.grid_address.specs.Place.{height_of, is_within, width_of, Extent, Place}
use Rattle.formula_tree.specs.Values.{is_filled}
use Rattle.formula_tree.specs.declared.function.Function.{Function}
use Rattle.formula_tree.specs.declared.value.Value.{Value}
use Rattle.formula_tree.specs.declared.value.Value.TheVariants as value
use Rattle.value_functions.specs.Values.{stop, unless_stopped}
use Rattle.formula_parts.specs.declared.items.Item.{Item}
use Rattle.formula_parts.specs.declared.items.Item.TheVariants as item
use Rattle.formula_parts.specs.declared.totals.Held.{Held}
use Rattle.formula_parts.specs.declared.totals.Total.{Total}
use Rattle.formula_parts.specs.Lists.{in_range, is_err, is_na, items_in, larger, list_row, list_value, size_of, smaller}
use Rattle.formula_parts.specs.Lists.{told_by}
use Rattle.formula_parts.specs.Outlook.{block_cells, cells_of, filled, row_cells}
use Rattle.formula_parts.proofs.Blocks.{block_more, place, row_more}
use Rattle.formula_parts.specs.inner.Totals.{row_by, so_far, value_by, IsHeld, IsTotal}

-- blank cells have no items
pub unfiltered : (values : Place → Value) (ps : List Place)
    → items_in values (filter (λ p. is_filled (values p)) ps) ≡ items_in values ps
unfiltered values [] = refl
unfiltered values (p ∷ ps) =
    parted (is_filled (values p)) p (filter (λ p. is_filled (values p)) ps)
    ∙ here (values p) (items_in values (filter (λ p. is_filled (values p)) ps))
    ∙ ap (λ (l : List Item). in_range (values p) ++ l) (unfiltered values ps)
  where
    parted : (c : Bool) (p : Place) (ps : List Place)
        → items_in values (cond c (p ∷ ps) ps) ≡ cond c (in_range (values p) ++ items_in values ps) (items_in values ps)
    parted true p ps = refl
    parted false p ps = refl

    here : (v : Value) (l : List Item) → cond (is_filled v) (in_range v ++ l) l ≡ in_range v ++ l
    here value.Blank l = refl
    here (value.Num x) l = refl
    here (value.Str t) l = refl
    here value.Err l = refl
    here value.Na l = refl

-- the items of two lists of cells are those of the one and then those of the other
pub items_append : (values : Place → Value) (ps qs : List Place)
    → items_in values (ps ++ qs) ≡ items_in values ps ++ items_in values qs
items_append values [] qs = refl
items_append values (p ∷ ps) qs =
    ap (λ (l : List Item). in_range (values p) ++ l) (items_append values ps qs)
    ∙ sym (append_assoc (in_range (values p)) (items_in values ps) (items_in values qs))

-- a cell is told by its row and its column
pub same_cell : (p : Place) (row col : ℕ) → p.row ≡ row → p.col ≡ col → p ≡ place row col
same_cell p row col in_row in_col = λ i. place (in_row i) (in_col i)

-- the items so far, with those of one cell more
pub cell_put : (values : Place → Value) (row col count : ℕ) (l : List Item) (v : Value) (p : Place) → v ≡ values p
    → p.row ≡ row → p.col ≡ col + count
    → (l ++ items_in values (row_cells row col count)) ++ in_range v
    ≡ l ++ items_in values (row_cells row col (count + 1))
cell_put values row col count l v p is in_row in_col =
    append_assoc l (items_in values (row_cells row col count)) (in_range v)
    ∙ ap (λ (m : List Item). l ++ m) (
    ap (λ x. items_in values (row_cells row col count) ++ in_range x) is
    ∙ ap (λ q. items_in values (row_cells row col count) ++ in_range (values q))
    (same_cell p row (col + count) in_row in_col)
    ∙ ap (λ (m : List Item). items_in values (row_cells row col count) ++ m)
    (sym (append-nil (in_range (values (place row (col + count))))))
    ∙ sym (items_append values (row_cells row col count) (place row (col + count) ∷ []))
    ∙ ap (items_in values) (sym (row_more row col count)))

-- no cell yet
pub none_put : (values : Place → Value) (row col : ℕ) (l : List Item) → l ≡ l ++ items_in values (row_cells row col 0)
none_put values row col l = sym (append-nil l)

-- the items so far, with those of one row more
pub row_put : (values : Place → Value) (row col rows cols : ℕ) →
    items_in values (block_cells row col rows cols) ++ items_in values (row_cells (row + rows) col cols)
    ≡ items_in values (block_cells row col (rows + 1) cols)
row_put values row col rows cols =
    sym (items_append values (block_cells row col rows cols) (row_cells (row + rows) col cols))
    ∙ ap (items_in values) (sym (block_more row col rows cols))

-- blank cells of a row have no items
blank_row : (values : Place → Value) (row col count : ℕ)
    → ((k : ℕ) → col ≤ k → k < col + count → values (place row k) ≡ value.Blank)
    → items_in values (row_cells row col count) ≡ []
blank_row values row col zero blank = refl
blank_row values row col (suc count) blank =
    ap (λ v. in_range v ++ items_in values (row_cells row (col + 1) count)) (blank col (omega arith) (omega arith))
    ∙ blank_row values row (col + 1) count (λ k low high. blank k (omega (arith, low)) (omega (arith, high)))

lies_in : (s : Extent) (row col : ℕ) → s.first.row ≤ row → row ≤ s.last.row → s.first.col ≤ col → col ≤ s.last.col
    → is_within s (place row col) ≡ true
lies_in s row col a b c d = grind (arith, nat_tests)

-- rows of blank cells have none
blank_rows : (values : Place → Value) (s : Extent) (from count : ℕ)
    → ((row col : ℕ) → s.first.row + from ≤ row → row < s.first.row + (from + count) → s.first.col ≤ col
    → col ≤ s.last.col → values (place row col) ≡ value.Blank)
    → so_far values s (from + count) ≡ so_far values s from
blank_rows values s from zero blank = ap (so_far values s) (let e : from + 0 ≡ from = omega arith in e)
blank_rows values s from (suc count) blank =
    ap (so_far values s) (let e : from + suc count ≡ from + count + 1 = omega arith in e)
    ∙ sym (row_put values s.first.row s.first.col (from + count) (width_of s))
    ∙ ap (λ l. so_far values s (from + count) ++ l)
    (blank_row values (s.first.row + (from + count)) s.first.col (width_of s) (λ k low high.
    blank (s.first.row + (from + count)) k (omega arith) (omega arith) low (omega (arith, low, high))))
    ∙ append-nil (so_far values s (from + count))
    ∙ blank_rows values s from count
    (λ row col above below left right. blank row col above (omega (arith, below)) left right)

-- an unused part of a range adds nothing
pub unused_put : (values : Place → Value) (s b : Extent) (from to : ℕ) → from < to
    → b.first ≡ place (s.first.row + from) s.first.col → b.last ≡ place (s.first.row + (to - 1)) s.last.col
    → ((p : Place) → is_within b p ≡ true → values p ≡ value.Blank)
    → so_far values s to ≡ so_far values s from
unused_put values s b from to some first last blank =
    ap (so_far values s) (let e : to ≡ from + (to - from) = omega (arith, some) in e)
    ∙ blank_rows values s from (to - from) (λ row col above below left right.
    blank (place row col) (lies_in b row col
    (let e : b.first.row ≤ row = omega (arith, above, ap (λ (p : Place). p.row) first) in e)
    (let e : row ≤ b.last.row = omega (arith, below, some, ap (λ (p : Place). p.row) last) in e)
    (let e : b.first.col ≤ col = omega (arith, left, ap (λ (p : Place). p.col) first) in e)
    (let e : col ≤ b.last.col = omega (arith, right, ap (λ (p : Place). p.col) last) in e)))

fold_behind : {X Y : Type 0} (f : Y → X → Y) (start : Y) (l : List X) (x : X)
    → fold f start (l ++ x ∷ []) ≡ f (fold f start l) x
fold_behind f start [] x = refl
fold_behind f start (y ∷ l) x = fold_behind f (f start y) l x

longer : {X : Type 0} (l : List X) (x : X) → length (l ++ x ∷ []) ≡ length l + 1
longer [] x = refl
longer (y ∷ l) x = omega (arith, longer l x)

any_behind : {X : Type 0} (test : X → Bool) (l : List X) (x : X)
    → list_any test (l ++ x ∷ []) ≡ (list_any test l || test x)
any_behind test [] x = last (test x)
  where
    last : (b : Bool) → (b || false) ≡ (false || b)
    last b = grind arith
any_behind test (y ∷ l) x =
    ap (λ b. test y || b) (any_behind test l x) ∙ sym (either_of (test y) (list_any test l) (test x))
  where
    either_of : (a b c : Bool) → ((a || b) || c) ≡ (a || (b || c))
    either_of a b c = grind arith

-- a total with an item more
pub item_put : (t new : Total) (x : Item) → new.count ≡ t.count + 1 → new.sum ≡ t.sum +ℤ size_of x
    → new.least ≡ smaller t.least x → new.greatest ≡ larger t.greatest x → new.has_err ≡ (t.has_err || is_err x)
    → new.has_na ≡ (t.has_na || is_na x)
    → (l : List Item) → IsTotal t l → IsTotal new (l ++ x ∷ [])
item_put t new x counts sums least_is greatest_is errs_are nas_are l is = record {
  counted = counts ∙ ap (λ n. n + 1) is.counted ∙ sym (longer l x);
  summed = sums ∙ ap (λ z. z +ℤ size_of x) is.summed ∙ sym (fold_behind (λ total i. total +ℤ size_of i) (pos 0) l x);
  least = least_is ∙ ap (λ o. smaller o x) is.least ∙ sym (fold_behind smaller None l x);
  greatest = greatest_is ∙ ap (λ o. larger o x) is.greatest ∙ sym (fold_behind larger None l x);
  errs = errs_are ∙ ap (λ b. b || is_err x) is.errs ∙ sym (any_behind is_err l x);
  nas = nas_are ∙ ap (λ b. b || is_na x) is.nas ∙ sym (any_behind is_na l x);
}

-- a number in the place of an item
sized_smaller : (o : Option ℤ) (x : Item) → smaller o (item.Is (size_of x)) ≡ smaller o x
sized_smaller None x = refl
sized_smaller (Some n) x = refl

sized_larger : (o : Option ℤ) (x : Item) → larger o (item.Is (size_of x)) ≡ larger o x
sized_larger None x = refl
sized_larger (Some n) x = refl

-- the same, where the item is told by its number, and whether it is ERR or NA
pub size_put : (t new : Total) (x : Item) (size : ℤ) (err na : Bool) → size ≡ size_of x → err ≡ is_err x → na ≡ is_na x
    → new.count ≡ t.count + 1 → new.sum ≡ t.sum +ℤ size → new.least ≡ smaller t.least (item.Is size)
    → new.greatest ≡ larger t.greatest (item.Is size) → new.has_err ≡ (t.has_err || err) → new.has_na ≡ (t.has_na || na)
    → (l : List Item) → IsTotal t l → IsTotal new (l ++ x ∷ [])
size_put t new x size err na size_is err_is na_is counts sums least_is greatest_is errs_are nas_are =
    item_put t new x counts (sums ∙ ap (λ z. t.sum +ℤ z) size_is)
    (least_is ∙ ap (λ z. smaller t.least (item.Is z)) size_is ∙ sized_smaller t.least x)
    (greatest_is ∙ ap (λ z. larger t.greatest (item.Is z)) size_is ∙ sized_larger t.greatest x)
    (errs_are ∙ ap (λ b. t.has_err || b) err_is) (nas_are ∙ ap (λ b. t.has_na || b) na_is)

or_false : (b : Bool) → (b || false) ≡ b
or_false b = grind arith

sum_apart : (x y z : ℤ) → x +ℤ (y +ℤ z) ≡ x +ℤ y +ℤ z
sum_apart x y z = sym (+ℤ_assoc x y z)

-- a number more, which is added to what stands apart
pub number_put : (h new : Held) (more n : ℤ) → more ≡ h.apart +ℤ n → new.apart ≡ more
    → new.total.count ≡ h.total.count + 1 → new.total.sum ≡ h.total.sum
    → new.total.least ≡ smaller h.total.least (item.Is n) → new.total.greatest ≡ larger h.total.greatest (item.Is n)
    → new.total.has_err ≡ h.total.has_err → new.total.has_na ≡ h.total.has_na
    → (l : List Item) → IsHeld h l → IsHeld new (l ++ item.Is n ∷ [])
number_put h new more n mores apart counts sums least_is greatest_is errs_are nas_are =
    item_put (record h.total { sum = h.total.sum +ℤ h.apart }) (record new.total { sum = new.total.sum +ℤ new.apart })
    (item.Is n) counts
    (ap (λ z. z +ℤ new.apart) sums ∙ ap (λ z. h.total.sum +ℤ z) (apart ∙ mores) ∙ sum_apart h.total.sum h.apart n)
    least_is greatest_is (errs_are ∙ sym (or_false h.total.has_err)) (nas_are ∙ sym (or_false h.total.has_na))

-- where a row ends, the next one begins
pub row_ended : (values : Place → Value) (s : Extent) (row count : ℕ) → count ≡ width_of s
    → so_far values s row ++ items_in values (row_cells (s.first.row + row) s.first.col count)
    ≡ so_far values s (row + 1) ++ items_in values (row_cells (s.first.row + (row + 1)) s.first.col 0)
row_ended values s row count all =
    ap (λ n. so_far values s row ++ items_in values (row_cells (s.first.row + row) s.first.col n)) all
    ∙ row_put values s.first.row s.first.col row (width_of s)
    ∙ none_put values (s.first.row + (row + 1)) s.first.col (so_far values s (row + 1))

-- where the rows end, none begins
pub rows_ended : (values : Place → Value) (s : Extent) (row col to : ℕ) → row ≡ to → col ≡ 0
    → so_far values s row ++ items_in values (row_cells (s.first.row + row) s.first.col col) ≡ so_far values s to
rows_ended values s row col to all none =
    ap (λ n. so_far values s row ++ items_in values (row_cells (s.first.row + row) s.first.col n)) none
    ∙ sym (none_put values (s.first.row + row) s.first.col (so_far values s row))
    ∙ ap (so_far values s) all

row_for : (f : Function) (t : Total) (l : List Item) → IsTotal t l → row_by f t ≡ list_row f l
row_for f t l is = λ i. told_by f (is.counted i) (is.summed i) (is.least i) (is.greatest i)

-- a function of a list, by its total
pub value_for : (f : Function) (t : Total) (l : List Item) → IsTotal t l → value_by f t ≡ list_value f l
value_for f t l is =
    ap (λ b. unless_stopped (stop b t.has_na) (row_by f t)) is.errs
    ∙ ap (λ b. unless_stopped (stop (list_any is_err l) b) (row_by f t)) is.nas
    ∙ ap (unless_stopped (stop (list_any is_err l) (list_any is_na l))) (row_for f t l is)

-- the value of a function of the list
abbrev pub IsBy : Function → Total → ℤ → Type 0
IsBy f t n = (l : List Item) → IsTotal t l → list_value f l ≡ value.Num n

-- the value of a function of the cells of a range, where they have that total
pub found_by : (f : Function) (t : Total) (found : Option ℤ) (values : Place → Value) (s : Extent)
    → IsTotal t (items_in values (cells_of s)) → IfSome found (IsBy f t)
    → IfSome found (λ n. list_value f (items_in values (filled values s)) ≡ value.Num n)
found_by f t None values s total by = tt
found_by f t (Some n) values s total by =
    ap (list_value f) (unfiltered values (cells_of s)) ∙ by (items_in values (cells_of s)) total

-- the items of two parts of the rows of a block
pub parted : (values : Place → Value) (row col a b cols : ℕ)
    → items_in values (block_cells row col (a + b) cols)
    ≡ items_in values (block_cells row col a cols) ++ items_in values (block_cells (row + a) col b cols)
parted values row col zero b cols =
    ap (λ n. items_in values (block_cells row col n cols)) (let e : 0 + b ≡ b = omega arith in e)
    ∙ ap (λ r. items_in values (block_cells r col b cols)) (let e : row ≡ row + 0 = omega arith in e)
parted values row col (suc a) b cols =
    let first = items_in values (row_cells row col cols) in
    let upper = items_in values (block_cells (row + 1) col a cols) in
    ap (λ n. items_in values (block_cells row col n cols)) (let e : suc a + b ≡ suc (a + b) = omega arith in e)
    ∙ items_append values (row_cells row col cols) (block_cells (row + 1) col (a + b) cols)
    ∙ ap (λ (l : List Item). first ++ l) (parted values (row + 1) col a b cols)
    ∙ sym (append_assoc first upper (items_in values (block_cells (row + 1 + a) col b cols)))
    ∙ ap (λ (l : List Item). l ++ items_in values (block_cells (row + 1 + a) col b cols))
    (sym (items_append values (row_cells row col cols) (block_cells (row + 1) col a cols)))
    ∙ ap (λ r. items_in values (block_cells row col (suc a) cols) ++ items_in values (block_cells r col b cols))
    (let e : row + 1 + a ≡ row + suc a = omega arith in e)

-- the items of some rows behind those above them
pub rows_put : (values : Place → Value) (s b : Extent) (from to : ℕ) → from < to
    → b.first ≡ place (s.first.row + from) s.first.col → b.last ≡ place (s.first.row + (to - 1)) s.last.col
    → so_far values s from ++ items_in values (cells_of b) ≡ so_far values s to
rows_put values s b from to some first last =
    let height : height_of b ≡ to - from =
    omega (arith, some, ap (λ (p : Place). p.row) first, ap (λ (p : Place). p.row) last) in
    let width : width_of b ≡ width_of s =
    omega (arith, ap (λ (p : Place). p.col) first, ap (λ (p : Place). p.col) last) in
    ap (λ n. so_far values s from ++ items_in values (block_cells b.first.row b.first.col n (width_of b))) height
    ∙ ap (λ n. so_far values s from ++ items_in values (block_cells b.first.row b.first.col (to - from) n)) width
    ∙ ap (λ (p : Place). so_far values s from ++ items_in values (block_cells p.row p.col (to - from) (width_of s)))
    first
    ∙ sym (parted values s.first.row s.first.col from (to - from) (width_of s))
    ∙ ap (so_far values s) (let e : from + (to - from) ≡ to = omega (arith, some) in e)

-- a range without a used cell has no items
pub unused_none : (values : Place → Value) (s : Extent) → ((p : Place) → is_within s p ≡ true → values p ≡ value.Blank)
    → items_in values (cells_of s) ≡ []
unused_none values s blank =
    ap (so_far values s) (let e : height_of s ≡ 0 + height_of s = omega arith in e)
    ∙ blank_rows values s 0 (height_of s) (λ row col above below left right.
    blank (place row col) (lies_in s row col (omega (arith, above)) (omega (arith, above, below)) left right))
