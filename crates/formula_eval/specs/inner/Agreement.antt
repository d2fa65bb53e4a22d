-- Outlooks whose values agree in the ranges of a function's arguments.
use Rattle.std.specs.Prelude.{◌≡◌, ℕ, zero, suc, ◌+◌, ◌≤◌, ◌<◌, ◌&&◌, ◌||◌, nat_lt, refl, Bool, true, false, cond, List, [], ◌∷◌, ◌++◌}
use Rattle.std.specs.List.{filter, list_all, list_any}
use Rattle.std.proofs.Common.{ap, sym, ◌∙◌, arith, inl, inr}
use Rattle.std.proofs.lemmas.Bool.{and_from, and_parts, cases_Bool}
use Rattle.std.proofs.lemmas.Bool.Decides.{nat_tests}
use Rattle.grid_address.specs.Place.{height_of, is_within, spanned, width_of, Extent, Place}
use Rattle.formula_tree.specs.declared.value.Value.{Value}
use Rattle.formula_parts.specs.declared.argument.Argument.{Argument}
use Rattle.formula_parts.specs.declared.argument.Operand.{Operand}
use Rattle.formula_parts.specs.declared.argument.Operand.TheVariants as operand
use Rattle.formula_parts.specs.Lists.{alone, in_range, items_by, items_in, items_of}
use Rattle.formula_tree.specs.Values.{is_filled}
use Rattle.formula_parts.specs.Outlook.{block_cells, cells_of, row_cells}

-- a place is in the range of an argument
abbrev pub in_operand : Operand → Place → Bool
in_operand operand.Other p = false
in_operand (operand.Cell q) p = is_within (spanned q q) p
in_operand (operand.Span s) p = is_within s p

-- values agree in a span
abbrev pub Agree : Extent → (Place → Value) → (Place → Value) → Type 0
Agree s v w = (p : Place) → is_within s p ≡ true → v p ≡ w p

-- values agree in the range of an argument
abbrev pub AgreeIn : Operand → (Place → Value) → (Place → Value) → Type 0
AgreeIn o v w = (p : Place) → in_operand o p ≡ true → v p ≡ w p

pub within_itself : (p : Place) → is_within (spanned p p) p ≡ true
within_itself p = grind (arith, nat_tests)

all_two : {X : Type 0} (p : X → Bool) (xs ys : List X) → list_all p xs ≡ true → list_all p ys ≡ true →
    list_all p (xs ++ ys) ≡ true
all_two p [] ys h g = g
all_two p (x ∷ xs) ys h g =
    and_from (p x) (list_all p (xs ++ ys)) (and_parts (p x) (list_all p xs) h).0
    (all_two p xs ys (and_parts (p x) (list_all p xs) h).1 g)

inside : (s : Extent) (row col : ℕ) → s.first.row ≤ row → row ≤ s.last.row → s.first.col ≤ col → col ≤ s.last.col →
    is_within s (record { row = row; col = col }) ≡ true
inside s row col a b c d = grind (arith, nat_tests, a, b, c, d)

row_inside : (s : Extent) (row col count : ℕ) → s.first.row ≤ row → row ≤ s.last.row → s.first.col ≤ col →
    col + count ≤ s.last.col + 1 → list_all (is_within s) (row_cells row col count) ≡ true
row_inside s row col zero a b c d = refl
row_inside s row col (suc count) a b c d =
    and_from (is_within s (record { row = row; col = col })) _ (inside s row col a b c (omega (arith, d)))
    (row_inside s row (col + 1) count a b (omega (arith, c)) (omega (arith, d)))

block_inside : (s : Extent) (row col rows cols : ℕ) → s.first.row ≤ row → row + rows ≤ s.last.row + 1 →
    s.first.col ≤ col → col + cols ≤ s.last.col + 1 → list_all (is_within s) (block_cells row col rows cols) ≡ true
block_inside s row col zero cols a b c d = refl
block_inside s row col (suc rows) cols a b c d =
    all_two (is_within s) (row_cells row col cols) (block_cells (row + 1) col rows cols)
    (row_inside s row col cols a (omega (arith, b)) c d)
    (block_inside s (row + 1) col rows cols (omega (arith, a)) (omega (arith, b)) c d)

empty_rows : (row col rows : ℕ) → block_cells row col rows 0 ≡ []
empty_rows row col zero = refl
empty_rows row col (suc rows) = empty_rows (row + 1) col rows

-- the cells of a span lie in it
pub cells_inside : (s : Extent) → list_all (is_within s) (cells_of s) ≡ true
cells_inside s = elim (cases_Bool (nat_lt (s.last.row + 1) s.first.row)) [
  | inl none ↦ (let no_rows : height_of s ≡ 0 = (
      let less : s.last.row + 1 < s.first.row = grind (arith, nat_tests, none) in omega (arith, less)) in
      ap (λ h. list_all (is_within s) (block_cells s.first.row s.first.col h (width_of s))) no_rows)
  | inr rows ↦ elim (cases_Bool (nat_lt (s.last.col + 1) s.first.col)) [
    | inl none ↦ (let no_cols : width_of s ≡ 0 = (
        let less : s.last.col + 1 < s.first.col = grind (arith, nat_tests, none) in omega (arith, less)) in
        ap (λ n. list_all (is_within s) (block_cells s.first.row s.first.col (height_of s) n)) no_cols
        ∙ ap (list_all (is_within s)) (empty_rows s.first.row s.first.col (height_of s)))
    | inr cols ↦ (
        let r : s.first.row ≤ s.last.row + 1 = grind (arith, nat_tests, rows) in
        let c : s.first.col ≤ s.last.col + 1 = grind (arith, nat_tests, cols) in
        block_inside s s.first.row s.first.col (height_of s) (width_of s) (omega arith) (omega (arith, r))
        (omega arith) (omega (arith, c)))
  ]
]

-- the items of cells that agree
same_items : (s : Extent) (v w : Place → Value) (ps : List Place) → Agree s v w → list_all (is_within s) ps ≡ true →
    items_in v (filter (λ p. is_filled (v p)) ps) ≡ items_in w (filter (λ p. is_filled (w p)) ps)
same_items s v w [] agree h = refl
same_items s v w (p ∷ ps) agree h =
    let here : v p ≡ w p = agree p (and_parts (is_within s p) (list_all (is_within s) ps) h).0 in
    let more : items_in v (filter (λ p. is_filled (v p)) ps) ≡ items_in w (filter (λ p. is_filled (w p)) ps) =
    same_items s v w ps agree (and_parts (is_within s p) (list_all (is_within s) ps) h).1 in
    split v (is_filled (v p)) p (filter (λ p. is_filled (v p)) ps)
    ∙ (λ i. cond (is_filled (here i)) (in_range (here i) ++ more i) (more i))
    ∙ sym (split w (is_filled (w p)) p (filter (λ p. is_filled (w p)) ps))
  where
    split : (v : Place → Value) (c : Bool) (p : Place) (ps : List Place) →
        items_in v (cond c (p ∷ ps) ps) ≡ cond c (in_range (v p) ++ items_in v ps) (items_in v ps)
    split v true p ps = refl
    split v false p ps = refl

pub same_by : (v w : Place → Value) (o : Operand) (x : Value) → AgreeIn o v w → items_by v o x ≡ items_by w o x
same_by v w operand.Other x agree = refl
same_by v w (operand.Cell p) x agree = ap (λ y. alone y ∷ []) (agree p (within_itself p))
same_by v w (operand.Span s) x agree = same_items s v w (cells_of s) agree (cells_inside s)

-- in the ranges of all arguments
abbrev pub in_arguments : List Argument → Place → Bool
in_arguments args p = list_any (λ a. in_operand a.operand p) args

pub same_of : (v w : Place → Value) (args : List Argument) → ((p : Place) → in_arguments args p ≡ true → v p ≡ w p) →
    items_of v args ≡ items_of w args
same_of v w [] agree = refl
same_of v w (a ∷ args) agree =
    let here = same_by v w a.operand a.value (
    λ p h. agree p (first (in_operand a.operand p) (in_arguments args p) h)) in
    let more = same_of v w args (λ p h. agree p (second (in_operand a.operand p) (in_arguments args p) h)) in
    λ i. here i ++ more i
  where
    first : (a b : Bool) → a ≡ true → (a || b) ≡ true
    first a b h = grind arith

    second : (a b : Bool) → b ≡ true → (a || b) ≡ true
    second a b h = grind arith
