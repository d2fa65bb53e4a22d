-- Items are gathered one argument and one cell at a time.
use Rattle.std.proofs.Common.{◌≡◌, ℕ, ◌+◌, ◌<◌, List, [], ◌∷◌, ◌++◌, length, take, get_or, sym, ap, ◌∙◌, append_assoc}
use Rattle.std.proofs.lemmas.List.{append-nil, take_more}
use Rattle.grid_address.specs.Place.{Place}
use Rattle.formula_tree.specs.declared.value.Value.{Value}
use Rattle.formula_parts.specs.declared.argument.Argument.{Argument}
use Rattle.formula_parts.specs.declared.items.Item.{Item}
use Rattle.formula_parts.specs.Lists.{in_range, items_by, items_in, items_of}

in_append : (values : Place → Value) (ps : List Place) (p : Place)
    → items_in values (ps ++ p ∷ []) ≡ items_in values ps ++ in_range (values p)
in_append values [] p = append-nil (in_range (values p))
in_append values (q ∷ ps) p =
    ap (λ (l : List Item). in_range (values q) ++ l) (in_append values ps p)
    ∙ sym (append_assoc (in_range (values q)) (items_in values ps) (in_range (values p)))

of_append : (values : Place → Value) (args : List Argument) (a : Argument)
    → items_of values (args ++ a ∷ []) ≡ items_of values args ++ items_by values a.operand a.value
of_append values [] a = append-nil (items_by values a.operand a.value)
of_append values (b ∷ args) a =
    ap (λ (l : List Item). items_by values b.operand b.value ++ l) (of_append values args a)
    ∙ sym (append_assoc (items_by values b.operand b.value) (items_of values args) (items_by values a.operand a.value))

-- one more cell
pub in_more : (values : Place → Value) (ps : List Place) (at : ℕ) (d : Place) → at < length ps
    → items_in values (take (at + 1) ps) ≡ items_in values (take at ps) ++ in_range (values (get_or ps at d))
in_more values ps at d inside =
    ap (items_in values) (take_more ps at d inside) ∙ in_append values (take at ps) (get_or ps at d)

-- one more argument
pub of_more : (values : Place → Value) (args : List Argument) (at : ℕ) (d : Argument) → at < length args
    → items_of values (take (at + 1) args)
    ≡ items_of values (take at args) ++ items_by values (get_or args at d).operand (get_or args at d).value
of_more values args at d inside =
    ap (items_of values) (take_more args at d inside) ∙ of_append values (take at args) (get_or args at d)

-- what was there, and the items of one argument more
pub next_argument : (values : Place → Value) (args : List Argument) (at : ℕ) (a : Argument) → at < length args
    → a ≡ get_or args at a
    → items_of values (take at args) ++ items_by values a.operand a.value ≡ items_of values (take (at + 1) args)
next_argument values args at a inside is =
    ap (λ (b : Argument). items_of values (take at args) ++ items_by values b.operand b.value) is
    ∙ sym (of_more values args at a inside)

-- what was there, and the items so far with one cell more
pub cell_next : (values : Place → Value) (ps : List Place) (at : ℕ) (m : List Item) (p : Place) (v : Value)
    → at < length ps → p ≡ get_or ps at p → v ≡ values p
    → (m ++ items_in values (take at ps)) ++ in_range v ≡ m ++ items_in values (take (at + 1) ps)
cell_next values ps at m p v inside is there =
    append_assoc m (items_in values (take at ps)) (in_range v)
    ∙ ap (λ x. m ++ (items_in values (take at ps) ++ in_range x)) (there ∙ ap values is)
    ∙ ap (λ (l : List Item). m ++ l) (sym (in_more values ps at p inside))
