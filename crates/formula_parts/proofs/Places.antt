-- The arguments of a function, one by one.
use Rattle.std.proofs.Common.{◌≡◌, ℕ, zero, suc, ◌+◌, ◌≤◌, ◌<◌, List, [], ◌∷◌, ◌++◌, length, map, take, get_or, Ok, Err}
use Rattle.std.proofs.Common.{refl, ap, ◌∙◌, arith}
use Rattle.grid_address.specs.Place.{Place}
use Rattle.formula_tree.specs.Tree.{Tree}
use Rattle.formula_tree.specs.View.{listed, tree_of}
use Rattle.formula_tree.specs.declared.ast.Expr.{Expr}
use Rattle.formula_tree.specs.declared.function.Function.{Function}
use Rattle.formula_tree.specs.declared.value.Value.{Value}
use Rattle.formula_tree.specs.declared.value.Value.TheVariants as value
use Rattle.formula_tree.proofs.Rows.{one_taken}
use Rattle.formula_parts.specs.declared.argument.Argument.{Argument}
use Rattle.formula_parts.specs.Calls.{choice, chosen, chosen_one, nth_value}
use Rattle.formula_parts.specs.Outlook.{Outlook}
use Rattle.formula_parts.specs.Parts.{arguments_by, operand_of, value_by, Database}

-- an argument as a function takes it: its value, and what it names
abbrev pub argument : Database → Place → Outlook → Tree → Argument
argument base at w t = record { value = value_by base t at w; operand = operand_of t at }

one_behind : (base : Database) (at : Place) (w : Outlook) (ts : List Tree) (t : Tree)
    → arguments_by base (listed (ts ++ t ∷ [])) at w ≡ arguments_by base (listed ts) at w ++ argument base at w t ∷ []
one_behind base at w [] t = refl
one_behind base at w (u ∷ ts) t = ap (λ (l : List Argument). argument base at w u ∷ l) (one_behind base at w ts t)

-- one more argument
pub one_more : (base : Database) (at : Place) (w : Outlook) (es : List Expr) (i : ℕ) (d : Expr) → i < length es
    → arguments_by base (listed (map tree_of (take (i + 1) es))) at w
    ≡ arguments_by base (listed (map tree_of (take i es))) at w ++ argument base at w (tree_of (get_or es i d)) ∷ []
one_more base at w es i d h =
    ap (λ k. arguments_by base (listed (map tree_of (take k es))) at w) (let e : i + 1 ≡ suc i = omega arith in e)
    ∙ ap (λ (ts : List Tree). arguments_by base (listed ts) at w) (one_taken es i d h)
    ∙ one_behind base at w (map tree_of (take i es)) (tree_of (get_or es i d))

-- an argument of a call is the value of its expression
pub nth_is : (base : Database) (at : Place) (w : Outlook) (es : List Expr) (k : ℕ) (d : Expr) → k < length es
    → nth_value (arguments_by base (listed (map tree_of es)) at w) k ≡ value_by base (tree_of (get_or es k d)) at w
nth_is base at w [] k d h = absurd (omega arith)
nth_is base at w (e ∷ es) zero d h = refl
nth_is base at w (e ∷ es) (suc k) d h = nth_is base at w es k d (omega arith)

-- an argument past the last one is ERR
pub nth_past : (base : Database) (at : Place) (w : Outlook) (es : List Expr) (k : ℕ) → length es ≤ k
    → nth_value (arguments_by base (listed (map tree_of es)) at w) k ≡ value.Err
nth_past base at w [] k h = refl
nth_past base at w (e ∷ es) zero h = absurd (omega arith)
nth_past base at w (e ∷ es) (suc k) h = nth_past base at w es k (omega arith)

arguments_long : (base : Database) (at : Place) (w : Outlook) (es : List Expr)
    → length (arguments_by base (listed (map tree_of es)) at w) ≡ length es
arguments_long base at w [] = refl
arguments_long base at w (e ∷ es) = ap suc (arguments_long base at w es)

-- the first argument decides which one is taken
pub by_first : (base : Database) (f : Function) (at : Place) (w : Outlook) (es : List Expr) (d : Expr) → 0 < length es →
    chosen f (arguments_by base (listed (map tree_of es)) at w)
    ≡ chosen_one (choice f (length es) (value_by base (tree_of (get_or es 0 d)) at w))
    (arguments_by base (listed (map tree_of es)) at w)
by_first base f at w [] d h = absurd (omega arith)
by_first base f at w (e ∷ es) d h =
    ap (λ n. chosen_one (choice f (suc n) (value_by base (tree_of e) at w))
    (arguments_by base (listed (map tree_of (e ∷ es))) at w)) (arguments_long base at w es)

-- the argument that the first one chooses is what the function gives
pub taken : (base : Database) (f : Function) (at : Place) (w : Outlook) (es : List Expr) (d : Expr) (place : ℕ)
    → 0 < length es → choice f (length es) (value_by base (tree_of (get_or es 0 d)) at w) ≡ Ok place
    → chosen f (arguments_by base (listed (map tree_of es)) at w)
    ≡ nth_value (arguments_by base (listed (map tree_of es)) at w) place
taken base f at w es d place some is =
    by_first base f at w es d some ∙ ap (λ r. chosen_one r (arguments_by base (listed (map tree_of es)) at w)) is

-- where the first argument chooses none, the value in its stead is what the function gives
pub stopped : (base : Database) (f : Function) (at : Place) (w : Outlook) (es : List Expr) (d : Expr) (v : Value)
    → 0 < length es → choice f (length es) (value_by base (tree_of (get_or es 0 d)) at w) ≡ Err v
    → chosen f (arguments_by base (listed (map tree_of es)) at w) ≡ v
stopped base f at w es d v some is =
    by_first base f at w es d some ∙ ap (λ r. chosen_one r (arguments_by base (listed (map tree_of es)) at w)) is
