-- The text of a function is written argument by argument.
use Rattle.std.proofs.Common.{◌≡◌, ℕ, zero, suc, ◌≤◌, length, take, List, [], ◌∷◌, ◌++◌, codes, arith, refl, sym, ap}
use Rattle.std.proofs.Common.{◌∙◌, append_assoc, append-nil}
use Rattle.grid_address.specs.Place.{Place}
use Rattle.range_names.specs.Names.{NameMap}
use Rattle.formula_tree.specs.declared.function.Function.{Function as AtFunction}
use Rattle.formula_tree.specs.Tree.{Tree, call}
use Rattle.formula_tree.specs.declared.ast.Expr.{Expr}
use Rattle.formula_tree.specs.View.{listed}
use Rattle.formula_text.specs.Functions.{name_of}
use Rattle.formula_text.specs.Printed.{more_text, text_of}
use Rattle.formula_text.specs.inner.Calls.{call_text, commaed, end_of, mark_before, opened}

commaed_more : (names : NameMap) (at : Place) (ts : List Tree) (u : Tree)
    → commaed names at (ts ++ u ∷ []) ≡ commaed names at ts ++ (codes "," ++ text_of names at u)
commaed_more names at [] u = ap (λ x. codes "," ++ x) (append-nil (text_of names at u))
commaed_more names at (t ∷ ts) u =
    ap (λ x. codes "," ++ (text_of names at t ++ x)) (commaed_more names at ts u)
    ∙ ap (λ x. codes "," ++ x)
    (sym (append_assoc (text_of names at t) (commaed names at ts) (codes "," ++ text_of names at u)))

-- with one argument more, its text stands behind those before and their mark
pub opened_more : (names : NameMap) (at : Place) (ts : List Tree) (u : Tree)
    → opened names at (ts ++ u ∷ []) ≡ opened names at ts ++ (mark_before ts ++ text_of names at u)
opened_more names at [] u = ap (λ x. codes "(" ++ x) (append-nil (text_of names at u))
opened_more names at (t ∷ ts) u =
    ap (λ x. codes "(" ++ (text_of names at t ++ x)) (commaed_more names at ts u)
    ∙ ap (λ x. codes "(" ++ x)
    (sym (append_assoc (text_of names at t) (commaed names at ts) (codes "," ++ text_of names at u)))

-- what stands of a function before one more argument
pub begun_more : (names : NameMap) (at : Place) (f : AtFunction) (ts : List Tree) (u : Tree)
    → (codes "@" ++ (name_of f ++ opened names at ts)) ++ (mark_before ts ++ text_of names at u) ≡ codes "@"
    ++ (name_of f ++ opened names at (ts ++ u ∷ []))
begun_more names at f ts u =
    ap (λ x. codes "@" ++ x) (append_assoc (name_of f) (opened names at ts) (mark_before ts ++ text_of names at u)
    ∙ ap (λ x. name_of f ++ x) (sym (opened_more names at ts u)))

-- before the first argument the name stands alone
pub begun : (f : AtFunction) → codes "@" ++ name_of f ≡ codes "@" ++ (name_of f ++ [])
begun f = ap (λ x. codes "@" ++ x) (sym (append-nil (name_of f)))

-- the closing bracket ends the text of the call
pub ended : (names : NameMap) (at : Place) (f : AtFunction) (ts : List Tree)
    → (codes "@" ++ (name_of f ++ opened names at ts)) ++ end_of ts ≡ call_text names at f ts
ended names at f ts = ap (λ x. codes "@" ++ x) (append_assoc (name_of f) (opened names at ts) (end_of ts))

-- as many arguments as there are, or more, from the front are all of them
pub all_taken : (es : List Expr) (n : ℕ) → length es ≤ n → take n es ≡ es
all_taken [] zero h = refl
all_taken [] (suc n) h = refl
all_taken (x ∷ xs) zero h = absurd (omega arith)
all_taken (x ∷ xs) (suc n) h = ap (λ l. x ∷ l) (all_taken xs n (omega arith))

-- behind an argument a comma stands before the next
pub comma_next : (ts : List Tree) (u : Tree) → mark_before (ts ++ u ∷ []) ≡ codes ","
comma_next [] u = refl
comma_next (t ∷ ts) u = refl

more_listed : (names : NameMap) (at : Place) (ts : List Tree)
    → more_text names at (listed ts) ≡ commaed names at ts ++ codes ")"
more_listed names at [] = refl
more_listed names at (t ∷ ts) =
    ap (λ x. codes "," ++ (text_of names at t ++ x)) (more_listed names at ts)
    ∙ ap (λ x. codes "," ++ x) (sym (append_assoc (text_of names at t) (commaed names at ts) (codes ")")))

-- the text of a call, argument by argument, is that of its tree
pub call_is : (names : NameMap) (at : Place) (f : AtFunction) (ts : List Tree)
    → call_text names at f ts ≡ text_of names at (call f (listed ts))
call_is names at f [] = ap (λ x. codes "@" ++ x) (append-nil (name_of f))
call_is names at f (t ∷ ts) =
    ap (λ x. codes "@" ++ (name_of f ++ (codes "(" ++ x)))
    (append_assoc (text_of names at t) (commaed names at ts) (codes ")")
    ∙ ap (λ x. text_of names at t ++ x) (sym (more_listed names at ts)))
