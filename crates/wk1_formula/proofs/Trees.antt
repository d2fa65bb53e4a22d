-- What every node of a tree passes, its arguments' nodes pass.
use Rattle.std.proofs.Common.{◌≡◌, ℕ, zero, suc, ◌≤◌, ◌<◌, Bool, true, ◌&&◌, nat_le, map, get_or, List, [], ◌∷◌, ◌++◌}
use Rattle.std.proofs.Common.{length, refl, ap, ◌∙◌, sym, arith}
use Rattle.std.specs.List.{list_all}
use Rattle.std.specs.Prelude.{flat_map}
use Rattle.std.proofs.lemmas.Bool.{and_parts}
use Rattle.std.proofs.lemmas.Bool.Decides.{nat_tests}
use Rattle.std.proofs.lemmas.Grind.{flat_map-append}
use Rattle.std.proofs.lemmas.List.{append-nil}
use Rattle.formula_tree.specs.declared.ast.Expr.{Expr}
use Rattle.formula_tree.specs.Tree.{Tree}
use Rattle.formula_tree.specs.Shape.{code_size, has_shape, every, every_one, is_counted, is_fine}
use Rattle.formula_tree.specs.Table.{counts_of, takes}
use Rattle.formula_tree.specs.View.{listed, tree_of}
use Rattle.grid_address.specs.Place.{Place}
use Rattle.wk1_formula.specs.Codes.{Code, function, postfix, postfix_all}
use Rattle.wk1_formula.specs.Reading.{least_of}
use Rattle.wk1_formula.specs.Written.{bytes_of, function_bytes, spelled}
use Rattle.formula_tree.specs.declared.function.Function.{Function}
use Rattle.formula_tree.specs.declared.function.Function.TheVariants as function_named
use Rattle.formula_tree.specs.declared.table.Counts.{Counts}
use Rattle.formula_tree.specs.declared.table.Counts.TheVariants.{Exactly, AtLeast}
use Rattle.formula_tree.proofs.Nodes.{fine_counted, weaker}

-- the nodes of all arguments pass a test where those of each one do
pub every_listed : (test : Tree → Bool) (es : List Expr)
    → list_all (λ e. every test (tree_of e)) es ≡ every_one test (listed (map tree_of es))
every_listed test [] = refl
every_listed test (e ∷ es) = ap (λ b. every test (tree_of e) && b) (every_listed test es)

-- the codes of all arguments are those of each one in their order
pub spelled_listed : (at : Place) (es : List Expr)
    → flat_map (λ e. spelled at (postfix (tree_of e))) es ≡ spelled at (postfix_all (listed (map tree_of es)))
spelled_listed at [] = refl
spelled_listed at (e ∷ es) =
    ap (λ l. spelled at (postfix (tree_of e)) ++ l) (spelled_listed at es)
    ∙ sym (flat_map-append (bytes_of at) (postfix (tree_of e)) (postfix_all (listed (map tree_of es))))

-- where all arguments pass a test, each one does
pub each_passes : (test : Expr → Bool) (es : List Expr) (i : ℕ) (d : Expr) → list_all test es ≡ true → i < length es
    → test (get_or es i d) ≡ true
each_passes test [] i d e h = absurd (omega arith)
each_passes test (x ∷ xs) zero d e h = (and_parts (test x) (list_all test xs) e).0
each_passes test (x ∷ xs) (suc i) d e h =
    each_passes test xs i d (and_parts (test x) (list_all test xs) e).1 (omega (arith, h))

few : (f : Function) → nat_le (least_of (counts_of f)) 255 ≡ true
few function_named.Na = refl
few f = refl

-- no more than 255 are taken
most_taken : (c : Counts) (n : ℕ) → nat_le (least_of c) 255 ≡ true → takes c n ≡ true → n ≤ 255
most_taken (Exactly k) n low e = grind (arith, nat_tests, low, e)
most_taken (AtLeast k) n low e = (let x = and_parts (nat_le k n) (nat_le n 255) e in grind (arith, nat_tests, x.1))

-- no function takes more than 255 arguments
pub few_arguments : (f : Function) (n : ℕ) → takes (counts_of f) n ≡ true → n ≤ 255
few_arguments f n e = most_taken (counts_of f) n (few f) e

-- in a tree that has a formula's shape each function has a number of arguments that it takes
pub shaped_counted : (t : Tree) → has_shape t ≡ true → every is_counted t ≡ true
shaped_counted t e =
    weaker is_fine is_counted fine_counted t (and_parts (every is_fine t) (nat_le (code_size t) 65520) e).0

-- a function's bytes stand behind those of its arguments
pub function_last : (at : Place) (cs : List Code) (f : Function) (n : ℕ)
    → spelled at (cs ++ function f n ∷ []) ≡ spelled at cs ++ function_bytes f n
function_last at cs f n =
    flat_map-append (bytes_of at) cs (function f n ∷ [])
    ∙ ap (λ l. spelled at cs ++ l) (append-nil (function_bytes f n))
