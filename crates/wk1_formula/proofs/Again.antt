-- What is written of a tree is read as the tree.
use Rattle.std.proofs.Common.{◌≡◌, ℕ, ◌+◌, ◌-◌, ◌≤◌, true, false, ◌&&◌, nat_le, nat_lt, List, [], ◌∷◌, ◌++◌, length}
use Rattle.std.proofs.Common.{refl, ap, ◌∙◌, sym, append_assoc, arith, inl, inr, length-append}
use Rattle.std.specs.Prelude.{◌==◌, ℤ, pos, negsuc, nat_abs, Some, Result, Ok}
use Rattle.std.proofs.lemmas.Bool.{and_parts, cases_Bool}
use Rattle.std.proofs.lemmas.Bool.Decides.{nat_tests}
use Rattle.std.proofs.lemmas.Grind.{flat_map-append}
use Rattle.std.proofs.lemmas.List.{append-nil}
use Rattle.grid_address.specs.Place.{InSheet, Place}
use Rattle.formula_tree.specs.Formulas.{formula_of}
use Rattle.formula_tree.specs.Ranges.{is_ranged, is_reference}
use Rattle.formula_tree.specs.Shape.{count, depth, every, every_one, is_bracketed, is_fine, is_short, level, lowest}
use Rattle.formula_tree.specs.Shape.{not_negative, top, code_size, IsFormula}
use Rattle.formula_tree.specs.Table.{call_size, counts_of, takes}
use Rattle.formula_tree.specs.Tree.{Tree, num, str, cell, span, group, neg, not as negation_of, binary, call, Trees}
use Rattle.formula_tree.specs.Tree.{no_trees, trees}
use Rattle.wk1_formula.specs.declared.fault.CodeFault.{CodeFault}
use Rattle.wk1_formula.specs.Kinds.{front_kind, kind_of, operator_of}
use Rattle.wk1_formula.specs.Codes.{Code, number, reference, range, text, brackets, minus, negation, operator, function}
use Rattle.wk1_formula.specs.Codes.{postfix, postfix_all}
use Rattle.wk1_formula.specs.Reading.{codes_in, front_of, size_of, whole, finish}
use Rattle.wk1_formula.specs.Stack.{after, going_on, made, number_tree, tree_in}
use Rattle.wk1_formula.specs.Written.{bytes_of, code_of, function_bytes, number_bytes, spelled}
use Rattle.wk1_formula.proofs.Fronts.{function_front_is, number_front, operator_front_is, range_front_is}
use Rattle.wk1_formula.proofs.Fronts.{reference_front_is, text_front_is}
use Rattle.wk1_formula.proofs.Stacks.{called_piled, piled}
use Rattle.formula_tree.specs.declared.function.Function.{Function}

-- reading goes on at an offset, with this stack
abbrev goes : ℕ → ℕ → List ℕ → List Tree → Result Tree CodeFault
goes size at bytes stack = made size (codes_in 0 at bytes) stack

passed : (bs rest : List ℕ) (at : ℕ) → codes_in (length bs) at (bs ++ rest) ≡ codes_in 0 (at + length bs) rest
passed [] rest at = ap (λ k. codes_in 0 k rest) (let e : at ≡ at + 0 = omega arith in e)
passed (b ∷ bs) rest at =
    passed bs rest (at + 1)
    ∙ ap (λ k. codes_in 0 k rest) (let e : at + 1 + length bs ≡ at + length (b ∷ bs) = omega arith in e)

-- one code that stands whole at the front
one_code : (size at : ℕ) (b : ℕ) (bs rest : List ℕ) (c : Code) (stack next : List Tree)
    → front_of (b ∷ (bs ++ rest)) ≡ whole c (length (b ∷ bs)) → after c stack ≡ Some next
    → goes size at (b ∷ (bs ++ rest)) stack ≡ goes size (at + 1 + length bs) rest next
one_code size at b bs rest c stack next front does =
    let skip : length (b ∷ bs) - 1 ≡ length bs = omega arith in
    let split : codes_in 0 at (b ∷ (bs ++ rest))
    ≡ record { at = at; front = whole c (length (b ∷ bs)) } ∷ codes_in (length bs) (at + 1) (bs ++ rest) =
    ap (λ f. record { at = at; front = f } ∷ codes_in (size_of f - 1) (at + 1) (bs ++ rest)) front
    ∙ ap (λ k. record { at = at; front = whole c (length (b ∷ bs)) } ∷ codes_in k (at + 1) (bs ++ rest)) skip in
    ap (λ ps. made size ps stack) split ∙ ap (going_on at (made size (codes_in (length bs) (at + 1) (bs ++ rest)))) does
    ∙ ap (λ ps. made size ps next) (passed bs rest (at + 1))

one_front : (size at : ℕ) (bytes rest : List ℕ) (c : Code) (stack next : List Tree) → 1 ≤ length bytes
    → front_of (bytes ++ rest) ≡ whole c (length bytes) → after c stack ≡ Some next
    → (k : ℕ) × (goes size at (bytes ++ rest) stack ≡ goes size k rest next)
one_front size at [] rest c stack next some front does = absurd (omega (arith, some))
one_front size at (b ∷ bs) rest c stack next some front does = (
  at + 1 + length bs,
  one_code size at b bs rest c stack next front does,
)

-- reading the bytes of codes makes of one stack another, whatever follows
abbrev Restacks : Place → List Code → List Tree → List Tree → Type 0
Restacks p cs stack next =
    (size at : ℕ) (rest : List ℕ) → (k : ℕ) × (goes size at (spelled p cs ++ rest) stack ≡ goes size k rest next)

both : (p : Place) (cs ds : List Code) (a b c : List Tree) → Restacks p cs a b → Restacks p ds b c
    → Restacks p (cs ++ ds) a c
both p cs ds a b c first second size at rest =
    let x = first size at (spelled p ds ++ rest) in
    let y = second size x.0 rest in
    let split : spelled p (cs ++ ds) ++ rest ≡ spelled p cs ++ (spelled p ds ++ rest) =
    ap (λ l. l ++ rest) (flat_map-append (bytes_of p) cs ds) ∙ append_assoc (spelled p cs) (spelled p ds) rest in
    (y.0, ap (λ bytes. goes size at bytes a) split ∙ x.1 ∙ y.1)

alone : (p : Place) (c : Code) (stack next : List Tree) → 1 ≤ length (bytes_of p c)
    → ((rest : List ℕ) → front_of (bytes_of p c ++ rest) ≡ whole c (length (bytes_of p c))) → after c stack ≡ Some next
    → Restacks p (c ∷ []) stack next
alone p c stack next some front does size at rest =
    let x = one_front size at (bytes_of p c) rest c stack next some (front rest) does in
    (x.0, ap (λ l. goes size at (l ++ rest) stack) (append-nil (bytes_of p c)) ∙ x.1)

some_number : (v : ℤ) → 1 ≤ length (number_bytes v)
some_number v = elim (cases_Bool (is_short v)) [ inl e ↦ rw e (omega arith) | inr e ↦ rw e (omega arith) ]

some_function : (f : Function) (n : ℕ) → 1 ≤ length (function_bytes f n)
some_function f n = elim (cases_Bool (call_size f == 2)) [ inl e ↦ rw e (omega arith) | inr e ↦ rw e (omega arith) ]

number_is : (v : ℤ) → not_negative v ≡ true → number_tree v ≡ num v
number_is (pos n) e = refl
number_is (negsuc n) e = absurd cc

brackets_front : (rest : List ℕ) → front_of (4 ∷ rest) ≡ whole brackets 1
unfolding front_of kind_of operator_of front_kind
brackets_front rest = refl

minus_front : (rest : List ℕ) → front_of (8 ∷ rest) ≡ whole minus 1
unfolding front_of kind_of operator_of front_kind
minus_front rest = refl

negation_front : (rest : List ℕ) → front_of (22 ∷ rest) ≡ whole negation 1
unfolding front_of kind_of operator_of front_kind
negation_front rest = refl

text_long : (t : List ℕ) → length (6 ∷ (t ++ 0 ∷ [])) ≡ length t + 2
text_long t = omega (arith, length-append t (0 ∷ []))

module _ (p : Place) (inside : InSheet p) where
  mutual
    again : (t : Tree) → every is_fine t ≡ true → every is_ranged t ≡ true → (stack : List Tree)
        → Restacks p (postfix t) stack (t ∷ stack)
    again (num v) fine ranged stack =
        let most : nat_abs v ≤ 999999999999999 = grind (arith, nat_tests, ranged) in
        alone p (number v) stack (num v ∷ stack) (some_number v) (λ rest. number_front v rest fine most)
        (ap (λ t. Some (t ∷ stack)) (number_is v fine))
    again (str t) fine ranged stack =
        alone p (text t) stack (str t ∷ stack) (omega arith)
        (λ rest. text_front_is t rest ranged fine ∙ ap (whole (text t)) (sym (text_long t))) refl
    again (cell r) fine ranged stack =
        alone p (reference r) stack (cell r ∷ stack) (omega arith) (λ rest. reference_front_is r p rest ranged inside)
        refl
    again (span a b) fine ranged stack =
        let x = and_parts (is_reference a) (is_reference b) ranged in
        alone p (range a b) stack (span a b ∷ stack) (omega arith) (λ rest. range_front_is a b p rest x.0 x.1 inside)
        refl
    again (group a) fine ranged stack =
        both p (postfix a) (brackets ∷ []) stack (a ∷ stack) (group a ∷ stack) (again a fine ranged stack)
        (alone p brackets (a ∷ stack) (group a ∷ stack) (omega arith) brackets_front refl)
    again (neg a) fine ranged stack =
        let x = and_parts (is_fine (neg a)) (every is_fine a) fine in
        let apart = (and_parts (nat_lt 6 (top a)) true x.0).0 in
        both p (postfix a) (minus ∷ []) stack (a ∷ stack) (neg a ∷ stack) (again a x.1 ranged stack)
        (alone p minus (a ∷ stack) (neg a ∷ stack) (omega arith) minus_front (rw apart refl))
    again (negation_of a) fine ranged stack =
        let x = and_parts (is_fine (negation_of a)) (every is_fine a) fine in
        let apart = (and_parts (nat_lt 2 (top a)) true x.0).0 in
        both p (postfix a) (negation ∷ []) stack (a ∷ stack) (negation_of a ∷ stack) (again a x.1 ranged stack)
        (alone p negation (a ∷ stack) (negation_of a ∷ stack) (omega arith) negation_front (rw apart refl))
    again (binary op a b) fine ranged stack =
        let x = and_parts (is_fine (binary op a b)) (every is_fine a && every is_fine b) fine in
        let y = and_parts (every is_fine a) (every is_fine b) x.1 in
        let r = and_parts (every is_ranged a) (every is_ranged b) ranged in
        let bracketed =
        and_parts (nat_le (level op) (lowest a)) (nat_lt (level op) (top b))
        (and_parts (is_bracketed (binary op a b)) true x.0).0 in
        both p (postfix a) (postfix b ++ operator op ∷ []) stack (a ∷ stack) (binary op a b ∷ stack)
        (again a y.0 r.0 stack)
        (both p (postfix b) (operator op ∷ []) (a ∷ stack) (b ∷ a ∷ stack) (binary op a b ∷ stack)
        (again b y.1 r.1 (a ∷ stack))
        (alone p (operator op) (b ∷ a ∷ stack) (binary op a b ∷ stack) (omega arith) (λ rest. operator_front_is op rest)
        (rw (bracketed.0, bracketed.1) refl)))
    again (call f ts) fine ranged stack =
        let x = and_parts (is_fine (call f ts)) (every_one is_fine ts) fine in
        let taken : takes (counts_of f) (count ts) ≡ true = (and_parts (takes (counts_of f) (count ts)) true x.0).0 in
        both p (postfix_all ts) (function f (count ts) ∷ []) stack (piled ts stack) (call f ts ∷ stack)
        (again_all ts x.1 ranged stack) (alone p (function f (count ts)) (piled ts stack) (call f ts ∷ stack)
        (some_function f (count ts)) (λ rest. function_front_is f (count ts) rest taken) (called_piled f ts stack))

    again_all : (ts : Trees) → every_one is_fine ts ≡ true → every_one is_ranged ts ≡ true → (stack : List Tree)
        → Restacks p (postfix_all ts) stack (piled ts stack)
    again_all no_trees fine ranged stack = λ size at rest. (at, refl)
    again_all (trees t ts) fine ranged stack =
        let x = and_parts (every is_fine t) (every_one is_fine ts) fine in
        let r = and_parts (every is_ranged t) (every_one is_ranged ts) ranged in
        both p (postfix t) (postfix_all ts) stack (t ∷ stack) (piled ts (t ∷ stack)) (again t x.0 r.0 stack)
        (again_all ts x.1 r.1 (t ∷ stack))

formula_is : (t : Tree) → IsFormula t → formula_of t ≡ Ok t
formula_is t f =
    (let shallow : nat_lt 256 (depth t) ≡ false = grind (arith, nat_tests, f.shallow) in rw (f.shaped, shallow) refl)

finish_front : (rest : List ℕ) → front_of (3 ∷ rest) ≡ finish
unfolding front_of kind_of operator_of front_kind
finish_front rest = refl

at_finish : (size k : ℕ) (t : Tree) → IsFormula t → goes size k (3 ∷ []) (t ∷ []) ≡ Ok t
at_finish size k t f = rw (finish_front [], formula_is t f) refl

-- what is written of a formula's tree in a cell is read back as the tree
pub code_read : (t : Tree) (at : Place) → IsFormula t → every is_ranged t ≡ true → InSheet at
    → tree_in (code_of t at) ≡ Ok t
code_read t at f ranged inside =
    let fine = (and_parts (every is_fine t) (nat_le (code_size t) 65520) f.shaped).0 in
    let x = again at inside t fine ranged [] (length (code_of t at)) 0 (3 ∷ []) in
    x.1 ∙ at_finish (length (code_of t at)) x.0 t f
