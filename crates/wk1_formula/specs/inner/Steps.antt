-- How the program's stack follows the stack of trees.
use Rattle.std.specs.Prelude.{ℕ, ◌≡◌, ◌≤◌, Bool, true, false, Some, None, List, ⊤}
use Rattle.formula_tree.specs.Table.{counts_of, takes}
use Rattle.formula_tree.specs.Tree.{Tree}
use Rattle.wk1_formula.specs.Codes.{Code, number, error, missing, reference, range, text, brackets, minus, plus, negation, operator, function}
use Rattle.wk1_formula.specs.inner.Items.{AreItems}
use Rattle.wk1_formula.specs.Reading.{is_formula_text, Front, whole, finish, faulty, left_out, too_large}
use Rattle.wk1_formula.specs.Stack.{after, front_operand}
use Rattle.wk1_formula.specs.declared.item.Item.{Item}
use Rattle.wk1_formula.specs.declared.item.One.{One}
use Rattle.wk1_formula.specs.declared.item.One.TheVariants.{Group, Neg, Not}

-- what a code that is read keeps
abbrev pub is_sound : Code → Bool
is_sound (number v) = true
is_sound error = true
is_sound missing = true
is_sound (reference r) = true
is_sound (range a b) = true
is_sound (text t) = is_formula_text t
is_sound brackets = true
is_sound minus = true
is_sound plus = true
is_sound negation = true
is_sound (operator op) = true
is_sound (function f n) = takes (counts_of f) n

-- a code lies within the bytes
abbrev pub IsSound : Front → ℕ → Type 0
IsSound (whole c n) len = (is_sound c ≡ true) × (1 ≤ n) × (n ≤ len)
IsSound finish len = ⊤
IsSound faulty len = ⊤
IsSound (left_out f) len = ⊤
IsSound too_large len = ⊤

-- the code of what stands over one operand
abbrev pub code_over : One → Code
code_over Group = brackets
code_over Neg = minus
code_over Not = negation

-- an operand with the bracket that it needs under a minus or a NOT
abbrev pub held : One → Tree → Tree
held Group t = t
held Neg t = front_operand 6 t
held Not t = front_operand 2 t

-- the stack, of which the last stands first, went on with a code, or lacks operands
abbrev pub HasStepped : Code → Bool → List Item → List Tree → Type 0
HasStepped c true now ts = (us : List Tree) × (after c ts ≡ Some us) × AreItems now us
HasStepped c false now ts = after c ts ≡ None
