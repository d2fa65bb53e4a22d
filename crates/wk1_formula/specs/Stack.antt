-- What codes make of trees. The trees that wait for an operator, a function or a bracket are a stack, of which the last
-- stands first.
use Rattle.std.specs.Prelude.{ℕ, suc, ◌≡◌, ℤ, pos, negsuc, Option, Some, None, Result, Ok, Err, List, [], ◌∷◌, length, take, drop, reverse, nat_le, nat_lt, if◌then◌else◌, ⊤}
use Rattle.formula_tree.specs.Formulas.{formula_of}
use Rattle.formula_tree.specs.Shape.{level, lowest, top}
use Rattle.formula_tree.specs.Tree.{Tree, num, str, cell, span, group, neg, not, binary, call, no_trees}
use Rattle.formula_tree.specs.View.{listed}
use Rattle.formula_tree.specs.declared.ast.Op.{Op}
use Rattle.formula_tree.specs.declared.function.Function.{Function}
use Rattle.formula_tree.specs.declared.function.Function.TheVariants as named
use Rattle.formula_tree.specs.declared.formula.TreeFault.{TreeFault}
use Rattle.formula_tree.specs.declared.formula.TreeFault.TheVariants as tree
use Rattle.wk1_formula.specs.Codes.{Code, number, error, missing, reference, range, text, brackets, minus, plus, negation, operator, function}
use Rattle.wk1_formula.specs.Reading.{codes_in, Front, Placed, whole, finish, faulty, left_out, too_large}
use Rattle.wk1_formula.specs.declared.fault.CodeFault.{CodeFault}
use Rattle.wk1_formula.specs.declared.fault.CodeFault.TheVariants.{Bad, Outside, TooDeep, TooLarge, Memory}

-- a negative number is a minus in front of its size
abbrev pub number_tree : ℤ → Tree
number_tree (pos n) = num (pos n)
number_tree (negsuc n) = neg (num (pos (suc n)))

-- one bracket round an operand that would break well-bracketing where it stands
abbrev pub front_operand : ℕ → Tree → Tree
front_operand least a = if nat_lt least (top a) then a else group a

-- a left operand holds no operator of a lower level on its right edge
abbrev pub left_operand : Op → Tree → Tree
left_operand op a = if nat_le (level op) (lowest a) then a else group a

-- a right operand is of a higher level
abbrev pub right_operand : Op → Tree → Tree
right_operand op b = if nat_lt (level op) (top b) then b else group b

-- the last tree with something over it
abbrev pub over_one : (Tree → Tree) → List Tree → Option (List Tree)
over_one f [] = None
over_one f (a ∷ stack) = Some (f a ∷ stack)

-- the last two trees with an operator between them
abbrev pub over_two : (Tree → Tree → Tree) → List Tree → Option (List Tree)
over_two f (b ∷ a ∷ stack) = Some (f a b ∷ stack)
over_two f _ = None

-- a function takes its arguments from the stack
abbrev pub called : Function → ℕ → List Tree → Option (List Tree)
called f n stack =
    if nat_le n (length stack) then Some (call f (listed (reverse (take n stack))) ∷ drop n stack) else None

-- the stack after a code; none where operands are lacking
abbrev pub after : Code → List Tree → Option (List Tree)
after (number v) stack = Some (number_tree v ∷ stack)
after error stack = Some (call named.Err no_trees ∷ stack)
after missing stack = Some (call named.Na no_trees ∷ stack)
after (reference r) stack = Some (cell r ∷ stack)
after (range a b) stack = Some (span a b ∷ stack)
after (text t) stack = Some (str t ∷ stack)
after brackets stack = over_one group stack
after minus stack = over_one (λ a. neg (front_operand 6 a)) stack
after plus stack = over_one (λ a. a) stack
after negation stack = over_one (λ a. not (front_operand 2 a)) stack
after (operator op) stack = over_two (λ a b. binary op (left_operand op a) (right_operand op b)) stack
after (function f n) stack = called f n stack

-- a tree that is too large for a formula is a fault of the 03; depth is one where nothing else is
abbrev pub ended : ℕ → Result Tree TreeFault → Result Tree CodeFault
ended at (Ok t) = Ok t
ended at (Err tree.TooDeep) = Err TooDeep
ended at (Err tree.BadShape) = Err (Bad at)
ended at (Err tree.Memory) = Err (Bad at)

-- at the 03 exactly one tree is left
abbrev pub at_end : ℕ → List Tree → Result Tree CodeFault
at_end at (t ∷ []) = ended at (formula_of t)
at_end at _ = Err (Bad at)

-- the rest of the codes, unless operands are lacking
abbrev pub going_on : ℕ → (List Tree → Result Tree CodeFault) → Option (List Tree) → Result Tree CodeFault
going_on at rest None = Err (Bad at)
going_on at rest (Some stack) = rest stack

-- what one front makes, and then the rest
abbrev pub made_by : ℕ → Front → (List Tree → Result Tree CodeFault) → List Tree → Result Tree CodeFault
made_by at (whole c n) rest stack = going_on at rest (after c stack)
made_by at finish rest stack = at_end at stack
made_by at faulty rest stack = Err (Bad at)
made_by at (left_out f) rest stack = Err (Outside f)
made_by at too_large rest stack = Err TooLarge

-- the tree that codes make, or the first fault; where no 03 comes it is at the end of the bytes
abbrev pub made : ℕ → List Placed → List Tree → Result Tree CodeFault
made size [] stack = Err (Bad size)
made size (p ∷ ps) stack = made_by p.at p.front (made size ps) stack

-- the tree of the code in bytes, or the fault
abbrev pub tree_in : List ℕ → Result Tree CodeFault
tree_in bytes = made (length bytes) (codes_in 0 0 bytes) []

-- the answer is the one that is defined, unless memory ran out
abbrev pub Gives : Result Tree CodeFault → Result Tree CodeFault → Type 0
Gives (Ok t) made = made ≡ Ok t
Gives (Err Memory) made = ⊤
Gives (Err (Bad at)) made = made ≡ Err (Bad at)
Gives (Err (Outside f)) made = made ≡ Err (Outside f)
Gives (Err TooDeep) made = made ≡ Err TooDeep
Gives (Err TooLarge) made = made ≡ Err TooLarge
