-- The formula that a text spells, or its first fault.
use Rattle.std.specs.Prelude.{ℕ, pos, nat_le, nat_lt, List, [], ◌∷◌, ◌++◌, length, Result, Ok, Err, if◌then◌else◌}
use Rattle.lics_text.specs.Limits.{MAX_LEN}
use Rattle.formula_tree.specs.declared.ast.Op.{Op}
use Rattle.formula_tree.specs.declared.function.Function.{Function as AtFunction}
use Rattle.formula_tree.specs.Shape.{level, lowest}
use Rattle.formula_tree.specs.Tree.{Tree, num, str, cell, span, group, neg, not, binary, call, no_trees}
use Rattle.formula_tree.specs.View.{listed}
use Rattle.grid_address.specs.Place.{Place}
use Rattle.range_names.specs.Names.{NameMap}
use Rattle.formula_text.specs.declared.fault.ParseFault.{ParseFault}
use Rattle.formula_text.specs.declared.fault.ParseFault.TheVariants.{TooLong}
use Rattle.formula_text.specs.Accepts.{operand_first, Verdict}
use Rattle.formula_text.specs.Lexed.{lexed}
use Rattle.formula_text.specs.Tokens.{Token, number, text, place, places, constant, called, opening, closing, comma, front_minus, front_not, infix_op}

-- An operator and its right operand come behind a tree: its left operand is the largest part at the tree's right edge
-- in which nothing binds less tightly.
abbrev pub beside : Op → Tree → Tree → Tree
beside op (num v) x = binary op (num v) x
beside op (str t) x = binary op (str t) x
beside op (cell r) x = binary op (cell r) x
beside op (span a b) x = binary op (span a b) x
beside op (group a) x = binary op (group a) x
beside op (call f ts) x = binary op (call f ts) x
beside op (neg a) x = if nat_le (level op) (lowest (neg a)) then binary op (neg a) x else neg (beside op a x)
beside op (not a) x = if nat_le (level op) (lowest (not a)) then binary op (not a) x else not (beside op a x)
beside op (binary o a b) x =
    if nat_le (level op) (lowest (binary o a b)) then binary op (binary o a b) x else binary o a (beside op b x)

-- An open bracket, or that of a function with its complete arguments: what stands before it makes a tree of its
-- operand.
pub data Open : Type 0 where
  plain : (Tree → Tree) → Open
  function : (Tree → Tree) → AtFunction → List Tree → Open

-- The tree of tokens, where an operand is wanted, of which what stands before makes a tree, or where a tree is there;
-- it is of no account where they are no formula's.
abbrev mutual
  pub wanting : (Tree → Tree) → List Open → List Token → Tree
  wanting front outer (number v ∷ ts) = having (front (num v)) outer ts
  wanting front outer (text t ∷ ts) = having (front (str t)) outer ts
  wanting front outer (place r ∷ ts) = having (front (cell r)) outer ts
  wanting front outer (places a b ∷ ts) = having (front (span a b)) outer ts
  wanting front outer (constant f ∷ ts) = having (front (call f no_trees)) outer ts
  wanting front outer (front_minus ∷ ts) = wanting (λ x. front (neg x)) outer ts
  wanting front outer (front_not ∷ ts) = wanting (λ x. front (not x)) outer ts
  wanting front outer (opening ∷ ts) = wanting (λ x. x) (plain front ∷ outer) ts
  wanting front outer (called f ∷ ts) = wanting (λ x. x) (function front f [] ∷ outer) ts
  wanting front outer _ = num (pos 0)

  pub having : Tree → List Open → List Token → Tree
  having t outer (infix_op op ∷ ts) = wanting (beside op t) outer ts
  having t (function front f us ∷ outer) (comma ∷ ts) = wanting (λ x. x) (function front f (us ++ t ∷ []) ∷ outer) ts
  having t (function front f us ∷ outer) (closing ∷ ts) = having (front (call f (listed (us ++ t ∷ [])))) outer ts
  having t (plain front ∷ outer) (closing ∷ ts) = having (front (group t)) outer ts
  having t outer _ = t

-- the tree of a formula's tokens
abbrev pub tree_of_tokens : List Token → Tree
tree_of_tokens ts = wanting (λ x. x) [] ts

-- the tree of a formula, or its fault
abbrev pub told_tree : Verdict → Result Tree ParseFault
told_tree (Ok ts) = Ok (tree_of_tokens ts)
told_tree (Err f) = Err f

-- what a text spells where it stands in a cell, with these names: past 240 bytes it is too long, else its first fault
-- is told, else its tree
unfoldable pub reading : NameMap → Place → List ℕ → Result Tree ParseFault
reading names at bytes =
    if nat_lt MAX_LEN (length bytes) then Err TooLong
    else told_tree (operand_first (lexed names at 0 0 bytes) [])
