-- The shape of a tree.
use Rattle.std.specs.Prelude.{ℕ, ◌+◌, ◌≤◌, ◌≡◌, max, min, ℤ, pos, negsuc, nat_abs, ◌%◌, ◌==◌, Bool, true, false, not, ◌&&◌, nat_le, nat_lt, List, length, if◌then◌else◌}
use Rattle.std.specs.List.{list_any}
use Rattle.lics_text.specs.Ascii as ascii
use Rattle.formula_tree.specs.declared.ast.Op.{Op}
use Rattle.formula_tree.specs.declared.ast.Op.TheVariants.{Pow, Mul, Div, Add, Sub, Eq, Ne, Lt, Gt, Le, Ge, And, Or, Join}
use Rattle.formula_tree.specs.Table.{call_size, counts_of, takes}
use Rattle.formula_tree.specs.Tree.{Tree, num, str, cell, span, group, neg, not as negation, binary, call, Trees, no_trees, trees}

-- how deep a tree is
abbrev mutual
  pub depth : Tree → ℕ
  depth (group a) = 1 + depth a
  depth (neg a) = 1 + depth a
  depth (negation a) = 1 + depth a
  depth (binary op a b) = 1 + max (depth a) (depth b)
  depth (call f args) = 1 + greatest_depth args
  depth _ = 1

  pub greatest_depth : Trees → ℕ
  greatest_depth no_trees = 0
  greatest_depth (trees e rest) = max (depth e) (greatest_depth rest)

-- how tightly an operator binds
abbrev pub level : Op → ℕ
level Pow = 7
level Mul = 5
level Div = 5
level Add = 4
level Sub = 4
level Eq = 3
level Ne = 3
level Lt = 3
level Gt = 3
level Le = 3
level Ge = 3
level And = 1
level Or = 1
level Join = 1

-- the level of the operator at the top, or 8
abbrev pub top : Tree → ℕ
top (binary op a b) = level op
top _ = 8

-- the least level on the right edge, or 8: the operator, then its right operand and so on; brackets and calls end it
abbrev pub lowest : Tree → ℕ
lowest (neg a) = min (lowest a) 6
lowest (negation a) = min (lowest a) 2
lowest (binary op a b) = min (lowest b) (level op)
lowest _ = 8

-- whether no operator takes what an operator beside it should have
abbrev pub is_bracketed : Tree → Bool
is_bracketed (neg a) = nat_lt 6 (top a)
is_bracketed (negation a) = nat_lt 2 (top a)
is_bracketed (binary op a b) = nat_le (level op) (lowest a) && nat_lt (level op) (top b)
is_bracketed _ = true

-- how many arguments a call has
abbrev pub count : Trees → ℕ
count no_trees = 0
count (trees t ts) = 1 + count ts

-- whether a call has a number of arguments that its function takes
abbrev pub is_counted : Tree → Bool
is_counted (call f ts) = takes (counts_of f) (count ts)
is_counted _ = true

-- a number that needs no minus: a minus is an operator of the tree
abbrev pub not_negative : ℤ → Bool
not_negative (pos n) = true
not_negative (negsuc n) = false

-- a text that can stand between two quotes as it is
abbrev pub has_no_quote : List ℕ → Bool
has_no_quote t = not (list_any (λ b. b == ascii.quote) t)

-- whether a number isn't negative, and a text holds no quote
abbrev pub is_plain : Tree → Bool
is_plain (num v) = not_negative v
is_plain (str t) = has_no_quote t
is_plain _ = true

-- a node that fits what stands beside and below it
abbrev pub is_fine : Tree → Bool
is_fine t = is_bracketed t && (is_counted t && is_plain t)

-- whether each node of a tree passes a test
abbrev mutual
  pub every : (Tree → Bool) → Tree → Bool
  every test (num v) = test (num v)
  every test (str t) = test (str t)
  every test (cell r) = test (cell r)
  every test (span a b) = test (span a b)
  every test (group a) = test (group a) && every test a
  every test (neg a) = test (neg a) && every test a
  every test (negation a) = test (negation a) && every test a
  every test (binary op a b) = test (binary op a b) && (every test a && every test b)
  every test (call f ts) = test (call f ts) && every_one test ts

  pub every_one : (Tree → Bool) → Trees → Bool
  every_one test no_trees = true
  every_one test (trees t ts) = every test t && every_one test ts

-- a whole number of at most 32767
abbrev pub is_short : ℤ → Bool
is_short v = (nat_abs v % 1000000 == 0) && nat_le (nat_abs v) 32767000000

-- what a node takes of the code of a formula
abbrev pub node_size : Tree → ℕ
node_size (num v) = if is_short v then 3 else 9
node_size (str t) = length t + 2
node_size (cell r) = 5
node_size (span a b) = 9
node_size (call f ts) = call_size f
node_size _ = 1

-- what the nodes take
abbrev mutual
  pub nodes_size : Tree → ℕ
  nodes_size (num v) = node_size (num v)
  nodes_size (str t) = node_size (str t)
  nodes_size (cell r) = node_size (cell r)
  nodes_size (span a b) = node_size (span a b)
  nodes_size (group a) = node_size (group a) + nodes_size a
  nodes_size (neg a) = node_size (neg a) + nodes_size a
  nodes_size (negation a) = node_size (negation a) + nodes_size a
  nodes_size (binary op a b) = node_size (binary op a b) + (nodes_size a + nodes_size b)
  nodes_size (call f ts) = node_size (call f ts) + all_sizes ts

  pub all_sizes : Trees → ℕ
  all_sizes no_trees = 0
  all_sizes (trees t ts) = nodes_size t + all_sizes ts

-- the bytes of code: one for the whole, and those of the nodes
abbrev pub code_size : Tree → ℕ
code_size t = 1 + nodes_size t

-- each node is fine, and a cell's record has room for the code (worksheet file format)
abbrev pub has_shape : Tree → Bool
has_shape t = every is_fine t && nat_le (code_size t) 65520

-- what a formula's tree keeps
pub record IsFormula (t : Tree) : Type 0 where
  pub shallow : depth t ≤ 256
  pub shaped : has_shape t ≡ true
