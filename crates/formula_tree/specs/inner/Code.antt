-- A tree is told from another by its code. Nothing else reads it.
--
-- What the codes lead back to, and that each leads back to what it is of, stands here and not among the proofs: the
-- record of the code holds the proof that no two trees have one code, and the view of a formula names the record.
use Rattle.std.specs.Prelude.{◌≡◌, ℕ, zero, suc, ℤ, pos, negsuc, List, [], ◌∷◌, get_or, refl}
use Rattle.std.specs.Coded.{Coded}
use mathlib.Core.Path.{sym, ◌∙◌, ap}
use base.Stored.{Gv, gnil, gnum, gcons}
use Rattle.grid_address.specs.declared.reference.Axis.{Axis}
use Rattle.grid_address.specs.declared.reference.Axis.TheVariants.{Fixed, Offset}
use Rattle.grid_address.specs.Axes.{Reference}
use Rattle.formula_tree.specs.declared.ast.Op.{Op}
use Rattle.formula_tree.specs.declared.ast.Op.TheVariants.{Pow, Mul, Div, Add, Sub, Eq, Ne, Lt, Gt, Le, Ge, And, Or, Join}
use Rattle.formula_tree.specs.declared.function.Function.{Function}
use Rattle.formula_tree.specs.declared.function.Function.TheVariants as function
use Rattle.formula_tree.specs.Table.{functions}
use Rattle.formula_tree.specs.Tree.{Tree, num, str, cell, span, group, neg, not, binary, call, Trees, no_trees, trees}

-- a number by its sign, and by how far it lies from 0, or from -1 where it is negative
abbrev z_code : ℤ → Gv
z_code (pos n) = gcons (gnum 0) (gnum n)
z_code (negsuc n) = gcons (gnum 1) (gnum n)

-- the number of a code; 0 where it is no number's
abbrev z_of : Gv → ℤ
z_of (gcons (gnum zero) (gnum n)) = pos n
z_of (gcons (gnum (suc k)) (gnum n)) = negsuc n
z_of _ = pos 0

-- a number's code is of that number alone
z_back : (z : ℤ) → z_of (z_code z) ≡ z
z_back (pos n) = refl
z_back (negsuc n) = refl

-- a text byte by byte, with an end behind the last
abbrev bytes_code : List ℕ → Gv
bytes_code [] = gnil
bytes_code (b ∷ bs) = gcons (gnum b) (bytes_code bs)

-- the text of a code, as far as the code is a text's
abbrev bytes_of : Gv → List ℕ
bytes_of (gcons (gnum b) g) = b ∷ bytes_of g
bytes_of _ = []

-- a text's code is of that text alone
bytes_back : (bs : List ℕ) → bytes_of (bytes_code bs) ≡ bs
bytes_back [] = refl
bytes_back (b ∷ bs) = ap (λ l. b ∷ l) (bytes_back bs)

-- a coordinate by whether it moves with its formula, and by its number
abbrev axis_code : Axis → Gv
axis_code (Fixed n) = gcons (gnum 0) (gnum n)
axis_code (Offset n) = gcons (gnum 1) (gnum n)

-- the coordinate of a code; the first column or row where it is none's
abbrev axis_of : Gv → Axis
axis_of (gcons (gnum zero) (gnum n)) = Fixed n
axis_of (gcons (gnum (suc k)) (gnum n)) = Offset n
axis_of _ = Fixed 0

-- a coordinate's code is of that coordinate alone
axis_back : (a : Axis) → axis_of (axis_code a) ≡ a
axis_back (Fixed n) = refl
axis_back (Offset n) = refl

-- a reference by its column, then its row
abbrev ref_code : Reference → Gv
ref_code r = gcons (axis_code r.col) (axis_code r.row)

-- the reference of a code; $A$1 where it is none's
abbrev ref_of : Gv → Reference
ref_of (gcons a b) = record { col = axis_of a; row = axis_of b }
ref_of _ = record { col = Fixed 0; row = Fixed 0 }

-- a reference's code is of that reference alone
ref_back : (r : Reference) → ref_of (ref_code r) ≡ r
ref_back r = λ i. record { col = axis_back r.col i; row = axis_back r.row i }

-- an operator by its place among all
abbrev op_code : Op → ℕ
op_code Pow = 0
op_code Mul = 1
op_code Div = 2
op_code Add = 3
op_code Sub = 4
op_code Eq = 5
op_code Ne = 6
op_code Lt = 7
op_code Gt = 8
op_code Le = 9
op_code Ge = 10
op_code And = 11
op_code Or = 12
op_code Join = 13

-- the operator at a place; the last of them for each place behind
abbrev op_of : Gv → Op
op_of (gnum zero) = Pow
op_of (gnum (suc zero)) = Mul
op_of (gnum (suc (suc zero))) = Div
op_of (gnum (suc (suc (suc zero)))) = Add
op_of (gnum (suc (suc (suc (suc zero))))) = Sub
op_of (gnum (suc (suc (suc (suc (suc zero)))))) = Eq
op_of (gnum (suc (suc (suc (suc (suc (suc zero))))))) = Ne
op_of (gnum (suc (suc (suc (suc (suc (suc (suc zero)))))))) = Lt
op_of (gnum (suc (suc (suc (suc (suc (suc (suc (suc zero))))))))) = Gt
op_of (gnum (suc (suc (suc (suc (suc (suc (suc (suc (suc zero)))))))))) = Le
op_of (gnum (suc (suc (suc (suc (suc (suc (suc (suc (suc (suc zero))))))))))) = Ge
op_of (gnum (suc (suc (suc (suc (suc (suc (suc (suc (suc (suc (suc zero)))))))))))) = And
op_of (gnum (suc (suc (suc (suc (suc (suc (suc (suc (suc (suc (suc (suc zero))))))))))))) = Or
op_of _ = Join

-- an operator's place is its alone
op_back : (o : Op) → op_of (gnum (op_code o)) ≡ o
op_back Pow = refl
op_back Mul = refl
op_back Div = refl
op_back Add = refl
op_back Sub = refl
op_back Eq = refl
op_back Ne = refl
op_back Lt = refl
op_back Gt = refl
op_back Le = refl
op_back Ge = refl
op_back And = refl
op_back Or = refl
op_back Join = refl

-- a function by its place among all
abbrev function_code : Function → ℕ
function_code function.Na = 0
function_code function.Err = 1
function_code function.Abs = 2
function_code function.Int = 3
function_code function.Mod = 4
function_code function.Choose = 5
function_code function.IsNa = 6
function_code function.IsErr = 7
function_code function.False = 8
function_code function.True = 9
function_code function.Date = 10
function_code function.Now = 11
function_code function.If = 12
function_code function.Day = 13
function_code function.Month = 14
function_code function.Year = 15
function_code function.Round = 16
function_code function.Time = 17
function_code function.Hour = 18
function_code function.Minute = 19
function_code function.Second = 20
function_code function.IsNumber = 21
function_code function.IsString = 22
function_code function.Length = 23
function_code function.Value = 24
function_code function.String = 25
function_code function.Mid = 26
function_code function.Char = 27
function_code function.Code = 28
function_code function.Find = 29
function_code function.DateValue = 30
function_code function.TimeValue = 31
function_code function.CellPointer = 32
function_code function.Sum = 33
function_code function.Avg = 34
function_code function.Count = 35
function_code function.Min = 36
function_code function.Max = 37
function_code function.VLookup = 38
function_code function.HLookup = 39
function_code function.DSum = 40
function_code function.DAvg = 41
function_code function.DCount = 42
function_code function.DMin = 43
function_code function.DMax = 44
function_code function.Index = 45
function_code function.Cols = 46
function_code function.Rows = 47
function_code function.Repeat = 48
function_code function.Upper = 49
function_code function.Lower = 50
function_code function.Left = 51
function_code function.Right = 52
function_code function.Replace = 53
function_code function.Proper = 54
function_code function.Cell = 55
function_code function.Trim = 56
function_code function.Clean = 57
function_code function.Exact = 58
function_code function.Pointed = 59

-- the function at a place; @NA for each place behind the last
abbrev function_from : ℕ → Function
function_from n = get_or functions n function.Na

-- a function's place is its alone
function_back : (f : Function) → function_from (function_code f) ≡ f
function_back function.Na = refl
function_back function.Err = refl
function_back function.Abs = refl
function_back function.Int = refl
function_back function.Mod = refl
function_back function.Choose = refl
function_back function.IsNa = refl
function_back function.IsErr = refl
function_back function.False = refl
function_back function.True = refl
function_back function.Date = refl
function_back function.Now = refl
function_back function.If = refl
function_back function.Day = refl
function_back function.Month = refl
function_back function.Year = refl
function_back function.Round = refl
function_back function.Time = refl
function_back function.Hour = refl
function_back function.Minute = refl
function_back function.Second = refl
function_back function.IsNumber = refl
function_back function.IsString = refl
function_back function.Length = refl
function_back function.Value = refl
function_back function.String = refl
function_back function.Mid = refl
function_back function.Char = refl
function_back function.Code = refl
function_back function.Find = refl
function_back function.DateValue = refl
function_back function.TimeValue = refl
function_back function.CellPointer = refl
function_back function.Sum = refl
function_back function.Avg = refl
function_back function.Count = refl
function_back function.Min = refl
function_back function.Max = refl
function_back function.VLookup = refl
function_back function.HLookup = refl
function_back function.DSum = refl
function_back function.DAvg = refl
function_back function.DCount = refl
function_back function.DMin = refl
function_back function.DMax = refl
function_back function.Index = refl
function_back function.Cols = refl
function_back function.Rows = refl
function_back function.Repeat = refl
function_back function.Upper = refl
function_back function.Lower = refl
function_back function.Left = refl
function_back function.Right = refl
function_back function.Replace = refl
function_back function.Proper = refl
function_back function.Cell = refl
function_back function.Trim = refl
function_back function.Clean = refl
function_back function.Exact = refl
function_back function.Pointed = refl

-- a tree by what stands at its top, then its parts; operators and functions stand apart from all other tops
abbrev mutual
  pub tree_code : Tree → Gv
  tree_code (num z) = gcons (gnum 0) (z_code z)
  tree_code (str t) = gcons (gnum 1) (bytes_code t)
  tree_code (cell r) = gcons (gnum 2) (ref_code r)
  tree_code (span a b) = gcons (gnum 3) (gcons (ref_code a) (ref_code b))
  tree_code (group a) = gcons (gnum 4) (tree_code a)
  tree_code (neg a) = gcons (gnum 5) (tree_code a)
  tree_code (not a) = gcons (gnum 6) (tree_code a)
  tree_code (binary o a b) = gcons (gcons gnil (gnum (op_code o))) (gcons (tree_code a) (tree_code b))
  tree_code (call f ts) = gcons (gcons (gnum (function_code f)) gnil) (trees_code ts)

  pub trees_code : Trees → Gv
  trees_code no_trees = gnil
  trees_code (trees a ts) = gcons (tree_code a) (trees_code ts)

-- the tree of a code; 0 where it is no tree's
abbrev mutual
  pub tree_from : Gv → Tree
  tree_from (gcons (gnum zero) g) = num (z_of g)
  tree_from (gcons (gnum (suc zero)) g) = str (bytes_of g)
  tree_from (gcons (gnum (suc (suc zero))) g) = cell (ref_of g)
  tree_from (gcons (gnum (suc (suc (suc zero)))) (gcons a b)) = span (ref_of a) (ref_of b)
  tree_from (gcons (gnum (suc (suc (suc (suc zero))))) g) = group (tree_from g)
  tree_from (gcons (gnum (suc (suc (suc (suc (suc zero)))))) g) = neg (tree_from g)
  tree_from (gcons (gnum (suc (suc (suc (suc (suc (suc n))))))) g) = not (tree_from g)
  tree_from (gcons (gcons gnil o) (gcons a b)) = binary (op_of o) (tree_from a) (tree_from b)
  tree_from (gcons (gcons (gnum f) g) ts) = call (function_from f) (trees_from ts)
  tree_from _ = num (pos 0)

  pub trees_from : Gv → Trees
  trees_from (gcons a ts) = trees (tree_from a) (trees_from ts)
  trees_from _ = no_trees

-- a tree's code is of that tree alone
mutual
  pub tree_back : (t : Tree) → tree_from (tree_code t) ≡ t
  tree_back (num z) = ap num (z_back z)
  tree_back (str t) = ap str (bytes_back t)
  tree_back (cell r) = ap cell (ref_back r)
  tree_back (span a b) = λ i. span (ref_back a i) (ref_back b i)
  tree_back (group a) = ap group (tree_back a)
  tree_back (neg a) = ap neg (tree_back a)
  tree_back (not a) = ap not (tree_back a)
  tree_back (binary o a b) = λ i. binary (op_back o i) (tree_back a i) (tree_back b i)
  tree_back (call f ts) = λ i. call (function_back f i) (trees_back ts i)

  pub trees_back : (ts : Trees) → trees_from (trees_code ts) ≡ ts
  trees_back no_trees = refl
  trees_back (trees a ts) = λ i. trees (tree_back a i) (trees_back ts i)

-- trees by their codes
abbrev pub coded_tree : Coded Tree
coded_tree = record { code = tree_code; inj = λ x y e. sym (tree_back x) ∙ ap tree_from e ∙ tree_back y }
