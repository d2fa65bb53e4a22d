-- The text of a tree.
use Rattle.std.specs.Char.{is_ascii_alphabetic}
use Rattle.std.specs.Prelude.{ℕ, ◌+◌, ◌==◌, ◌&&◌, ◌||◌, not, nat_le, Bool, true, false, Option, Some, None, List, [], ◌∷◌, ◌++◌, length, take, codes, if◌then◌else◌}
use Rattle.lics_text.specs.Ascii as ascii
use Rattle.lics_text.specs.Limits.{MAX_LEN}
use Rattle.fixed_value.specs.Written.{short}
use Rattle.grid_address.specs.Address.{column_name, decimal}
use Rattle.grid_address.specs.Axes.{is_fixed, Reference}
use Rattle.grid_address.specs.Leads.{resolve}
use Rattle.grid_address.specs.Place.{same_place, spanned, Place}
use Rattle.range_names.specs.Names.{name_of_span, NameMap}
use Rattle.formula_tree.specs.declared.ast.Op.{Op}
use Rattle.formula_tree.specs.declared.ast.Op.TheVariants.{Pow, Mul, Div, Add, Sub, Eq, Ne, Lt, Gt, Le, Ge, And, Or, Join}
use Rattle.formula_tree.specs.Tree.{Tree, num, str, cell, span, group, neg, not as negation, binary, call, Trees, no_trees, trees}
use Rattle.formula_text.specs.Functions.{name_of}
use Rattle.formula_text.specs.declared.output.Output.{Output}

-- $ in front of a fixed coordinate
abbrev pub mark : Bool → List ℕ
mark true = ascii.dollar ∷ []
mark false = []

-- both are true, or both false
abbrev pub same : Bool → Bool → Bool
same true b = b
same false b = not b

-- the address of a reference where it stands in a cell
abbrev pub reference_text : Place → Reference → List ℕ
reference_text at r =
    mark (is_fixed r.col)
    ++ (column_name (resolve r at).col ++ (mark (is_fixed r.row) ++ decimal ((resolve r at).row + 1)))

-- whether all coordinates are absolute, or all relative
abbrev pub alike : Reference → Reference → Bool
alike a b =
    same (is_fixed a.row) (is_fixed a.col)
    && (same (is_fixed b.col) (is_fixed a.col) && same (is_fixed b.row) (is_fixed a.col))

-- the name of the cell that a reference leads to, where its coordinates are alike
abbrev pub name_of_cell : NameMap → Place → Reference → Option (List ℕ)
name_of_cell names at r = if alike r r then name_of_span names (spanned (resolve r at) (resolve r at)) else None

-- more than one cell, and the first corner at the top left
abbrev pub in_order : Place → Place → Bool
in_order p q = nat_le p.row q.row && (nat_le p.col q.col && not (same_place p q))

-- the name of the span between two corners, where all coordinates are alike and the corners in order
abbrev pub name_of_corners : NameMap → Place → Reference → Reference → Option (List ℕ)
name_of_corners names at a b =
    if alike a b && in_order (resolve a at) (resolve b at)
    then name_of_span names (spanned (resolve a at) (resolve b at)) else None

-- a name, with $ in front where it stands for an absolute place
abbrev pub named_or : Bool → List ℕ → Option (List ℕ) → List ℕ
named_or fixed plain None = plain
named_or fixed plain (Some name) = mark fixed ++ name

-- a reference to a cell: its name, or else its address
abbrev pub cell_text : NameMap → Place → Reference → List ℕ
cell_text names at r = named_or (is_fixed r.col) (reference_text at r) (name_of_cell names at r)

-- a span: its name, or else the addresses of its corners
abbrev pub span_text : NameMap → Place → Reference → Reference → List ℕ
span_text names at a b =
    named_or (is_fixed a.col) (reference_text at a ++ (codes ".." ++ reference_text at b))
    (name_of_corners names at a b)

-- how an operator is written
abbrev pub op_text : Op → List ℕ
op_text Pow = codes "^"
op_text Mul = codes "*"
op_text Div = codes "/"
op_text Add = codes "+"
op_text Sub = codes "-"
op_text Eq = codes "="
op_text Ne = codes "<>"
op_text Lt = codes "<"
op_text Gt = codes ">"
op_text Le = codes "<="
op_text Ge = codes ">="
op_text And = codes "#AND#"
op_text Or = codes "#OR#"
op_text Join = codes "&"

-- the text of a tree where it stands in a cell, with these names
abbrev mutual
  pub text_of : NameMap → Place → Tree → List ℕ
  text_of names at (num v) = short v 6
  text_of names at (str t) = codes "\"" ++ (t ++ codes "\"")
  text_of names at (cell r) = cell_text names at r
  text_of names at (span a b) = span_text names at a b
  text_of names at (group a) = codes "(" ++ (text_of names at a ++ codes ")")
  text_of names at (neg a) = codes "-" ++ text_of names at a
  text_of names at (negation a) = codes "#NOT#" ++ text_of names at a
  text_of names at (binary op a b) = text_of names at a ++ (op_text op ++ text_of names at b)
  text_of names at (call f no_trees) = codes "@" ++ name_of f
  text_of names at (call f (trees a rest)) =
      codes "@" ++ (name_of f ++ (codes "(" ++ (text_of names at a ++ more_text names at rest)))

  -- behind an argument
  pub more_text : NameMap → Place → Trees → List ℕ
  more_text names at no_trees = codes ")"
  more_text names at (trees a rest) = codes "," ++ (text_of names at a ++ more_text names at rest)

-- a text that would begin a label takes a + in front
abbrev pub sign_for : List ℕ → List ℕ
sign_for [] = []
sign_for (b ∷ bs) = if is_ascii_alphabetic b || b == ascii.quote then codes "+" else []

-- the text of a formula
abbrev pub printed : NameMap → Place → Tree → List ℕ
printed names at t = sign_for (text_of names at t) ++ text_of names at t

-- more is written as far as 240 bytes go, and nothing behind what was cut off
unfoldable pub written : Output → List ℕ → Output
written out bytes =
    if out.whole
    then record { line = take MAX_LEN (out.line ++ bytes); whole = nat_le (length (out.line ++ bytes)) MAX_LEN }
    else out
