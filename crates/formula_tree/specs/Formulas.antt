-- What making a formula answers.
use Rattle.std.specs.Prelude.{◌≡◌, Result, Ok, Err, not, nat_lt, ⊤, if◌then◌else◌}
use Rattle.formula_tree.specs.Tree.{Tree}
use Rattle.formula_tree.specs.declared.formula.TreeFault.{TreeFault}
use Rattle.formula_tree.specs.declared.formula.TreeFault.TheVariants.{TooDeep, BadShape, Memory}
use Rattle.formula_tree.specs.Shape.{depth, has_shape}

-- the tree itself where a formula may have it, or else its fault; a bad shape comes before too much depth
abbrev pub formula_of : Tree → Result Tree TreeFault
formula_of t = if not (has_shape t) then Err BadShape else (if nat_lt 256 (depth t) then Err TooDeep else Ok t)

-- the answer is the one that is defined, unless memory ran out
abbrev pub Gives : Result Tree TreeFault → Result Tree TreeFault → Type 0
Gives (Ok t) made = made ≡ Ok t
Gives (Err Memory) made = ⊤
Gives (Err TooDeep) made = made ≡ Err TooDeep
Gives (Err BadShape) made = made ≡ Err BadShape
