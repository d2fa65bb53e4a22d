-- Calls of the shelf, one behind the other.
use Rattle.std.proofs.Common.{List, [], ◌∷◌, ◌++◌, subst}
use Rattle.commands_file.specs.Calls.{Asked, HaveAnswered, ShelfView}

-- calls, and then more of them
pub answered_then : (first more : List Asked) (a b c : ShelfView) → HaveAnswered first a b → HaveAnswered more b c
    → HaveAnswered (first ++ more) a c
answered_then [] more a b c is next = subst (λ (v : ShelfView). HaveAnswered more v c) is next
answered_then (x ∷ xs) more a b c (middle, was, rest) next = (middle, was, answered_then xs more middle b c rest next)
