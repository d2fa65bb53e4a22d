-- How the items of a menu are shown, of which one is highlighted.
use Rattle.std.specs.Prelude.{ℕ, ◌+◌, Bool, true, false, nat_eq, List, [], ◌∷◌, ◌++◌, codes}
pub use Rattle.item_ring.specs.Ring.{highlighted}

-- a name between brackets where it is highlighted, and else between spaces
abbrev pub marked : Bool → List ℕ → List ℕ
marked true n = codes "[" ++ n ++ codes "]"
marked false n = codes " " ++ n ++ codes " "

-- names from a place on, of which the highlighted one is marked
abbrev pub marked_from : ℕ → ℕ → List (List ℕ) → List ℕ
marked_from place h [] = []
marked_from place h (n ∷ ns) = marked (nat_eq place h) n ++ marked_from (place + 1) h ns

-- names, of which the highlighted one is marked
abbrev pub items_line : ℕ → List (List ℕ) → List ℕ
items_line h names = marked_from 0 h names

-- names, each behind two spaces
abbrev pub set_off : List (List ℕ) → List ℕ
set_off [] = []
set_off (n ∷ ns) = codes "  " ++ n ++ set_off ns

-- names with two spaces between them
abbrev pub listed : List (List ℕ) → List ℕ
listed [] = []
listed (n ∷ ns) = n ++ set_off ns
