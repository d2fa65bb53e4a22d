-- Tables of names, which are in capitals.
use Rattle.std.specs.Prelude.{ℕ, List, [], ◌∷◌, Option, Some, None, if◌then◌else◌}
use Rattle.std.specs.Str.{bytes_eq}

-- what a name stands for
abbrev pub name_in : {A : Type 0} → List (List ℕ × A) → List ℕ → Option A
name_in [] name = None
name_in (e ∷ rest) name = if bytes_eq e.0 name then Some e.1 else name_in rest name
