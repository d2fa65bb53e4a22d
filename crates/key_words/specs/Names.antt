-- The names that stand in braces: of keys in key notation, and of commands in macros (Release 2 manual).
use Rattle.std.specs.Prelude.{ℕ, ◌+◌, ◌==◌, ◌&&◌, Bool, if◌then◌else◌, nat_lt, nat_eq, Option, Some, None, List, [], ◌∷◌, codes, length, take, get_or}
use Rattle.std.specs.List.{starts_with}
use Rattle.lics_text.specs.Names.{name_in}
use Rattle.key_words.specs.declared.key.Key.TheVariants.{Up, Down, Left, Right, Home, End, PgUp, PgDn, BigLeft, BigRight, Esc, Bs, Del, Edit, Name, Abs, Goto, Window, Query, Table, Calc, Graph, Break, Undo}
use Rattle.key_words.specs.declared.name.Named.{Named}
use Rattle.key_words.specs.declared.name.Named.TheVariants.{Repeated, Alone, Alt}

-- the names in key notation, in capitals
abbrev pub names : List (List ℕ × Named)
names =
    (codes "UP", Repeated Up) ∷ (codes "U", Repeated Up) ∷ (codes "DOWN", Repeated Down)
    ∷ (codes "D", Repeated Down) ∷ (codes "LEFT", Repeated Left) ∷ (codes "L", Repeated Left)
    ∷ (codes "RIGHT", Repeated Right) ∷ (codes "R", Repeated Right) ∷ (codes "HOME", Repeated Home)
    ∷ (codes "END", Repeated End) ∷ (codes "PGUP", Repeated PgUp) ∷ (codes "PGDN", Repeated PgDn)
    ∷ (codes "BIGLEFT", Repeated BigLeft) ∷ (codes "BIGRIGHT", Repeated BigRight) ∷ (codes "ESC", Repeated Esc)
    ∷ (codes "ESCAPE", Repeated Esc) ∷ (codes "BS", Repeated Bs) ∷ (codes "BACKSPACE", Repeated Bs)
    ∷ (codes "DEL", Repeated Del) ∷ (codes "DELETE", Repeated Del) ∷ (codes "EDIT", Repeated Edit)
    ∷ (codes "NAME", Repeated Name) ∷ (codes "ABS", Repeated Abs) ∷ (codes "GOTO", Repeated Goto)
    ∷ (codes "WINDOW", Repeated Window) ∷ (codes "QUERY", Repeated Query) ∷ (codes "TABLE", Repeated Table)
    ∷ (codes "CALC", Repeated Calc) ∷ (codes "GRAPH", Repeated Graph) ∷ (codes "BREAK", Alone Break)
    ∷ (codes "UNDO", Alone Undo) ∷ (codes "ALT", Alt) ∷ []

-- what a name stands for
abbrev pub looked_up : List ℕ → Option Named
looked_up = name_in names

-- a name begins with these letters and one more
abbrev pub goes_on : List ℕ → List ℕ → ℕ → Bool
goes_on name letters letter =
    nat_lt (length letters) (length name)
    && (starts_with nat_eq name letters && get_or name (length letters) 0 == letter)

-- these letters and one more, where a name begins with them
abbrev pub longer_in : List (List ℕ × Named) → List ℕ → ℕ → Option (List ℕ)
longer_in [] letters letter = None
longer_in (e ∷ rest) letters letter =
    if goes_on e.0 letters letter then Some (take (length letters + 1) e.0) else longer_in rest letters letter

-- these letters and one more, where the name of a key begins with them
abbrev pub longer : List ℕ → ℕ → Option (List ℕ)
longer = longer_in names
