-- Rows of the table of names.
use Rattle.std.specs.Prelude.{◌≡◌, ℕ, List, Some}
use Rattle.key_words.specs.declared.name.Named.{Named}
use Rattle.key_words.specs.Names.{looked_up}

-- the name stands for this wherever it is looked up
abbrev pub IsListed : List ℕ × Named → Type 0
IsListed e = looked_up e.0 ≡ Some e.1
