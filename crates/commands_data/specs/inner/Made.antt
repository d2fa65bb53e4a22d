-- What the code answers where a list of writes was made.
use Rattle.std.specs.Prelude.{◌≡◌, ◌⊎◌, List, Result, Ok, Err}
use Rattle.sheet_store.specs.declared.writes.Write.{Write}

-- an answer is what is told, or want of memory
abbrev pub IsAnswer : {F : Type 0} → F → Result (List Write) F → Result (List Write) F → Type 0
IsAnswer memory told (Ok writes) = told ≡ Ok writes
IsAnswer memory told (Err f) = (f ≡ memory) ⊎ (told ≡ Err f)
