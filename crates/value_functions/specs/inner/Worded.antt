-- A text as a value.
use Rattle.std.specs.Prelude.{ℕ, Option, Result, Ok, Err, List}
use Rattle.lics_text.specs.declared.faults.Memory.{Memory}
use Rattle.formula_tree.specs.declared.value.Value.{Value}
use Rattle.value_functions.specs.Values.{worded}

-- a text as a value, unless memory is wanting
abbrev pub in_words : Result (Option (List ℕ)) Memory → Result Value Memory
in_words (Ok t) = Ok (worded t)
in_words (Err e) = Err e
