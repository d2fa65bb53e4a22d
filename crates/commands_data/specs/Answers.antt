-- What the answers of several prompts are together.
use Rattle.std.specs.Prelude.{ℕ, List, Result, Ok, Err}
use Rattle.command_desk.specs.Answered.{cell_at, decimal_at, order_at, span_at}
use Rattle.commands_data.specs.declared.filling.Filling.{Filling}
use Rattle.data_blocks.specs.declared.key.SortKey.{SortKey}
use Rattle.desk_errors.specs.declared.error.CommandError.{CommandError}
use Rattle.range_names.specs.Names.{NameMap}

-- something is made of an answer, or its error stands
abbrev pub with_answer : {A B : Type 0} → Result A CommandError → (A → Result B CommandError) → Result B CommandError
with_answer (Ok a) make = make a
with_answer (Err e) make = Err e

-- the span, the start, the step and the stop that the answers of a fill are, or the first error
abbrev pub filling_at : NameMap → List (List ℕ) → Result Filling CommandError
filling_at names answers =
    with_answer (span_at names answers 0) (λ span. with_answer (decimal_at answers 1) (λ start.
    with_answer (decimal_at answers 2) (λ step. with_answer (decimal_at answers 3) (λ stop.
    Ok (record { span = span; start = start; step = step; stop = stop })))))

-- the key that the answers are: a cell of its column, and its order; or the first error
abbrev pub key_at : NameMap → List (List ℕ) → Result SortKey CommandError
key_at names answers =
    with_answer (cell_at names answers 0) (λ cell. with_answer (order_at answers 1) (λ descending.
    Ok (record { col = cell.col; descending = descending })))
