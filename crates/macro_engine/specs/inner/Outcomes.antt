-- What the code tells of a macro behind a step: what it came to, and whether the macro goes on.
use Rattle.std.specs.Prelude.{Bool, true, false, Option, None, Result, Ok, Err}
use Rattle.lics_text.specs.declared.faults.Memory.{Memory}
use Rattle.macro_engine.specs.declared.row_span.RowSpan.{RowSpan}
use Rattle.macro_engine.specs.declared.steps.Outcome.{Outcome}
use Rattle.macro_engine.specs.declared.steps.StepEnd.{StepEnd}
use Rattle.macro_words.specs.declared.running.Running.{Running}

-- the macro behind a step, which it stopped where that doesn't go on
abbrev pub left_running : Bool → Option Running → Option Running
left_running true running = running
left_running false running = None

-- what a step came to
abbrev pub end_in : Result Outcome Memory → Result StepEnd Memory
end_in (Ok x) = Ok x.end
end_in (Err e) = Err e

-- the macro behind a step; after want of memory none runs
abbrev pub left_by : Result Outcome Memory → Option Running → Option Running
left_by (Ok x) running = left_running x.goes_on running
left_by (Err e) running = None

-- the rows that a step tells, which it may have changed
abbrev pub rows_in : Result Outcome Memory → Option RowSpan
rows_in (Ok x) = x.rows
rows_in (Err e) = None
