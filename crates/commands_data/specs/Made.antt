-- What a command writes, and its refusal.
use Rattle.std.specs.Prelude.{List, Result, Ok, Err}
use Rattle.command_desk.specs.Acting.{refused, Acted}
use Rattle.command_desk.specs.Writing.{all_made}
pub use Rattle.commands_data.specs.TableCommands.{block_error}
use Rattle.data_query.specs.declared.fault.QueryFault.{QueryFault}
use Rattle.data_query.specs.declared.fault.QueryFault.TheVariants as query
use Rattle.desk_errors.specs.declared.error.CommandError.{CommandError}
use Rattle.desk_errors.specs.declared.error.CommandError.TheVariants as error
use Rattle.formula_parts.specs.declared.look.Scene.{Scene}
use Rattle.sheet_store.specs.declared.writes.Write.{Write}
use Rattle.work_sheet.specs.Seen.{Sheet}

-- the error of a query's fault; an input that names no fields is a range that is missing
abbrev pub query_error : QueryFault → CommandError
query_error query.NoFieldRow = error.QueryRangeMissing
query_error (query.FieldAbsent cell) = error.FieldNotFound cell
query_error (query.OutputFull rows) = error.OutputFull rows
query_error query.Memory = error.Memory

-- a list of writes is made, or the fault that there is in its place refuses the command
abbrev pub made : {F : Type 0} → (F → CommandError) → Result (List Write) F → Scene → Sheet → Acted
made error_of (Ok writes) scene s = all_made writes scene s
made error_of (Err f) scene s = refused (error_of f) s
