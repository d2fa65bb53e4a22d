-- The steps of commands: what one call came to, and what is known where memory ran out.
use Rattle.std.specs.Prelude.{◌≡◌, Bool, true, false}
use Rattle.command_desk.specs.declared.ending.CommandEnd.{CommandEnd}
use Rattle.command_desk.specs.declared.ending.CommandEnd.TheVariants.{Finished, Refused}
use Rattle.commands_file.specs.Calls.{written, HasAnswered, Reply, ShelfCall, ShelfView}
use Rattle.desk_errors.specs.declared.error.CommandError.TheVariants as error

-- A call was made, and came to this.
pub record HasCalled {A : Type 0} (call : ShelfCall) (told : Reply → A) (came : A)
    (before now : ShelfView) : Type 0 where
  pub reply : Reply
  pub came_so : came ≡ told reply
  pub answered : HasAnswered (record { call = call; reply = reply }) before now

-- whether a file was written
abbrev pub is_written : Reply → Bool
is_written written = true
is_written r = false

-- what the writing of a file comes to
abbrev pub end_of_put : Bool → CommandEnd
end_of_put true = Finished
end_of_put false = Refused error.DiskError
