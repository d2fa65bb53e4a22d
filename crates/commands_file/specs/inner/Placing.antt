-- How a worksheet's file is placed, loaded and taken away, by the code's own answers.
use Rattle.std.specs.Prelude.{◌≡◌, ◌⊎◌, ℕ, true, false, List, None, Some, Ok, Err}
use Rattle.command_desk.specs.declared.ending.CommandEnd.{CommandEnd}
use Rattle.command_desk.specs.declared.ending.CommandEnd.TheVariants.{Finished, Refused}
use Rattle.commands_file.specs.Calls.{loaded, puts, there, IsUnfinished, Reply, ShelfView}
use Rattle.commands_file.specs.Commands.{fault_number, is_readable}
use Rattle.commands_file.specs.declared.calling.Placed.{Placed}
use Rattle.commands_file.specs.declared.calling.Placed.TheVariants as place
use Rattle.commands_file.specs.declared.loading.Loaded.{Loaded}
use Rattle.commands_file.specs.declared.loading.Loaded.TheVariants as load
use Rattle.desk_errors.specs.declared.error.CommandError.TheVariants as error
use Rattle.commands_file.specs.Steps.{HasCalled, is_written}

-- what a file was loaded as, or why it wasn't
abbrev pub loaded_as : Reply → Loaded
loaded_as (loaded (Some (Ok saved))) = load.Sheet saved
loaded_as (loaded (Some (Err f))) = load.Refused (error.FileRefused (fault_number f))
loaded_as (loaded None) = load.Refused error.FileNotFound
loaded_as r = load.Refused error.DiskError

-- What came of a worksheet's file: it was put, or the call failed, or it would be longer than one that is read, and no
-- call was made.
abbrev pub IsPlaced : List ℕ → List ℕ → Placed → ShelfView → ShelfView → Type 0
IsPlaced name bytes place.Written before now =
    (is_readable bytes ≡ true) × HasCalled (puts name bytes) is_written true before now
IsPlaced name bytes place.Failed before now =
    (is_readable bytes ≡ true) × HasCalled (puts name bytes) is_written false before now
IsPlaced name bytes place.TooLarge before now = (is_readable bytes ≡ false) × (now ≡ before)

-- memory ran out before a worksheet's file was put, or in the call that puts it
abbrev pub IsUnplaced : List ℕ → List ℕ → ShelfView → ShelfView → Type 0
IsUnplaced name bytes before now =
    (now ≡ before) ⊎ ((is_readable bytes ≡ true) × IsUnfinished (puts name bytes) before now)

-- what the placing of a worksheet's file comes to
abbrev pub end_of_placing : Placed → CommandEnd
end_of_placing place.Written = Finished
end_of_placing place.Failed = Refused error.DiskError
end_of_placing place.TooLarge = Refused error.WorksheetTooLarge

-- what taking a file away comes to
abbrev pub end_of_remove : Reply → CommandEnd
end_of_remove (there true) = Finished
end_of_remove (there false) = Refused error.FileNotFound
end_of_remove r = Refused error.DiskError
