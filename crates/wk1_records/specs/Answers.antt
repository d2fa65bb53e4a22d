-- What reading a record answers.
use Rattle.std.specs.Prelude.{◌≡◌, Result, Ok, Err, ⊤}
use Rattle.wk1_records.specs.declared.entry.Entry.{Entry}
use Rattle.wk1_records.specs.declared.fault.Wk1Fault.{Wk1Fault}
use Rattle.wk1_records.specs.declared.fault.Wk1Fault.TheVariants as fault

-- the answer is the one that is defined, unless memory ran out
abbrev pub Gives : Result Entry Wk1Fault → Result Entry Wk1Fault → Type 0
Gives (Ok e) made = made ≡ Ok e
Gives (Err fault.NoBof) made = made ≡ Err fault.NoBof
Gives (Err (fault.Truncated at)) made = made ≡ Err (fault.Truncated at)
Gives (Err (fault.BadLength n)) made = made ≡ Err (fault.BadLength n)
Gives (Err (fault.CellOutside n)) made = made ≡ Err (fault.CellOutside n)
Gives (Err (fault.BadText n)) made = made ≡ Err (fault.BadText n)
Gives (Err (fault.NumberTooLarge n)) made = made ≡ Err (fault.NumberTooLarge n)
Gives (Err (fault.BadCode n at)) made = made ≡ Err (fault.BadCode n at)
Gives (Err (fault.FunctionOutside n f)) made = made ≡ Err (fault.FunctionOutside n f)
Gives (Err (fault.BadName n)) made = made ≡ Err (fault.BadName n)
Gives (Err (fault.BadSpan n)) made = made ≡ Err (fault.BadSpan n)
Gives (Err fault.FileTooLarge) made = made ≡ Err fault.FileTooLarge
Gives (Err (fault.TooDeep n)) made = made ≡ Err (fault.TooDeep n)
Gives (Err fault.Memory) made = ⊤
