-- What ERROR tells.
use Rattle.std.specs.Prelude.{ℕ, Bool, nat_le, List, [], ◌++◌, codes}
use Rattle.lics_text.specs.Ascii as ascii
use Rattle.grid_address.specs.Address.{decimal}
use Rattle.desk_errors.specs.declared.error.CommandError.{CommandError}
use Rattle.desk_errors.specs.declared.error.CommandError.TheVariants as error

-- the words of an error; want of memory isn't shown
abbrev pub words_of : CommandError → List ℕ
words_of (error.InvalidAddress place) = codes "Invalid address"
words_of (error.InvalidNumber place) = codes "Invalid number"
words_of (error.InvalidName fault) = codes "Invalid name"
words_of (error.NameNotFound place) = codes "Name not found"
words_of (error.Protected cell) = codes "Protected cell"
words_of error.FileNotFound = codes "File does not exist"
words_of (error.FileRefused number) = codes "File refused F"
words_of error.DiskError = codes "Disk error"
words_of (error.PushedOff cell) = codes "Cells would leave the sheet"
words_of (error.OutOfSheet span) = codes "Range leaves the sheet"
words_of error.ZeroStep = codes "Step is zero"
words_of error.InvalidTable = codes "Invalid table"
words_of (error.InputInTable cell) = codes "Input cell in table"
words_of error.QueryRangeMissing = codes "Query range missing"
words_of (error.FieldNotFound cell) = codes "Field not found"
words_of (error.OutputFull rows) = codes "Output range full"
words_of (error.InvalidFileName place) = codes "Invalid file name"
words_of error.SortMissing = codes "Sort setting missing"
words_of error.LineTooLong = codes "Line too long"
words_of error.KeyOutside = codes "Key outside the range"
words_of error.NothingToUndo = codes "Nothing to undo"
words_of error.PrintRangeMissing = codes "Print range missing"
words_of error.PageTooSmall = codes "Page too small"
words_of error.ReportTooLong = codes "Report too long"
words_of error.WorksheetTooLarge = codes "Worksheet too large"
words_of error.Memory = []

-- the number of a file's fault
abbrev pub number_of : CommandError → List ℕ
number_of (error.FileRefused number) = decimal number
number_of e = []

-- the message of an error, with the number of a file's fault behind its words
abbrev pub message_of : CommandError → List ℕ
message_of e = words_of e ++ number_of e

-- a byte that a text may hold
abbrev pub is_printed : ℕ → Bool
is_printed b = nat_le ascii.space b
