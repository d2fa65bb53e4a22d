-- The faults of worksheet files as they are told.
use Rattle.std.specs.Prelude.{ℕ, ◌+◌, ◌-◌, ◌/◌, ◌%◌, nat_lt, List, [], ◌∷◌, ◌++◌, codes, if◌then◌else◌}
use Rattle.lics_text.specs.Ascii as ascii
use Rattle.grid_address.specs.Address.{decimal}
use Rattle.wk1_records.specs.declared.fault.Wk1Fault.{Wk1Fault}
use Rattle.wk1_records.specs.declared.fault.Wk1Fault.TheVariants as fault

-- a hexadecimal digit, as a capital
abbrev pub hex_digit : ℕ → ℕ
hex_digit d = if nat_lt d 10 then ascii.zero + d else ascii.capital_a + (d - 10)

-- a byte in two hexadecimal digits
abbrev pub hex_pair : ℕ → List ℕ
hex_pair byte = hex_digit (byte / 16) ∷ hex_digit (byte % 16) ∷ []

-- a fault with the number of its record, or the offset
abbrev pub with_number : List ℕ → ℕ → List ℕ
with_number front n = front ++ decimal n

-- A fault of a file: its number, and the numbers that it carries, a function's code in hexadecimal digits. Want of
-- memory has no text.
abbrev pub fault_text : Wk1Fault → List ℕ
fault_text fault.NoBof = codes "F1"
fault_text (fault.Truncated at) = with_number (codes "F2 ") at
fault_text (fault.BadLength place) = with_number (codes "F3 ") place
fault_text (fault.CellOutside place) = with_number (codes "F4 ") place
fault_text (fault.BadText place) = with_number (codes "F5 ") place
fault_text (fault.NumberTooLarge place) = with_number (codes "F6 ") place
fault_text (fault.BadCode place at) = with_number (codes "F7 ") place ++ ascii.space ∷ decimal at
fault_text (fault.FunctionOutside place code) = with_number (codes "F8 ") place ++ ascii.space ∷ hex_pair code
fault_text (fault.BadName place) = with_number (codes "F9 ") place
fault_text (fault.BadSpan place) = with_number (codes "F10 ") place
fault_text fault.FileTooLarge = codes "F11"
fault_text (fault.TooDeep place) = with_number (codes "F12 ") place
fault_text fault.Memory = []
