-- The functions of texts.
use Rattle.std.specs.Prelude.{ℕ, zero, suc, ◌+◌, ◌-◌, ◌*◌, ◌==◌, ◌&&◌, nat_le, ℤ, pos, negsuc, Bool, true, false, Option, Some, None, List, [], ◌∷◌, ◌++◌, length, take, drop, if◌then◌else◌}
use Rattle.lics_text.specs.Limits.{MAX_LEN}
use Rattle.fixed_value.specs.Written.{written}
use Rattle.at_functions.specs.Numbers.{count_of, in_units, units, whole, within}

-- a number in a text with so many decimals; none where the decimals are no count
abbrev pub string_by : ℤ → Option ℕ → Option (List ℕ)
string_by v None = None
string_by v (Some places) = Some (written v places)

-- a number with so many decimals, 0 to 15
abbrev pub string : ℤ → ℤ → Option (List ℕ)
string v places = string_by v (within 0 15 (whole places))

-- so many bytes from a place on
abbrev pub mid_by : List ℕ → Option ℕ → Option ℕ → Option (List ℕ)
mid_by text None count = None
mid_by text (Some start) None = None
mid_by text (Some start) (Some count) = Some (take count (drop start text))

-- the answer of @MID: so many bytes of a text from a place on, which counts from 0
abbrev pub mid : List ℕ → ℤ → ℤ → Option (List ℕ)
mid text start count = mid_by text (count_of start) (count_of count)

-- the first bytes of a text, as many as are asked for; none where that is no count
abbrev pub left_by : List ℕ → Option ℕ → Option (List ℕ)
left_by text None = None
left_by text (Some count) = Some (take count text)

-- the first bytes
abbrev pub left : List ℕ → ℤ → Option (List ℕ)
left text count = left_by text (count_of count)

-- the last bytes of a text, as many as are asked for; none where that is no count
abbrev pub right_by : List ℕ → Option ℕ → Option (List ℕ)
right_by text None = None
right_by text (Some count) = Some (drop (length text - count) text)

-- the last bytes
abbrev pub right : List ℕ → ℤ → Option (List ℕ)
right text count = right_by text (count_of count)

-- the first byte
abbrev pub code : List ℕ → Option ℤ
code [] = None
code (b ∷ bs) = Some (units b)

-- a text has at most 240 bytes
abbrev pub if_short : List ℕ → Option (List ℕ)
if_short bytes = if nat_le (length bytes) MAX_LEN then Some bytes else None

-- so many bytes from a place on replaced
abbrev pub replace_by : List ℕ → Option ℕ → Option ℕ → List ℕ → Option (List ℕ)
replace_by text None count new = None
replace_by text (Some start) None new = None
replace_by text (Some start) (Some count) new = if_short (take start text ++ (new ++ drop (start + count) text))

-- the answer of @REPLACE: a text with so many bytes from a place on replaced by others
abbrev pub replace : List ℕ → ℤ → ℤ → List ℕ → Option (List ℕ)
replace text start count new = replace_by text (count_of start) (count_of count) new

-- a text so many times, one behind the other
abbrev pub again : ℕ → List ℕ → List ℕ
again zero text = []
again (suc n) text = text ++ again n text

-- the answer of @REPEAT by a count: none where that is no count, or where the text would be too long
abbrev pub repeat_by : List ℕ → Option ℕ → Option (List ℕ)
repeat_by text None = None
repeat_by text (Some count) = if nat_le (length text * count) MAX_LEN then Some (again count text) else None

-- the text so many times
abbrev pub repeat : List ℕ → ℤ → Option (List ℕ)
repeat text count = repeat_by text (count_of count)

-- the text of the byte with a code; none where there is no such code
abbrev pub char_by : Option ℕ → Option (List ℕ)
char_by None = None
char_by (Some code) = Some (code ∷ [])

-- the byte of a code from 32 to 255
abbrev pub char_of : ℤ → Option (List ℕ)
char_of code = char_by (within 32 255 (whole code))

-- whether a text begins with the bytes
abbrev pub starts : List ℕ → List ℕ → Bool
starts [] text = true
starts (w ∷ ws) [] = false
starts (w ∷ ws) (b ∷ bs) = (w == b) && starts ws bs

-- the first place at which the bytes stand, counted on from one
abbrev pub first_place : List ℕ → List ℕ → ℕ → Option ℕ
first_place what [] at = if starts what [] then Some at else None
first_place what (b ∷ bs) at = if starts what (b ∷ bs) then Some at else first_place what bs (at + 1)

-- the answer of @FIND: the first place, from one on, where a text begins in another; none where it begins nowhere
abbrev pub found : List ℕ → List ℕ → ℕ → Option ℕ
found what text from = if nat_le from (length text) then first_place what (drop from text) from else None

-- a place below zero is before every place
abbrev pub place_from : ℤ → ℕ
place_from (pos n) = n
place_from (negsuc n) = 0

-- the first place at or after one at which the bytes stand
abbrev pub find_in : List ℕ → List ℕ → ℤ → Option ℤ
find_in what text start = in_units (found what text (place_from (whole start)))
