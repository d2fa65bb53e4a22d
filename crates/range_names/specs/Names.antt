-- Names are a finite map from folded texts of 1 to 15 bytes to spans.
use Rattle.std.specs.Char.{is_ascii_alphabetic, is_ascii_digit, to_ascii_uppercase}
use Rattle.std.specs.Prelude.{◌≡◌, ◌≤◌, ℕ, ◌-◌, ◌==◌, ◌&&◌, ◌||◌, not, nat_lt, Bool, false, Option, Some, None, List, [], ◌∷◌, ◌++◌, length, map, replicate, position, is_some, get_or, take, if◌then◌else◌}
use Rattle.std.specs.List.{list_all}
use Rattle.std.specs.Ordering.{nat_cmp, is_gt}
use Rattle.std.specs.declared.cmp.Ordering.{Ordering}
use Rattle.std.specs.Cmp.Lexicographic.{slice_cmp}
use Rattle.std.specs.FinMap.{FinMap, entries, get}
use Rattle.lics_text.specs.Ascii as ascii
use Rattle.grid_address.specs.Place.{same_place, Extent}
use Rattle.grid_address.specs.Progress.{address_in}
use Rattle.range_names.specs.declared.fault.NameFault.{NameFault}
use Rattle.range_names.specs.declared.fault.NameFault.TheVariants.{Empty, TooLong, BadByte}

-- byte order
abbrev pub name_cmp : List ℕ → List ℕ → Ordering
name_cmp = slice_cmp nat_cmp

-- a key is a folded name with zeros behind it, 15 bytes in all
abbrev pub NameMap : Type 0
NameMap = FinMap name_cmp Extent

-- the key of a name, which is the same for letters of either case
abbrev pub key_of : List ℕ → List ℕ
key_of name = map to_ascii_uppercase name ++ replicate (15 - length name) 0

-- the bytes before the zeros
abbrev pub name_in : List ℕ → List ℕ
name_in [] = []
name_in (b ∷ bs) = if b == 0 then [] else b ∷ name_in bs

-- a space in front, or the first byte below a space
abbrev pub bad_place : List ℕ → Option ℕ
bad_place name = if get_or name 0 0 == ascii.space then Some 0 else position (λ c. nat_lt c ascii.space) name

-- the fault of a bad byte at a place, and none where there is none
abbrev pub bad_byte : Option ℕ → Option NameFault
bad_byte None = None
bad_byte (Some at) = Some (BadByte at)

-- why bytes are no name, in this order
abbrev pub fault_of : List ℕ → Option NameFault
fault_of name =
    if length name == 0 then Some Empty
    else if nat_lt 15 (length name) then Some TooLong
    else bad_byte (bad_place name)

-- a key that a name has
abbrev pub IsKey : List ℕ → Type 0
IsKey key = (length (name_in key) ≤ 15) × (key_of (name_in key) ≡ key) × (fault_of (name_in key) ≡ None)

-- each key is that of its name
abbrev pub AreKeys : NameMap → Type 0
AreKeys names = (key : List ℕ) (span : Extent) → get names key ≡ Some span → IsKey key

-- a letter, a digit or _
abbrev pub is_word_byte : ℕ → Bool
is_word_byte c = is_ascii_alphabetic c || (is_ascii_digit c || (c == ascii.underscore))

-- a letter, and then letters, digits and _ alone
abbrev pub is_word : List ℕ → Bool
is_word [] = false
is_word (b ∷ bs) = is_ascii_alphabetic b && list_all is_word_byte bs

-- a name that can be written for its span: a word that is no address
abbrev pub is_plain : List ℕ → Bool
is_plain name = is_word name && not (is_some (address_in name))

-- the two spans have the same corners
abbrev pub same_extent : Extent → Extent → Bool
same_extent s t = same_place s.first t.first && same_place s.last t.last

-- the first plain name of the span
abbrev pub named : Extent → List (List ℕ × Extent) → Option (List ℕ)
named span [] = None
named span (e ∷ es) = if same_extent e.1 span && is_plain (name_in e.0) then Some (name_in e.0) else named span es

-- the name that is written for a span: the first in byte order of those that can be
abbrev pub name_of_span : NameMap → Extent → Option (List ℕ)
name_of_span names span = named span (entries names)

-- the first name behind some bytes, in byte order
abbrev pub next_after : List ℕ → List (List ℕ × Extent) → Option (List ℕ)
next_after key [] = None
next_after key (e ∷ es) = if is_gt (name_cmp e.0 key) then Some (name_in e.0) else next_after key es

-- the first name behind another, of which 15 bytes count
abbrev pub next_name : NameMap → List ℕ → Option (List ℕ)
next_name names name = next_after (key_of (take 15 name)) (entries names)
