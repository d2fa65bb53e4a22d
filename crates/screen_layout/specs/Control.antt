-- The control panel: what stands in the pointer's cell, the line that is typed, and the menu.
use Rattle.std.specs.Prelude.{ℕ, ◌+◌, ◌-◌, Bool, true, false, not, List, [], ◌∷◌, ◌++◌, length, take, drop, Option, Some, None, codes, if◌then◌else◌}
use Rattle.std.specs.FinMap as map
use Rattle.lics_text.specs.Ascii as ascii
use Rattle.cell_format.specs.Indicator.{indicator_of}
use Rattle.grid_address.specs.Formats.{has_protection}
use Rattle.grid_address.specs.Address.{address_of, decimal}
use Rattle.recalculation.specs.Context.{format_of}
use Rattle.sheet_store.specs.Grid.{width_of}
use Rattle.screen_layout.specs.Lines.{filled}
use Rattle.work_sheet.specs.Seen.{Sheet}
use Rattle.session_rooms.specs.declared.panel.Mode.{Mode}
use Rattle.session_rooms.specs.declared.panel.Mode.TheVariants.{Ready, Label, Value, Edit, Point, Menu, Error}
use Rattle.session_rooms.specs.declared.panel.Panel.{Panel}
use Rattle.work_sheet.specs.Typed.{typed}

-- the word that tells a mode
abbrev pub mode_name : Mode → List ℕ
mode_name Ready = codes "READY"
mode_name Label = codes "LABEL"
mode_name Value = codes "VALUE"
mode_name Edit = codes "EDIT"
mode_name Point = codes "POINT"
mode_name Menu = codes "MENU"
mode_name Error = codes "ERROR"

-- the first five bytes of the text that a macro put there, or the mode
abbrev pub mode_text : List ℕ → Mode → List ℕ
mode_text [] mode = mode_name mode
mode_text (b ∷ bs) mode = take 5 (b ∷ bs)

-- what stands there with a blank behind it
abbrev pub with_space : List ℕ → List ℕ
with_space [] = []
with_space (b ∷ bs) = (b ∷ bs) ++ ascii.space ∷ []

-- a cell without a protection mark is told, and one with it while protection is on
abbrev pub protection_part : Bool → ℕ → List ℕ
protection_part protection format =
    if not (has_protection format) then codes "U " else if protection then codes "PR " else []

-- a column's own width
abbrev pub width_part : Option ℕ → List ℕ
width_part None = []
width_part (Some width) = codes "[W" ++ decimal width ++ codes "] "

-- the format byte of the pointer's cell
abbrev pub pointer_format : Sheet → ℕ
pointer_format s = format_of (map.get s.grid.cells s.settings.pointer)

-- the pointer's address, and what is told of its cell
abbrev pub front_text : Sheet → List ℕ
front_text s =
    address_of s.settings.pointer ++ codes ": " ++ with_space (indicator_of (pointer_format s))
    ++ protection_part s.settings.protection (pointer_format s) ++ width_part (width_of s.grid s.settings.pointer.col)

-- the same and the content as it would be typed
abbrev pub pointer_text : Sheet → List ℕ
pointer_text s = front_text s ++ typed s.names s.grid s.settings.pointer

-- the column before which what is told of the pointer's cell ends
abbrev pub CONTENT_END : ℕ
CONTENT_END = 72

-- the column from which on the mode stands
abbrev pub MODE_COLUMN : ℕ
MODE_COLUMN = 73

-- the last column
abbrev pub LAST_COLUMN : ℕ
LAST_COLUMN = 79

-- it is cut after column 71, and the mode stands from column 73 on
abbrev pub pointer_line : Sheet → Panel → List ℕ
pointer_line s p = filled MODE_COLUMN (take CONTENT_END (pointer_text s)) ++ mode_text p.indicate p.mode

-- the line that is typed behind its prompt, from the byte that lets the cursor stand at column 79 at most
abbrev pub typed_line : Panel → List ℕ
typed_line p = drop (length (with_space p.prompt) + p.cursor - LAST_COLUMN) (with_space p.prompt ++ p.typed)

-- a menu stands in the panel's second and third line
abbrev pub is_menu : Mode → Bool
is_menu Menu = true
is_menu _ = false

-- the menu's items, or the line that is typed
abbrev pub entry_line : Panel → List ℕ
entry_line p = if is_menu p.mode then p.menu else typed_line p

-- what the highlighted item leads to
abbrev pub below_line : Panel → List ℕ
below_line p = if is_menu p.mode then p.below else []
