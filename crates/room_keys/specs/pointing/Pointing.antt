-- A span while it is pointed at, and what each key does with it.
use Rattle.std.specs.Prelude.{ℕ, ◌+◌, Bool, true, false, List, [], ◌++◌, codes, Option, None, Some, if◌then◌else◌}
use Rattle.std.specs.Prelude.{nat_eq}
use Rattle.lics_text.specs.Ascii as ascii
use Rattle.grid_address.specs.Address.{column_name, decimal}
use Rattle.grid_address.specs.Place.{Place}
use Rattle.key_words.specs.declared.key.Key.{Key}
use Rattle.key_words.specs.declared.key.Key.TheVariants as key
use Rattle.sheet_store.specs.Grid.{Grid}
use Rattle.cell_pointer.specs.Keys.{arrow_of}
use Rattle.cell_pointer.specs.Steps.{stepped}
use Rattle.cell_pointer.specs.declared.way.Arrow.{Arrow}
use Rattle.session_rooms.specs.declared.pointed.Pointed.{Pointed}
use Rattle.session_rooms.specs.declared.pointed.Signs.{Signs}
use Rattle.session_rooms.specs.declared.pointed.Signs.TheVariants as signs

-- a cell alone, and one that is anchored
abbrev pub pointed_at : Place → Pointed
pointed_at p = record { corner = p; anchor = None; signs = signs.None }

-- a span of one cell, anchored there
abbrev pub anchored_at : Place → Pointed
anchored_at p = record { corner = p; anchor = Some p; signs = signs.None }

-- the corner that moves is anchored, unless a corner is
abbrev pub anchor_or : Option Place → Place → Option Place
anchor_or None corner = Some corner
anchor_or (Some a) corner = Some a

-- the corner that stands still is set, as the dot does
abbrev pub anchored : Pointed → Pointed
anchored p = record p { anchor = anchor_or p.anchor p.corner }

-- the anchor is taken away, and the corner goes back to the pointer
abbrev pub loosened : Place → Pointed → Pointed
loosened pointer p = record p { corner = pointer; anchor = None }

-- from A1 to $A$1, A$1, $A1 and back
abbrev pub next_signs : Signs → Signs
next_signs signs.None = signs.Both
next_signs signs.Both = signs.Row
next_signs signs.Row = signs.Column
next_signs signs.Column = signs.None

-- ABS goes on to the next signs
abbrev pub signed : Pointed → Pointed
signed p = record p { signs = next_signs p.signs }

-- an arrow moves the corner one cell
abbrev pub moved_corner : Option Arrow → Grid → Pointed → Pointed
moved_corner None g p = p
moved_corner (Some a) g p = record p { corner = stepped a g p.corner }

-- arrows move the corner, a dot anchors, ESC and BS loosen, ABS changes the signs
abbrev pub steered : Key → Grid → Place → Pointed → Pointed
steered (key.Byte b) g pointer p = if nat_eq b ascii.dot then anchored p else p
steered key.Esc g pointer p = loosened pointer p
steered key.Bs g pointer p = loosened pointer p
steered key.Abs g pointer p = signed p
steered k g pointer p = moved_corner (arrow_of k) g p

-- a $ stands before the column
abbrev pub fixes_column : Signs → Bool
fixes_column signs.Both = true
fixes_column signs.Column = true
fixes_column _ = false

-- a $ stands before the row
abbrev pub fixes_row : Signs → Bool
fixes_row signs.Both = true
fixes_row signs.Row = true
fixes_row _ = false

-- the sign of what is fixed
abbrev pub sign_if : Bool → List ℕ
sign_if true = codes "$"
sign_if false = []

-- an address with its signs
abbrev pub signed_address : Signs → Place → List ℕ
signed_address s p = sign_if (fixes_column s) ++ (column_name p.col ++ (sign_if (fixes_row s) ++ decimal (p.row + 1)))

-- the anchor with two dots behind it, where there is one
abbrev pub anchor_text : Signs → Option Place → List ℕ
anchor_text s None = []
anchor_text s (Some a) = signed_address s a ++ codes ".."

-- the corner, or the anchor and the corner with two dots between them
abbrev pub reference_by : Signs → Option Place → Place → List ℕ
reference_by s anchor corner = anchor_text s anchor ++ signed_address s corner

-- the reference as it is put into a line
abbrev pub reference_text : Pointed → List ℕ
reference_text p = reference_by p.signs p.anchor p.corner

-- the span as an answer has it, without signs
abbrev pub answer_text : Pointed → List ℕ
answer_text p = reference_by signs.None p.anchor p.corner
