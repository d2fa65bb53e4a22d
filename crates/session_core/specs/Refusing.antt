-- What a step refuses.
use Rattle.std.specs.Prelude.{ℕ, Bool, true, false, List, [], ◌∷◌, ◌++◌, codes, Option, None, Some}
use Rattle.entry_line.specs.Line.{Entry}
use Rattle.grid_address.specs.Address.{decimal}
use Rattle.key_words.specs.declared.key.Key.{Key}
use Rattle.key_words.specs.declared.key.Key.TheVariants as key
use Rattle.room_keys.specs.menu.Room as menu
use Rattle.room_keys.specs.prompt.Room as prompt
use Rattle.session_rooms.specs.declared.rooms.Room.{Room}
use Rattle.session_rooms.specs.declared.rooms.Room.TheVariants as room
use Rattle.session_core.specs.declared.refusal.Refusal.{Refusal}
use Rattle.session_core.specs.declared.refusal.RefusedText.{RefusedText}
use Rattle.session_core.specs.declared.refusal.Refusal.TheVariants as refusal

-- a letter is refused where it takes no item
abbrev pub unless : Bool → ℕ → Refusal
unless true b = refusal.Letter b
unless false b = refusal.Nothing

-- what is refused of a letter: it takes no item of a menu or of a choice
abbrev pub letter_refused : ℕ → Room → Refusal
letter_refused b (room.Menu r) = unless (menu.lacks_item b r) b
letter_refused b (room.Asking r) = unless (prompt.lacks_item b r) b
letter_refused b _ = refusal.Nothing

-- what is refused of a key that is typed in a room
abbrev pub key_refused : Key → Room → Refusal
key_refused (key.Byte b) r = letter_refused b r
key_refused k r = refusal.Nothing

-- a finished line stands in EDIT, with the cursor at its fault
abbrev pub line_told : Entry → List ℕ
line_told line = codes "refused at " ++ decimal line.cursor ++ codes ": " ++ line.text

-- a letter that takes no item
abbrev pub letter_told : ℕ → List ℕ
letter_told b = codes "no item " ++ b ∷ []

-- what is told in two parts
abbrev pub joined : RefusedText → List ℕ
joined r = r.front ++ r.text.now

-- a refusal beside the line that is typed
abbrev pub told_beside : Refusal → Entry → Option (List ℕ)
told_beside refusal.Nothing line = None
told_beside refusal.Line line = Some (line_told line)
told_beside (refusal.Letter b) line = Some (letter_told b)

-- a refusal where no line is typed
abbrev pub told_alone : Refusal → Option (List ℕ)
told_alone (refusal.Letter b) = Some (letter_told b)
told_alone _ = None

-- What a step refused, by what the session does behind it: in ERROR the message that is told, the finished line that
-- has a fault, or the letter that takes no item; none where it refused nothing.
abbrev pub told_by : Refusal → Room → Option (List ℕ)
told_by x (room.Failed message) = Some message
told_by x (room.Typing r) = told_beside x r.line
told_by x _ = told_alone x
