-- A line that is edited, and what each key does with it.
use Rattle.std.specs.Prelude.{ℕ, ◌+◌, ◌-◌, nat_lt, min, if◌then◌else◌, length, take, drop, List, [], ◌∷◌, ◌++◌}
use Rattle.lics_text.specs.Limits.{MAX_LEN}
use Rattle.key_words.specs.declared.key.Key.{Key}
use Rattle.key_words.specs.declared.key.Key.TheVariants.{Byte, Enter, Up, Down, Left, Right, Home, End, PgUp, PgDn, BigLeft, BigRight, Esc, Bs, Del}
use Rattle.entry_line.specs.declared.event.LineEvent.{LineEvent}
use Rattle.entry_line.specs.declared.event.LineEvent.TheVariants.{Going, Finished, GivenUp, LineFull}

-- the text, and how many bytes stand before the cursor
pub record Entry : Type 0 where
  pub text : List ℕ
  pub cursor : ℕ

-- the cursor goes to a place, or to the end where that is nearer
abbrev pub placed : Entry → ℕ → Entry
placed e place = record e { cursor = min place (length e.text) }

-- a byte comes in at the cursor
abbrev pub inserted : Entry → ℕ → Entry
inserted e b = record { text = take e.cursor e.text ++ b ∷ drop e.cursor e.text; cursor = e.cursor + 1 }

-- the line after a byte: it comes in at the cursor, and a full line stays as it was
abbrev pub typed : Entry → ℕ → Entry
typed e b = if nat_lt (length e.text) MAX_LEN then inserted e b else e

-- what a byte comes to: a full line is told
abbrev pub room : Entry → LineEvent
room e = if nat_lt (length e.text) MAX_LEN then Going else LineFull

-- the byte behind the cursor goes
abbrev pub deleted : Entry → Entry
deleted e = record e { text = take e.cursor e.text ++ drop (e.cursor + 1) e.text }

-- the byte before the cursor goes, where there is one
abbrev pub taken_back : Entry → Entry
taken_back e =
    if nat_lt 0 e.cursor
    then record { text = take (e.cursor - 1) e.text ++ drop e.cursor e.text; cursor = e.cursor - 1 } else e

-- the empty line
abbrev pub nothing : Entry
nothing = record { text = []; cursor = 0 }

-- what ESC comes to: an empty line is given up
abbrev pub escaped : Entry → LineEvent
escaped e = if nat_lt 0 (length e.text) then Going else GivenUp

-- the line after a key; under any other it stays as it was
abbrev pub after : Key → Entry → Entry
after (Byte b) e = typed e b
after Left e = placed e (e.cursor - 1)
after Right e = placed e (e.cursor + 1)
after BigLeft e = placed e (e.cursor - 5)
after BigRight e = placed e (e.cursor + 5)
after Home e = placed e 0
after End e = placed e (length e.text)
after Del e = deleted e
after Bs e = taken_back e
after Esc e = nothing
after other e = e

-- what the key comes to: any other goes on with the line
abbrev pub event : Key → Entry → LineEvent
event (Byte b) e = room e
event Esc e = escaped e
event Enter e = Finished
event Up e = Finished
event Down e = Finished
event PgUp e = Finished
event PgDn e = Finished
event other e = Going
