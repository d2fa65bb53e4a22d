-- How a prompt begins.
use Rattle.std.specs.Prelude.{ℕ, List, length, Option, None, Some, slice_get, if◌then◌else◌}
use Rattle.entry_line.specs.Line.{nothing, Entry}
use Rattle.grid_address.specs.Place.{Place}
use Rattle.menu_tree.specs.Tree.{prompts}
use Rattle.menu_tree.specs.declared.menu.Action.{Action}
use Rattle.menu_tree.specs.declared.menu.Action.TheVariants as action
use Rattle.menu_tree.specs.declared.menu.Ask.{Ask}
use Rattle.menu_tree.specs.declared.menu.Ask.TheVariants as ask
use Rattle.menu_tree.specs.declared.menu.FileAction.TheVariants as file
use Rattle.room_keys.specs.pointing.Pointing.{anchored_at, pointed_at}
use Rattle.room_keys.specs.declared.prompt.following.WhatFollows.{WhatFollows}
use Rattle.room_keys.specs.declared.prompt.following.WhatFollows.TheVariants.{Asks, Looks, Acts}
use Rattle.session_rooms.specs.Lines.{fits_line, line_of}
use Rattle.session_rooms.specs.declared.answers.AnsweredCommand.{AnsweredCommand}
use Rattle.session_rooms.specs.declared.rooms.Answering.{Answering}
use Rattle.session_rooms.specs.declared.rooms.Answering.TheVariants as answering

-- what the next prompt asks for
abbrev pub next_ask : AnsweredCommand → Option Ask
next_ask c = slice_get (prompts c.action) (length c.answers)

-- the line of a name, where there is one
abbrev pub line_in : Option (List ℕ) → Option Entry
line_in None = None
line_in (Some name) = if fits_line name then Some (line_of name) else None

-- a line that is shown until the first byte is typed, or an empty one
abbrev pub kept_or_typed : Option Entry → Answering
kept_or_typed None = answering.Typing nothing
kept_or_typed (Some e) = answering.Kept e

-- a save begins with the name of the last one, and any other command with an empty line
abbrev pub file_answering : Action → Option (List ℕ) → Answering
file_answering (action.File file.Save) saved = kept_or_typed (line_in saved)
file_answering a saved = answering.Typing nothing

-- a range begins anchored at the pointer, and a cell begins there without an anchor
abbrev pub opened_by : Option Ask → Place → Answering → WhatFollows
opened_by None pointer named = Acts
opened_by (Some ask.Range) pointer named = Asks (answering.Pointing (anchored_at pointer))
opened_by (Some ask.Cell) pointer named = Asks (answering.Pointing (pointed_at pointer))
opened_by (Some ask.File) pointer named = Asks named
opened_by (Some ask.Replace) pointer named = Looks
opened_by (Some ask.Confirm) pointer named = Asks (answering.Choosing 0)
opened_by (Some k) pointer named = Asks (answering.Typing nothing)

-- what follows where a command has these answers, over this pointer and the name of the file that was saved last
abbrev pub opening : AnsweredCommand → Place → Option (List ℕ) → WhatFollows
opening c pointer saved = opened_by (next_ask c) pointer (file_answering c.action saved)
