-- The next unit of a macro, as its text now stands.
use Rattle.std.specs.Prelude.{ℕ, zero, suc, ℤ, ◌+◌, Bool, true, false, nat_lt, List, Option, Some, None, if◌then◌else◌}
use Rattle.at_functions.specs.Numbers.{count_of}
use Rattle.formula_parts.specs.Outlook.{Outlook}
use Rattle.formula_text.specs.Words.{named_span}
use Rattle.grid_address.specs.Place.{Extent, Place}
use Rattle.grid_address.specs.Limits.{LAST_ROW}
use Rattle.key_words.specs.declared.key.Key.{Key}
use Rattle.key_words.specs.declared.macro_word.MacroWord.{MacroWord}
use Rattle.key_words.specs.declared.macro_word.MacroWord.TheVariants as word
use Rattle.key_words.specs.MacroText.{unit_at}
use Rattle.macro_text.specs.Arguments.{number_of}
use Rattle.macro_text.specs.Texts.{macro_text, part}
use Rattle.macro_text.specs.declared.position.Position.{Position}
use Rattle.macro_text.specs.declared.position.Spot.{Spot}
use Rattle.macro_text.specs.declared.unit.MacroFault.TheVariants as fault
use Rattle.macro_text.specs.declared.unit.WordOutcome.{WordOutcome}
use Rattle.macro_text.specs.declared.unit.WordOutcome.TheVariants.{Now, Passed}
use Rattle.macro_text.specs.declared.unit.Unit.{Unit}
use Rattle.macro_text.specs.declared.unit.Unit.TheVariants as unit

-- what the macro does, and where it goes on
abbrev pub Next : Type 0
Next = Unit × Position

-- at the beginning of a cell's text
abbrev pub start_of : Place → Spot
start_of c = record { cell = c; offset = 0 }

-- at a place, with nothing typed
abbrev pub at_spot : Spot → Position
at_spot s = record { spot = s; typed = 0 }

-- behind the word, which ends at this offset
abbrev pub behind : ℕ → Position → Position
behind end p = at_spot (record { cell = p.spot.cell; offset = end })

-- the cell below
abbrev pub cell_below : Place → Place
cell_below c = record { row = c.row + 1; col = c.col }

-- behind the text's end the macro goes to the cell below; below the last row it returns
abbrev pub down : Position → Next
down p =
    if nat_lt p.spot.cell.row LAST_ROW then (unit.Down, at_spot (start_of (cell_below p.spot.cell)))
    else (unit.Return, p)

-- a word that is none
abbrev pub unknown : Position → Next
unknown p = (unit.Fault fault.UnknownWord, p)

-- a command, or a call: its word stands at the place
abbrev pub carried : ℕ → Position → Next
carried end p = (unit.Command p.spot, behind end p)

-- a call of a name, where there is such a name
abbrev pub call_unit : Option Extent → ℕ → Position → Next
call_unit None end p = unknown p
call_unit (Some s) end p = carried end p

-- a key that is to be typed so often was typed less often; below 0 is never
abbrev pub is_left : Option ℕ → ℕ → Bool
is_left None typed = false
is_left (Some n) typed = nat_lt typed n

-- A repeated key is typed once more, or passed where it was typed as often as it is to be: a number, cut toward zero.
abbrev pub repeated_outcome : Key → Option ℤ → ℕ → Position → WordOutcome
repeated_outcome k None end p = Now (unit.Fault fault.BadArgument) p
repeated_outcome k (Some n) end p =
    if is_left (count_of n) p.typed then Now (unit.Key k) (record p { typed = p.typed + 1 }) else Passed (behind end p)

-- the macro does this
abbrev pub now : Next → WordOutcome
now n = Now n.0 n.1

-- a word that ends at this offset; the number of a repeated key is read anew each time
abbrev pub word_outcome : Outlook → List ℕ → MacroWord → ℕ → Position → WordOutcome
word_outcome w text (word.Key k) end p = Now (unit.Key k) (behind end p)
word_outcome w text (word.Repeated k c) end p = repeated_outcome k (number_of w p.spot.cell (part text c)) end p
word_outcome w text (word.Command c args) end p = now (carried end p)
word_outcome w text (word.Call name args) end p = now (call_unit (named_span w.sight.names (part text name)) end p)
word_outcome w text (word.PlaceCall c) end p = now (carried end p)
word_outcome w text word.End end p = now (down p)
word_outcome w text word.Bad end p = now (unknown p)

-- the place of the word of a command, or of a call
abbrev pub command_of : Unit → Option Spot
command_of (unit.Command at) = Some at
command_of _ = None

-- the same of what a word comes to
abbrev pub command_in : WordOutcome → Option Spot
command_in (Now u p) = command_of u
command_in (Passed p) = None

-- a cell without a text ends the routine
abbrev pub text_outcome : Outlook → Option (List ℕ) → Position → WordOutcome
text_outcome w None p = Now unit.Return p
text_outcome w (Some text) p = word_outcome w text (unit_at text p.spot.offset).0 (unit_at text p.spot.offset).1 p

-- the word at the place, as the text now stands
unfoldable pub outcome_at : Outlook → Position → WordOutcome
outcome_at w p = text_outcome w (macro_text w.sight p.spot.cell) p

-- what the macro does, or what it does behind a word that it passes
abbrev pub go_on : WordOutcome → (Position → Next) → Next
go_on (Now u p) rest = (u, p)
go_on (Passed p) rest = rest p

-- within so many words
unfoldable pub unit_within : ℕ → Outlook → Position → Next
unit_within zero w p = (unit.Return, p)
unit_within (suc n) w p = go_on (outcome_at w p) (unit_within n w)

-- a text has at most 240 words, and an end
abbrev pub most_words : ℕ
most_words = 241

-- The next unit of a macro, and where it goes on: that of the word at its place, or behind the repeated keys that were
-- typed as often as they are to be.
abbrev pub next_unit : Outlook → Position → Next
next_unit w p = unit_within most_words w p
