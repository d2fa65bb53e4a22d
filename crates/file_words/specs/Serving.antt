-- What words do to the text file that is attached and to the shelf, and what they then do to the sheet and the macro.
use Rattle.std.specs.Prelude.{◌≡◌, ℕ, ◌*◌, pos, min, option_map, Bool, true, false, List, [], ◌∷◌, ◌++◌, Option, None, Some}
use Rattle.lics_text.specs.Ascii as ascii
use Rattle.block_writes.specs.Writing.{written as writing}
use Rattle.commands_file.specs.Calls.{Asked, HasBrokenOver, HaveAnswered, Reply, ShelfView}
use Rattle.formula_tree.specs.declared.value.Content.{Content}
use Rattle.formula_tree.specs.declared.value.Content.TheVariants as content
use Rattle.grid_address.specs.Place.{Place}
use Rattle.lics_text.specs.Limits.{MAX_LEN}
use Rattle.macro_text.specs.declared.position.Spot.{Spot}
use Rattle.macro_words.specs.Values.{label}
use Rattle.macro_words.specs.declared.files.FileDeed.{FileDeed}
use Rattle.macro_words.specs.declared.files.FileWord.{FileWord}
use Rattle.macro_words.specs.declared.files.FileWord.TheVariants as word
use Rattle.macro_words.specs.declared.running.Change.TheVariants as change
use Rattle.macro_words.specs.declared.running.Deed.{Deed}
use Rattle.macro_words.specs.declared.running.Move.TheVariants as move
use Rattle.text_channel.specs.Channels.{can_stand, can_write, given, left_after, position_of, size_of, stood, written}
use Rattle.text_channel.specs.Lines.{next_bytes, next_line, Piece}
use Rattle.text_channel.specs.declared.attached.Attached.{Attached}
use Rattle.file_words.specs.Attaching.{attaching, finished, Attaching}

-- what a word does to the sheet and the macro, or none where the shelf failed; the file that is attached then; and the
-- calls that were made, with their answers
pub record Served : Type 0 where
  pub deed : Option Deed
  pub channel : Option Attached
  pub calls : List Asked

-- the macro goes on at a place where something was done, and else where it stands
abbrev pub goes_on : Spot → Bool → Deed
goes_on at true = record { change = change.Nothing; after = move.Go at }
goes_on at false = record { change = change.Nothing; after = move.Stay }

-- what was given is put into a cell, and the macro goes on at a place
abbrev pub puts_given : Spot → Place → Option Content → Deed
puts_given at c None = goes_on at false
puts_given at c (Some x) = record { change = change.Write (writing c x ∷ []); after = move.Go at }

-- how many bytes, as a number
abbrev pub number : ℕ → Content
number n = content.Number (pos (n * 1000000))

-- no call is made
abbrev pub served_alone : Deed → Option Attached → Served
served_alone deed channel = record { deed = Some deed; channel = channel; calls = [] }

-- the next bytes are put into a cell as a label
abbrev pub reads : (List ℕ → Piece) → Place → Spot → Option Attached → Served
reads next c at channel =
    served_alone (puts_given at c (option_map label (given next channel))) (left_after next channel)

-- bytes are written
abbrev pub writes : List ℕ → Spot → Option Attached → Served
writes bytes at channel = served_alone (goes_on at (can_write bytes channel)) (written bytes channel)

-- how a line ends that is written
abbrev pub line_end : List ℕ
line_end = ascii.carriage_return ∷ ascii.line_feed ∷ []

-- a file was attached or finished
abbrev pub served_by : Spot → Attaching → Served
served_by at x = record { deed = option_map (goes_on at) x.done; channel = x.channel; calls = x.calls }

-- What a word does, by what is attached and the shelf's first and second answers.
abbrev pub served : FileWord → Spot → Reply → Reply → Option Attached → Served
served (word.Open name access) at first second c = served_by at (attaching name access c first second)
served word.Close at first second c = served_by at (finished c first)
served (word.Read count p) at first second c = reads (next_bytes (min count MAX_LEN)) p at c
served (word.ReadLine p) at first second c = reads next_line p at c
served (word.Write text) at first second c = writes text at c
served (word.WriteLine text) at first second c = writes (text ++ line_end) at c
served (word.Size p) at first second c = served_alone (puts_given at p (option_map number (size_of c))) c
served (word.Position p) at first second c = served_alone (puts_given at p (option_map number (position_of c))) c
served (word.SetPosition place) at first second c = served_alone (goes_on at (can_stand place c)) (stood place c)

-- A word did this over some answers of the shelf, which are those that what the shelf holds gives: it made of what was
-- attached another, and its calls left the shelf so.
pub record WasServed (serves : Reply → Reply → Option Attached → Served) (deed : Option Deed)
    (old now : Option Attached) (before after : ShelfView) : Type 0 where
  pub first : Reply
  pub second : Reply
  pub deed_so : deed ≡ (serves first second old).deed
  pub channel_so : now ≡ (serves first second old).channel
  pub answered : HaveAnswered (serves first second old).calls before after

-- memory ran out in a word, which made of a shelf another
abbrev pub HasBrokenWord : (Reply → Reply → Option Attached → Served) → Option Attached → ShelfView → ShelfView → Type 0
HasBrokenWord serves old before now =
    HasBrokenOver (λ (replies : Reply × Reply). (serves replies.0 replies.1 old).calls) before now

-- what a word does that is told with its place
abbrev pub served_word : FileDeed → Reply → Reply → Option Attached → Served
served_word d first second c = served d.word d.done first second c

-- the cell that a word writes, if it writes one
abbrev pub target_of : FileWord → Option Place
target_of (word.Read count p) = Some p
target_of (word.ReadLine p) = Some p
target_of (word.Size p) = Some p
target_of (word.Position p) = Some p
target_of _ = None
