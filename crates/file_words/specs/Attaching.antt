-- What attaching and finishing a text file come to, over what the shelf answers.
use Rattle.std.specs.Prelude.{ℕ, Bool, true, false, is_some, List, [], ◌∷◌, ◌++◌, Option, None, Some}
use Rattle.commands_file.specs.Calls.{fetched, fetches, puts, written, Asked, Reply, ShelfCall}
use Rattle.text_channel.specs.Channels.{attached, opened}
use Rattle.text_channel.specs.declared.attached.Access.{Access}
use Rattle.text_channel.specs.declared.attached.Access.TheVariants.{Read, Write, Modify}
use Rattle.text_channel.specs.declared.attached.Attached.{Attached}

-- whether it was done, or none where the shelf failed; the file that is attached then; and the calls that were made,
-- with their answers
pub record Attaching : Type 0 where
  pub done : Option Bool
  pub channel : Option Attached
  pub calls : List Asked

-- without a call
abbrev pub without_call : Bool → Option Attached → Attaching
without_call done channel = record { done = Some done; channel = channel; calls = [] }

-- by one call
abbrev pub by_call : ShelfCall → Reply → Option Bool → Option Attached → Attaching
by_call call reply done channel =
    record { done = done; channel = channel; calls = record { call = call; reply = reply } ∷ [] }

-- the bytes are put on the shelf, and the file is let go, unless that failed
abbrev pub put_away : Attached → Reply → Attaching
put_away a written = by_call (puts a.name a.bytes) written (Some true) None
put_away a r = by_call (puts a.name a.bytes) r None (Some a)

-- a file that was opened to be read is let go
abbrev pub finished_by : Access → Attached → Reply → Attaching
finished_by Read a reply = without_call true None
finished_by _ a reply = put_away a reply

-- a file is finished; nothing is done where none is attached
abbrev pub finished : Option Attached → Reply → Attaching
finished None reply = without_call false None
finished (Some a) reply = finished_by a.access a reply

-- the shelf's file is attached; nothing is where there is none, or one past the most bytes, or the shelf failed
abbrev pub fetched_as : List ℕ → Access → Reply → Attaching
fetched_as name access (fetched got) =
    by_call (fetches name) (fetched got) (Some (is_some (opened name access got))) (opened name access got)
fetched_as name access r = by_call (fetches name) r None None

-- a file is attached where none is: with no bytes to be written, and else the shelf's
abbrev pub opened_as : List ℕ → Access → Reply → Attaching
opened_as name Read reply = fetched_as name Read reply
opened_as name Write reply = without_call true (Some (attached name Write [] 0))
opened_as name Modify reply = fetched_as name Modify reply

-- one behind another, unless the shelf failed
abbrev pub then_by : Option Bool → Attaching → Attaching → Attaching
then_by None first next = first
then_by (Some done) first next = record next { calls = first.calls ++ next.calls }

-- What is attached is finished first, by the shelf's first answer, and then a file is attached, by its second.
abbrev pub attaching : List ℕ → Access → Option Attached → Reply → Reply → Attaching
attaching name access c first second = then_by (finished c first).done (finished c first) (opened_as name access second)
