-- A channel is nothing, or a file's name, an access, a list of bytes and a position of at most its length.
use Rattle.std.specs.Prelude.{◌≡◌, ℕ, ◌+◌, ◌&&◌, not, nat_le, Bool, true, false, List, [], ◌++◌, length, take, drop, Option, Some, None, Result, Ok, Err, is_some, option_map, if◌then◌else◌}
use Rattle.outside_world.specs.Shelf.{OnShelf, HasPut, HasRead, file_in}
use Rattle.outside_world.specs.declared.faults.ShelfFault.{ShelfFault}
use Rattle.outside_world.specs.declared.faults.ShelfFault.TheVariants as shelf
use Rattle.text_channel.specs.declared.attached.Access.{Access}
use Rattle.text_channel.specs.declared.attached.Access.TheVariants.{Read, Write, Modify}
use Rattle.text_channel.specs.declared.attached.Attached.{Attached}
use Rattle.text_channel.specs.declared.channel.ChannelFault.{ChannelFault}
use Rattle.text_channel.specs.declared.channel.ChannelFault.TheVariants as fault
use Rattle.text_channel.specs.Lines.{Piece}

-- the most bytes that a file may hold (this project's choice)
abbrev pub LIMIT : ℕ
LIMIT = 67108864

-- whether a file that is opened so can be read
abbrev pub reads : Access → Bool
reads Read = true
reads Write = false
reads Modify = true

-- whether a file that is opened so can be written
abbrev pub writes : Access → Bool
writes Read = false
writes Write = true
writes Modify = true

-- a file that is open: its name, what may be done with it, its bytes, and the position in them
abbrev pub attached : List ℕ → Access → List ℕ → ℕ → Attached
attached name access bytes at = record { name = name; access = access; bytes = bytes; at = at }

-- the bytes that can be read: none where nothing is attached, the access is Write, or the position is the length
abbrev pub left_to_read : Option Attached → Option (List ℕ)
left_to_read None = None
left_to_read (Some a) = if reads a.access && not (nat_le (length a.bytes) a.at) then Some (drop a.at a.bytes) else None

-- the text that a read gives
abbrev pub given : (List ℕ → Piece) → Option Attached → Option (List ℕ)
given next c = option_map (λ left. (next left).text) (left_to_read c)

-- the open file behind what was read, so many bytes further; nothing changes where nothing was read
abbrev pub moved : Option ℕ → Option Attached → Option Attached
moved None c = c
moved (Some n) None = None
moved (Some n) (Some a) = Some (attached a.name a.access a.bytes (a.at + n))

-- and where it leaves the channel
abbrev pub left_after : (List ℕ → Piece) → Option Attached → Option Attached
left_after next c = moved (option_map (λ left. (next left).passed) (left_to_read c)) c

-- a write has room: an access that writes, and a length of at most the limit
abbrev pub can_write : List ℕ → Option Attached → Bool
can_write bytes None = false
can_write bytes (Some a) = writes a.access && nat_le (a.at + length bytes) LIMIT

-- the bytes stand at the position, over and past the old ones
abbrev pub with_bytes : List ℕ → Option Attached → Option Attached
with_bytes bytes None = None
with_bytes bytes (Some a) =
    Some (attached a.name a.access (take a.at a.bytes ++ bytes ++ drop (a.at + length bytes) a.bytes)
    (a.at + length bytes))

-- the open file with bytes written at its position, as it was where they can't be
abbrev pub written : List ℕ → Option Attached → Option Attached
written bytes c = if can_write bytes c then with_bytes bytes c else c

-- how many bytes the open file holds; none where none is open
abbrev pub size_of : Option Attached → Option ℕ
size_of c = option_map (λ a. length a.bytes) c

-- the position in the open file; none where none is open
abbrev pub position_of : Option Attached → Option ℕ
position_of c = option_map (λ a. a.at) c

-- whether the open file has a place: none lies past its end
abbrev pub can_stand : ℕ → Option Attached → Bool
can_stand place None = false
can_stand place (Some a) = nat_le place (length a.bytes)

-- the open file at another position, as it was where it has no such place
abbrev pub stood : ℕ → Option Attached → Option Attached
stood place None = None
stood place (Some a) = if nat_le place (length a.bytes) then Some (attached a.name a.access a.bytes place) else Some a

-- a fault of a channel, in the shelf's words
abbrev pub of_shelf : ChannelFault → ShelfFault
of_shelf fault.Failed = shelf.Failed
of_shelf fault.Memory = shelf.Memory

-- an answer, in the shelf's words
abbrev pub by_shelf : {A : Type 0} → Result A ChannelFault → Result A ShelfFault
by_shelf (Ok value) = Ok value
by_shelf (Err e) = Err (of_shelf e)

-- no file was given
abbrev pub no_file : ChannelFault → Result (Option (List ℕ)) ShelfFault
no_file e = Err (of_shelf e)

-- A put of the list was asked for: afterwards nothing is attached, unless it failed.
abbrev pub HasPutAway : Attached → Option OnShelf → Option OnShelf → Option Attached → Result Bool ChannelFault → Type 0
HasPutAway a before after now (Ok done) = (done ≡ true) × (now ≡ None) × HasPut a.name a.bytes before after (Ok tt)
HasPutAway a before after now (Err e) = (now ≡ Some a) × HasPut a.name a.bytes before after (Err (of_shelf e))

-- what closing a file did: one that was opened to be read leaves the shelf, and any other is put there
abbrev pub HasFinishedBy : Access → Attached → Option OnShelf → Option OnShelf → Option Attached
    → Result Bool ChannelFault → Type 0
HasFinishedBy Read a before after now result = (result ≡ Ok true) × (now ≡ None) × (after ≡ before)
HasFinishedBy Write a before after now result = HasPutAway a before after now result
HasFinishedBy Modify a before after now result = HasPutAway a before after now result

-- Finishing answers false exactly where nothing is attached. A file that was only read is not put.
abbrev pub HasFinished : Option Attached → Option OnShelf → Option OnShelf → Option Attached
    → Result Bool ChannelFault → Type 0
HasFinished None before after now result = (result ≡ Ok false) × (now ≡ None) × (after ≡ before)
HasFinished (Some a) before after now result = HasFinishedBy a.access a before after now result

-- what is attached by the file that the shelf gave: nothing where there is none, or one past the limit
abbrev pub opened : List ℕ → Access → Option (List ℕ) → Option Attached
opened name access None = None
opened name access (Some bytes) = if nat_le (length bytes) LIMIT then Some (attached name access bytes 0) else None

-- The shelf's file was asked for: false comes exactly where nothing is attached by it.
abbrev pub HasOpened : List ℕ → Access → Option OnShelf → Option OnShelf → Option Attached
    → Result Bool ChannelFault → Type 0
HasOpened name access before after now (Ok there) =
    (got : Option (List ℕ)) × HasRead (file_in name) name before after (Ok got) × (now ≡ opened name access got)
    × (there ≡ is_some now)
HasOpened name access before after now (Err e) = (now ≡ None) × HasRead (file_in name) name before after (no_file e)

-- Write takes the empty list; Read and Modify take the shelf's file.
abbrev pub HasTaken : List ℕ → Access → Option OnShelf → Option OnShelf → Option Attached
    → Result Bool ChannelFault → Type 0
HasTaken name Read before after now result = HasOpened name Read before after now result
HasTaken name Modify before after now result = HasOpened name Modify before after now result
HasTaken name Write before after now result =
    (result ≡ Ok true) × (now ≡ Some (attached name Write [] 0)) × (after ≡ before)

-- Attaching finishes what is there, and ends where that failed.
pub data HasAttached (name : List ℕ) (access : Access) (old : Option Attached) (before after : Option OnShelf)
    (now : Option Attached) (result : Result Bool ChannelFault) : Type 0 where
  unfinished : (e : ChannelFault) → result ≡ Err e → HasFinished old before after now (Err e) →
      HasAttached name access old before after now result
  finished : (between : Option OnShelf) (left : Option Attached) (was : Bool) →
      HasFinished old before between left (Ok was) → HasTaken name access between after now result →
      HasAttached name access old before after now result
