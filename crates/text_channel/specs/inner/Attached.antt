-- What a channel keeps of its file.
use Rattle.std.specs.Prelude.{◌≤◌, length, Option, Some, None}
use Rattle.text_channel.specs.declared.attached.Attached.{Attached}
use Rattle.text_channel.specs.Channels.{LIMIT}

-- an open file is within its bounds: its position in its bytes, and these within the most that a file may hold
abbrev pub IsWithin : Option Attached → Type 0
IsWithin None = Unit {0}
IsWithin (Some a) = (a.at ≤ length a.bytes) × (length a.bytes ≤ LIMIT)
