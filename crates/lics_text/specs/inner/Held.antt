-- Where the bytes of a text are.
use Rattle.std.specs.Prelude.{ℕ, List}
use Rattle.lics_text.specs.declared.held.Held.{Held}
use Rattle.lics_text.specs.declared.held.Held.TheVariants.{In22, In39, In55, In87, In119, In183, In240}

-- the bytes that are held
abbrev pub held_bytes : Held → List ℕ
held_bytes (In22 room) = room
held_bytes (In39 room) = room.value
held_bytes (In55 room) = room.value
held_bytes (In87 room) = room.value
held_bytes (In119 room) = room.value
held_bytes (In183 room) = room.value
held_bytes (In240 room) = room.value
