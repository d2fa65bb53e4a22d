-- What the forms in memory tell.
use Rattle.std.specs.Prelude.{ℕ, List, drop}
use Rattle.serial_date.specs.declared.moment.Moment.{Moment}
use Rattle.outside_world.specs.declared.clock.ListClock.{ListClock}
use Rattle.outside_world.specs.declared.keys.ListKeys.{ListKeys}
use Rattle.outside_world.specs.declared.notes.ListNotes.{ListNotes}
use Rattle.outside_world.specs.declared.map_shelf.MapShelf.{MapShelf}
use Rattle.outside_world.specs.Journal.{told_by}
use Rattle.outside_world.specs.Shelf.{OnShelf}

-- the bytes that keys have left
abbrev pub keys_left : ListKeys → List ℕ
keys_left k = drop k.at k.bytes.items

-- how many calls of keys in memory failed
abbrev pub keys_faults : ListKeys → ℕ
keys_faults k = k.faults

-- the readings that a clock has left
abbrev pub clock_readings : ListClock → List Moment
clock_readings c = drop c.at c.readings.items

-- what was written as notes
abbrev pub notes_written : ListNotes → List ℕ
notes_written n = n.bytes.items

-- how many calls of notes in memory failed
abbrev pub notes_faults : ListNotes → ℕ
notes_faults n = n.faults

-- the files of a shelf, and the answers of its calls
abbrev pub shelf_told : MapShelf → OnShelf
shelf_told s = told_by s.journal.items

-- how many calls of a shelf in memory failed
abbrev pub shelf_faults : MapShelf → ℕ
shelf_faults s = s.faults
