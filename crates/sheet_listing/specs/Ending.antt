-- What a run of the listing program comes to.
use Rattle.std.specs.Prelude.{ℕ, ◌≡◌, ◌⊎◌, Option, Some, None, Ok, Err, List, [], ◌∷◌, ◌++◌, codes, drop, take}
use Rattle.lics_text.specs.Ascii as ascii
use Rattle.outside_world.specs.Causes.{Rose}
use Rattle.sheet_store.specs.declared.writes.SavedSheet.{SavedSheet}
use Rattle.wk1_file.specs.Files.{IsFile}
use Rattle.file_faults.specs.Faults.{fault_text}
use Rattle.sheet_listing.specs.Listed.{listed}
use Rattle.sheet_listing.specs.Waiting.{added, IsFront}
use Rattle.sheet_listing.specs.declared.run.Ending.{Ending}
use Rattle.sheet_listing.specs.declared.run.Ending.TheVariants.{Written, Faulty, NotRead, NotWritten, NoMemory}

-- how many bytes are read at most: one more than a worksheet file may have
abbrev pub MOST_READ : ℕ
MOST_READ = 67108865

-- these bytes were read of all that there are; of input that tells nothing nothing is said
abbrev pub Reads : Option (List ℕ) → List ℕ → Option (List ℕ) → Type 0
Reads None bytes left = left ≡ None
Reads (Some all) bytes left = (bytes ≡ take MOST_READ all) × (left ≡ Some (drop MOST_READ all))

-- what the run reads from and writes to, before it and after it: the bytes that are left, and how often reading them
-- failed; the lines, and how often writing them failed
pub record Outside : Type 0 where
  pub left : Option (List ℕ)
  pub read_faults : ℕ
  pub lines : Option (List ℕ)
  pub write_faults : ℕ

-- what stands outside: the bytes that are left and how often reading failed, the lines and how often writing failed
abbrev pub outside : Option (List ℕ) → ℕ → Option (List ℕ) → ℕ → Outside
outside left read_faults lines write_faults = record {
  left = left;
  read_faults = read_faults;
  lines = lines;
  write_faults = write_faults;
}

-- the bytes were read and are a sheet
abbrev pub IsRead : Outside → Outside → SavedSheet → Type 0
IsRead before now sheet = (bytes : List ℕ) × Reads before.left bytes now.left × IsFile bytes (Ok sheet)

-- the bytes were read and are a sheet, of whose lines a front was written
abbrev pub IsBegun : Outside → Outside → Type 0
IsBegun before now =
    (sheet : SavedSheet) × IsRead before now sheet × IsFront now.lines (added before.lines (listed sheet))

-- what came of reading and writing, by how it ended: all lines of the sheet were written; the bytes are no sheet and
-- have this first fault; a read failed; a write failed; or memory ran out
abbrev pub EndsSo : Outside → Outside → Ending → Type 0
EndsSo before now Written =
    (sheet : SavedSheet) × IsRead before now sheet × (now.lines ≡ added before.lines (listed sheet))
EndsSo before now (Faulty f) =
    ((bytes : List ℕ) × Reads before.left bytes now.left × IsFile bytes (Err f)) × (now.lines ≡ before.lines)
EndsSo before now NotRead = Rose before.read_faults now.read_faults × (now.lines ≡ before.lines)
EndsSo before now NotWritten = IsBegun before now × Rose before.write_faults now.write_faults
EndsSo before now NoMemory = (now.lines ≡ before.lines) ⊎ IsBegun before now

-- a line that begins with the program's name
abbrev pub note : List ℕ → List ℕ
note text = codes "1-2-3-list: " ++ (text ++ ascii.line_feed ∷ [])

-- the note on an ending; a sheet that is listed has none
abbrev pub ending_note : Ending → List ℕ
ending_note Written = []
ending_note (Faulty f) = note (fault_text f)
ending_note NotRead = note (codes "input failed")
ending_note NotWritten = note (codes "output failed")
ending_note NoMemory = note (codes "memory full")

-- the status of an ending
abbrev pub status_of : Ending → ℕ
status_of Written = 0
status_of (Faulty f) = 2
status_of NotRead = 5
status_of NotWritten = 7
status_of NoMemory = 9

-- a note was written, or a front of it, and then a write failed
abbrev pub IsNoted : List ℕ → Option (List ℕ) → Option (List ℕ) → ℕ → ℕ → Type 0
IsNoted text before now faults faults' =
    ((now ≡ added before text) × (faults' ≡ faults)) ⊎ (IsFront now (added before text) × Rose faults faults')

-- the note on a word of the command line, which takes none
abbrev pub word_note : List ℕ → List ℕ
word_note word = note (codes "bad word: " ++ word)

-- what comes of a run that takes no words: its ending is told, and its status is the ending's; a word is refused by
-- name, with status 1 and nothing read or written
abbrev pub Runs : Option (List ℕ) → Outside → Outside → Option (List ℕ) → Option (List ℕ) → ℕ → ℕ → ℕ → Type 0
Runs None before now notes notes' faults faults' status =
    (ending : Ending)
    × EndsSo before now ending
    × IsNoted (ending_note ending) notes notes' faults faults'
    × (status ≡ status_of ending)
Runs (Some word) before now notes notes' faults faults' status =
    (now ≡ before) × IsNoted (word_note word) notes notes' faults faults' × (status ≡ 1)
