-- What bytes are as a worksheet file.
use Rattle.std.specs.Prelude.{ℕ, ◌≡◌, ◌≤◌, ◌<◌, Bool, true, false, ◌&&◌, ◌==◌, nat_le, Result, Err, List, length}
use Rattle.sheet_store.specs.declared.writes.SavedSheet.{SavedSheet}
use Rattle.wk1_formula.specs.Reading.{short_at}
use Rattle.wk1_records.specs.Kinds.{number_of}
use Rattle.wk1_records.specs.Records.{Records, Splits}
use Rattle.wk1_records.specs.declared.kind.RecordKind.TheVariants as kind
use Rattle.wk1_file.specs.Sheets.{sheet_of}
use Rattle.wk1_records.specs.declared.fault.Wk1Fault.{Wk1Fault}
use Rattle.wk1_records.specs.declared.fault.Wk1Fault.TheVariants as fault

-- the number of the first release whose files are read: its bytes are 04 04
abbrev pub FIRST_RELEASE : ℕ
FIRST_RELEASE = 0x0404

-- the number of the last such release, which is Release 2: its bytes are 06 04
abbrev pub LAST_RELEASE : ℕ
LAST_RELEASE = 0x0406

-- the most bytes of a file (this project's choice)
abbrev pub MOST_BYTES : ℕ
MOST_BYTES = 67108864

-- the first record is BOF, and its body begins 04 04, 05 04 or 06 04
abbrev pub has_bof : List ℕ → Bool
has_bof bytes =
    (nat_le 6 (length bytes) && (short_at 0 bytes == number_of kind.Bof))
    && (nat_le 2 (short_at 2 bytes)
    && (nat_le FIRST_RELEASE (short_at 4 bytes) && nat_le (short_at 4 bytes) LAST_RELEASE))

-- bytes are a sheet, or have this first fault
pub data IsFile : List ℕ → Result SavedSheet Wk1Fault → Type 0 where
  large : {bytes : List ℕ} → MOST_BYTES < length bytes → IsFile bytes (Err fault.FileTooLarge)
  bare : {bytes : List ℕ} → length bytes ≤ MOST_BYTES → has_bof bytes ≡ false → IsFile bytes (Err fault.NoBof)
  read : {bytes : List ℕ} {rs : Records} → length bytes ≤ MOST_BYTES → has_bof bytes ≡ true → Splits 0 bytes rs
      → IsFile bytes (sheet_of rs)
