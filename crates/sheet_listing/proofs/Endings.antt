-- What came of reading and listing is how it ended.
use Rattle.std.proofs.Common.{◌≡◌, ℕ, List, subst, sym, inl, inr}
use Rattle.std.specs.Prelude.{◌⊎◌, Option, Ok, Err}
use Rattle.sheet_store.specs.declared.writes.SavedSheet.{SavedSheet}
use Rattle.wk1_records.specs.declared.fault.Wk1Fault.TheVariants as fault
use Rattle.wk1_file.specs.Files.{IsFile}
use Rattle.sheet_listing.specs.Ending.{EndsSo, Outside, Reads}
use Rattle.sheet_listing.specs.declared.run.Ending.{Ending}
use Rattle.sheet_listing.specs.declared.run.Ending.TheVariants.{Written, Faulty, NotRead, NotWritten, NoMemory}
use Rattle.sheet_listing.specs.inner.Reading.{HasListed, HasListedSheet}

-- bytes that are read as a sheet are its file
pub read_ok : {bytes : List ℕ} {sheet : SavedSheet} → ((Ok sheet ≡ Err fault.Memory) ⊎ IsFile bytes (Ok sheet)) →
    IsFile bytes (Ok sheet)
read_ok (inl none) = absurd cc
read_ok (inr file) = file

-- the listing of a file's bytes is that of its sheet
pub listed_bytes : (bytes : List ℕ) (sheet : SavedSheet) (before now : Option (List ℕ)) (faults faults' : ℕ)
    (ending : Ending) → IsFile bytes (Ok sheet) → HasListedSheet sheet before now faults faults' ending →
    HasListed bytes before now faults faults' ending
listed_bytes bytes sheet before now faults faults' Written file h = (sheet, file, h)
listed_bytes bytes sheet before now faults faults' (Faulty f) file h = absurd h
listed_bytes bytes sheet before now faults faults' NotRead file h = absurd h
listed_bytes bytes sheet before now faults faults' NotWritten file h = ((sheet, file, h.0), h.1)
listed_bytes bytes sheet before now faults faults' NoMemory file h = inr (sheet, file, h)

-- a run ends as the listing of what it read
pub ends_so : (before now : Outside) (bytes : List ℕ) (ending : Ending) → Reads before.left bytes now.left →
    HasListed bytes before.lines now.lines before.write_faults now.write_faults ending → EndsSo before now ending
ends_so before now bytes Written reads h = (h.0, (bytes, reads, h.1), h.2)
ends_so before now bytes (Faulty f) reads h = ((bytes, reads, h.0), h.1)
ends_so before now bytes NotRead reads h = absurd h
ends_so before now bytes NotWritten reads h = ((h.0.0, (bytes, reads, h.0.1), h.0.2), h.1)
ends_so before now bytes NoMemory reads (inl same) = inl same
ends_so before now bytes NoMemory reads (inr h) = inr (h.0, (bytes, reads, h.1), h.2)

-- the same, of bytes that are those that were read
pub ends_read : (before now : Outside) (bytes items : List ℕ) (ending : Ending) → bytes ≡ items →
    Reads before.left items now.left → HasListed bytes before.lines now.lines before.write_faults now.write_faults
    ending → EndsSo before now ending
ends_read before now bytes items ending is reads h =
    ends_so before now bytes ending (subst (λ (l : List ℕ). Reads before.left l now.left) (sym is) reads) h
