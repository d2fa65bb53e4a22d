-- Every list of bytes is a file.
use Rattle.std.proofs.Common.{ℕ, zero, suc, ◌+◌, ◌≤◌, List, length, take, drop, sym, subst, arith, inl, inr}
use Rattle.std.proofs.Common.{length-drop}
use Rattle.std.specs.Prelude.{Result, Err}
use Rattle.std.proofs.lemmas.Bool.{cases_Bool, cases_eq, cases_lt}
use Rattle.std.proofs.lemmas.List.{get_or-drop}
use Rattle.sheet_store.specs.declared.writes.SavedSheet.{SavedSheet}
use Rattle.wk1_formula.specs.Reading.{short_at}
use Rattle.wk1_file.specs.Files.{bare, has_bof, large, read, IsFile}
use Rattle.wk1_records.specs.Records.{at_cut, at_end, at_piece, cut, ended, piece, IsBytes, Piece, Records, Splits}
use Rattle.wk1_file.specs.Sheets.{sheet_of}
use Rattle.wk1_records.specs.declared.fault.Wk1Fault.{Wk1Fault}
use Rattle.wk1_records.specs.declared.fault.Wk1Fault.TheVariants as fault
use Rattle.wk1_records.proofs.Fronts.{no_piece, too_few, whole_piece}

-- any bytes are records, up to an EOF or to where the next is cut off
pub all_split : (fuel at : ℕ) (bytes : List ℕ) → length bytes ≤ fuel → IsBytes bytes
    → (rs : Records) × Splits at bytes rs
all_split zero at bytes few h = (cut at, at_cut (too_few bytes (omega (arith, few))))
all_split (suc n) at bytes few h =
    elim (cases_lt (length bytes) 4) [
      | inl lt ↦ (cut at, at_cut (too_few bytes lt))
      | inr four ↦ elim (cases_lt (length bytes) (4 + short_at 2 bytes)) [
        | inl lt ↦ (cut at, at_cut (no_piece bytes lt))
        | inr long ↦ (
            let body : List ℕ = take (short_at 2 bytes) (drop 4 bytes) in
            let f = whole_piece bytes h four long in
            let p : Piece = record { kind = short_at 0 bytes; body = body } in
            let rest : List ℕ = drop (4 + length body) bytes in
            elim (cases_eq (short_at 0 bytes) 1) [
              | inl e ↦ (ended, subst (λ l. Splits at l ended) (sym f.is) (at_end p rest e f.fits))
              | inr other ↦ (
                  let r =
                  all_split n (at + (4 + length body)) rest
                  (omega (arith, few, four, length-drop (4 + length body) bytes))
                  (λ i. rw get_or-drop (h (4 + length body + i))) in
                  (piece p r.0, subst (λ l. Splits at l (piece p r.0)) (sym f.is) (at_piece p rest other f.fits r.1))
                  )
            ]
            )
      ]
    ]

-- any bytes are a file, of a sheet or with a fault
pub any_file : (bytes : List ℕ) → IsBytes bytes → (x : Result SavedSheet Wk1Fault) × IsFile bytes x
any_file bytes h =
    elim (cases_lt 67108864 (length bytes)) [
      | inl more ↦ (Err fault.FileTooLarge, large more)
      | inr most ↦ elim (cases_Bool (has_bof bytes)) [
        | inl begun ↦ (let r = all_split (length bytes) 0 bytes (omega arith) h in (sheet_of r.0, read most begun r.1))
        | inr none ↦ (Err fault.NoBof, bare most none)
      ]
    ]
