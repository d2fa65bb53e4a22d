-- How a file is read, record by record.
use Rattle.std.proofs.Common.{◌≡◌, ℕ, ◌≤◌, ◌+◌, true, cond, List, ◌++◌, length, drop, get_or, refl}
use Rattle.std.proofs.Common.{ap, ◌∙◌, sym, subst, arith, length-append, length-drop}
use Rattle.std.specs.Prelude.{fold, Some, Result, Ok, Err}
use Rattle.std.proofs.lemmas.List.{drop-drop, get_or-drop}
use Rattle.grid_address.proofs.Places.{get_inserted, same_place_itself}
use Rattle.std.specs.FinMap.{get, insert, remove}
use Rattle.std.proofs.lemmas.Option.{none-some, same_Some}
use Rattle.formula_tree.specs.declared.value.Content.{Content}
use Rattle.formula_tree.specs.declared.value.Content.TheVariants as content
use Rattle.sheet_store.specs.Grid.{is_formula, is_kept}
use Rattle.sheet_store.specs.State.{CellState}
use Rattle.sheet_store.specs.declared.writes.SavedSheet.{SavedSheet}
use Rattle.wk1_records.specs.Kinds.{kind_of}
use Rattle.wk1_records.specs.Meanings.{meaning_by}
use Rattle.wk1_records.specs.Records.{at_cut, at_end, at_piece, cut, ended, piece, piece_bytes, IsBytes, IsFront}
use Rattle.wk1_records.specs.Records.{IsPiece, Piece, Records, Splits}
use Rattle.wk1_file.specs.Sheets.{entries_in, entry_then, fault_or, first_fault, unless_fault, with_entry}
use Rattle.wk1_file.specs.Sheets.{Progress}
use Rattle.wk1_file.specs.inner.Takes.{Ahead, IsEntry, IsMinded, Makes}
use Rattle.wk1_records.specs.declared.entry.Entry.{Entry}
use Rattle.wk1_records.specs.declared.entry.Entry.TheVariants as entry
use Rattle.wk1_records.specs.declared.fault.Wk1Fault.{Wk1Fault}
use Rattle.wk1_records.specs.declared.fault.Wk1Fault.TheVariants as fault
use Rattle.wk1_file.proofs.Totals.{all_split}

kept_formula : (c : CellState) → is_formula c.content ≡ true → is_kept c ≡ true
kept_formula c h = of c.content h
  where
    of : (k : Content) → is_formula k ≡ true → is_kept (record c { content = k }) ≡ true
    of content.Blank h = absurd cc
    of (content.Number x) h = absurd cc
    of (content.Label p t) h = absurd cc
    of (content.Formula f) h = refl

-- the cell that is kept in mind holds a formula after each record
pub minded_on : (r : Progress) (e : Entry) → IsEntry e → IsMinded (with_entry r e)
minded_on r entry.Nothing h = λ p none. absurd (none-some p none)
minded_on r (entry.Automatic b) h = λ p none. absurd (none-some p none)
minded_on r (entry.Order o) h = λ p none. absurd (none-some p none)
minded_on r (entry.Window p f w) h = λ p none. absurd (none-some p none)
minded_on r (entry.Width col w) h = λ p none. absurd (none-some p none)
minded_on r (entry.Hidden bits) h = λ p none. absurd (none-some p none)
minded_on r (entry.Name name span) h = λ p none. absurd (none-some p none)
minded_on r (entry.State p s) h = λ p none. absurd (none-some p none)
minded_on r (entry.Formula p s) h = λ q same.
    let is : p ≡ q = same_Some p q same in
    let m = r.sheet.store.cells in
    let there : get (insert m p s) p ≡ Some s =
    get_inserted m p s p ∙ ap (λ b. cond b (Some s) (get m p)) (same_place_itself p) in (
      s,
      ap (λ b. get (cond b (insert m p s) (remove m p)) q) (kept_formula s h.1) ∙ ap (get (insert m p s)) (sym is)
          ∙ there,
      h.1,
    )
minded_on r (entry.Text p t) h = λ p none. absurd (none-some p none)
minded_on r (entry.Protection b) h = λ p none. absurd (none-some p none)
minded_on r (entry.Prefix b) h = λ p none. absurd (none-some p none)
minded_on r (entry.Passes n) h = λ p none. absurd (none-some p none)

module _ (bytes : List ℕ) (at n : ℕ) (r : Progress) (kind : ℕ) (body : List ℕ) (ahead : Ahead bytes at n r)
    (front : IsFront (drop at bytes) kind body) where
  abbrev next : ℕ
  next = at + (4 + length body)

  abbrev this : Piece
  this = record { kind = kind; body = body }

  behind : drop (4 + length body) (drop at bytes) ≡ drop next bytes
  behind = drop-drop (4 + length body) at bytes

  with_rest : (rs : Records) → (kind ≡ 1 → ⊥) → Splits next (drop next bytes) rs
      → Splits at (drop at bytes) (piece this rs)
  with_rest rs other d =
      subst (λ l. Splits at l (piece this rs)) (sym front.is) (at_piece this (drop (4 + length body) (drop at bytes))
      other front.fits (subst (λ l. Splits next l rs) (sym behind) d))

  step : (rs : Records) → Result Entry Wk1Fault → Result SavedSheet Wk1Fault
  step rs m =
      unless_fault (fault_or m (first_fault (n + 1) rs))
      (fold with_entry r (entry_then m (entries_in (n + 1) rs))).sheet

  -- behind a record that says something, the file goes on with what it makes of the sheet
  pub goes_on : (e : Entry) → (kind ≡ 1 → ⊥) → meaning_by n body (kind_of kind) ≡ Ok e
      → Ahead bytes next (n + 1) (with_entry r e)
  unfolding step
  goes_on e other said rs d = subst (Makes bytes) (ap (step rs) said) (ahead (piece this rs) (with_rest rs other d))

  -- where a record has a fault, the file has it
  pub is_fault : (f : Wk1Fault) → IsBytes bytes → (kind ≡ 1 → ⊥) → meaning_by n body (kind_of kind) ≡ Err f
      → Makes bytes (Err f)
  unfolding step
  is_fault f small other said =
      let rest =
      all_split (length (drop next bytes)) next (drop next bytes) (omega arith)
      (λ i. rw get_or-drop (small (next + i))) in
      subst (Makes bytes) (ap (step rest.0) said) (ahead (piece this rest.0) (with_rest rest.0 other rest.1))

  -- a whole record ends within the bytes
  pub fits : at ≤ length bytes → next ≤ length bytes
  fits h =
      let rest : List ℕ = drop (4 + length body) (drop at bytes) in
      let size : length (drop at bytes) ≡ 4 + (length body + length rest) =
      ap length front.is ∙ omega (arith, length-append body rest) in
      omega (arith, size, length-drop at bytes, h)

  -- an EOF ends the file, and what was read is its sheet
  pub is_end : kind ≡ 1 → Makes bytes (Ok r.sheet)
  is_end e =
      ahead ended (subst (λ l. Splits at l ended) (sym front.is)
      (at_end this (drop (4 + length body) (drop at bytes)) e front.fits))

-- where no whole record begins, the file is cut off
pub is_cut : (bytes : List ℕ) (at n : ℕ) (r : Progress) → Ahead bytes at n r
    → ((p : Piece) (rest : List ℕ) → IsPiece p → drop at bytes ≡ piece_bytes p ++ rest → ⊥)
    → Makes bytes (Err (fault.Truncated at))
is_cut bytes at n r ahead none = ahead (cut at) (at_cut none)
