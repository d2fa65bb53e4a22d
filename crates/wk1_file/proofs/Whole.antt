-- What is saved of a sheet is read as the sheet.
use Rattle.std.proofs.Common.{◌≡◌, ℕ, ◌≤◌, true, false, nat_le, List, [], ◌∷◌, ◌++◌, length, map, replicate, refl, ap}
use Rattle.std.proofs.Common.{◌∙◌, subst, arith}
use Rattle.std.specs.FinMap.{empty, entries}
use Rattle.std.specs.List.{AllByRecursion}
use Rattle.std.specs.Prelude.{None, Ok, flat_map, fold}
use Rattle.std.proofs.lemmas.Bool.Decides.{nat_tests}
use Rattle.std.proofs.lemmas.List.Sums.{fold-append}
use Rattle.grid_address.specs.Place.{Place}
use Rattle.range_names.specs.Names.{name_in}
use Rattle.sheet_store.specs.declared.writes.SavedSheet.{SavedSheet}
use Rattle.wk1_file.specs.Files.{has_bof, read, IsFile}
use Rattle.wk1_records.specs.Meanings.{meaning}
use Rattle.wk1_records.specs.Records.{pieces_bytes, piece_bytes, Piece}
use Rattle.wk1_file.specs.Said.{cell_entries, name_entry_of, records_of, settings_entries, widths_entries, IsRecord}
use Rattle.wk1_file.specs.Said.{IsSavedSheet, Says}
use Rattle.wk1_file.specs.inner.HiddenEntries.{hidden_entries}
use Rattle.wk1_records.specs.Bodies.{made, place_bytes}
use Rattle.wk1_file.specs.Saved.{bof, cell_pieces, eof, file_bytes, hidden_pieces, name_piece, range_end, range_piece}
use Rattle.wk1_file.specs.Saved.{records_before, settings_pieces, width_pieces}
use Rattle.wk1_file.specs.Sheets.{first_fault, sheet_of, start, unless_fault, with_entry, with_names, with_widths}
use Rattle.wk1_file.specs.Sheets.{Progress}
use Rattle.wk1_file.specs.inner.HiddenEntries.{with_hidden}
use Rattle.wk1_records.specs.declared.entry.Entry.{Entry}
use Rattle.wk1_records.specs.declared.entry.Entry.TheVariants as entry
use Rattle.wk1_records.specs.declared.kind.RecordKind.TheVariants as kind
use Rattle.wk1_file.proofs.Cells.{cell_said}
use Rattle.wk1_file.proofs.Filling.{cells_taken}
use Rattle.wk1_file.proofs.Heads.{by_type, tested}
use Rattle.wk1_file.proofs.HiddenRead.{hidden_records, hidden_said, hidden_taken}
use Rattle.wk1_file.proofs.NamesRead.{names_said, names_taken}
use Rattle.wk1_file.proofs.Settings.{settings_said}
use Rattle.wk1_file.proofs.Short.{both_records, cells_records, head_records, names_records, settings_records}
use Rattle.wk1_file.proofs.Short.{widths_records}
use Rattle.wk1_file.proofs.Splitting.{all_said, no_fault, said_both, splits_back}
use Rattle.wk1_file.proofs.Widths.{widths_said, widths_taken}
use Rattle.wk1_file.specs.Said.{IsSavedCell}
use Rattle.sheet_store.specs.State.{CellState}

abbrev range_body : Place → List ℕ
range_body p = place_bytes (record { row = 0; col = 0 }) ++ place_bytes p

range_said : (p : Place) (n : ℕ) → meaning n (range_piece p) ≡ Ok entry.Nothing
range_said p n =
    by_type n kind.Range (range_body p) (λ x. absurd cc)
    ∙ tested n (range_body p) kind.Range entry.Nothing (omega arith) refl refl

bof_said : (n : ℕ) → meaning n bof ≡ Ok entry.Nothing
bof_said n =
    by_type n kind.Bof (6 ∷ 4 ∷ []) (λ x. absurd cc)
    ∙ tested n (6 ∷ 4 ∷ []) kind.Bof entry.Nothing (omega arith) refl refl

cells_said : (es : List (Place × CellState)) → AllByRecursion IsSavedCell es
    → Says (flat_map cell_pieces es) (flat_map cell_entries es)
cells_said [] h = tt
cells_said (e ∷ es) h =
    said_both (cell_pieces e) (flat_map cell_pieces es) (cell_entries e) (flat_map cell_entries es)
    (cell_said e.0 e.1.content e.1.value e.1.format h.0.0) (cells_said es h.1)

begins : (rest : List ℕ) → has_bof (piece_bytes bof ++ rest) ≡ true
begins rest =
    (let long : nat_le 6 (length (piece_bytes bof ++ rest)) ≡ true =
    (let l : 6 ≤ length (piece_bytes bof ++ rest) = omega arith in grind (arith, nat_tests, l)) in
    rw long refl)

module _ (s : SavedSheet) (h : IsSavedSheet s) where
  abbrev names_pieces : List Piece
  names_pieces = map (λ e. name_piece (name_in e.0) e.1) (entries s.names)

  abbrev cells_pieces : List Piece
  cells_pieces = flat_map cell_pieces (entries s.store.cells)

  abbrev names_entries : List Entry
  names_entries = map name_entry_of (entries s.names)

  abbrev cells_entries : List Entry
  cells_entries = flat_map cell_entries (entries s.store.cells)

  abbrev hidden : List Piece
  hidden = hidden_pieces s.store.hidden

  abbrev told : List Entry
  told = hidden_entries s.store.hidden

  abbrev pieces : List Piece
  pieces = records_before s

  abbrev says : List Entry
  says =
      (entry.Nothing ∷ entry.Nothing ∷ settings_entries s.settings)
      ++ (widths_entries s.store ++ (told ++ (names_entries ++ cells_entries)))

  said : Says pieces says
  said =
      said_both (bof ∷ range_piece (range_end s.store) ∷ settings_pieces s.settings)
      (width_pieces s.store ++ (hidden ++ (names_pieces ++ cells_pieces)))
      (entry.Nothing ∷ entry.Nothing ∷ settings_entries s.settings)
      (widths_entries s.store ++ (told ++ (names_entries ++ cells_entries)))
      (bof_said, (range_said (range_end s.store), settings_said s.settings h.settings))
      (said_both (width_pieces s.store) (hidden ++ (names_pieces ++ cells_pieces)) (widths_entries s.store)
      (told ++ (names_entries ++ cells_entries)) (widths_said s.store h.widths)
      (said_both hidden (names_pieces ++ cells_pieces) told (names_entries ++ cells_entries)
      (hidden_said s.store.hidden h.hidden)
      (said_both names_pieces cells_pieces names_entries cells_entries (names_said (entries s.names) h.names)
      (cells_said (entries s.store.cells) h.cells))))

  records : AllByRecursion IsRecord pieces
  records =
      both_records (bof ∷ range_piece (range_end s.store) ∷ settings_pieces s.settings)
      (width_pieces s.store ++ (hidden ++ (names_pieces ++ cells_pieces))) (both_records (bof ∷ range_piece
      (range_end s.store) ∷ []) (settings_pieces s.settings) (head_records (range_end s.store))
      (settings_records s.settings))
      (both_records (width_pieces s.store) (hidden ++ (names_pieces ++ cells_pieces)) (widths_records s.store)
      (both_records hidden (names_pieces ++ cells_pieces) (hidden_records s.store.hidden)
      (both_records names_pieces cells_pieces (names_records (entries s.names) h.names)
      (cells_records (entries s.store.cells) h.cells))))

  abbrev first : SavedSheet
  first = record start.sheet { settings = s.settings }

  abbrev second : SavedSheet
  second = record first { store = record first.store { widths = s.store.widths } }

  abbrev third : SavedSheet
  third = record second { store = record second.store { hidden = s.store.hidden } }

  abbrev fourth : SavedSheet
  fourth = record third { names = s.names }

  made_sheet : (fold with_entry start says).sheet ≡ s
  made_sheet =
      let one = widths_taken first s.store None h.widths in
      let two = hidden_taken second s.store.hidden one.0 h.hidden in
      let three = names_taken third s.names two.0 h.names in
      let four = cells_taken fourth s.store.cells three.0 h.cells in
      let w = widths_entries s.store in
      let a =
      fold-append with_entry start (entry.Nothing ∷ entry.Nothing ∷ settings_entries s.settings)
      (w ++ (told ++ (names_entries ++ cells_entries))) in
      let b =
      fold-append with_entry (with_widths first (replicate 256 0) None) w (told ++ (names_entries ++ cells_entries)) in
      let c =
      fold-append with_entry (with_hidden second (replicate 256 false) one.0) told (names_entries ++ cells_entries) in
      let d = fold-append with_entry (with_names third empty two.0) names_entries cells_entries in
      ap (λ (r : Progress). r.sheet) (a ∙ b
      ∙ ap (λ r. fold with_entry r (told ++ (names_entries ++ cells_entries))) one.1 ∙ c
      ∙ ap (λ r. fold with_entry r (names_entries ++ cells_entries)) two.1 ∙ d
      ∙ ap (λ r. fold with_entry r cells_entries) three.1 ∙ four.1)

  read_of : sheet_of (records_of pieces) ≡ Ok s
  read_of =
      ap (λ es. unless_fault (first_fault 0 (records_of pieces)) (fold with_entry start es).sheet)
      (all_said pieces says 0 said)
      ∙ ap (λ f. unless_fault f (fold with_entry start says).sheet) (no_fault pieces says 0 said)
      ∙ ap Ok made_sheet

-- a saved sheet is read back as the sheet
pub file_read : (s : SavedSheet) → IsSavedSheet s → length (file_bytes s) ≤ 67108864 → IsFile (file_bytes s) (Ok s)
file_read s h most =
    let begun : has_bof (file_bytes s) ≡ true =
    begins
    (pieces_bytes
    (((range_piece (range_end s.store) ∷ settings_pieces s.settings)
    ++ (width_pieces s.store ++ (hidden s h ++ (names_pieces s h ++ cells_pieces s h))))
    ++ eof ∷ [])) in
    subst (IsFile (file_bytes s)) (read_of s h)
    (read {bytes = file_bytes s} most begun (splits_back 0 (pieces s h) (records s h)))
