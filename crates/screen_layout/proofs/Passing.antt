-- One more column of a line.
use Rattle.std.proofs.Common.{◌≡◌, ℕ, ◌≤◌, List, [], ◌∷◌, ◌++◌, length, take, drop, Option, refl, ap, sym, ◌∙◌}
use Rattle.std.proofs.Common.{append_assoc, arith}
use Rattle.std.specs.Prelude.{unwrap_or}
use Rattle.std.proofs.lemmas.List.{append-nil, length-take, take_all}
use Rattle.list_lemmas.proofs.Takes.{take-take-append}
use Rattle.screen_layout.specs.Columns.{beside, column_text}
use Rattle.shown_cells.specs.Cells.{padded}
use Rattle.screen_layout.specs.declared.shown_columns.Column.{Column}
use Rattle.work_sheet.specs.Seen.{Sheet}

beside_none : (s : Sheet) (row : Option ℕ) (over : List ℕ) → beside s row [] over ≡ []
unfolding beside
beside_none s row over = refl

beside_more : (s : Sheet) (row : Option ℕ) (x : Column) (xs : List Column) (over : List ℕ) →
    beside s row (x ∷ xs) over
    ≡ padded x.width (unwrap_or (column_text s row x) over)
    ++ beside s row xs (drop x.width (unwrap_or (column_text s row x) over))
unfolding beside
beside_more s row x xs over = refl

-- what is painted, and what is still to be painted
pub record Painting (s : Sheet) (row : Option ℕ) (whole : List ℕ) (left : List Column) (line over : List ℕ) : Type
    0 where
  pub goes_on : take 80 (line ++ beside s row left over) ≡ take 80 whole
  pub short : length line ≤ 80

-- a column is painted
pub one_painted : (s : Sheet) (row : Option ℕ) (whole : List ℕ) (x : Column) (xs : List Column)
    (line over line' over' : List ℕ) →
    Painting s row whole (x ∷ xs) line over
    → line' ≡ take 80 (line ++ padded x.width (unwrap_or (column_text s row x) over)) →
    over' ≡ drop x.width (unwrap_or (column_text s row x) over) → Painting s row whole xs line' over'
one_painted s row whole x xs line over line' over' p is left =
    let text : List ℕ = unwrap_or (column_text s row x) over in
    let later : List ℕ = beside s row xs (drop x.width text) in
    record {
      goes_on = ap (λ (l : List ℕ). take 80 (l ++ beside s row xs over')) is
          ∙ ap (λ (o : List ℕ). take 80 (take 80 (line ++ padded x.width text) ++ beside s row xs o)) left
          ∙ take-take-append 80 (line ++ padded x.width text) later
          ∙ ap (take 80) (append_assoc line (padded x.width text) later)
          ∙ ap (λ (l : List ℕ). take 80 (line ++ l)) (sym (beside_more s row x xs over)) ∙ p.goes_on;
      short = omega (arith, ap length is, length-take 80 (line ++ padded x.width text));
    }

-- no column is left
pub all_painted : (s : Sheet) (row : Option ℕ) (whole : List ℕ) (line over : List ℕ)
    → Painting s row whole [] line over → line ≡ take 80 whole
all_painted s row whole line over p =
    sym (take_all 80 line p.short) ∙ ap (take 80) (sym (append-nil line))
    ∙ ap (λ (l : List ℕ). take 80 (line ++ l)) (sym (beside_none s row over)) ∙ p.goes_on
