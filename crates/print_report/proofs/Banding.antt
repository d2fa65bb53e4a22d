-- Columns and bands, column by column.
use Rattle.std.proofs.Common.{◌≡◌, ℕ, suc, ◌+◌, ◌-◌, ◌≤◌, ◌<◌, true, false, List, [], ◌∷◌, ◌++◌, length, take, drop}
use Rattle.std.proofs.Common.{get_or, ap, sym, ◌∙◌, arith, append_assoc}
use Rattle.std.specs.Prelude.{nat_le, if◌then◌else◌}
use Rattle.std.proofs.lemmas.Bool.Decides.{nat_tests}
use Rattle.std.proofs.Math.Seq.{drop-cons, take-suc}
use Rattle.sheet_store.specs.Grid.{is_hidden}
use Rattle.sheet_store.specs.declared.writes.SavedSheet.{SavedSheet}
use Rattle.print_report.specs.Bands.{bands, columns_from, cut, wide, width_in}

next_columns : (s : SavedSheet) (col end : ℕ) → col < end
    → columns_from s col (end - col)
    ≡ (if is_hidden s.store col then columns_from s (col + 1) (end - (col + 1)) else col
    ∷ columns_from s (col + 1) (end - (col + 1)))
next_columns s col end less = ap (columns_from s col) (let e : end - col ≡ suc (end - (col + 1)) = omega arith in e)

-- a hidden column is left out
pub column_passed : (s : SavedSheet) (all now : List ℕ) (col end : ℕ) → col < end → is_hidden s.store col ≡ true
    → all ≡ now ++ columns_from s col (end - col) → all ≡ now ++ columns_from s (col + 1) (end - (col + 1))
column_passed s all now col end less hidden so_far =
    so_far ∙ ap (λ (l : List ℕ). now ++ l)
    (next_columns s col end less
    ∙ ap (λ b. if b then columns_from s (col + 1) (end - (col + 1)) else col
    ∷ columns_from s (col + 1) (end - (col + 1))) hidden)

-- a column that isn't hidden joins the band
pub column_taken : (s : SavedSheet) (all now : List ℕ) (col end : ℕ) → col < end → is_hidden s.store col ≡ false
    → all ≡ now ++ columns_from s col (end - col)
    → all ≡ (now ++ col ∷ []) ++ columns_from s (col + 1) (end - (col + 1))
column_taken s all now col end less shown so_far =
    so_far ∙ ap (λ (l : List ℕ). now ++ l)
    (next_columns s col end less
    ∙ ap (λ b. if b then columns_from s (col + 1) (end - (col + 1)) else col
    ∷ columns_from s (col + 1) (end - (col + 1))) shown)
    ∙ sym (append_assoc now (col ∷ []) (columns_from s (col + 1) (end - (col + 1))))

split_at : (columns : List ℕ) (at d : ℕ) → at < length columns
    → drop at columns ≡ get_or columns at d ∷ drop (at + 1) columns
split_at columns at d inside =
    drop-cons columns at d inside
    ∙ ap (λ (k : ℕ). get_or columns at d ∷ drop k columns) (let e : suc at ≡ at + 1 = omega arith in e)

longer : (columns : List ℕ) (at d : ℕ) → at < length columns
    → take at columns ++ get_or columns at d ∷ [] ≡ take (at + 1) columns
longer columns at d inside =
    sym (take-suc columns at d inside) ∙ ap (λ (k : ℕ). take k columns) (let e : suc at ≡ at + 1 = omega arith in e)

wide_more : (s : SavedSheet) (xs : List ℕ) (c : ℕ) → wide s (xs ++ c ∷ []) ≡ wide s xs + width_in s c
wide_more s [] c = omega arith
wide_more s (x ∷ xs) c = omega (arith, wide_more s xs c)

-- a band is wider by the column that joins it
pub wide_taken : (s : SavedSheet) (columns : List ℕ) (at d : ℕ) → at < length columns
    → wide s (take (at + 1) columns) ≡ wide s (take at columns) + width_in s (get_or columns at d)
wide_taken s columns at d inside =
    ap (wide s) (sym (longer columns at d inside)) ∙ wide_more s (take at columns) (get_or columns at d)

next_cut : (s : SavedSheet) (width room : ℕ) (columns : List ℕ) (at d : ℕ) → at < length columns
    → cut s width (take at columns) room (drop at columns)
    ≡ (if nat_le (width_in s (get_or columns at d)) room then cut s width (take at columns ++ get_or columns at d ∷ [])
    (room - width_in s (get_or columns at d)) (drop (at + 1) columns)
    else take at columns ∷ bands s width (get_or columns at d ∷ drop (at + 1) columns))
next_cut s width room columns at d inside = ap (cut s width (take at columns) room) (split_at columns at d inside)

-- there is room for a column more
pub column_fits : (s : SavedSheet) (width room : ℕ) (columns : List ℕ) (at d : ℕ) → at < length columns
    → width_in s (get_or columns at d) ≤ room
    → cut s width (take at columns) room (drop at columns)
    ≡ cut s width (take (at + 1) columns) (room - width_in s (get_or columns at d)) (drop (at + 1) columns)
column_fits s width room columns at d inside fits =
    next_cut s width room columns at d inside
    ∙ ap (λ t. if t then cut s width (take at columns ++ get_or columns at d ∷ [])
    (room - width_in s (get_or columns at d)) (drop (at + 1) columns)
    else take at columns ∷ bands s width (get_or columns at d ∷ drop (at + 1) columns))
    (let e : nat_le (width_in s (get_or columns at d)) room ≡ true = grind (arith, nat_tests, fits) in e)
    ∙ ap (λ (l : List ℕ). cut s width l (room - width_in s (get_or columns at d)) (drop (at + 1) columns))
    (longer columns at d inside)
