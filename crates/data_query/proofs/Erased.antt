-- What erases cells, one cell more and one row more.
use Rattle.std.proofs.Common.{◌≡◌, ℕ, ◌+◌, List, [], ◌∷◌, ◌++◌, map, refl, sym, ap, ◌∙◌, append_assoc}
use Rattle.std.specs.List.{flat_map}
use Rattle.std.proofs.lemmas.List.{append-nil}
use Rattle.std.proofs.lemmas.List.Concat.{flat_map-append}
use Rattle.block_writes.specs.Writing.{across, at, erased, numbers_from}
use Rattle.block_writes.proofs.Numbers.{numbers_more}
use Rattle.block_writes.proofs.Rows.{made_more}
use Rattle.sheet_store.specs.declared.writes.Write.{Write}
use Rattle.data_query.specs.Selection.{rows_erased}

erased_across : (row : ℕ) (columns : List ℕ)
    → map erased (across row columns) ≡ map (λ col. erased (at row col)) columns
erased_across row [] = refl
erased_across row (col ∷ columns) = ap (λ l. erased (at row col) ∷ l) (erased_across row columns)

-- one more erased cell of a row
pub cell_more : (row n k : ℕ) (old now new : List Write) (w : Write)
    → now ≡ old ++ map erased (across row (numbers_from n k)) → w ≡ erased (at row (n + k)) → new ≡ now ++ w ∷ []
    → new ≡ old ++ map erased (across row (numbers_from n (k + 1)))
cell_more row n k old now new w so_far is more =
    made_more (λ col. erased (at row col)) old now new n k
    (so_far ∙ ap (λ l. old ++ l) (erased_across row (numbers_from n k))) (more ∙ ap (λ x. now ++ x ∷ []) is)
    ∙ ap (λ l. old ++ l) (sym (erased_across row (numbers_from n (k + 1))))

-- one more erased row
pub row_more : (columns : List ℕ) (n k : ℕ) (old now new : List Write)
    → now ≡ old ++ rows_erased columns (numbers_from n k) → new ≡ now ++ map erased (across (n + k) columns)
    → new ≡ old ++ rows_erased columns (numbers_from n (k + 1))
row_more columns n k old now new so_far more =
    let f = λ (row : ℕ). map erased (across row columns) in
    more ∙ ap (λ l. l ++ f (n + k)) so_far ∙ append_assoc old (rows_erased columns (numbers_from n k)) (f (n + k))
    ∙ ap (λ l. old ++ l) (sym (
    ap (flat_map f) (numbers_more n k) ∙ flat_map-append f (numbers_from n k) ((n + k) ∷ [])
    ∙ ap (λ l. rows_erased columns (numbers_from n k) ++ l) (append-nil (f (n + k)))
    ))
