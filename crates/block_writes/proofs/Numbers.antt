-- One more number, and one more cell.
use Rattle.std.proofs.Common.{◌≡◌, ℕ, zero, suc, ◌+◌, List, [], ◌∷◌, ◌++◌, length}
use Rattle.std.proofs.Common.{refl, sym, ap, ◌∙◌, append_assoc, arith}
use Rattle.std.specs.List.{flat_map}
use Rattle.std.proofs.lemmas.List.{append-nil, map-append}
use Rattle.std.proofs.lemmas.Grind.{flat_map-append}
use Rattle.grid_address.specs.Place.{Extent, Place}
use Rattle.block_writes.specs.Writing.{at, down, numbers_from, rows_of}
pub use Rattle.grid_address.proofs.Numbers.{numbers_more}

-- as many numbers as were asked for
pub numbers_count : (n k : ℕ) → length (numbers_from n k) ≡ k
numbers_count n zero = refl
numbers_count n (suc k) = omega (arith, numbers_count (n + 1) k)

-- the cells down one more row
pub down_more : (col n k : ℕ) → down col (numbers_from n (k + 1)) ≡ down col (numbers_from n k) ++ at (n + k) col ∷ []
down_more col n k = ap (down col) (numbers_more n k) ∙ map-append (λ row. at row col) (numbers_from n k) ((n + k) ∷ [])

-- the cells down one more column
pub columns_more : (s : Extent) (n k : ℕ)
    → flat_map (λ col. down col (rows_of s)) (numbers_from n (k + 1))
    ≡ flat_map (λ col. down col (rows_of s)) (numbers_from n k) ++ down (n + k) (rows_of s)
columns_more s n k =
    ap (flat_map (λ col. down col (rows_of s))) (numbers_more n k)
    ∙ flat_map-append (λ col. down col (rows_of s)) (numbers_from n k) ((n + k) ∷ [])
    ∙ ap (λ l. flat_map (λ col. down col (rows_of s)) (numbers_from n k) ++ l) (append-nil (down (n + k) (rows_of s)))

-- what was there, the cells so far, and one more
pub pushed : (old now new : List Place) (col n k : ℕ) → now ≡ old ++ down col (numbers_from n k)
    → new ≡ now ++ at (n + k) col ∷ [] → new ≡ old ++ down col (numbers_from n (k + 1))
pushed old now new col n k so_far more =
    more ∙ ap (λ l. l ++ at (n + k) col ∷ []) so_far
    ∙ append_assoc old (down col (numbers_from n k)) (at (n + k) col ∷ [])
    ∙ ap (λ l. old ++ l) (sym (down_more col n k))

-- the columns so far, and one more
pub joined : (s : Extent) (n k : ℕ) (now new : List Place)
    → now ≡ flat_map (λ col. down col (rows_of s)) (numbers_from n k) → new ≡ now ++ down (n + k) (rows_of s)
    → new ≡ flat_map (λ col. down col (rows_of s)) (numbers_from n (k + 1))
joined s n k now new so_far more = more ∙ ap (λ l. l ++ down (n + k) (rows_of s)) so_far ∙ sym (columns_more s n k)
