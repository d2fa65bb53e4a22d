-- The writes of rows, each for the row beside it, one row at a time.
use Rattle.std.proofs.Common.{◌≡◌, ℕ, suc, ◌+◌, ◌-◌, ◌<◌, ◌≤◌, List, [], ◌∷◌, ◌++◌, map, length, drop, get_or, sym, ap}
use Rattle.std.proofs.Common.{◌∙◌, append_assoc, arith}
use Rattle.std.specs.List.{flat_map, zip}
use Rattle.std.proofs.lemmas.List.{append-nil, drop_all, drop_more}
use Rattle.block_writes.specs.Writing.{numbers_from}
pub use Rattle.grid_address.proofs.Numbers.{made_more}

module _ {W : Type 0} (f : ℕ × ℕ → List W) (rows : List ℕ) (n count : ℕ) where
  -- what the rows from a place on write
  abbrev pub rest : ℕ → List W
  rest i = flat_map f (zip (drop i rows) (numbers_from (n + i) (count - i)))

  rest_more : (i d : ℕ) → i < length rows → length rows ≤ count → rest i ≡ f (get_or rows i d, n + i) ++ rest (i + 1)
  rest_more i d inside room =
      ap (λ l. flat_map f (zip l (numbers_from (n + i) (count - i)))) (drop_more rows i d inside)
      ∙ ap (λ k. flat_map f (zip (get_or rows i d ∷ drop (i + 1) rows) (numbers_from (n + i) k)))
      (let e : count - i ≡ suc (count - (i + 1)) = omega arith in e)
      ∙ ap (λ m. f (get_or rows i d, n + i) ++ flat_map f (zip (drop (i + 1) rows) (numbers_from m (count - (i + 1)))))
      (let e : n + i + 1 ≡ n + (i + 1) = omega arith in e)

  -- all rows are left at the start
  pub rest_first : rest 0 ≡ flat_map f (zip rows (numbers_from n count))
  rest_first =
      ap (λ m. flat_map f (zip rows (numbers_from m (count - 0)))) (let e : n + 0 ≡ n = omega arith in e)
      ∙ ap (λ k. flat_map f (zip rows (numbers_from n k))) (let e : count - 0 ≡ count = omega arith in e)

  -- one more row is written
  pub rest_step : (now new all : List W) (i d : ℕ) → i < length rows → length rows ≤ count → now ++ rest i ≡ all
      → new ≡ now ++ f (get_or rows i d, n + i) → new ++ rest (i + 1) ≡ all
  rest_step now new all i d inside room so_far more =
      ap (λ l. l ++ rest (i + 1)) more ∙ append_assoc now (f (get_or rows i d, n + i)) (rest (i + 1))
      ∙ ap (λ l. now ++ l) (sym (rest_more i d inside room)) ∙ so_far

  -- no row is left
  pub rest_none : (now all : List W) (i : ℕ) → length rows ≤ i → now ++ rest i ≡ all → now ≡ all
  rest_none now all i past so_far =
      sym (append-nil now) ∙ ap (λ l. now ++ flat_map f (zip l (numbers_from (n + i) (count - i))))
      (sym (drop_all i rows past)) ∙ so_far
