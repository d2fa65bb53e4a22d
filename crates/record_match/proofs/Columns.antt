-- The cells of a column in the records that match, one record at a time.
use Rattle.std.proofs.Common.{◌≡◌, ℕ, ◌+◌, ◌<◌, ◌≤◌, List, ◌∷◌, ◌++◌, map, cond, sym, ap, ◌∙◌, append_assoc}
use Rattle.std.specs.Prelude.{Bool, true, false}
use Rattle.std.specs.List.{filter}
use Rattle.std.proofs.lemmas.List.{append-nil}
use Rattle.grid_address.specs.Place.{Place}
use Rattle.grid_address.specs.Lines.{at, numbers_from}
use Rattle.grid_address.proofs.Scans.{left, left_first, left_more, left_none}
use Rattle.formula_tree.specs.declared.value.Value.{Value}
use Rattle.formula_parts.specs.declared.items.Item.{Item}
use Rattle.formula_parts.specs.Lists.{in_range, items_in}

module _ (values : Place → Value) (col : ℕ) (test : ℕ → Bool) (n count : ℕ) where
  -- the items of the rows from a place on
  abbrev pub behind : ℕ → List Item
  behind i = items_in values (map (λ row. at row col) (filter test (left n count i)))

  -- before the first row the items of all that match are to come
  pub behind_all : behind 0 ≡ items_in values (map (λ row. at row col) (filter test (numbers_from n count)))
  behind_all = ap (λ l. items_in values (map (λ row. at row col) (filter test l))) (left_first n count)

  -- a row that matches gives its cell's items, and those behind it are to come
  pub put_record : (i row : ℕ) (now new all : List Item) (v : Value) → i < count → row ≡ n + i → test row ≡ true
      → v ≡ values (at row col) → new ≡ now ++ in_range v → now ++ behind i ≡ all → new ++ behind (i + 1) ≡ all
  put_record i row now new all v inside is held there more so_far =
      ap (λ l. l ++ behind (i + 1)) more ∙ append_assoc now (in_range v) (behind (i + 1))
      ∙ ap (λ x. now ++ (in_range x ++ behind (i + 1))) (there ∙ ap (λ k. values (at k col)) is)
      ∙ ap (λ l. now ++ l)
      (sym (ap (λ l. items_in values (map (λ row. at row col) (filter test l))) (left_more n count i inside)
      ∙ ap (λ b. items_in values (map (λ row. at row col) (cond b ((n + i) ∷ filter test (left n count (i + 1)))
      (filter test (left n count (i + 1)))))) (ap test (sym is) ∙ held)))
      ∙ so_far

  -- a row that doesn't match gives none
  pub pass_record : (i row : ℕ) (now all : List Item) → i < count → row ≡ n + i → test row ≡ false
      → now ++ behind i ≡ all → now ++ behind (i + 1) ≡ all
  pass_record i row now all inside is fails so_far =
      ap (λ l. now ++ l)
      (sym (ap (λ l. items_in values (map (λ row. at row col) (filter test l))) (left_more n count i inside)
      ∙ ap (λ b. items_in values (map (λ row. at row col) (cond b ((n + i) ∷ filter test (left n count (i + 1)))
      (filter test (left n count (i + 1)))))) (ap test (sym is) ∙ fails)))
      ∙ so_far

  -- behind the last row none is to come
  pub no_record : (i : ℕ) (now all : List Item) → count ≤ i → now ++ behind i ≡ all → now ≡ all
  no_record i now all past so_far =
      sym (append-nil now)
      ∙ ap (λ l. now ++ items_in values (map (λ row. at row col) (filter test l))) (sym (left_none n count i past))
      ∙ so_far
