-- The first cell that passes a test, among cells that are looked through one by one.
use Rattle.std.specs.Prelude.{ℕ, ◌≡◌, ◌+◌, ◌<◌, ◌≤◌, refl, Bool, true, false, cond, List, [], ◌∷◌, ◌++◌, map, Option}
use Rattle.std.specs.Prelude.{None, Some}
use Rattle.std.specs.List.{find, flat_map}
use Rattle.std.proofs.Common.{ap, sym, ◌∙◌}
use Rattle.grid_address.specs.Place.{Place}
use Rattle.grid_address.proofs.Scans.{left, left_more, left_none}

-- one answer, and another where there is none
abbrev pub or_then : Option Place → Option Place → Option Place
or_then None o = o
or_then (Some p) o = Some p

module _ (test : Place → Bool) where
  -- among some cells, and then others
  pub found_then : (xs ys : List Place) → find test (xs ++ ys) ≡ or_then (find test xs) (find test ys)
  found_then [] ys = refl
  found_then (x ∷ xs) ys = by (test x) (found_then xs ys)
    where
      by : (b : Bool) → find test (xs ++ ys) ≡ or_then (find test xs) (find test ys) →
          cond b (Some x) (find test (xs ++ ys)) ≡ or_then (cond b (Some x) (find test xs)) (find test ys)
      by true rest = refl
      by false rest = rest

  module _ (cell : ℕ → Place) (n count i : ℕ) (o : Option Place) where
    -- a cell that doesn't pass is looked past
    pub found_more : i < count → test (cell (n + i)) ≡ false → find test (map cell (left n count i)) ≡ o
        → find test (map cell (left n count (i + 1))) ≡ o
    found_more inside fails so_far =
        sym (ap (λ l. find test (map cell l)) (left_more n count i inside)
        ∙ ap (λ b. cond b (Some (cell (n + i))) (find test (map cell (left n count (i + 1))))) fails) ∙ so_far

    -- past the last one none is found
    pub found_end : count ≤ i → find test (map cell (left n count i)) ≡ o → None ≡ o
    found_end past so_far = sym (ap (λ l. find test (map cell l)) (left_none n count i past)) ∙ so_far

  module _ (row : ℕ → List Place) (n count i : ℕ) (o : Option Place) where
    -- the rows that are left are one and those behind it
    apart : i < count → find test (flat_map row (left n count i))
        ≡ or_then (find test (row (n + i))) (find test (flat_map row (left n count (i + 1))))
    apart inside =
        ap (λ l. find test (flat_map row l)) (left_more n count i inside)
        ∙ found_then (row (n + i)) (flat_map row (left n count (i + 1)))

    -- a row in which none passes is looked past
    pub rows_more : i < count → find test (row (n + i)) ≡ None → find test (flat_map row (left n count i)) ≡ o
        → find test (flat_map row (left n count (i + 1))) ≡ o
    rows_more inside none so_far =
        sym (apart inside ∙ ap (λ x. or_then x (find test (flat_map row (left n count (i + 1))))) none) ∙ so_far

    -- the first that passes in a row is the first of all
    pub rows_stop : (c : Place) → i < count → find test (row (n + i)) ≡ Some c
        → find test (flat_map row (left n count i)) ≡ o → Some c ≡ o
    rows_stop c inside some so_far =
        sym (apart inside ∙ ap (λ x. or_then x (find test (flat_map row (left n count (i + 1))))) some) ∙ so_far

    -- past the last row none is found
    pub rows_end : count ≤ i → find test (flat_map row (left n count i)) ≡ o → None ≡ o
    rows_end past so_far = sym (ap (λ l. find test (flat_map row l)) (left_none n count i past)) ∙ so_far
