-- Sets of lines, and what a screen is while the lines of one are copied into it.
use Rattle.std.proofs.Common.{◌≡◌, ℕ, suc, zero, ◌+◌, ◌<◌, ◌≤◌, Bool, true, false, List, [], ◌∷◌, length, get_or, set}
use Rattle.std.proofs.Common.{Some, None, refl, sym, ap, ◌∙◌, arith, inl, inr}
use Rattle.std.specs.Prelude.{slice_get, replicate}
use Rattle.std.proofs.lemmas.Bool.{cases_lt, true≢false}
use Rattle.std.proofs.lemmas.List.{length-set}
use Rattle.std.proofs.lemmas.Option.{slice_get-get_or, slice_get_past}
use Rattle.screen_show.specs.Changes.{Unchanged}

none_left_out : (n row : ℕ) → slice_get (replicate n true) row ≡ Some false → ⊥
none_left_out zero row h = let there : None ≡ Some false = h in absurd cc
none_left_out (suc n) zero h =
    let there : Some true ≡ Some false = h in
    let same : true ≡ false = cc in
    true≢false same
none_left_out (suc n) (suc row) h = none_left_out n row h

-- the set of all lines tells nothing of two screens
pub all_may_differ : (before after : List (List ℕ)) → Unchanged (replicate 25 true) before after
all_may_differ before after row h = absurd (none_left_out 25 row h)

-- an element behind a write
pub get_set_same : {X : Type 0} → (xs : List X) (i : ℕ) (x : X) → i < length xs → slice_get (set xs i x) i ≡ Some x
get_set_same [] i x h = absurd (omega arith)
get_set_same (y ∷ ys) zero x h = refl
get_set_same (y ∷ ys) (suc i) x h = get_set_same ys i x (omega arith)

-- an item at another place stays
pub get_set_other : {X : Type 0} → (xs : List X) (i j : ℕ) (x : X) → (j ≡ i → ⊥)
    → slice_get (set xs i x) j ≡ slice_get xs j
get_set_other [] i j x apart = refl
get_set_other (y ∷ ys) zero zero x apart = absurd (apart refl)
get_set_other (y ∷ ys) zero (suc j) x apart = refl
get_set_other (y ∷ ys) (suc i) zero x apart = refl
get_set_other (y ∷ ys) (suc i) (suc j) x apart = get_set_other ys i j x (λ e. apart (ap suc e))

-- two lists with the same elements are one
pub same_elements : {X : Type 0} → (xs ys : List X) → ((k : ℕ) → slice_get xs k ≡ slice_get ys k) → xs ≡ ys
same_elements [] [] h = refl
same_elements [] (y ∷ ys) h = let first : None ≡ Some y = h 0 in absurd cc
same_elements (x ∷ xs) [] h = let first : Some x ≡ None = h 0 in absurd cc
same_elements {X = X} (x ∷ xs) (y ∷ ys) h =
    let first : Some x ≡ Some y = h 0 in
    let head : x ≡ y = cc in
    ap (λ (z : X). z ∷ xs) head ∙ ap (λ (zs : List X). y ∷ zs) (same_elements xs ys (λ k. h (suc k)))

-- above a row the screen has the lines of the one that is copied, and from it on those that it had
pub record Copying (row : ℕ) (was from now : List (List ℕ)) : Type 0 where
  pub above : (k : ℕ) → k < row → slice_get now k ≡ slice_get from k
  pub below : (k : ℕ) → row ≤ k → slice_get now k ≡ slice_get was k
  pub lines : length now ≡ 25

module _ (lines : List Bool) (was from : List (List ℕ)) (unchanged : Unchanged lines was from) where
  -- no line is copied yet
  pub copying_starts : (row : ℕ) → ((k : ℕ) → 0 ≤ k → k < row → slice_get lines k ≡ Some false) → length was ≡ 25
      → Copying row was from was
  copying_starts row passed long = record {
    above = λ k h. unchanged k (passed k (omega arith) h);
    below = λ k h. refl;
    lines = long;
  }

  -- a line is copied, and those up to the next one are the same already
  pub copying_more : (row next : ℕ) (now : List (List ℕ)) → row < 25 → row + 1 ≤ next
      → ((k : ℕ) → row + 1 ≤ k → k < next → slice_get lines k ≡ Some false) → length from ≡ 25 →
      Copying row was from now → Copying next was from (set now row (get_or from row []))
  copying_more row next now inside later passed long on = record {
    above = λ k h. elim (cases_lt k row) [
      | inl above ↦ get_set_other now row k (get_or from row []) (λ e. omega arith) ∙ on.above k above
      | inr below ↦ elim (cases_lt row k) [
        | inl behind ↦
            get_set_other now row k (get_or from row []) (λ e. omega arith) ∙ on.below k below
            ∙ unchanged k (passed k (omega arith) h)
        | inr same ↦ (let here : k ≡ row = omega arith in
            rw here (get_set_same now row (get_or from row []) (omega (arith, on.lines))
            ∙ sym (slice_get-get_or from row [] (omega arith))))
      ]
    ];
    below = λ k h. get_set_other now row k (get_or from row []) (λ e. omega arith) ∙ on.below k (omega arith);
    lines = length-set now row (get_or from row []) ∙ on.lines;
  }

  -- past the last line all are copied
  pub copying_ends : (row : ℕ) (now : List (List ℕ)) → 25 ≤ row → length from ≡ 25 → Copying row was from now
      → now ≡ from
  copying_ends row now all long on = same_elements now from (λ k. elim (cases_lt k row) [
    | inl above ↦ on.above k above
    | inr below ↦ slice_get_past now k (omega (arith, on.lines)) ∙ sym (slice_get_past from k (omega arith))
  ])
