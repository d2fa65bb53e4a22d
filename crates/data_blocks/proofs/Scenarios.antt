-- Scenarios of a table, one after another.
use Rattle.std.proofs.Common.{◌≡◌, ℕ, ◌+◌, ◌<◌, List, [], ◌∷◌, ◌++◌, map, length, get_or, refl, sym, ap, subst, ◌∙◌}
use Rattle.std.proofs.Common.{append_assoc, arith}
use Rattle.std.specs.Prelude.{zero, suc, ◌⊎◌}
use Rattle.std.specs.List.{flat_map}
use Rattle.std.proofs.lemmas.List.{append-nil, map-append}
use Rattle.grid_address.specs.Place.{Extent, Place}
use Rattle.formula_tree.specs.declared.value.Value.{Value}
use Rattle.sheet_store.specs.declared.writes.Write.{Write}
use Rattle.block_writes.specs.Writing.{at, numbers_from}
use Rattle.block_writes.proofs.Numbers.{numbers_more}
use Rattle.data_blocks.specs.Benches.{values_on, HasTaken, HasTried, IsSameBench, OnBench}
use Rattle.data_blocks.specs.Tables.{answer_written, cell_scenario, row_answers, row_scenario, Trial, Scenario}

module _ {B : Type 0} (shows : B → OnBench) (tries : Trial → B → B → Type 0) where
  -- some scenarios and then others
  pub taken_then : (ts us : List Scenario) (a b c : B) (ws vs xs : List Write) → HasTaken shows tries ts a ws b vs
      → HasTaken shows tries us b vs c xs → HasTaken shows tries (ts ++ us) a ws c xs
  taken_then [] us a b c ws vs xs h k =
      subst (λ (w : List Write). HasTaken shows tries us a w c xs) h.1
      (subst (λ (x : B). HasTaken shows tries us x vs c xs) h.0 k)
  taken_then (t ∷ ts) us a b c ws vs xs h k =
      (h.0, h.1, taken_then ts us h.0 b c (ws ++ map (answer_written (values_on (shows h.0))) t.answers) vs xs h.2 k)

  -- the scenarios of some numbers, and of one more
  pub scenario_more : (f : ℕ → Scenario) (n k : ℕ) (a b c : B) (ws vs xs : List Write)
      → HasTaken shows tries (map f (numbers_from n k)) a ws b vs → HasTaken shows tries (f (n + k) ∷ []) b vs c xs →
      HasTaken shows tries (map f (numbers_from n (k + 1))) a ws c xs
  scenario_more f n k a b c ws vs xs h one =
      subst (λ (l : List Scenario). HasTaken shows tries l a ws c xs)
      (sym (ap (map f) (numbers_more n k) ∙ map-append f (numbers_from n k) ((n + k) ∷ [])))
      (taken_then (map f (numbers_from n k)) (f (n + k) ∷ []) a b c ws vs xs h one)

  -- the same where each number has several scenarios
  pub scenarios_more : (f : ℕ → List Scenario) (n k : ℕ) (a b c : B) (ws vs xs : List Write)
      → HasTaken shows tries (flat_map f (numbers_from n k)) a ws b vs → HasTaken shows tries (f (n + k)) b vs c xs →
      HasTaken shows tries (flat_map f (numbers_from n (k + 1))) a ws c xs
  scenarios_more f n k a b c ws vs xs h more =
      subst (λ (l : List Scenario). HasTaken shows tries l a ws c xs)
      (sym (ap (flat_map f) (numbers_more n k) ∙ flat_one (numbers_from n k)))
      (taken_then (flat_map f (numbers_from n k)) (f (n + k)) a b c ws vs xs h more)
    where
      flat_one : (ms : List ℕ) → flat_map f (ms ++ (n + k) ∷ []) ≡ flat_map f ms ++ f (n + k)
      flat_one [] = append-nil (f (n + k))
      flat_one (m ∷ ms) = ap (λ l. f m ++ l) (flat_one ms) ∙ sym (append_assoc (f m) (flat_map f ms) (f (n + k)))

-- what is made of a number, by its place
pub made_at : {X : Type 0} (f : ℕ → X) (n k i : ℕ) (d : X) → i < k → get_or (map f (numbers_from n k)) i d ≡ f (n + i)
made_at f n zero i d h = absurd (omega (arith, h))
made_at f n (suc k) zero d h = let e : n ≡ n + 0 = omega arith in ap f e
made_at f n (suc k) (suc i) d h =
    let below : i < k = omega (arith, h) in
    let e : n + 1 + i ≡ n + suc i = omega arith in made_at f (n + 1) k i d below ∙ ap f e

-- what is the same as a bench that is the same as another is the same as that
pub same_both : (a b c : OnBench) → IsSameBench a b → IsSameBench b c → IsSameBench a c
same_both a b c p q = record { guarded = q.guarded ∙ p.guarded; inputs = q.inputs ∙ p.inputs; kept = q.kept ∙ p.kept }

-- a list that is made of so many numbers has so many items
pub made_count : {X : Type 0} (f : ℕ → X) (n k : ℕ) → length (map f (numbers_from n k)) ≡ k
made_count f n zero = refl
made_count f n (suc k) = omega (arith, made_count f (n + 1) k)

-- what is made of what is made
pub fused : {X Y Z : Type 0} (f : Y → Z) (h : X → Y) (xs : List X) → map f (map h xs) ≡ map (λ x. f (h x)) xs
fused f h [] = refl
fused f h (x ∷ xs) = ap (λ l. f (h x) ∷ l) (fused f h xs)

module _ {B : Type 0} (shows : B → OnBench) (tries : Trial → B → B → Type 0) (s : Extent) (values : Place → Value)
    (a z : B) (ws vs : List Write) where
  -- the scenario of a row
  pub row_taken : (input : Place) (row r : ℕ) (v : Value) → r ≡ row → v ≡ values (at row s.first.col) →
      HasTaken shows tries (record { trials = record { cell = input; value = v } ∷ []; answers = row_answers s r }
      ∷ []) a ws z vs →
      HasTaken shows tries (row_scenario s input values row ∷ []) a ws z vs
  row_taken input row r v same is h =
      subst (λ (w : Value). HasTaken shows tries
      (record { trials = record { cell = input; value = w } ∷ []; answers = row_answers s row } ∷ []) a ws z vs) is
      (subst (λ (k : ℕ). HasTaken shows tries
      (record { trials = record { cell = input; value = v } ∷ []; answers = row_answers s k } ∷ []) a ws z vs) same h)

  -- the scenario of a cell
  pub cell_taken : (down across to : Place) (row col : ℕ) (v w : Value) → to ≡ at row col
      → v ≡ values (at row s.first.col) → w ≡ values (at s.first.row col) →
      HasTaken shows tries (record {
        trials = record { cell = down; value = v } ∷ record { cell = across; value = w }
            ∷ [];
        answers = record { from = s.first; to = to } ∷ [];
      } ∷ []) a ws z vs →
      HasTaken shows tries (cell_scenario s down across values row col ∷ []) a ws z vs
  cell_taken down across to row col v w there is too h =
      subst (λ (x : Value). HasTaken shows tries
      (record {
        trials = record { cell = down; value = values (at row s.first.col) }
            ∷ record { cell = across; value = x } ∷ [];
        answers = record { from = s.first; to = at row col } ∷ [];
      } ∷ []) a ws z vs) too
      (subst (λ (x : Value). HasTaken shows tries
      (record {
        trials = record { cell = down; value = x } ∷ record { cell = across; value = w }
            ∷ [];
        answers = record { from = s.first; to = at row col } ∷ [];
      } ∷ []) a ws z vs) is
      (subst (λ (p : Place). HasTaken shows tries
      (record {
        trials = record { cell = down; value = v } ∷ record { cell = across; value = w }
            ∷ [];
        answers = record { from = s.first; to = p } ∷ [];
      } ∷ []) a ws z vs) there h))
