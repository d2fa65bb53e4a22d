-- Records that are the same as earlier ones, left out one by one.
use Rattle.std.proofs.Common.{◌≡◌, ℕ, suc, ◌≤◌, List, [], ◌∷◌, ◌++◌, map, length, cond, refl, sym, ap, ◌∙◌}
use Rattle.std.proofs.Common.{append_assoc, arith}
use Rattle.std.specs.Prelude.{◌&&◌, ◌||◌, not, Bool, true, false}
use Rattle.std.specs.List.{filter, list_all, list_any}
use Rattle.std.proofs.lemmas.List.{append-nil, map-append}
use Rattle.std.proofs.lemmas.List.Folds.{list_any-append}
use Rattle.std.proofs.lemmas.Bool.{and_parts, false≢true}
use Rattle.std.proofs.Math.Bool.{or-true}
use Rattle.grid_address.specs.Place.{Place}
use Rattle.formula_tree.specs.Values.{same_value}
use Rattle.formula_tree.proofs.Values.{same_value_is}
use Rattle.formula_parts.specs.Outlook.{Sight}
use Rattle.block_writes.specs.Writing.{at}
use Rattle.data_query.specs.Extraction.{same_record, without_repeats}
use Rattle.data_query.specs.declared.output.OutputField.{OutputField}
use Rattle.data_query.proofs.Records.{filter_count, row_of}

-- what is the same as one of two records that are the same is the same as the other
pub alike : (sight : Sight) (fields : List OutputField) (a b x : ℕ) → same_record sight fields a b ≡ true
    → same_record sight fields a x ≡ same_record sight fields b x
alike sight [] a b x same = refl
alike sight (f ∷ fields) a b x same =
    let value = λ (row : ℕ). sight.values (at row f.field) in
    let both = and_parts (same_value (value a) (value b)) (same_record sight fields a b) same in
    ap (λ v. same_value v (value x) && same_record sight fields a x) (same_value_is (value a) (value b) both.0)
    ∙ ap (λ c. same_value (value b) (value x) && c) (alike sight fields a b x both.1)

-- two filters, one after the other
twice : (p q r : ℕ → Bool) → ((x : ℕ) → (q x && p x) ≡ r x) → (xs : List ℕ) → filter p (filter q xs) ≡ filter r xs
twice p q r joint [] = refl
twice p q r joint (x ∷ xs) =
    one (q x)
    ∙ ap (λ b. cond b (x ∷ filter p (filter q xs)) (filter p (filter q xs))) (joint x)
    ∙ ap (λ l. cond (r x) (x ∷ l) l) (twice p q r joint xs)
  where
    one : (b : Bool) → filter p (cond b (x ∷ filter q xs) (filter q xs))
        ≡ cond (b && p x) (x ∷ filter p (filter q xs)) (filter p (filter q xs))
    one true = refl
    one false = refl

-- a filter that all pass
all_pass : (xs : List ℕ) → filter (λ x. true) xs ≡ xs
all_pass [] = refl
all_pass (x ∷ xs) = ap (λ l. x ∷ l) (all_pass xs)

module _ (same : ℕ → ℕ → Bool) where
  -- a record is the same as one of these
  abbrev pub among : List ℕ → ℕ → Bool
  among kept row = list_any (λ k. same k row) kept

  -- what is still kept of the records to come
  abbrev pub to_come : List ℕ → List ℕ → List ℕ
  to_come kept rows = filter (λ row. not (among kept row)) (without_repeats same rows)

  -- before the first row all that differ are to come
  pub at_start : (rows : List ℕ) → to_come [] rows ≡ without_repeats same rows
  at_start rows = all_pass (without_repeats same rows)

  neither : (a s : Bool) → (not s && not a) ≡ not (a || (s || false))
  neither true true = refl
  neither true false = refl
  neither false true = refl
  neither false false = refl

  -- a record that is new is kept
  new_kept : (kept : List ℕ) (row : ℕ) (rows : List ℕ) → among kept row ≡ false
      → to_come kept (row ∷ rows) ≡ row ∷ to_come (kept ++ row ∷ []) rows
  new_kept kept row rows is_new =
      let others = λ (x : ℕ). not (same row x) in
      let news = λ (x : ℕ). not (among kept x) in
      let rest = filter news (filter others (without_repeats same rows)) in
      ap (λ b. cond (not b) (row ∷ rest) rest) is_new
      ∙ ap (λ l. row ∷ l) (twice news others (λ (x : ℕ). not (among (kept ++ row ∷ []) x))
      (λ x. neither (among kept x) (same row x) ∙ ap not (sym (list_any-append (λ k. same k x) kept (row ∷ []))))
      (without_repeats same rows))

  module _ (agree : (a b x : ℕ) → same a b ≡ true → same a x ≡ same b x) where
    spread_one : (kept : List ℕ) (k row x : ℕ) (b : Bool) → same k row ≡ b → among (k ∷ kept) row ≡ true
        → same row x ≡ true → (among kept row ≡ true → among kept x ≡ true) → among (k ∷ kept) x ≡ true
    spread_one kept k row x true first is_among is_same others =
        ap (λ c. c || among kept x) (agree k row x first ∙ is_same)
    spread_one kept k row x false first is_among is_same others =
        ap (λ c. same k x || c) (others (ap (λ c. c || among kept row) (sym first) ∙ is_among)) ∙ or-true (same k x)

    -- what is the same as a record that is among these is among them
    spread : (kept : List ℕ) (row x : ℕ) → among kept row ≡ true → same row x ≡ true → among kept x ≡ true
    spread [] row x is_among is_same = absurd (false≢true is_among)
    spread (k ∷ kept) row x is_among is_same =
        spread_one kept k row x (same k row) refl is_among is_same (λ h. spread kept row x h is_same)

    -- a record that is among these is left out, and with it what is the same
    repeated_left : (kept : List ℕ) (row : ℕ) (rows : List ℕ) → among kept row ≡ true
        → to_come kept (row ∷ rows) ≡ to_come kept rows
    repeated_left kept row rows is_among =
        let others = λ (x : ℕ). not (same row x) in
        let news = λ (x : ℕ). not (among kept x) in
        let rest = filter news (filter others (without_repeats same rows)) in
        ap (λ b. cond (not b) (row ∷ rest) rest) is_among
        ∙ twice news others news (λ x. by_same x (same row x) refl) (without_repeats same rows)
      where
        by_same : (x : ℕ) (b : Bool) → same row x ≡ b → (not (same row x) && not (among kept x)) ≡ not (among kept x)
        by_same x true is = ap (λ c. not c && not (among kept x)) is ∙ ap not (sym (spread kept row x is_among is))
        by_same x false is = ap (λ c. not c && not (among kept x)) is

    among_rows : (kept : List Place) (row : ℕ)
        → among (map row_of kept) row ≡ list_any (λ (p : Place). same p.row row) kept
    among_rows [] row = refl
    among_rows (p ∷ kept) row = ap (λ b. same p.row row || b) (among_rows kept row)

    -- one more record is looked at
    pub looked_at : (kept new : List Place) (cell : Place) (rows all : List ℕ) →
        new ≡ cond (list_any (λ (p : Place). same p.row cell.row) kept) kept (kept ++ cell ∷ []) →
        map row_of kept ++ to_come (map row_of kept) (cell.row ∷ rows) ≡ all
        → map row_of new ++ to_come (map row_of new) rows ≡ all
    looked_at kept new cell rows all is so_far = by_test (list_any (λ (p : Place). same p.row cell.row) kept) refl
      where
        went : List Place → List ℕ
        went l = map row_of l ++ to_come (map row_of l) rows

        by_test : (b : Bool) → list_any (λ (p : Place). same p.row cell.row) kept ≡ b → went new ≡ all
        by_test true test =
            ap went (is ∙ ap (λ b. cond b kept (kept ++ cell ∷ [])) test)
            ∙ ap (λ l. map row_of kept ++ l)
            (sym (repeated_left (map row_of kept) cell.row rows (among_rows kept cell.row ∙ test))) ∙ so_far
        by_test false test =
            ap went (is ∙ ap (λ b. cond b kept (kept ++ cell ∷ [])) test)
            ∙ ap (λ l. l ++ to_come l rows) (map-append row_of kept (cell ∷ []))
            ∙ append_assoc (map row_of kept) (cell.row ∷ []) (to_come (map row_of kept ++ cell.row ∷ []) rows)
            ∙ ap (λ l. map row_of kept ++ l)
            (sym (new_kept (map row_of kept) cell.row rows (among_rows kept cell.row ∙ test))) ∙ so_far

  -- no record is left
  pub at_end : (kept all : List ℕ) → kept ++ to_come kept [] ≡ all → kept ≡ all
  at_end kept all so_far = sym (append-nil kept) ∙ so_far

  -- there are no more than before
  pub fewer : (rows : List ℕ) → length (without_repeats same rows) ≤ length rows
  fewer [] = omega arith
  fewer (row ∷ rows) =
      let rest = length (filter (λ other. not (same row other)) (without_repeats same rows)) in
      let less : rest ≤ length (without_repeats same rows) =
      filter_count (λ other. not (same row other)) (without_repeats same rows) in
      omega (arith, less, fewer rows)
