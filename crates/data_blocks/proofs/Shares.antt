-- The counts of a distribution, one bin at a time.
use Rattle.std.proofs.Common.{◌≡◌, ℕ, suc, ◌+◌, ◌-◌, ◌<◌, List, [], ◌∷◌, ◌++◌, map, length, take, get_or, sym, ap, ◌∙◌}
use Rattle.std.proofs.Common.{append_assoc, arith}
use Rattle.std.specs.Prelude.{ℤ, Option, Some, slice_get}
use Rattle.std.specs.List.{count_by}
use Rattle.std.proofs.lemmas.List.{append-nil, take_more}
use Rattle.std.proofs.lemmas.Option.{get_or_from_slice_get}
use Rattle.grid_address.specs.Place.{Place}
use Rattle.formula_tree.specs.declared.value.Value.{Value}
use Rattle.value_functions.specs.Values.{counted}
use Rattle.block_writes.specs.Writing.{as_content, at, down, numbers_from, written}
use Rattle.sheet_store.specs.declared.writes.Write.{Write}
use Rattle.data_blocks.specs.Distribution.{bin_of, counts_written, is_above, is_in_bin, number_of, numbers_in, shares}

in_append : (values : Place → Value) (ps : List Place) (p : Place)
    → numbers_in values (ps ++ p ∷ []) ≡ numbers_in values ps ++ number_of (values p)
in_append values [] p = append-nil (number_of (values p))
in_append values (q ∷ ps) p =
    ap (λ (l : List ℤ). number_of (values q) ++ l) (in_append values ps p)
    ∙ sym (append_assoc (number_of (values q)) (numbers_in values ps) (number_of (values p)))

-- the numbers so far with one cell more
pub gathered : (now new : List ℤ) (values : Place → Value) (ps : List Place) (i : ℕ) (p : Place) (v : Value)
    → now ≡ numbers_in values (take i ps) → new ≡ now ++ number_of v → v ≡ values p
    → (i < length ps) × (slice_get ps i ≡ Some p) →
    new ≡ numbers_in values (take (i + 1) ps)
gathered now new values ps i p v so_far more is h =
    more ∙ ap (λ (l : List ℤ). l ++ number_of v) so_far ∙ ap (λ x. numbers_in values (take i ps) ++ number_of x) is
    ∙ ap (λ q. numbers_in values (take i ps) ++ number_of (values q)) (sym (get_or_from_slice_get ps i p p h.1))
    ∙ sym (ap (numbers_in values) (take_more ps i p h.0) ∙ in_append values (take i ps) (get_or ps i p))

module _ (values : Place → Value) (numbers : List ℤ) (r c h : ℕ) where
  -- the counts of some rows on, and one row further
  abbrev counts : ℕ → ℕ → ℕ → Option ℤ → List Write
  counts n more k before =
      counts_written (down (c + 1) (numbers_from n more))
      (shares numbers before (map (λ p. bin_of (values p)) (down c (numbers_from n k))))

  -- what is left to write from a row on
  abbrev pub left : ℕ → Option ℤ → List Write
  left i before = counts (r + i) (h + 1 - i) (h - i) before

  left_more : (i : ℕ) (before : Option ℤ) → i < h →
      left i before ≡ written (at (r + i) (c + 1))
      (as_content (counted (count_by (is_in_bin before (bin_of (values (at (r + i) c)))) numbers)))
      ∷ left (i + 1) (Some (bin_of (values (at (r + i) c))))
  left_more i before inside =
      ap (λ k. counts (r + i) k (h - i) before) (let e : h + 1 - i ≡ suc (h + 1 - (i + 1)) = omega arith in e)
      ∙ ap (λ k. counts (r + i) (suc (h + 1 - (i + 1))) k before) (let e : h - i ≡ suc (h - (i + 1)) = omega arith in e)
      ∙ ap (λ m. written (at (r + i) (c + 1))
      (as_content (counted (count_by (is_in_bin before (bin_of (values (at (r + i) c)))) numbers)))
      ∷ counts m (h + 1 - (i + 1)) (h - (i + 1)) (Some (bin_of (values (at (r + i) c)))))
      (let e : r + i + 1 ≡ r + (i + 1) = omega arith in e)

  -- one more share, and the bin that the next one begins behind
  pub left_step : (now new all : List Write) (i n : ℕ) (before : Option ℤ) (bin : ℤ) (w : Write) → i < h
      → bin ≡ bin_of (values (at (r + i) c)) → n ≡ count_by (is_in_bin before bin) numbers →
      w ≡ written (at (r + i) (c + 1)) (as_content (counted n)) → new ≡ now ++ w ∷ [] → now ++ left i before ≡ all
      → new ++ left (i + 1) (Some bin) ≡ all
  left_step now new all i n before bin w inside is counts_it writes_it more so_far =
      ap (λ l. l ++ left (i + 1) (Some bin)) more ∙ append_assoc now (w ∷ []) (left (i + 1) (Some bin))
      ∙ ap (λ x. now ++ x ∷ left (i + 1) (Some bin)) writes_it
      ∙ ap (λ x. now ++ written (at (r + i) (c + 1)) (as_content (counted x)) ∷ left (i + 1) (Some bin)) counts_it
      ∙ ap (λ b. now ++ written (at (r + i) (c + 1)) (as_content (counted (count_by (is_in_bin before b) numbers)))
      ∷ left (i + 1) (Some b)) is
      ∙ ap (λ l. now ++ l) (sym (left_more i before inside)) ∙ so_far

  -- behind the last bin one count is left
  pub left_last : (now new all : List Write) (i n : ℕ) (before : Option ℤ) (w : Write) → i ≡ h
      → n ≡ count_by (is_above before) numbers →
      w ≡ written (at (r + h) (c + 1)) (as_content (counted n)) → new ≡ now ++ w ∷ [] → now ++ left i before ≡ all
      → new ≡ all
  left_last now new all i n before w ends counts_it writes_it more so_far =
      more ∙ ap (λ x. now ++ x ∷ []) writes_it
      ∙ ap (λ x. now ++ written (at (r + h) (c + 1)) (as_content (counted x)) ∷ []) counts_it
      ∙ ap (λ l. now ++ l) (sym last) ∙ ap (λ j. now ++ left j before) (sym ends) ∙ so_far
    where
      last : left h before ≡ written (at (r + h) (c + 1)) (as_content (counted (count_by (is_above before) numbers)))
          ∷ []
      last =
          ap (λ k. counts (r + h) k (h - h) before) (let e : h + 1 - h ≡ suc 0 = omega arith in e)
          ∙ ap (λ k. counts (r + h) (suc 0) k before) (let e : h - h ≡ 0 = omega arith in e)
