-- A stable sort has one answer.
use Rattle.std.proofs.Common.{◌≡◌, ℕ, ◌+◌, ◌<◌, List, [], ◌∷◌, length, get_or, cond, refl, sym, ap, subst, ◌∙◌, arith}
use Rattle.std.proofs.Common.{is_lt}
use Rattle.std.specs.Prelude.{zero, suc, Bool, true, false, not, ◌&&◌}
use Rattle.std.specs.Cmp.{IsStrictWeakOrder, IsTotalOrder}
use Rattle.std.specs.List.{filter}
use Rattle.std.specs.List.Sorted.{ties, IsSortedBy, IsStableBy}
use Rattle.std.specs.declared.cmp.Ordering.{Ordering}
use Rattle.std.proofs.Common.{inl, inr}
use Rattle.std.proofs.lemmas.Bool.{cases_Bool, false≢true, true≢false}
use Rattle.std.proofs.lemmas.List.MinMax.{ranks_by}
use Rattle.grid_address.specs.Place.{Extent}
use Rattle.formula_parts.specs.Outlook.{Sight}
use Rattle.block_writes.specs.Writing.{columns_of, rows_copied, rows_of}
use Rattle.sheet_store.specs.declared.writes.Write.{Write}
use Rattle.data_blocks.specs.Sorting.{in_order, order_of_rows, placed, rows_sorted, IsSort, IsStableSort}
use Rattle.data_blocks.specs.declared.key.SortKey.{SortKey}
use Rattle.data_blocks.proofs.Orders.{rows_total}

abbrev is_nil : List ℕ → Type 0
is_nil [] = Unit {0}
is_nil (x ∷ xs) = ⊥

nil_is_not : (x : ℕ) (xs : List ℕ) → [] ≡ x ∷ xs → ⊥
nil_is_not x xs e = subst is_nil e tt

abbrev head_or : ℕ → List ℕ → ℕ
head_or d [] = d
head_or d (x ∷ xs) = x

abbrev tail_of : List ℕ → List ℕ
tail_of [] = []
tail_of (x ∷ xs) = xs

module _ (order : ℕ → ℕ → Ordering) (total : IsTotalOrder order) where
  abbrev lt : ℕ → ℕ → Bool
  lt a b = is_lt (order a b)

  ranks : IsStrictWeakOrder lt
  ranks = ranks_by total (λ (n : ℕ). n)

  not_itself : (x : ℕ) → lt x x ≡ false
  not_itself x = elim (cases_Bool (lt x x)) [
    | inl t ↦ ranks.one_way x x t
    | inr f ↦ f
  ]

  both_tie : (x y : ℕ) → lt x y ≡ false → lt y x ≡ false → ties lt x y ≡ true
  both_tie x y a b = ap (λ t. not t && not (lt y x)) a ∙ ap (λ t. not t) b

  tie_left : (a b : Bool) → not a && not b ≡ true → a ≡ false
  tie_left true b h = absurd (false≢true h)
  tie_left false b h = refl

  tie_right : (a b : Bool) → not a && not b ≡ true → b ≡ false
  tie_right true b h = absurd (false≢true h)
  tie_right false true h = absurd (false≢true h)
  tie_right false false h = refl

  -- none of a list comes before a row
  abbrev Least : ℕ → List ℕ → Type 0
  Least x [] = Unit {0}
  Least x (y ∷ ys) = (lt y x ≡ false) × Least x ys

  abbrev Ordered : List ℕ → Type 0
  Ordered [] = Unit {0}
  Ordered (x ∷ xs) = Least x xs × Ordered xs

  least_through : (x y : ℕ) (zs : List ℕ) → lt y x ≡ false → Least y zs → Least x zs
  least_through x y [] h l = tt
  least_through x y (z ∷ zs) h l = (ranks.chain z y x l.0 h, least_through x y zs h l.1)

  sorted_tail : (x : ℕ) (xs : List ℕ) → IsSortedBy lt (x ∷ xs) → IsSortedBy lt xs
  sorted_tail x xs s = λ k d low high.
      let e : k + 1 ≡ suc k = omega arith in
      let f : k + 1 + 1 ≡ suc (k + 1) = omega arith in
      ap (λ (r : ℕ). lt (get_or xs (k + 1) d) r) (ap (λ (i : ℕ). get_or (x ∷ xs) i d) (sym e))
      ∙ ap (λ (r : ℕ). lt r (get_or (x ∷ xs) (k + 1) d)) (ap (λ (i : ℕ). get_or (x ∷ xs) i d) (sym f))
      ∙ s (k + 1) d (omega arith) (omega (arith, high))

  ordered_is : (xs : List ℕ) → IsSortedBy lt xs → Ordered xs
  ordered_is [] s = tt
  ordered_is (x ∷ []) s = (tt, tt)
  ordered_is (x ∷ y ∷ ys) s =
      let rest : Ordered (y ∷ ys) = ordered_is (y ∷ ys) (sorted_tail x (y ∷ ys) s) in
      let first : lt y x ≡ false = s 0 0 (omega arith) (omega arith) in
      ((first, least_through x y ys first rest.0), rest)

  -- what a test keeps of a list none of which comes before a row
  kept_least : (p : ℕ → Bool) (y x : ℕ) (ys f : List ℕ) → Least y ys → filter p ys ≡ x ∷ f → lt x y ≡ false
  kept_least p y x [] f l e = absurd (nil_is_not x f e)
  kept_least p y x (z ∷ zs) f l e = elim (cases_Bool (p z)) [
    | inl t ↦
        subst (λ (r : ℕ). lt r y ≡ false)
        (ap (head_or x) (sym (ap (λ b. cond b (z ∷ filter p zs) (filter p zs)) t) ∙ e)) l.0
    | inr n ↦ kept_least p y x zs f l.1 (sym (ap (λ b. cond b (z ∷ filter p zs) (filter p zs)) n) ∙ e)
  ]

  itself_kept : (x : ℕ) (xs : List ℕ) → filter (ties lt x) (x ∷ xs) ≡ x ∷ filter (ties lt x) xs
  itself_kept x xs =
      ap (λ b. cond b (x ∷ filter (ties lt x) xs) (filter (ties lt x) xs)) (both_tie x x (not_itself x) (not_itself x))

  -- a row that is kept of another list doesn't come before its first
  not_before : (x y : ℕ) (ys f : List ℕ) → Least y ys → filter (ties lt x) (y ∷ ys) ≡ x ∷ f → lt x y ≡ false
  not_before x y ys f l e = elim (cases_Bool (ties lt x y)) [
    | inl t ↦ tie_left (lt x y) (lt y x) t
    | inr n ↦
        kept_least (ties lt x) y x ys f l
        (sym (ap (λ b. cond b (y ∷ filter (ties lt x) ys) (filter (ties lt x) ys)) n) ∙ e)
  ]

  tail_same : (b : Bool) (x : ℕ) (p q : List ℕ) → cond b (x ∷ p) p ≡ cond b (x ∷ q) q → p ≡ q
  tail_same true x p q e = ap tail_of e
  tail_same false x p q e = e

  -- two lists in order in which those that tie stand alike are one
  same_list : (xs ys : List ℕ) → Ordered xs → Ordered ys → ((z : ℕ) → filter (ties lt z) xs ≡ filter (ties lt z) ys)
      → xs ≡ ys
  same_list [] [] o u h = refl
  same_list [] (y ∷ ys) o u h = absurd (nil_is_not y (filter (ties lt y) ys) (h y ∙ itself_kept y ys))
  same_list (x ∷ xs) [] o u h = absurd (nil_is_not x (filter (ties lt x) xs) (sym (h x) ∙ itself_kept x xs))
  same_list (x ∷ xs) (y ∷ ys) o u h =
      let there : filter (ties lt x) (y ∷ ys) ≡ x ∷ filter (ties lt x) xs = sym (h x) ∙ itself_kept x xs in
      let here : filter (ties lt y) (x ∷ xs) ≡ y ∷ filter (ties lt y) ys = h y ∙ itself_kept y ys in
      let tie : ties lt x y ≡ true =
      both_tie x y (not_before x y ys (filter (ties lt x) xs) u.0 there)
      (not_before y x xs (filter (ties lt y) ys) o.0 here) in
      let same : y ≡ x =
      ap (head_or x) (sym (ap (λ b. cond b (y ∷ filter (ties lt x) ys) (filter (ties lt x) ys)) tie) ∙ there) in
      let rest : xs ≡ ys =
      same_list xs ys o.1 u.1 (λ z. tail_same (ties lt z x) x (filter (ties lt z) xs) (filter (ties lt z) ys)
      (h z ∙ ap (λ (r : ℕ). cond (ties lt z r) (r ∷ filter (ties lt z) ys) (filter (ties lt z) ys)) same)) in
      ap (λ l. x ∷ l) rest ∙ ap (λ r. r ∷ ys) (sym same)

  -- a row that is placed comes behind what it came behind
  least_placed : (x row : ℕ) (rows : List ℕ) → lt row x ≡ false → Least x rows → Least x (placed order row rows)
  least_placed x row [] h l = (h, tt)
  least_placed x row (r ∷ rows) h l = elim (cases_Bool (lt r row)) [
    | inl t ↦
        subst (Least x) (sym (ap (λ b. cond b (r ∷ placed order row rows) (row ∷ r ∷ rows)) t))
        (l.0, least_placed x row rows h l.1)
    | inr n ↦ subst (Least x) (sym (ap (λ b. cond b (r ∷ placed order row rows) (row ∷ r ∷ rows)) n)) (h, l)
  ]

  placed_ordered : (row : ℕ) (rows : List ℕ) → Ordered rows → Ordered (placed order row rows)
  placed_ordered row [] o = (tt, tt)
  placed_ordered row (r ∷ rows) o = elim (cases_Bool (lt r row)) [
    | inl t ↦ subst Ordered (sym (ap (λ b. cond b (r ∷ placed order row rows) (row ∷ r ∷ rows)) t))
        (least_placed r row rows (ranks.one_way r row t) o.0, placed_ordered row rows o.1)
    | inr n ↦
        subst Ordered (sym (ap (λ b. cond b (r ∷ placed order row rows) (row ∷ r ∷ rows)) n))
        ((n, least_through row r rows n o.0), o)
  ]

  in_order_ordered : (rows : List ℕ) → Ordered (in_order order rows)
  in_order_ordered [] = tt
  in_order_ordered (row ∷ rows) = placed_ordered row (in_order order rows) (in_order_ordered rows)

  -- two that don't both pass may change places
  swapped : (b c : Bool) (x y : ℕ) (l : List ℕ) → (b ≡ true → c ≡ true → ⊥)
      → cond b (x ∷ cond c (y ∷ l) l) (cond c (y ∷ l) l) ≡ cond c (y ∷ cond b (x ∷ l) l) (cond b (x ∷ l) l)
  swapped true true x y l h = absurd (h refl refl)
  swapped true false x y l h = refl
  swapped false true x y l h = refl
  swapped false false x y l h = refl

  -- of three rows that tie with one, none comes before another
  tied_apart : (z r row : ℕ) → lt r row ≡ true → ties lt z r ≡ true → ties lt z row ≡ true → ⊥
  tied_apart z r row h a b =
      true≢false (sym h ∙ ranks.chain r z row (tie_right (lt z r) (lt r z) a) (tie_left (lt z row) (lt row z) b))

  placed_stable : (z row : ℕ) (rows : List ℕ)
      → filter (ties lt z) (placed order row rows) ≡ filter (ties lt z) (row ∷ rows)
  placed_stable z row [] = refl
  placed_stable z row (r ∷ rows) = elim (cases_Bool (lt r row)) [
    | inl t ↦ ap (λ b. filter (ties lt z) (cond b (r ∷ placed order row rows) (row ∷ r ∷ rows))) t
        ∙ ap (λ l. cond (ties lt z r) (r ∷ l) l) (placed_stable z row rows)
        ∙ swapped (ties lt z r) (ties lt z row) r row (filter (ties lt z) rows) (tied_apart z r row t)
    | inr n ↦ ap (λ b. filter (ties lt z) (cond b (r ∷ placed order row rows) (row ∷ r ∷ rows))) n
  ]

  in_order_stable : (z : ℕ) (rows : List ℕ) → filter (ties lt z) (in_order order rows) ≡ filter (ties lt z) rows
  in_order_stable z [] = refl
  in_order_stable z (row ∷ rows) =
      placed_stable z row (in_order order rows) ∙ ap (λ l. cond (ties lt z row) (row ∷ l) l) (in_order_stable z rows)

  -- each stable sort is this one
  pub stable_is : (rows sorted : List ℕ) → IsStableSort order rows sorted → sorted ≡ in_order order rows
  stable_is rows sorted is =
      same_list sorted (in_order order rows) (ordered_is sorted is.ordered) (in_order_ordered rows)
      (λ z. is.stable z ∙ sym (in_order_stable z rows))

-- each sort writes the same
pub one_sort : (sight : Sight) (s : Extent) (keys : List SortKey) (w : List Write) → IsSort sight s keys w
    → w ≡ rows_sorted sight s keys
one_sort sight s keys w is = is.moved
    ∙ ap (λ (l : List ℕ). rows_copied sight (columns_of s) l (rows_of s))
    (stable_is (order_of_rows sight.values keys) (rows_total sight.values keys) (rows_of s) is.sorted is.order)
