-- The first of the cells of a span, and of two spans, that passes a test.
use Rattle.std.specs.Prelude.{ℕ, zero, suc, ◌≡◌, ◌+◌, ◌-◌, ◌≤◌, ◌<◌, ◌⊎◌, ◌||◌, ◌==◌, nat_lt, Bool, true, false, cond}
use Rattle.std.specs.Prelude.{Option, None, Some, refl}
use Rattle.std.specs.Ordering.{is_gt, nat_cmp, ordering_then}
use Rattle.std.specs.declared.cmp.Ordering.TheVariants.{Equal, Greater, Less}
use Rattle.std.specs.Option.{option_or}
use Rattle.std.proofs.Common.{sym, ◌∙◌, ap, arith, inl, inr}
use Rattle.std.proofs.lemmas.Bool.{cases_Bool, or_cases, or_left, or_right, true≢false}
use Rattle.std.proofs.lemmas.Bool.Decides.{nat_tests}
use Rattle.grid_address.specs.Place.{height_of, is_within, place_cmp, width_of, Extent, Place}
use Rattle.ref_adjust.specs.Moves.{target}
use Rattle.sheet_store.specs.Grid.{Cells}
use Rattle.sheet_shifts.specs.Laws.{IsFirstOf, IsOrdered, IsUpTo, NamesFirst}
use Rattle.sheet_shifts.specs.Refusals.{earlier, first_in_row, first_in_rows, first_marked, is_marked_at}

-- places of as many columns of a row, and of as many rows
abbrev InRow : ℕ → Place → Place → Type 0
InRow n p d = (d.row ≡ p.row) × (p.col ≤ d.col) × (d.col < p.col + n)

abbrev InRows : ℕ → ℕ → Place → Place → Type 0
InRows n cols p d = (p.row ≤ d.row) × (d.row < p.row + n) × (p.col ≤ d.col) × (d.col < p.col + cols)

abbrev right_of : Place → Place
right_of p = record p { col = p.col + 1 }

abbrev below : Place → Place
below p = record p { row = p.row + 1 }

-- the first place of a row that passes a test, if one does
abbrev IsRowFirst : (Place → Bool) → ℕ → Place → Place → Type 0
IsRowFirst test n p c = InRow n p c × (test c ≡ true) × ((d : Place) → InRow n p d → test d ≡ true → c.col ≤ d.col)

abbrev RowFirst : (Place → Bool) → ℕ → Place → Option Place → Type 0
RowFirst test n p None = (d : Place) → InRow n p d → test d ≡ false
RowFirst test n p (Some c) = IsRowFirst test n p c

-- and of some rows
abbrev IsRowsFirst : (Place → Bool) → ℕ → ℕ → Place → Place → Type 0
IsRowsFirst test n cols p c =
    InRows n cols p c × (test c ≡ true) × ((d : Place) → InRows n cols p d → test d ≡ true → IsUpTo c d)

abbrev RowsFirst : (Place → Bool) → ℕ → ℕ → Place → Option Place → Type 0
RowsFirst test n cols p None = (d : Place) → InRows n cols p d → test d ≡ false
RowsFirst test n cols p (Some c) = IsRowsFirst test n cols p c

inside_of : (f l r : ℕ) → f ≤ r → r ≤ l → r < f + (l + 1 - f)
inside_of f l r a b = omega (arith, a, b)

up_to_last : (f l r : ℕ) → f ≤ l → r < f + (l + 1 - f) → r ≤ l
up_to_last f l r a b = omega (arith, a, b)

-- the order of places, by their rows and columns
less_row : (a b : Place) → nat_lt a.row b.row ≡ true → is_gt (place_cmp a b) ≡ false
less_row a b less =
    ap (λ t. is_gt (ordering_then (cond t Less (cond (a.row == b.row) Equal Greater)) (nat_cmp a.col b.col))) less

more_row : (a b : Place) → nat_lt a.row b.row ≡ false → (a.row == b.row) ≡ false → is_gt (place_cmp a b) ≡ true
more_row a b more other =
    ap (λ t. is_gt (ordering_then (cond t Less (cond (a.row == b.row) Equal Greater)) (nat_cmp a.col b.col))) more
    ∙ ap (λ t. is_gt (ordering_then (cond t Equal Greater) (nat_cmp a.col b.col))) other

same_row : (a b : Place) → nat_lt a.row b.row ≡ false → (a.row == b.row) ≡ true
    → is_gt (place_cmp a b) ≡ is_gt (nat_cmp a.col b.col)
same_row a b more same =
    ap (λ t. is_gt (ordering_then (cond t Less (cond (a.row == b.row) Equal Greater)) (nat_cmp a.col b.col))) more
    ∙ ap (λ t. is_gt (ordering_then (cond t Equal Greater) (nat_cmp a.col b.col))) same

later_number : (x y : ℕ) → is_gt (nat_cmp x y) ≡ true → y ≤ x
later_number x y h = elim (cases_Bool (nat_lt x y)) [
  | inl less ↦ absurd (true≢false (sym h ∙ ap (λ t. is_gt (cond t Less (cond (x == y) Equal Greater))) less))
  | inr more ↦ grind (arith, nat_tests, more)
]

not_later_number : (x y : ℕ) → is_gt (nat_cmp x y) ≡ false → x ≤ y
not_later_number x y h = elim (cases_Bool (nat_lt x y)) [
  | inl less ↦ (let l : x < y = grind (arith, nat_tests, less) in omega (arith, l))
  | inr more ↦ elim (cases_Bool (x == y)) [
    | inl same ↦ (let e : x ≡ y = grind (arith, nat_tests, same) in omega (arith, e))
    | inr other ↦
        absurd (true≢false (sym
        (ap (λ t. is_gt (cond t Less (cond (x == y) Equal Greater))) more
        ∙ ap (λ t. is_gt (cond t Equal Greater)) other) ∙ h))
  ]
]

later_is : (a b : Place) → is_gt (place_cmp a b) ≡ true → IsUpTo b a
later_is a b h = elim (cases_Bool (nat_lt a.row b.row)) [
  | inl less ↦ absurd (true≢false (sym h ∙ less_row a b less))
  | inr more ↦ elim (cases_Bool (a.row == b.row)) [
    | inl same ↦
        (let row : b.row ≡ a.row = grind (arith, nat_tests, same) in
        inr (row, later_number a.col b.col (sym (same_row a b more same) ∙ h)))
    | inr other ↦ (let less : b.row < a.row = grind (arith, nat_tests, more, other) in inl less)
  ]
]

not_later : (a b : Place) → is_gt (place_cmp a b) ≡ false → IsUpTo a b
not_later a b h = elim (cases_Bool (nat_lt a.row b.row)) [
  | inl less ↦ (let l : a.row < b.row = grind (arith, nat_tests, less) in inl l)
  | inr more ↦ elim (cases_Bool (a.row == b.row)) [
    | inl same ↦
        (let row : a.row ≡ b.row = grind (arith, nat_tests, same) in
        inr (row, not_later_number a.col b.col (sym (same_row a b more same) ∙ h)))
    | inr other ↦ absurd (true≢false (sym (more_row a b more other) ∙ h))
  ]
]

up_to : (a b d : Place) → IsUpTo a b → IsUpTo b d → IsUpTo a d
up_to a b d (inl p) (inl q) = inl (omega (arith, p, q))
up_to a b d (inl p) (inr q) = (let row = q.0 in inl (omega (arith, p, row)))
up_to a b d (inr p) (inl q) = (let row = p.0 in inl (omega (arith, row, q)))
up_to a b d (inr p) (inr q) = (let x = p.1 in let y = q.1 in inr (p.0 ∙ q.0, omega (arith, x, y)))

module _ (test : Place → Bool) where
  -- a place of a row is its first one, or stands behind it
  split_row : (n : ℕ) (p d : Place) → InRow (suc n) p d → (d ≡ p) ⊎ InRow n (right_of p) d
  split_row n p d w = elim (cases_Bool (nat_lt p.col d.col)) [
    | inl later ↦
        (let less : p.col < d.col = grind (arith, nat_tests, later) in let far = w.2 in
        inr (w.0, omega (arith, less), omega (arith, far)))
    | inr first ↦ (
        let most : d.col ≤ p.col = grind (arith, nat_tests, first) in
        let least : p.col ≤ d.col = w.1 in
        let col : d.col ≡ p.col = omega (arith, most, least) in
        let row : d.row ≡ p.row = w.0 in
        inl (λ i. record { row = row i; col = col i }))
  ]

  row_past : (n : ℕ) (p : Place) (o : Option Place) → test p ≡ false → RowFirst test n (right_of p) o
      → RowFirst test (suc n) p o
  row_past n p None out h = λ d w. elim (split_row n p d w) [ inl e ↦ ap test e ∙ out | inr r ↦ h d r ]
  row_past n p (Some c) out h =
      let w = h.0 in
      let x = w.1 in
      let y = w.2 in (
        (w.0, omega (arith, x), omega (arith, y)),
        h.1,
        λ d w t. elim (split_row n p d w) [ inl e ↦ absurd (true≢false (sym t ∙ ap test e ∙ out)) | inr r ↦ h.2 d r t ],
      )

  row_first : (n : ℕ) (p : Place) → RowFirst test n p (first_in_row test n p)
  unfolding first_in_row
  row_first zero p = λ d w. (let x = w.1 in let y = w.2 in absurd (omega (arith, x, y)))
  row_first (suc n) p = by (row_first n (right_of p)) (test p) refl
    where
      by : RowFirst test n (right_of p) (first_in_row test n (right_of p)) → (b : Bool) → test p ≡ b
          → RowFirst test (suc n) p (cond b (Some p) (first_in_row test n (right_of p)))
      by rest true e = ((refl, omega arith, omega arith), e, λ d w t. w.1)
      by rest false e = row_past n p (first_in_row test n (right_of p)) e rest

  -- a place of some rows stands in the first one, or below it
  split_rows : (n cols : ℕ) (p d : Place) → InRows (suc n) cols p d → InRow cols p d ⊎ InRows n cols (below p) d
  split_rows n cols p d w = elim (cases_Bool (nat_lt p.row d.row)) [
    | inl later ↦
        (let less : p.row < d.row = grind (arith, nat_tests, later) in let far = w.1 in
        inr (omega (arith, less), omega (arith, far), w.2, w.3))
    | inr first ↦
        (let most : d.row ≤ p.row = grind (arith, nat_tests, first) in let least : p.row ≤ d.row = w.0 in
        inl (omega (arith, most, least), w.2, w.3))
  ]

  rows_past : (n cols : ℕ) (p : Place) (o : Option Place) → RowFirst test cols p None
      → RowsFirst test n cols (below p) o → RowsFirst test (suc n) cols p o
  rows_past n cols p None out h = λ d w. elim (split_rows n cols p d w) [ inl r ↦ out d r | inr r ↦ h d r ]
  rows_past n cols p (Some c) out h = (
    (let w = h.0 in let x = w.0 in let y = w.1 in (omega (arith, x), omega (arith, y), w.2, w.3)),
    h.1,
    λ d w t. elim (split_rows n cols p d w) [ inl r ↦ absurd (true≢false (sym t ∙ out d r)) | inr r ↦ h.2 d r t ],
  )

  row_found : (n cols : ℕ) (p c : Place) → IsRowFirst test cols p c → IsRowsFirst test (suc n) cols p c
  row_found n cols p c h =
      let w = h.0 in
      let row = w.0 in (
        (omega (arith, row), omega (arith, row), w.1, w.2),
        h.1,
        λ d v t. elim (split_rows n cols p d v) [
          | inl r ↦ inr (row ∙ sym r.0, h.2 d r t)
          | inr r ↦ (let low : p.row + 1 ≤ d.row = r.0 in inl (omega (arith, low, row)))
        ],
      )

  rows_first : (n cols : ℕ) (p : Place) → RowsFirst test n cols p (first_in_rows test n cols p)
  unfolding first_in_rows
  rows_first zero cols p = λ d w. (let x = w.0 in let y = w.1 in absurd (omega (arith, x, y)))
  rows_first (suc n) cols p = by (rows_first n cols (below p)) (first_in_row test cols p) (row_first cols p)
    where
      by : RowsFirst test n cols (below p) (first_in_rows test n cols (below p)) → (o : Option Place)
          → RowFirst test cols p o → RowsFirst test (suc n) cols p (option_or o (first_in_rows test n cols (below p)))
      by rest None h = rows_past n cols p (first_in_rows test n cols (below p)) h rest
      by rest (Some c) h = row_found n cols p c h

  in_span : (s : Extent) (d : Place) → is_within s d ≡ true → InRows (height_of s) (width_of s) s.first d
  in_span s d w =
      let a : s.first.row ≤ d.row = grind (arith, nat_tests, w) in
      let b : d.row ≤ s.last.row = grind (arith, nat_tests, w) in
      let x : s.first.col ≤ d.col = grind (arith, nat_tests, w) in
      let y : d.col ≤ s.last.col = grind (arith, nat_tests, w) in
      (a, inside_of s.first.row s.last.row d.row a b, x, inside_of s.first.col s.last.col d.col x y)

  of_span : (s : Extent) → IsOrdered s → (d : Place) → InRows (height_of s) (width_of s) s.first d
      → is_within s d ≡ true
  of_span s ordered d w =
      let a : s.first.row ≤ d.row = w.0 in
      let b : d.row ≤ s.last.row = up_to_last s.first.row s.last.row d.row ordered.0 w.1 in
      let x : s.first.col ≤ d.col = w.2 in
      let y : d.col ≤ s.last.col = up_to_last s.first.col s.last.col d.col ordered.1 w.3 in
      grind (arith, nat_tests, a, b, x, y)

  span_first : (s : Extent) → IsOrdered s → (o : Option Place) → RowsFirst test (height_of s) (width_of s) s.first o
      → IsFirstOf (is_within s) test o
  span_first s ordered None h = λ d w. h d (in_span s d w)
  span_first s ordered (Some c) h = record {
    here = of_span s ordered c h.0;
    passes = h.1;
    first = λ d w t. h.2 d (in_span s d w) t;
  }

  module _ (one other : Place → Bool) where
    abbrev either : Place → Bool
    either c = one c || other c

    -- the earlier of two first ones is the first of all
    earlier_first : (a b : Option Place) → IsFirstOf one test a → IsFirstOf other test b
        → IsFirstOf either test (earlier a b)
    earlier_first None None h k = λ d w. elim (or_cases (one d) (other d) w) [ inl x ↦ h d x | inr y ↦ k d y ]
    earlier_first None (Some b) h k = record {
      here = or_right (one b) (other b) k.here;
      passes = k.passes;
      first =
          λ d w t. elim (or_cases (one d) (other d) w)
          [ inl x ↦ absurd (true≢false (sym t ∙ h d x)) | inr y ↦ k.first d y t ];
    }
    earlier_first (Some a) None h k = record {
      here = or_left (one a) (other a) h.here;
      passes = h.passes;
      first =
          λ d w t. elim (or_cases (one d) (other d) w)
          [ inl x ↦ h.first d x t | inr y ↦ absurd (true≢false (sym t ∙ k d y)) ];
    }
    earlier_first (Some a) (Some b) h k = by (is_gt (place_cmp a b)) refl
      where
        by : (c : Bool) → is_gt (place_cmp a b) ≡ c → IsFirstOf either test (cond c (Some b) (Some a))
        by true e = record {
          here = or_right (one b) (other b) k.here;
          passes = k.passes;
          first =
              λ d w t. elim (or_cases (one d) (other d) w)
              [ inl x ↦ up_to b a d (later_is a b e) (h.first d x t) | inr y ↦ k.first d y t ];
        }
        by false e = record {
          here = or_left (one a) (other a) h.here;
          passes = h.passes;
          first =
              λ d w t. elim (or_cases (one d) (other d) w)
              [ inl x ↦ h.first d x t | inr y ↦ up_to a b d (not_later a b e) (k.first d y t) ];
        }

-- the first protected cell of a span
marked_first : (m : Cells) (s : Extent) → IsOrdered s → IsFirstOf (is_within s) (is_marked_at m) (first_marked m s)
marked_first m s ordered =
    span_first (is_marked_at m) s ordered (first_marked m s)
    (rows_first (is_marked_at m) (height_of s) (width_of s) s.first)

-- the first cells of a span come first
pub names_first : (from : Extent) (to : Place) (m : Cells) → IsOrdered from → NamesFirst from to m
names_first from to m ordered =
    let there : IsOrdered (target from to) = (omega arith, omega arith) in
    earlier_first (is_marked_at m) (is_within from) (is_within (target from to)) (first_marked m from)
    (first_marked m (target from to)) (marked_first m from ordered) (marked_first m (target from to) there)
