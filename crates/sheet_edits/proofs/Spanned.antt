-- The cells of a span, and the first of cells that are marked.
use Rattle.std.specs.Prelude.{ℕ, ◌≡◌, ◌⊎◌, ◌+◌, ◌-◌, ◌≤◌, ◌&&◌, ◌||◌, Bool, true, false, cond, nat_eq, nat_le, nat_lt}
use Rattle.std.specs.Prelude.{refl, List, [], Option, None, Some}
use Rattle.std.specs.FinMap.{empty, get, get-empty}
use Rattle.std.specs.declared.cmp.Ordering.{Ordering}
use Rattle.std.specs.declared.cmp.Ordering.TheVariants.{Equal, Greater, Less}
use Rattle.std.specs.Ordering.{is_lt, ordering_reverse}
use Rattle.std.proofs.Common.{sym, arith, ◌∙◌, ap, inl, inr, subst}
use Rattle.std.proofs.lemmas.Bool.{cases_Bool, false≢true, or_cases, or_left, or_right, true≢false}
use Rattle.std.proofs.lemmas.Bool.Decides.{nat_tests}
use Rattle.list_lemmas.proofs.Booleans.{same_from_both}
use Rattle.grid_address.proofs.Places.{cells_total, same_place_is, same_place_itself}
use Rattle.grid_address.specs.Place.{height_of, is_within, place_cmp, same_place, width_of, Extent, Place}
use Rattle.cell_maps.specs.Sets.{has}
use Rattle.sheet_store.specs.Grid.{Cells, Grid}
use Rattle.sheet_edits.specs.Spans.{before, is_marked, sooner, sooner_of}
use Rattle.sheet_edits.specs.inner.Lines.{in_columns, in_rows}
use Rattle.sheet_edits.specs.inner.Marks.{IsFirstMarked, IsFirstOf}

-- one more row or column
one_more : (f n r : ℕ) → (nat_le f r && nat_lt r (f + (n + 1))) ≡ ((nat_le f r && nat_lt r (f + n)) || nat_eq r (f + n))
one_more f n r = same_from_both _ _ (λ t. grind (arith, nat_tests, t)) (λ t. grind (arith, nat_tests, t))

none_yet : (f r : ℕ) → (nat_le f r && nat_lt r (f + 0)) ≡ false
none_yet f r = elim (cases_Bool (nat_le f r && nat_lt r (f + 0))) [
  | inl t ↦ absurd (grind (arith, nat_tests, t))
  | inr h ↦ h
]

as_far : (f l r : ℕ) → f ≤ l → nat_lt r (f + (l + 1 - f)) ≡ nat_le r l
as_far f l r h = same_from_both _ _ (λ t. grind (arith, nat_tests, t, h)) (λ t. grind (arith, nat_tests, t, h))

split : (a e k : Bool) → ((a && k) || (e && k)) ≡ ((a || e) && k)
split true true true = refl
split true true false = refl
split true false true = refl
split true false false = refl
split false e k = refl

module _ (row col width : ℕ) where
  -- of no rows no cell is listed
  pub no_rows : (cells : List Place) → cells ≡ [] → (c : Place)
      → has same_place cells c ≡ (in_rows row 0 c && in_columns col width c)
  no_rows cells e c = ap (λ l. has same_place l c) e ∙ sym (ap (λ b. b && in_columns col width c) (none_yet row c.row))

  -- with one row more, its cells are listed
  pub one_row : (old new : List Place) (n : ℕ)
      → ((c : Place) → has same_place old c ≡ (in_rows row n c && in_columns col width c))
      → ((c : Place)
      → has same_place new c ≡ (has same_place old c || (nat_eq c.row (row + n) && in_columns col width c)))
      → (c : Place) → has same_place new c ≡ (in_rows row (n + 1) c && in_columns col width c)
  one_row old new n inv h c =
      h c ∙ ap (λ b. b || (nat_eq c.row (row + n) && in_columns col width c)) (inv c)
      ∙ split (in_rows row n c) (nat_eq c.row (row + n)) (in_columns col width c)
      ∙ ap (λ b. b && in_columns col width c) (sym (one_more row n c.row))

-- all rows and all columns of a span are the span
pub all_rows : (s : Extent) → s.first.row ≤ s.last.row → s.first.col ≤ s.last.col → (c : Place)
    → (in_rows s.first.row (height_of s) c && in_columns s.first.col (width_of s) c) ≡ is_within s c
all_rows s h k c =
    ap (λ b. (nat_le s.first.row c.row && b) && in_columns s.first.col (width_of s) c)
    (as_far s.first.row s.last.row c.row h)
    ∙ ap (λ b. (nat_le s.first.row c.row && nat_le c.row s.last.row) && (nat_le s.first.col c.col && b))
    (as_far s.first.col s.last.col c.col k)

-- where there is a line at all, the first isn't behind the last
pub at_least_one : (f l n : ℕ) → n ≡ l + 1 - f → 1 ≤ n → f ≤ l
at_least_one f l n e h = omega (arith, e, h)

-- nothing is given yet
pub nothing_given : (m : Cells) → m ≡ empty → (c : Place) → get m c ≡ None
nothing_given m e c = ap (λ k. get k c) e ∙ get-empty place_cmp c

-- the first of marked cells, as far as one more
-- the order of places
less_apart : (r : Ordering) → is_lt r ≡ false → r ≡ Less → ⊥
less_apart r f e = true≢false (sym (ap is_lt e) ∙ f)

turned : (x y : Place) (r : Ordering) → place_cmp x y ≡ r → place_cmp y x ≡ ordering_reverse r
turned x y r h = cells_total.antisymm y x ∙ ap ordering_reverse h

not_itself : (x : Place) → place_cmp x x ≡ Less → ⊥
not_itself x h = less_apart Greater refl (sym (turned x x Less h) ∙ h)

-- the first of marked cells, as far as one more
module _ (g : Grid) (seen more : Place → Bool) (x : Place)
    (sees : (c : Place) → more c ≡ (seen c || (same_place c x || false))) where
  seen_is : (c : Place) → more c ≡ true → (seen c ≡ true) ⊎ (c ≡ x)
  seen_is c t = elim (or_cases _ _ (sym (sees c) ∙ t)) [
    | inl a ↦ inl a
    | inr b ↦
        elim (or_cases (same_place c x) false b) [ inl e ↦ inr (same_place_is c x e) | inr f ↦ absurd (false≢true f) ]
  ]

  later : (c : Place) → seen c ≡ true → more c ≡ true
  later c t = sees c ∙ or_left _ _ t

  last : more x ≡ true
  last = sees x ∙ or_right _ _ (or_left _ _ (same_place_itself x))

  unmarked : is_marked g x ≡ false → (first : Option Place) → IsFirstOf g seen first → IsFirstOf g more first
  unmarked k None i = λ c t. elim (seen_is c t) [ inl a ↦ i c a | inr e ↦ ap (is_marked g) e ∙ k ]
  unmarked k (Some d) i = record {
    here = later d i.here;
    marked = i.marked;
    first =
        λ e t m l. elim (seen_is e t) [ inl a ↦ i.first e a m l | inr q ↦ true≢false (sym m ∙ ap (is_marked g) q ∙ k) ];
  }

  stays : (d : Place) → IsFirstMarked g seen d → (r : Ordering) → is_lt r ≡ false → place_cmp x d ≡ r
      → IsFirstMarked g more d
  stays d i r n h = record {
    here = later d i.here;
    marked = i.marked;
    first = λ e t m l. elim (seen_is e t)
        [ inl a ↦ i.first e a m l | inr q ↦ less_apart r n (sym h ∙ subst (λ y. place_cmp y d ≡ Less) q l) ];
  }

  marked_too : is_marked g x ≡ true → (first : Option Place) → IsFirstOf g seen first
      → IsFirstOf g more (sooner_of first x)
  marked_too k None i = record {
    here = last;
    marked = k;
    first = λ e t m l. elim (seen_is e t)
        [ inl a ↦ true≢false (sym m ∙ i e a) | inr q ↦ not_itself x (subst (λ y. place_cmp y x ≡ Less) q l) ];
  }
  marked_too k (Some d) i = by (place_cmp d x) refl
    where
      by : (r : Ordering) → place_cmp d x ≡ r → IsFirstOf g more (before r (Some d) (Some x))
      by Less h = stays d i Greater refl (turned d x Less h)
      by Equal h = stays d i Equal refl (turned d x Equal h)
      by Greater h = record {
        here = last;
        marked = k;
        first = λ e t m l. elim (seen_is e t) [
          | inl a ↦ i.first e a m (cells_total.trans e x d l
              (turned d x Greater h))
          | inr q ↦ not_itself x (subst (λ y. place_cmp y x ≡ Less) q l)
        ];
      }

  -- with one cell more looked at, the first marked one is that or the one before
  pub first_more : (first : Option Place) → IsFirstOf g seen first → IsFirstOf g more (sooner g first x)
  first_more first i =
      elim (is_marked g x) as (λ b. is_marked g x ≡ b → IsFirstOf g more (cond b (sooner_of first x) first)) [
        | true ↦ λ k. marked_too k first i
        | false ↦ λ k. unmarked k first i
      ] refl
