-- A column in which what a number passes stands above what it doesn't.
use Rattle.std.proofs.Common.{◌≡◌, ℕ, zero, suc, ◌+◌, ◌≤◌, ◌<◌, nat_lt, not, inl, inr, refl, sym, ap, subst, ◌∙◌, arith}
use Rattle.std.specs.Prelude.{Bool, true, false, ℤ, Option, Some, None, IfSome, IsSome}
use Rattle.std.specs.Int.RustNames.{int_lt}
use Rattle.std.specs.List.{prefix_len}
use Rattle.std.proofs.lemmas.Bool.{cases_Bool, false≢true}
use Rattle.std.proofs.lemmas.Bool.Decides.{nat_tests}
use Rattle.std.proofs.lemmas.Int.{ints}
use Rattle.grid_address.specs.Place.{height_of, is_within, same_place, Extent, Place}
use Rattle.formula_tree.specs.declared.value.Value.{Value}
use Rattle.formula_tree.specs.declared.value.Value.TheVariants as value
use Rattle.formula_parts.specs.declared.kept.Findings.{Findings}
use Rattle.formula_parts.specs.inner.Kept.{AreFound, IsColumn, IsRising, RisesTo}
use Rattle.formula_parts.specs.Lookups.{firsts, line_cell, passes}
use Rattle.formula_parts.proofs.Blocks.{place}
use Rattle.formula_parts.proofs.Keeping.{other, running_stays}
use Rattle.formula_parts.proofs.Lines.{all_passed, goes_on, none_passed, stops_here, IsPassed}

-- the numbers of the first rows are no greater than a number that is at least another, if there is one
abbrev pub IsAbove : (Place → Value) → Extent → ℕ → Option ℤ → Type 0
IsAbove values s rows low =
    (x : ℤ) (i : ℕ) → i < rows → IfSome low (λ l. int_lt x l ≡ false) → passes x (values (line_cell false s i 0)) ≡ true

module _ (values : Place → Value) (s : Extent) (row : ℕ) (low : Option ℤ) (n : ℤ)
    (at : values (line_cell false s row 0) ≡ value.Num n) (up : IfSome low (λ l. int_lt n l ≡ false))
    (above : IsAbove values s row low) where
  here : (x : ℤ) → int_lt x n ≡ false → passes x (values (line_cell false s row 0)) ≡ true
  here x h = ap (passes x) at ∙ ap not h

  lower : (x l : ℤ) → int_lt x n ≡ false → int_lt n l ≡ false → int_lt x l ≡ false
  lower x l h g = grind (arith, ints)

  under : (x : ℤ) → int_lt x n ≡ false → (o : Option ℤ) → IfSome o (λ l. int_lt n l ≡ false)
      → IfSome o (λ l. int_lt x l ≡ false)
  under x h None g = tt
  under x h (Some l) g = lower x l h g

  -- so they are with a row more
  pub above_more : IsAbove values s (row + 1) (Some n)
  above_more = λ x i inside h. elim (cases_Bool (nat_lt i row)) [
    | inl t ↦ above x i (grind (arith, nat_tests)) (under x h low up)
    | inr f ↦
        let e : row ≡ i = grind (arith, nat_tests) in
        subst (λ k. passes x (values (line_cell false s k 0)) ≡ true) e (here x h)
  ]

  least : (x : ℤ) → passes x (values (line_cell false s row 0)) ≡ true → int_lt x n ≡ false
  least x pass = let e : not (int_lt x n) ≡ true = sym (ap (passes x) at) ∙ pass in grind arith

  -- with this row more, what a number passes still stands above what it doesn't
  pub rises_more : RisesTo values s row → RisesTo values s (row + 1)
  rises_more rising = λ x i j up inside pass. elim (cases_Bool (nat_lt j row)) [
    | inl t ↦ rising x i j up (grind (arith, nat_tests)) pass
    | inr f ↦
        let e : j ≡ row = grind (arith, nat_tests) in
        above_more x i (omega (arith, up, e))
        (least x (subst (λ k. passes x (values (line_cell false s k 0)) ≡ true) e pass))
  ]

module _ (p : Value → Bool) (values : Place → Value) (s : Extent) (lines : ℕ) where
  -- the first lines pass
  some_passed : (n : ℕ) → n ≤ lines → ((i : ℕ) → i < n → p (values (line_cell false s i 0)) ≡ true)
      → IsPassed p values false s lines n
  some_passed zero few pass = none_passed p values false s lines
  some_passed (suc n) few pass =
      let before : IsPassed p values false s lines n =
      some_passed n (omega (arith, few)) (λ i h. pass i (omega (arith, h))) in
      let more : IsPassed p values false s lines (n + 1) =
      goes_on p values false s lines n (values (line_cell false s n 0)) (omega (arith, few)) before refl
      (pass n (omega arith)) in
      subst (IsPassed p values false s lines) (let e : n + 1 ≡ suc n = omega arith in e) more

  -- and the next doesn't
  pub ends_at : (n : ℕ) → n ≤ lines → ((i : ℕ) → i < n → p (values (line_cell false s i 0)) ≡ true)
      → (n < lines → p (values (line_cell false s n 0)) ≡ false) → n ≡ prefix_len p (firsts values false s 0 lines)
  ends_at n few pass fail = elim (cases_Bool (nat_lt n lines)) [
    | inl t ↦
        let inside : n < lines = grind (arith, nat_tests) in
        sym (stops_here p values false s lines n (values (line_cell false s n 0)) inside (some_passed n few pass) refl
        (fail inside))
    | inr f ↦
        let past : lines ≤ n = grind (arith, nat_tests) in
        let all : n ≡ lines = omega (arith, past, few) in
        all ∙ sym (all_passed p values false s lines n past few (some_passed n few pass))
  ]

-- a range that begins alike rises in no more rows
pub part_rises : (values : Place → Value) (s t : Extent) → t.first.row ≡ s.first.row → t.first.col ≡ s.first.col
    → height_of t ≤ height_of s → IsRising values s → IsRising values t
part_rises values s t row col fewer rising = λ x i j up inside pass.
    moved x i (rising x i j up (omega (arith, inside, fewer)) (back x j pass))
  where
    moved : (x : ℤ) (i : ℕ) → passes x (values (line_cell false s i 0)) ≡ true
        → passes x (values (line_cell false t i 0)) ≡ true
    moved x i pass =
        ap (λ r. passes x (values (place (r + i) (t.first.col + 0)))) row
        ∙ ap (λ c. passes x (values (place (s.first.row + i) (c + 0)))) col ∙ pass

    back : (x : ℤ) (i : ℕ) → passes x (values (line_cell false t i 0)) ≡ true
        → passes x (values (line_cell false s i 0)) ≡ true
    back x i pass =
        ap (λ r. passes x (values (place (r + i) (s.first.col + 0)))) (sym row)
        ∙ ap (λ c. passes x (values (place (t.first.row + i) (c + 0)))) (sym col) ∙ pass

-- a column rises while no cell of it changes
pub still_rises : (values others : Place → Value) (s : Extent) (c : Place) → s.first.col ≤ s.last.col
    → is_within s c ≡ false → ((d : Place) → same_place d c ≡ false → others d ≡ values d) → IsRising values s
    → IsRising others s
still_rises values others s c some outside same rising = λ x i j up inside pass.
    ap (passes x) (there i (omega (arith, up, inside)))
    ∙ rising x i j up inside (ap (passes x) (sym (there j inside)) ∙ pass)
  where
    there : (i : ℕ) → i < height_of s → others (line_cell false s i 0) ≡ values (line_cell false s i 0)
    there i inside =
        same (line_cell false s i 0) (other s c (s.first.row + i) (s.first.col + 0) outside (omega arith)
        (omega (arith, inside)) (omega arith) (omega (arith, some)))

-- a column that is kept behind a change
pub let_go : (values others : Place → Value) (old new : Option Extent) (c : Place)
    → ((d : Place) → same_place d c ≡ false → others d ≡ values d)
    → IfSome old (IsColumn values) → IfSome new (λ s. (old ≡ Some s) × (is_within s c ≡ false))
    → IfSome new (IsColumn others)
let_go values others old None c same is from = tt
let_go values others old (Some s) c same is from =
    let there : IsColumn values s = subst (λ o. IfSome o (IsColumn values)) from.0 is in
    (there.0, still_rises values others s c there.0 from.1 same there.1)

-- a range whose first column is a part of one that is kept
pub in_column : (values : Place → Value) (s : Extent) (column : Option Extent) → IsSome column
    → IfSome column (λ t. s.first.row ≡ t.first.row) → IfSome column (λ t. s.first.col ≡ t.first.col)
    → IfSome column (λ t. height_of s ≤ height_of t)
    → IfSome column (IsColumn values) → IsRising values s
in_column values s None some row col fewer is = absurd (false≢true some)
in_column values s (Some t) some row col fewer is = part_rises values t s row col fewer is.1

-- a column that is kept rises still where the cell that changes isn't in it
pub column_stays : (values others : Place → Value) (kept : Option Extent) (c : Place)
    → IfSome kept (λ s. is_within s c ≡ false) → ((d : Place) → same_place d c ≡ false → others d ≡ values d)
    → IfSome kept (IsColumn values) → IfSome kept (IsColumn others)
column_stays values others None c outside same is = tt
column_stays values others (Some s) c outside same is = (is.0, still_rises values others s c is.0 outside same is.1)

-- what is kept is so still where none of it hangs on the cell that changes
pub kept_stays : (values others : Place → Value) (kept : Option Findings) (f : Findings) (c : Place) → kept ≡ Some f
    → IfSome f.last (λ r. is_within r.span c ≡ false) → IfSome f.before (λ r. is_within r.span c ≡ false)
    → IfSome f.rising (λ s. is_within s c ≡ false) → ((d : Place) → same_place d c ≡ false → others d ≡ values d)
    → IfSome kept (AreFound values) → IfSome kept (AreFound others)
kept_stays values others kept f c is last before rising same found =
    let there : AreFound values f = subst (λ o. IfSome o (AreFound values)) is found in
    subst (λ o. IfSome o (AreFound others)) (sym is) (record {
      last = running_stays values others f.last c last same there.last;
      before = running_stays values others f.before c before same there.before;
      rising = column_stays values others f.rising c rising same there.rising;
    })
