-- References follow their places.
use Rattle.std.proofs.Common.{◌≡◌, ◌+◌, ◌-◌, ◌≤◌, ◌<◌, ◌%◌, ℕ, Bool, true, false, nat_le, nat_lt, Option, Some, None}
use Rattle.std.proofs.Common.{refl, sym, ap, ◌∙◌, subst, arith, inl, inr}
use Rattle.std.specs.Prelude.{◌⊎◌}
use Rattle.std.proofs.lemmas.Bool.{cases_Bool}
use Rattle.std.proofs.lemmas.Bool.Decides.{nat_tests}
use Rattle.grid_address.specs.Axes.{axis_to, is_fixed, resolved, Reference}
use Rattle.grid_address.specs.Leads.{reference_to, resolve}
use Rattle.grid_address.specs.Place.{is_within, Extent, InSheet, Place}
use Rattle.ref_adjust.specs.declared.change.Change.{Change}
use Rattle.ref_adjust.specs.declared.change.Change.TheVariants.{InsertRows, InsertColumns, DeleteRows, DeleteColumns}
use Rattle.ref_adjust.specs.Adjusted.{reference_like}
use Rattle.ref_adjust.specs.Laws.{Follows, IsOneToOne, ReferencesFollow, StaysInSheet}
use Rattle.ref_adjust.specs.Lines.{line_deleted, line_inserted, place_shifted, with_col, with_row}
use Rattle.ref_adjust.specs.Moves.{carried, place_moved, target, FitsAt}

row_back : (fixed : Bool) (row at : ℕ) → row < 8192 → at < 8192 → resolved (axis_to fixed row at 8192) at 8192 ≡ row
row_back true row at p q = refl
row_back false row at p q = elim (cases_Bool (nat_le at row)) [
  | inl above ↦ (let less : at ≤ row = grind (arith, nat_tests, above) in
      let e : (at + (row - at)) % 8192 ≡ row = omega (arith, less, p) in rw above e)
  | inr below ↦ (let more : row < at = grind (arith, nat_tests, below) in
      let e : (at + (row + 8192 - at)) % 8192 ≡ row = omega (arith, more, p, q) in rw below e)
]

col_back : (fixed : Bool) (col at : ℕ) → col < 256 → at < 256 → resolved (axis_to fixed col at 256) at 256 ≡ col
col_back true col at p q = refl
col_back false col at p q = elim (cases_Bool (nat_le at col)) [
  | inl above ↦ (let less : at ≤ col = grind (arith, nat_tests, above) in
      let e : (at + (col - at)) % 256 ≡ col = omega (arith, less, p) in rw above e)
  | inr below ↦ (let more : col < at = grind (arith, nat_tests, below) in
      let e : (at + (col + 256 - at)) % 256 ≡ col = omega (arith, more, p, q) in rw below e)
]

kind_kept : (fixed : Bool) (to at count : ℕ) → is_fixed (axis_to fixed to at count) ≡ fixed
kind_kept true to at count = refl
kind_kept false to at count = elim (cases_Bool (nat_le at to)) [
  | inl above ↦ rw above refl
  | inr below ↦ rw below refl
]

one_of : (goes : Place → Option Place) (old_at new_at : Place) (old new : Reference) → StaysInSheet goes
    → InSheet new_at → InSheet (resolve old old_at) → (o : Option Place) → goes (resolve old old_at) ≡ o
    → reference_like old new_at o ≡ Some new → Follows goes old_at new_at old new
one_of goes old_at new_at old new stays at within None e is = absurd cc
one_of goes old_at new_at old new stays at within (Some p) e is =
    let inside : InSheet p = stays (resolve old old_at) p within e in
    let back : resolve (reference_to p new_at (is_fixed old.col) (is_fixed old.row)) new_at ≡ p =
    λ i. record {
      row = row_back (is_fixed old.row) p.row new_at.row inside.0 at.0 i;
      col = col_back (is_fixed old.col) p.col new_at.col inside.1 at.1 i;
    } in
    let same : reference_to p new_at (is_fixed old.col) (is_fixed old.row) ≡ new = cc in
    subst (Follows goes old_at new_at old) same (record {
      place = e ∙ ap Some (sym back);
      col = kind_kept (is_fixed old.col) p.col new_at.col 256;
      row = kind_kept (is_fixed old.row) p.row new_at.row 8192;
    })

-- references follow where their cells go
pub all_follow : (goes : Place → Option Place) → StaysInSheet goes → ReferencesFollow goes
all_follow goes stays old_at new_at old new at within is =
    one_of goes old_at new_at old new stays at within (goes (resolve old old_at)) refl is

same_places : (p q : Place) → p.row ≡ q.row → p.col ≡ q.col → p ≡ q
same_places p q r c = λ i. record { row = r i; col = c i }

-- a place that isn't lost was moved, or it isn't in the target and stays
after_move : (from : Extent) (to p here : Place) → place_moved from to p ≡ Some here
    → ((is_within from p ≡ true) × (carried from to p ≡ here)) ⊎ ((is_within (target from to) p ≡ false) × (p ≡ here))
after_move from to p here e = elim (cases_Bool (is_within from p)) [
  | inl within ↦ (let is : Some (carried from to p) ≡ Some here = rw within at e in
      let same : carried from to p ≡ here = cc in inl (within, same))
  | inr out ↦ (elim (cases_Bool (is_within (target from to) p)) [
    | inl lost ↦ (let none : None ≡ Some here = rw (out, lost) at e in absurd cc)
    | inr free ↦ (let is : Some p ≡ Some here = rw (out, free) at e in
        let same : p ≡ here = cc in inr (free, same))
  ])
]

-- a move keeps cells in the sheet
pub moves_stay : (from : Extent) (to : Place) → FitsAt from to → StaysInSheet (place_moved from to)
moves_stay from to fits p q inside e = elim (after_move from to p q e) [
  | inl moved ↦ (let row : p.row ≤ from.last.row = grind (arith, nat_tests, moved.0) in
      let col : p.col ≤ from.last.col = grind (arith, nat_tests, moved.0) in
      subst InSheet moved.1 (omega (arith, row, fits.0), omega (arith, col, fits.1)))
  | inr stayed ↦ subst InSheet stayed.1 inside
]

-- a moved place stands in the target
in_target : (from : Extent) (to p : Place) → is_within from p ≡ true
    → is_within (target from to) (carried from to p) ≡ true
in_target from to p within =
    let a : to.row ≤ p.row - from.first.row + to.row = omega arith in
    let b : p.row ≤ from.last.row = grind (arith, nat_tests, within) in
    let c : p.row - from.first.row + to.row ≤ from.last.row - from.first.row + to.row = omega (arith, b) in
    let d : to.col ≤ p.col - from.first.col + to.col = omega arith in
    let e : p.col ≤ from.last.col = grind (arith, nat_tests, within) in
    let f : p.col - from.first.col + to.col ≤ from.last.col - from.first.col + to.col = omega (arith, e) in
    grind (arith, nat_tests, a, c, d, f)

carried_apart : (from : Extent) (to p q : Place) → is_within from p ≡ true → is_within from q ≡ true
    → carried from to p ≡ carried from to q → p ≡ q
carried_apart from to p q a b same =
    let pr : from.first.row ≤ p.row = grind (arith, nat_tests, a) in
    let pc : from.first.col ≤ p.col = grind (arith, nat_tests, a) in
    let qr : from.first.row ≤ q.row = grind (arith, nat_tests, b) in
    let qc : from.first.col ≤ q.col = grind (arith, nat_tests, b) in
    let rows : p.row - from.first.row + to.row ≡ q.row - from.first.row + to.row = ap (λ (x : Place). x.row) same in
    let cols : p.col - from.first.col + to.col ≡ q.col - from.first.col + to.col = ap (λ (x : Place). x.col) same in
    same_places p q (omega (arith, pr, qr, rows)) (omega (arith, pc, qc, cols))

-- no other place stands where a moved one comes
apart_from : (from : Extent) (to p q here : Place) → is_within from p ≡ true → carried from to p ≡ here
    → is_within (target from to) q ≡ false → q ≡ here → p ≡ q
apart_from from to p q here within came free is =
    let lost : is_within (target from to) q ≡ true =
    ap (is_within (target from to)) (is ∙ sym came) ∙ in_target from to p within in
    absurd cc

-- it keeps them apart
pub moves_apart : (from : Extent) (to : Place) → FitsAt from to → IsOneToOne (place_moved from to)
moves_apart from to fits p q here a b e f = elim (after_move from to p here e) [
  | inl moved ↦ (elim (after_move from to q here f) [
    | inl other ↦ carried_apart from to p q moved.0 other.0 (moved.1 ∙ sym other.1)
    | inr other ↦ apart_from from to p q here moved.0 moved.1 other.0 other.1
  ])
  | inr stayed ↦ (elim (after_move from to q here f) [
    | inl other ↦ sym (apart_from from to q p here other.0 other.1 stayed.0 stayed.1)
    | inr other ↦ stayed.1 ∙ sym other.1
  ])
]

after_insert : (lines first count line here : ℕ) → line_inserted lines first count line ≡ Some here
    → ((line < first) × (line ≡ here)) ⊎ ((first ≤ line) × (line + count ≡ here) × (here < lines))
after_insert lines first count line here e = elim (cases_Bool (nat_lt line first)) [
  | inl before ↦ (let is : Some line ≡ Some here = rw before at e in
      let same : line ≡ here = cc in
      let less : line < first = grind (arith, nat_tests, before) in inl (less, same))
  | inr later ↦ (let more : first ≤ line = grind (arith, nat_tests, later) in
      elim (cases_Bool (nat_lt (line + count) lines)) [
        | inl fits ↦ (let is : Some (line + count) ≡ Some here = rw (later, fits) at e in
            let same : line + count ≡ here = cc in
            let less : line + count < lines = grind (arith, nat_tests, fits) in
            inr (more, same, omega (arith, same, less)))
        | inr past ↦ (let none : None ≡ Some here = rw (later, past) at e in absurd cc)
      ])
]

after_delete : (first count line here : ℕ) → line_deleted first count line ≡ Some here
    → ((line < first) × (line ≡ here)) ⊎ ((first + count ≤ line) × (line - count ≡ here))
after_delete first count line here e = elim (cases_Bool (nat_lt line first)) [
  | inl before ↦ (let is : Some line ≡ Some here = rw before at e in
      let same : line ≡ here = cc in
      let less : line < first = grind (arith, nat_tests, before) in inl (less, same))
  | inr later ↦ (elim (cases_Bool (nat_lt line (first + count))) [
    | inl lost ↦ (let none : None ≡ Some here = rw (later, lost) at e in absurd cc)
    | inr back ↦ (let is : Some (line - count) ≡ Some here = rw (later, back) at e in
        let same : line - count ≡ here = cc in
        let more : first + count ≤ line = grind (arith, nat_tests, back) in inr (more, same))
  ])
]

insert_stays : (lines first count line here : ℕ) → line < lines → line_inserted lines first count line ≡ Some here
    → here < lines
insert_stays lines first count line here less e = elim (after_insert lines first count line here e) [
  | inl before ↦ omega (arith, less, before.1)
  | inr later ↦ later.2
]

delete_stays : (lines first count line here : ℕ) → line < lines → line_deleted first count line ≡ Some here
    → here < lines
delete_stays lines first count line here less e = elim (after_delete first count line here e) [
  | inl before ↦ omega (arith, less, before.1)
  | inr later ↦ omega (arith, less, later.1)
]

insert_apart : (lines first count a b here : ℕ) → line_inserted lines first count a ≡ Some here
    → line_inserted lines first count b ≡ Some here → a ≡ b
insert_apart lines first count a b here e f = elim (after_insert lines first count a here e) [
  | inl p ↦
      (elim (after_insert lines first count b here f)
      [ inl q ↦ omega (arith, p.1, q.1) | inr q ↦ absurd (omega (arith, p.0, p.1, q.0, q.1)) ])
  | inr p ↦
      (elim (after_insert lines first count b here f)
      [ inl q ↦ absurd (omega (arith, p.0, p.1, q.0, q.1)) | inr q ↦ omega (arith, p.1, q.1) ])
]

delete_apart : (first count a b here : ℕ) → line_deleted first count a ≡ Some here
    → line_deleted first count b ≡ Some here → a ≡ b
delete_apart first count a b here e f = elim (after_delete first count a here e) [
  | inl p ↦
      (elim (after_delete first count b here f)
      [ inl q ↦ omega (arith, p.1, q.1) | inr q ↦ absurd (omega (arith, p.0, p.1, q.0, q.1)) ])
  | inr p ↦
      (elim (after_delete first count b here f)
      [ inl q ↦ absurd (omega (arith, p.0, p.1, q.0, q.1)) | inr q ↦ omega (arith, p.0, p.1, q.0, q.1) ])
]

by_row : (p q : Place) (o : Option ℕ) → with_row p o ≡ Some q → (o ≡ Some q.row) × (p.col ≡ q.col)
by_row p q None e = absurd cc
by_row p q (Some row) e =
    (let same : record { row = row; col = p.col } ≡ q = cc in
    (ap (λ (x : Place). Some x.row) same, ap (λ (x : Place). x.col) same))

by_col : (p q : Place) (o : Option ℕ) → with_col p o ≡ Some q → (o ≡ Some q.col) × (p.row ≡ q.row)
by_col p q None e = absurd cc
by_col p q (Some col) e =
    (let same : record { row = p.row; col = col } ≡ q = cc in
    (ap (λ (x : Place). Some x.col) same, ap (λ (x : Place). x.row) same))

-- inserts and deletes keep cells in the sheet
pub changes_stay : (change : Change) → StaysInSheet (place_shifted change)
changes_stay (InsertRows first count) p q inside e =
    let is = by_row p q (line_inserted 8192 first count p.row) e in
    (insert_stays 8192 first count p.row q.row inside.0 is.0, omega (arith, inside.1, is.1))
changes_stay (InsertColumns first count) p q inside e =
    let is = by_col p q (line_inserted 256 first count p.col) e in
    (omega (arith, inside.0, is.1), insert_stays 256 first count p.col q.col inside.1 is.0)
changes_stay (DeleteRows first count) p q inside e =
    let is = by_row p q (line_deleted first count p.row) e in
    (delete_stays 8192 first count p.row q.row inside.0 is.0, omega (arith, inside.1, is.1))
changes_stay (DeleteColumns first count) p q inside e =
    let is = by_col p q (line_deleted first count p.col) e in
    (omega (arith, inside.0, is.1), delete_stays 256 first count p.col q.col inside.1 is.0)

-- they keep them apart
pub changes_apart : (change : Change) → IsOneToOne (place_shifted change)
changes_apart (InsertRows first count) p q here a b e f =
    let x = by_row p here (line_inserted 8192 first count p.row) e in
    let y = by_row q here (line_inserted 8192 first count q.row) f in
    same_places p q (insert_apart 8192 first count p.row q.row here.row x.0 y.0) (x.1 ∙ sym y.1)
changes_apart (InsertColumns first count) p q here a b e f =
    let x = by_col p here (line_inserted 256 first count p.col) e in
    let y = by_col q here (line_inserted 256 first count q.col) f in
    same_places p q (x.1 ∙ sym y.1) (insert_apart 256 first count p.col q.col here.col x.0 y.0)
changes_apart (DeleteRows first count) p q here a b e f =
    let x = by_row p here (line_deleted first count p.row) e in
    let y = by_row q here (line_deleted first count q.row) f in
    same_places p q (delete_apart first count p.row q.row here.row x.0 y.0) (x.1 ∙ sym y.1)
changes_apart (DeleteColumns first count) p q here a b e f =
    let x = by_col p here (line_deleted first count p.col) e in
    let y = by_col q here (line_deleted first count q.col) f in
    same_places p q (x.1 ∙ sym y.1) (delete_apart first count p.col q.col here.col x.0 y.0)
