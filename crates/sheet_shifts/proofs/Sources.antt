-- What each column has of its own.
use Rattle.std.specs.Prelude.{ℕ, suc, ◌≡◌, ◌+◌, ◌-◌, ◌≤◌, ◌<◌, nat_lt, get_or, length, set, List, [], ◌∷◌, ◌++◌, take}
use Rattle.std.specs.Prelude.{drop, replicate, refl}
use Rattle.std.proofs.Common.{sym, ◌∙◌, ap, arith, inl, inr, append_assoc, drop-cons, length-take}
use Rattle.std.proofs.Math.Seq.{set-append_seam}
use Rattle.std.proofs.lemmas.Bool.{cases_Bool}
use Rattle.std.proofs.lemmas.Bool.Decides.{nat_tests}
use Rattle.std.proofs.lemmas.List.{append-nil, drop_all, get_or-append_right, get_or-drop, get_or-replicate}
use Rattle.std.proofs.lemmas.List.{get_or-take, get_or_append_left, length-append, length-drop, length-replicate}
use Rattle.std.proofs.lemmas.List.{length-take-le, take_all, take_more}
use Rattle.ref_adjust.specs.declared.change.Change.{Change}
use Rattle.ref_adjust.specs.declared.change.Change.TheVariants.{InsertRows, InsertColumns, DeleteRows, DeleteColumns}
use Rattle.ref_adjust.specs.Lines.{IsChange}
use Rattle.sheet_shifts.specs.Columns.{columns_after, columns_changed, columns_deleted, columns_inserted}
use Rattle.sheet_shifts.specs.inner.Puts.{own_of, source_changed, source_deleted, source_inserted, source_of}
use Rattle.sheet_shifts.specs.Shifts.{IsShift}
use Rattle.sheet_shifts.specs.declared.shift.Shift.{Shift}
use Rattle.sheet_shifts.specs.declared.shift.Shift.TheVariants.{Lines, Block}

-- one column more
pub one_column : {X : Type 0} (none : X) (new old : List X) (at : ℕ) → at < length new → at < length old
    → set (take at new ++ drop at old) at (get_or new at none) ≡ take (at + 1) new ++ drop (at + 1) old
one_column none new old at inside there =
    let len : length (take at new) ≡ at = omega (arith, inside, length-take at new) in
    let next : drop at old ≡ get_or old at none ∷ drop (at + 1) old =
    drop-cons old at none there
    ∙ ap (λ k. get_or old at none ∷ drop k old) (let e : suc at ≡ at + 1 = omega arith in e) in
    ap (λ l. set (take at new ++ l) at (get_or new at none)) next
    ∙ ap (λ k. set (take at new ++ get_or old at none ∷ drop (at + 1) old) k (get_or new at none)) (sym len)
    ∙ set-append_seam (take at new) (get_or old at none) (drop (at + 1) old) (get_or new at none)
    ∙ sym (ap (λ l. l ++ drop (at + 1) old) (take_more new at none inside)
    ∙ append_assoc (take at new) (get_or new at none ∷ []) (drop (at + 1) old))

-- all columns
pub all_columns : {X : Type 0} (new old : List X) (at : ℕ) → length new ≤ at → length old ≤ at
    → take at new ++ drop at old ≡ new
all_columns new old at past there =
    ap (λ l. l ++ drop at old) (take_all at new past) ∙ ap (λ l. new ++ l) (drop_all at old there) ∙ append-nil new

module _ {X : Type 0} (none : X) (xs : List X) (whole : length xs ≡ 256) where
  module _ (first count : ℕ) (some : 1 ≤ count) (within : first + count ≤ 256) where
    front : length (take first xs) ≡ first
    front = length-take-le first xs (omega (arith, whole, within))

    new : length (replicate count none) ≡ count
    new = length-replicate count none

    behind : length (drop first xs) ≡ 256 - first
    behind = length-drop first xs ∙ ap (λ n. n - first) whole

    rest : length (drop (first + count) xs) ≡ 256 - (first + count)
    rest = length-drop (first + count) xs ∙ ap (λ n. n - (first + count)) whole

    inserted_long : 256 ≤ length (take first xs ++ (replicate count none ++ drop first xs))
    inserted_long =
        let a = length-append (take first xs) (replicate count none ++ drop first xs) in
        let b = length-append (replicate count none) (drop first xs) in
        omega (arith, a, b, front, new, behind, within)

    inserted_len : length (columns_inserted none first count xs) ≡ 256
    inserted_len = length-take-le 256 (take first xs ++ (replicate count none ++ drop first xs)) inserted_long

    deleted_len : length (columns_deleted none first count xs) ≡ 256
    deleted_len =
        let a = length-append (take first xs) (drop (first + count) xs ++ replicate count none) in
        let b = length-append (drop (first + count) xs) (replicate count none) in
        omega (arith, a, b, front, new, rest, within)

    inserted_at : (col : ℕ) → col < 256
        → get_or (columns_inserted none first count xs) col none ≡ own_of none xs (source_inserted first count col)
    inserted_at col inside =
        get_or-take 256 (take first xs ++ (replicate count none ++ drop first xs)) col none inside
        ∙ elim (cases_Bool (nat_lt col first)) [
          | inl before ↦ (
              let less : col < first = grind (arith, nat_tests, before) in
              get_or_append_left (take first xs) (replicate count none ++ drop first xs) none col
              (omega (arith, less, front))
              ∙ get_or-take first xs col none less ∙ sym (rw before refl))
          | inr after ↦ (
              let more : first ≤ col = grind (arith, nat_tests, after) in
              get_or-append_right (take first xs) (replicate count none ++ drop first xs) first col none front more
              ∙ elim (cases_Bool (nat_lt col (first + count))) [
                | inl fresh ↦ (
                    let less : col - first < count =
                    (let l : col < first + count = grind (arith, nat_tests, fresh) in omega (arith, l, more)) in
                    get_or_append_left (replicate count none) (drop first xs) none (col - first)
                    (omega (arith, less, new))
                    ∙ get_or-replicate count (col - first) none none less ∙ sym (rw (after, fresh) refl))
                | inr later ↦ (
                    let beyond : count ≤ col - first =
                    (let l : first + count ≤ col = grind (arith, nat_tests, later) in omega (arith, l)) in
                    get_or-append_right (replicate count none) (drop first xs) count (col - first) none new beyond
                    ∙ get_or-drop first xs (col - first - count) none
                    ∙ ap (λ k. get_or xs k none)
                    (let e : first + (col - first - count) ≡ col - count = omega (arith, beyond, more) in e)
                    ∙ sym (rw (after, later) refl))
              ])
        ]

    deleted_at : (col : ℕ) → col < 256
        → get_or (columns_deleted none first count xs) col none ≡ own_of none xs (source_deleted first count col)
    deleted_at col inside = elim (cases_Bool (nat_lt col first)) [
      | inl before ↦ (
          let less : col < first = grind (arith, nat_tests, before) in
          get_or_append_left (take first xs) (drop (first + count) xs ++ replicate count none) none col
          (omega (arith, less, front))
          ∙ get_or-take first xs col none less ∙ sym (rw before refl))
      | inr after ↦ (
          let more : first ≤ col = grind (arith, nat_tests, after) in
          get_or-append_right (take first xs) (drop (first + count) xs ++ replicate count none) first col none front
          more
          ∙ elim (cases_Bool (nat_lt (col + count) 256)) [
            | inl there ↦ (
                let less : col - first < 256 - (first + count) =
                (let l : col + count < 256 = grind (arith, nat_tests, there) in omega (arith, l, more)) in
                get_or_append_left (drop (first + count) xs) (replicate count none) none (col - first)
                (omega (arith, less, rest))
                ∙ get_or-drop (first + count) xs (col - first) none
                ∙ ap (λ k. get_or xs k none)
                (let e : first + count + (col - first) ≡ col + count = omega (arith, more) in e)
                ∙ sym (rw (after, there) refl))
            | inr past ↦ (
                let most : 256 ≤ col + count = grind (arith, nat_tests, past) in
                let beyond : 256 - (first + count) ≤ col - first = omega (arith, most, more, within) in
                get_or-append_right (drop (first + count) xs) (replicate count none) (256 - (first + count))
                (col - first) none rest beyond
                ∙ get_or-replicate count (col - first - (256 - (first + count))) none none
                (omega (arith, most, more, within, inside)) ∙ sym (rw (after, past) refl))
          ])
    ]

  changed_len : (change : Change) → IsChange change → length (columns_changed change none xs) ≡ 256
  changed_len (InsertRows first count) h = whole
  changed_len (InsertColumns first count) h = inserted_len first count h.0 h.1
  changed_len (DeleteRows first count) h = whole
  changed_len (DeleteColumns first count) h = deleted_len first count h.0 h.1

  changed_at : (change : Change) → IsChange change → (col : ℕ) → col < 256
      → get_or (columns_changed change none xs) col none ≡ own_of none xs (source_changed change col)
  changed_at (InsertRows first count) h col inside = refl
  changed_at (InsertColumns first count) h col inside = inserted_at first count h.0 h.1 col inside
  changed_at (DeleteRows first count) h col inside = refl
  changed_at (DeleteColumns first count) h col inside = deleted_at first count h.0 h.1 col inside

  -- there are as many afterwards
  pub after_len : (shift : Shift) → IsShift shift → length (columns_after shift none xs) ≡ 256
  after_len (Lines change) h = changed_len change h
  after_len (Block from to) h = whole

  -- a column has what its source had
  pub after_at : (shift : Shift) → IsShift shift → (col : ℕ) → col < 256
      → get_or (columns_after shift none xs) col none ≡ own_of none xs (source_of shift col)
  after_at (Lines change) h col inside = changed_at change h col inside
  after_at (Block from to) h col inside = refl
