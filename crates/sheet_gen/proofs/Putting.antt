-- What a store has after a row was put in.
use Rattle.std.proofs.Common.{◌≡◌, ℕ, ◌+◌, true, false, Bool, Some, None, Option, refl, sym, ap, subst, ◌∙◌, inl, inr}
use Rattle.std.proofs.Common.{arith}
use Rattle.std.specs.Prelude.{◌&&◌, cond, nat_eq, nat_lt}
use Rattle.std.specs.FinMap as map
use Rattle.std.specs.FinMap.{get-empty}
use Rattle.std.proofs.lemmas.Bool.{cases_Bool, eqb-true}
use Rattle.std.proofs.lemmas.Bool.Decides.{nat_tests}
use Rattle.formula_tree.specs.Tree.{Tree}
use Rattle.grid_address.specs.Place.{place_cmp, same_place, Place}
use Rattle.grid_address.proofs.Places.{get_inserted}
use Rattle.sheet_store.specs.Grid.{put_state, Cells, Grid, IsSound}
use Rattle.sheet_store.specs.State.{CellState}
use Rattle.sheet_gen.specs.Rows.{chain, formula_state, generated, in_row, number_state, seed, triple}
use Rattle.sheet_gen.specs.inner.Putting.{with_row}

-- a generated number can be written
pub is_sound_number : (n : ℕ) (s : CellState) → s ≡ number_state n → IsSound s
is_sound_number n s is = subst IsSound (sym is) refl

-- a generated formula can be written
pub is_sound_formula : (t : Tree) (s : CellState) → s ≡ formula_state t → IsSound s
is_sound_formula t s is = subst IsSound (sym is) (λ e. absurd cc)

-- the last column first
by_columns : (col : ℕ) (x y z other : Option CellState)
    → cond (nat_eq col 2) z (cond (nat_eq col 1) y (cond (nat_eq col 0) x other))
    ≡ cond (nat_eq col 0) x (cond (nat_eq col 1) y (cond (nat_eq col 2) z other))
by_columns col x y z other = elim (cases_Bool (nat_eq col 0)) [
  | inl e ↦
      subst (λ (c : ℕ). cond (nat_eq c 2) z (cond (nat_eq c 1) y (cond (nat_eq c 0) x other))
      ≡ cond (nat_eq c 0) x (cond (nat_eq c 1) y (cond (nat_eq c 2) z other))) (sym (eqb-true col 0 e)) refl
  | inr e ↦ elim (cases_Bool (nat_eq col 1)) [
    | inl f ↦
        subst (λ (c : ℕ). cond (nat_eq c 2) z (cond (nat_eq c 1) y (cond (nat_eq c 0) x other))
        ≡ cond (nat_eq c 0) x (cond (nat_eq c 1) y (cond (nat_eq c 2) z other))) (sym (eqb-true col 1 f)) refl
    | inr f ↦ rw (e, f) refl
  ]
]

three_put : (here : Bool) (col : ℕ) (x y z was : Option CellState)
    → cond (here && nat_eq col 2) z (cond (here && nat_eq col 1) y (cond (here && nat_eq col 0) x was))
    ≡ cond here (cond (nat_eq col 0) x (cond (nat_eq col 1) y (cond (nat_eq col 2) z was))) was
three_put true col x y z was = by_columns col x y z was
three_put false col x y z was = refl

abbrev place : ℕ → ℕ → Place
place row col = record { row = row; col = col }

-- the cells of one more row
pub row_put : (g : Grid) (row : ℕ) (p : Place)
    → map.get (put_state (put_state (put_state g (place row 0) (number_state (seed row))) (place row 1)
    (formula_state triple)) (place row 2) (formula_state (chain row))).cells p ≡ with_row row p (map.get g.cells p)
row_put g row p =
    let number : CellState = number_state (seed row) in
    let one : Cells = map.insert g.cells (place row 0) number in
    get_inserted (map.insert one (place row 1) (formula_state triple)) (place row 2) (formula_state (chain row)) p
    ∙ ap (cond (same_place p (place row 2)) (Some (formula_state (chain row))))
    (get_inserted one (place row 1) (formula_state triple) p
    ∙ ap (cond (same_place p (place row 1)) (Some (formula_state triple)))
    (get_inserted g.cells (place row 0) number p))
    ∙ three_put (nat_eq p.row row) p.col (Some number) (Some (formula_state triple)) (Some (formula_state (chain row)))
    (map.get g.cells p)

-- the same from put to put
pub row_in : (g one two three : Grid) (row : ℕ) (p : Place) (s t u : CellState) → s ≡ number_state (seed row)
    → t ≡ formula_state triple → u ≡ formula_state (chain row)
    → one ≡ put_state g (place row 0) s → two ≡ put_state one (place row 1) t → three ≡ put_state two (place row 2) u
    → map.get three.cells p ≡ with_row row p (map.get g.cells p)
row_in g one two three row p s t u number tripled chained first second third =
    let put_one : one ≡ put_state g (place row 0) (number_state (seed row)) =
    first ∙ ap (put_state g (place row 0)) number in
    let put_two : two ≡ put_state (put_state g (place row 0) (number_state (seed row))) (place row 1)
    (formula_state triple) =
    second ∙ ap (put_state one (place row 1)) tripled
    ∙ ap (λ (x : Grid). put_state x (place row 1) (formula_state triple)) put_one in
    let put_three : three ≡ put_state
    (put_state (put_state g (place row 0) (number_state (seed row))) (place row 1) (formula_state triple))
    (place row 2) (formula_state (chain row)) =
    third ∙ ap (put_state two (place row 2)) chained
    ∙ ap (λ (x : Grid). put_state x (place row 2) (formula_state (chain row))) put_two in
    ap (λ (x : Grid). map.get x.cells p) put_three ∙ row_put g row p

-- before the first row nothing is there
pub none_yet : (m : Cells) (p : Place) → m ≡ map.empty → map.get m p ≡ generated 0 p
none_yet m p is =
    ap (λ (n : Cells). map.get n p) is ∙ get-empty place_cmp p
    ∙ sym (ap (λ b. cond b (in_row p.row p.col None) None)
    (let e : nat_lt p.row 0 ≡ false = grind (arith, nat_tests) in e))
