-- What reaches a cell that is written: the graph tells it before and after.
use Rattle.std.specs.Prelude.{◌≡◌, Bool, true, false, cond, is_some, refl, Option, None, Some}
use Rattle.std.specs.FinMap.{get, insert, remove}
use Rattle.std.proofs.Common.{sym, ◌∙◌, ap, inl, inr}
use Rattle.std.proofs.lemmas.Bool.{cases_Bool, false≢true, true≢false}
use Rattle.grid_address.proofs.Places.{get_inserted, get_removed, same_place_is, same_place_itself}
use Rattle.grid_address.specs.Place.{same_place, Place}
use Rattle.formula_tree.specs.Tree.{Tree}
use Rattle.formula_tree.specs.declared.value.Content.{Content}
use Rattle.formula_tree.specs.declared.value.Content.TheVariants as content
use Rattle.depend_graph.specs.Network.{accepted, dropped, holds, offered, reads, withdrawn, Network, ReachesCell}
use Rattle.depend_graph.specs.declared.node.Node.{Node}
use Rattle.depend_graph.specs.Network.ReachesCell.{direct, through}
use Rattle.range_index.specs.Owners.{hold}
use Rattle.sheet_store.specs.Grid.{is_formula, is_kept, put_state, Grid}
use Rattle.sheet_store.specs.State.{CellState}
use Rattle.recalculation.specs.Context.{formula_at, formula_in, formula_of}
use Rattle.recalculation.specs.Reading.{is_formula_at, node_of, reads_at, spans_at, spans_in, Matches}
use Rattle.recalculation.proofs.Ordered.{held_told}
use Rattle.sheet_edits.specs.Edits.{ReachesWritten}

-- a content is a formula where there is a tree in it
pub formula_in_is : (c : Content) → is_formula c ≡ is_some (formula_in c)
formula_in_is content.Blank = refl
formula_in_is (content.Number n) = refl
formula_in_is (content.Label p t) = refl
formula_in_is (content.Formula f) = refl

none_of : (o : Option Tree) → is_some o ≡ false → o ≡ None
none_of None h = refl
none_of (Some t) h = absurd (true≢false h)

module _ (g : Grid) (cell : Place) (s : CellState) (keeps : is_formula s.content ≡ true → is_kept s ≡ true) where
  not_kept : is_kept s ≡ false → formula_in s.content ≡ None
  not_kept k = elim (cases_Bool (is_formula s.content)) [
    | inl t ↦ absurd (true≢false (sym (keeps t) ∙ k))
    | inr f ↦ none_of (formula_in s.content) (sym (formula_in_is s.content) ∙ f)
  ]

  -- the formulas after the cell is written
  pub formula_put : (d : Place)
      → formula_at (put_state g cell s) d ≡ cond (same_place d cell) (formula_in s.content) (formula_at g d)
  formula_put d = elim (cases_Bool (is_kept s)) [
    | inl k ↦ ap (λ b. formula_of (get (cond b (insert g.cells cell s) (remove g.cells cell)) d)) k
        ∙ ap formula_of (get_inserted g.cells cell s d) ∙ with_some (same_place d cell)
    | inr k ↦ ap (λ b. formula_of (get (cond b (insert g.cells cell s) (remove g.cells cell)) d)) k
        ∙ ap formula_of (get_removed g.cells cell d) ∙ with_none (same_place d cell) (not_kept k)
  ]
    where
      with_some : (b : Bool)
          → formula_of (cond b (Some s) (get g.cells d)) ≡ cond b (formula_in s.content) (formula_at g d)
      with_some true = refl
      with_some false = refl

      with_none : (b : Bool) → formula_in s.content ≡ None
          → formula_of (cond b None (get g.cells d)) ≡ cond b (formula_in s.content) (formula_at g d)
      with_none true e = sym e
      with_none false e = refl

  -- the other cells keep their formulas where a cell's state is put
  pub formula_beside : (d : Place) → same_place d cell ≡ false → formula_at (put_state g cell s) d ≡ formula_at g d
  formula_beside d h = formula_put d ∙ ap (λ b. cond b (formula_in s.content) (formula_at g d)) h

  -- the cell whose state is put has the formula of that state
  pub formula_here : formula_at (put_state g cell s) cell ≡ formula_in s.content
  formula_here = formula_put cell ∙ ap (λ b. cond b (formula_in s.content) (formula_at g cell)) (same_place_itself cell)

  module _ (n : Network) (m : Matches n g) where
    -- the graph after the edit holds the formulas
    pub matches_written : (o : Network) → ((d : Place) → get o.formulas d ≡ cond (same_place d cell)
        (node_of (formula_in s.content) cell) (get n.formulas d)) → Matches o (put_state g cell s)
    matches_written o h d = h d ∙ elim (same_place d cell) as (λ b. same_place d cell ≡ b → cond b (node_of (formula_in
        s.content) cell) (get n.formulas d) ≡ node_of (cond b (formula_in s.content) (formula_at g d)) d) [
          | true ↦ λ e. ap (node_of (formula_in s.content)) (sym (same_place_is d cell e))
          | false ↦ λ e. m d
        ] refl ∙ sym (ap (λ t. node_of t d) (formula_put d))

-- what reaches a cell starts at a formula
module _ (h : Grid) where
  holds_formula : (c : Place) (d : Place) → hold (spans_at h c) d ≡ true → is_formula_at h c ≡ true
  holds_formula c d t = with (formula_at h c) t
    where
      with : (o : Option Tree) → hold (spans_in o c) d ≡ true → is_some o ≡ true
      with None k = absurd (false≢true k)
      with (Some x) k = refl

  -- what reaches a cell is a formula
  pub reaching_formula : {c d : Place} → ReachesCell (reads_at h) c d → is_formula_at h c ≡ true
  reaching_formula {c} {d} (direct t) = holds_formula c d t
  reaching_formula {c} {d} (through {e = e} p r) = holds_formula c e p

-- a graph of the formulas before, of which those at some written cells are other ones after
module _ (g h : Grid) (written changed : Place → Bool) (sub : (c : Place) → changed c ≡ true → written c ≡ true)
    (beside : (c : Place) → changed c ≡ false → formula_at h c ≡ formula_at g c) (n : Network) (m : Matches n g) where
  reads_are : (c d : Place) → changed c ≡ false → reads n c d ≡ hold (spans_at h c) d
  reads_are c d k =
      ap (λ o. holds o d) (m c) ∙ held_told (formula_at g c) c d ∙ sym (ap (λ o. hold (spans_in o c) d) (beside c k))

  -- what reaches a written cell before reaches one after
  pub to_new : {c d : Place} → ReachesCell (reads n) c d → written d ≡ true → changed c ≡ false
      → ReachesWritten h written c
  to_new {c} {d} (direct r) w k = (d, w, direct (sym (reads_are c d k) ∙ r))
  to_new {c} {d} (through {e = e} r q) w k = elim (cases_Bool (changed e)) [
    | inl t ↦ (e, sub e t, direct (sym (reads_are c e k) ∙ r))
    | inr f ↦ let next = to_new q w f in (next.0, next.1, through (sym (reads_are c e k) ∙ r) next.2)
  ]

  -- and the other way round
  pub to_old : {c d : Place} → ReachesCell (reads_at h) c d → written d ≡ true → changed c ≡ false
      → (w : Place) × (written w ≡ true) × ReachesCell (reads n) c w
  to_old {c} {d} (direct r) w k = (d, w, direct (reads_are c d k ∙ r))
  to_old {c} {d} (through {e = e} p q) w k =
      let read : reads n c e ≡ true = reads_are c e k ∙ p in
      elim (cases_Bool (changed e)) [
        | inl t ↦ (e, sub e t, direct read)
        | inr f ↦ let next = to_old q w f in (next.0, next.1, through read next.2)
      ]

module _ (n : Network) (cell : Place) where
  -- where a cell's offered formula was accepted, the graph has it, and the others as before
  pub accepted_told : (o : Option Tree) → is_some o ≡ true → get n.offers cell ≡ node_of o cell → (d : Place)
      → get (accepted n cell).formulas d ≡ cond (same_place d cell) (node_of o cell) (get n.formulas d)
  accepted_told None h e d = absurd (false≢true h)
  accepted_told (Some t) h e d = ap (λ x. get (Rattle.depend_graph.specs.Network.promoted x n cell).formulas d) e
      ∙ get_inserted n.formulas cell _ d

  -- where the cell's formula was dropped, the graph has none there, and the others as before
  pub dropped_told : (o : Option Tree) → is_some o ≡ false → (d : Place)
      → get (dropped n cell).formulas d ≡ cond (same_place d cell) (node_of o cell) (get n.formulas d)
  dropped_told None h d = get_removed n.formulas cell d
  dropped_told (Some t) h d = absurd (true≢false h)

-- an offer is there, and one that is taken back is not
pub offer_there : (n : Network) (cell : Place) (x : Node) → get (offered n cell x).offers cell ≡ Some x
offer_there n cell x =
    get_inserted n.offers cell x cell ∙ ap (λ b. cond b (Some x) (get n.offers cell)) (same_place_itself cell)

-- where an offer was taken back, none waits
pub offer_gone : (n : Network) (cell : Place) → get (withdrawn n cell).offers cell ≡ None
offer_gone n cell = get_removed n.offers cell cell ∙ ap (λ b. cond b None (get n.offers cell)) (same_place_itself cell)

-- an offer for a cell leaves those of other cells
pub offer_beside : (n : Network) (cell : Place) (x : Node) (c : Place) → same_place c cell ≡ false
    → get (offered n cell x).offers c ≡ get n.offers c
offer_beside n cell x c h = get_inserted n.offers cell x c ∙ ap (λ b. cond b (Some x) (get n.offers c)) h

-- where an offer was taken back, those of other cells wait as before
pub withdrawal_beside : (n : Network) (cell c : Place) → same_place c cell ≡ false
    → get (withdrawn n cell).offers c ≡ get n.offers c
withdrawal_beside n cell c h = get_removed n.offers cell c ∙ ap (λ b. cond b None (get n.offers c)) h
