use Rattle.std.specs.Prelude.{◌≡◌, true, None, Some, is_some}
use Rattle.std.proofs.Common.{ap, sym, ◌∙◌, subst}
use Rattle.std.specs.FinMap.{get, insert}
use Rattle.std.proofs.lemmas.Bool.{false≢true}
use Rattle.std.proofs.lemmas.Option.{same_Some}
use Rattle.formula_parts.specs.inner.Kept.{IsKept}
use Rattle.sheet_store.specs.Grid.{is_formula, value_in, Grid, IsHeld}
use Rattle.sheet_store.specs.inner.Keeping.{Keeps}
use Rattle.sheet_store.specs.State.{CellState}
use Rattle.sheet_store.specs.declared.store.Store.TheInside.{Inside}
use Rattle.sheet_store.proofs.Found.{put_in}
use Rattle.sheet_store.proofs.Held.{valued_held}
use Rattle.sheet_store.proofs.store.Store.set_value.Goals as goal
use Rattle.sheet_store.proofs.store.Store.set_value.Goals.{in-Some, in-None}

pub invariant_of-self : goal.invariant_of-self
invariant_of-self c = elim c.match-get_mut.branch [
  | in-Some w ↦
      let s : CellState = w.in-Some.state.now in
      let written : CellState = record s { value = c.args.value } in
      let old = c.self.inside.cells in
      let found : get old c.args.cell ≡ Some s = sym w.in-Some.ensures.value in
      let known : c.requires.formula.0 ≡ s =
      same_Some c.requires.formula.0 s
      (sym c.requires.formula.1 ∙ ap (λ (g : Grid). get g.cells c.args.cell) (sym c.self.view_is) ∙ found) in
      let formula : is_formula s.content ≡ true =
      subst (λ (x : CellState). is_formula x.content ≡ true) known c.requires.formula.2 in
      let here : IsHeld c.args.cell written =
      valued_held c.args.cell s c.args.value (c.self.invariant.held c.args.cell s found) formula c.requires.some in
      subst (λ (i : Inside). Keeps i.cells c.forget.new.self) (sym w.self-inside-is)
      (subst (λ (x : CellState). Keeps (insert old c.args.cell x) c.forget.new.self) (sym w.set_value.ensures)
      (put_in old c.args.cell c.self.inside.kept c.forget.new.self c.self.invariant written here
      (λ others is takes same. c.forget.ensures (value_in old) others
      (subst (λ (i : Inside). IsKept i.kept (value_in old)) (sym w.self-inside-is) is) same)))
  | in-None w ↦
      let none : None ≡ get c.args.self.now.cells c.args.cell =
      w.in-None.ensures.value ∙ ap (λ (g : Grid). get g.cells c.args.cell) c.self.view_is in
      absurd (false≢true (ap is_some (none ∙ c.requires.formula.1)))
]
