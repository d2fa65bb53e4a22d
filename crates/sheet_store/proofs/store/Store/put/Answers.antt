use Rattle.std.specs.Prelude.{◌≡◌, true, false, cond}
use Rattle.std.proofs.Common.{ap, sym, ◌∙◌, subst}
use Rattle.std.specs.FinMap.{get, insert, remove}
use Rattle.sheet_store.specs.Grid.{clear_cell, is_kept, value_in, AreHeld, Cells, Grid, IsHeld}
use Rattle.sheet_store.specs.inner.Keeping.{Keeps}
use Rattle.sheet_store.proofs.Found.{cleared, put_in}
use Rattle.sheet_store.proofs.store.Store.put.Goals as goal

pub returns-then-not-is_kept-clause-ok : goal.returns-then-not-is_kept-clause-ok
returns-then-not-is_kept-clause-ok c =
    let g : Grid = c.args.self.now in
    let k : is_kept c.args.state ≡ false = sym c.if-not-is_kept.ensures in
    ap (λ m. record { cells = m; widths = c.self.inside.widths; hidden = c.self.inside.hidden }) c.remove.ensures
    ∙ ap (λ g. clear_cell g c.args.cell) c.self.view_is
    ∙ ap {B = Grid}
    (λ b. record g { cells = cond b (insert g.cells c.args.cell c.args.state) (remove g.cells c.args.cell) }) (sym k)

pub returns-clause-ok : goal.returns-clause-ok
returns-clause-ok c =
    let g : Grid = c.args.self.now in
    let k : is_kept c.args.state ≡ true = sym c.if-not-is_kept.ensures in
    ap (λ m. record { cells = m; widths = c.self.inside.widths; hidden = c.self.inside.hidden })
    c.in-Ok.ensures.ok
    ∙ ap {B = Grid} (λ (g : Grid). record g { cells = insert g.cells c.args.cell c.args.state }) c.self.view_is
    ∙ ap {B = Grid}
    (λ b. record g { cells = cond b (insert g.cells c.args.cell c.args.state) (remove g.cells c.args.cell) }) (sym k)

pub invariant_of-self : goal.invariant_of-self
invariant_of-self c =
    subst (λ (m : Cells). Keeps m c.forget.new.self) (sym c.remove.ensures)
    (cleared c.self.inside.cells c.args.cell c.self.inside.kept c.forget.new.self c.self.invariant c.forget.ensures)

pub invariant_of-self-in-Ok : goal.invariant_of-self-in-Ok
invariant_of-self-in-Ok c =
    let here : IsHeld c.args.cell c.args.state =
    record { inside = c.is_on_sheet.ensures; sound = c.requires; kept = sym c.if-not-is_kept.ensures } in
    subst (λ (m : Cells). Keeps m c.tell.new.kept) (sym c.in-Ok.ensures.ok)
    (put_in c.self.inside.cells c.args.cell c.self.inside.kept c.tell.new.kept c.self.invariant c.args.state here
    c.tell.ensures)

pub invariant_of-self-in_default : goal.invariant_of-self-in_default
invariant_of-self-in_default c = record {
  held = subst AreHeld (sym c.in_default.ensures.err) c.self.invariant.held;
  found = c.let_all_go.ensures (value_in c.insert.new.self);
}

pub returns-in_default-clause-absent : goal.returns-in_default-clause-absent
returns-in_default-clause-absent c =
    ap (λ (g : Grid). get g.cells c.args.cell) (sym c.self.view_is) ∙ c.in_default.ensures.absent
