use Rattle.std.proofs.Common.{ap, ◌∙◌, sym, subst}
use Rattle.sheet_store.specs.Grid.{clear_cell, Cells}
use Rattle.sheet_store.specs.inner.Keeping.{Keeps}
use Rattle.sheet_store.proofs.Found.{cleared}
use Rattle.sheet_store.proofs.store.Store.clear.Goals as goal

pub returns : goal.returns
returns c =
    ap (λ m. record { cells = m; widths = c.self.inside.widths; hidden = c.self.inside.hidden }) c.remove.ensures
    ∙ ap (λ g. clear_cell g c.args.cell) c.self.view_is

pub invariant_of-self : goal.invariant_of-self
invariant_of-self c =
    subst (λ (m : Cells). Keeps m c.forget.new.self) (sym c.remove.ensures)
    (cleared c.self.inside.cells c.args.cell c.self.inside.kept c.forget.new.self c.self.invariant c.forget.ensures)
