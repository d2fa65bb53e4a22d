use Rattle.std.proofs.Common.{ap, sym, ◌∙◌, subst, ◌<◌}
use Rattle.std.specs.FinMap.{get}
use Rattle.cell_maps.proofs.Filled.{got, got_none, within}
use Rattle.cell_maps.specs.Filled.{item_in}
use Rattle.cell_maps.proofs.map.CellMap.get.Goals as goal

pub index-requires : goal.index-requires
index-requires g c = subst (λ n. c.in-Some.at < n) (sym c.self.inside.held.ok.0) (within c.self.inside.table
    c.self.inside.held.items c.self.invariant c.args.cell c.is_on_sheet.ensures c.in-Some.at c.in-Some.ensures.some)

pub returns-in-Filled : goal.returns-in-Filled
returns-in-Filled g c =
    sym (ap item_in c.in-Filled.is) ∙ ap item_in c.index.ensures
    ∙ sym (got c.self.inside.table c.self.inside.held.items c.self.invariant c.args.cell c.is_on_sheet.ensures
    c.in-Some.at c.index.result.now c.in-Some.ensures.some)
    ∙ ap (λ m. get m c.args.cell) c.self.view_is

pub returns-in-Erased : goal.returns-in-Erased
returns-in-Erased g c =
    sym (ap item_in c.in-Erased.is) ∙ ap item_in c.index.ensures
    ∙ sym (got c.self.inside.table c.self.inside.held.items c.self.invariant c.args.cell c.is_on_sheet.ensures
    c.in-Some.at c.index.result.now c.in-Some.ensures.some)
    ∙ ap (λ m. get m c.args.cell) c.self.view_is

pub returns-in-None : goal.returns-in-None
returns-in-None g c = sym (got_none c.self.inside.table c.self.inside.held.items c.self.invariant c.args.cell
    c.is_on_sheet.ensures c.in-None.ensures.none) ∙ ap (λ m. get m c.args.cell) c.self.view_is
