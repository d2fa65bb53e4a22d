use Rattle.std.proofs.Common.{refl, ap, sym, ◌∙◌, subst, ◌<◌, set}
use Rattle.std.specs.FinMap.{from_entries, get, remove}
use Rattle.grid_address.specs.Place.{place_cmp}
use Rattle.cell_maps.specs.Filled.{cells_of, filled, item_in}
use Rattle.cell_maps.specs.inner.Numbering.{AreNumbered}
use Rattle.cell_maps.proofs.Filled.{got, got_none, same_numbered, taken_none, taken_out, within}
use Rattle.cell_maps.specs.declared.held.Held.{Held}
use Rattle.cell_maps.specs.declared.held.Held.TheVariants as held
use Rattle.cell_maps.proofs.map.CellMap.take.Goals as goal

pub index_mut-requires : goal.index_mut-requires
index_mut-requires g c = subst (λ n. c.in-Some.at < n) (sym c.self.inside.held.ok.0) (within c.self.inside.table
    c.self.inside.held.items c.self.invariant c.args.cell c.is_on_sheet.ensures c.in-Some.at c.in-Some.ensures.some)

pub invariant_of-self : goal.invariant_of-self
invariant_of-self g c =
    subst (λ (h : Held g.row.T.Denot). AreNumbered c.self.inside.table
    (cells_of (set c.self.inside.held.items c.in-Some.at h))) (sym c.replace.ensures.after)
    (same_numbered c.self.inside.table c.self.inside.held.items c.self.invariant c.args.cell c.is_on_sheet.ensures
    c.in-Some.at (held.Erased c.args.cell) c.in-Some.ensures.some refl)

pub returns-in-Some-clause-item : goal.returns-in-Some-clause-item
returns-in-Some-clause-item g c =
    c.into_item.ensures ∙ ap item_in (c.replace.ensures.value ∙ c.index_mut.ensures.value)
    ∙ sym (got c.self.inside.table c.self.inside.held.items c.self.invariant c.args.cell c.is_on_sheet.ensures
    c.in-Some.at c.index_mut.result.now c.in-Some.ensures.some)
    ∙ ap (λ m. get m c.args.cell) c.self.view_is

pub returns-in-Some-clause-rest : goal.returns-in-Some-clause-rest
returns-in-Some-clause-rest g c =
    ap (λ (h : Held g.row.T.Denot). from_entries {R = place_cmp} (filled (set c.self.inside.held.items c.in-Some.at h)))
    c.replace.ensures.after
    ∙ taken_out c.self.inside.table c.self.inside.held.items c.self.invariant c.args.cell c.is_on_sheet.ensures
    c.in-Some.at c.in-Some.ensures.some ∙ ap (λ m. remove m c.args.cell) c.self.view_is

pub returns-in-None-clause-item : goal.returns-in-None-clause-item
returns-in-None-clause-item g c = sym (got_none c.self.inside.table c.self.inside.held.items c.self.invariant
    c.args.cell c.is_on_sheet.ensures c.in-None.ensures.none) ∙ ap (λ m. get m c.args.cell) c.self.view_is

pub returns-in-None-clause-rest : goal.returns-in-None-clause-rest
returns-in-None-clause-rest g c = sym c.self.view_is ∙ taken_none c.self.inside.table
    c.self.inside.held.items c.self.invariant c.args.cell c.is_on_sheet.ensures c.in-None.ensures.none
    ∙ ap (λ m. remove m c.args.cell) c.self.view_is
