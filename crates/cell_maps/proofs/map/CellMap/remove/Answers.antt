use Rattle.std.proofs.Common.{refl, ap, sym, ◌∙◌, subst, ◌<◌}
use Rattle.std.specs.FinMap.{remove}
use Rattle.cell_maps.proofs.Filled.{same_numbered, taken_none, taken_out, within}
use Rattle.cell_maps.specs.declared.held.Held.TheVariants as held
use Rattle.cell_maps.proofs.map.CellMap.remove.Goals as goal
use Rattle.cell_maps.proofs.map.CellMap.remove.Goals.{in-Filled-1, in-Erased-1}

pub index_mut-requires : goal.index_mut-requires
index_mut-requires g c = subst (λ n. c.in-Some.at < n) (sym c.self.inside.held.ok.0) (within c.self.inside.table
    c.self.inside.held.items c.self.invariant c.args.cell c.is_on_sheet.ensures c.in-Some.at c.in-Some.ensures.some)

pub invariant_of-self : goal.invariant_of-self
invariant_of-self g c = same_numbered c.self.inside.table c.self.inside.held.items c.self.invariant c.args.cell
    c.is_on_sheet.ensures c.in-Some.at (held.Erased c.args.cell) c.in-Some.ensures.some refl

pub invariant_of-self-in-Some-2 : goal.invariant_of-self-in-Some-2
invariant_of-self-in-Some-2 g c = same_numbered c.self.inside.table c.self.inside.held.items c.self.invariant
    c.args.cell c.is_on_sheet.ensures c.in-Some.at (held.Erased c.args.cell) c.in-Some.ensures.some refl

pub returns-in-Some : goal.returns-in-Some
returns-in-Some g c =
    let after = taken_out c.self.inside.table c.self.inside.held.items c.self.invariant c.args.cell
    c.is_on_sheet.ensures c.in-Some.at c.in-Some.ensures.some ∙ ap (λ m. remove m c.args.cell) c.self.view_is in
    elim c.match-index_mut.branch [ in-Filled-1 w ↦ w.self-is ∙ after | in-Erased-1 w ↦ w.self-is ∙ after ]

pub returns-in_default : goal.returns-in_default
returns-in_default g c = sym c.self.view_is ∙ taken_none c.self.inside.table c.self.inside.held.items c.self.invariant
    c.args.cell c.is_on_sheet.ensures c.in_default.ensures.none ∙ ap (λ m. remove m c.args.cell) c.self.view_is
