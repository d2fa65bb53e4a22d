use Rattle.std.proofs.Common.{◌+◌, ap, arith, subst, sym}
use Rattle.cell_maps.specs.inner.Numbering.{AreNumbered}
use Rattle.cell_maps.specs.inner.Numbering.{above}
use Rattle.cell_maps.proofs.Above.{all_gone, all_wait}
use Rattle.cell_maps.proofs.Filled.{few_places}
use Rattle.cell_maps.proofs.set.CellSet.let_all_go.Goals as goal

pub overflow_cast-self : goal.overflow_cast-self
overflow_cast-self c =
    let most = few_places (above c.self.inside.gone c.self.inside.table) c.self.inside.cells.items
    c.self.invariant.1.0 in
    let long = c.len.ensures in
    let ok = c.self.inside.cells.ok.0 in
    omega (arith, most, long, ok)

pub overflow_add-self : goal.overflow_add-self
overflow_add-self c =
    let most = few_places (above c.self.inside.gone c.self.inside.table) c.self.inside.cells.items
    c.self.invariant.1.0 in
    let long = c.len.ensures in
    let ok = c.self.inside.cells.ok.0 in
    let few = c.if-self-lt-MOST_GONE.true in
    omega (arith, most, long, ok, few)

pub invariant_of-self : goal.invariant_of-self
invariant_of-self c =
    let gone = c.self.inside.gone in
    let table = c.self.inside.table in
    let cells = c.self.inside.cells.items in
    let most = few_places (above gone table) cells c.self.invariant.1.0 in
    let long = c.len.ensures in
    let ok = c.self.inside.cells.ok.0 in
    let few = c.if-self-lt-MOST_GONE.true in (
      omega (arith, most, long, ok, few),
      (
        subst (AreNumbered (above (gone + c.len.result) table)) (sym c.clear.ensures.items)
            (all_gone gone c.len.result table cells c.self.invariant.1.0 (omega (arith, long, ok))),
        all_wait gone c.len.result table cells c.clear.new.self.items c.swap.new.y.items c.clear.ensures.items
            (ap (λ v. v.items) c.swap.ensures.y_after) (omega (arith, long, ok)) c.self.invariant.1.0,
      ),
    )
