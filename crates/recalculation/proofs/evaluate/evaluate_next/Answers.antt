use Rattle.std.specs.FinMap.{get}
use Rattle.std.proofs.Common.{ap, refl, ◌∙◌}
use Rattle.sheet_store.specs.Grid.{value_at, Grid}
use Rattle.recalculation.proofs.Valued.{value_valued}
use Rattle.recalculation.proofs.evaluate.evaluate_next.Goals as goal

pub returns-clause-kept : goal.returns-clause-kept
returns-clause-kept g c =
    let old : Grid = c.args.store.now in
    let cell = c.args.cell in
    c.forget-2.ensures (value_at old) (value_at c.set_value-2.new.self) c.in_ok-value.ensures.kept (λ d other.
    ap (λ (h : Grid). value_at h d) c.set_value-2.ensures
    ∙ value_valued old.cells (get old.cells cell) cell c.in_ok-value.value d refl other)

pub returns-in-Some-number-clause-kept : goal.returns-in-Some-number-clause-kept
returns-in-Some-number-clause-kept g c =
    let old : Grid = c.args.store.now in
    let cell = c.args.cell in
    c.forget.ensures (value_at old) (value_at c.set_value.new.self) c.requires.kept (λ d other.
    ap (λ (h : Grid). value_at h d) c.set_value.ensures
    ∙ value_valued old.cells (get old.cells cell) cell _ d refl other)
