use Rattle.std.proofs.Common.{◌≡◌, ◌+◌, ◌++◌, ◌≤◌, ◌<◌, ◌∙◌, ℕ, false, take, drop, set, get_or, ap, arith}
use Rattle.sheet_shifts.proofs.Sources.{all_columns, one_column}
use Rattle.sheet_store.specs.Grid.{Grid}
use Rattle.sheet_undo.proofs.columns.put_columns.Goals as goal

pub loop-col-preserved : goal.loop-col-preserved
loop-col-preserved c =
    let from = c.args.store.now in
    let into = c.args.into.now in
    let at : ℕ = c.loop-col.col in
    let inside : at < 256 = omega (arith, c.loop-col-test.true) in
    let widths : set (take at from.widths ++ drop at into.widths) at (get_or from.widths at 0) ≡ take
    (at + 1) from.widths ++ drop (at + 1) into.widths =
    one_column 0 from.widths into.widths at (omega (arith, inside, c.are_columns.ensures.widths))
    (omega (arith, inside, c.are_columns-2.ensures.widths)) in
    let hidden : set (take at from.hidden ++ drop at into.hidden) at (get_or from.hidden at false) ≡ take
    (at + 1) from.hidden ++ drop (at + 1) into.hidden =
    one_column false from.hidden into.hidden at (omega (arith, inside, c.are_columns.ensures.hidden))
    (omega (arith, inside, c.are_columns-2.ensures.hidden)) in
    c.put_column.ensures
    ∙ ap (λ (g : Grid). record g {
      widths = set g.widths at (get_or from.widths at 0);
      hidden = set g.hidden at (get_or from.hidden at false);
    }) c.loop-col.invariant
    ∙ (λ i. record into { widths = widths i; hidden = hidden i })

pub returns : goal.returns
returns c =
    let from = c.args.store.now in
    let into = c.args.into.now in
    let at : ℕ = c.loop-col.col in
    let past : 256 ≤ at = omega (arith, c.loop-col-test.false) in
    let widths : take at from.widths ++ drop at into.widths ≡ from.widths = all_columns from.widths into.widths at
    (omega (arith, past, c.are_columns.ensures.widths)) (omega (arith, past, c.are_columns-2.ensures.widths)) in
    let hidden : take at from.hidden ++ drop at into.hidden ≡ from.hidden = all_columns from.hidden into.hidden at
    (omega (arith, past, c.are_columns.ensures.hidden)) (omega (arith, past, c.are_columns-2.ensures.hidden)) in
    c.loop-col.invariant ∙ (λ i. record into { widths = widths i; hidden = hidden i })
