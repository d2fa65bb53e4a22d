use Rattle.std.proofs.Common.{◌≡◌, ◌+◌, ◌++◌, ◌≤◌, ◌<◌, ◌∙◌, ℕ, Bool, false, List, length, take, drop, set, ap, sym}
use Rattle.std.proofs.Common.{arith}
use Rattle.sheet_store.specs.Grid.{Grid}
use Rattle.sheet_shifts.specs.Columns.{columns_after}
use Rattle.sheet_shifts.specs.inner.Puts.{own_of}
use Rattle.sheet_shifts.proofs.Sources.{after_at, after_len, all_columns, one_column}
use Rattle.sheet_shifts.proofs.columns.put_columns.Goals as goal

pub loop-col-preserved : goal.loop-col-preserved
loop-col-preserved c =
    let shift = c.args.shift.now in
    let old = c.args.store.now in
    let into = c.args.into.now in
    let at : ℕ = c.loop-col.col in
    let W : List ℕ = columns_after shift 0 old.widths in
    let H : List Bool = columns_after shift false old.hidden in
    let inside : at < 256 = omega (arith, c.loop-col-test.true) in
    let wide : at < length W =
    omega (arith, inside, after_len 0 old.widths c.are_columns.ensures.widths shift c.requires) in
    let there : at < length into.widths = omega (arith, inside, c.are_columns-2.ensures.widths) in
    let long : at < length H =
    omega (arith, inside, after_len false old.hidden c.are_columns.ensures.hidden shift c.requires) in
    let here : at < length into.hidden = omega (arith, inside, c.are_columns-2.ensures.hidden) in
    let widths : set (take at W ++ drop at into.widths) at (own_of 0 old.widths c.source_of.result)
    ≡ take (at + 1) W ++ drop (at + 1) into.widths =
    ap (set (take at W ++ drop at into.widths) at)
    (ap (own_of 0 old.widths) c.source_of.ensures
    ∙ sym (after_at 0 old.widths c.are_columns.ensures.widths shift c.requires at inside))
    ∙ one_column 0 W into.widths at wide there in
    let hidden : set (take at H ++ drop at into.hidden) at (own_of false old.hidden c.source_of.result)
    ≡ take (at + 1) H ++ drop (at + 1) into.hidden =
    ap (set (take at H ++ drop at into.hidden) at)
    (ap (own_of false old.hidden) c.source_of.ensures
    ∙ sym (after_at false old.hidden c.are_columns.ensures.hidden shift c.requires at inside))
    ∙ one_column false H into.hidden at long here in
    c.put_column.ensures
    ∙ ap (λ (g : Grid). record g {
      widths = set g.widths at (own_of 0 old.widths c.source_of.result);
      hidden = set g.hidden at (own_of false old.hidden c.source_of.result);
    }) c.loop-col.invariant
    ∙ (λ i. record into { widths = widths i; hidden = hidden i })

pub returns : goal.returns
returns c =
    let shift = c.args.shift.now in
    let old = c.args.store.now in
    let into = c.args.into.now in
    let at : ℕ = c.loop-col.col in
    let W : List ℕ = columns_after shift 0 old.widths in
    let H : List Bool = columns_after shift false old.hidden in
    let past : 256 ≤ at = omega (arith, c.loop-col-test.false) in
    let widths : take at W ++ drop at into.widths ≡ W =
    all_columns W into.widths at
    (omega (arith, past, after_len 0 old.widths c.are_columns.ensures.widths shift c.requires))
    (omega (arith, past, c.are_columns-2.ensures.widths)) in
    let hidden : take at H ++ drop at into.hidden ≡ H =
    all_columns H into.hidden at
    (omega (arith, past, after_len false old.hidden c.are_columns.ensures.hidden shift c.requires))
    (omega (arith, past, c.are_columns-2.ensures.hidden)) in
    c.loop-col.invariant ∙ (λ i. record into { widths = widths i; hidden = hidden i })
