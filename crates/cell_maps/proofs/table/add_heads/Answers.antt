use Rattle.std.proofs.Common.{ap, arith, ◌∙◌, get_or}
use Rattle.cell_maps.specs.inner.Numbering.{used}
use Rattle.cell_maps.proofs.Tables.{fill_same, used_fill}
use Rattle.cell_maps.proofs.table.add_heads.Goals as goal

pub loop-heads-preserved : goal.loop-heads-preserved
loop-heads-preserved c =
    let heads = c.loop-heads.heads.items in
    let was = c.loop-heads.invariant in
    let whole = was.whole in
    let grown = c.in_ok-extend_from_slice.ensures.items in
    let longer = c.in_ok-extend_from_slice.ensures.len in
    let inside = c.requires.inside in
    let few = c.loop-heads-test.true in
    let len = c.len.ensures in
    record {
      whole = (omega (arith, whole.0, longer), omega (arith, whole.0, whole.1, longer, inside, few, len));
      same = λ j. ap (λ l. get_or l j 0) grown ∙ fill_same heads 64 j ∙ was.same j;
      used = ap used grown ∙ used_fill heads 64 ∙ was.used;
    }
