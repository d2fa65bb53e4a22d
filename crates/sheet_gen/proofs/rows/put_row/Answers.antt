use Rattle.std.proofs.Common.{ap}
use Rattle.sheet_gen.specs.Rows.{formula_state}
use Rattle.sheet_gen.proofs.Putting.{is_sound_number, row_in}
use Rattle.sheet_gen.proofs.rows.put_row.Goals as goal

pub put-requires : goal.put-requires
put-requires c = is_sound_number _ _ c.number_state.ensures

pub returns-clause-cells : goal.returns-clause-cells
returns-clause-cells c = λ p. row_in c.args.store.now _ _ _ c.args.row p _ _ _
    c.number_state.ensures (ap formula_state c.in_ok-triple.ensures) (ap formula_state c.in_ok-chain.ensures)
    c.in_ok-put.ensures.ok c.in_ok-put_formula.ensures c.in_ok-put_formula-2.ensures
