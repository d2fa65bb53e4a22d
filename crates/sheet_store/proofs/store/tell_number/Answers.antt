use Rattle.sheet_store.specs.Grid.{value_in}
use Rattle.sheet_store.proofs.store.tell_number.Goals as goal

pub returns-then-not-hangs_on : goal.returns-then-not-hangs_on
returns-then-not-hangs_on c = λ others is takes same.
    c.hangs_on.ensures c.if-not-hangs_on.true (value_in c.args.cells.now) others is same

pub returns-then-not-is_blank_in : goal.returns-then-not-is_blank_in
returns-then-not-is_blank_in c = λ others is takes same.
    c.let_all_go.ensures others

pub returns : goal.returns
returns c = λ others is takes same.
    c.fill.ensures (value_in c.args.cells.now) others is (c.is_blank_in.ensures c.if-not-is_blank_in.false)
    takes same
