use Rattle.sheet_store.specs.Grid.{value_in}
use Rattle.sheet_store.proofs.store.tell_other.Goals as goal

pub returns-then-not-hangs_on : goal.returns-then-not-hangs_on
returns-then-not-hangs_on c = λ cells value others is takes same.
    c.hangs_on.ensures c.if-not-hangs_on.true (value_in cells) others is same

pub returns : goal.returns
returns c = λ cells value others is takes same. c.let_all_go.ensures others
