use Rattle.commands_data.proofs.acting.act.Goals as goal

-- no evaluation is made where a setting is kept or forgotten
pub returns-in-DataRange : goal.returns-in-DataRange
returns-in-DataRange c = rw c.in-DataRange.is (c.keep_range.ensures c.args.tally.now.count)

pub returns-in-PrimaryKey : goal.returns-in-PrimaryKey
returns-in-PrimaryKey c = rw c.in-PrimaryKey.is (c.keep_key.ensures c.args.tally.now.count)

pub returns-in-SecondaryKey : goal.returns-in-SecondaryKey
returns-in-SecondaryKey c = rw c.in-SecondaryKey.is (c.keep_key-in-SecondaryKey.ensures c.args.tally.now.count)

pub returns-in-SortReset : goal.returns-in-SortReset
returns-in-SortReset c = rw c.in-SortReset.is (c.forget_sort.ensures c.args.tally.now.count)

pub returns-in-Input : goal.returns-in-Input
returns-in-Input c = rw c.in-Input.is (c.keep_range-in-Input.ensures c.args.tally.now.count)

pub returns-in-Criterion : goal.returns-in-Criterion
returns-in-Criterion c = rw c.in-Criterion.is (c.keep_range-in-Criterion.ensures c.args.tally.now.count)

pub returns-in-Output : goal.returns-in-Output
returns-in-Output c = rw c.in-Output.is (c.keep_range-in-Output.ensures c.args.tally.now.count)

pub returns-in-QueryReset : goal.returns-in-QueryReset
returns-in-QueryReset c = rw c.in-QueryReset.is (c.forget_query.ensures c.args.tally.now.count)

pub returns-in-TableReset : goal.returns-in-TableReset
returns-in-TableReset c = rw c.in-TableReset.is (c.forget_table.ensures c.args.tally.now.count)
