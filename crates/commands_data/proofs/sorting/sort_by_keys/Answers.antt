use Rattle.commands_data.proofs.sorting.sort_by_keys.Goals as goal

pub returns-in-Some : goal.returns-in-Some
returns-in-Some c = rw c.in-Some.is c.sort_by.ensures

pub returns-in-None : goal.returns-in-None
returns-in-None c = rw c.in-None.is c.sort_by-in-None.ensures
