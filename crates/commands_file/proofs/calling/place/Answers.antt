use Rattle.std.proofs.Common.{inr, rules}
use Rattle.list_lemmas.proofs.Results.{on_err_always}
use Rattle.commands_file.proofs.calling.place.Goals as goal

-- memory ran out in the put
pub returns-in_err-written-clause-memory : goal.returns-in_err-written-clause-memory
returns-in_err-written-clause-memory g c = on_err_always _ (inr (search rules, c.in_err-written.ensures.memory))
