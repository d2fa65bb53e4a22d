use Rattle.sheet_store.proofs.Behind.{next_up_to, none_up_to}
use Rattle.sheet_store.proofs.entries.place_past.Goals as goal

pub returns-then-col-from-clause-some : goal.returns-then-col-from-clause-some
returns-then-col-from-clause-some c =
    next_up_to c.args.store.now.cells c.args.last c.args.place c.place_after.result c.requires.ends
    c.place_after.ensures.some

pub returns-then-col-from-clause-none : goal.returns-then-col-from-clause-none
returns-then-col-from-clause-none c =
    none_up_to c.args.store.now.cells c.args.last c.args.place c.place_after.result c.requires.ends
    c.place_after.ensures.none
