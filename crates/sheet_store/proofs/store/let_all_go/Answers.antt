use Rattle.sheet_store.proofs.store.let_all_go.Goals as goal

pub returns : goal.returns
returns c = λ values. c.new.ensures values
