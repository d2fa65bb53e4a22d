use Rattle.formula_text.proofs.Spelling.{reads, spells}
use Rattle.formula_text.proofs.reading.a_text_is_read_as_it_spells.Goals as goal

pub returns : goal.returns
returns c = λ names at text t. (spells names at text t, reads names at text t)
