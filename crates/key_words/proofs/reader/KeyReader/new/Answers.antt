use Rattle.std.proofs.Common.{[], refl}
use Rattle.key_words.specs.Notation.{nothing}
use Rattle.key_words.proofs.reader.KeyReader.new.Goals as goal

pub returns : goal.returns
returns c = record { taken = refl; fine = refl; whole = []; begun = []; split = refl; spelled = nothing; holds = refl }
