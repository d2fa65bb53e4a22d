use Rattle.std.proofs.Common.{refl}
use Rattle.std.proofs.lemmas.Bool.{false≢true}
use Rattle.key_words.proofs.Feeding.{is_no_text}
use Rattle.key_words.proofs.reader.KeyReader.at_rest.Goals as goal

pub returns-in_default : goal.returns-in_default
returns-in_default c = record {
  whole = λ bytes keys read e. absurd (false≢true e);
  inside = λ bytes keys read e. is_no_text bytes keys c.args.self.now (c.in_default.not-Nothing) read;
  bad = λ at e. refl;
}
