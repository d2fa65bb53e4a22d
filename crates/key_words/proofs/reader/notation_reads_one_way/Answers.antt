use Rattle.key_words.proofs.Scanning.{one_reading}
use Rattle.key_words.proofs.reader.notation_reads_one_way.Goals as goal

-- src/reader.rt:93:1
pub returns : goal.returns
returns c = one_reading
