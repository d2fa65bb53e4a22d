use Rattle.std.proofs.Common.{◌≡◌, drop}
use Rattle.sheet_run.specs.Options.{read_on, words_read}
use Rattle.sheet_run.proofs.options.read_words.Given as goal

abbrev pub invariant-loop-place : goal.invariant-loop-place
invariant-loop-place l = read_on l.options l.wanted (drop l.place l.words) ≡ words_read l.words
