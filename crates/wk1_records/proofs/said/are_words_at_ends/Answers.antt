use Rattle.std.proofs.Common.{arith}
use Rattle.std.proofs.lemmas.Bool.Decides.{nat_tests}
use Rattle.wk1_records.proofs.Words.{large_ends}
use Rattle.wk1_records.proofs.said.are_words_at_ends.Goals as goal

pub returns : goal.returns
returns g c large =
    large_ends c.args.bytes.now g.row.N c.loop-at.least c.requires.more c.requires.few (grind (arith, nat_tests, large))
    (λ k less. c.loop-at.invariant k (omega (arith, less, c.loop-at-test.false)))
