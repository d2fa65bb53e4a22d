use Rattle.std.proofs.Common.{◌-◌, arith, length}
use Rattle.wk1_records.proofs.Words.{ends_there, front_words, large_front}
use Rattle.wk1_records.proofs.said.words_before_last.Goals as goal

pub returns-then-bytes-last-eq0-clause-some : goal.returns-then-bytes-last-eq0-clause-some
returns-then-bytes-last-eq0-clause-some c =
    let bytes = c.args.bytes.now in
    let last = length bytes - 1 in
    ends_there bytes last (large_front bytes last (omega arith) (c.are_words.ensures c.if-are_words.true))
    (omega (arith, c.if-bytes-eq0.false)) c.if-bytes-last-eq0.true

pub returns-then-bytes-last-eq0-clause-words : goal.returns-then-bytes-last-eq0-clause-words
returns-then-bytes-last-eq0-clause-words c =
    let bytes = c.args.bytes.now in
    let last = length bytes - 1 in
    front_words bytes last (large_front bytes last (omega arith) (c.are_words.ensures c.if-are_words.true))
    (omega arith)
