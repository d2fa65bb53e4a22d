use Rattle.std.proofs.Common.{◌<◌, arith}
use Rattle.wk1_records.proofs.Words.{ends_there, endless_refused, front_words, low_refused}
use Rattle.wk1_records.proofs.said.words_by_byte.Goals as goal

pub returns-then-bytes-at-eq0-clause-some : goal.returns-then-bytes-at-eq0-clause-some
returns-then-bytes-at-eq0-clause-some c =
    ends_there c.args.bytes.now c.loop-at.at c.loop-at.invariant c.loop-at-test.true c.if-bytes-at-eq0.true

pub returns-then-bytes-at-eq0-clause-words : goal.returns-then-bytes-at-eq0-clause-words
returns-then-bytes-at-eq0-clause-words c =
    front_words c.args.bytes.now c.loop-at.at c.loop-at.invariant (omega (arith, c.loop-at-test.true))

pub returns-then-bytes-at-lt32-clause-none : goal.returns-then-bytes-at-lt32-clause-none
returns-then-bytes-at-lt32-clause-none c =
    low_refused c.args.bytes.now c.loop-at.at c.loop-at.invariant c.loop-at-test.true c.if-bytes-at-lt32.true
    c.if-bytes-at-eq0.false

pub returns-clause-none : goal.returns-clause-none
returns-clause-none c =
    endless_refused c.args.bytes.now c.loop-at.at c.loop-at.invariant c.loop-at-test.false
