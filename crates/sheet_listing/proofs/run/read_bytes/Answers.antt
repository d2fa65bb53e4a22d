use Rattle.std.proofs.Common.{ap, arith, length}
use Rattle.sheet_listing.proofs.Bytes.{all_read, most_read, none_took}
use Rattle.sheet_listing.proofs.run.read_bytes.Goals as goal

pub returns-then-not-took-clause-bytes : goal.returns-then-not-took-clause-bytes
returns-then-not-took-clause-bytes g c =
    let none = none_took _ _ _ _ c.in_ok-took.ensures.took c.if-not-took.true in
    all_read _ _ _ (c.in_ok-took.ensures.split _ c.loop-file.invariant.0) none.1
    (omega (arith, ap length none.0, c.loop-file.invariant.2))

pub returns-clause-bytes : goal.returns-clause-bytes
returns-clause-bytes g c =
    most_read _ _ _ c.loop-file.invariant.0 (omega (arith, c.loop-file-test.false, c.loop-file.invariant.2))
