use Rattle.std.proofs.Common.{◌-◌, arith}
use Rattle.fixed_value.proofs.InPlace.{one_placed, placed_all, placing_pair, placing_starts}
use Rattle.fixed_value.proofs.in_place.put_digits.Goals as goal

pub loop-from-init : goal.loop-from-init
loop-from-init c =
    placing_starts (c.args.end - c.from.result) c.args.end c.args.count c.args.number c.args.bytes.now
    (omega (arith, c.requires.room)) (omega (arith, c.from.ensures))

pub loop-from-preserved : goal.loop-from-preserved
loop-from-preserved c =
    placing_pair (c.args.end - c.from.result) c.args.end c.args.count c.args.number c.args.bytes.now c.loop-from.from
    c.loop-from.left c.loop-from.bytes c.put_byte.new.bytes c.put_byte-in-loop-from.new.bytes
    (omega arith) c.loop-from.invariant c.put_byte.ensures c.put_byte-in-loop-from.ensures

pub returns-then-from-first : goal.returns-then-from-first
returns-then-from-first c =
    one_placed (c.args.end - c.from.result) c.args.end c.args.count c.args.number c.args.bytes.now c.loop-from.from
    c.loop-from.left c.loop-from.bytes c.put_byte-then-from-first.new.bytes
    (omega (arith, c.requires.room)) (omega (arith, c.from.ensures)) c.requires.below (omega arith) (omega arith)
    c.loop-from.invariant c.put_byte-then-from-first.ensures

pub returns-else-from-first : goal.returns-else-from-first
returns-else-from-first c =
    placed_all (c.args.end - c.from.result) c.args.end c.args.count c.args.number c.args.bytes.now c.loop-from.from
    c.loop-from.left c.loop-from.bytes
    (omega (arith, c.requires.room)) (omega (arith, c.from.ensures)) (omega arith) c.loop-from.invariant
