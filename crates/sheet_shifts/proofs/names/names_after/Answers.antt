use Rattle.std.proofs.Common.{subst, ◌∙◌}
use Rattle.sheet_shifts.specs.inner.Puts.{AreAllKeys}
use Rattle.sheet_shifts.proofs.Apart.{all_named, none_named, one_named}
use Rattle.sheet_shifts.proofs.names.names_after.Goals as goal

pub put_name-requires-clause-key : goal.put_name-requires-clause-key
put_name-requires-clause-key c = (subst AreAllKeys c.in-Some.ensures.steps c.loop-key.invariant.keyed).0

pub loop-key-preserved : goal.loop-key-preserved
loop-key-preserved c =
    one_named c.args.shift.now c.args.names.now c.loop-key.after c.put_name.new.into
    (c.in-Some.key.now, c.in-Some.span.now) c.next.new.self c.loop-key.key-iterator
    c.loop-key.invariant c.in-Some.ensures.steps c.in_ok-put_name.ensures

pub returns : goal.returns
returns c =
    all_named c.args.shift.now c.args.names.now c.loop-key.after c.loop-key.key-iterator c.loop-key.invariant
    c.in-None.ensures.steps.0

pub loop-key-init : goal.loop-key-init
loop-key-init c =
    none_named c.args.shift.now c.requires c.args.names.now c.are_keyed.ensures c.new-after.result
    c.into_iter-key-iterator.result c.new-after.ensures
    (c.into_iter-key-iterator.ensures.into_iter_gives ∙ c.entries-key-items.ensures)
