use Rattle.std.proofs.Common.{refl}
use Rattle.sheet_listing.proofs.Bytes.{none_left, one_read, split_as, still_split}
use Rattle.sheet_listing.proofs.run.take_byte.Goals as goal

pub returns-in_ok-keep_byte-in-Ok-Some-clause-split : goal.returns-in_ok-keep_byte-in-Ok-Some-clause-split
returns-in_ok-keep_byte-in-Ok-Some-clause-split g c all split =
    split_as all _ _ _ c.in_ok-keep_byte-in-Ok-Some.ensures.kept
    (one_read all _ _ c.args.bytes.now.items c.in-Ok-Some.field-0 c.in-Ok-Some.byte c.in-Ok-Some.field-0-is
    c.in-Ok-Some.ensures.taken split)

pub returns-in-Ok-None-clause-split : goal.returns-in-Ok-None-clause-split
returns-in-Ok-None-clause-split g c all split = still_split all _ _ _ c.in-Ok-None.field-0 c.in-Ok-None.field-0-is
    c.in-Ok-None.ensures.taken split

pub returns-in-Ok-None-clause-took : goal.returns-in-Ok-None-clause-took
returns-in-Ok-None-clause-took g c =
    (refl, none_left _ _ c.in-Ok-None.field-0 c.in-Ok-None.field-0-is c.in-Ok-None.ensures.taken)
