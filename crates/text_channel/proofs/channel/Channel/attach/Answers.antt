use Rattle.std.proofs.Common.{refl}
use Rattle.text_channel.specs.Channels.{finished, unfinished}
use Rattle.text_channel.proofs.channel.Channel.attach.Goals as goal

pub returns-in-Ok-clause-attached : goal.returns-in-Ok-clause-attached
returns-in-Ok-clause-attached g c =
    finished (g.S.Shelf.holds c.finish.new.shelf) c.finish.new.self c.in-Ok.field-0 c.in-Ok.ensures.finished
    c.take.ensures.taken

pub returns-in-Err-clause-attached : goal.returns-in-Err-clause-attached
returns-in-Err-clause-attached g c = unfinished c.in-Err.fault refl c.in-Err.ensures.finished
