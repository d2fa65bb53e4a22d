use Rattle.file_words.proofs.Attached.{attach_broken, attach_failed, attach_served}
use Rattle.file_words.proofs.serving.open.Goals as goal

pub returns-in-Ok-clause-served : goal.returns-in-Ok-clause-served
returns-in-Ok-clause-served g c =
    attach_served c.args.name c.args.access c.args.done c.args.channel.now _ _ _ _ _ c.in-Ok.is_done c.goes_on.result
    c.goes_on.ensures c.in-Ok.ensures.cause c.in-Ok.ensures.attached

pub returns-in-Err-Failed-clause-served : goal.returns-in-Err-Failed-clause-served
returns-in-Err-Failed-clause-served g c =
    attach_failed c.args.name c.args.access c.args.done c.args.channel.now _ _ _ _ _ c.in-Err-Failed.field-0
    c.in-Err-Failed.field-0-is c.in-Err-Failed.ensures.cause c.in-Err-Failed.ensures.attached

pub returns-in-Err-Memory-clause-memory : goal.returns-in-Err-Memory-clause-memory
returns-in-Err-Memory-clause-memory g c =
    attach_broken c.args.name c.args.access c.args.done c.args.channel.now _ _ _ _ _ c.in-Err-Memory.field-0
    c.in-Err-Memory.field-0-is c.in-Err-Memory.ensures.cause
    c.in-Err-Memory.ensures.attached
