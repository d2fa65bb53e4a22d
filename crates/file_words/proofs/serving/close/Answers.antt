use Rattle.file_words.proofs.Attached.{finish_broken}
use Rattle.file_words.proofs.serving.close.Goals as goal

pub returns-in-Err-Memory-clause-memory : goal.returns-in-Err-Memory-clause-memory
returns-in-Err-Memory-clause-memory g c =
    finish_broken c.args.done c.args.channel.now _ _ _ _ _ _ c.in-Err-Memory.field-0-is
    c.in-Err-Memory.ensures.cause c.in-Err-Memory.ensures.finished
