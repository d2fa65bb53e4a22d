use Rattle.commands_file.proofs.Broken.{memory_stands, put_unfinished}
use Rattle.commands_file.proofs.calling.put_bytes.Goals as goal

pub returns-in-Err-Memory-clause-memory : goal.returns-in-Err-Memory-clause-memory
returns-in-Err-Memory-clause-memory g c =
    put_unfinished c.args.name.now c.args.bytes.now _ _ _ _ _ c.in-Err-Memory.field-0-is c.in-Err-Memory.ensures.held
    (memory_stands (Unit {0}) _ _ _ c.in-Err-Memory.field-0-is c.in-Err-Memory.ensures.cause)
