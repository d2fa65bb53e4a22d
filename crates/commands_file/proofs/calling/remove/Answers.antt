use Rattle.std.specs.Prelude.{Bool}
use Rattle.commands_file.specs.Calls.{there}
use Rattle.commands_file.proofs.Broken.{memory_stands, removed_unfinished}
use Rattle.commands_file.proofs.calling.remove.Goals as goal

pub returns-in-Err-Memory-clause-memory : goal.returns-in-Err-Memory-clause-memory
returns-in-Err-Memory-clause-memory g c =
    removed_unfinished c.args.name.now _ _ _ _ _ c.in-Err-Memory.field-0-is c.in-Err-Memory.ensures.held
    (memory_stands Bool _ _ _ c.in-Err-Memory.field-0-is c.in-Err-Memory.ensures.cause)

pub returns-in-Ok-clause-removed : goal.returns-in-Ok-clause-removed
returns-in-Ok-clause-removed g c =
    record {
      reply = there c.in-Ok.there;
      came_so = c.end_of_remove.ensures;
      answered = record { told = c.in-Ok.ensures.held; faults = c.in-Ok.ensures.cause };
    }
