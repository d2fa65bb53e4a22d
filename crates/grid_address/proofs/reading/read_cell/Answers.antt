use Rattle.std.proofs.Common.{sym, ◌∙◌}
use Rattle.grid_address.proofs.AddressFunction.{no_cell}
use Rattle.grid_address.proofs.AddressReading.{no_address}
use Rattle.grid_address.proofs.reading.read_cell.Goals as goal

pub returns-else-front-bytes-clause-err : goal.returns-else-front-bytes-clause-err
returns-else-front-bytes-clause-err c =
    no_address c.read_front-front.result.progress c.args.bytes.now c.read_front-front.result.end
    c.read_front-front.ensures.front (λ same. absurd (c.if-front-bytes.false same))

pub returns-in-None-clause-err : goal.returns-in-None-clause-err
returns-in-None-clause-err c =
    no_address c.read_front-front.result.progress c.args.bytes.now c.read_front-front.result.end
    c.read_front-front.ensures.front (λ _. sym c.cell_of.ensures ∙ c.in-None.is)

pub returns-else-front-bytes-clause-none : goal.returns-else-front-bytes-clause-none
returns-else-front-bytes-clause-none c =
    c.read_front-front.ensures.reads
    ∙ no_cell c.read_front-front.result.progress c.args.bytes.now c.read_front-front.result.end
    c.read_front-front.ensures.front (λ same. absurd (c.if-front-bytes.false same))

pub returns-in-None-clause-none : goal.returns-in-None-clause-none
returns-in-None-clause-none c =
    c.read_front-front.ensures.reads
    ∙ no_cell c.read_front-front.result.progress c.args.bytes.now c.read_front-front.result.end
    c.read_front-front.ensures.front (λ _. sym c.cell_of.ensures ∙ c.in-None.is)
