use Rattle.std.proofs.Common.{ap, ◌∙◌, get_or}
use Rattle.cell_maps.proofs.Tables.{fill_same}
use Rattle.cell_maps.proofs.table.add_page.Goals as goal

pub returns-clause-same : goal.returns-clause-same
returns-clause-same c = λ j. ap (λ l. get_or l j 0) c.in_ok-extend_from_slice.ensures.items
    ∙ fill_same c.args.numbers.now.items 256 j
