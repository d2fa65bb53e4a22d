use Rattle.std.proofs.Common.{ap, sym, ◌∙◌}
use Rattle.std.specs.FinMap.{entries}
use Rattle.grid_address.proofs.Maps.{entries_kept}
use Rattle.range_names.proofs.NameMaps.{names_total}
use Rattle.range_names.proofs.names.Names.entries.Goals as goal

pub returns : goal.returns
returns c =
    c.iter.ensures.rest ∙ sym
    (ap entries (sym c.self.view_is) ∙ entries_kept names_total c.self.inside.map.entries c.iter.ensures.ordered)
