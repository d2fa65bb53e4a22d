use Rattle.std.proofs.Common.{ap, sym, ◌∙◌}
use Rattle.std.specs.FinMap.{get}
use Rattle.grid_address.proofs.Maps.{get_entries}
use Rattle.range_names.proofs.NameMaps.{names_total}
use Rattle.range_names.proofs.names.Names.find.Goals as goal

pub returns-clause-short : goal.returns-clause-short
returns-clause-short c =
    λ _. c.copied.ensures ∙ c.get.ensures.value
    ∙ sym (get_entries names_total c.self.inside.map.entries c.key_of.result)
    ∙ ap (λ m. get m c.key_of.result) c.self.view_is ∙ ap (get c.args.self.now) c.key_of.ensures
