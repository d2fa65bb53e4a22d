use Rattle.std.proofs.Common.{ap, sym, ◌∙◌, take}
use Rattle.std.specs.FinMap.{entries}
use Rattle.range_names.specs.Names.{key_of, next_after}
use Rattle.range_names.proofs.Keys.{counted_is}
use Rattle.grid_address.proofs.Maps.{entries_kept}
use Rattle.range_names.proofs.NameMaps.{if_none, if_some, names_total}
use Rattle.range_names.proofs.names.Names.after.Goals as goal

pub returns-clause-some : goal.returns-clause-some
returns-clause-some c =
    let kept =
    ap entries (sym c.self.view_is)
    ∙ entries_kept names_total c.self.inside.map.entries c.first_after.ensures.ordered in
    if_some c.first_after.result _ _
    (λ next e. ap (next_after (key_of (take 15 c.args.name.now))) kept
    ∙ ap (λ k. next_after k c.self.inside.map.entries)
    (sym (c.key_of.ensures ∙ ap key_of (counted_is c.args.name.now c.min-counted.result c.min-counted.ensures)))
    ∙ e) c.first_after.ensures.some

pub returns-clause-none : goal.returns-clause-none
returns-clause-none c =
    let kept =
    ap entries (sym c.self.view_is)
    ∙ entries_kept names_total c.self.inside.map.entries c.first_after.ensures.ordered in
    if_none c.first_after.result _ _
    (λ e. ap (next_after (key_of (take 15 c.args.name.now))) kept
    ∙ ap (λ k. next_after k c.self.inside.map.entries)
    (sym (c.key_of.ensures ∙ ap key_of (counted_is c.args.name.now c.min-counted.result c.min-counted.ensures)))
    ∙ e) c.first_after.ensures.none
