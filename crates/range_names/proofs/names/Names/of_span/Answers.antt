use Rattle.std.proofs.Common.{ap, sym, subst, Some, ◌∙◌}
use Rattle.std.specs.FinMap.{from_entries}
use Rattle.range_names.specs.Names.{name_in, name_of_span}
use Rattle.range_names.specs.inner.Spots.{HasNoneAt, IsFirstAt}
use Rattle.range_names.proofs.Written.{first_written, none_written}
use Rattle.range_names.proofs.names.Names.of_span.Goals as goal

pub returns-in-Some-clause-some : goal.returns-in-Some-clause-some
returns-in-Some-clause-some c =
    ap (λ names. name_of_span names c.args.span) (sym c.self.view_is)
    ∙ first_written (from_entries c.self.inside.map.entries) c.self.inside.spots.entries c.args.span c.in-Some.key.now
    c.self.invariant.0 c.self.invariant.1
    (subst (λ from. IsFirstAt c.self.inside.spots.entries from c.in-Some.key.now) c.spot_of.ensures
    c.in-Some.ensures.some)
    ∙ ap (λ n. Some n) (sym c.name_in.ensures.name)

pub returns-in-None-clause-none : goal.returns-in-None-clause-none
returns-in-None-clause-none c =
    ap (λ names. name_of_span names c.args.span) (sym c.self.view_is)
    ∙ none_written (from_entries c.self.inside.map.entries) c.self.inside.spots.entries c.args.span
    c.self.invariant.0 c.self.invariant.1
    (subst (HasNoneAt c.self.inside.spots.entries) c.spot_of.ensures c.in-None.ensures.none)
