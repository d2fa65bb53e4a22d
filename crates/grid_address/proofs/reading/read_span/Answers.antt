use Rattle.std.proofs.Common.{sym, subst, take, ◌∙◌, ◌+◌, ℕ, List}
use Rattle.std.proofs.lemmas.List.{take_rest}
use Rattle.grid_address.specs.Reading.{IsAddress, SpellsCell, SpellsSpan, StopsAt}
use Rattle.grid_address.proofs.AddressReading.{spells}
use Rattle.grid_address.proofs.SpanReading.{no_dots_at, no_first, no_second_at, two_cells_at}
use Rattle.grid_address.proofs.reading.read_span.Goals as goal

pub returns-in_default-clause-err : goal.returns-in_default-clause-err
returns-in_default-clause-err c =
    no_first c.read_front-front.result.progress c.args.bytes.now c.read_front-front.result.end
    c.read_front-front.ensures.front (λ _ _. sym c.cell_of.ensures ∙ c.in_default.is)
    (λ _. sym c.cell_of.ensures ∙ c.in_default.is)

pub returns-then-dots-eq0-clause-err : goal.returns-then-dots-eq0-clause-err
returns-then-dots-eq0-clause-err c =
    no_dots_at c.read_front-front.result.progress c.args.bytes.now c.read_front-front.result.end
    c.read_front-front.ensures.front c.if-front-bytes.false (sym c.dots_at-dots.ensures ∙ c.if-dots-eq0.true)

pub returns-in-Ok-clause-ok : goal.returns-in-Ok-clause-ok
returns-in-Ok-clause-ok c =
    subst (SpellsSpan c.args.bytes.now) (sym c.of-in-Ok.ensures)
    (two_cells_at c.args.bytes.now c.read_front-front.result.end c.dots_at-dots.result c.in-Some.one c.in-Ok.other
    (spells c.read_front-front.result.progress c.in-Some.one (take c.read_front-front.result.end c.args.bytes.now)
    (sym c.cell_of.ensures ∙ c.in-Some.is) c.read_front-front.ensures.front.read) c.dots_at-dots.ensures
    c.if-dots-eq0.false (subst (λ (l : List ℕ). SpellsCell l c.in-Ok.other)
    (take_rest c.args.bytes.now (c.read_front-front.result.end + c.dots_at-dots.result)) (c.in-Ok.ensures).ok))

pub returns-in-Err-clause-err : goal.returns-in-Err-clause-err
returns-in-Err-clause-err c =
    no_second_at c.args.bytes.now c.read_front-front.result.end c.dots_at-dots.result c.in-Err.fault.at c.in-Some.one
    c.read_front-front.ensures.front.within
    (spells c.read_front-front.result.progress c.in-Some.one (take c.read_front-front.result.end c.args.bytes.now)
    (sym c.cell_of.ensures ∙ c.in-Some.is) c.read_front-front.ensures.front.read) c.dots_at-dots.ensures
    c.if-dots-eq0.false (subst (λ (l : List ℕ). StopsAt IsAddress l c.in-Err.fault.at)
    (take_rest c.args.bytes.now (c.read_front-front.result.end + c.dots_at-dots.result)) (c.in-Err.ensures).err)
