use Rattle.std.proofs.Common.{refl, subst, sym, ◌∙◌}
use Rattle.std.proofs.lemmas.Bool.{true≢false}
use Rattle.depend_graph.specs.Network.{dropped, Network}
use Rattle.recalculation.specs.Reading.{Matches}
use Rattle.sheet_store.specs.Grid.{Grid}
use Rattle.sheet_edits.proofs.Dirtied.{matches_other}
use Rattle.sheet_edits.proofs.edit.write_alone.Goals as goal

pub returns-clause-matches : goal.returns-clause-matches
returns-clause-matches c =
    subst (λ (n : Network). Matches n c.put.new.self) (sym c.drop_cell.ensures)
    (subst (λ (g : Grid). Matches (dropped c.args.graph.now c.args.cell) g) (sym c.in_ok-put.ensures.ok)
    (matches_other c.args.store.now c.args.cell c.args.state
    (λ is. absurd (true≢false (sym is ∙ c.requires.other))) c.args.graph.now c.args.graph.now c.requires.matches refl
    c.requires.other))
