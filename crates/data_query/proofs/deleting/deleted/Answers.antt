use Rattle.std.proofs.Common.{ℕ, List, map, ap, ◌∙◌}
use Rattle.std.specs.Prelude.{false}
use Rattle.formula_parts.specs.Scenes.{outlook_of}
use Rattle.record_match.specs.Criteria.{record_matches}
use Rattle.data_query.specs.inner.Plans.{is_wanted, records}
use Rattle.data_query.specs.Selection.{moved_up}
use Rattle.data_query.proofs.Records.{cells_fit, row_of, rows_back}
use Rattle.data_query.proofs.deleting.deleted.Goals as goal

pub moved_up-requires-clause-fits : goal.moved_up-requires-clause-fits
moved_up-requires-clause-fits g c =
    let outlook = outlook_of (g.K.Look.sight c.args.look.now) c.args.scene.now in
    let input = c.args.query.now.input in
    cells_fit input.first.col input.first.row input.last.row
    (λ (row : ℕ). is_wanted false (record_matches outlook input c.args.query.now.criterion row)) c.in_ok-kept.kept
    c.in_ok-kept.ensures

pub returns : goal.returns
returns g c =
    let sight = g.K.Look.sight c.args.look.now in
    let outlook = outlook_of sight c.args.scene.now in
    let input = c.args.query.now.input in
    c.in_ok-writes.ensures ∙ ap (λ (l : List ℕ). moved_up sight input l)
    (ap (map row_of) c.in_ok-kept.ensures
    ∙ rows_back input.first.col (records outlook input c.args.query.now.criterion false))
