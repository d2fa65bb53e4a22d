-- The condition in a cell of a criterion, by the field that was found before.
use Rattle.std.proofs.Common.{◌≡◌, ℕ, ◌+◌, ◌-◌, ◌<◌, List, get_or, sym, ap, ◌∙◌}
use Rattle.std.specs.Prelude.{Bool, Option}
use Rattle.grid_address.specs.Place.{width_of, Extent}
use Rattle.formula_parts.specs.Outlook.{Outlook}
use Rattle.grid_address.specs.Lines.{at, rows_down}
use Rattle.record_match.specs.Criteria.{condition_holds, holds_at, value_of_field}
use Rattle.record_match.specs.Fields.{field_named}
use Rattle.record_match.specs.Criteria.{fields_of}
use Rattle.grid_address.proofs.Scans.{made_at}

-- a cell's condition, by the fields that were found before, holds exactly where that of the criterion does
pub held : (w : Outlook) (input criterion : Extent) (fields : List (Option ℕ))
    (row conditions col place count index : ℕ) (d : Option ℕ) (b : Bool)
    → fields ≡ fields_of w.sight input criterion → col < width_of criterion → place ≡ criterion.first.col + col
    → count ≡ row - (input.first.row + 1) → index ≡ col
    → b ≡ condition_holds w (w.sight.contents (at conditions place)) (rows_down count (at conditions place))
    (value_of_field w.sight (get_or fields index d) row)
    → holds_at w input criterion row (at conditions (criterion.first.col + col)) ≡ b
held w input criterion fields row conditions col place count index d b are inside stands counts indexed is =
    let f = λ (k : ℕ). field_named w.sight input (at criterion.first.row k) in
    let down = row - (input.first.row + 1) in
    let there = at conditions (criterion.first.col + col) in
    sym (
    is
    ∙ ap (λ k. condition_holds w (w.sight.contents (at conditions k)) (rows_down count (at conditions k))
    (value_of_field w.sight (get_or fields index d) row)) stands
    ∙ ap (λ k. condition_holds w (w.sight.contents there) (rows_down k there)
    (value_of_field w.sight (get_or fields index d) row)) counts
    ∙ ap (λ k. condition_holds w (w.sight.contents there) (rows_down down there)
    (value_of_field w.sight (get_or fields k d) row)) indexed
    ∙ ap (λ (l : List (Option ℕ)). condition_holds w (w.sight.contents there) (rows_down down there)
    (value_of_field w.sight (get_or l col d) row)) are
    ∙ ap (λ o. condition_holds w (w.sight.contents there) (rows_down down there) (value_of_field w.sight o row))
    (made_at f criterion.first.col (width_of criterion) col d inside)
    )
