use Rattle.std.proofs.Common.{ap, sym, ◌∙◌}
use Rattle.std.proofs.lemmas.Bool.{eqb-true, false≢true}
use Rattle.std.proofs.lemmas.List.{nil_from_length}
use Rattle.std.specs.Prelude.{◌≡◌, [], length}
use Rattle.cell_maps.specs.Sets.{has}
use Rattle.grid_address.specs.Place.{same_place}
use Rattle.edit_log.proofs.log.EditLog.note_set.Goals as goal

pub returns-then-is_empty-clause-noted : goal.returns-then-is_empty-clause-noted
returns-then-is_empty-clause-noted c = λ q h.
    let none : c.as_slice-cells.result.now ≡ [] = nil_from_length c.as_slice-cells.result.now
    (eqb-true (length c.as_slice-cells.result.now) 0 (sym c.is_empty.ensures ∙ c.if-is_empty.true)) in
    absurd (false≢true (ap (λ l. has same_place l q) (sym none ∙ c.as_slice-cells.ensures.keys) ∙ h))
