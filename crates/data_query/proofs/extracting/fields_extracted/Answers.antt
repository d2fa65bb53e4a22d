use Rattle.std.proofs.Common.{◌≡◌, ◌≤◌, List, length, map, sym, ap, ◌∙◌, subst}
use Rattle.grid_address.specs.Place.{Place}
use Rattle.formula_parts.specs.Scenes.{outlook_of}
use Rattle.data_query.specs.Extraction.{rows_extracted}
use Rattle.grid_address.specs.Lines.{last_row}
use Rattle.data_query.proofs.Extracted.{fault_as, found_as}
use Rattle.data_query.proofs.Records.{row_of}
use Rattle.data_query.proofs.extracting.fields_extracted.Goals as goal

pub rows_extracted-requires : goal.rows_extracted-requires
rows_extracted-requires g c =
    subst (λ (l : List Place). length l ≤ last_row) (sym c.as_slice.ensures) c.in-Ok.ensures.count

pub returns-in-Ok-clause-found : goal.returns-in-Ok-clause-found
returns-in-Ok-clause-found g c =
    let made = rows_extracted (g.K.Look.sight c.args.look.now) c.args.extraction.now.output c.args.fields.now in
    found_as c.rows_extracted.result _ _ (ap made (ap (map row_of) c.as_slice.ensures ∙ c.in-Ok.ensures.rows))
    c.rows_extracted.ensures.found

pub returns-in-Ok-clause-fault : goal.returns-in-Ok-clause-fault
returns-in-Ok-clause-fault g c =
    let made = rows_extracted (g.K.Look.sight c.args.look.now) c.args.extraction.now.output c.args.fields.now in
    fault_as c.rows_extracted.result _ _ (ap made (ap (map row_of) c.as_slice.ensures ∙ c.in-Ok.ensures.rows))
    c.rows_extracted.ensures.fault
