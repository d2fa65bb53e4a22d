use Rattle.std.proofs.Common.{◌≡◌, List, inr, sym, ap, ◌∙◌}
use Rattle.formula_parts.specs.Scenes.{outlook_of}
use Rattle.data_query.specs.Extraction.{fields_extracted}
use Rattle.data_query.proofs.Extracted.{fault_as, found_as, goes_on, not_asked, not_labelled}
use Rattle.data_query.proofs.extracting.extract.Goals as goal

pub returns-in-Ok-clause-found : goal.returns-in-Ok-clause-found
returns-in-Ok-clause-found g c =
    let outlook = outlook_of (g.K.Look.sight c.args.look.now) c.args.scene.now in
    let made = c.args.extraction.now in
    found_as c.fields_extracted.result _ _
    (ap (fields_extracted outlook made.query.input made.query.criterion made.output made.unique)
    (c.as_slice.ensures.value ∙ c.in-Ok.ensures)
    ∙ sym (goes_on outlook made.query.input made.query.criterion made.output made.unique
    (sym c.asked.ensures ∙ c.in_ok-asked.was) (sym c.labelled.ensures ∙ c.in_ok-labelled.was)))
    c.fields_extracted.ensures.found

pub returns-in-Ok-clause-fault : goal.returns-in-Ok-clause-fault
returns-in-Ok-clause-fault g c =
    let outlook = outlook_of (g.K.Look.sight c.args.look.now) c.args.scene.now in
    let made = c.args.extraction.now in
    fault_as c.fields_extracted.result _ _
    (ap (fields_extracted outlook made.query.input made.query.criterion made.output made.unique)
    (c.as_slice.ensures.value ∙ c.in-Ok.ensures)
    ∙ sym (goes_on outlook made.query.input made.query.criterion made.output made.unique
    (sym c.asked.ensures ∙ c.in_ok-asked.was) (sym c.labelled.ensures ∙ c.in_ok-labelled.was)))
    c.fields_extracted.ensures.fault
