use Rattle.std.proofs.Common.{ℕ, List, ap, sym, ◌∙◌}
use Rattle.grid_address.specs.Place.{Place}
use Rattle.room_keys.specs.ready.Ready.{editing}
use Rattle.work_sheet.specs.Typed.{typed}
use Rattle.room_keys.proofs.Whole.{long_is_refused, whole_is_edited}
use Rattle.room_keys.proofs.ready.edit.Goals as goal

pub returns-then-text_of : goal.returns-then-text_of
returns-then-text_of c =
    let text : Place → List ℕ = typed c.args.sheet.now.names c.args.sheet.now.grid in
    c.edit_text.ensures
    ∙ whole_is_edited (text c.pointer_of-pointer.result) c.bytes.result.now
    (c.bytes.ensures.bytes ∙ c.text_of.ensures.line) (sym c.text_of.ensures.whole ∙ c.if-text_of.true)
    ∙ ap (λ (p : Place). editing (text p)) c.pointer_of-pointer.ensures

pub returns-else-text_of : goal.returns-else-text_of
returns-else-text_of c =
    let text : Place → List ℕ = typed c.args.sheet.now.names c.args.sheet.now.grid in
    sym (ap (λ (p : Place). editing (text p)) (sym c.pointer_of-pointer.ensures)
    ∙ long_is_refused (text c.pointer_of-pointer.result) (sym c.text_of.ensures.whole ∙ c.if-text_of.false))
