use Rattle.std.proofs.Common.{◌≡◌, ◌++◌, ◌-◌, length, replicate, take, ap, ◌∙◌, List, ℕ}
use Rattle.grid_address.specs.Place.{Place}
use Rattle.screen_layout.specs.Control.{front_text}
use Rattle.work_sheet.specs.Seen.{of_worksheet}
use Rattle.work_sheet.specs.Typed.{typed}
use Rattle.screen_layout.proofs.Cuts.{added_two}
use Rattle.screen_layout.proofs.control.pointer_part.Goals as goal

pub returns-clause-text : goal.returns-clause-text
returns-clause-text c =
    let front : List ℕ = front_text (of_worksheet c.args.sheet.now) in
    let content : List ℕ = typed c.args.sheet.now.names c.args.sheet.now.grid c.args.sheet.now.settings.pointer in
    let first : c.add.new.self ≡ c.new-line.result ++ take (72 - length c.new-line.result) front =
    c.add.ensures ∙ ap (λ (t : List ℕ). c.new-line.result ++ take (72 - length c.new-line.result) t)
    (c.bytes.ensures.bytes ∙ c.put_front.ensures) in
    let text : c.bytes-2.result.now ≡ take 240 content =
    c.bytes-2.ensures.bytes ∙ c.text_of.ensures.line
    ∙ ap (λ (p : Place). take 240 (typed c.args.sheet.now.names c.args.sheet.now.grid p)) c.pointer_of.ensures in
    let second : c.add-2.new.self ≡ c.add.new.self ++ take (72 - length c.add.new.self) (take 240 content) =
    c.add-2.ensures ∙ ap (λ (t : List ℕ). c.add.new.self ++ take (72 - length c.add.new.self) t) text in
    let line : c.add-2.new.self ≡ take 72 (front ++ content) =
    added_two front content c.new-line.result c.add.new.self c.add-2.new.self c.new-line.ensures first second in
    c.fill.ensures ∙ ap (λ (l : List ℕ). l ++ replicate (73 - length l) 32) line
