use Rattle.std.proofs.Common.{◌≡◌, ◌+◌, ◌++◌, ◌∷◌, ◌∙◌, [], OnOk, ap, arith, length, subst}
use Rattle.std.proofs.lemmas.List.{length-append}
use Rattle.lics_text.specs.Seen.{seen_text}
use Rattle.wk1_records.specs.Bodies.{head}
use Rattle.wk1_records.specs.Kinds.{number_of}
use Rattle.wk1_records.specs.declared.kind.RecordKind.TheVariants as kind
use Rattle.wk1_file.proofs.Writing.{record_joined}
use Rattle.wk1_file.proofs.put_cells.put_text.Goals as goal

pub returns : goal.returns
returns c =
    let old = c.args.into.now.items in
    let place = head c.args.cell c.args.state.now in
    let text = seen_text c.args.text in
    let size = length c.bytes-bytes.result.now in
    let begun = c.put.new.into.items in
    let same : size ≡ length text = ap length c.bytes-bytes.ensures.value in
    let parts = ap (λ l. begun ++ (l ++ 0 ∷ [])) c.bytes-bytes.ensures.value in
    let rest = text ++ 0 ∷ [] in
    let long : 6 + size ≡ length (place ++ rest) = omega (arith, same, length-append text (0 ∷ [])) in
    let all = record_joined old begun place rest (number_of kind.Str) (6 + size)
    (c.in_ok-put.ensures ∙ ap (λ l. old ++ l) c.beginning.ensures) long in
    subst (λ l. OnOk c.put_ended.result (c.put_ended.new.into.items ≡ l)) (parts ∙ all) c.put_ended.ensures
