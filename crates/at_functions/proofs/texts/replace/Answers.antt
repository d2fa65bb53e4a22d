use Rattle.std.proofs.Common.{sym, subst, ◌∙◌, ◌+◌, ◌++◌, length}
use Rattle.std.proofs.lemmas.List.Elements.{All-append}
use Rattle.at_functions.proofs.Written.{part_large, AllLarge, Large}
use Rattle.at_functions.proofs.texts.replace.Goals as goal

pub like-requires : goal.like-requires
like-requires c =
    let bytes = c.bytes-bytes.result.now in
    let text : AllLarge bytes = subst AllLarge (sym c.bytes-bytes.ensures.value) c.bytes-bytes.ensures.text.1 in
    let front : AllLarge c.part-front.result.now =
    subst AllLarge (sym c.part-front.ensures) (part_large bytes c.in-Some.start 0 text) in
    let middle : AllLarge c.bytes-middle.result.now =
    subst AllLarge (sym c.bytes-middle.ensures.value) c.bytes-middle.ensures.text.1 in
    let back : AllLarge c.part-back.result.now =
    subst AllLarge (sym c.part-back.ensures)
    (part_large bytes (length bytes) (c.in-Some.start + c.in-Some-count_of.count) text) in
    let behind = All-append Large c.bytes-middle.result.now c.part-back.result.now middle back in
    let all =
    All-append Large c.part-front.result.now (c.bytes-middle.result.now ++ c.part-back.result.now) front behind in
    (c.bytes.ensures.length, subst AllLarge (sym (c.bytes.ensures.bytes ∙ c.joined-line.ensures)) all)
