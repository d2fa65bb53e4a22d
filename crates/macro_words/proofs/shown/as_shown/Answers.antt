use Rattle.std.proofs.Common.{◌≡◌, List, ℕ, map, subst, sym, ap, ◌∙◌, arith}
use Rattle.std.proofs.lemmas.List.{take_all}
use Rattle.lics_text.specs.Bytes.{IsText}
use Rattle.macro_words.proofs.Showing.{shown_is_text}
use Rattle.shown_cells.specs.Cells.{shown_byte}
use Rattle.macro_words.proofs.shown.as_shown.Goals as goal

pub copy_of-requires : goal.copy_of-requires
copy_of-requires c =
    let bytes : List ℕ = c.args.bytes.now in
    let all : c.bytes.result.now ≡ map shown_byte bytes =
    c.bytes.ensures.bytes ∙ c.loop-at.invariant
    ∙ ap (map shown_byte) (take_all c.loop-at.at bytes (omega (arith, c.loop-at-test.false))) in
    subst IsText (sym all) (shown_is_text bytes c.requires)
