use Rattle.std.proofs.Common.{◌≡◌, rules, subst, sym}
use Rattle.lics_text.specs.Bytes.{IsText}
use Rattle.lics_text.specs.Texts.{proper_of}
use Rattle.lics_text.proofs.Kept.{proper_kept}
use Rattle.lics_text.proofs.text.Text.proper.Goals as goal

pub like-requires : goal.like-requires
like-requires c =
    let is : c.as_slice.result.now ≡ proper_of c.bytes.result.now = search rules in
    rw is (proper_kept c.bytes.result.now (subst IsText (sym c.bytes.ensures.value) c.bytes.ensures.text))
