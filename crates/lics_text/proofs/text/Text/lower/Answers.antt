use Rattle.std.specs.Char.{to_ascii_lowercase}
use Rattle.std.proofs.Common.{◌≡◌, map, rules, subst, sym}
use Rattle.lics_text.specs.Bytes.{IsText}
use Rattle.lics_text.proofs.Kept.{lower_kept}
use Rattle.lics_text.proofs.text.Text.lower.Goals as goal

pub like-requires : goal.like-requires
like-requires c =
    let is : c.as_slice.result.now ≡ map to_ascii_lowercase c.bytes.result.now = search rules in
    rw is (lower_kept c.bytes.result.now (subst IsText (sym c.bytes.ensures.value) c.bytes.ensures.text))
