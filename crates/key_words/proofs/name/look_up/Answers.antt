use Rattle.std.proofs.Common.{◌≡◌, [], Some, get_or, ap, sym, refl, ◌∙◌}
use Rattle.std.specs.Char.{to_ascii_uppercase}
use Rattle.key_words.specs.Names.{longer}
use Rattle.key_words.proofs.Spelling.{same_letters}
use Rattle.key_words.proofs.name.look_up.Goals as goal

pub returns-in_ok-letters-in-len1-up : goal.returns-in_ok-letters-in-len1-up
returns-in_ok-letters-in-len1-up c =
    let name = c.args.name.now in
    let found : longer [] (to_ascii_uppercase (get_or name 0 0)) ≡ Some c.in_ok-letters-in-len1-up.letters =
    ap (λ n. longer [] n) (sym c.to_ascii_uppercase.ensures.value) ∙ sym c.first_letter.ensures
    ∙ c.in_ok-letters-in-len1-up.was in
    c.spelled.ensures
    ∙ same_letters [] c.in_ok-letters-in-len1-up.letters name 0 _ refl c.in-len1-up.len_at_least found
