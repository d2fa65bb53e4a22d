use Rattle.std.proofs.Common.{◌≡◌, Some, get_or, ap, sym, refl, ◌∙◌}
use Rattle.std.specs.Char.{to_ascii_uppercase}
use Rattle.key_words.specs.Names.{longer}
use Rattle.key_words.proofs.Spelling.{none_found, one_more, same_letters}
use Rattle.key_words.proofs.name.spelled.Goals as goal

pub returns-in-None : goal.returns-in-None
returns-in-None c =
    sym (none_found c.loop-rest.letters c.loop-rest.rest.now _ c.in-len1-up.len_at_least
    (ap (λ n. longer c.loop-rest.letters n) (sym c.to_ascii_uppercase.ensures.value) ∙ sym c.longer.ensures
    ∙ c.in-None.is))
    ∙ c.loop-rest.invariant.same

pub loop-rest-preserved : goal.loop-rest-preserved
loop-rest-preserved c =
    let letters = c.loop-rest.letters in
    let rest = c.loop-rest.rest.now in
    let found : longer letters (to_ascii_uppercase (get_or rest 0 0)) ≡ Some c.in-Some.longer =
    ap (λ n. longer letters n) (sym c.to_ascii_uppercase.ensures.value) ∙ sym c.longer.ensures ∙ c.in-Some.is in
    record {
      capitals = one_more letters c.in-Some.longer (get_or rest 0 0) found c.loop-rest.invariant.capitals;
      same = same_letters letters c.in-Some.longer rest 0 _ refl c.in-len1-up.len_at_least found
          ∙ c.loop-rest.invariant.same;
    }
