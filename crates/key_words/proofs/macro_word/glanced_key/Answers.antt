use Rattle.std.proofs.Common.{◌≡◌, ◌+◌, ◌-◌, length, map, take, drop, refl, ap, ◌∙◌, arith, Some}
use Rattle.std.specs.Char.{to_ascii_uppercase}
use Rattle.key_words.specs.declared.name.Named.{Named}
use Rattle.key_words.proofs.Glancing.{key_by_name}
use Rattle.key_words.proofs.macro_word.glanced_key.Goals as goal

pub returns-in-Repeated : goal.returns-in-Repeated
returns-in-Repeated c =
    let text = c.args.text.now in
    let name = c.whole-named.result.0.now in
    let at = c.args.offset + 1 in
    let len : length name ≡ at + length name - at = omega arith in
    key_by_name text name c.args.offset (length name) c.in-Repeated.key
    (c.whole-named.ensures ∙ ap (λ (n : Named). Some n) c.in-Repeated.is) refl
    (omega (arith, c.if-len-text.false, c.if-at-text.false)) c.if-text-offset-ne123.false c.if-text-end-ne125.false
    (ap (λ n. map to_ascii_uppercase (take n (drop at text))) len ∙ c.spells.ensures c.if-not-spells.false)
