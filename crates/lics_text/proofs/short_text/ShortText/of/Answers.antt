use Rattle.std.proofs.Common.{◌≡◌, ◌≤◌, ◌∙◌, ◌∷◌, [], List, ℕ, length, take, ap, arith, refl, subst, sym}
use Rattle.lics_text.specs.Bytes.{IsText}
use Rattle.lics_text.specs.inner.Short.{short_len}
use Rattle.lics_text.proofs.Short.{told, told_text}
use Rattle.lics_text.proofs.short_text.ShortText.of.Goals as goal

pub invariant_of-result : goal.invariant_of-result
invariant_of-result c =
    let few = c.requires.few in
    let room : List ℕ = 0 ∷ 0 ∷ 0 ∷ 0 ∷ 0 ∷ 0 ∷ 0 ∷ 0 ∷ 0 ∷ 0 ∷ 0 ∷ 0 ∷ length c.args.bytes.now ∷ [] in
    let long = told c.args.bytes.now room c.requires.text few refl in
    subst (λ (b : List ℕ). (short_len b ≤ 13) × IsText (take (short_len b) b)) (sym c.put_front.ensures) (
      omega (arith, long, few),
      subst IsText (sym (told_text c.args.bytes.now room c.requires.text few refl))
          c.requires.text,
    )

pub returns : goal.returns
returns c =
    ap (λ (b : List ℕ). take (short_len b) b) c.put_front.ensures
    ∙ told_text c.args.bytes.now _ c.requires.text c.requires.few refl
