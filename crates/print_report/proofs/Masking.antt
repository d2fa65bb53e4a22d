-- Bytes that are printed as they are.
use Rattle.std.proofs.Common.{◌≡◌, ℕ, true, List, [], ◌∷◌, map, refl, ap, ◌∙◌}
use Rattle.std.specs.Prelude.{◌==◌}
use Rattle.std.specs.List.{list_all}
use Rattle.std.proofs.lemmas.Bool.{and_parts, eqb-true}
use Rattle.cell_format.specs.Labels.{masked}

-- bytes that are shown as they are stay
pub plain_kept : (bytes : List ℕ) → list_all (λ b. masked b == b) bytes ≡ true → map masked bytes ≡ bytes
plain_kept [] all = refl
plain_kept (b ∷ bs) all =
    let parts = and_parts (masked b == b) (list_all (λ c. masked c == c) bs) all in
    ap (λ (c : ℕ). c ∷ map masked bs) (eqb-true (masked b) b parts.0)
    ∙ ap (λ (cs : List ℕ). b ∷ cs) (plain_kept bs parts.1)
