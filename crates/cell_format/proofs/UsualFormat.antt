-- The format that cells mostly have.
use Rattle.std.specs.Prelude.{◌≡◌, ◌%◌, ℕ, true}
use Rattle.std.proofs.Common.{ap, arith, ◌∙◌}
use Rattle.std.proofs.lemmas.Bool.{eqb-true}
use Rattle.grid_address.specs.Formats.{is_shown_as, kind_of, places_of, unprotected}
use Rattle.cell_format.specs.Format.{shape_by, shape_of}
use Rattle.cell_format.specs.declared.shape.Shape.TheVariants.{General}

-- a byte that is shown as the usual one asks for General
pub usual_shape : (format : ℕ) → is_shown_as format 113 ≡ true → shape_of format ≡ General
unfolding shape_of
usual_shape format is =
    let same : format % 128 ≡ 113 = eqb-true (unprotected format) 113 is in
    let kind : kind_of format ≡ 7 = omega (arith, same) in
    let places : places_of format ≡ 1 = omega (arith, same) in
    ap (λ (k : ℕ). shape_by k (places_of format)) kind ∙ ap (shape_by 7) places
