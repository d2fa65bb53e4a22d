use Rattle.std.proofs.Common.{arith, ap, sym, ◌∙◌, ◌++◌, ◌∷◌, [], ℕ, List, length, map, append_assoc, length-append}
use Rattle.cell_format.specs.Labels.{masked, repeated}
use Rattle.cell_format.proofs.Texts.{none_repeated, repeated_more}
use Rattle.cell_format.proofs.labels.put_repeated.Goals as goal

pub loop-at-init : goal.loop-at-init
loop-at-init c = (none_repeated (map masked c.args.bytes.now) c.args.into.now, omega arith)

pub loop-at-preserved : goal.loop-at-preserved
loop-at-preserved c =
    let text : List ℕ = map masked c.args.bytes.now in (
      c.push.ensures ∙ ap (λ (l : List ℕ). l ++ c.repeated_byte.result ∷ []) c.loop-at.invariant.0
          ∙ append_assoc c.args.into.now (repeated text c.loop-at.at) (c.repeated_byte.result ∷ [])
          ∙ ap (λ b. c.args.into.now ++ (repeated text c.loop-at.at ++ b ∷ [])) c.repeated_byte.ensures
          ∙ ap (λ (l : List ℕ). c.args.into.now ++ l) (sym (repeated_more text c.loop-at.at)),
      omega (
        arith,
        ap length c.push.ensures,
        length-append c.loop-at.into (c.repeated_byte.result ∷ []),
        c.loop-at.invariant.1,
      ),
    )
