use Rattle.std.proofs.Common.{◌≡◌, ◌+◌, ◌-◌, ◌++◌, ℕ, List, Option, Some, refl, ap, sym, ◌∙◌, arith}
use Rattle.fixed_value.specs.Written.{decimals}
use Rattle.cell_format.specs.Numbers.{fitting, placed}
use Rattle.cell_format.proofs.Fitting.{exact_fits, skipped}
use Rattle.cell_format.proofs.numbers.put_general.Goals as goal

pub returns-in-Some : goal.returns-in-Some
returns-in-Some c =
    let exact = c.in-Some.ensures in
    let fits =
    exact_fits (decimals c.args.value) c.saturating_sub-room.result c.args.value (Some c.in-Some.text) exact.enough
    exact.few exact.text refl in
    c.put_right.ensures
    ∙ ap (λ (t : Option (List ℕ)). c.args.into.now ++ placed t c.args.width)
    (ap (λ (l : List ℕ). Some l) c.bytes.ensures.bytes ∙ fits
    ∙ ap (λ room. fitting 6 c.args.value room) c.saturating_sub-room.ensures)

pub returns-in-None : goal.returns-in-None
returns-in-None c =
    let most = c.most_places.result in
    let room = c.saturating_sub-room.result in
    let all : most + (6 - most) ≡ 6 = omega (arith, c.most_places.ensures.few) in
    c.put_rounded.ensures
    ∙ ap (λ (t : Option (List ℕ)). c.args.into.now ++ placed t c.args.width)
    (ap (λ r. fitting most c.args.value r) (sym c.saturating_sub-room.ensures)
    ∙ skipped (6 - most) most room c.args.value c.most_places.ensures.most (omega (arith, all))
    ∙ ap (λ p. fitting p c.args.value room) all
    ∙ ap (λ r. fitting 6 c.args.value r) c.saturating_sub-room.ensures)
