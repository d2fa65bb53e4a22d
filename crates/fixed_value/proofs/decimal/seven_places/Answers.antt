use Rattle.std.proofs.Common.{arith, rules, ap, ◌∙◌, ◌≡◌, ◌++◌, take, replicate}
use Rattle.fixed_value.specs.Decimals.{number_of}
use Rattle.fixed_value.proofs.Places.{seven_first, seven_more}
use Rattle.fixed_value.proofs.decimal.seven_places.Goals as goal

pub loop-at-preserved : goal.loop-at-preserved
loop-at-preserved c =
    let more =
    seven_more c.args.places.now c.loop-at.at c.loop-at.number c.from.result (omega arith) c.loop-at.invariant.number
    c.loop-at.invariant.size
    (search rules) (omega arith) in
    record { within = omega arith; number = more.0; size = more.1 }

pub returns-clause-value : goal.returns-clause-value
returns-clause-value c =
    let end : c.loop-at.at ≡ 7 = omega arith in
    c.loop-at.invariant.number ∙ ap (λ n. number_of (take n (c.args.places.now ++ replicate 7 48))) end
    ∙ seven_first c.args.places.now c.requires
