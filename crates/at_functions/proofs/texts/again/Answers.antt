use Rattle.std.proofs.Common.{arith, ap, sym, refl, ◌∙◌, ◌≡◌, ◌≤◌, ◌++◌, ◌∷◌, ℕ, List, [], length}
use Rattle.at_functions.proofs.Written.{again_length, again_more, again_nothing, room}
use Rattle.at_functions.proofs.texts.again.Goals as goal

pub put_all-requires : goal.put_all-requires
put_all-requires c =
    omega (
      arith,
      ap length c.loop.invariant,
      again_length c.loop.counter c.args.bytes.now,
      room c.loop.counter c.args.count (length c.args.bytes.now) c.loop-test.true c.requires,
    )

pub loop-preserved : goal.loop-preserved
loop-preserved c =
    c.put_all.ensures ∙ ap (λ (l : List ℕ). l ++ c.args.bytes.now) c.loop.invariant
    ∙ sym (again_more c.loop.counter c.args.bytes.now)

no_bytes : (xs : List ℕ) → length xs ≤ 0 → xs ≡ []
no_bytes [] h = refl
no_bytes (x ∷ xs) h = absurd (omega (arith, h))

pub returns-else-bytes-gt0 : goal.returns-else-bytes-gt0
returns-else-bytes-gt0 c =
    c.new-line.ensures ∙ again_nothing c.args.count c.args.bytes.now (no_bytes c.args.bytes.now c.if-bytes-gt0.false)
