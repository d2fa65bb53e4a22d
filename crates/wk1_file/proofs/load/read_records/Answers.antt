use Rattle.std.proofs.Common.{◌≡◌, ◌+◌, ℕ, ap, sym, subst, ◌∙◌, arith, inl, inr, length}
use Rattle.std.specs.Prelude.{Err}
use Rattle.wk1_records.specs.Records.{IsFront}
use Rattle.wk1_file.specs.inner.Takes.{as_progress, Ahead, IsMinded}
use Rattle.wk1_file.proofs.Loads.{fits, goes_on, is_cut, is_end, is_fault}
use Rattle.wk1_file.proofs.load.read_records.Goals as goal

pub returns-then-kind-eq-EOF : goal.returns-then-kind-eq-EOF
returns-then-kind-eq-EOF c =
    let body = c.in-Some.body.now in
    let g = c.loop-kind.invariant in
    let front = subst (λ l. IsFront l c.in-Some.kind body) c.bytes_from.ensures.rest c.in-Some.ensures.some in
    inr (is_end c.args.bytes.now c.loop-kind.at c.loop-kind.number (as_progress c.loop-kind.loading) c.in-Some.kind body
    g.ahead front (omega (arith, c.if-kind-eq-EOF.true)))

pub returns-in-Err : goal.returns-in-Err
returns-in-Err c =
    let body = c.in-Some.body.now in
    let g = c.loop-kind.invariant in
    let front = subst (λ l. IsFront l c.in-Some.kind body) c.bytes_from.ensures.rest c.in-Some.ensures.some in
    elim c.in-Err.ensures.fault [
      | inl e ↦ inl (ap Err e)
      | inr m ↦
          inr
          (is_fault c.args.bytes.now c.loop-kind.at c.loop-kind.number (as_progress c.loop-kind.loading) c.in-Some.kind
          body g.ahead front c.in-Err.fault
          (λ i. omega (arith, c.type_inv.bytes i)) (λ e. absurd (omega (arith, e, c.if-kind-eq-EOF.false)))
          m)
    ]

pub loop-kind-preserved : goal.loop-kind-preserved
loop-kind-preserved c =
    let bytes = c.args.bytes.now in
    let at = c.loop-kind.at in
    let n = c.loop-kind.number in
    let r = as_progress c.loop-kind.loading in
    let body = c.in-Some.body.now in
    let g = c.loop-kind.invariant in
    let front = subst (λ l. IsFront l c.in-Some.kind body) c.bytes_from.ensures.rest c.in-Some.ensures.some in
    let x = c.in-Ok.ensures.taken in record {
      within = fits bytes at n r c.in-Some.kind body g.ahead front g.within;
      counted = omega (arith, g.counted);
      minded = c.in-Ok.ensures.minded;
      ahead = subst (Ahead bytes (at + (4 + length body)) (n + 1)) (sym x.2)
          (goes_on bytes at n r c.in-Some.kind body g.ahead front x.0
          (λ e. absurd (omega (arith, e, c.if-kind-eq-EOF.false)))
          x.1);
    }

pub returns : goal.returns
returns c =
    inr (is_cut c.args.bytes.now c.loop-kind.at c.loop-kind.number (as_progress c.loop-kind.loading)
    c.loop-kind.invariant.ahead (λ p rest h e. c.in_default.ensures.none p rest h (c.bytes_from.ensures.rest ∙ e)))
