use Rattle.std.proofs.Common.{subst, sym, arith}
use Rattle.key_words.specs.inner.Listed.{IsListed}
use Rattle.key_words.proofs.Fronts.{first_listed}
use Rattle.key_words.proofs.name.longer_in.Goals as goal

pub invariant_of-result : goal.invariant_of-result
invariant_of-result c = (
  omega (arith, c.if-len-name.true),
  subst (λ r. IsListed (r.0.now, r.1)) (sym c.entry-item.is)
      (first_listed (λ e. (e.0.now, e.1)) c.loop-table.table.now _ c.in-len1-up.len_at_least c.loop-table.invariant.1),
)
