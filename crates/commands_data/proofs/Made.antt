-- An answer whose only fault is want of memory.
use Rattle.std.specs.Prelude.{◌≡◌, IfErr, IfOk, List, Result, Ok, Err}
use Rattle.std.proofs.Common.{ap, inl, sym}
use Rattle.commands_data.specs.inner.Made.{IsAnswer}
use Rattle.sheet_store.specs.declared.writes.Write.{Write}

-- its writes are told
pub always_answered : {F : Type 0} (memory : F) (writes : List Write) (answer : Result (List Write) F)
    → IfOk answer (λ w. w ≡ writes) →
    IfErr answer (λ f. f ≡ memory) → IsAnswer memory (Ok writes) answer
always_answered memory writes (Ok w) found faulty = ap Ok (sym found)
always_answered memory writes (Err f) found faulty = inl faulty
