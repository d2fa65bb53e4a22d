-- How a map of names is read, and what an insertion and a removal leave.
use Rattle.std.specs.Prelude.{◌≡◌, Option, None, Some, IfNone, IfSome}
use Rattle.std.specs.Cmp.{IsTotalOrder}
use Rattle.std.specs.Cmp.Lexicographic.{nat_list_cmp_total}
use Rattle.std.specs.FinMap.{nat_cmp-IsAntisymmetric, slice_cmp-IsAntisymmetric, IsAntisymmetric}
use Rattle.std.proofs.Common.{false, Result, Ok, Err, OnOk}
use Rattle.std.specs.Result.{is_err}
use Rattle.std.proofs.lemmas.Bool.{true≢false}
use Rattle.range_names.specs.Names.{name_cmp}

-- names that compare as equal are the same
pub names_exact : IsAntisymmetric name_cmp
names_exact = slice_cmp-IsAntisymmetric nat_cmp-IsAntisymmetric

-- the order of names is total
pub names_total : IsTotalOrder name_cmp
names_total = nat_list_cmp_total

-- what follows for no answer
pub if_none : {X : Type 0} (r : Option X) (P Q : Type 0) → (P → Q) → IfNone r P → IfNone r Q
if_none None P Q f h = f h
if_none (Some x) P Q f h = h

-- what follows for an answer
pub if_some : {X : Type 0} (r : Option X) (P Q : X → Type 0) → ((x : X) → P x → Q x) → IfSome r P → IfSome r Q
if_some None P Q f h = h
if_some (Some x) P Q f h = f x h

-- what is said of an answer that is no Err
pub when_ok : {T E : Type 0} (r : Result T E) (P : Type 0) → is_err r ≡ false → OnOk r P → P
when_ok (Ok t) P e h = h
when_ok (Err f) P e h = absurd (true≢false e)
