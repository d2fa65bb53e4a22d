-- Notes that are written in parts.
use Rattle.std.proofs.Common.{◌≡◌, ℕ, Bool, true, false, List, ◌++◌, ap, subst, ◌∙◌, inl, inr}
use Rattle.std.specs.Prelude.{Option}
use Rattle.outside_world.specs.Causes.{Rose}
use Rattle.sheet_listing.specs.Ending.{IsNoted}
use Rattle.sheet_listing.specs.Waiting.{added, IsFront}
use Rattle.sheet_listing.specs.inner.Reading.{IsPut}
use Rattle.sheet_listing.proofs.Fronts.{added_on, front_of_more}

-- a text that was put is noted
pub noted : (text : List ℕ) (before now : Option (List ℕ)) (faults faults' : ℕ) (done : Bool) →
    IsPut text before now faults faults' done → IsNoted text before now faults faults'
noted text before now faults faults' true put = inl put
noted text before now faults faults' false put = inr put

-- it was put whole, where the call says so
pub put_done : (text : List ℕ) (before now : Option (List ℕ)) (faults faults' : ℕ) (done : Bool) →
    IsPut text before now faults faults' done → done ≡ true → IsPut text before now faults faults' true
put_done text before now faults faults' true put h = put
put_done text before now faults faults' false put h = absurd cc

-- it wasn't, where the call says so
pub put_failed : (text : List ℕ) (before now : Option (List ℕ)) (faults faults' : ℕ) (done : Bool) →
    IsPut text before now faults faults' done → done ≡ false → IsPut text before now faults faults' false
put_failed text before now faults faults' true put h = absurd cc
put_failed text before now faults faults' false put h = put

-- where a part is not written nothing more is
pub noted_front : (text more : List ℕ) (before now : Option (List ℕ)) (faults faults' : ℕ) →
    IsPut text before now faults faults' false → IsNoted (text ++ more) before now faults faults'
noted_front text more before now faults faults' put = inr (front_of_more now before text more put.0, put.1)

-- a part, and then the rest
pub noted_more : (text more : List ℕ) (before middle now : Option (List ℕ)) (faults then faults' : ℕ) →
    IsPut text before middle faults then true → IsNoted more middle now then faults' →
    IsNoted (text ++ more) before now faults faults'
noted_more text more before middle now faults then faults' put (inl done) =
    inl (done.0 ∙ ap (λ o. added o more) put.0 ∙ added_on before text more, done.1 ∙ put.1)
noted_more text more before middle now faults then faults' put (inr failed) =
    inr (
      subst (IsFront now) (ap (λ o. added o more) put.0 ∙ added_on before text more) failed.0,
      subst (λ n. Rose n faults') put.1 failed.1,
    )
