use Rattle.std.specs.Prelude.{◌≡◌, IsSome, refl, List, [], ◌∷◌, cond, Some}
use Rattle.std.specs.BTreeMap.{is_at}
use Rattle.std.specs.Map.{lookup}
use Rattle.std.proofs.Common.{BTreeMap, subst, ap, ◌∙◌}
use Rattle.std.proofs.lemmas.Result.{on_err_weaker, on_ok_weaker}
use Rattle.grid_address.specs.Place.{place_cmp, Extent, Place}
use Rattle.range_index.proofs.Put.{first_span, none_more, one_more}
use Rattle.range_index.proofs.owners.put.Goals as goal

pub returns-in-Some-clause-ok : goal.returns-in-Some-clause-ok
returns-in-Some-clause-ok c = on_ok_weaker c.push.result (one_more c.args.owners.now.entries (c.get_mut.follows.lender
    c.push.new.spans).entries c.args.owner c.in-Some.spans.now c.push.new.spans c.in-Some.ensures.value
    ((c.get_mut.follows.holds c.push.new.spans).3 (subst IsSome c.in-Some.ensures.value refl)).0 c.args.span)
    c.push.ensures.ok

pub returns-in-Some-clause-err : goal.returns-in-Some-clause-err
returns-in-Some-clause-err c =
    on_err_weaker c.push.result (none_more c.args.owners.now.entries (c.get_mut.follows.lender c.push.new.spans).entries
    c.args.owner c.in-Some.spans.now c.push.new.spans c.in-Some.ensures.value
    ((c.get_mut.follows.holds c.push.new.spans).3 (subst IsSome c.in-Some.ensures.value refl)).0) c.push.ensures.err

pub returns-in_ok-insert-in-None-clause-ok : goal.returns-in_ok-insert-in-None-clause-ok
returns-in_ok-insert-in-None-clause-ok c =
    let put : (q : Place) → lookup (is_at (place_cmp q)) c.insert.new.self.entries ≡ cond (is_at (place_cmp
    c.args.owner) q) (Some (c.args.span ∷ [])) (lookup (is_at (place_cmp q)) c.args.owners.now.entries) =
    λ q. c.in_ok-insert-in-None.ensures.updates.0 q ∙ ap (λ (l : List Extent). cond (is_at (place_cmp c.args.owner) q)
    (Some l) (lookup (is_at (place_cmp q)) c.get_mut.follows.lender-at-none.entries)) c.in_ok-spans-in-None.ensures
    ∙ ap (λ (b : BTreeMap Place (List Extent)). cond (is_at (place_cmp c.args.owner) q) (Some (c.args.span ∷ []))
    (lookup (is_at (place_cmp q)) b.entries)) c.get_mut.follows.holds-at-none in
    first_span c.args.owners.now.entries c.insert.new.self.entries c.args.owner c.args.span c.in-None.ensures.value put
