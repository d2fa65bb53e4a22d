use Rattle.std.proofs.Common.{cond, ap, ◌++◌, ◌∷◌, [], ◌∙◌}
use Rattle.std.specs.Prelude.{not, Bool}
use Rattle.std.specs.List.{list_any}
use Rattle.std.proofs.Math.Bool.{not-not}
use Rattle.data_query.specs.inner.Keys.{all_keyed, same_values}
use Rattle.data_query.proofs.Keyed.{among_equal}
use Rattle.data_query.proofs.repeats.insert.Goals as goal

pub returns-clause-told : goal.returns-clause-told
returns-clause-told c =
    ap not (c.in_ok-is_new.ensures.added ∙ ap not (among_equal c.args.key c.args.keys.now.keys))
    ∙ not-not (list_any (λ k. same_values (all_keyed k.items) (all_keyed c.args.key.items)) c.args.keys.now.keys)

pub returns-clause-keys : goal.returns-clause-keys
returns-clause-keys c =
    c.in_ok-is_new.ensures.keys
    ∙ ap (λ (b : Bool). cond b c.args.keys.now.keys (c.args.keys.now.keys ++ c.args.key ∷ []))
    (among_equal c.args.key c.args.keys.now.keys)
