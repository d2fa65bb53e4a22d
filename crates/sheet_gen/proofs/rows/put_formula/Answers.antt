use Rattle.std.proofs.Common.{◌≡◌, subst}
use Rattle.std.specs.Prelude.{OnOk}
use Rattle.sheet_store.specs.Grid.{put_state}
use Rattle.sheet_gen.proofs.Putting.{is_sound_formula}
use Rattle.sheet_gen.proofs.rows.put_formula.Goals as goal

pub put-requires : goal.put-requires
put-requires c = is_sound_formula _ _ c.in_ok-state.ensures

pub returns : goal.returns
returns c =
    subst (λ s. OnOk c.put.result (c.put.new.self ≡ put_state c.args.store.now c.args.cell s)) c.in_ok-state.ensures
    c.put.ensures.ok
