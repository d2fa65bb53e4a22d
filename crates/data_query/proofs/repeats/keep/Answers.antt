use Rattle.data_query.proofs.Keyed.{joins, keys_join, keys_left, left_out}
use Rattle.data_query.proofs.repeats.keep.Goals as goal

pub returns-then-is_repeated : goal.returns-then-is_repeated
returns-then-is_repeated g c =
    let sight = g.K.Look.sight c.args.look.now in
    record {
      records =
          left_out sight c.args.fields.now c.in_ok-key.key c.args.keys.now.keys c.args.kept.now c.args.cell c.requires
          c.in_ok-key.ensures c.in_ok-is_repeated.is_repeated c.in_ok-is_repeated.ensures.told c.if-is_repeated.true;
      keys =
          keys_left sight c.args.fields.now c.in_ok-key.key c.args.keys.now.keys c.args.kept.now c.args.cell c.requires
          c.in_ok-key.ensures c.in_ok-is_repeated.is_repeated c.insert.new.keys.keys c.in_ok-is_repeated.ensures.told
          c.if-is_repeated.true c.in_ok-is_repeated.ensures.keys;
    }

pub returns : goal.returns
returns g c =
    let sight = g.K.Look.sight c.args.look.now in
    record {
      records =
          joins sight c.args.fields.now c.in_ok-key.key c.args.keys.now.keys c.args.kept.now c.args.cell c.requires
          c.in_ok-key.ensures c.in_ok-is_repeated.is_repeated c.push.new.self c.in_ok-is_repeated.ensures.told
          c.if-is_repeated.false c.in_ok-push.ensures.ok;
      keys =
          keys_join sight c.args.fields.now c.in_ok-key.key c.args.keys.now.keys c.args.kept.now c.args.cell c.requires
          c.in_ok-key.ensures c.in_ok-is_repeated.is_repeated c.insert.new.keys.keys c.push.new.self
          c.in_ok-is_repeated.ensures.told c.if-is_repeated.false c.in_ok-is_repeated.ensures.keys
          c.in_ok-push.ensures.ok;
    }
