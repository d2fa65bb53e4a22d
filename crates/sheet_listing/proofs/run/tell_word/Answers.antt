use Rattle.std.proofs.Common.{◌++◌, ◌∷◌, [], codes}
use Rattle.sheet_listing.proofs.Notes.{noted_front, noted_more, put_done, put_failed}
use Rattle.sheet_listing.proofs.run.tell_word.Goals as goal

pub returns-then-not-begun : goal.returns-then-not-begun
returns-then-not-begun g c =
    noted_front (codes "1-2-3-list: bad word: ") (c.args.word.now ++ 10 ∷ []) _ _ _ _
    (put_failed _ _ _ _ _ _ c.write_part-begun.ensures c.if-not-begun.true)

pub returns-then-not-named : goal.returns-then-not-named
returns-then-not-named g c =
    noted_more (codes "1-2-3-list: bad word: ") (c.args.word.now ++ 10 ∷ []) _ _ _ _ _ _
    (put_done _ _ _ _ _ _ c.write_part-begun.ensures c.if-not-begun.false)
    (noted_front c.args.word.now (10 ∷ []) _ _ _ _
    (put_failed _ _ _ _ _ _ c.write_part-named.ensures c.if-not-named.true))

pub returns : goal.returns
returns g c =
    noted_more (codes "1-2-3-list: bad word: ") (c.args.word.now ++ 10 ∷ []) _ _ _ _ _ _
    (put_done _ _ _ _ _ _ c.write_part-begun.ensures c.if-not-begun.false)
    (noted_more c.args.word.now (10 ∷ []) _ _ _ _ _ _
    (put_done _ _ _ _ _ _ c.write_part-named.ensures c.if-not-named.false) c.tell.ensures)
