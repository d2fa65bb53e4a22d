-- What a recalculation of a span leaves of a sheet.
use Rattle.std.specs.Prelude.{Bool, [], ◌∷◌}
use Rattle.formula_parts.specs.declared.look.Scene.{Scene}
use Rattle.grid_address.specs.Place.{Extent}
use Rattle.recalculation.specs.Passes.{pass, Meaning}
use Rattle.recalculation.specs.Spans.{span_order}
use Rattle.work_sheet.specs.Doing.{context_in, swept, Done}
use Rattle.work_sheet.specs.Seen.{Sheet}

-- Every formula of a span is evaluated once, by column and then by row or by row and then by column. What else is kept
-- of the sheet stays: whether a circle is told, and whether a recalculation is wanted.
abbrev pub span_recalculated : Meaning → Scene → Extent → Bool → Sheet → Done
span_recalculated mean scene span by_columns s = record {
  sheet = record s { grid = pass mean (context_in scene s) (span_order by_columns span s.grid) s.grid };
  log = swept span 1 s.grid ∷ [];
}
