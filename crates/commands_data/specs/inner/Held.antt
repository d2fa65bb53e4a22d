-- What is done on a bench that holds a worksheet and a count of evaluations by reference.
use Rattle.std.specs.Prelude.{◌≡◌}
use Rattle.commands_data.specs.inner.Benched.{on_bench}
use Rattle.commands_data.specs.Trying.{entered, written_out}
use Rattle.commands_data.specs.declared.bench.TableBench.{TableBench}
use Rattle.data_blocks.specs.Benches.{OnBench}
use Rattle.data_blocks.specs.Tables.{Trial}
use Rattle.work_sheet.specs.Did.{Did}
use Rattle.work_sheet.specs.Doing.{Done}
use Rattle.work_sheet.specs.Seen.{of_worksheet}

-- what is seen of a bench
abbrev pub shown : TableBench → OnBench
shown b = on_bench b.sheet.now b.kept.now

-- what was done to the worksheet made of one bench another, which holds the same references
pub record HasDone (d : Done) (a b : TableBench) : Type 0 where
  pub sheet : b.sheet.ghost_name ≡ a.sheet.ghost_name
  pub tally : b.tally.ghost_name ≡ a.tally.ghost_name
  pub scene : b.scene ≡ a.scene
  pub kept : b.kept.now ≡ a.kept.now
  pub did : Did d a.sheet.now b.sheet.now a.tally.now.count b.tally.now.count

-- an input was tried
abbrev pub HasTried : Trial → TableBench → TableBench → Type 0
HasTried t a b = HasDone (entered a.scene t (of_worksheet a.sheet.now)) a b

-- the input cells got back what they held
abbrev pub HasGivenBack : TableBench → TableBench → Type 0
HasGivenBack a b = HasDone (written_out a.scene a.kept.now (of_worksheet a.sheet.now)) a b
