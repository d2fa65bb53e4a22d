-- Passes over a span, one after another.
use Rattle.std.specs.Prelude.{ℕ, suc, ◌≡◌, Bool, true, false, if◌then◌else◌, refl}
use Rattle.std.proofs.Common.{subst, sym}
use Rattle.formula_eval.specs.Mean.{mean}
use Rattle.formula_parts.specs.declared.look.Scene.{Scene}
use Rattle.macro_words.specs.declared.running.Sweep.{Sweep}
use Rattle.work_sheet.proofs.Done.{did_both, left}
use Rattle.work_sheet.specs.Did.{Did}
use Rattle.work_sheet.specs.Doing.{quiet, Done}
use Rattle.work_sheet.specs.Seen.{of_worksheet, Sheet}
use Rattle.work_sheet.specs.Sheets.{Worksheet}
use Rattle.work_sheet.specs.Spans.{span_recalculated}
use Rattle.macro_engine.specs.Changes.{is_met, swept_within}

module _ (rest : ℕ) (scene : Scene) (sweep : Sweep) (a mid : Worksheet) (m k : ℕ)
    (one : Did (span_recalculated mean scene sweep.span sweep.by_columns (of_worksheet a)) a mid m k) where
  abbrev goes_on : Bool → Sheet → Done
  goes_on met t = if met then quiet t else swept_within rest scene sweep t

  -- a pass, and what follows it by whether the condition is met
  pass_and : (b : Worksheet) (o : ℕ) (met : Bool) → is_met scene sweep (of_worksheet mid) ≡ met
      → Did (goes_on met (of_worksheet mid)) mid b k o
      → Did (swept_within (suc rest) scene sweep (of_worksheet a)) a b m o
  unfolding swept_within
  pass_and b o met is d =
      did_both (span_recalculated mean scene sweep.span sweep.by_columns (of_worksheet a))
      (λ t. goes_on (is_met scene sweep t) t) a mid b m k o one
      (subst (λ x. Did (goes_on x (of_worksheet mid)) mid b k o) (sym is) d)

  -- one after which the condition is met is the last
  pub last_pass : is_met scene sweep (of_worksheet mid) ≡ true
      → Did (swept_within (suc rest) scene sweep (of_worksheet a)) a mid m k
  last_pass is = pass_and mid k true is (left mid mid k k refl refl)

  -- behind another one the rest follows
  pub one_pass : (b : Worksheet) (o : ℕ) → is_met scene sweep (of_worksheet mid) ≡ false
      → Did (swept_within rest scene sweep (of_worksheet mid)) mid b k o
      → Did (swept_within (suc rest) scene sweep (of_worksheet a)) a b m o
  one_pass b o is d = pass_and b o false is d

-- no pass is left
pub no_pass : (scene : Scene) (sweep : Sweep) (a : Worksheet) (m : ℕ)
    → Did (swept_within 0 scene sweep (of_worksheet a)) a a m m
unfolding swept_within
no_pass scene sweep a m = left a a m m refl refl
