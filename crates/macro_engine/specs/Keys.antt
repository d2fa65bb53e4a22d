-- A key that a macro takes which waits for one.
use Rattle.std.specs.Prelude.{not, Bool, true, false, Option, None, Some, if◌then◌else◌}
use Rattle.formula_parts.specs.declared.look.Scene.{Scene}
use Rattle.key_words.specs.declared.key.Key.{Key}
use Rattle.key_words.specs.declared.key.Key.TheVariants as key
use Rattle.macro_words.specs.Keys.{key_row}
use Rattle.macro_words.specs.declared.running.Running.{Running}
use Rattle.macro_words.specs.declared.waiting.Waiting.{Waiting}
use Rattle.macro_words.specs.declared.waiting.Waiting.TheVariants as waiting
use Rattle.work_sheet.specs.Doing.{quiet}
use Rattle.work_sheet.specs.Seen.{Sheet}
use Rattle.macro_engine.specs.Changes.{outlook_in}
use Rattle.macro_engine.specs.Steps.{cell_of, row_step, MacroStep}
use Rattle.macro_engine.specs.declared.steps.StepEnd.TheVariants.{Works}

-- a key is waited for; a time isn't
abbrev pub is_for_key : Waiting → Bool
is_for_key waiting.Nothing = false
is_for_key (waiting.Time n) = false
is_for_key _ = true

-- a macro runs that waits for a key
abbrev pub awaits_key : Option Running → Bool
awaits_key None = false
awaits_key (Some r) = is_for_key r.waiting

-- the keys that ? hands on to the session: all but Enter, which ends it, and UNDO
abbrev pub is_handed_on : Key → Bool
is_handed_on key.Enter = false
is_handed_on key.Undo = false
is_handed_on k = true

-- whether a key is the macro's own, by what it waits for
abbrev pub is_own : Key → Waiting → Bool
is_own k waiting.Nothing = false
is_own k (waiting.Time n) = false
is_own k waiting.Enter = not (is_handed_on k)
is_own k _ = true

-- whether a macro runs that takes the key itself
abbrev pub takes_key : Key → Option Running → Bool
takes_key k None = false
takes_key k (Some r) = is_own k r.waiting

-- the macro waits no more
abbrev pub rested : Running → Running
rested r = record r { waiting = waiting.Nothing }

-- The macro that waits takes a key, by the sheet as it now stands; a fault's cell is that of the word that waited.
-- Where no macro runs there is nothing to do.
unfoldable pub key_step : Scene → Key → Option Running → Sheet → MacroStep
key_step scene k None s = record { end = Works; running = None; done = quiet s }
key_step scene k (Some r) s =
    row_step scene (rested r) (cell_of r) (key_row (outlook_in scene s) (rested r) r.waiting k) s

-- the macro behind BREAK: it stops, unless BREAK was switched off
abbrev pub broken_off : Option Running → Option Running
broken_off None = None
broken_off (Some r) = if r.switches.breaks then None else Some r
