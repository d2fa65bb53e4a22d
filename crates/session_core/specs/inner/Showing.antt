-- When the machine shows what a macro waits for.
use Rattle.std.specs.Prelude.{Bool, true, false, Option, None, Some}
use Rattle.macro_words.specs.declared.running.Running.{Running}
use Rattle.macro_words.specs.declared.waiting.Waiting.{Waiting}
use Rattle.macro_words.specs.declared.waiting.Waiting.TheVariants as waiting

-- a line or a menu
abbrev pub is_shown : Waiting → Bool
is_shown waiting.Nothing = false
is_shown (waiting.Time n) = false
is_shown (waiting.OneKey c) = false
is_shown (waiting.Line q) = true
is_shown (waiting.Item m) = true
is_shown waiting.Enter = false

-- a macro shows its own line or menu
abbrev pub shows_waiting : Option Running → Bool
shows_waiting None = false
shows_waiting (Some r) = is_shown r.waiting
