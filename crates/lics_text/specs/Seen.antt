-- Texts that are looked at where they stand, as what they are.
use Rattle.std.specs.Prelude.{ℕ, List}
use Rattle.lics_text.specs.declared.text_ref.TextRef.{TextRef}
use Rattle.lics_text.specs.declared.text_ref.TextRef.TheVariants as text_ref

-- the text that is looked at
abbrev pub seen_text : TextRef → List ℕ
seen_text (text_ref.Text t) = t.now
seen_text (text_ref.In13 t) = t.now
seen_text (text_ref.In22 t) = t.now
seen_text (text_ref.In55 t) = t.now
seen_text (text_ref.In119 t) = t.now
seen_text (text_ref.In183 t) = t.now
seen_text (text_ref.In240 t) = t.now
