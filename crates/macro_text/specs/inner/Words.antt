-- The words that are kept of a text.
use Rattle.std.specs.Prelude.{◌≡◌, ℕ, List}
use Rattle.std.specs.List.{All}
use Rattle.key_words.specs.MacroText.{unit_at}
use Rattle.macro_text.specs.declared.kept.KeptWord.{KeptWord}
use Rattle.macro_text.specs.Kept.{arguments_in}

-- each is the word of the text at its offset, with its arguments
abbrev pub AreWordsOf : List ℕ → List KeptWord → Type 0
AreWordsOf text words =
    All (λ (k : KeptWord). (unit_at text k.at ≡ (k.word, k.end)) × (k.args ≡ arguments_in text k.word)) words
