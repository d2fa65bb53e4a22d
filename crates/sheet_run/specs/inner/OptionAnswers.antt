-- What the calls that read the words answer.
use Rattle.std.specs.Prelude.{◌≡◌, ◌<◌, ◌≤◌, ℕ, List, [], drop, length, slice_index_or, Option, Some, None, Result, Ok, Err}
use Rattle.sheet_run.specs.Options.{option_text, words_read}
use Rattle.sheet_run.specs.declared.options.Options.{Options}
use Rattle.sheet_run.specs.declared.options.Start.{Start}
use Rattle.sheet_run.specs.declared.options.Start.TheVariants as given
use Rattle.sheet_run.specs.declared.options.Wanted.{Wanted}
use Rattle.sheet_run.specs.declared.options.Refused.{Refused}
use Rattle.sheet_run.specs.declared.options.Refused.TheVariants.{Part, NoValue}

-- none where the value is refused
abbrev pub HasValue : List ℕ → Result Options (List ℕ) → Option Options → Type 0
HasValue value is (Some o) = is ≡ Ok o
HasValue value is None = is ≡ Err value

-- the byte of the word from which it is refused
abbrev pub HasTaken : List ℕ → Result (Options × Option Wanted) (List ℕ) → Result (Options × Option Wanted) ℕ → Type 0
HasTaken word is (Ok t) = is ≡ Ok t
HasTaken word is (Err from) = (from ≤ length word) × (is ≡ Err (drop from word))

-- the bytes that are refused
abbrev pub refused_text : List (List ℕ) → Refused → List ℕ
refused_text words (Part place from) = drop from (slice_index_or words place [])
refused_text words (NoValue wanted) = option_text wanted

-- they are a part of a word, if of any
abbrev pub IsPart : List (List ℕ) → Refused → Type 0
IsPart words (Part place from) = (place < length words) × (from ≤ length (slice_index_or words place []))
IsPart words (NoValue wanted) = Unit {0}

-- the words name a start file
abbrev pub IsFromFile : Start → Type 0
IsFromFile given.Fresh = ⊥
IsFromFile (given.File name) = Unit {0}
IsFromFile (given.Rows rows) = ⊥

-- what the words ask for, or what is refused of them
abbrev pub HasReadWords : List (List ℕ) → Result Options Refused → Type 0
HasReadWords words (Ok o) = words_read words ≡ Ok o
HasReadWords words (Err refused) = IsPart words refused × (words_read words ≡ Err (refused_text words refused))
