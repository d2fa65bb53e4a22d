-- How far a word of key notation was read, and what a byte makes of it.
use Rattle.std.specs.Char.{is_ascii_alphabetic, to_ascii_uppercase}
use Rattle.std.specs.Prelude.{ℕ, ◌+◌, ◌-◌, ◌*◌, ◌==◌, ◌||◌, ◌&&◌, nat_le, if◌then◌else◌, Option, Some, None, List, [], map}
use Rattle.lics_text.specs.Ascii as ascii
use Rattle.key_words.specs.declared.key.Key.TheVariants as key
use Rattle.key_words.specs.declared.name.Named.{Named}
use Rattle.key_words.specs.declared.name.Named.TheVariants as name
use Rattle.key_words.specs.declared.begun.Begun.{Begun}
use Rattle.key_words.specs.declared.begun.Begun.TheVariants.{Nothing, Opened, Mark, Letters, Spaced, Counted, AltSpaced, AltLetter}
use Rattle.key_words.specs.declared.begun.Next.{Next}
use Rattle.key_words.specs.declared.begun.Next.TheVariants.{Going, Ended, Refused}
use Rattle.key_words.specs.Names.{longer, looked_up}
use Rattle.key_words.specs.Notation.{is_mark, is_typed}

-- a closing brace behind a name
abbrev pub closed : Option Named → Next
closed None = Refused
closed (Some (name.Repeated k)) = Ended k 1
closed (Some (name.Alone k)) = Ended k 1
closed (Some name.Alt) = Refused

-- a space behind a name
abbrev pub spaced : Option Named → Next
spaced None = Refused
spaced (Some (name.Repeated k)) = Going (Spaced k)
spaced (Some (name.Alone k)) = Refused
spaced (Some name.Alt) = Going AltSpaced

-- the letters of a name, where one begins so
abbrev pub lettered : Option (List ℕ) → Next
lettered None = Refused
lettered (Some letters) = Going (Letters letters)

-- a byte that stands for itself ends a word at once
abbrev pub typed : ℕ → Next
typed b = if is_typed b then Ended (key.Byte b) 1 else Refused

-- what a byte makes of a word that is begun
abbrev pub after : Begun → ℕ → Next
after Nothing b =
    if b == ascii.tilde then Ended key.Enter 1
    else if b == ascii.opening_brace then Going Opened
    else if b == ascii.carriage_return || b == ascii.line_feed then Going Nothing
    else typed b
after Opened b = if is_mark b then Going (Mark b) else lettered (longer [] (to_ascii_uppercase b))
after (Mark m) b = if b == ascii.closing_brace then Ended (key.Byte m) 1 else Refused
after (Letters letters) b =
    if b == ascii.closing_brace then closed (looked_up (map to_ascii_uppercase letters))
    else if b == ascii.space then spaced (looked_up (map to_ascii_uppercase letters))
    else lettered (longer letters (to_ascii_uppercase b))
after (Spaced k) b = if nat_le ascii.one b && nat_le b ascii.nine then Going (Counted k (b - ascii.zero)) else Refused
after (Counted k n) b =
    if b == ascii.closing_brace then Ended k n
    else if (nat_le ascii.zero b && nat_le b ascii.nine) && nat_le (n * 10 + (b - ascii.zero)) 9999
    then Going (Counted k (n * 10 + (b - ascii.zero)))
    else Refused
after AltSpaced b = if is_ascii_alphabetic b then Going (AltLetter (to_ascii_uppercase b)) else Refused
after (AltLetter l) b = if b == ascii.closing_brace then Ended (key.Alt l) 1 else Refused
