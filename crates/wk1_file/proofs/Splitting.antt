-- Records that are saved are split from the bytes, and read in their order.
use Rattle.std.proofs.Common.{◌≡◌, ℕ, ◌+◌, List, [], ◌∷◌, ◌++◌, length, refl, ap, ◌∙◌, arith}
use Rattle.std.specs.Prelude.{None, flat_map}
use Rattle.std.specs.List.{AllByRecursion}
use Rattle.wk1_records.specs.Records.{pieces_bytes, at_end, at_piece, IsPiece, Piece, Splits}
use Rattle.wk1_file.specs.Said.{IsRecord, records_of, Says}
use Rattle.wk1_file.specs.Saved.{eof}
use Rattle.wk1_file.specs.Sheets.{entries_in, entry_then, fault_or, first_fault}
use Rattle.wk1_records.specs.declared.entry.Entry.{Entry}

-- EOF takes no more than two bytes for its type and its length
pub eof_piece : IsPiece eof
eof_piece = (omega arith, omega arith)

-- the bytes of records and an EOF are split into them
pub splits_back : (at : ℕ) (ps : List Piece) → AllByRecursion IsRecord ps
    → Splits at (pieces_bytes (ps ++ eof ∷ [])) (records_of ps)
splits_back at [] h = at_end eof [] refl eof_piece
splits_back at (p ∷ ps) h =
    at_piece p (pieces_bytes (ps ++ eof ∷ [])) h.0.inner h.0.fits (splits_back (at + (4 + length p.body)) ps h.1)

-- records that each say something have no fault
pub no_fault : (ps : List Piece) (es : List Entry) (n : ℕ) → Says ps es → first_fault n (records_of ps) ≡ None
no_fault [] [] n h = refl
no_fault [] (e ∷ es) n h = absurd h
no_fault (p ∷ ps) [] n h = absurd h
no_fault (p ∷ ps) (e ∷ es) n h =
    ap (λ r. fault_or r (first_fault (n + 1) (records_of ps))) (h.0 n) ∙ no_fault ps es (n + 1) h.1

-- the entries of records that each say something are what they say
pub all_said : (ps : List Piece) (es : List Entry) (n : ℕ) → Says ps es → entries_in n (records_of ps) ≡ es
all_said [] [] n h = refl
all_said [] (e ∷ es) n h = absurd h
all_said (p ∷ ps) [] n h = absurd h
all_said (p ∷ ps) (e ∷ es) n h =
    ap (λ r. entry_then r (entries_in (n + 1) (records_of ps))) (h.0 n) ∙ ap (λ l. e ∷ l) (all_said ps es (n + 1) h.1)

-- the records of two lists say what the one's and then what the other's say
pub said_both : (ps qs : List Piece) (es fs : List Entry) → Says ps es → Says qs fs → Says (ps ++ qs) (es ++ fs)
said_both [] qs [] fs h k = k
said_both [] qs (e ∷ es) fs h k = absurd h
said_both (p ∷ ps) qs [] fs h k = absurd h
said_both (p ∷ ps) qs (e ∷ es) fs h k = (h.0, said_both ps qs es fs h.1 k)

-- the records of each of many say what each of them is
pub said_each : {X : Type 0} (f : X → List Piece) (g : X → List Entry) (xs : List X)
    → AllByRecursion (λ x. Says (f x) (g x)) xs → Says (flat_map f xs) (flat_map g xs)
said_each f g [] h = tt
said_each f g (x ∷ xs) h = said_both (f x) (flat_map f xs) (g x) (flat_map g xs) h.0 (said_each f g xs h.1)
