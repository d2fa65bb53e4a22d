-- The keys that the beginnings of one text give.
use Rattle.std.proofs.Common.{◌≡◌, ℕ, ◌+◌, true, false, List, [], ◌∷◌, ◌++◌, length, None, Some, refl, sym}
use Rattle.std.proofs.Common.{ap, ◌∙◌, subst, arith, ◌⊎◌, inl, inr, append_assoc, length-append}
use Rattle.std.specs.Prelude.{replicate}
use Rattle.std.proofs.lemmas.Bool.{cases_lt, true≢false}
use Rattle.std.proofs.lemmas.List.{append-nil, length-replicate, nil_from_length}
use Rattle.key_words.specs.Notation.{nothing, one_word, Begins, BeginsWord, HasKeys as HasWords, SpellsWords}
use Rattle.key_words.specs.Notation.{SpellsWord}
use Rattle.key_words.specs.declared.begun.Begun.{Begun}
use Rattle.key_words.specs.declared.begun.Begun.TheVariants.{Nothing}
use Rattle.key_words.specs.declared.key.Key.{Key}
use Rattle.key_words.proofs.Scanning.{after_keys, scan, scan-append, scan_then, text_scanned, word_scanned, Keys, Scan}
use Rattle.key_words.proofs.Scanning.{keys_of_scan}
use Rattle.sheet_run.specs.Notation.{pressed, HasKeys, SpellsKeys, SpellsUpTo}
use Rattle.sheet_run.proofs.Completing.{into_all}
use Rattle.sheet_run.proofs.Fronts.{shorter_begins}
use Rattle.sheet_run.proofs.Pressed.{into_spelled, pressed-append}
use Rattle.sheet_run.proofs.WordBegun.{begun_in, begun_scanned, is_line_end, keys_in, last_behind, last_of, line_ends}
use Rattle.sheet_run.proofs.WordBegun.{word_last}

-- bytes begin a text, and the words that are whole in them give these keys, and maybe more
pub record Give (bytes : List ℕ) (keys : List Key) : Type 0 where
  pub words : Keys
  pub begun : Begun
  pub scanned : scan Nothing bytes ≡ Some (words, begun)
  pub behind : List Key
  pub keys_are : pressed words ≡ keys ++ behind
  pub begins : Begins bytes

-- bytes whose words are known begin a text
begins_text : (bytes : List ℕ) (words : Keys) (h : HasWords bytes words) → (h.begun ≡ []) ⊎ BeginsWord h.begun →
    Begins bytes
begins_text bytes words h (inl none) =
    let whole : bytes ++ [] ≡ h.whole = append-nil bytes ∙ h.split ∙ ap (λ (l : List ℕ). h.whole ++ l) none
    ∙ append-nil h.whole in
    ([], words, subst (λ (b : List ℕ). SpellsWords b words) (sym whole) h.spelled)
begins_text bytes words h (inr b) =
    let all : bytes ++ b.more ≡ h.whole ++ (h.begun ++ b.more) = ap (λ (l : List ℕ). l ++ b.more) h.split
    ∙ append_assoc h.whole h.begun b.more in (
      b.more,
      words ++ (b.key, b.times) ∷ [],
      subst (λ (l : List ℕ). SpellsWords l (words ++ (b.key, b.times) ∷ []))
          (sym all) (one_word h.spelled b.spells),
    )

-- bytes with exactly these keys
pub give_all : (bytes : List ℕ) (keys : List Key) → HasKeys bytes keys → Give bytes keys
give_all bytes keys (words, h, is) =
    let begun = begun_scanned h.begun h.begins in
    record {
      words = words;
      begun = begun.0;
      scanned = ap (scan Nothing) h.split ∙ scan-append Nothing h.whole h.begun
          ∙ ap (λ (s : Scan). scan_then s h.begun) (text_scanned h.whole words h.spelled)
          ∙ ap (after_keys words) begun.1
          ∙ ap (λ (l : Keys). Some (l, begun.0)) (append-nil words);
      behind = [];
      keys_are = is ∙ sym (append-nil keys);
      begins = begins_text bytes words h h.begins;
    }

-- whole words are words
pub has_spelled : (bytes : List ℕ) (keys : List Key) → SpellsKeys bytes keys → HasKeys bytes keys
has_spelled bytes keys (words, spelled, is) = (
  words,
  record {
    whole = bytes;
    begun = [];
    split = sym (append-nil bytes);
    spelled = spelled;
    begins = inl refl;
  },
  is,
)

-- the bytes of whole words, of whose last one keys may be left
give_words : (bytes : List ℕ) (keys behind : List Key) (words : Keys) → SpellsWords bytes words →
    pressed words ≡ keys ++ behind → Give bytes keys
give_words bytes keys behind words spelled is = record {
  words = words;
  begun = Nothing;
  scanned = text_scanned bytes words spelled;
  behind = behind;
  keys_are = is;
  begins = ([], words, subst (λ (b : List ℕ). SpellsWords b words) (sym (append-nil bytes)) spelled);
}

-- bytes that spell keys up to the last one's word give them
pub give_up_to : (bytes : List ℕ) (keys : List Key) → SpellsUpTo bytes keys → Give bytes keys
give_up_to bytes keys (inl spelled) =
    let i = spelled.into in
    give_words bytes keys (replicate spelled.left spelled.key) (i.words ++ (spelled.key, i.done + spelled.left) ∷ [])
    (into_spelled bytes keys spelled.key spelled.left i) (into_all bytes keys spelled.key spelled.left i)
give_up_to bytes keys (inr none) =
    give_words bytes keys [] [] (subst (λ (b : List ℕ). SpellsWords b []) (sym none.0) nothing)
    (sym (ap (λ (l : List Key). l ++ []) none.1))

-- the first of the keys
pub give_front : (bytes : List ℕ) (keys more : List Key) → Give bytes (keys ++ more) → Give bytes keys
give_front bytes keys more g = record {
  words = g.words;
  begun = g.begun;
  scanned = g.scanned;
  behind = more ++ g.behind;
  keys_are = g.keys_are ∙ append_assoc keys more g.behind;
  begins = g.begins;
}

-- more bytes give more words
longer_gives : (front rest : List ℕ) (one other : List Key) → (f : Give front one) → (w : Give (front ++ rest) other) →
    (more : Keys) × (w.words ≡ f.words ++ more)
longer_gives front rest one other f w =
    let both : after_keys f.words (scan f.begun rest) ≡ Some (w.words, w.begun) =
    sym (scan-append Nothing front rest ∙ ap (λ (s : Scan). scan_then s rest) f.scanned) ∙ w.scanned in
    keys_of_scan f.words (scan f.begun rest) w.words w.begun both

-- and so they give the keys of the first of them, and more
longer_keys : (front rest : List ℕ) (one other : List Key) → (f : Give front one) → (w : Give (front ++ rest) other) →
    (more : List Key) × (one ++ more ≡ other ++ w.behind)
longer_keys front rest one other f w =
    let more = longer_gives front rest one other f w in
    let all : pressed w.words ≡ (one ++ f.behind) ++ pressed more.0 = ap pressed more.1 ∙ pressed-append f.words more.0
    ∙ ap (λ (l : List Key). l ++ pressed more.0) f.keys_are in
    (f.behind ++ pressed more.0, sym (append_assoc one f.behind (pressed more.0)) ∙ sym all ∙ w.keys_are)

-- of two beginnings of one text the keys begin one list
pub both_give : (a b c d : List ℕ) (one other : List Key) → a ++ b ≡ c ++ d → Give a one → Give c other →
    (x : List Key) × (y : List Key) × (one ++ x ≡ other ++ y)
both_give a b c d one other both f g =
    elim (cases_lt (length a) (length c)) [
      | inl more ↦
          let longer = shorter_begins a b c d both (omega (arith, more)) in
          let w : Give (a ++ longer.0) other = subst (λ (l : List ℕ). Give l other) longer.1 g in
          let keys = longer_keys a longer.0 one other f w in
          (keys.0, w.behind, keys.1)
      | inr fewer ↦
          let longer = shorter_begins c d a b (sym both) fewer in
          let w : Give (c ++ longer.0) one = subst (λ (l : List ℕ). Give l one) longer.1 f in
          let keys = longer_keys c longer.0 other one g w in
          (w.behind, keys.0, sym keys.1)
    ]

-- bytes that have all of their keys give those of each of their beginnings
pub has_all : (front rest : List ℕ) (one all : List Key) → Give front one → HasKeys (front ++ rest) all →
    (more : List Key) × (all ≡ one ++ more)
unfolding give_all
has_all front rest one all f has =
    let keys = longer_keys front rest one all f (give_all (front ++ rest) all has) in
    (keys.0, sym (append-nil all) ∙ sym keys.1)

-- a text that begins with some bytes, with more of them
pub begins_front : (front rest : List ℕ) → Begins (front ++ rest) → Begins front
begins_front front rest (more, keys, spelled) =
    (rest ++ more, keys, subst (λ (b : List ℕ). SpellsWords b keys) (append_assoc front rest more) spelled)

-- no word is empty
word_some : (word : List ℕ) (k : Key) (n : ℕ) → SpellsWord word k n → (b : ℕ) × (bs : List ℕ) × (word ≡ b ∷ bs)
word_some [] k n spelled = let none : scan Nothing [] ≡ Some ((k, n) ∷ [], Nothing) = word_scanned [] k n spelled in
    absurd (omega (arith, ap (λ (s : Scan). length (keys_in s)) none))
word_some (b ∷ bs) k n spelled = (b, bs, refl)

-- behind a word that ends some bytes no bytes without a key end them
no_line_end : (bytes front word : List ℕ) (k : Key) (n : ℕ) (rest : List ℕ) (a : List ℕ) → SpellsWord word k n →
    bytes ≡ front ++ word → bytes ≡ a ++ rest → scan Nothing rest ≡ Some ([], Nothing) → rest ≡ []
no_line_end bytes front word k n [] a spelled one other scanned = refl
no_line_end bytes front word k n (b ∷ bs) a spelled one other scanned =
    let w = word_some word k n spelled in
    let by_word : last_of 0 bytes ≡ last_of w.0 w.1 = ap (last_of 0) (one ∙ ap (λ (l : List ℕ). front ++ l) w.2)
    ∙ last_behind front 0 w.0 w.1 in
    let by_rest : last_of 0 bytes ≡ last_of b bs = ap (last_of 0) other ∙ last_behind a 0 b bs in
    let ends : is_line_end (last_of b bs) ≡ true = line_ends bs Nothing b scanned in
    let word_ends : is_line_end (last_of w.0 w.1) ≡ false = ap (λ (l : List ℕ). is_line_end (last_of 0 l)) (sym w.2)
    ∙ word_last word k n spelled in
    absurd (true≢false (sym ends ∙ ap is_line_end (sym by_rest ∙ by_word) ∙ word_ends))

no_bytes : (bs : List ℕ) → length bs ≡ 0 → bs ≡ []
no_bytes [] e = refl
no_bytes (b ∷ bs) e = absurd (omega (arith, e))

-- a list behind which some items stand is shorter
none_over : (word : Key × ℕ) (words front rest : Keys) → words ++ word ∷ [] ≡ front ++ rest →
    (rest ≡ []) ⊎ ((more : Keys) × (words ≡ front ++ more))
none_over word words front [] is = inl refl
none_over word words front (r ∷ rs) is =
    inr (shorter_begins front (r ∷ rs) words (word ∷ []) (sym is)
    (omega (arith, ap length is, length-append words (word ∷ []), length-append front (r ∷ rs))))

no_keys_behind : (words : Keys) (s : Scan) (more : Keys) (r : Begun) → more ≡ [] →
    after_keys words s ≡ Some (words ++ more, r) → s ≡ Some ([], r)
no_keys_behind words None more r none is = absurd cc
no_keys_behind words (Some (xs, q)) more r none is =
    let lists : words ++ xs ≡ words ++ more = ap keys_in is in
    let empty : length xs ≡ 0 =
    omega (arith, ap length lists, ap length none, length-append words xs, length-append words more) in
    let begun : q ≡ r = ap begun_in is in
    ap (λ (l : Keys). Some (l, q)) (nil_from_length xs empty) ∙ ap (λ (b : Begun). Some ([], b)) begun

-- bytes up to the word in which some keys end, and the same with more behind: no more stand there
up_to_longer : (a m : List ℕ) (keys : List Key) → SpellsUpTo a keys → SpellsUpTo (a ++ m) keys → m ≡ []
up_to_longer a m keys (inl one) (inr none) = no_bytes m (omega (arith, ap length none.0, length-append a m))
up_to_longer a m keys (inr none) (inr both) = no_bytes m (omega (arith, ap length both.0, length-append a m))
up_to_longer a m keys (inr none) (inl other) =
    let j = other.into in
    absurd (omega (
      arith,
      ap length none.1,
      ap length j.keys_are,
      length-append (pressed j.words)
          (replicate j.done other.key),
      length-replicate j.done other.key,
      j.some,
    ))
up_to_longer a m keys (inl one) (inl other) =
    let i = one.into in
    let j = other.into in
    let front : Keys = i.words ++ (one.key, i.done + one.left) ∷ [] in
    let whole : Keys = j.words ++ (other.key, j.done + other.left) ∷ [] in
    let scanned : after_keys front (scan Nothing m) ≡ Some (whole, Nothing) =
    ap (λ (s : Scan). scan_then s m) (sym (text_scanned a front (into_spelled a keys one.key one.left i)))
    ∙ sym (scan-append Nothing a m)
    ∙ text_scanned (a ++ m) whole (into_spelled (a ++ m) keys other.key other.left j) in
    let more = keys_of_scan front (scan Nothing m) whole Nothing scanned in
    elim (none_over (other.key, j.done + other.left) j.words front more.0 more.1) [
      | inl none ↦
          let behind : scan Nothing m ≡ Some ([], Nothing) = no_keys_behind front (scan Nothing m) more.0 Nothing none
          (scanned ∙ ap (λ (l : Keys). Some (l, Nothing)) more.1) in
          no_line_end (a ++ m) j.front j.last other.key (j.done + other.left) m a j.last_spelled j.bytes_are refl behind
      | inr over ↦
          let all : pressed j.words ≡ (keys ++ replicate one.left one.key) ++ pressed over.0 =
          ap pressed over.1 ∙ pressed-append front over.0
          ∙ ap (λ (l : List Key). l ++ pressed over.0) (into_all a keys one.key one.left i) in
          absurd (omega (
            arith,
            ap length all,
            ap length j.keys_are,
            j.some,
            length-append (keys ++ replicate one.left one.key) (pressed over.0),
            length-append keys (replicate one.left one.key),
            length-append (pressed j.words) (replicate j.done other.key),
            length-replicate j.done other.key,
          ))
    ]

-- the bytes of one text up to the word in which some keys end
pub one_up_to : (a b c d : List ℕ) (keys : List Key) → a ++ b ≡ c ++ d → SpellsUpTo a keys → SpellsUpTo c keys → a ≡ c
one_up_to a b c d keys both one other =
    elim (cases_lt (length a) (length c)) [
      | inl more ↦
          let longer = shorter_begins a b c d both (omega (arith, more)) in
          let none = up_to_longer a longer.0 keys one (subst (λ (l : List ℕ). SpellsUpTo l keys) longer.1 other) in
          sym (longer.1 ∙ ap (λ (l : List ℕ). a ++ l) none ∙ append-nil a)
      | inr fewer ↦
          let longer = shorter_begins c d a b (sym both) fewer in
          let none = up_to_longer c longer.0 keys other (subst (λ (l : List ℕ). SpellsUpTo l keys) longer.1 one) in
          longer.1 ∙ ap (λ (l : List ℕ). c ++ l) none ∙ append-nil c
    ]
