-- What is written one by one.
use Rattle.std.proofs.Common.{◌≡◌, ℕ, List, [], ◌∷◌, ◌++◌, length, map, refl, ap, ◌∙◌, sym, subst, append_assoc}
use Rattle.std.specs.Int.{to_le_bytes, w16}
use Rattle.std.specs.Prelude.{flat_map}
use Rattle.std.specs.List.{AllByRecursion}
use Rattle.std.proofs.lemmas.List.{append-nil}
use Rattle.wk1_records.specs.Records.{piece_bytes, pieces_bytes, Piece}
use Rattle.wk1_file.specs.inner.Written.{Writes}

-- the bytes of two lists of records are those of the one and then those of the other
pub bytes_both : (ps qs : List Piece) → pieces_bytes (ps ++ qs) ≡ pieces_bytes ps ++ pieces_bytes qs
bytes_both [] qs = refl
bytes_both (p ∷ ps) qs =
    ap (λ l. piece_bytes p ++ l) (bytes_both ps qs)
    ∙ sym (append_assoc (piece_bytes p) (pieces_bytes ps) (pieces_bytes qs))

-- the bytes of the records of each of many are those of each in their order
pub bytes_each : {X : Type 0} (f : X → List Piece) (xs : List X)
    → pieces_bytes (flat_map f xs) ≡ flat_map (λ x. pieces_bytes (f x)) xs
bytes_each f [] = refl
bytes_each f (x ∷ xs) = bytes_both (f x) (flat_map f xs) ∙ ap (λ l. pieces_bytes (f x) ++ l) (bytes_each f xs)

-- the bytes of one record each of many are those of each in their order
pub bytes_all : {X : Type 0} (f : X → Piece) (xs : List X)
    → pieces_bytes (map f xs) ≡ flat_map (λ x. piece_bytes (f x)) xs
bytes_all f [] = refl
bytes_all f (x ∷ xs) = ap (λ l. piece_bytes (f x) ++ l) (bytes_all f xs)

module _ {X : Type 0} (bytes_of : X → List ℕ) (IsGood : X → Type 0) where
  flat_end : (xs : List X) (x : X) → flat_map bytes_of (xs ++ x ∷ []) ≡ flat_map bytes_of xs ++ bytes_of x
  flat_end [] x = append-nil (bytes_of x)
  flat_end (y ∷ xs) x =
      ap (λ l. bytes_of y ++ l) (flat_end xs x) ∙ sym (append_assoc (bytes_of y) (flat_map bytes_of xs) (bytes_of x))

  good_end : (xs : List X) (x : X) → AllByRecursion IsGood xs → IsGood x → AllByRecursion IsGood (xs ++ x ∷ [])
  good_end [] x h k = (k, tt)
  good_end (y ∷ xs) x h k = (h.0, good_end xs x h.1 k)

  -- before the first, nothing is written and all is left
  pub begun : (before : List ℕ) (all : List X) → Writes bytes_of IsGood before before all all
  begun before all = record { done = []; parts = refl; bytes = sym (append-nil before); good = tt }

  -- with one more written, one less is left
  pub one_more : (before now next : List ℕ) (x : X) (rest left all : List X)
      → Writes bytes_of IsGood before now left all → left ≡ x ∷ rest → next ≡ now ++ bytes_of x → IsGood x
      → Writes bytes_of IsGood before next rest all
  one_more before now next x rest left all w is e k = record {
    done = w.done ++ x ∷ [];
    parts = w.parts ∙ ap (λ l. w.done ++ l) is ∙ sym (append_assoc w.done (x ∷ []) rest);
    bytes =
        e ∙ ap (λ l. l ++ bytes_of x) w.bytes ∙ append_assoc before (flat_map bytes_of w.done) (bytes_of x)
        ∙ ap (λ l. before ++ l) (sym (flat_end w.done x));
    good = good_end w.done x w.good k;
  }

  -- where nothing is left, the bytes of all are written
  pub all_bytes : (before now : List ℕ) (left all : List X) → left ≡ [] → Writes bytes_of IsGood before now left all
      → now ≡ before ++ flat_map bytes_of all
  all_bytes before now left all none w =
      w.bytes ∙ ap (λ l. before ++ flat_map bytes_of l) (sym (w.parts ∙ ap (λ l. w.done ++ l) none ∙ append-nil w.done))

  -- where nothing is left, each is as it should be
  pub all_good : (before now : List ℕ) (left all : List X) → left ≡ [] → Writes bytes_of IsGood before now left all
      → AllByRecursion IsGood all
  all_good before now left all none w =
      subst (AllByRecursion IsGood) (sym (w.parts ∙ ap (λ l. w.done ++ l) none ∙ append-nil w.done)) w.good

-- what is written behind bytes five times stands behind them in its order
pub joined : (old a b c d e f w h n k : List ℕ) → a ≡ old ++ f → b ≡ a ++ w → c ≡ b ++ h → d ≡ c ++ n → e ≡ d ++ k
    → e ≡ old ++ (f ++ (w ++ (h ++ (n ++ k))))
joined old a b c d e f w h n k p q r s t =
    t ∙ ap (λ l. l ++ k) s ∙ append_assoc c n k ∙ ap (λ l. l ++ (n ++ k)) r ∙ append_assoc b h (n ++ k)
    ∙ ap (λ l. l ++ (h ++ (n ++ k))) q ∙ append_assoc a w (h ++ (n ++ k)) ∙ ap (λ l. l ++ (w ++ (h ++ (n ++ k)))) p
    ∙ append_assoc old f (w ++ (h ++ (n ++ k)))

-- the bytes of five lists of records are those of all
pub five : (f w h n k : List Piece)
    → pieces_bytes f ++ (pieces_bytes w ++ (pieces_bytes h ++ (pieces_bytes n ++ pieces_bytes k)))
    ≡ pieces_bytes (f ++ (w ++ (h ++ (n ++ k))))
five f w h n k =
    sym (bytes_both f (w ++ (h ++ (n ++ k)))
    ∙ ap (λ l. pieces_bytes f ++ l) (bytes_both w (h ++ (n ++ k))
    ∙ ap (λ l. pieces_bytes w ++ l) (bytes_both h (n ++ k) ∙ ap (λ l. pieces_bytes h ++ l) (bytes_both n k))))

-- the bytes of a record are its type, its length and what it begins with, and the rest behind them
pub record_joined : (old new start rest : List ℕ) (kind size : ℕ)
    → new ≡ old ++ (to_le_bytes w16 kind ++ (to_le_bytes w16 size ++ start)) → size ≡ length (start ++ rest)
    → new ++ rest ≡ old ++ piece_bytes (record { kind = kind; body = start ++ rest })
record_joined old new start rest kind size is long =
    let k = to_le_bytes w16 kind in
    let s = to_le_bytes w16 size in
    ap (λ l. l ++ rest) is ∙ append_assoc old (k ++ (s ++ start)) rest
    ∙ ap (λ l. old ++ l) (append_assoc k (s ++ start) rest ∙ ap (λ l. k ++ l) (append_assoc s start rest))
    ∙ ap (λ n. old ++ (k ++ (to_le_bytes w16 n ++ (start ++ rest)))) long
