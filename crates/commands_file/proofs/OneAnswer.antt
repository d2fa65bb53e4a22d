-- A call of the shelf that doesn't fail has one answer.
use Rattle.std.proofs.Common.{◌≡◌, ℕ, List, Option, None, Some, Result, refl, sym, ap, subst, ◌∙◌}
use Rattle.outside_world.specs.Shelf.{answered, done, file_in, has_file, held_as, holding, Files, OnShelf}
use Rattle.commands_file.specs.Alike.{HoldAlike}
use Rattle.commands_file.specs.Calls.{asks, failed, fetched, fetches, gets, loaded, puts, removes, there, written}
use Rattle.commands_file.specs.Calls.{IsTold, Reply, ShelfCall, ShelfView}
use Rattle.sheet_store.specs.declared.writes.SavedSheet.{SavedSheet}
use Rattle.wk1_file.proofs.OneFile.{one_file}
use Rattle.wk1_file.specs.Files.{IsFile}
use Rattle.wk1_records.specs.declared.fault.Wk1Fault.{Wk1Fault}

-- a file was read as what it is, or there is none
data IsGot : Reply → Option (List ℕ) → Type 0 where
  no_file : IsGot (loaded None) None
  a_file : (bytes : List ℕ) (file : Result SavedSheet Wk1Fault) → IsFile bytes file →
      IsGot (loaded (Some file)) (Some bytes)

-- the answer that some files give to a call
abbrev Gives : ShelfCall → Files → Reply → Type 0
Gives (asks name) files r = r ≡ there (has_file name files)
Gives (gets name) files r = IsGot r (file_in name files)
Gives (fetches name) files r = r ≡ fetched (file_in name files)
Gives (puts name bytes) files r = r ≡ written
Gives (removes name) files r = r ≡ there (has_file name files)

-- the files that a call leaves
abbrev left_by : ShelfCall → Files → Files
left_by (asks name) files = files
left_by (gets name) files = files
left_by (fetches name) files = files
left_by (puts name bytes) files = held_as name (Some bytes) files
left_by (removes name) files = held_as name None files

-- a call of a shelf that tells its files
record Answers (c : ShelfCall) (r : Reply) (s : OnShelf) (now : Option OnShelf) : Type 0 where
  gives : Gives c s.files r
  after : OnShelf
  now_is : now ≡ Some after
  files : after.files ≡ left_by c s.files

-- a call that changes no file
stays : (c : ShelfCall) (r : Reply) (s : OnShelf) (now : Option OnShelf) → left_by c s.files ≡ s.files →
    Gives c s.files r → now ≡ Some (answered done s) → Answers c r s now
stays c r s now same gives is = record { gives = gives; after = answered done s; now_is = is; files = sym same }

by_answer : (c : ShelfCall) (r : Reply) (s : OnShelf) (now : Option OnShelf) → (r ≡ failed → ⊥) →
    IsTold c r (Some s) now → Answers c r s now
by_answer (asks name) failed s now fine t = absurd (fine refl)
by_answer (asks name) (there b) s now fine t = stays (asks name) (there b) s now refl (ap there t.0) t.1
by_answer (asks name) (loaded x) s now fine t = absurd t
by_answer (asks name) (fetched x) s now fine t = absurd t
by_answer (asks name) written s now fine t = absurd t
by_answer (gets name) failed s now fine t = absurd (fine refl)
by_answer (gets name) (there b) s now fine t = absurd t
by_answer (gets name) (loaded None) s now fine t =
    stays (gets name) (loaded None) s now refl (subst (IsGot (loaded None)) t.0 no_file) t.1
by_answer (gets name) (loaded (Some file)) s now fine t =
    stays (gets name) (loaded (Some file)) s now refl (subst (IsGot (loaded (Some file))) t.2.0 (a_file t.0 file t.1))
    t.2.1
by_answer (gets name) (fetched x) s now fine t = absurd t
by_answer (gets name) written s now fine t = absurd t
by_answer (fetches name) failed s now fine t = absurd (fine refl)
by_answer (fetches name) (there b) s now fine t = absurd t
by_answer (fetches name) (loaded x) s now fine t = absurd t
by_answer (fetches name) (fetched x) s now fine t = stays (fetches name) (fetched x) s now refl (ap fetched t.0) t.1
by_answer (fetches name) written s now fine t = absurd t
by_answer (puts name bytes) failed s now fine t = absurd (fine refl)
by_answer (puts name bytes) (there b) s now fine t = absurd t
by_answer (puts name bytes) (loaded x) s now fine t = absurd t
by_answer (puts name bytes) (fetched x) s now fine t = absurd t
by_answer (puts name bytes) written s now fine t =
    record { gives = refl; after = answered done (holding name (Some bytes) s); now_is = t; files = refl }
by_answer (removes name) failed s now fine t = absurd (fine refl)
by_answer (removes name) (there b) s now fine t =
    record { gives = ap there t.0; after = answered done (holding name None s); now_is = t.1; files = refl }
by_answer (removes name) (loaded x) s now fine t = absurd t
by_answer (removes name) (fetched x) s now fine t = absurd t
by_answer (removes name) written s now fine t = absurd t

-- one answer reads a file
one_got : (r q : Reply) (held other : Option (List ℕ)) → held ≡ other → IsGot r held → IsGot q other → r ≡ q
one_got r q held other same no_file no_file = refl
one_got r q held other same no_file (a_file bytes file is) = absurd cc
one_got r q held other same (a_file bytes file is) no_file = absurd cc
one_got r q held other same (a_file bytes file is) (a_file bytes' file' is') =
    let both : bytes ≡ bytes' = cc in
    ap (λ (f : Result SavedSheet Wk1Fault). loaded (Some f))
    (one_file bytes' file file' (subst (λ (b : List ℕ). IsFile b file) both is) is')

one_given : (c : ShelfCall) (r q : Reply) (files other : Files) → files ≡ other → Gives c files r → Gives c other q →
    r ≡ q
one_given (asks name) r q files other same a b = a ∙ ap (λ (f : Files). there (has_file name f)) same ∙ sym b
one_given (gets name) r q files other same a b =
    one_got r q (file_in name files) (file_in name other) (ap (file_in name) same) a b
one_given (fetches name) r q files other same a b = a ∙ ap (λ (f : Files). fetched (file_in name f)) same ∙ sym b
one_given (puts name bytes) r q files other same a b = a ∙ sym b
one_given (removes name) r q files other same a b = a ∙ ap (λ (f : Files). there (has_file name f)) same ∙ sym b

-- of shelves with the same files a call gets one answer, and leaves the same files
pub one_answer : (c : ShelfCall) (r q : Reply) (a b a' b' : ShelfView) → HoldAlike a b → (r ≡ failed → ⊥) →
    (q ≡ failed → ⊥) → IsTold c r a.told a'.told → IsTold c q b.told b'.told → (r ≡ q) × HoldAlike a' b'
one_answer c r q a b a' b' alike fine fine' told told' =
    let x = by_answer c r alike.one a'.told fine (subst (λ (o : Option OnShelf). IsTold c r o a'.told) alike.one_told
    told) in
    let y = by_answer c q alike.other b'.told fine' (subst (λ (o : Option OnShelf). IsTold c q o b'.told)
    alike.other_told told') in (
      one_given c r q alike.one.files alike.other.files alike.files x.gives y.gives,
      record {
        one = x.after;
        other = y.after;
        one_told = x.now_is;
        other_told = y.now_is;
        files = x.files
            ∙ ap (left_by c) alike.files ∙ sym y.files;
      },
    )
