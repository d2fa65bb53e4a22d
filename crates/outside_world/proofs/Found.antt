-- What a file holds by the newest happening that tells of it.
use Rattle.std.proofs.Common.{◌≡◌, ℕ, List, [], ◌∷◌, Option, None, Some, refl, sym, ap, ◌∙◌, true, false, Bool, length}
use Rattle.std.proofs.Common.{arith, Err}
use Rattle.std.proofs.lemmas.Slice.Eq.{bytes_eq-Decides}
use Rattle.std.specs.Prelude.{cond}
use Rattle.std.specs.Str.{bytes_eq}
use Rattle.std.specs.Cmp.Lexicographic.{nat_list_cmp_total}
use Rattle.std.specs.FinMap.{get-insert, get-remove, get-empty, same_map, nat_cmp-IsAntisymmetric}
use Rattle.std.specs.FinMap.{slice_cmp-IsAntisymmetric, IsAntisymmetric}
use Rattle.std.proofs.lemmas.Map.Text.{is_eq-slice_cmp}
use Rattle.outside_world.specs.Shelf.{Files, OnShelf, HasPut, answered, failed, file_cmp, file_in, held_as, on_shelf}
use Rattle.outside_world.specs.Journal.{files_of}
use Rattle.outside_world.specs.declared.map_shelf.Entry.{Entry}
use Rattle.outside_world.specs.declared.faults.ShelfFault.{ShelfFault}
use Rattle.outside_world.specs.declared.faults.ShelfFault.TheVariants.{Failed, Memory}

-- what a shelf holds under a name behind a change of one file
pub held_here : (held : Option (List ℕ)) (name wanted : List ℕ) (files : Files)
    → file_in wanted (held_as name held files) ≡ cond (bytes_eq wanted name) held (file_in wanted files)
held_here None name wanted files =
    get-remove nat_list_cmp_total files name wanted
    ∙ ap (λ b. cond b None (file_in wanted files)) (is_eq-slice_cmp wanted name)
held_here (Some bytes) name wanted files =
    get-insert nat_list_cmp_total files name bytes wanted
    ∙ ap (λ b. cond b (Some bytes) (file_in wanted files)) (is_eq-slice_cmp wanted name)

-- the changed file holds what it was given
pub found : (held : Option (List ℕ)) (name wanted : List ℕ) (files : Files) → bytes_eq wanted name ≡ true
    → file_in wanted (held_as name held files) ≡ held
found held name wanted files same = held_here held name wanted files ∙ ap (λ b. cond b held (file_in wanted files)) same

-- any other file holds what it did
pub passed : (held : Option (List ℕ)) (name wanted : List ℕ) (files : Files) → bytes_eq wanted name ≡ false
    → file_in wanted (held_as name held files) ≡ file_in wanted files
passed held name wanted files other =
    held_here held name wanted files ∙ ap (λ b. cond b held (file_in wanted files)) other

-- where no change is left, no file is found
pub none_left : (rest : List Entry) (name : List ℕ) → length rest ≡ 0 → file_in name (files_of rest) ≡ None
none_left [] name none = get-empty file_cmp name
none_left (e ∷ rest) name none = absurd (omega arith)

exact : IsAntisymmetric file_cmp
exact = slice_cmp-IsAntisymmetric nat_cmp-IsAntisymmetric

-- a test that doesn't matter where it decides between equals
same_both : {A : Type 0} (b : Bool) (x y : A) → (b ≡ true → x ≡ y) → cond b x y ≡ y
same_both true x y same = same refl
same_both false x y same = refl

-- a file that holds what it held
pub as_it_was : (name : List ℕ) (files : Files) → held_as name (file_in name files) files ≡ files
as_it_was name files = same_map nat_list_cmp_total exact _ _ (λ wanted.
    held_here (file_in name files) name wanted files
    ∙ same_both (bytes_eq wanted name) (file_in name files) (file_in wanted files)
    (λ same. ap (λ n. file_in n files) (sym ((bytes_eq-Decides wanted name).0 same))))

-- a put fails or has no memory, and its file stays
pub no_put : (name bytes : List ℕ) (s t : OnShelf) (fault : ShelfFault)
    → (fault ≡ Failed → t ≡ answered (failed (file_in name s.files)) s) → (fault ≡ Memory → t ≡ s)
    → HasPut name bytes (Some s) (Some t) (Err fault)
no_put name bytes s t Failed fails full = (
  file_in name s.files,
  ap Some
      (fails refl ∙ ap (λ files. on_shelf files (answered (failed (file_in name s.files)) s).answers)
      (sym (as_it_was name s.files))),
)
no_put name bytes s t Memory fails full =
    (file_in name s.files, ap Some (full refl ∙ ap (λ files. on_shelf files s.answers) (sym (as_it_was name s.files))))

-- a put without memory that changes nothing
pub unchanged_put : (name bytes : List ℕ) (s t : OnShelf) → t ≡ s → HasPut name bytes (Some s) (Some t) (Err Memory)
unchanged_put name bytes s t is = no_put name bytes s t Memory (λ e. absurd cc) (λ _. is)
