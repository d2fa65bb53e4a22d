-- The natural order, over any kind of cell. eq tells cells apart, pre gives the formula cells that a formula reads.
use Rattle.std.specs.Prelude.{ℕ, zero, suc, ◌≡◌, Bool, true, false, cond, List, [], ◌∷◌, ◌++◌, length, ◌⊎◌}
use Rattle.std.specs.List.{fold, filter}
use Rattle.cell_maps.specs.Sets.{has}

-- what a walk has made: the cells appended, and whether it met a cell on its path
pub record Walked (K : Type 0) : Type 0 where
  pub done : List K
  pub circular : Bool

module _ {K : Type 0} (eq : K → K → Bool) where
  -- a cell is done behind those before it
  abbrev pub appended : K → Walked K → Walked K
  appended c s = record { done = s.done ++ c ∷ []; circular = s.circular }

  -- a circle is told; what was done stays
  abbrev pub raised : Walked K → Walked K
  raised s = record { done = s.done; circular = true }

  -- the walk of c with n levels left
  abbrev pub walk : (K → List K) → ℕ → List K → Walked K → K → Walked K
  walk pre zero path s c = s
  walk pre (suc n) path s c =
      cond (has eq s.done c) s
      (cond (has eq path c) (raised s)
      (appended c (fold (walk pre n (c ∷ path)) s (pre c))))

  -- nothing is done, and no circle was met
  abbrev pub unwalked : Walked K
  unwalked = record { done = []; circular = false }

  -- the order of all: no path is longer than they are
  abbrev pub order : (K → List K) → ℕ → List K → Walked K
  order pre n all = fold (walk pre n []) unwalked all

  -- c reaches d through formulas
  pub data Reaches (pre : K → List K) : K → K → Type 0 where
    one : {c d : K} → has eq (pre c) d ≡ true → Reaches pre c d
    more : {c e d : K} → has eq (pre c) e ≡ true → Reaches pre e d → Reaches pre c d

  -- what reads a dirty cell is dirty, and no clean cell reaches itself; eq is equality
  pub record IsSplit (pre : K → List K) (dirty : K → Bool) : Type 0 where
    pub same : (x y : K) → eq x y ≡ true → x ≡ y
    pub refl_eq : (x : K) → eq x x ≡ true
    pub up : (c d : K) → has eq (pre c) d ≡ true → dirty d ≡ true → dirty c ≡ true
    pub acyclic : (c : K) → dirty c ≡ false → Reaches pre c c → ⊥

  -- what a walk has made, without the clean cells
  abbrev pub cut : (K → Bool) → Walked K → Walked K
  cut dirty s = record { done = filter dirty s.done; circular = s.circular }

  -- the order of all without its clean cells is the order of the dirty ones
  abbrev pub OrderIsCut : Type 0
  OrderIsCut = (pre : K → List K) (dirty : K → Bool) → IsSplit pre dirty → (n : ℕ) (all : List K) →
      cut dirty (order pre n all) ≡ order (λ c. filter dirty (pre c)) n (filter dirty all)

  -- along the list, what a cell reads stands before it, or among the seen, unless the cell reaches itself
  abbrev pub Precedes : (K → List K) → List K → List K → Type 0
  Precedes pre seen [] = Unit {0}
  Precedes pre seen (c ∷ cs) = ((d : K) → has eq (pre c) d ≡ true → (has eq seen d ≡ true) ⊎ Reaches pre c c)
      × Precedes pre (c ∷ seen) cs

  -- ≡ as eq tells it
  pub record IsExact : Type 0 where
    pub same : (x y : K) → eq x y ≡ true → x ≡ y
    pub refl_eq : (x : K) → eq x x ≡ true

  -- in the order of the roots, a cell stands after all that it reads, unless it reaches itself
  abbrev pub OrderPrecedes : Type 0
  OrderPrecedes = IsExact → (pre : K → List K) (all roots : List K) →
      ((c d : K) → has eq (pre c) d ≡ true → has eq all d ≡ true) →
      ((c : K) → has eq roots c ≡ true → has eq all c ≡ true)
      → Precedes pre [] (order pre (suc (length all)) roots).done

  -- each of the roots stands in their order
  abbrev pub OrderCovers : Type 0
  OrderCovers = IsExact → (pre : K → List K) (all roots : List K) → (x : K) → has eq roots x ≡ true →
      has eq (order pre (suc (length all)) roots).done x ≡ true
