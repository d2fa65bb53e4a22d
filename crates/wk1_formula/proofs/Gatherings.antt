-- What is kept of the arguments of a call.
use Rattle.std.proofs.Common.{◌≡◌, ℕ, ◌+◌, ◌≤◌, ◌<◌, max, min, true, ◌&&◌, List, [], ◌∷◌, ◌++◌, length}
use Rattle.std.proofs.Common.{reverse, refl, ap, ◌∙◌, sym, subst, append_assoc, arith, inl, inr, length-append}
use Rattle.std.specs.Option.{ForSome}
use Rattle.std.specs.Prelude.{Option, Some, None, ◌⊎◌}
use Rattle.std.proofs.lemmas.List.{reverse-append}
use Rattle.std.proofs.lemmas.Option.{none-some, same_Some}
use Rattle.std.proofs.Math.Bool.{and-true, and_assoc}
use Rattle.formula_tree.specs.Shape.{all_sizes, count, depth, every, every_one, greatest_depth, is_fine, nodes_size}
use Rattle.formula_tree.specs.Table.{call_size, counts_of, takes}
use Rattle.formula_tree.specs.Tree.{Tree, call}
use Rattle.formula_tree.specs.View.{listed, tree_of, trees_in}
use Rattle.wk1_formula.specs.declared.gather.Gathered.{Gathered}
use Rattle.wk1_formula.specs.declared.item.Item.{Item}
use Rattle.wk1_formula.specs.inner.Gathered.{IsGathered}
use Rattle.wk1_formula.specs.inner.Items.{AreItems, IsItem}
use Rattle.formula_tree.specs.declared.function.Function.{Function}
use Rattle.formula_tree.proofs.Rows.{counted_list}

depth_more : (ts : List Tree) (t : Tree)
    → greatest_depth (listed (ts ++ t ∷ [])) ≡ max (greatest_depth (listed ts)) (depth t)
depth_more [] t = omega arith
depth_more (u ∷ us) t = omega (arith, depth_more us t)

sizes_more : (ts : List Tree) (t : Tree) → all_sizes (listed (ts ++ t ∷ [])) ≡ all_sizes (listed ts) + nodes_size t
sizes_more [] t = omega arith
sizes_more (u ∷ us) t = omega (arith, sizes_more us t)

fine_more : (ts : List Tree) (t : Tree)
    → every_one is_fine (listed (ts ++ t ∷ [])) ≡ (every_one is_fine (listed ts) && every is_fine t)
fine_more [] t = and-true (every is_fine t)
fine_more (u ∷ us) t =
    ap (λ b. every is_fine u && b) (fine_more us t)
    ∙ sym (and_assoc (every is_fine u) (every_one is_fine (listed us)) (every is_fine t))

-- with one argument more, what is kept is that of one tree more
pub gathered_more : (g new : Gathered) (i : Item) (ts : List Tree) (t : Tree) → new.depth ≡ max g.depth i.depth
    → new.size ≡ min (g.size + i.size) 65520 → ForSome new.exprs (λ l. trees_in l ≡ ts ++ t ∷ [])
    → (new.exprs ≡ None → (256 < greatest_depth (listed ts)) ⊎ (256 < depth t)) → IsGathered g ts → IsItem i t
    → IsGathered new (ts ++ t ∷ [])
gathered_more g new i ts t deep long there gone p q = record {
  depth_is = omega (arith, deep, p.depth_is, q.depth_is, depth_more ts t);
  size_is = omega (arith, long, p.size_is, q.size_is, sizes_more ts t);
  fine = fine_more ts t ∙ rw (p.fine, q.fine) refl;
  there = there;
  gone = λ e. elim (gone e) [ inl h ↦ omega (arith, h, depth_more ts t) | inr h ↦ omega (arith, h, depth_more ts t) ];
}

-- what is kept of a call's arguments makes what is kept of the call
pub call_made : (f : Function) (g : Gathered) (ts : List Tree) (new : Item) → IsGathered g ts
    → takes (counts_of f) (length ts) ≡ true → new.depth ≡ min (g.depth + 1) 257
    → new.size ≡ min (g.size + call_size f) 65520 → new.top ≡ 8 → new.edge ≡ 8
    → ForSome new.expr (λ e. tree_of e ≡ call f (listed ts)) → (new.expr ≡ None → 256 < 1 + greatest_depth (listed ts))
    → IsItem new (call f (listed ts))
call_made f g ts new p taken deep long top edge there gone = record {
  depth_is = omega (arith, deep, p.depth_is);
  size_is = omega (arith, long, p.size_is);
  top_is = top;
  edge_is = edge;
  fine = rw (counted_list ts, taken, p.fine) refl;
  there = there;
  gone = gone;
}

-- trees of which the last is apart
pub record Parted (is : List Item) (i : Item) (ts : List Tree) : Type 0 where
  pub front : List Tree
  pub last : Tree
  pub whole : ts ≡ front ++ last ∷ []
  pub items : AreItems is front
  pub item : IsItem i last

-- where one more item stands behind others, its tree stands behind theirs
pub parted : (is : List Item) (i : Item) (ts : List Tree) → AreItems (is ++ i ∷ []) ts → Parted is i ts
parted [] i [] h = absurd h
parted [] i (t ∷ []) h = record { front = []; last = t; whole = refl; items = tt; item = h.0 }
parted [] i (t ∷ u ∷ us) h = absurd h.1
parted (j ∷ js) i [] h = absurd h
parted (j ∷ js) i (t ∷ ts) h =
    let p = parted js i ts h.1 in
    record {
      front = t ∷ p.front;
      last = p.last;
      whole = ap (λ l. t ∷ l) p.whole;
      items = (h.0, p.items);
      item = p.item;
    }

-- the last of some items goes to those that were taken
pub last_taken : (stack now args new old : List Item) (i : Item) (n count : ℕ) → stack ≡ now ++ i ∷ []
    → new ≡ args ++ i ∷ []
    → (stack ++ reverse args ≡ old) × (length args ≡ n) × (count ≤ length stack + n)
    → (now ++ reverse new ≡ old) × (length new ≡ n + 1) × (count ≤ length now + (n + 1))
last_taken stack now args new old i n count left taken h =
    let kept =
    ap (λ l. now ++ reverse l) taken ∙ ap (λ l. now ++ l) (reverse-append args (i ∷ []))
    ∙ sym (append_assoc now (i ∷ []) (reverse args)) ∙ ap (λ l. l ++ reverse args) (sym left) ∙ h.0 in (
      kept,
      omega (arith, h.1, ap length taken, length-append args (i ∷ [])),
      omega (arith, h.2, ap length left, length-append now (i ∷ [])),
    )

-- some of the trees wait, and the others are gathered
pub record Waits (is : List Item) (g : Gathered) (ts : List Tree) : Type 0 where
  pub waiting : List Tree
  pub done : List Tree
  pub whole : ts ≡ waiting ++ done
  pub items : AreItems is waiting
  pub gathered : IsGathered g (reverse done)

-- the last of the trees that wait is gathered, and those before it wait
pub waits_next : (is : List Item) (i : Item) (g new : Gathered) (ts : List Tree) → Waits (is ++ i ∷ []) g ts
    → ((us : List Tree) (t : Tree) → IsGathered g us → IsItem i t → IsGathered new (us ++ t ∷ [])) → Waits is new ts
waits_next is i g new ts w more =
    let p = parted is i w.waiting w.items in
    record {
      waiting = p.front;
      done = p.last ∷ w.done;
      whole = w.whole ∙ ap (λ l. l ++ w.done) p.whole ∙ append_assoc p.front (p.last ∷ []) w.done;
      items = p.items;
      gathered =
          subst (IsGathered new) (sym (reverse-append (p.last ∷ []) w.done))
          (more (reverse w.done) p.last w.gathered p.item);
    }

abbrev none_of : (T : Type 0) → Option T
none_of T = None

-- what is so of a thing is so of what an answer has that holds it
pub for_some : {T : Type 0} (x : T) (P : T → Type 0) → P x → ForSome (Some x) P
for_some x P p y e = subst P (same_Some x y e) p

-- an answer that holds nothing has no thing that could fail
pub for_none : {T : Type 0} (P : T → Type 0) → ForSome (none_of T) P
for_none P y e = absurd (none-some y e)

-- an answer that holds a thing isn't empty
pub some_gone : {T : Type 0} (x : T) (P : Type 0) → Some x ≡ none_of T → P
some_gone x P e = absurd (none-some x (sym e))
