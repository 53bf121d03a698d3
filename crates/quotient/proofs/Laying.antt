-- Tables that are filled, entry after entry and line after line.
use Rattle.std.proofs.Common.{◌≡◌, ℕ, suc, ◌+◌, ◌<◌, ◌≤◌, true, leb, List, [], ◌∷◌, ◌++◌, map, length, get_or, take, drop, set, sym, refl, ap, ◌∙◌, ap₂, append_assoc, add-zero, arith}
use Rattle.std.specs.List.{range_with_len, flat_map}
use Rattle.std.proofs.lemmas.List.{length-append, length-drop, take-append-drop, take_more_set, drop-set-lt, length-set, map_more, map-append}
use Rattle.std.proofs.lemmas.List.FromFn.{map-range_with_len_more}
use Rattle.std.proofs.lemmas.Bool.{and_parts, leb-true}
use Rattle.std.proofs.iter.runs.Lists.{fold-append}
use Rattle.systems.specs.Piles.{cross}
use Rattle.std.specs.Borrow.{MutBor}
use Rattle.formulas.specs.declared.append.AppendList.{AppendList}
use Rattle.formulas.specs.declared.node.Node.{Node}
use Rattle.formulas.specs.declared.node.Node.TheVariants.{State, Dist}
use Rattle.formulas.specs.declared.node.StateNode.TheVariants.{Step}
use Rattle.formulas.specs.declared.node.DistNode.TheVariants.{Sum}
use Rattle.formulas.specs.declared.node.Term.{Term}
use Rattle.formulas.specs.Append.{Table, table, Puts, raised}
use Rattle.formulas.specs.Layout.{fills, run, terms_in, alternatives_in, node, node_table, term_table, alternative_table}
use Rattle.formulas.specs.Lines.{Line, constant, both, non, step, sum}
use Rattle.formulas.specs.Stores.{Store}
use Rattle.quotient.specs.declared.write.Lists.{Lists}
use Rattle.quotient.specs.Layings.{appended, extended, SameTable, SameTables, run_between, next_node, lay, lay_all}
use Rattle.formulas.specs.Tables.{slots, takes, fits, over, laid}
use Rattle.quotient.proofs.Countings.{joined-counting_more, cross-more}

abbrev pub stored : Table Node → Table Term → Table ℕ → Store
stored ns ts alts = record { nodes = ns; terms = ts; alternatives = alts }

module _ {X : Type 0} where
  pub put_is : (t u : Table X) (n : ℕ) (x y : X) → x ≡ y → Puts t (x ∷ []) n u → u ≡ appended t y
  put_is t u n x y e p = ap₂ (λ (a : List X) (b : ℕ). record { slots = a; fill = b }) (p.slots ∙ ap (set t.slots t.fill) e) p.fill

  -- entries behind entries
  pub extended-more : (t u v : Table X) (xs ys zs : List X) → u ≡ extended t xs → v ≡ extended u ys → zs ≡ xs ++ ys → v ≡ extended t zs
  extended-more t u v xs ys zs e f g = f ∙ ap (λ w. extended w ys) e ∙ sym (fold-append appended t xs ys) ∙ ap (extended t) (sym g)

  fill-extended : (t : Table X) (xs : List X) → t.fill ≤ 4294967295 → (extended t xs).fill ≡ raised t.fill (length xs)
  fill-extended t [] h = grind arith
  fill-extended t (x ∷ xs) h = fill-extended (appended t x) xs (grind arith) ∙ grind arith

  pub fill-grows : (t u : Table X) (xs : List X) → u ≡ extended t xs → t.fill ≤ 4294967295 → t.fill ≤ u.fill
  fill-grows t u xs f h = let e = ap (λ (w : Table X). w.fill) f ∙ fill-extended t xs h in grind arith

  exact : (t : Table X) (xs : List X) → t.fill + length xs ≤ 4294967295 → (extended t xs).fill ≡ t.fill + length xs
  exact t xs h = let e = fill-extended t xs (omega arith) in grind arith

  -- with room for them, the entries stand where the fill was
  slots-extended : (t : Table X) (xs : List X) → t.fill + length xs ≤ length t.slots → t.fill + length xs ≤ 4294967295 → (extended t xs).slots ≡ take t.fill t.slots ++ (xs ++ drop (t.fill + length xs) t.slots)
  slots-extended t [] room h = sym (ap (λ n. take t.fill t.slots ++ drop n t.slots) (add-zero t.fill) ∙ take-append-drop t.fill t.slots)
  slots-extended t (x ∷ xs) room h =
      let f = t.fill in
      let s = t.slots in
      let next : raised f 1 ≡ f + 1 = grind arith in
      let end : raised f 1 + length xs ≡ f + length (x ∷ xs) = omega (arith, next) in
      slots-extended (appended t x) xs (omega (arith, end, length-set s f x)) (omega (arith, end))
      ∙ ap₂ (λ n k. take n (set s f x) ++ (xs ++ drop k (set s f x))) next end
      ∙ ap₂ (λ a b. a ++ (xs ++ b)) (take_more_set s f x (omega arith)) (drop-set-lt (f + length (x ∷ xs)) s f x (omega arith))
      ∙ append_assoc (take f s) (x ∷ []) (xs ++ drop (f + length (x ∷ xs)) s)

  pub over_from_start : (t u : Table X) (xs : List X) → t.fill ≡ 0 → u ≡ extended t xs → length xs ≤ length t.slots → length xs ≤ 1048576 → u.slots ≡ over xs t.slots
  over_from_start t u xs z e room few =
      ap (λ (w : Table X). w.slots) e
      ∙ slots-extended t xs (omega arith) (omega arith)
      ∙ ap₂ (λ n k. take n t.slots ++ (xs ++ drop k t.slots)) z (omega arith)

-- one entry more, or those of one element
pub put-next : {X : Type 0} (f : ℕ → X) (t u v : Table X) (a k n : ℕ) (x : X) → u ≡ extended t (map f (range_with_len a k)) → x ≡ f (a + k) → Puts u (x ∷ []) n v → v ≡ extended t (map f (range_with_len a (k + 1)))
put-next f t u v a k n x e g p = extended-more t u v (map f (range_with_len a k)) (f (a + k) ∷ []) _ e (put_is u v n x _ g p) (map-range_with_len_more f a k (a + k) refl)

pub put-cross : {X Y Z : Type 0} (f : Y → Z → X) (t u v : Table X) (ys : List Y) (i : ℕ) (d : Y) (zs : List Z) → i < length ys → u ≡ extended t (cross f (take i ys) zs) → v ≡ extended u (map (f (get_or ys i d)) zs) → v ≡ extended t (cross f (take (i + 1) ys) zs)
put-cross f t u v ys i d zs h e g = extended-more t u v (cross f (take i ys) zs) (map (f (get_or ys i d)) zs) _ e g (cross-more f ys i d zs h)

-- lines behind lines
pub lay_more : (s u v : Store) (ls ms ns : List Line) → u ≡ lay_all s ls → v ≡ lay_all u ms → ns ≡ ls ++ ms → v ≡ lay_all s ns
lay_more s u v ls ms ns e f g = f ∙ ap (λ w. lay_all w ms) e ∙ sym (fold-append lay s ls ms) ∙ ap (lay_all s) (sym g)

pub lay-next : (f : ℕ → Line) (s u v : Store) (k : ℕ) → u ≡ lay_all s (map f (range_with_len 0 k)) → v ≡ lay u (f k) → v ≡ lay_all s (map f (range_with_len 0 (k + 1)))
lay-next f s u v k e g = lay_more s u v (map f (range_with_len 0 k)) (f k ∷ []) _ e g (map-range_with_len_more f 0 k k (omega arith))

module _ {X : Type 0} (s u v : Store) where
  pub lay-each : (f : X → Line) (xs : List X) (k : ℕ) (d : X) → k < length xs → u ≡ lay_all s (map f (take k xs)) → v ≡ lay u (f (get_or xs k d)) → v ≡ lay_all s (map f (take (k + 1) xs))
  lay-each f xs k d h e g = lay_more s u v (map f (take k xs)) (f (get_or xs k d) ∷ []) _ e g (map_more f xs k d h)

  pub lay-joined : (f : X → Line) (g : ℕ → List X) (k : ℕ) → u ≡ lay_all s (map f (flat_map g (range_with_len 0 k))) → v ≡ lay_all u (map f (g k)) → v ≡ lay_all s (map f (flat_map g (range_with_len 0 (k + 1))))
  lay-joined f g k e h =
      lay_more s u v (map f (flat_map g (range_with_len 0 k))) (map f (g k)) _ e h (ap (map f) (joined-counting_more g k) ∙ map-append f (flat_map g (range_with_len 0 k)) (g k))

-- the same tables, step after step
same-list : {X : Type 0} (l m n : MutBor (AppendList X)) → SameTable l m → SameTable m n → SameTable l n
same-list l m n a b = (b.0 ∙ a.0, b.1 ∙ a.1)

pub same-on : (l m n : Lists) → SameTables l m → SameTables m n → SameTables l n
same-on l m n a b = (same-list l.nodes m.nodes n.nodes a.0 b.0, same-list l.terms m.terms n.terms a.1 b.1, same-list l.alternatives m.alternatives n.alternatives a.2 b.2)

pub lay_step : (ns ms : Table Node) (ats bs cs : Table ℕ) (a : ℕ) (xs ys : List ℕ) (l : Line) → bs ≡ extended ats xs → cs ≡ extended bs ys → ms ≡ appended ns (State (Step a (run_between ats bs) (run_between bs cs))) → l ≡ step a xs ys → (ts : Table Term) → stored ms ts cs ≡ lay (stored ns ts ats) l
lay_step ns ms ats bs cs a xs ys l e f g h ts =
    ap₂ (λ m c. stored m ts c)
    (g ∙ ap₂ (λ b c. appended ns (State (Step a (run_between ats b) (run_between b c)))) e (f ∙ ap (λ b. extended b ys) e))
    (f ∙ ap (λ b. extended b ys) e ∙ sym (fold-append appended ats xs ys))
    ∙ ap (lay (stored ns ts ats)) (sym h)

-- the three tables of lines
laid-terms : (s : Store) (ls : List Line) → (lay_all s ls).terms ≡ extended s.terms (term_table ls)
laid-terms s [] = refl
laid-terms s (l ∷ ls) = laid-terms (lay s l) ls ∙ sym (fold-append appended s.terms (terms_in l) (term_table ls))

laid-alternatives : (s : Store) (ls : List Line) → (lay_all s ls).alternatives ≡ extended s.alternatives (alternative_table ls)
laid-alternatives s [] = refl
laid-alternatives s (l ∷ ls) = laid-alternatives (lay s l) ls ∙ sym (fold-append appended s.alternatives (alternatives_in l) (alternative_table ls))

run-exact : {X : Type 0} (t : Table X) (xs : List X) → t.fill + length xs ≤ 4294967295 → run_between t (extended t xs) ≡ run t.fill (length xs)
run-exact t xs h = ap (run t.fill) (omega (arith, exact t xs h))

node-is : (s : Store) (l : Line) → s.terms.fill + length (terms_in l) ≤ 4294967295 → s.alternatives.fill + length (alternatives_in l) ≤ 4294967295 → next_node s l ≡ node s.terms.fill s.alternatives.fill l
node-is s (constant σ b) h k = refl
node-is s (both σ i j) h k = refl
node-is s (non σ i) h k = refl
node-is s (step a ms hs) h k =
    let ats = s.alternatives in
    let both = length-append ms hs in
    let first : ats.fill + length ms ≤ 4294967295 = omega arith in
    let middle = exact ats ms first in
    let second : (extended ats ms).fill + length hs ≤ 4294967295 = omega arith in
    ap₂ (λ m n. State (Step a m n)) (run-exact ats ms first) (run-exact (extended ats ms) hs second ∙ ap (λ f. run f (length hs)) middle)
node-is s (sum t ks) h k = ap (λ r. Dist (Sum t r)) (run-exact s.terms ks h)

laid-nodes : (s : Store) (ls : List Line) → s.terms.fill + length (term_table ls) ≤ 4294967295 → s.alternatives.fill + length (alternative_table ls) ≤ 4294967295 → (lay_all s ls).nodes ≡ extended s.nodes (node_table s.terms.fill s.alternatives.fill ls)
laid-nodes s [] h k = refl
laid-nodes s (l ∷ ls) h k =
    let ts = terms_in l in
    let ats = alternatives_in l in
    let lt = length-append ts (term_table ls) in
    let la = length-append ats (alternative_table ls) in
    let ft = exact s.terms ts (omega arith) in
    let fa = exact s.alternatives ats (omega arith) in
    laid-nodes (lay s l) ls (omega arith) (omega arith)
    ∙ ap₂ (λ n rest. extended (appended s.nodes n) rest) (node-is s l (omega arith) (omega arith)) (ap₂ (λ t a. node_table t a ls) ft fa)

length-nodes : (t a : ℕ) (ls : List Line) → length (node_table t a ls) ≡ length ls
length-nodes t a [] = refl
length-nodes t a (l ∷ ls) = ap suc (length-nodes (t + length (terms_in l)) (a + length (alternatives_in l)) ls)

-- three empty tables
abbrev pub starts : List Node → List Term → List ℕ → Store
starts ns ts alts = stored (record { slots = ns; fill = 0 }) (record { slots = ts; fill = 0 }) (record { slots = alts; fill = 0 })

pub starts_are : (n : AppendList Node) (t : AppendList Term) (a : AppendList ℕ) (ns : List Node) (ts : List Term) (alts : List ℕ) → n.slots.now ≡ ns → n.fill ≡ 0 → t.slots.now ≡ ts → t.fill ≡ 0 → a.slots.now ≡ alts → a.fill ≡ 0 → stored (table n) (table t) (table a) ≡ starts ns ts alts
starts_are n t a ns ts alts en fn et ft ea fa = cc

-- a table that takes a need has the room
pub room : (size need : ℕ) → takes size need ≡ true → (need ≤ size) × (need ≤ 1048576)
room size need e = let tests = and_parts (leb need size) (leb need 1048576) e in (leb-true need size tests.0, leb-true need 1048576 tests.1)

-- a table is as long as what is laid over it
over-long : {X : Type 0} (xs old now : List X) → now ≡ over xs old → length xs ≤ length old → length now ≡ length old
over-long xs old now e h = ap length e ∙ omega (arith, length-append xs (drop (length xs) old), length-drop (length xs) old)

-- lines laid into them
module _ (ls : List Line) (ns : List Node) (ts : List Term) (alts : List ℕ) (u : Store) (e : u ≡ lay_all (starts ns ts alts) ls) (fit : fits (fills ls) (slots ns ts alts) ≡ true) where
  node-room : (length ls ≤ length ns) × (length ls ≤ 1048576)
  node-room = room (length ns) (length ls) (and_parts (takes (length ns) (length ls)) _ fit).0

  term-room : (length (term_table ls) ≤ length ts) × (length (term_table ls) ≤ 1048576)
  term-room = room (length ts) (length (term_table ls)) (and_parts (takes (length ts) (length (term_table ls))) (takes (length alts) (length (alternative_table ls))) (and_parts (takes (length ns) (length ls)) _ fit).1).0

  alternative-room : (length (alternative_table ls) ≤ length alts) × (length (alternative_table ls) ≤ 1048576)
  alternative-room = room (length alts) (length (alternative_table ls)) (and_parts (takes (length ts) (length (term_table ls))) (takes (length alts) (length (alternative_table ls))) (and_parts (takes (length ns) (length ls)) _ fit).1).1

  pub laid-over : slots u.nodes.slots u.terms.slots u.alternatives.slots ≡ laid ls (slots ns ts alts)
  laid-over =
      let long = length-nodes 0 0 ls in
      let nodes : u.nodes.slots ≡ over (node_table 0 0 ls) ns =
      over_from_start (record { slots = ns; fill = 0 }) u.nodes (node_table 0 0 ls) refl
      (ap (λ (w : Store). w.nodes) e ∙ laid-nodes (starts ns ts alts) ls (omega (arith, term-room.1)) (omega (arith, alternative-room.1)))
      (omega (arith, node-room.0)) (omega (arith, node-room.1)) in
      let terms : u.terms.slots ≡ over (term_table ls) ts = over_from_start (record { slots = ts; fill = 0 }) u.terms (term_table ls) refl (ap (λ (w : Store). w.terms) e ∙ laid-terms (starts ns ts alts) ls) term-room.0 term-room.1 in
      let alternatives : u.alternatives.slots ≡ over (alternative_table ls) alts = over_from_start (record { slots = alts; fill = 0 }) u.alternatives (alternative_table ls) refl (ap (λ (w : Store). w.alternatives) e ∙ laid-alternatives (starts ns ts alts) ls) alternative-room.0 alternative-room.1 in
      cc

  -- so the tables are as long as before
  pub laid-long : (length u.nodes.slots ≡ length ns) × (length u.terms.slots ≡ length ts) × (length u.alternatives.slots ≡ length alts)
  laid-long = (
    over-long (node_table 0 0 ls) ns u.nodes.slots (ap (λ s. s.nodes) laid-over) (omega (arith, length-nodes 0 0 ls, node-room.0)),
    over-long (term_table ls) ts u.terms.slots (ap (λ s. s.terms) laid-over) term-room.0,
    over-long (alternative_table ls) alts u.alternatives.slots (ap (λ s. s.alternatives) laid-over) alternative-room.0,
  )
