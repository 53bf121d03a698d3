-- What each kind of term adds to the tables.
use Rattle.std.proofs.Common.{◌≡◌, ℕ, ◌+◌, ◌<◌, ◌≤◌, min, Bool, List, [], ◌∷◌, ◌++◌, length, sym, refl, ap, ◌∙◌, subst, append_assoc, append-nil, add-zero, arith, length-append}
use Rattle.arrayvec.specs.ArrayVec.{ArrayVec}
use Rattle.formulas.specs.declared.node.Node.{Node}
use Rattle.formulas.specs.declared.node.Node.TheVariants.{State, Dist}
use Rattle.formulas.specs.declared.node.StateNode.TheVariants.{Step}
use Rattle.formulas.specs.declared.node.DistNode.TheVariants.{Sum}
use Rattle.formulas.specs.declared.node.Term.{Term}
use Rattle.formulas.specs.Append.{capped, raised, Table, Puts}
use Rattle.formulas.specs.Layout.{run, constant_node, both_node, non_node, node_table, term_table, alternative_table}
use Rattle.formulas.specs.Lines.{Sort, state, dist, Line, both, non, step, sum}
use Rattle.formulas.specs.Stores.{Store, extended, added, Small, Counted, Wrote, Factored, Summed, term_count, term_counts, step_count, step_counts}
use Rattle.formulas.specs.Trees.{Tree, leaf, conj, neg, dia, here, at_least, Products, none, product, below, below_products, count, terms, lay, lay_products}
use Rattle.formulas.proofs.Sizes.{term_table-++, alternative_table-++, node_table-++}
use Rattle.formulas.proofs.Pasted.{written-++}

-- counts that have not come to their end
exact : (i n after : ℕ) → capped after ≡ raised i n → after < 4294967295 → after ≡ i + n
exact i n after e h = grind arith

small-before : {s after : Store} {n t a : ℕ} → Counted s n t a after → Small after → Small s
small-before {s} {after} {n} {t} {a} c h =
    let ns = exact s.nodes.fill n after.nodes.fill c.nodes h.nodes in
    let ts = exact s.terms.fill t after.terms.fill c.terms h.terms in
    let alts = exact s.alternatives.fill a after.alternatives.fill c.alternatives h.alternatives in
    let hn = h.nodes in
    let ht = h.terms in
    let ha = h.alternatives in
    record { nodes = omega arith; terms = omega arith; alternatives = omega arith }

counted-then : {s m after : Store} {n t a o u b : ℕ} → Counted s n t a m → Counted m o u b after → Counted s (n + o) (t + u) (a + b) after
counted-then {s} {m} {after} {n} {t} {a} {o} {u} {b} c d =
    record {
      nodes = add s.nodes.fill m.nodes.fill after.nodes.fill n o c.nodes d.nodes;
      terms = add s.terms.fill m.terms.fill after.terms.fill t u c.terms d.terms;
      alternatives = add s.alternatives.fill m.alternatives.fill after.alternatives.fill a b c.alternatives d.alternatives;
    }
  where
    add : (i j k x y : ℕ) → capped j ≡ raised i x → capped k ≡ raised j y → capped k ≡ raised i (x + y)
    add i j k x y e f = grind arith

counted_as : {s after : Store} {n t a o u b : ℕ} → n ≡ o → t ≡ u → a ≡ b → Counted s n t a after → Counted s o u b after
counted_as {s} {after} {n} {t} {a} {o} {u} {b} e f g c =
    record {
      nodes = c.nodes ∙ ap (raised s.nodes.fill) e;
      terms = c.terms ∙ ap (raised s.terms.fill) f;
      alternatives = c.alternatives ∙ ap (raised s.alternatives.fill) g;
    }

pub together : {n o : Table Node} {t u : Table Term} {a b : Table ℕ} → n ≡ o → t ≡ u → a ≡ b → ◌≡◌ {A = Store} (record { nodes = n; terms = t; alternatives = a }) (record { nodes = o; terms = u; alternatives = b })
together e f g = cc

-- lines behind lines
extended-++ : {X : Type 0} (t : Table X) (xs ys : List X) → t.fill ≤ 4294967295 → extended (extended t xs) ys ≡ extended t (xs ++ ys)
extended-++ t xs ys h =
    let s = written-++ xs ys t.slots t.fill h in
    let f : raised (raised t.fill (length xs)) (length ys) ≡ raised t.fill (length (xs ++ ys)) = simp length-append (grind arith) in
    cc

added-++ : (s : Store) (ls ms : List Line) → Small (added s ls) → added (added s ls) ms ≡ added s (ls ++ ms)
added-++ s ls ms h =
    let t = s.terms.fill in
    let a = s.alternatives.fill in
    let hn = h.nodes in
    let ht = h.terms in
    let ha = h.alternatives in
    let et : raised t (length (term_table ls)) ≡ t + length (term_table ls) = grind arith in
    let ea : raised a (length (alternative_table ls)) ≡ a + length (alternative_table ls) = grind arith in
    let ns : extended (extended s.nodes (node_table t a ls)) (node_table (raised t (length (term_table ls))) (raised a (length (alternative_table ls))) ms) ≡ extended s.nodes (node_table t a (ls ++ ms)) =
    extended-++ s.nodes (node_table t a ls) _ (grind arith) ∙ ap (extended s.nodes) (ap (λ n. node_table t a ls ++ node_table n (raised a (length (alternative_table ls))) ms) et ∙ ap (λ n. node_table t a ls ++ node_table (t + length (term_table ls)) n ms) ea ∙ sym (node_table-++ t a ls ms)) in
    let ts : extended (extended s.terms (term_table ls)) (term_table ms) ≡ extended s.terms (term_table (ls ++ ms)) =
    extended-++ s.terms (term_table ls) _ (grind arith) ∙ ap (extended s.terms) (sym (term_table-++ ls ms)) in
    let alts : extended (extended s.alternatives (alternative_table ls)) (alternative_table ms) ≡ extended s.alternatives (alternative_table (ls ++ ms)) =
    extended-++ s.alternatives (alternative_table ls) _ (grind arith) ∙ ap (extended s.alternatives) (sym (alternative_table-++ ls ms)) in
    together ns ts alts

more_added : (s m after : Store) (ls ms : List Line) → Small m → m ≡ added s ls → after ≡ added m ms → after ≡ added s (ls ++ ms)
more_added s m after ls ms h e f = f ∙ ap (λ z. added z ms) e ∙ added-++ s ls ms (subst Small e h)

pub same-table : {X : Type 0} {t u : Table X} → t.slots ≡ u.slots → t.fill ≡ u.fill → t ≡ u
same-table e f = λ i. record { slots = e i; fill = f i }

-- a table without a new entry
unchanged : {X : Type 0} (t : Table X) → t.fill < 4294967295 → t ≡ extended t []
unchanged t h = let e : t.fill ≡ raised t.fill 0 = grind arith in ap (λ n. record { slots = t.slots; fill = n }) e

-- a table with new entries
put : {X : Type 0} {t after : Table X} {xs : List X} {n : ℕ} → Puts t xs n after → after ≡ extended t xs
put p = same-table p.slots p.fill

put-counted : {X : Type 0} {t after : Table X} {xs : List X} {n : ℕ} → Puts t xs n after → capped after.fill ≡ raised t.fill (length xs)
put-counted {t} {after} {xs} p = let e : after.fill ≡ min (t.fill + length xs) 4294967295 = p.fill in grind arith

-- the same node, in another form
pub put_as : {t after : Table Node} {x y : Node} {n : ℕ} → x ≡ y → Puts t (x ∷ []) n after → Puts t (y ∷ []) n after
put_as {t} {after} {n = n} e p = subst (λ z. Puts t (z ∷ []) n after) e p

-- a node without entries
module _ {s : Store} {ns : Table Node} {n : ℕ} where
  plain-counted : {x : Node} → Puts s.nodes (x ∷ []) n ns → Counted s 1 0 0 (record { nodes = ns; terms = s.terms; alternatives = s.alternatives })
  plain-counted p = record { nodes = put-counted p; terms = grind arith; alternatives = grind arith }

  pub leaf-wrote : {σ : Sort} {b : Bool} {x : Node} → x ≡ constant_node σ b → Puts s.nodes (x ∷ []) n ns → Wrote σ s (record { nodes = ns; terms = s.terms; alternatives = s.alternatives }) (leaf b) n
  leaf-wrote e p =
      let c = plain-counted p in
      record {
        counted = counted_as refl refl refl c;
        number = λ h. omega (arith, p.place);
        laid = λ h. let b = small-before c h in together (put p ∙ ap (λ y. extended s.nodes (y ∷ [])) e) (unchanged s.terms b.terms) (unchanged s.alternatives b.alternatives);
      }

  plain-added : {x : Node} (l : Line) → Puts s.nodes (x ∷ []) n ns → Small (record { nodes = ns; terms = s.terms; alternatives = s.alternatives }) → node_table s.terms.fill s.alternatives.fill (l ∷ []) ≡ x ∷ [] → term_table (l ∷ []) ≡ [] → alternative_table (l ∷ []) ≡ [] → record { nodes = ns; terms = s.terms; alternatives = s.alternatives } ≡ added s (l ∷ [])
  plain-added l p h e f g =
      let b = small-before (plain-counted p) h in
      together (put p ∙ ap (extended s.nodes) (sym e)) (unchanged s.terms b.terms ∙ ap (extended s.terms) (sym f)) (unchanged s.alternatives b.alternatives ∙ ap (extended s.alternatives) (sym g))

module _ {σ : Sort} {s m : Store} {x : Tree} {a : ℕ} (w : Wrote σ s m x a) where
  -- where the next tree begins
  next-number : Small m → m.nodes.fill ≡ s.nodes.fill + below x + 1
  next-number h = let e = exact s.nodes.fill (below x + 1) m.nodes.fill w.counted.nodes h.nodes in omega arith

  pub neg-wrote : {ns : Table Node} {n : ℕ} → Puts m.nodes (non_node σ a ∷ []) n ns → Wrote σ s (record { nodes = ns; terms = m.terms; alternatives = m.alternatives }) (neg x) n
  neg-wrote {ns} {n} p =
      let c = plain-counted p in
      record {
        counted = counted_as (omega arith) (omega arith) (omega arith) (counted-then w.counted c);
        number = λ h. let b = small-before c h in omega (arith, p.place, next-number b);
        laid = λ h.
            let b = small-before c h in
            more_added s m _ _ _ b (w.laid b) (plain-added (non σ a) p h refl refl refl) ∙ ap (λ i. added s (lay σ s.nodes.fill x ++ (non σ i ∷ []))) (w.number b);
      }

  pub conj-wrote : {m2 : Store} {y : Tree} {b : ℕ} {ns : Table Node} {n : ℕ} → Wrote σ m m2 y b → Puts m2.nodes (both_node σ a b ∷ []) n ns → Wrote σ s (record { nodes = ns; terms = m2.terms; alternatives = m2.alternatives }) (conj x y) n
  conj-wrote {m2} {y} {b} v p =
      let c = plain-counted p in
      record {
        counted = counted_as (omega arith) (omega arith) (omega arith) (counted-then w.counted (counted-then v.counted c));
        number = λ h.
            let h2 = small-before c h in
            let h1 = small-before v.counted h2 in
            let e = exact m.nodes.fill (below y + 1) m2.nodes.fill v.counted.nodes h2.nodes in
            omega (arith, p.place, next-number h1);
        laid = λ h.
            let h2 = small-before c h in
            let h1 = small-before v.counted h2 in
            let i = s.nodes.fill in
            let j : b ≡ i + below x + 1 + below y = omega (arith, next-number h1, v.number h2) in
            more_added s m _ _ _ h1 (w.laid h1) (more_added m m2 _ _ _ h2 (v.laid h2) (plain-added (both σ a b) p h refl refl refl))
            ∙ ap (λ k. added s (lay σ i x ++ (lay σ k y ++ (both σ a b ∷ [])))) (next-number h1)
            ∙ ap (λ k. added s (lay σ i x ++ (lay σ (i + below x + 1) y ++ (both σ k b ∷ [])))) (w.number h1)
            ∙ ap (λ k. added s (lay σ i x ++ (lay σ (i + below x + 1) y ++ (both σ (i + below x) k ∷ [])))) j;
      }

-- a step with one alternative
abbrev pub stepped : Store → Table Node → Table ℕ → Store
stepped m ns alts = record { nodes = ns; terms = m.terms; alternatives = alts }

module _ {s m : Store} {d : Tree} {b : ℕ} (w : Wrote dist s m d b) {ns : Table Node} {alts : Table ℕ} {n first : ℕ} where
  step-counted : {x : Node} → Puts m.alternatives (b ∷ []) first alts → Puts m.nodes (x ∷ []) n ns → Counted m 1 0 1 (stepped m ns alts)
  step-counted q p = record { nodes = put-counted p; terms = grind arith; alternatives = put-counted q }

  step-wrote : {x : Node} (t : Tree) (l : ℕ → Line) → below t ≡ below d + 1 → term_count t ≡ term_count d → step_count t ≡ step_count d + 1 →
      lay state s.nodes.fill t ≡ lay dist s.nodes.fill d ++ (l (s.nodes.fill + below d) ∷ []) →
      Puts m.alternatives (b ∷ []) first alts → Puts m.nodes (x ∷ []) n ns →
      (Small (stepped m ns alts) → node_table m.terms.fill m.alternatives.fill (l b ∷ []) ≡ x ∷ []) → term_table (l b ∷ []) ≡ [] → alternative_table (l b ∷ []) ≡ b ∷ [] →
      Wrote state s (stepped m ns alts) t n
  step-wrote t l e f g i q p u v z =
      let c = step-counted q p in
      record {
        counted = counted_as (omega arith) (omega arith) (omega arith) (counted-then w.counted c);
        number = λ h. let k = small-before c h in omega (arith, p.place, next-number w k);
        laid = λ h.
            let k = small-before c h in
            more_added s m (stepped m ns alts) _ _ k (w.laid k)
            (together (put p ∙ ap (extended m.nodes) (sym (u h))) (unchanged m.terms k.terms ∙ ap (extended m.terms) (sym v)) (put q ∙ ap (extended m.alternatives) (sym z)))
            ∙ ap (λ y. added s (lay dist s.nodes.fill d ++ (l y ∷ []))) (w.number k)
            ∙ ap (added s) (sym i);
      }

  pub dia-wrote : {action : ℕ} → Puts m.alternatives (b ∷ []) first alts → Puts m.nodes (State (Step action (run first 1) (run alts.fill 0)) ∷ []) n ns → Wrote state s (stepped m ns alts) (dia action d) n
  dia-wrote {action} q p =
      step-wrote (dia action d) (λ y. step action (y ∷ []) []) refl refl refl refl q p
      (λ h. let z : alts.fill ≡ m.alternatives.fill + 1 = exact m.alternatives.fill 1 alts.fill (put-counted q) h.alternatives in
      ap (λ k. State (Step action (run m.alternatives.fill 1) (run k 0)) ∷ []) (sym z)
      ∙ ap (λ k. State (Step action (run k 1) (run alts.fill 0)) ∷ []) (sym q.place))
      refl refl

  pub here-wrote : Puts m.alternatives (b ∷ []) first alts → Puts m.nodes (State (Step 0 (run m.alternatives.fill 0) (run first 1)) ∷ []) n ns → Wrote state s (stepped m ns alts) (here d) n
  here-wrote q p =
      step-wrote (here d) (λ y. step 0 [] (y ∷ [])) refl refl refl refl q p
      (λ h. ap (λ k. State (Step 0 (run m.alternatives.fill 0) (run k 1)) ∷ []) (add-zero m.alternatives.fill ∙ sym q.place))
      refl refl

-- products behind products
abbrev pub joined : Products → Products → Products
joined none ks = ks
joined (product c t ds) ks = product c t (joined ds ks)

below-joined : (ds ks : Products) → below_products (joined ds ks) ≡ below_products ds + below_products ks
below-joined none ks = omega arith
below-joined (product c t ds) ks = omega (arith, below-joined ds ks)

terms-joined : (ds ks : Products) → term_counts (joined ds ks) ≡ term_counts ds + term_counts ks
terms-joined none ks = omega arith
terms-joined (product c t ds) ks = omega (arith, terms-joined ds ks)

steps_joined : (ds ks : Products) → step_counts (joined ds ks) ≡ step_counts ds + step_counts ks
steps_joined none ks = omega arith
steps_joined (product c t ds) ks = omega (arith, steps_joined ds ks)

count-joined : (ds ks : Products) → count (joined ds ks) ≡ count ds + count ks
count-joined none ks = omega arith
count-joined (product c t ds) ks = omega (arith, count-joined ds ks)

list_joined : (n : ℕ) (ds ks : Products) → terms n (joined ds ks) ≡ terms n ds ++ terms (n + below_products ds) ks
list_joined n none ks = ap (λ k. terms k ks) (sym (add-zero n))
list_joined n (product c t ds) ks =
    ap (λ l. record { coefficient = c; node = n + below t } ∷ l)
    (list_joined (n + below t + 1) ds ks ∙ ap (λ k. terms (n + below t + 1) ds ++ terms k ks) (omega arith))

lay-joined : (n : ℕ) (ds ks : Products) → lay_products n (joined ds ks) ≡ lay_products n ds ++ lay_products (n + below_products ds) ks
lay-joined n none ks = ap (λ k. lay_products k ks) (sym (add-zero n))
lay-joined n (product c t ds) ks =
    ap (λ l. lay state n t ++ l) (lay-joined (n + below t + 1) ds ks ∙ ap (λ k. lay_products (n + below t + 1) ds ++ lay_products k ks) (omega arith))
    ∙ sym (append_assoc (lay state n t) (lay_products (n + below t + 1) ds) (lay_products (n + (below t + 1 + below_products ds)) ks))

pub joined_none : (ds : Products) → joined ds none ≡ ds
joined_none none = refl
joined_none (product c t ds) = ap (product c t) (joined_none ds)

pub joined-joined : (ds : Products) (c : ℕ) (t : Tree) (ks : Products) → joined (joined ds (product c t none)) ks ≡ joined ds (product c t ks)
joined-joined none c t ks = refl
joined-joined (product d u ds) c t ks = ap (product d u) (joined-joined ds c t ks)

-- no products yet
pub none_summed : {s : Store} {xs : ArrayVec Term} → xs.items ≡ [] → Summed s s none xs
none_summed {s} {xs} z =
    record {
      counted = record { nodes = grind arith; terms = grind arith; alternatives = grind arith };
      many = ap length z;
      few = let n : length xs.items ≡ 0 = ap length z in omega arith;
      found = λ h. z;
      laid = λ h. together (unchanged s.nodes h.nodes) (unchanged s.terms h.terms) (unchanged s.alternatives h.alternatives);
    }

-- one product more
pub one_summed : {s m after : Store} {ds : Products} {xs ys : ArrayVec Term} {left : ℕ} {k : ℕ × Tree} {x : Term} → Summed s m ds xs → Factored left m after k x → length xs.items < 8 → ys.items ≡ xs.items ++ (x ∷ []) →
    Summed s after (joined ds (product k.0 k.1 none)) ys
one_summed {s} {m} {after} {ds} {xs} {ys} {left} {k} {x} q w lt f =
    let one = product k.0 k.1 none in
    let i = s.nodes.fill in
    let next : Small m → m.nodes.fill ≡ i + below_products ds = λ h. exact i (below_products ds) m.nodes.fill q.counted.nodes h.nodes in
    record {
      counted =
          counted_as (omega (arith, below-joined ds one)) (omega (arith, terms-joined ds one)) (omega (arith, steps_joined ds one))
          (counted-then q.counted w.wrote.counted);
      many = ap length f ∙ simp length-append (omega (arith, q.many, count-joined ds one));
      few = let n : length ys.items ≡ length xs.items + 1 = ap length f ∙ simp length-append refl in omega arith;
      found = λ h.
          let b = small-before w.wrote.counted h in
          let number : x.node ≡ i + below_products ds + below k.1 = omega (arith, w.wrote.number h, next b) in
          f ∙ ap (λ l. l ++ (x ∷ [])) (q.found b)
          ∙ ap (λ y. terms i ds ++ (y ∷ [])) (same-term w.coefficient number)
          ∙ sym (list_joined i ds one);
      laid = λ h.
          let b = small-before w.wrote.counted h in
          more_added s m after _ _ b (q.laid b) (w.wrote.laid h)
          ∙ ap (λ j. added s (lay_products i ds ++ lay state j k.1)) (next b)
          ∙ ap (λ l. added s (lay_products i ds ++ l)) (sym (append-nil (lay state (i + below_products ds) k.1)))
          ∙ ap (added s) (sym (lay-joined i ds one));
    }
  where
    same-term : {x : Term} {c n : ℕ} → x.coefficient ≡ c → x.node ≡ n → x ≡ record { coefficient = c; node = n }
    same-term a b = λ j. record { coefficient = a j; node = b j }

-- a sum and its terms, l
pub at_least_wrote : {s m : Store} {ks : Products} {xs : ArrayVec Term} {l : List Term} {t n first : ℕ} {ns : Table Node} {ts : Table Term} → Summed s m ks xs → l ≡ xs.items →
    Puts m.terms l first ts → Puts m.nodes (Dist (Sum t (run first (length l))) ∷ []) n ns →
    Wrote dist s (record { nodes = ns; terms = ts; alternatives = m.alternatives }) (at_least ks t) n
at_least_wrote {s} {m} {ks} {xs} {l} {t} {n} {first} {ns} {ts} q e puts p =
    let c : Counted m 1 (count ks) 0 (record { nodes = ns; terms = ts; alternatives = m.alternatives }) =
    record { nodes = put-counted p; terms = put-counted puts ∙ ap (raised m.terms.fill) (ap length e ∙ q.many); alternatives = grind arith } in
    record {
      counted = counted_as (omega arith) (omega arith) (omega arith) (counted-then q.counted c);
      number = λ h. let b = small-before c h in omega (arith, p.place, exact s.nodes.fill (below_products ks) m.nodes.fill q.counted.nodes b.nodes);
      laid = λ h.
          let b = small-before c h in
          more_added s m _ _ (sum t l ∷ []) b (q.laid b)
          (together (put p ∙ ap (λ k. extended m.nodes (Dist (Sum t (run k (length l))) ∷ [])) puts.place) (put puts ∙ ap (extended m.terms) (sym (append-nil l))) (unchanged m.alternatives b.alternatives))
          ∙ ap (λ y. added s (lay_products s.nodes.fill ks ++ (sum t y ∷ []))) (e ∙ q.found b);
    }
