-- What is laid out for an allowed tree is a formula.
use Rattle.std.proofs.Common.{◌≡◌, ℕ, suc, ◌+◌, ◌-◌, ◌<◌, ◌≤◌, Bool, true, false, eqb, ltb, leb, List, [], ◌∷◌, ◌++◌, length, take, drop, sym, refl, ap, ◌∙◌, subst, zero-add, arith}
use Rattle.std.proofs.lemmas.List.{append_assoc, append-nil, length-append, drop_at, take_at}
use Rattle.std.proofs.lemmas.Bool.{and_from, eq-eqb, le-leb, lt-ltb}
use Rattle.formulas.specs.declared.node.Node.{Node}
use Rattle.formulas.specs.declared.node.Term.{Term}
use Rattle.formulas.specs.Layout.{run, terms_in, alternatives_in, node, node_table, term_table, alternative_table, fills}
use Rattle.formulas.specs.Lines.{Sort, state, dist, Line, constant, both, non, step, sum, sort, part}
use Rattle.formulas.specs.Tables.{Slots, over, laid}
use Rattle.formulas.specs.Spelling.{Allowed}
use Rattle.formulas.specs.Stands.{is_state_node, is_dist_node, below_state, below_dist, run_ok, all_dist, terms_ok, node_ok, terms_of, alternatives_of, walk, stands, formula_in}
use Rattle.formulas.specs.Trees.{Tree, leaf, conj, neg, dia, here, at_least, Products, none, product, OfSort, OfProducts, InRange, InRanges, coefficients, below, below_products, terms, lay, lay_products}

-- node j is of the sort
abbrev Has : List Node → Sort → ℕ → Type 0
Has ns state j = is_state_node ns j ≡ true
Has ns dist j = is_dist_node ns j ≡ true

abbrev before : List Node → Sort → ℕ → ℕ → Bool
before ns state i j = below_state ns i j
before ns dist i j = below_dist ns i j

before_from : (ns : List Node) (σ : Sort) (i j : ℕ) → j < i → Has ns σ j → before ns σ i j ≡ true
before_from ns state i j h k = and_from (ltb j i) (is_state_node ns j) (lt-ltb j i h) k
before_from ns dist i j h k = and_from (ltb j i) (is_dist_node ns j) (lt-ltb j i h) k

-- line number i may stand among the nodes
abbrev LineOk : List Node → ℕ → Line → Type 0
LineOk ns i (constant σ b) = Unit {0}
LineOk ns i (both σ j k) = (before ns σ i j ≡ true) × (before ns σ i k ≡ true)
LineOk ns i (non σ j) = before ns σ i j ≡ true
LineOk ns i (step a ms hs) = (a ≤ 31) × (all_dist ns i (ms ++ hs) ≡ true)
LineOk ns i (sum t ks) = (t ≤ 1000) × (terms_ok ns i 1000 ks ≡ true)

abbrev AllOk : List Node → ℕ → List Line → Type 0
AllOk ns i [] = Unit {0}
AllOk ns i (l ∷ ls) = LineOk ns i l × AllOk ns (i + 1) ls

-- the entries of a run that begins behind others
part_at : {X : Type 0} (all front mid back : List X) (p n : ℕ) → all ≡ front ++ (mid ++ back) → length front ≡ p → length mid ≡ n → part all p n ≡ mid
part_at all front mid back p n e h k =
    ap (λ l. take n (drop p l)) e ∙ ap (λ l. take n l) (drop_at front (mid ++ back) p h) ∙ take_at mid back n k

run_fits : {X : Type 0} (all front mid back : List X) (p n : ℕ) → all ≡ front ++ (mid ++ back) → length front ≡ p → n ≤ length mid → p + n ≤ length all
run_fits all front mid back p n e h k =
    omega (arith, ap length e, length-append front (mid ++ back), length-append mid back)

run-right : (len p n : ℕ) → p + n ≤ len → run_ok len p (run p n) ≡ true
run-right len p n h = and_from (eqb p p) (leb (p + n) len) (eq-eqb p p refl) (le-leb (p + n) len h)

module _ (ns : List Node) (ts : List Term) (alts : List ℕ) where
  node-right : (i t a : ℕ) (l : Line) (tp tq : List Term) (aps aq : List ℕ) → ts ≡ tp ++ (terms_in l ++ tq) → length tp ≡ t
      → alts ≡ aps ++ (alternatives_in l ++ aq) → length aps ≡ a → LineOk ns i l → node_ok ns ts alts 1 i t a (node t a l) ≡ true
  node-right i t a (constant state true) tp tq aps aq et ht ea ha ok = refl
  node-right i t a (constant state false) tp tq aps aq et ht ea ha ok = refl
  node-right i t a (constant dist true) tp tq aps aq et ht ea ha ok = refl
  node-right i t a (constant dist false) tp tq aps aq et ht ea ha ok = refl
  node-right i t a (both state j k) tp tq aps aq et ht ea ha ok = and_from _ _ ok.0 ok.1
  node-right i t a (both dist j k) tp tq aps aq et ht ea ha ok = and_from _ _ ok.0 ok.1
  node-right i t a (non state j) tp tq aps aq et ht ea ha ok = ok
  node-right i t a (non dist j) tp tq aps aq et ht ea ha ok = ok
  node-right i t a (step x ms hs) tp tq aps aq et ht ea ha ok =
      let two = length-append ms hs in
      and_from _ _ (le-leb x 31 ok.0)
      (and_from _ _ (run-right (length alts) a (length ms) (run_fits alts aps (ms ++ hs) aq a (length ms) ea ha (omega arith)))
      (and_from _ _ (run-right (length alts) (a + length ms) (length hs)
      (let f = run_fits alts aps (ms ++ hs) aq a (length (ms ++ hs)) ea ha (omega arith) in omega arith))
      (ap (λ l. all_dist ns i l) (part_at alts aps (ms ++ hs) aq a (length ms + length hs) ea ha two) ∙ ok.1)))
  node-right i t a (sum x ks) tp tq aps aq et ht ea ha ok =
      and_from _ _ (le-leb x 1000 ok.0)
      (and_from _ _ (run-right (length ts) t (length ks) (run_fits ts tp ks tq t (length ks) et ht (omega arith)))
      (ap (λ l. terms_ok ns i 1000 l) (part_at ts tp ks tq t (length ks) et ht refl) ∙ ok.1))

  terms-counted : (t a : ℕ) (l : Line) → terms_of (node t a l) ≡ length (terms_in l)
  terms-counted t a (constant state true) = refl
  terms-counted t a (constant state false) = refl
  terms-counted t a (constant dist true) = refl
  terms-counted t a (constant dist false) = refl
  terms-counted t a (both state j k) = refl
  terms-counted t a (both dist j k) = refl
  terms-counted t a (non state j) = refl
  terms-counted t a (non dist j) = refl
  terms-counted t a (step x ms hs) = refl
  terms-counted t a (sum x ks) = refl

  alternatives-counted : (t a : ℕ) (l : Line) → alternatives_of (node t a l) ≡ length (alternatives_in l)
  alternatives-counted t a (constant state true) = refl
  alternatives-counted t a (constant state false) = refl
  alternatives-counted t a (constant dist true) = refl
  alternatives-counted t a (constant dist false) = refl
  alternatives-counted t a (both state j k) = refl
  alternatives-counted t a (both dist j k) = refl
  alternatives-counted t a (non state j) = refl
  alternatives-counted t a (non dist j) = refl
  alternatives-counted t a (step x ms hs) = sym (length-append ms hs)
  alternatives-counted t a (sum x ks) = refl

  -- lines that may stand are accepted, from any of them on
  walk-right : (ls : List Line) (i t a : ℕ) (tp : List Term) (aps : List ℕ) → ts ≡ tp ++ term_table ls → length tp ≡ t
      → alts ≡ aps ++ alternative_table ls → length aps ≡ a → AllOk ns i ls → walk ns ts alts 1 i t a (node_table t a ls) ≡ true
  walk-right [] i t a tp aps et ht ea ha ok =
      and_from _ _ (eq-eqb t (length ts) (sym ht ∙ sym (ap length (et ∙ append-nil tp)))) (eq-eqb a (length alts) (sym ha ∙ sym (ap length (ea ∙ append-nil aps))))
  walk-right (l ∷ ls) i t a tp aps et ht ea ha ok =
      let m = t + length (terms_in l) in
      let b = a + length (alternatives_in l) in
      let later = walk-right ls (i + 1) m b (tp ++ terms_in l) (aps ++ alternatives_in l)
      (et ∙ sym (append_assoc tp (terms_in l) (term_table ls))) (length-append tp (terms_in l) ∙ ap (λ n. n + length (terms_in l)) ht)
      (ea ∙ sym (append_assoc aps (alternatives_in l) (alternative_table ls))) (length-append aps (alternatives_in l) ∙ ap (λ n. n + length (alternatives_in l)) ha)
      ok.1 in
      and_from _ _ (node-right i t a l tp (term_table ls) aps (alternative_table ls) et ht ea ha ok.0)
      (ap (λ n. walk ns ts alts 1 (i + 1) (t + n) (a + alternatives_of (node t a l)) (node_table m b ls)) (terms-counted t a l)
      ∙ ap (λ n. walk ns ts alts 1 (i + 1) m (a + n) (node_table m b ls)) (alternatives-counted t a l)
      ∙ later)

-- the sort of a node is that of its line
first-has : (t a : ℕ) (l : Line) (ls : List Line) → Has (node_table t a (l ∷ ls)) (sort l) 0
first-has t a (constant state true) ls = refl
first-has t a (constant state false) ls = refl
first-has t a (constant dist true) ls = refl
first-has t a (constant dist false) ls = refl
first-has t a (both state j k) ls = refl
first-has t a (both dist j k) ls = refl
first-has t a (non state j) ls = refl
first-has t a (non dist j) ls = refl
first-has t a (step x ms hs) ls = refl
first-has t a (sum x ks) ls = refl

later_has : (n : Node) (ns : List Node) (σ : Sort) (j : ℕ) → Has ns σ j → Has (n ∷ ns) σ (suc j)
later_has n ns state j h = h
later_has n ns dist j h = h

line-has : (pre : List Line) (t a : ℕ) (l : Line) (post : List Line) → Has (node_table t a (pre ++ (l ∷ post))) (sort l) (length pre)
line-has [] t a l post = first-has t a l post
line-has (k ∷ pre) t a l post =
    later_has (node t a k) (node_table (t + length (terms_in k)) (a + length (alternatives_in k)) (pre ++ (l ∷ post))) (sort l) (length pre) (line-has pre _ _ l post)

-- how many lines a tree has
mutual
  lay-length : (x : Tree) (σ : Sort) (n : ℕ) → length (lay σ n x) ≡ below x + 1
  lay-length (leaf b) σ n = refl
  lay-length (conj x y) σ n =
      omega (
        arith,
        length-append (lay σ n x) (lay σ (n + below x + 1) y ++ (both σ (n + below x) (n + below x + 1 + below y) ∷ [])),
        length-append (lay σ (n + below x + 1) y) (both σ (n + below x) (n + below x + 1 + below y) ∷ []),
        lay-length x σ n,
        lay-length y σ (n + below x + 1),
      )
  lay-length (neg x) σ n = omega (arith, length-append (lay σ n x) (non σ (n + below x) ∷ []), lay-length x σ n)
  lay-length (dia a d) σ n = omega (arith, length-append (lay dist n d) (step a ((n + below d) ∷ []) [] ∷ []), lay-length d dist n)
  lay-length (here d) σ n = omega (arith, length-append (lay dist n d) (step 0 [] ((n + below d) ∷ []) ∷ []), lay-length d dist n)
  lay-length (at_least ks t) σ n = omega (arith, length-append (lay_products n ks) (sum t (terms n ks) ∷ []), lay_products-length ks n)

  lay_products-length : (ks : Products) (n : ℕ) → length (lay_products n ks) ≡ below_products ks
  lay_products-length none n = refl
  lay_products-length (product c s ks) n =
      omega (arith, length-append (lay state n s) (lay_products (n + below s + 1) ks), lay-length s state n, lay_products-length ks (n + below s + 1))

-- the last line of a tree is its own
record Last (σ : Sort) (n : ℕ) (x : Tree) : Type 0 where
  others : List Line
  own : Line
  split : lay σ n x ≡ others ++ (own ∷ [])
  sorted : sort own ≡ σ
  many : length others ≡ below x

last : (x : Tree) (σ : Sort) (n : ℕ) → OfSort σ x → Last σ n x
last (leaf b) σ n h = record { others = []; own = constant σ b; split = refl; sorted = refl; many = refl }
last (conj x y) σ n h = record {
  others = lay σ n x ++ lay σ (n + below x + 1) y;
  own = both σ (n + below x) (n + below x + 1 + below y);
  split = sym (append_assoc (lay σ n x) (lay σ (n + below x + 1) y) (both σ (n + below x) (n + below x + 1 + below y) ∷ []));
  sorted = refl;
  many = omega (arith, length-append (lay σ n x) (lay σ (n + below x + 1) y), lay-length x σ n, lay-length y σ (n + below x + 1));
}
last (neg x) σ n h = record { others = lay σ n x; own = non σ (n + below x); split = refl; sorted = refl; many = lay-length x σ n }
last (dia a d) state n h = record { others = lay dist n d; own = step a ((n + below d) ∷ []) []; split = refl; sorted = refl; many = lay-length d dist n }
last (dia a d) dist n h = absurd h
last (here d) state n h = record { others = lay dist n d; own = step 0 [] ((n + below d) ∷ []); split = refl; sorted = refl; many = lay-length d dist n }
last (here d) dist n h = absurd h
last (at_least ks t) state n h = absurd h
last (at_least ks t) dist n h = record { others = lay_products n ks; own = sum t (terms n ks); split = refl; sorted = refl; many = lay_products-length ks n }

all_append : (ns : List Node) (i j : ℕ) (ks ls : List Line) → j ≡ i + length ks → AllOk ns i ks → AllOk ns j ls → AllOk ns i (ks ++ ls)
all_append ns i j [] ls e h k = subst (λ n. AllOk ns n ls) (let z : j ≡ i = omega arith in z) k
all_append ns i j (l ∷ ks) ls e h k = (h.0, all_append ns (i + 1) j ks ls (omega arith) h.1 k)

module _ (all : List Line) where
  abbrev nodes : List Node
  nodes = node_table 0 0 all

  -- the lines stand in all of them from number n on
  record At (n : ℕ) (ls : List Line) : Type 0 where
    pre : List Line
    post : List Line
    split : all ≡ pre ++ (ls ++ post)
    count : length pre ≡ n

  at_front : (n : ℕ) (ks ls : List Line) → At n (ks ++ ls) → At n ks
  at_front n ks ls h = record { pre = h.pre; post = ls ++ h.post; split = h.split ∙ ap (λ l. h.pre ++ l) (append_assoc ks ls h.post); count = h.count }

  at_back : (n m : ℕ) (ks ls : List Line) → m ≡ n + length ks → At n (ks ++ ls) → At m ls
  at_back n m ks ls e h = record {
    pre = h.pre ++ ks;
    post = h.post;
    split = h.split ∙ ap (λ l. h.pre ++ l) (append_assoc ks ls h.post) ∙ sym (append_assoc h.pre ks (ls ++ h.post));
    count = let c = h.count in omega (arith, length-append h.pre ks);
  }

  at_has : (n : ℕ) (l : Line) → At n (l ∷ []) → Has nodes (sort l) n
  at_has n l h =
      subst (λ ls. Has (node_table 0 0 ls) (sort l) n) (sym h.split)
      (subst (λ m. Has (node_table 0 0 (h.pre ++ (l ∷ h.post))) (sort l) m) h.count (line-has h.pre 0 0 l h.post))

  -- the node of a tree
  own-has : (x : Tree) (σ : Sort) (n : ℕ) → OfSort σ x → At n (lay σ n x) → Has nodes σ (n + below x)
  own-has x σ n s h =
      let l = last x σ n s in
      subst (λ τ. Has nodes τ (n + below x)) l.sorted
      (at_has (n + below x) l.own
      (at_back n (n + below x) l.others (l.own ∷ []) (ap (λ m. n + m) (sym l.many)) (subst (λ ls. At n ls) l.split h)))

  own-before : (x : Tree) (σ : Sort) (n i : ℕ) → OfSort σ x → At n (lay σ n x) → n + below x < i → before nodes σ i (n + below x) ≡ true
  own-before x σ n i s h k = before_from nodes σ i (n + below x) k (own-has x σ n s h)

  terms-right : (ks : Products) (n i left : ℕ) → OfProducts ks → InRanges ks → At n (lay_products n ks) → n + below_products ks ≤ i → coefficients ks ≤ left
      → terms_ok nodes i left (terms n ks) ≡ true
  terms-right none n i left s r h k c = refl
  terms-right (product e x ks) n i left s r h k c =
      and_from _ _
      (and_from _ _ (le-leb 1 e r.0) (and_from _ _ (le-leb e left (omega arith))
      (own-before x state n i s.0 (at_front n (lay state n x) (lay_products (n + below x + 1) ks) h) (omega arith))))
      (terms-right ks (n + below x + 1) i (left - e) s.1 r.2
      (at_back n (n + below x + 1) (lay state n x) (lay_products (n + below x + 1) ks) (omega (arith, lay-length x state n)) h) (omega arith) (omega arith))

  mutual
    lay-right : (x : Tree) (σ : Sort) (n : ℕ) → OfSort σ x → InRange x → At n (lay σ n x) → AllOk nodes n (lay σ n x)
    lay-right (leaf b) σ n s r h = (tt, tt)
    lay-right (conj x y) σ n s r h =
        let m = n + below x + 1 in
        let own = both σ (n + below x) (m + below y) in
        let hx = at_front n (lay σ n x) (lay σ m y ++ (own ∷ [])) h in
        let hr = at_back n m (lay σ n x) (lay σ m y ++ (own ∷ [])) (omega (arith, lay-length x σ n)) h in
        let hy = at_front m (lay σ m y) (own ∷ []) hr in
        let i = m + below y + 1 in
        all_append nodes n m (lay σ n x) (lay σ m y ++ (own ∷ [])) (omega (arith, lay-length x σ n)) (lay-right x σ n s.0 r.0 hx)
        (all_append nodes m i (lay σ m y) (own ∷ []) (omega (arith, lay-length y σ m)) (lay-right y σ m s.1 r.1 hy)
        ((own-before x σ n i s.0 hx (omega arith), own-before y σ m i s.1 hy (omega arith)), tt))
    lay-right (neg x) σ n s r h =
        let own = non σ (n + below x) in
        let hx = at_front n (lay σ n x) (own ∷ []) h in
        let i = n + below x + 1 in
        all_append nodes n i (lay σ n x) (own ∷ []) (omega (arith, lay-length x σ n)) (lay-right x σ n s r hx) (own-before x σ n i s hx (omega arith), tt)
    lay-right (dia a d) state n s r h =
        let own = step a ((n + below d) ∷ []) [] in
        let hx = at_front n (lay dist n d) (own ∷ []) h in
        let i = n + below d + 1 in
        all_append nodes n i (lay dist n d) (own ∷ []) (omega (arith, lay-length d dist n)) (lay-right d dist n s r.1 hx)
        ((r.0, and_from _ _ (own-before d dist n i s hx (omega arith)) refl), tt)
    lay-right (dia a d) dist n s r h = absurd s
    lay-right (here d) state n s r h =
        let own = step 0 [] ((n + below d) ∷ []) in
        let hx = at_front n (lay dist n d) (own ∷ []) h in
        let i = n + below d + 1 in
        all_append nodes n i (lay dist n d) (own ∷ []) (omega (arith, lay-length d dist n)) (lay-right d dist n s r hx)
        ((omega arith, and_from _ _ (own-before d dist n i s hx (omega arith)) refl), tt)
    lay-right (here d) dist n s r h = absurd s
    lay-right (at_least ks t) state n s r h = absurd s
    lay-right (at_least ks t) dist n s r h =
        let own = sum t (terms n ks) in
        let hk = at_front n (lay_products n ks) (own ∷ []) h in
        let i = n + below_products ks in
        all_append nodes n i (lay_products n ks) (own ∷ []) (omega (arith, lay_products-length ks n)) (lay_products-right ks n s r.0 hk)
        ((r.3, terms-right ks n i 1000 s r.0 hk (omega arith) r.2), tt)

    lay_products-right : (ks : Products) (n : ℕ) → OfProducts ks → InRanges ks → At n (lay_products n ks) → AllOk nodes n (lay_products n ks)
    lay_products-right none n s r h = tt
    lay_products-right (product c x ks) n s r h =
        let m = n + below x + 1 in
        all_append nodes n m (lay state n x) (lay_products m ks) (omega (arith, lay-length x state n))
        (lay-right x state n s.0 r.1 (at_front n (lay state n x) (lay_products m ks) h))
        (lay_products-right ks m s.1 r.2 (at_back n m (lay state n x) (lay_products m ks) (omega (arith, lay-length x state n)) h))

pub laid-stands : (t : Tree) → Allowed t
    → stands (node_table 0 0 (lay state 0 t)) (term_table (lay state 0 t)) (alternative_table (lay state 0 t)) (below t) 1 ≡ true
laid-stands t a =
    let ls = lay state 0 t in
    let here-all : At ls 0 ls = record { pre = []; post = []; split = sym (append-nil ls); count = refl } in
    and_from _ _
    (walk-right (node_table 0 0 ls) (term_table ls) (alternative_table ls) ls 0 0 0 [] [] refl refl refl refl (lay-right ls t state 0 a.sorted a.ranged here-all))
    (subst (λ n. is_state_node (node_table 0 0 ls) n ≡ true) (zero-add (below t)) (own-has ls t state 0 a.sorted here-all))

-- entries over the front of a table are its front
over-front : {X : Type 0} (xs old : List X) (n : ℕ) → length xs ≡ n → take n (over xs old) ≡ xs
over-front xs old n h = take_at xs (drop (length xs) old) n h

over-holds : {X : Type 0} (xs old : List X) (n : ℕ) → length xs ≡ n → leb n (length (over xs old)) ≡ true
over-holds xs old n h = le-leb n (length (over xs old)) (omega (arith, length-append xs (drop (length xs) old)))

node_table-length : (ls : List Line) (t a : ℕ) → length (node_table t a ls) ≡ length ls
node_table-length [] t a = refl
node_table-length (l ∷ ls) t a = ap suc (node_table-length ls (t + length (terms_in l)) (a + length (alternatives_in l)))

pub laid_opens : (s : Slots) (t : Tree) → Allowed t
    → formula_in (fills (lay state 0 t)) (below t) 1 (laid (lay state 0 t) s).nodes (laid (lay state 0 t) s).terms (laid (lay state 0 t) s).alternatives ≡ true
laid_opens s t a =
    let ls = lay state 0 t in
    let n = node_table-length ls 0 0 in
    and_from _ _
    (and_from _ _ (over-holds (node_table 0 0 ls) s.nodes (length ls) n)
    (and_from _ _ (over-holds (term_table ls) s.terms (length (term_table ls)) refl)
    (over-holds (alternative_table ls) s.alternatives (length (alternative_table ls)) refl)))
    (ap (λ k. stands k (take (length (term_table ls)) (over (term_table ls) s.terms)) (take (length (alternative_table ls)) (over (alternative_table ls) s.alternatives)) (below t) 1)
    (over-front (node_table 0 0 ls) s.nodes (length ls) n)
    ∙ ap (λ k. stands (node_table 0 0 ls) k (take (length (alternative_table ls)) (over (alternative_table ls) s.alternatives)) (below t) 1)
    (over-front (term_table ls) s.terms (length (term_table ls)) refl)
    ∙ ap (λ k. stands (node_table 0 0 ls) (term_table ls) k (below t) 1)
    (over-front (alternative_table ls) s.alternatives (length (alternative_table ls)) refl)
    ∙ laid-stands t a)
