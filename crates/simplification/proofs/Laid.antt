-- Lines laid out in tables: where each stands, and how it is read back.
use Rattle.std.proofs.Common.{◌≡◌, ℕ, zero, suc, ◌+◌, ◌<◌, ◌≤◌, Bool, true, false, cond, List, [], ◌∷◌, ◌++◌, map, length, get_or, take, drop, set, sym, refl, ap, ◌∙◌, ap₂, le_of_suc-le-suc, not-suc-le-zero, arith}
use Rattle.std.specs.List.{AllByRecursion}
use Rattle.std.proofs.lemmas.List.{append_assoc, append-nil, length-append, take_at, take-take, drop_at, drop-drop, drop-take}
use Rattle.std.proofs.ByRecursion.{All-append, All-map}
use Rattle.formulas.specs.declared.node.Node.{Node}
use Rattle.formulas.specs.declared.node.Term.{Term}
use Rattle.formulas.specs.Lines.{state, dist, Line, constant, both, non, step, sum, part, line}
use Rattle.formulas.specs.Layout.{node, node_table, term_table, alternative_table, terms_in, alternatives_in}
use Rattle.formulas.specs.Right.{Below, Formed}
use Rattle.formulas.specs.Tables.{Slots, slots, over, laid}
use Rattle.formulas.specs.WellFormed.{line_at}
use Rattle.simplification.specs.Simplify.{tone, parts, renumber, compact}
use Rattle.simplification.proofs.Lists.{all-front, all_back, all_of_map}
use Rattle.simplification.specs.Moving.{put, LaidAt}
use Rattle.simplification.proofs.Outcomes.{Ordered}
use Rattle.simplification.proofs.Puts.{over_set, over-more}

-- a table that is made of the entries of each line in turn
module _ {X : Type 0} (f : Line → List X) (F : List Line → List X) (nil : F [] ≡ []) (cons : (l : Line) (ls : List Line) → F (l ∷ ls) ≡ f l ++ F ls) where
  table-append : (xs ys : List Line) → F (xs ++ ys) ≡ F xs ++ F ys
  table-append [] ys = ap (λ (r : List X). r ++ F ys) (sym nil)
  table-append (x ∷ xs) ys =
      cons x (xs ++ ys) ∙ (ap (λ r. f x ++ r) (table-append xs ys) ∙ (sym (append_assoc (f x) (F xs) (F ys)) ∙ ap (λ r. r ++ F ys) (sym (cons x xs))))

  table_push : (ls : List Line) (l : Line) → F (ls ++ (l ∷ [])) ≡ F ls ++ f l
  table_push ls l = table-append ls (l ∷ []) ∙ ap (λ r. F ls ++ r) (cons l [] ∙ (ap (λ r. f l ++ r) nil ∙ append-nil (f l)))

  -- the entries of line i follow those of the lines before it
  pub table_at : (ls : List Line) (i : ℕ) (rest : List X) → i < length ls
      → part (F ls ++ rest) (length (F (take i ls))) (length (f (line_at ls i))) ≡ f (line_at ls i)
  table_at [] i rest h = absurd (not-suc-le-zero h)
  table_at (l ∷ ls) zero rest h =
      ap₂ (λ (n : ℕ) (r : List X). take (length (f l)) (drop n (r ++ rest))) (ap length nil) (cons l ls)
      ∙ (ap (take (length (f l))) (append_assoc (f l) (F ls) rest) ∙ take_at (f l) (F ls ++ rest) (length (f l)) refl)
  table_at (l ∷ ls) (suc i) rest h =
      let n = length (f (line_at ls i)) in
      let k = length (F (take i ls)) in
      ap₂ (λ (m : ℕ) (r : List X). take n (drop m r)) (ap length (cons l (take i ls)) ∙ length-append (f l) (F (take i ls))) (ap (λ r. r ++ rest) (cons l ls) ∙ append_assoc (f l) (F ls) rest)
      ∙ (ap (take n) (sym (drop-drop k (length (f l)) (f l ++ (F ls ++ rest))) ∙ ap (drop k) (drop_at (f l) (F ls ++ rest) (length (f l)) refl))
      ∙ table_at ls i rest (le_of_suc-le-suc h))

  pub table-within : (ls : List Line) (i : ℕ) → i < length ls → length (F (take i ls)) + length (f (line_at ls i)) ≤ length (F ls)
  table-within [] i h = absurd (not-suc-le-zero h)
  table-within (l ∷ ls) zero h = omega (arith, ap length nil, ap length (cons l ls), length-append (f l) (F ls))
  table-within (l ∷ ls) (suc i) h =
      omega (arith, table-within ls i (le_of_suc-le-suc h), ap length (cons l (take i ls)), length-append (f l) (F (take i ls)), ap length (cons l ls), length-append (f l) (F ls))

  pub table-shorter : (g : Line → Line) → ((l : Line) → length (f (g l)) ≤ length (f l)) → (ls : List Line) → length (F (map g ls)) ≤ length (F ls)
  table-shorter g h [] = omega arith
  table-shorter g h (l ∷ ls) =
      omega (arith, h l, table-shorter g h ls, ap length (cons (g l) (map g ls)), length-append (f (g l)) (F (map g ls)), ap length (cons l ls), length-append (f l) (F ls))

  pub table-compact : (keep : ℕ → Bool) (g : ℕ → ℕ) → ((l : Line) → length (f (renumber g l)) ≡ length (f l)) → (k : ℕ) (ls : List Line)
      → length (F (compact keep g k ls)) ≤ length (F ls)
  table-compact keep g same k [] = omega arith
  table-compact keep g same k (l ∷ ls) = go (keep k) (table-compact keep g same (suc k) ls)
    where
      rest : List Line
      rest = compact keep g (suc k) ls

      go : (b : Bool) → length (F rest) ≤ length (F ls) → length (F (cond b (renumber g l ∷ rest) rest)) ≤ length (F (l ∷ ls))
      go true h =
          omega (arith, same l, ap length (cons (renumber g l) rest), length-append (f (renumber g l)) (F rest), ap length (cons l ls), length-append (f l) (F ls))
      go false h = omega (arith, ap length (cons l ls), length-append (f l) (F ls))

pub length-nodes : (t a : ℕ) (ls : List Line) → length (node_table t a ls) ≡ length ls
length-nodes t a [] = refl
length-nodes t a (l ∷ ls) = ap suc (length-nodes (t + length (terms_in l)) (a + length (alternatives_in l)) ls)

nodes_push : (t a T A : ℕ) (ls : List Line) (l : Line) → T ≡ t + length (term_table ls) → A ≡ a + length (alternative_table ls)
    → node_table t a (ls ++ (l ∷ [])) ≡ node_table t a ls ++ (node T A l ∷ [])
nodes_push t a T A [] l p q =
    let x : t ≡ T = omega arith in
    let y : a ≡ A = omega arith in
    ap₂ (λ (u v : ℕ). node u v l ∷ []) x y
nodes_push t a T A (x ∷ ls) l p q =
    ap (λ r. node t a x ∷ r)
    (nodes_push (t + length (terms_in x)) (a + length (alternatives_in x)) T A ls l
    (omega (arith, p, length-append (terms_in x) (term_table ls))) (omega (arith, q, length-append (alternatives_in x) (alternative_table ls))))

pub node_at : (t a T A : ℕ) (ls : List Line) (i : ℕ) (d : Node) → i < length ls → T ≡ t + length (term_table (take i ls)) → A ≡ a + length (alternative_table (take i ls))
    → get_or (node_table t a ls) i d ≡ node T A (line_at ls i)
node_at t a T A [] i d h p q = absurd (not-suc-le-zero h)
node_at t a T A (l ∷ ls) zero d h p q =
    let x : t ≡ T = omega arith in
    let y : a ≡ A = omega arith in
    ap₂ (λ (u v : ℕ). node u v l) x y
node_at t a T A (l ∷ ls) (suc i) d h p q =
    node_at (t + length (terms_in l)) (a + length (alternatives_in l)) T A ls i d (le_of_suc-le-suc h)
    (omega (arith, p, length-append (terms_in l) (term_table (take i ls)))) (omega (arith, q, length-append (alternatives_in l) (alternative_table (take i ls))))

-- lines laid over the front of the tables old, up to the places t and a
pub record AtFront (old : Slots) (ls : List Line) (s : Slots) (t a : ℕ) : Type 0 where
  pub tables : s ≡ laid ls old
  pub term : t ≡ length (term_table ls)
  pub alternative : a ≡ length (alternative_table ls)

pub front_none : (s : Slots) → AtFront s [] s 0 0
front_none s = record { tables = refl; term = refl; alternative = refl }

-- one line more
pub front_push : (old : Slots) (ls : List Line) (l l' : Line) (w t a : ℕ) (s s' : Slots) (n : Node) (t' a' : ℕ) → AtFront old ls s t a → length ls ≡ w → w < length old.nodes
    → l' ≡ l → s'.nodes ≡ set s.nodes w n → LaidAt l' t a s.terms s.alternatives n t' a' s'.terms s'.alternatives
    → AtFront old (ls ++ (l ∷ [])) s' t' a'
front_push old ls l l' w t a s s' n t' a' F lw h same ns L =
    let S = F.tables in
    let count : length (node_table 0 0 ls) ≡ w = length-nodes 0 0 ls ∙ lw in
    let terms-push : term_table ls ++ terms_in l ≡ term_table (ls ++ (l ∷ [])) = sym (table_push terms_in term_table refl (λ x xs. refl) ls l) in
    let alternatives-push : alternative_table ls ++ alternatives_in l ≡ alternative_table (ls ++ (l ∷ [])) = sym (table_push alternatives_in alternative_table refl (λ x xs. refl) ls l) in
    let nodes : s'.nodes ≡ over (node_table 0 0 (ls ++ (l ∷ []))) old.nodes =
    ns
    ∙ (ap (set s.nodes w) (L.is ∙ ap (node t a) same)
    ∙ (ap₂ (λ (x : Slots) (k : ℕ). set x.nodes k (node t a l)) S (sym count)
    ∙ (over_set (node_table 0 0 ls) old.nodes (node t a l) (omega (arith, count))
    ∙ ap (λ xs. over xs old.nodes) (sym (nodes_push 0 0 t a ls l (omega (arith, F.term)) (omega (arith, F.alternative))))))) in
    let terms : s'.terms ≡ over (term_table (ls ++ (l ∷ []))) old.terms =
    L.terms
    ∙ (ap₂ (λ (x : Slots) (y : Line). put t (terms_in y) x.terms) S same
    ∙ (over-more (term_table ls) (terms_in l) old.terms t F.term ∙ ap (λ xs. over xs old.terms) terms-push)) in
    let alternatives : s'.alternatives ≡ over (alternative_table (ls ++ (l ∷ []))) old.alternatives =
    L.alternatives
    ∙ (ap₂ (λ (x : Slots) (y : Line). put a (alternatives_in y) x.alternatives) S same
    ∙ (over-more (alternative_table ls) (alternatives_in l) old.alternatives a F.alternative ∙ ap (λ xs. over xs old.alternatives) alternatives-push)) in
    record {
      tables = λ i. slots (nodes i) (terms i) (alternatives i);
      term = omega (arith, L.term, ap (λ x. length (terms_in x)) same, F.term, ap length terms-push, length-append (term_table ls) (terms_in l));
      alternative =
          omega (arith, L.alternative, ap (λ x. length (alternatives_in x)) same, F.alternative, ap length alternatives-push, length-append (alternative_table ls) (alternatives_in l));
    }

-- a part that is made of two
module _ {X : Type 0} (xs : List X) (p : ℕ) (us vs : List X) (h : part xs p (length (us ++ vs)) ≡ us ++ vs) where
  pub part-front : part xs p (length us) ≡ us
  part-front =
      sym (take-take (length us) (length (us ++ vs)) (drop p xs) (omega (arith, length-append us vs)))
      ∙ (ap (take (length us)) h ∙ take_at us vs (length us) refl)

  pub part-back : part xs (p + length us) (length vs) ≡ vs
  part-back =
      ap (take (length vs)) (sym (drop-drop (length us) p xs))
      ∙ (sym (drop-take (length us) (length vs) (drop p xs))
      ∙ (ap (λ n. drop (length us) (take n (drop p xs))) (sym (length-append us vs)) ∙ (ap (drop (length us)) h ∙ drop_at us vs (length us) refl)))

-- a node is read back as its line
pub line-of_node : (ts : List Term) (alts : List ℕ) (T A : ℕ) (l : Line) → part ts T (length (terms_in l)) ≡ terms_in l
    → part alts A (length (alternatives_in l)) ≡ alternatives_in l → line ts alts (node T A l) ≡ l
line-of_node ts alts T A (constant state true) p q = refl
line-of_node ts alts T A (constant state false) p q = refl
line-of_node ts alts T A (constant dist true) p q = refl
line-of_node ts alts T A (constant dist false) p q = refl
line-of_node ts alts T A (both state i j) p q = refl
line-of_node ts alts T A (both dist i j) p q = refl
line-of_node ts alts T A (non state i) p q = refl
line-of_node ts alts T A (non dist i) p q = refl
line-of_node ts alts T A (step a ms hs) p q = ap₂ (λ (x y : List ℕ). step a x y) (part-front alts A ms hs q) (part-back alts A ms hs q)
line-of_node ts alts T A (sum t ks) p q = ap (sum t) p

-- and has its tone in any tables
pub tone-of_node : (T A : ℕ) (l : Line) → tone (line [] [] (node T A l)) ≡ tone l
tone-of_node T A (constant state true) = refl
tone-of_node T A (constant state false) = refl
tone-of_node T A (constant dist true) = refl
tone-of_node T A (constant dist false) = refl
tone-of_node T A (both state i j) = refl
tone-of_node T A (both dist i j) = refl
tone-of_node T A (non state i) = refl
tone-of_node T A (non dist i) = refl
tone-of_node T A (step a ms hs) = refl
tone-of_node T A (sum t ks) = refl

below_parts : (i : ℕ) (l : Line) → Below i l → AllByRecursion (λ j. j < i) (parts l)
below_parts i (constant σ b) h = tt
below_parts i (both σ j k) h = (h.0, (h.1, tt))
below_parts i (non σ j) h = (h, tt)
below_parts i (step a ms hs) h = All-append (λ j. j < i) ms hs h.0 h.1
below_parts i (sum t ks) h = All-map (λ j. j < i) (λ k. k.node) ks h

pub formed-ordered : (ls : List Line) → Formed ls → Ordered ls
formed-ordered ls f i h = below_parts i (line_at ls i) (f i h)

pub parts_below : (i : ℕ) (l : Line) → AllByRecursion (λ j. j < i) (parts l) → Below i l
parts_below i (constant σ b) h = tt
parts_below i (both σ j k) h = (h.0, h.1.0)
parts_below i (non σ j) h = h.0
parts_below i (step a ms hs) h = (all-front (λ j. j < i) ms hs h, all_back (λ j. j < i) ms hs h)
parts_below i (sum t ks) h = all_of_map (λ j. j < i) (λ k. k.node) ks h
