-- Marks in a row: the nodes wanted, and then what they are made of.
use Rattle.std.proofs.Common.{◌≡◌, ℕ, ◌+◌, ◌<◌, ◌≤◌, min, max, ◌≢◌, List, [], ◌∷◌, length, get_or, take, set, sym, refl, ap, ◌∙◌, subst, ⊎_elim, arith, length-set}
use Rattle.std.specs.List.{AllByRecursion}
use Rattle.std.proofs.lemmas.List.{get_or-set_same, get_or-set_other, get_or_past}
use Rattle.std.proofs.ByRecursion.{All-weaker, All-more}
use Rattle.std.proofs.lemmas.List.Sums.{fold_more}
use Rattle.std.proofs.lemmas.Bool.{cases_lt, cases_eq}
use Rattle.formulas.specs.declared.node.Node.{Node}
use Rattle.claims.specs.Rows.{Mark, marked, lowest, parts, no_node, Parted, Spread}

-- a place that holds something else than 0 is within the row
inside : (row : List ℕ) (k v : ℕ) → get_or row k 0 ≡ v → 0 < v → k < length row
inside row k v e h = ⊎_elim (λ l. l) (λ ge. absurd (let z = get_or_past row k 0 ge in omega arith)) (cases_lt k (length row))

set_stays : (row : List ℕ) (p k : ℕ) → Mark row k → Mark (set row p 2) k
set_stays row p k m =
    ⊎_elim
    (λ e. subst (λ q. Mark (set row q 2) k) e (get_or-set_same row k 2 0 (inside row k 2 m (omega arith))))
    (λ ne. get_or-set_other row p k 2 0 ne ∙ m)
    (cases_eq k p)

marked-stays : (ks row : List ℕ) (k : ℕ) → Mark row k → Mark (marked row ks) k
marked-stays [] row k m = m
marked-stays (p ∷ ks) row k m = marked-stays ks (set row p 2) k (set_stays row p k m)

pub marked_all : (ks row : List ℕ) → AllByRecursion (λ p. p < length row) ks → AllByRecursion (Mark (marked row ks)) ks
marked_all [] row a = tt
marked_all (p ∷ ks) row a = (
  marked-stays ks (set row p 2) p (get_or-set_same row p 2 0 a.0),
  marked_all ks (set row p 2) (All-weaker (λ q. q < length row) (λ q. q < length (set row p 2)) (λ q h. omega (arith, length-set row p 2)) ks a.1),
)

pub marked_other : (ks row : List ℕ) (k : ℕ) → AllByRecursion (λ p. k ≢ p) ks → get_or (marked row ks) k 0 ≡ get_or row k 0
marked_other [] row k a = refl
marked_other (p ∷ ks) row k a = marked_other ks (set row p 2) k a.1 ∙ get_or-set_other row p k 2 0 a.0

lowest-le : (ks : List ℕ) (low : ℕ) → lowest low ks ≤ low
lowest-le [] low = omega arith
lowest-le (p ∷ ks) low = omega (arith, lowest-le ks (min low p))

lowest-all : (ks : List ℕ) (low : ℕ) → AllByRecursion (λ p. lowest low ks ≤ p) ks
lowest-all [] low = tt
lowest-all (p ∷ ks) low = (omega (arith, lowest-le ks (min low p)), lowest-all ks (min low p))

-- one node more is marked
module _ (wanted : List ℕ) (i : ℕ) (h : i < length wanted) where
  pub mark-more : (old row : List ℕ) → row ≡ marked old (take i wanted) → set row (get_or wanted i 0) 2 ≡ marked old (take (i + 1) wanted)
  mark-more old row e = ap (λ r. set r (get_or wanted i 0) 2) e ∙ sym (fold_more (λ r k. set r k 2) old wanted i 0 h)

  pub around_more : (low high low' high' : ℕ) → low' ≡ min low (get_or wanted i 0) → high' ≡ max high (get_or wanted i 0 + 1) → AllByRecursion (λ d. (low ≤ d) × (d < high)) (take i wanted) → AllByRecursion (λ d. (low' ≤ d) × (d < high')) (take (i + 1) wanted)
  around_more low high low' high' e f all =
      All-more (λ d. (low' ≤ d) × (d < high')) wanted i 0 h
      (All-weaker (λ d. (low ≤ d) × (d < high)) (λ d. (low' ≤ d) × (d < high')) (λ d a. (omega (arith, a.0), omega (arith, a.1))) (take i wanted) all)
      (omega arith, omega arith)

-- node i is passed on the way down
module _ (ns : List Node) (parted : Parted ns) (start low high i j : ℕ) (old row : List ℕ) (s : Spread ns j start low high old row) (e : j ≡ i + 1) (h : i < high) (hn : high ≤ length ns) where
  pub spread_on : (low' : ℕ) (row' : List ℕ) → high ≤ length row → low' ≡ lowest low (parts (get_or ns i no_node)) → row' ≡ marked row (parts (get_or ns i no_node)) → Spread ns i start low' high old row'
  spread_on low' row' hl el er =
      let ps = parts (get_or ns i no_node) in
      let Low : ℕ → Type 0 = λ n. Spread ns i start n high old row' in
      let Row : List ℕ → Type 0 = λ r. Spread ns i start (lowest low ps) high old r in
      let small = parted i (omega arith) in
      let here = marked_all ps row (All-weaker (λ p. p < i) (λ p. p < length row) (λ p l. omega arith) ps small) in
      let past : (k : ℕ) → i ≤ k → get_or (marked row ps) k 0 ≡ get_or row k 0 = λ k l. marked_other ps row k (All-weaker (λ p. p < i) (λ p. k ≢ p) (λ p u. omega arith) ps small) in
      let before : (k : ℕ) → k < lowest low ps → get_or (marked row ps) k 0 ≡ get_or row k 0 = λ k l. marked_other ps row k (All-weaker (λ p. lowest low ps ≤ p) (λ p. k ≢ p) (λ p u. omega arith) ps (lowest-all ps low)) in
      subst Low (sym el) (subst Row (sym er) (record {
        lower = omega (arith, s.lower, lowest-le ps low);
        stays = λ k m. marked-stays ps row k (s.stays k m);
        closed = λ k l u m. ⊎_elim (λ e. subst (λ q. AllByRecursion (Mark (marked row ps)) (parts (get_or ns q no_node))) (sym e) here) (λ ne. All-weaker (Mark row) (Mark (marked row ps)) (λ p v. marked-stays ps row p v) (parts (get_or ns k no_node)) (s.closed k (omega arith) u (sym (past k l) ∙ m))) (cases_eq k i);
        below = λ k l. before k l ∙ s.below k (omega (arith, lowest-le ps low));
        above = λ k l. past k (omega arith) ∙ s.above k l;
      }))
