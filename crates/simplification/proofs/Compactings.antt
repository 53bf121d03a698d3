-- The third pass, node after node.
use Rattle.std.proofs.Common.{◌≡◌, ℕ, ◌+◌, ◌<◌, ◌≤◌, Bool, true, false, cond, List, [], ◌∷◌, ◌++◌, map, length, get_or, take, set, sym, refl, ap, ◌∙◌, subst, ap₂, ⊎_elim, arith}
use mathlib.Core.Bool.{false≢true}
use Rattle.std.specs.List.{AllByRecursion}
use Rattle.std.proofs.lemmas.List.{append-nil, length-map, length_push, get_or-set_same, get_or-set_other}
use Rattle.std.proofs.ByRecursion.{All-weaker}
use Rattle.std.proofs.lemmas.Bool.{eq-eqb, ne_eqb, cases_eq, cases_lt}
use Rattle.formulas.specs.declared.node.Fills.{Fills}
use Rattle.formulas.specs.Lines.{Line, constant, both, non, step, sum, line}
use Rattle.formulas.specs.Layout.{term_table, alternative_table}
use Rattle.formulas.specs.Tables.{Slots, laid}
use Rattle.formulas.specs.WellFormed.{line_at}
use Rattle.simplification.specs.Simplify.{parts, retarget, renumber, rank}
use Rattle.simplification.specs.Tables.{blank_node}
use Rattle.simplification.specs.Packed.{all_lines, Packed}
use Rattle.simplification.specs.Moving.{Fit}
use Rattle.simplification.specs.Compacting.{new_number, is_ticked, KeptAt, GoneAt, compacted}
use Rattle.simplification.proofs.Lists.{all-front, all_back, all_both, all_of_map}
use Rattle.simplification.proofs.Outcomes.{Ordered}
use Rattle.simplification.proofs.Prune.{rank-small}
use Rattle.simplification.proofs.InPlace.{compact_more, compact_so_far}
use Rattle.simplification.proofs.Laid.{formed-ordered, AtFront, front_push}
use Rattle.simplification.proofs.Fewer.{compact-terms, compact-alternatives}
use Rattle.simplification.proofs.Here.{terms-before, alternatives-before, Overlaid, fit-here, line-here}

-- numbers that agree on the parts
map_same : {X Y : Type 0} (f g : X → Y) (xs : List X) → AllByRecursion (λ x. f x ≡ g x) xs → map f xs ≡ map g xs
map_same f g [] h = refl
map_same f g (x ∷ xs) h = ap₂ (λ y ys. y ∷ ys) h.0 (map_same f g xs h.1)

module _ (f g : ℕ → ℕ) where
  renumber-same : (l : Line) → AllByRecursion (λ j. f j ≡ g j) (parts l) → renumber f l ≡ renumber g l
  renumber-same (constant σ b) h = refl
  renumber-same (both σ i j) h = ap₂ (λ (x y : ℕ). both σ x y) h.0 h.1.0
  renumber-same (non σ i) h = ap (non σ) h.0
  renumber-same (step a ms hs) h =
      ap₂ (λ (x y : List ℕ). step a x y) (map_same f g ms (all-front (λ j. f j ≡ g j) ms hs h)) (map_same f g hs (all_back (λ j. f j ≡ g j) ms hs h))
  renumber-same (sum t ks) h =
      ap (sum t) (map_same (retarget f) (retarget g) ks
      (All-weaker (λ k. f k.node ≡ g k.node) (λ k. retarget f k ≡ retarget g k) (λ k e. λ i. record { coefficient = k.coefficient; node = e i }) ks
      (all_of_map (λ j. f j ≡ g j) (λ k. k.node) ks h)))

below_other : (i j : ℕ) → j < i + 1 → (j ≡ i → ⊥) → j < i
below_other i j h n = ⊎_elim (λ (l : j < i). l) (λ (l : i ≤ j). absurd (n (omega arith))) (cases_lt j i)

-- after i lines were looked at: those kept are at the front, the rest is as it was
pub record Compacting (keep : ℕ → Bool) (ls : List Line) (s : Slots) (to : List ℕ) (i : ℕ) (f : Fills) (s' : Slots) (to' : List ℕ) : Type 0 where
  pub front : AtFront s (compacted keep (take i ls)) s' f.terms f.alternatives
  pub count : f.nodes ≡ length (compacted keep (take i ls))
  pub numbered : (j : ℕ) → j < i → keep j ≡ true → get_or to' j 0 ≡ rank keep j
  pub unread : (j : ℕ) → i ≤ j → get_or to' j 0 ≡ get_or to j 0

module _ (s₀ : Slots) (P : Packed s₀) (to₀ : List ℕ)
    (closed : (i : ℕ) → i < length s₀.nodes → is_ticked to₀ i ≡ true → AllByRecursion (λ j. is_ticked to₀ j ≡ true) (parts (line_at (all_lines s₀) i)))
    (i : ℕ) (f : Fills) (s : Slots) (to : List ℕ) (S : Compacting (is_ticked to₀) (all_lines s₀) s₀ to₀ i f s to) (here : i < length s₀.nodes) where
  abbrev ls : List Line
  ls = all_lines s₀

  abbrev keep : ℕ → Bool
  keep = is_ticked to₀

  abbrev front : List Line
  front = compacted keep (take i ls)

  abbrev T : ℕ
  T = terms-before ls i

  abbrev A : ℕ
  A = alternatives-before ls i

  abbrev l : Line
  l = line_at ls i

  h : i < length ls
  h = omega (arith, length-map s₀.nodes (line s₀.terms s₀.alternatives))

  o : Ordered ls
  o = formed-ordered ls P.formed

  ranked : f.nodes ≡ rank keep i
  ranked = S.count ∙ compact_so_far keep (rank keep) ls i (omega (arith, h))

  pub low : f.nodes ≤ i
  low = omega (arith, ranked, rank-small keep i)

  overlaid : Overlaid ls i s₀ front s
  overlaid = record {
    tables = S.front.tables;
    low = omega (arith, S.count, low);
    low_term = compact-terms keep (rank keep) 0 (take i ls);
    low_alternative = compact-alternatives keep (rank keep) 0 (take i ls);
  }

  at-line : line s.terms s.alternatives (get_or s.nodes i blank_node) ≡ l
  at-line = line-here ls s₀ P.laid_out i h front s overlaid

  pub compacting_fits : (n : ℕ) → i ≤ n → Fit (λ d. d < n) s.terms s.alternatives f.terms f.alternatives (get_or s.nodes i blank_node)
  compacting_fits n top =
      fit-here ls s₀ P.laid_out i h front s overlaid (λ d. d < n) (λ j g. omega arith) f.terms f.alternatives
      (omega (arith, S.front.term, overlaid.low_term)) (omega (arith, S.front.alternative, overlaid.low_alternative)) P.few_terms P.few_alternatives (P.formed i h)

  next : (b : Bool) → keep i ≡ b → compacted keep (take (i + 1) ls) ≡ front ++ cond b (renumber (rank keep) l ∷ []) []
  next b e = compact_more keep (rank keep) ls i h ∙ ap (λ (x : Bool). front ++ cond x (renumber (rank keep) l ∷ []) []) e

  pub kept-turn : (f' : Fills) (s' : Slots) (to' : List ℕ) → i < length to → get_or to i 0 ≡ 1 → KeptAt i f s to f' s' to' → Compacting keep ls s₀ to₀ (i + 1) f' s' to'
  kept-turn f' s' to' g tick r =
      let m : Line = renumber (rank keep) l in
      let on : keep i ≡ true = eq-eqb (get_or to₀ i 0) 1 (sym (S.unread i (omega arith)) ∙ tick) in
      let agree : AllByRecursion (λ j. new_number to j ≡ rank keep j) (parts l) =
      All-weaker (λ j. (keep j ≡ true) × (j < i)) (λ j. new_number to j ≡ rank keep j) (λ j q. S.numbered j q.1 q.0) (parts l)
      (all_both (λ j. keep j ≡ true) (λ j. j < i) (parts l) (closed i here on) (o i h)) in
      let now : renumber (new_number to) (line s.terms s.alternatives (get_or s.nodes i blank_node)) ≡ m =
      ap (renumber (new_number to)) at-line ∙ renumber-same (new_number to) (rank keep) l agree in
      let grown : compacted keep (take (i + 1) ls) ≡ front ++ (m ∷ []) = next true on in
      record {
        front =
            subst (λ xs. AtFront s₀ xs s' f'.terms f'.alternatives) (sym grown)
            (front_push s₀ front m (renumber (new_number to) (line s.terms s.alternatives (get_or s.nodes i blank_node))) f.nodes f.terms f.alternatives s s'
            (get_or s'.nodes f.nodes blank_node) f'.terms f'.alternatives S.front (sym S.count) (omega (arith, low, here)) now r.nodes r.laid);
        count = omega (arith, r.count, S.count, ap length grown, length_push front m);
        numbered = λ j q e.
            ⊎_elim
            (λ (z : j ≡ i). ap (λ xs. get_or xs j 0) r.numbers ∙ (ap (λ k. get_or (set to i f.nodes) k 0) z ∙ (get_or-set_same to i f.nodes 0 g ∙ (ranked ∙ ap (rank keep) (sym z)))))
            (λ (z : j ≡ i → ⊥). ap (λ xs. get_or xs j 0) r.numbers ∙ (get_or-set_other to i j f.nodes 0 z ∙ S.numbered j (below_other i j q z) e))
            (cases_eq j i);
        unread = λ j q. ap (λ xs. get_or xs j 0) r.numbers ∙ (get_or-set_other to i j f.nodes 0 (λ z. omega arith) ∙ S.unread j (omega arith));
      }

  pub gone_turn : (f' : Fills) (s' : Slots) (to' : List ℕ) → (get_or to i 0 ≡ 1 → ⊥) → GoneAt f s to f' s' to' → Compacting keep ls s₀ to₀ (i + 1) f' s' to'
  gone_turn f' s' to' tick r =
      let off : keep i ≡ false = ne_eqb (get_or to₀ i 0) 1 (λ z. tick (S.unread i (omega arith) ∙ z)) in
      let same : front ≡ compacted keep (take (i + 1) ls) = sym (next false off ∙ append-nil front) in
      record {
        front = record {
          tables = r.tables ∙ (S.front.tables ∙ ap (λ xs. laid xs s₀) same);
          term = ap (λ (u : Fills). u.terms) r.used ∙ (S.front.term ∙ ap (λ xs. length (term_table xs)) same);
          alternative = ap (λ (u : Fills). u.alternatives) r.used ∙ (S.front.alternative ∙ ap (λ xs. length (alternative_table xs)) same);
        };
        count = ap (λ (u : Fills). u.nodes) r.used ∙ (S.count ∙ ap length same);
        numbered = λ j q e.
            ⊎_elim
            (λ (z : j ≡ i). absurd (false≢true (sym off ∙ (ap keep (sym z) ∙ e))))
            (λ (z : j ≡ i → ⊥). ap (λ xs. get_or xs j 0) r.numbers ∙ S.numbered j (below_other i j q z) e)
            (cases_eq j i);
        unread = λ j q. ap (λ xs. get_or xs j 0) r.numbers ∙ S.unread j (omega arith);
      }
