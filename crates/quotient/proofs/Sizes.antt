-- How many entries a quotient takes.
use Rattle.std.proofs.Common.{◌≡◌, ℕ, ◌+◌, ◌*◌, ◌≤◌, Bool, true, false, List, [], ◌∷◌, ◌++◌, map, length, get_or, drop, sum_by, sym, refl, ap, ◌∙◌, ap₂, mul_comm, mul-zero, arith}
use Rattle.std.specs.List.{range_with_len, flat_map}
use Rattle.std.proofs.lemmas.List.{length-append, length-map, length-drop, length-take-le}
use Rattle.std.proofs.lemmas.List.Sums.{sum_by-cons, sum_by-append}
use Rattle.std.proofs.lemmas.List.FromFn.{length-range_with_len}
use Rattle.systems.specs.Meaning.{Meaning, point}
use Rattle.systems.specs.Piles.{cross}
use Rattle.formulas.specs.declared.node.Node.{Node}
use Rattle.formulas.specs.declared.node.Node.TheVariants.{State, Dist}
use Rattle.formulas.specs.declared.node.StateNode as sn
use Rattle.formulas.specs.declared.node.DistNode as dn
use Rattle.formulas.specs.declared.node.Run.{Run}
use Rattle.formulas.specs.declared.node.Term.{Term}
use Rattle.formulas.specs.Layout.{terms_in, alternatives_in, term_table, alternative_table}
use Rattle.formulas.specs.Lines.{Sort, state, dist, Line, constant, both, non, step, sum, sort, line, lines, entries}
use Rattle.formulas.specs.Right.{Right, AllRight}
use Rattle.quotient.specs.Quotient.{moves_of, rows, move_rows, width, place, places, new_step, new_term, new_line, new_lines, quotient_lines}
use Rattle.quotient.specs.Plans.{width_before, all_targets, step_need, alternative_need}
use Rattle.quotient.proofs.Lists.{length_cross, looked_up, sum_by_map, sum_by_at, sum_by_eq, sum_by_mul}
use Rattle.quotient.proofs.Places.{new-length, quotient-length, point-row}
use Rattle.quotient.proofs.Planning.{no_node}
use Rattle.quotient.proofs.Dividing.{place_at}

abbrev term_count : Line → ℕ
term_count l = length (terms_in l)

abbrev alternative-count : Line → ℕ
alternative-count l = length (alternatives_in l)

count-terms : (ls : List Line) → length (term_table ls) ≡ sum_by term_count ls
count-terms [] = refl
count-terms (l ∷ ls) = length-append (terms_in l) (term_table ls) ∙ ap (λ n. term_count l + n) (count-terms ls) ∙ sym (sum_by-cons term_count l ls)

count-alternatives : (ls : List Line) → length (alternative_table ls) ≡ sum_by alternative-count ls
count-alternatives [] = refl
count-alternatives (l ∷ ls) = length-append (alternatives_in l) (alternative_table ls) ∙ ap (λ n. alternative-count l + n) (count-alternatives ls) ∙ sym (sum_by-cons alternative-count l ls)

sum_by_joined : {X Y : Type 0} (w : Y → ℕ) (f : X → List Y) (xs : List X) → sum_by w (flat_map f xs) ≡ sum_by (λ x. sum_by w (f x)) xs
sum_by_joined w f [] = refl
sum_by_joined w f (x ∷ xs) = sum_by-append w (f x) (flat_map f xs) ∙ ap (λ n. sum_by w (f x) + n) (sum_by_joined w f xs) ∙ sym (sum_by-cons (λ y. sum_by w (f y)) x xs)

length-entries : {X : Type 0} (xs : List X) (r : Run) → r.first + r.count ≤ length xs → length (entries xs r) ≡ r.count
length-entries xs r h = length-take-le r.count (drop r.first xs) (omega (arith, length-drop r.first xs))

module _ (R : Meaning) where
  points_targets : (ps : List ℕ) → sum_by length (map (point R) ps) ≡ length ps
  points_targets [] = refl
  points_targets (p ∷ ps) = omega (arith, sum_by-cons length (point R p) (map (point R) ps), points_targets ps)

  rows_targets : sum_by length (rows R) ≡ all_targets R
  unfolding rows
  rows_targets =
      let ps = range_with_len 0 R.states in
      sum_by-append length (map (point R) ps) (flat_map (moves_of R) ps)
      ∙ ap₂ ◌+◌ (points_targets ps ∙ length-range_with_len 0 R.states) (sum_by_joined length (moves_of R) ps ∙ sum_by_eq ps (λ p. sum_by_joined length (R.moves p) (range_with_len 0 32)))

-- each line gives at least one
module _ (A : ℕ → Bool) (R : Meaning) (some : 1 ≤ R.states) where
  some-width : (σ : Sort) → 1 ≤ width R σ
  some-width state = some
  some-width dist = point-row R 0 some

  at_least : (ls xs : List Line) → length xs ≤ length (flat_map (new_lines A R ls) xs)
  at_least ls [] = omega arith
  at_least ls (l ∷ xs) = omega (arith, length-append (new_lines A R ls l) (flat_map (new_lines A R ls) xs), new-length A R ls l, some-width (sort l), at_least ls xs)

  pub no-fewer : (ls : List Line) → length ls ≤ length (quotient_lines A R ls)
  no-fewer ls = at_least ls ls

pub nodes_needed : (A : ℕ → Bool) (R : Meaning) (n r : ℕ) → n ≡ R.states → r ≡ length (rows R) → (ns : List Node) (ts : List Term) (alts : List ℕ) → length (quotient_lines A R (lines ns ts alts)) ≡ width_before n r ns (length ns)
nodes_needed A R n r en er ns ts alts =
    quotient-length A R (lines ns ts alts) ∙ ap (λ k. place R (lines ns ts alts) k 0) (length-map ns (line ts alts)) ∙ sym (place_at R n r en er ts alts ns (length ns) 0) ∙ omega arith

module _ (A : ℕ → Bool) (R : Meaning) (ls : List Line) where
  -- what each line gives
  none_given : (w : Line → ℕ) (f : ℕ → Line) → ((p : ℕ) → w (f p) ≡ 0) → (ps : List ℕ) → sum_by w (map f ps) ≡ 0
  none_given w f h [] = refl
  none_given w f h (p ∷ ps) = omega (arith, sum_by-cons w (f p) (map f ps), h p, none_given w f h ps)

  no-terms : (b : Bool) (a : ℕ) (ms hs : List ℕ) (p : ℕ) → term_count (new_step b R ls a ms hs p) ≡ 0
  no-terms true a ms hs p = refl
  no-terms false a ms hs p = refl

  terms_given : (l : Line) → sum_by term_count (new_lines A R ls l) ≡ all_targets R * term_count l
  unfolding new_line
  terms_given (constant σ b) = none_given term_count (λ p. constant σ b) (λ p. refl) (range_with_len 0 (width R σ)) ∙ sym (mul-zero (all_targets R))
  terms_given (both σ i j) = none_given term_count (λ p. both σ (place R ls i p) (place R ls j p)) (λ p. refl) (range_with_len 0 (width R σ)) ∙ sym (mul-zero (all_targets R))
  terms_given (non σ i) = none_given term_count (λ p. non σ (place R ls i p)) (λ p. refl) (range_with_len 0 (width R σ)) ∙ sym (mul-zero (all_targets R))
  terms_given (step a ms hs) = none_given term_count (new_step (A a) R ls a ms hs) (no-terms (A a) a ms hs) (range_with_len 0 R.states) ∙ sym (mul-zero (all_targets R))
  terms_given (sum t ks) =
      ap (sum_by term_count) (looked_up (λ mv. sum (t * R.mass) (cross (new_term R ls) ks mv)) [] (rows R))
      ∙ sum_by_map term_count (λ mv. sum (t * R.mass) (cross (new_term R ls) ks mv)) (rows R)
      ∙ sum_by_eq (rows R) (λ mv. length_cross (new_term R ls) ks mv)
      ∙ sum_by_mul (length ks) length (rows R)
      ∙ ap (λ n. length ks * n) (rows_targets R)
      ∙ mul_comm (length ks) (all_targets R)

  pub terms_needed : length (term_table (quotient_lines A R ls)) ≡ length (term_table ls) * all_targets R
  terms_needed =
      count-terms (quotient_lines A R ls)
      ∙ sum_by_joined term_count (new_lines A R ls) ls
      ∙ sum_by_eq ls terms_given
      ∙ sum_by_mul (all_targets R) term_count ls
      ∙ mul_comm (all_targets R) (sum_by term_count ls)
      ∙ ap (λ n. n * all_targets R) (sym (count-terms ls))

  crossed : (a p m h : ℕ) (ms hs : List ℕ) → length ms ≡ m → length hs ≡ h → length (cross (place R ls) ms (move_rows R p a) ++ places R ls hs p) ≡ m * length (R.moves p a) + h
  crossed a p m h ms hs em eh =
      length-append (cross (place R ls) ms (move_rows R p a)) (places R ls hs p)
      ∙ ap₂ ◌+◌ (length_cross (place R ls) ms (move_rows R p a) ∙ ap₂ ◌*◌ em (length-range_with_len _ (length (R.moves p a)))) (length-map hs (λ d. place R ls d p) ∙ eh)

  step-alternatives : (b : Bool) (a p m h : ℕ) (ms hs : List ℕ) → length ms ≡ m → length hs ≡ h → alternative-count (new_step b R ls a ms hs p) ≡ step_need b m h (length (R.moves p a))
  step-alternatives true a p m h ms hs em eh = crossed a p m h ms hs em eh
  step-alternatives false a p m h ms hs em eh =
      length-append (places R ls ms p) (cross (place R ls) ms (move_rows R p a) ++ places R ls hs p)
      ∙ ap₂ ◌+◌ (length-map ms (λ d. place R ls d p) ∙ em) (crossed a p m h ms hs em eh)

  module _ (ts : List Term) (alts : List ℕ) (m i : ℕ) where
    alternatives_given : (n : Node) → Right ts alts m i n → sum_by alternative-count (new_lines A R ls (line ts alts n)) ≡ alternative_need A R n
    unfolding new_line
    alternatives_given (State sn.TheVariants.Yes) h = none_given alternative-count (λ p. constant state true) (λ p. refl) (range_with_len 0 R.states)
    alternatives_given (State sn.TheVariants.No) h = none_given alternative-count (λ p. constant state false) (λ p. refl) (range_with_len 0 R.states)
    alternatives_given (State (sn.TheVariants.And j k)) h = none_given alternative-count (λ p. both state (place R ls j p) (place R ls k p)) (λ p. refl) (range_with_len 0 R.states)
    alternatives_given (State (sn.TheVariants.Not j)) h = none_given alternative-count (λ p. non state (place R ls j p)) (λ p. refl) (range_with_len 0 R.states)
    alternatives_given (State (sn.TheVariants.Step a ms hs)) h =
        sum_by_map alternative-count (new_step (A a) R ls a (entries alts ms) (entries alts hs)) (range_with_len 0 R.states)
        ∙ sum_by_eq (range_with_len 0 R.states) (λ p. step-alternatives (A a) a p ms.count hs.count (entries alts ms) (entries alts hs) (length-entries alts ms h.moves_within) (length-entries alts hs h.here_within))
    alternatives_given (Dist dn.TheVariants.Yes) h = none_given alternative-count (λ p. constant dist true) (λ p. refl) (range_with_len 0 (length (rows R)))
    alternatives_given (Dist dn.TheVariants.No) h = none_given alternative-count (λ p. constant dist false) (λ p. refl) (range_with_len 0 (length (rows R)))
    alternatives_given (Dist (dn.TheVariants.And j k)) h = none_given alternative-count (λ p. both dist (place R ls j p) (place R ls k p)) (λ p. refl) (range_with_len 0 (length (rows R)))
    alternatives_given (Dist (dn.TheVariants.Not j)) h = none_given alternative-count (λ p. non dist (place R ls j p)) (λ p. refl) (range_with_len 0 (length (rows R)))
    alternatives_given (Dist (dn.TheVariants.Sum t r)) h = none_given alternative-count (new_line A R ls (sum t (entries ts r))) (λ p. refl) (range_with_len 0 (length (rows R)))

pub alternatives_needed : (A : ℕ → Bool) (R : Meaning) (ns : List Node) (ts : List Term) (alts : List ℕ) (m : ℕ) → AllRight ns ts alts m → length (alternative_table (quotient_lines A R (lines ns ts alts))) ≡ sum_by (alternative_need A R) ns
alternatives_needed A R ns ts alts m right =
    let ls = lines ns ts alts in
    count-alternatives (quotient_lines A R ls)
    ∙ sum_by_joined alternative-count (new_lines A R ls) ls
    ∙ sum_by_map (λ l. sum_by alternative-count (new_lines A R ls l)) (line ts alts) ns
    ∙ sum_by_at (λ n. sum_by alternative-count (new_lines A R ls (line ts alts n))) (alternative_need A R) ns no_node (λ i h. alternatives_given A R ls ts alts m i (get_or ns i no_node) (right i no_node h))
