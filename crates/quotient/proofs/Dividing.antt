-- What a node of a plan gives, as the program puts it.
use Rattle.std.proofs.Common.{◌≡◌, ℕ, ◌+◌, ◌*◌, ◌/◌, ◌%◌, ◌<◌, ◌≤◌, Bool, true, false, cond, List, [], ◌∷◌, ◌++◌, map, length, get_or, take, sum_by, sym, refl, ap, ◌∙◌, ap₂, mul-le-mul_right, mul_assoc, arith}
use mathlib.Core.Path.{fun_ext}
use Rattle.std.specs.List.{range_with_len, flat_map, AllByRecursion}
use Rattle.std.proofs.lemmas.List.{take_all, take-map, map-append}
use Rattle.std.proofs.ByRecursion.{All-get_or, All-from_get_or}
use Rattle.std.proofs.lemmas.Simd.{map-map}
use Rattle.std.proofs.lemmas.List.Sums.{sum_by-cons, get_or-le-sum_by}
use Rattle.systems.specs.declared.system.Target.{Target}
use Rattle.systems.specs.Actions.{has}
use Rattle.systems.specs.Meaning.{Meaning, Move, Ruled, point}
use Rattle.systems.specs.Piles.{cross}
use Rattle.formulas.specs.declared.node.Node.{Node}
use Rattle.formulas.specs.declared.node.Node.TheVariants.{State, Dist}
use Rattle.formulas.specs.declared.node.StateNode.{StateNode}
use Rattle.formulas.specs.declared.node.StateNode as sn
use Rattle.formulas.specs.declared.node.DistNode.{DistNode}
use Rattle.formulas.specs.declared.node.DistNode as dn
use Rattle.formulas.specs.declared.node.Term.{Term}
use Rattle.formulas.specs.Append.{Table}
use Rattle.formulas.specs.Lines.{Line, step, sum, sort, line, lines, entries}
use Rattle.quotient.specs.declared.plan.Plan.{Plan}
use Rattle.quotient.specs.declared.write.Step.{Step}
use Rattle.quotient.specs.declared.write.Sum.{Sum}
use Rattle.quotient.specs.Layings.{appended, lay}
use Rattle.quotient.proofs.Laying.{stored}
use Rattle.quotient.specs.Quotient.{moves_of, rows, row, first_row, move_rows, width, place, new_step, new_term, new_line, new_lines}
use Rattle.quotient.specs.Plans.{node_width, width_before, plan_nodes, plan_lines, place_in, Planned, moved, Fit, LightTerm, LightTarget, Plain, node_line, node_lines, plan_quotient, sum_at, step_node, sum_node}
use Rattle.quotient.proofs.Lists.{looked_up}
use Rattle.quotient.proofs.Places.{rows-within}
use Rattle.quotient.proofs.Rules.{GoodIn}

-- a number up to 1,000 × m, times the mass
weighed : (m M c : ℕ) → m * M ≤ 1000000000000000 → c ≤ 1000 * m → c * M ≤ 1000000000000000000
weighed m M c h l = omega (arith, mul-le-mul_right M l, mul_assoc 1000 m M)

-- what is read past the end of a list of targets
abbrev pub no_target : Target
no_target = record { state = 0; weight = 0 }

-- what is read past the end of a run of terms
abbrev pub no-term : Term
no-term = record { coefficient = 0; node = 0 }

-- the numbers of a sum that fits are small
module _ (x : Plan) (s : Sum) (fit : Fit x (sum_node s)) where
  pub light-threshold : s.threshold * x.mass ≤ 1000000000000000000
  light-threshold = weighed fit.removed x.mass s.threshold fit.light fit.right.low

  pub light-terms : AllByRecursion (LightTerm x) (entries x.tables.terms.now s.terms)
  light-terms =
      let ks = entries x.tables.terms.now s.terms in
      All-from_get_or (LightTerm x) ks no-term (λ j k. record {
        inside = omega (arith, All-get_or (λ u. u.node < fit.index) ks j no-term k fit.right.below, fit.inside);
        light = weighed fit.removed x.mass (get_or ks j no-term).coefficient fit.light (omega (arith, get_or-le-sum_by (λ u. u.coefficient) ks j no-term k, fit.right.light));
      })

-- so are those of a move or point
pub light_targets : (R : Meaning) (x : Plan) → Planned R x → (mv : Move) → GoodIn R mv → AllByRecursion (LightTarget x) mv
light_targets R x planned mv good =
    All-from_get_or (LightTarget x) mv no_target (λ j h. record {
      near = omega (arith, (All-get_or _ mv j no_target h good.aimed).inside, planned.few);
      light = omega (arith, get_or-le-sum_by (λ t. t.weight) mv j no_target h, good.whole, planned.mass);
    })

-- as many lines as nodes give, where there are n states and r rows
module _ (R : Meaning) (n r : ℕ) (en : n ≡ R.states) (er : r ≡ length (rows R)) (ts : List Term) (alts : List ℕ) where
  pub width_is : (y : Node) → node_width n r y ≡ width R (sort (line ts alts y))
  width_is (State sn.TheVariants.Yes) = en
  width_is (State sn.TheVariants.No) = en
  width_is (State (sn.TheVariants.And i j)) = en
  width_is (State (sn.TheVariants.Not i)) = en
  width_is (State (sn.TheVariants.Step a ms hs)) = en
  width_is (Dist dn.TheVariants.Yes) = er
  width_is (Dist dn.TheVariants.No) = er
  width_is (Dist (dn.TheVariants.And i j)) = er
  width_is (Dist (dn.TheVariants.Not i)) = er
  width_is (Dist (dn.TheVariants.Sum t k)) = er

  pub widths_are : (ns : List Node) → sum_by (node_width n r) ns ≡ sum_by (λ l. width R (sort l)) (lines ns ts alts)
  widths_are [] = refl
  widths_are (y ∷ ns) =
      sum_by-cons (node_width n r) y ns ∙ ap₂ ◌+◌ (width_is y) (widths_are ns) ∙ sym (sum_by-cons (λ l. width R (sort l)) (line ts alts y) (lines ns ts alts))

  pub place_at : (ns : List Node) (d p : ℕ) → width_before n r ns d + p ≡ place R (lines ns ts alts) d p
  unfolding place
  place_at ns d p = ap (λ k. k + p) (widths_are (take d ns) ∙ ap (sum_by (λ l. width R (sort l))) (sym (take-map (line ts alts) d ns)))

module _ (R : Meaning) (x : Plan) (planned : Planned R x) where
  abbrev ts : List Term
  ts = x.tables.terms.now

  abbrev alts : List ℕ
  alts = x.tables.alternatives.now

  pub place_is : (d p : ℕ) → place_in x d p ≡ place R (plan_lines x) d p
  place_is d p = place_at R x.states x.rows planned.states planned.rows ts alts (plan_nodes x) d p

  pub places_are : place_in x ≡ place R (plan_lines x)
  places_are = fun_ext (λ d. fun_ext (λ p. place_is d p))

  -- a node that is neither a step nor a sum
  pub lay-plain : (n : Node) (p : ℕ) → Plain (length (plan_nodes x)) n → (ns ms : Table Node) → ms ≡ appended ns (moved (λ d. place_in x d p) n) → (us : Table Term) (ats : Table ℕ) → stored ms us ats ≡ lay (stored ns us ats) (node_line R x n p)
  unfolding new_line
  lay-plain (State sn.TheVariants.Yes) p h ns ms e us ats = ap (λ m. stored m us ats) e
  lay-plain (State sn.TheVariants.No) p h ns ms e us ats = ap (λ m. stored m us ats) e
  lay-plain (State (sn.TheVariants.And i j)) p h ns ms e us ats = ap (λ m. stored m us ats) e ∙ ap (λ (at : ℕ → ℕ → ℕ). stored (appended ns (State (sn.TheVariants.And (at i p) (at j p)))) us ats) places_are
  lay-plain (State (sn.TheVariants.Not i)) p h ns ms e us ats = ap (λ m. stored m us ats) e ∙ ap (λ (at : ℕ → ℕ → ℕ). stored (appended ns (State (sn.TheVariants.Not (at i p)))) us ats) places_are
  lay-plain (State (sn.TheVariants.Step a r s)) p h ns ms e us ats = absurd h
  lay-plain (Dist dn.TheVariants.Yes) p h ns ms e us ats = ap (λ m. stored m us ats) e
  lay-plain (Dist dn.TheVariants.No) p h ns ms e us ats = ap (λ m. stored m us ats) e
  lay-plain (Dist (dn.TheVariants.And i j)) p h ns ms e us ats = ap (λ m. stored m us ats) e ∙ ap (λ (at : ℕ → ℕ → ℕ). stored (appended ns (Dist (dn.TheVariants.And (at i p) (at j p)))) us ats) places_are
  lay-plain (Dist (dn.TheVariants.Not i)) p h ns ms e us ats = ap (λ m. stored m us ats) e ∙ ap (λ (at : ℕ → ℕ → ℕ). stored (appended ns (Dist (dn.TheVariants.Not (at i p)))) us ats) places_are
  lay-plain (Dist (dn.TheVariants.Sum t r)) p h ns ms e us ats = absurd h

  -- the rows of the moves of p on a, from the first that the plan tells
  pub rows-from : (p a count : ℕ) → p < R.states → a < 32 → count ≡ length (R.moves p a) → (range_with_len (get_or x.firsts.now (p * 32 + a) 0) count ≡ move_rows R p a) × (get_or x.firsts.now (p * 32 + a) 0 + count ≤ 1073741824)
  rows-from p a count h l e =
      let inside : p * 32 + a < R.states * 32 = omega arith in
      let state : (p * 32 + a) / 32 ≡ p = omega arith in
      let action : (p * 32 + a) % 32 ≡ a = omega arith in
      let is : get_or x.firsts.now (p * 32 + a) 0 ≡ first_row R p a = planned.firsts (p * 32 + a) inside ∙ ap₂ (first_row R) state action in
      (ap₂ range_with_len is e, omega (arith, is, rows-within R p a h l, planned.rows, planned.few_rows))

  -- past the last action there are none
  pub rows-past : Ruled R → (p a count : ℕ) → 32 ≤ a → count ≡ length (R.moves p a) → (range_with_len 0 count ≡ move_rows R p a) × (0 + count ≤ 1073741824)
  rows-past ruled p a count l e =
      let none : length (R.moves p a) ≡ 0 = ap length (ruled.past_actions p a l) in
      (ap (range_with_len 0) (e ∙ none) ∙ sym (ap (range_with_len (first_row R p a)) none), omega arith)

  -- a step, by the rows of its moves
  pub step_is : (s : Step) (p : ℕ) (rows : List ℕ) (shared : Bool) → shared ≡ has x.shared s.action → rows ≡ move_rows R p s.action → node_line R x (step_node s) p ≡ step s.action (cond shared (cross (place_in x) (entries alts s.moves) rows) (map (λ d. place_in x d p) (entries alts s.moves))) (cond shared (map (λ d. place_in x d p) (entries alts s.heres)) (cross (place_in x) (entries alts s.moves) rows ++ map (λ d. place_in x d p) (entries alts s.heres)))
  unfolding new_line
  step_is s p rows shared e f =
      new_is (has x.shared s.action) ∙ ap (λ b. line_at b (place R (plan_lines x)) (move_rows R p s.action)) (sym e) ∙ ap₂ (λ at rs. line_at shared at rs) (sym places_are) (sym f)
    where
      line_at : Bool → (ℕ → ℕ → ℕ) → List ℕ → Line
      line_at b at rs =
          step s.action (cond b (cross at (entries alts s.moves) rs) (map (λ d. at d p) (entries alts s.moves)))
          (cond b (map (λ d. at d p) (entries alts s.heres)) (cross at (entries alts s.moves) rs ++ map (λ d. at d p) (entries alts s.heres)))

      new_is : (b : Bool) → new_step b R (plan_lines x) s.action (entries alts s.moves) (entries alts s.heres) p ≡ line_at b (place R (plan_lines x)) (move_rows R p s.action)
      new_is true = refl
      new_is false = refl

-- a sum at all rows: at the points, then at the moves
module _ (R : Meaning) (x : Plan) (planned : Planned R x) (s : Sum) where
  abbrev at_row : Move → Line
  at_row = sum_at x s

  sum_is : (mv : Move) → sum (s.threshold * R.mass) (cross (new_term R (plan_lines x)) (entries x.tables.terms.now s.terms) mv) ≡ at_row mv
  sum_is mv =
      ap₂ (λ m at. sum (s.threshold * m) (cross (λ (k : Term) u. record { coefficient = k.coefficient * u.weight; node = at k.node u.state }) (entries x.tables.terms.now s.terms) mv))
      (sym planned.mass) (sym (places_are R x planned))

  sum_rows_are : node_lines R x (sum_node s) ≡ map at_row (rows R)
  unfolding new_line
  sum_rows_are =
      ap (λ (f : Move → Line). map (λ k. f (row R k)) (range_with_len 0 (length (rows R)))) (fun_ext sum_is) ∙ looked_up at_row [] (rows R)

  pub sum_lines_are : node_lines R x (sum_node s) ≡ map (λ p. at_row (point R p)) (range_with_len 0 R.states) ++ map at_row (flat_map (moves_of R) (range_with_len 0 R.states))
  unfolding rows
  sum_lines_are =
      sum_rows_are
      ∙ map-append at_row (map (point R) (range_with_len 0 R.states)) (flat_map (moves_of R) (range_with_len 0 R.states))
      ∙ ap (λ l. l ++ map at_row (flat_map (moves_of R) (range_with_len 0 R.states))) (map-map at_row (point R) (range_with_len 0 R.states))

joined-map : {X Y Z : Type 0} (f : Y → List Z) (g : X → Y) (xs : List X) → flat_map (λ x. f (g x)) xs ≡ flat_map f (map g xs)
joined-map f g [] = refl
joined-map f g (x ∷ xs) = ap (λ l. f (g x) ++ l) (joined-map f g xs)

-- the quotient, node by node
pub quotient_by_nodes : (R : Meaning) (x : Plan) (i : ℕ) → length (plan_nodes x) ≤ i → flat_map (node_lines R x) (take i (plan_nodes x)) ≡ plan_quotient R x
quotient_by_nodes R x i h =
    ap (flat_map (node_lines R x)) (take_all i (plan_nodes x) h) ∙ joined-map (new_lines (has x.shared) R (plan_lines x)) (line x.tables.terms.now x.tables.alternatives.now) (plan_nodes x)
