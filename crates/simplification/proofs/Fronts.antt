-- The front of the tables: what it takes to simplify there, and what is left of the whole tables.
use Rattle.std.proofs.Common.{◌≡◌, ℕ, ◌-◌, ◌^◌, ◌<◌, ◌≤◌, Bool, true, cond, not, ◌&&◌, leb, List, ◌++◌, length, take, drop, replicate, Ok, Err, sym, refl, ap, ◌∙◌, subst, ap₂, arith}
use Rattle.std.proofs.lemmas.List.{append_assoc, append-nil, drop_all, take_at, length-map, length-take-le}
use Rattle.std.proofs.lemmas.Bool.{and_parts, leb-true, le-ltb}
use Rattle.formulas.specs.declared.node.Fills.{Fills}
use Rattle.formulas.specs.declared.node.Node.{Node}
use Rattle.formulas.specs.declared.node.Term.{Term}
use Rattle.formulas.specs.declared.refusal.Refusal.TheVariants.{NoFormula, Short}
use Rattle.formulas.specs.declared.tables.Standing.{Standing}
use Rattle.formulas.specs.Lines.{Line, line, lines, Formula}
use Rattle.formulas.specs.Layout.{node_table, term_table, alternative_table, fills}
use Rattle.formulas.specs.Laws.{LayoutLaw, LinesLaw, HeldLaw}
use Rattle.formulas.specs.Stands.{stands}
use Rattle.formulas.specs.Tables.{Slots, slots, over, stands_in, lines_in, formula_at, standing}
use Rattle.formulas.specs.WellFormed.{WellFormed}
use Rattle.simplification.specs.Simplify.{simplify}
use Rattle.simplification.specs.Laws.{Settles, Fewer}
use Rattle.simplification.specs.Tables.{blank_node, blank_term, renewed, Desk, desk, taken_up, Done, done, simplified}
use Rattle.simplification.specs.Packed.{Ready}
use Rattle.simplification.proofs.Laid.{length-nodes}
use Rattle.simplification.proofs.Forms.{fitting_formed}
use Rattle.simplification.proofs.Fewer.{fewer}
use Rattle.simplification.proofs.Settled.{settles}

over-itself : {X : Type 0} (new old : List X) → new ≡ old → over new old ≡ old
over-itself new old e =
    ap (λ xs. xs ++ drop (length xs) old) e ∙ (ap (λ xs. old ++ xs) (drop_all (length old) old (omega arith)) ∙ append-nil old)

-- tables that hold a formula
module _ (f : Fills) (root m : ℕ) (s : Slots) (held : stands_in f root m s ≡ true) where
  abbrev ns : List Node
  ns = take f.nodes s.nodes

  abbrev ts : List Term
  ts = take f.terms s.terms

  abbrev alts : List ℕ
  alts = take f.alternatives s.alternatives

  abbrev F : Formula
  F = formula_at f root s

  record Room : Type 0 where
    nodes : f.nodes ≤ length s.nodes
    terms : f.terms ≤ length s.terms
    alternatives : f.alternatives ≤ length s.alternatives
    stand : stands ns ts alts root m ≡ true

  room : Room
  room =
      let both = and_parts (leb f.nodes (length s.nodes) && (leb f.terms (length s.terms) && leb f.alternatives (length s.alternatives))) (stands ns ts alts root m) held in
      let first = and_parts (leb f.nodes (length s.nodes)) (leb f.terms (length s.terms) && leb f.alternatives (length s.alternatives)) both.0 in
      let rest = and_parts (leb f.terms (length s.terms)) (leb f.alternatives (length s.alternatives)) first.1 in
      record {
        nodes = leb-true f.nodes (length s.nodes) first.0;
        terms = leb-true f.terms (length s.terms) rest.0;
        alternatives = leb-true f.alternatives (length s.alternatives) rest.1;
        stand = both.1;
      }

  used-nodes : length ns ≡ f.nodes
  used-nodes = length-take-le f.nodes s.nodes room.nodes

  used-terms : length ts ≡ f.terms
  used-terms = length-take-le f.terms s.terms room.terms

  used-alternatives : length alts ≡ f.alternatives
  used-alternatives = length-take-le f.alternatives s.alternatives room.alternatives

  module _ (law : HeldLaw) where
    formed : WellFormed F
    formed = (law ns ts alts root m room.stand).0

    module _ (layout : LayoutLaw) where
      pub ready : f.nodes < 2 ^ 32 → f.terms < 2 ^ 32 → f.alternatives < 2 ^ 32 → Ready f root s
      ready n t a =
          let laid = layout ns ts alts root m room.stand in
          record {
            packed = record {
              laid_out = λ i. slots (over-itself (node_table 0 0 F.lines) ns laid.0 i) (over-itself (term_table F.lines) ts laid.1 i) (over-itself (alternative_table F.lines) alts laid.2 i);
              formed = fitting_formed F.lines formed.lines;
              few_nodes = omega (arith, used-nodes);
              few_terms = omega (arith, used-terms);
              few_alternatives = omega (arith, used-alternatives);
            };
            root = omega (arith, formed.root.before, length-map ns (line ts alts), used-nodes);
            nodes = room.nodes;
            terms = room.terms;
            alternatives = room.alternatives;
          }

      fills_are : fills F.lines ≡ f
      fills_are =
          let laid = layout ns ts alts root m room.stand in
          let n : length F.lines ≡ f.nodes = length-map ns (line ts alts) ∙ used-nodes in
          let t : length (term_table F.lines) ≡ f.terms = ap length laid.1 ∙ used-terms in
          let a : length (alternative_table F.lines) ≡ f.alternatives = ap length laid.2 ∙ used-alternatives in
          λ i. record { nodes = n i; terms = t i; alternatives = a i }

      pub no_more : (x : Standing) → x ≡ standing (simplify F) → Fewer x.fills f
      no_more x e = subst (Fewer x.fills) fills_are (subst (λ (y : Standing). Fewer y.fills (fills F.lines)) (sym e) (fewer F formed))

    take-renewed : {X : Type 0} (n k : ℕ) (blank : X) (new old : List X) → k ≡ length new → take k (renewed n blank new old) ≡ new
    take-renewed n k blank new old e =
        ap (take k) (append_assoc new (replicate (n - length new) blank) (drop n old)) ∙ take_at new (replicate (n - length new) blank ++ drop n old) k (sym e)

    -- the formula that was taken up is read back
    read_back : LinesLaw → (G : Formula) (d : Desk) → formula_at (fills G.lines) G.root (taken_up G f d).tables ≡ G
    read_back same G d =
        let L : List Line = G.lines in
        let n = take-renewed f.nodes (length L) blank_node (node_table 0 0 L) d.tables.nodes (sym (length-nodes 0 0 L)) in
        let t = take-renewed f.terms (length (term_table L)) blank_term (term_table L) d.tables.terms refl in
        let a = take-renewed f.alternatives (length (alternative_table L)) 0 (alternative_table L) d.tables.alternatives refl in
        let ls : lines_in (fills L) (taken_up G f d).tables ≡ L = (λ i. lines (n i) (t i) (a i)) ∙ same L in
        λ i. record { lines = ls i; root = G.root }

    pub settles_in : LinesLaw → (to : List ℕ) (x : Standing) (d : Desk) → x ≡ standing (simplify F) → d ≡ taken_up (simplify F) f (desk s to)
        → Settles (formula_at x.fills x.root d.tables)
    settles_in same to x d e q =
        let here = (λ i. formula_at (e i).fills (e i).root (q i).tables) ∙ read_back same (simplify F) (desk s to) in
        subst Settles (sym here) (settles F formed)

  -- an accepted call
  pub accepted : (to : List ℕ) (x : Standing) (d : Desk) → f.nodes ≤ length to → x ≡ standing (simplify F) → d ≡ taken_up (simplify F) f (desk s to)
      → done (Ok x) d ≡ simplified f root m (desk s to)
  accepted to x d r e q =
      let chosen : Bool → Bool → Done = λ holds short.
      cond (not holds) (done (Err NoFormula) (desk s to))
      (cond short (done (Err Short) (desk s to)) (done (Ok (standing (simplify F))) (taken_up (simplify F) f (desk s to)))) in
      (λ i. done (Ok (e i)) (q i)) ∙ sym (ap₂ chosen held (le-ltb (length to) f.nodes r))
