-- The marks of a row become truths, and the row becomes clear again.
use Rattle.std.proofs.Common.{◌≡◌, ℕ, ◌+◌, ◌-◌, ◌<◌, ◌≤◌, Bool, ◌≢◌, List, [], ◌∷◌, ◌++◌, length, get_or, take, drop, set, replicate, sym, ap, ◌∙◌, subst, ⊎_elim, arith}
use Rattle.std.specs.Int.{from_bool}
use Rattle.std.specs.List.{AllByRecursion}
use Rattle.std.proofs.lemmas.List.{get_or-set_same, get_or-set_other, ext_get_or}
use Rattle.std.proofs.ByRecursion.{All-weaker}
use Rattle.std.proofs.lemmas.Bool.{cases_lt, cases_eq}
use Rattle.systems.specs.Meaning.{Meaning, Move}
use Rattle.formulas.specs.declared.node.Node.{Node}
use Rattle.formulas.specs.Lines.{line}
use Rattle.formulas.specs.Truths.{Truth, any, holds_of, of_node}
use Rattle.formulas.specs.declared.tables.Tables.{Tables}
use Rattle.claims.specs.Verdicts.{byte}
use Rattle.claims.specs.Sums.{lit}
use Rattle.claims.specs.Rows.{lit_row, Mark, marked, parts, no_node, Spread, Reached, Filling, Blank}
use Rattle.claims.specs.Boards.{truths_in, Sits, Agrees}
use Rattle.claims.proofs.Anys.{any_same}
use Rattle.claims.proofs.Marks.{marked_all, marked_other}
use Rattle.claims.proofs.Zeros.{zeroed, zeroed-length, zeroed-below, zeroed-within, zeroed-above}
use Rattle.claims.proofs.Truthful.{bool_byte, byte-lit, move-is, sits_parted}

all_both : (P Q R : ℕ → Type 0) → ((p : ℕ) → P p → Q p → R p) → (ps : List ℕ) → AllByRecursion P ps → AllByRecursion Q ps → AllByRecursion R ps
all_both P Q R f [] a b = tt
all_both P Q R f (p ∷ ps) a b = (f p a.0 b.0, all_both P Q R f ps a.1 b.1)

-- node j is passed on the way up
module _ (M : Meaning) (t : Tables) (sits : Sits M t) (mv : Move) (within : AllByRecursion (λ u. u.state < M.states) mv) (table : List ℕ) (low j : ℕ) (old row : List ℕ) (f : Filling (truths_in M t) mv low j old row) where
  pub fill_off : (get_or row j 0 ≡ 2 → ⊥) → Filling (truths_in M t) mv low (j + 1) old row
  fill_off ne = record {
    told = λ k l m. ⊎_elim (λ e. absurd (ne (f.above j (omega arith) ∙ subst (Mark old) e m))) (λ u. f.told k (omega arith) m) (cases_eq k j);
    below = f.below;
    above = λ k l. f.above k (omega arith);
  }

  pub fill_on : (high v : ℕ) (b : Bool) → ((k : ℕ) → k < high → Mark old k → AllByRecursion (Mark old) (parts (get_or t.nodes.now k no_node))) → Agrees M (truths_in M t) table j
      → low ≤ j → j < high → j < length t.nodes.now → j < length row → Mark row j → b ≡ holds_of M (lit table M.states) (λ d _. lit_row row d) (line t.terms.now t.alternatives.now (get_or t.nodes.now j no_node)) mv → v ≡ from_bool b
      → Filling (truths_in M t) mv low (j + 1) old (set row j v)
  fill_on high v b closed agrees lo hi here h on eb ev =
      let T = truths_in M t in
      let known = all_both (λ p. p < j) (Mark old) (λ p. get_or row p 0 ≡ byte (of_node T p mv)) (λ p l m. f.told p l m) (parts (get_or t.nodes.now j no_node)) (sits_parted M t sits j here) (closed j hi (sym (f.above j (omega arith)) ∙ on)) in
      let value = bool_byte b v ev ∙ ap byte (eb ∙ move-is M t table j agrees sits here mv within row known) in
      record {
        told = λ k l m. ⊎_elim (λ q. subst (λ i. get_or (set row j v) i 0 ≡ byte (of_node T i mv)) (sym q) (get_or-set_same row j v 0 h ∙ value)) (λ u. get_or-set_other row j k v 0 u ∙ f.told k (omega arith) m) (cases_eq k j);
        below = λ k l. get_or-set_other row j k v 0 (omega arith) ∙ f.below k l;
        above = λ k l. get_or-set_other row j k v 0 (omega arith) ∙ f.above k (omega arith);
      }

-- from a blank row, the nodes wanted are marked, and then what they are made of
module _ (ns : List Node) (wanted old first row : List ℕ) (upto start low high : ℕ) (blank : Blank upto old) (top : high ≤ upto) (ordered : start ≤ high) (around : AllByRecursion (λ d. (start ≤ d) × (d < high)) wanted) (e : first ≡ marked old wanted) (s : Spread ns low start low high first row) where
  apart : (k : ℕ) → ((d : ℕ) → start ≤ d → d < high → k ≢ d) → get_or first k 0 ≡ get_or old k 0
  apart k ne = ap (λ r. get_or r k 0) e ∙ marked_other wanted old k (All-weaker (λ d. (start ≤ d) × (d < high)) (λ d. k ≢ d) (λ d a. ne d a.0 a.1) wanted around)

  under : (k : ℕ) → k < low → get_or row k 0 ≡ get_or old k 0
  under k l = s.below k l ∙ apart k (λ d a b. omega (arith, s.lower))

  unmarked : (k : ℕ) → k < low → Mark row k → ⊥
  unmarked k l m = let z = under k l ∙ blank.zeros k (omega (arith, s.lower)) in omega arith

  pub reached : Reached ns wanted upto low high old row
  reached =
      let inside = All-weaker (λ d. (start ≤ d) × (d < high)) (λ d. d < length old) (λ d a. omega (arith, a.1, blank.long)) wanted around in
      let named : AllByRecursion (Mark first) wanted = subst (λ r. AllByRecursion (Mark r) wanted) (sym e) (marked_all wanted old inside) in
      record {
        ordered = omega (arith, s.lower);
        top = top;
        named = all_both (λ d. (start ≤ d) × (d < high)) (Mark first) (λ d. (d < high) × Mark row d) (λ d a m. (a.1, s.stays d m)) wanted around named;
        closed = λ k l m. ⊎_elim (λ lo. absurd (unmarked k lo m)) (λ hi. s.closed k hi l m) (cases_lt k low);
        bare = unmarked;
        below = under;
        above = λ k l. s.above k l ∙ apart k (λ d a b. omega arith);
      }

-- the marks are filled in, and cleared
module _ (ns : List Node) (wanted old marks filled : List ℕ) (upto low high : ℕ) (blank : Blank upto old) (r : Reached ns wanted upto low high old marks) (T : List Truth) (mv : Move) (f : Filling T mv low high marks filled) where
  pub reached-any : (answer : Bool) → answer ≡ any (lit_row filled) wanted → answer ≡ any (λ d. of_node T d mv) wanted
  reached-any answer e =
      e ∙ any_same (λ d. (d < high) × Mark marks d) (lit_row filled) (λ d. of_node T d mv) (λ d a. byte-lit (of_node T d mv) _ (f.told d a.0 a.1)) wanted r.named

  -- zeros over the marks
  pub reached_clear : (row mid : List ℕ) → length filled ≡ length old → row ≡ take low filled ++ (mid ++ drop (high - low) (drop low filled)) → mid ≡ replicate (high - low) 0 → row ≡ old
  reached_clear row mid same e zeros =
      let top : high ≤ length filled = omega (arith, r.top, blank.long) in
      e
      ∙ ap (λ m. take low filled ++ (m ++ drop (high - low) (drop low filled))) zeros
      ∙ ext_get_or 0 (zeroed low high filled r.ordered top) old (zeroed-length low high filled r.ordered top ∙ same)
      (λ k _. ⊎_elim
      (λ lo. zeroed-below low high filled r.ordered top k lo ∙ f.below k lo ∙ r.below k lo)
      (λ ge. ⊎_elim
      (λ mid. zeroed-within low high filled r.ordered top k ge mid ∙ sym (blank.zeros k (omega (arith, r.top))))
      (λ hi. zeroed-above low high filled r.ordered top k hi ∙ f.above k hi ∙ r.above k hi)
      (cases_lt k high))
      (cases_lt k low))
