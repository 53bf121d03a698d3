-- The formula that stands at the fronts of tables is the one that was laid out there.
use Rattle.std.proofs.Common.{◌≡◌, ℕ, List, ◌++◌, length, take, sym, refl, ap, ◌∙◌, ap₂, append_assoc}
use Rattle.std.proofs.lemmas.List.{length-map, take_at}
use Rattle.formulas.specs.declared.node.Fills.{Fills}
use Rattle.formulas.specs.Laws.{LinesLaw}
use Rattle.formulas.specs.Layout.{node_table, term_table, alternative_table, fills}
use Rattle.formulas.specs.Lines.{line, lines, Formula}
use Rattle.formulas.specs.Tables.{Slots, laid, formula_at}
use Rattle.simplification.specs.Tables.{Desk, taken_up}

-- the entries in front of two other parts
take-first : {X : Type 0} (xs ys zs : List X) (n : ℕ) → length xs ≡ n → take n ((xs ++ ys) ++ zs) ≡ xs
take-first xs ys zs n e = ap (take n) (append_assoc xs ys zs) ∙ take_at xs (ys ++ zs) n e

module _ (back : LinesLaw) (F : Formula) where
  node-count : length (node_table 0 0 F.lines) ≡ length F.lines
  node-count = sym (length-map (node_table 0 0 F.lines) (line (term_table F.lines) (alternative_table F.lines))) ∙ ap length (back F.lines)

  -- tables whose fronts are those of the formula
  fronted : (s : Slots) → take (length F.lines) s.nodes ≡ node_table 0 0 F.lines
      → take (length (term_table F.lines)) s.terms ≡ term_table F.lines
      → take (length (alternative_table F.lines)) s.alternatives ≡ alternative_table F.lines
      → formula_at (fills F.lines) F.root s ≡ F
  fronted s ns ts alts = ap (λ ls. record { lines = ls; root = F.root }) (ap₂ (λ xs ys. lines xs ys (take (length (alternative_table F.lines)) s.alternatives)) ns ts ∙ ap (lines (node_table 0 0 F.lines) (term_table F.lines)) alts ∙ back F.lines)

  pub laid-back : (s : Slots) → formula_at (fills F.lines) F.root (laid F.lines s) ≡ F
  laid-back s = fronted (laid F.lines s) (take_at _ _ _ node-count) (take_at _ _ _ refl) (take_at _ _ _ refl)

  pub taken_back : (f : Fills) (d : Desk) → formula_at (fills F.lines) F.root (taken_up F f d).tables ≡ F
  taken_back f d = fronted (taken_up F f d).tables (take-first _ _ _ _ node-count) (take-first _ _ _ _ refl) (take-first _ _ _ _ refl)
