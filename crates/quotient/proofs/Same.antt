-- Where the states of one system map to those of another, and moves match, the same formulas hold.
use Rattle.std.proofs.Common.{◌≡◌, ℕ, ◌+◌, ◌*◌, ◌<◌, ◌≤◌, Bool, cond, not, ◌&&◌, ◌||◌, leb, List, length, sym, refl, ap, ◌∙◌, ap₂, subst₂, arith}
use Rattle.systems.specs.Meaning.{Meaning, Move, point}
use Rattle.formulas.specs.Laws.{CourseLaw}
use Rattle.formulas.specs.Lines.{is_state, is_dist, Line, constant, both, non, step, sum, Formula}
use Rattle.formulas.specs.Truths.{Truth, truth, truths, at_node, weigh, any, holds}
use Rattle.quotient.specs.Theorems.{Into}
use Rattle.formulas.specs.WellFormed.{line_at, Fits, Fitting, WellFormed}
use Rattle.quotient.proofs.Lists.{each, any_on, sum_by_on}
use Rattle.quotient.proofs.Course.{look, truths-at}
use Rattle.quotient.proofs.Piles.{weigh_on}

module _ (S S' : Meaning) (f : ℕ → ℕ) where
  -- the moves weigh the same under every test of states
  abbrev pub Near : Move → Move → Type 0
  Near mv mv' = Into S.states mv × ((P : ℕ → Bool) → weigh (λ s. P (f s)) mv ≡ weigh P mv')

  pub record Mapped : Type 0 where
    pub mass : S.mass ≡ S'.mass
    pub moves : (s a : ℕ) → s < S.states → (φ φ' : Move → Bool) → ((mv mv' : Move) → Near mv mv' → φ mv ≡ φ' mv') → any φ (S.moves s a) ≡ any φ' (S'.moves (f s) a)

  record Same (t t' : Truth) : Type 0 where
    at : (s : ℕ) → s < S.states → t.at s ≡ t'.at (f s)
    of : (mv mv' : Move) → Near mv mv' → t.of mv ≡ t'.of mv'

  module _ (mapped : Mapped) (ls : List Line) where
    point-near : (s : ℕ) → s < S.states → Near (point S s) (point S' (f s))
    point-near s l = ((l, tt), λ P. ap (λ (m : ℕ). 0 + cond (P (f s)) m 0) mapped.mass)

    -- line i, where the lines before it are the same
    line_same : (i : ℕ) (T T' : List Truth) → ((j : ℕ) → j < i → Same (look T j) (look T' j)) → (l : Line) → Fits ls i l → Same (truth S T l) (truth S' T' l)
    line_same i T T' same (constant σ b) h = record { at = λ s l. refl; of = λ mv mv' n. refl }
    line_same i T T' same (both σ j k) h = record {
      at = λ s l. ap₂ (λ x y. is_state σ && (x && y)) ((same j h.0.before).at s l) ((same k h.1.before).at s l);
      of = λ mv mv' n. ap₂ (λ x y. is_dist σ && (x && y)) ((same j h.0.before).of mv mv' n) ((same k h.1.before).of mv mv' n);
    }
    line_same i T T' same (non σ j) h = record {
      at = λ s l. ap (λ x. is_state σ && not x) ((same j h.before).at s l);
      of = λ mv mv' n. ap (λ x. is_dist σ && not x) ((same j h.before).of mv mv' n);
    }
    line_same i T T' same (step a ms hs) h = record {
      at = λ s l.
          ap₂ ◌||◌
          (mapped.moves s a l (λ mv. any (λ d. (look T d).of mv) ms) (λ mv. any (λ d. (look T' d).of mv) ms) (λ mv mv' n. any_on ms h.1 (λ d p. (same d p.before).of mv mv' n)))
          (any_on hs h.2 (λ d p. (same d p.before).of (point S s) (point S' (f s)) (point-near s l)));
      of = λ mv mv' n. refl;
    }
    line_same i T T' same (sum t ks) h = record {
      at = λ s l. refl;
      of = λ mv mv' n.
          ap₂ leb (ap (λ m. t * m) mapped.mass)
          (sum_by_on ks h (λ k p. ap (λ w. k.coefficient * w)
          (weigh_on S.states (at_node T k.node) (λ s. at_node T' k.node (f s)) mv n.0 (same k.node p.before).at ∙ n.1 (at_node T' k.node))));
    }

    lines_same : CourseLaw → Fitting ls → (i : ℕ) → i < length ls → Same (look (truths S ls) i) (look (truths S' ls) i)
    lines_same course fit = each (λ i. i < length ls → Same (look (truths S ls) i) (look (truths S' ls) i)) (λ i before h.
        subst₂ Same (sym (truths-at course S ls fit i h)) (sym (truths-at course S' ls fit i h))
        (line_same i (truths S ls) (truths S' ls) (λ j l. before j l (omega arith)) (line_at ls i) (fit i h)))

  pub same-holds : CourseLaw → Mapped → 1 ≤ S.states → f 0 ≡ 0 → (F : Formula) → WellFormed F → holds S F ≡ holds S' F
  same-holds course mapped l e F formed =
      (lines_same mapped F.lines course formed.lines F.root formed.root.before).at 0 l ∙ ap (at_node (truths S' F.lines) F.root) e
