-- What is left of a step, as its node and its alternatives.
use Rattle.std.proofs.Common.{◌≡◌, ℕ, ◌+◌, ◌-◌, ◌≤◌, Bool, true, false, cond, not, List, [], ◌∷◌, ◌++◌, map, length, refl, ap, ◌∙◌, ap₂, arith}
use Rattle.std.proofs.lemmas.List.{length-append, length-map}
use Rattle.formulas.specs.declared.node.Node.TheVariants.{State}
use Rattle.formulas.specs.declared.node.StateNode.{StateNode}
use Rattle.formulas.specs.declared.node.StateNode as sn
use Rattle.formulas.specs.Lines.{state, Line, constant, step}
use Rattle.formulas.specs.Layout.{node, run, alternatives_in}
use Rattle.formulas.specs.declared.node.Run.{Run}
use Rattle.formulas.specs.Lines.{entries}
use Rattle.simplification.specs.Simplify.{Outcome, tone_of, is_no, alternatives_left, step_line}
use Rattle.simplification.specs.Moving.{put}
use Rattle.simplification.proofs.Puts.{part-put, put-put, moved-few, length_part}

-- the node n for a step, of which these are left
pub record Stepped (n : StateNode) (s e : ℕ) (ms hs : List ℕ) (l : Line) : Type 0 where
  pub is : State n ≡ node 0 s l
  pub end : e ≡ s + length (alternatives_in l)
  pub all : ms ++ hs ≡ alternatives_in l

module _ (a s m e : ℕ) (ms hs : List ℕ) (p : m ≡ s + length ms) (q : e ≡ m + length hs) where
  plain : Stepped (sn.TheVariants.Step a (run s (m - s)) (run m (e - m))) s e ms hs (step a ms hs)
  plain =
      let x : m - s ≡ length ms = omega arith in
      let y : e - m ≡ length hs = omega arith in
      record {
        is = λ i. State (sn.TheVariants.Step a (run s (x i)) (run (p i) (y i)));
        end = omega (arith, length-append ms hs);
        all = refl;
      }

pub stepped : (a s m e : ℕ) (ms hs : List ℕ) (b : Bool) → m ≡ s + length ms → e ≡ m + length hs → (e ≡ s → ⊥) → b ≡ false
    → Stepped (sn.TheVariants.Step a (run s (m - s)) (run m (e - m))) s e ms hs (cond b (constant state true) (step_line a ms hs))
stepped a s m e ms hs true p q n f = absurd (let z : ◌≡◌ {A = ℕ} 0 1 = ap (λ b. cond b 0 1) f in omega arith)
stepped a s m e [] [] false p q n f = absurd (n (omega arith))
stepped a s m e [] (h ∷ hs) false p q n f = plain a s m e [] (h ∷ hs) p q
stepped a s m e (x ∷ ms) hs false p q n f = plain a s m e (x ∷ ms) hs p q

pub stepped-none : (a s m e : ℕ) (ms hs : List ℕ) (b : Bool) → m ≡ s + length ms → e ≡ m + length hs → e ≡ s → b ≡ false
    → Stepped sn.TheVariants.No s e ms hs (cond b (constant state true) (step_line a ms hs))
stepped-none a s m e ms hs true p q n f = absurd (let z : ◌≡◌ {A = ℕ} 0 1 = ap (λ b. cond b 0 1) f in omega arith)
stepped-none a s m e [] [] false p q n f = record { is = refl; end = omega arith; all = refl }
stepped-none a s m e [] (h ∷ hs) false p q n f = absurd (omega arith)
stepped-none a s m e (x ∷ ms) hs false p q n f = absurd (omega arith)

-- what is left of the alternatives for moves is moved first, then that of those for here
module _ (L : List ℕ → List ℕ) (xs ys : List ℕ) (mv h : Run) (s : ℕ) (short : length (L (entries xs mv)) ≤ mv.count) (past : s ≤ mv.first) (next : mv.first + mv.count ≤ h.first)
    (within : h.first + h.count ≤ length xs) (moved : ys ≡ put s (L (entries xs mv)) xs) where
  low : s ≤ length xs
  low = omega arith

  pub gap : s + length (L (entries xs mv)) ≤ h.first
  gap = omega arith

  pub heres-same : entries ys h ≡ entries xs h
  heres-same = ap (λ zs. entries zs h) moved ∙ part-put s h.first h.count (L (entries xs mv)) xs low gap

  pub both-moved : (zs : List ℕ) (m : ℕ) → m ≡ s + length (L (entries xs mv)) → zs ≡ put m (L (entries ys h)) ys
      → zs ≡ put s (L (entries xs mv) ++ L (entries xs h)) xs
  both-moved zs m p e =
      e
      ∙ (ap₂ (λ (new old : List ℕ). put m new old) (ap L heres-same) moved
      ∙ put-put s m (L (entries xs mv)) (L (entries xs h)) xs p low)

pub left-short : (E : ℕ → Outcome) (xs : List ℕ) (r : Run) → r.first + r.count ≤ length xs → length (alternatives_left E (entries xs r)) ≤ r.count
left-short E xs r h = moved-few (λ d. not (is_no (tone_of E d))) (λ d. (E d).to) xs r.first r.count h

pub length_run : {X Y : Type 0} (f : X → Y) (xs : List X) (r : Run) → r.first + r.count ≤ length xs → length (map f (entries xs r)) ≡ r.count
length_run f xs r h = length-map (entries xs r) f ∙ length_part xs r.first r.count h
