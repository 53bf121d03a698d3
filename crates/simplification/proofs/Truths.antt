-- When truths agree, and that what a line becomes agrees with the line.
use Rattle.std.proofs.Common.{◌≡◌, ℕ, ◌+◌, ◌-◌, ◌*◌, ◌<◌, ◌≤◌, Bool, true, false, cond, not, ◌&&◌, ◌||◌, eqb, ltb, leb, ◌⊎◌, List, [], ◌∷◌, map, filter, sym, refl, ap, ◌∙◌, subst, ap₂, inl, inr, mul-le-mul_right, mul-le-mul_left, arith}
use mathlib.Core.Path.{fun_ext}
use mathlib.Core.Bool.{or-true, and-true, and-false}
use Rattle.std.specs.List.{AllByRecursion}
use Rattle.std.proofs.ByRecursion.{All-weaker}
use Rattle.std.proofs.lemmas.List.Sums.{sum_by-cons}
use Rattle.std.proofs.lemmas.Bool.{le-leb, lt-leb, cases_lt, eqb-true, ltb-true}
use Rattle.systems.specs.declared.system.Target.{Target}
use Rattle.systems.specs.Meaning.{Meaning, Move, point}
use Rattle.systems.specs.Meaning as meaning
use Rattle.formulas.specs.declared.node.Term.{Term}
use Rattle.formulas.specs.Lines.{Sort, state, dist, Line, constant, both, non, step, sum, sort}
use Rattle.formulas.specs.Truths.{Truth, holds_at, holds_of, weigh, total, any}
use Rattle.simplification.specs.Simplify.{parts, coefficients, Tone, yes, no, neither, tone, tone_of, is_yes, is_no, is_neither, Outcome, both_outcome, non_line, step_line, alternatives_left, has_yes, retarget, terms_left, yes_part, renumber, became}
use Rattle.simplification.specs.Laws.{Whole, Weighed}
use Rattle.simplification.proofs.Lists.{all-front, all_back, all_of_map, any_same}
use Rattle.simplification.proofs.Outcomes.{wants}

-- the truth of a line from the truths of the lines before it
abbrev pub sees : Meaning → (ℕ → Truth) → Line → Truth
sees S T l = record {
  at = λ s. holds_at S (λ j. (T j).at) (λ j. (T j).of) l s;
  of = λ mv. holds_of S (λ j. (T j).at) (λ j. (T j).of) l mv;
}

-- two truths of one sort agree: in every state, or of every move whose weights add up to the mass
abbrev pub Agree : Meaning → Sort → Truth → Truth → Type 0
Agree S state t u = (s : ℕ) → t.at s ≡ u.at s
Agree S dist t u = (mv : Move) → Whole S mv → t.of mv ≡ u.of mv

module _ (S : Meaning) where
  pub agree-is : (σ : Sort) {t u : Truth} → t ≡ u → Agree S σ t u
  agree-is state e = λ s. ap (λ (x : Truth). x.at s) e
  agree-is dist e = λ mv w. ap (λ (x : Truth). x.of mv) e

  pub agree_trans : (σ : Sort) (t u v : Truth) → Agree S σ t u → Agree S σ u v → Agree S σ t v
  agree_trans state t u v p q = λ s. p s ∙ q s
  agree_trans dist t u v p q = λ mv w. p mv w ∙ q mv w

-- weights
weigh-same : (P Q : ℕ → Bool) → ((s : ℕ) → P s ≡ Q s) → (mv : Move) → weigh P mv ≡ weigh Q mv
weigh-same P Q h mv = ap (λ (R : ℕ → Bool). weigh R mv) (fun_ext h)

weigh-cons : (P : ℕ → Bool) (t : Target) (mv : Move) → weigh P (t ∷ mv) ≡ cond (P t.state) t.weight 0 + weigh P mv
weigh-cons P t mv = sum_by-cons (λ (u : Target). cond (P u.state) u.weight 0) t mv

mass-cons : (t : Target) (mv : Move) → meaning.total (t ∷ mv) ≡ t.weight + meaning.total mv
mass-cons t mv = sum_by-cons (λ (u : Target). u.weight) t mv

weigh-yes : (P : ℕ → Bool) → ((s : ℕ) → P s ≡ true) → (mv : Move) → weigh P mv ≡ meaning.total mv
weigh-yes P h mv = weigh-same P (λ _. true) h mv

weigh-no : (P : ℕ → Bool) → ((s : ℕ) → P s ≡ false) → (mv : Move) → weigh P mv ≡ 0
weigh-no P h mv = weigh-same P (λ _. false) h mv ∙ none mv
  where
    none : (mv : Move) → weigh (λ _. false) mv ≡ 0
    none [] = refl
    none (t ∷ mv) = omega (arith, weigh-cons (λ _. false) t mv, none mv)

cond-le : (b : Bool) (x : ℕ) → cond b x 0 ≤ x
cond-le true x = omega arith
cond-le false x = omega arith

weigh-le : (P : ℕ → Bool) (mv : Move) → weigh P mv ≤ meaning.total mv
weigh-le P [] = omega arith
weigh-le P (t ∷ mv) = omega (arith, weigh-cons P t mv, mass-cons t mv, cond-le (P t.state) t.weight, weigh-le P mv)

total-cons : (at : ℕ → ℕ → Bool) (k : Term) (ks : List Term) (mv : Move) → total at (k ∷ ks) mv ≡ k.coefficient * weigh (at k.node) mv + total at ks mv
total-cons at k ks mv = sum_by-cons (λ (x : Term). x.coefficient * weigh (at x.node) mv) k ks

coefficients-cons : (k : Term) (ks : List Term) → coefficients (k ∷ ks) ≡ k.coefficient + coefficients ks
coefficients-cons k ks = sum_by-cons (λ (x : Term). x.coefficient) k ks

total-le : (M : ℕ) (at : ℕ → ℕ → Bool) (mv : Move) → meaning.total mv ≡ M → (ks : List Term) → total at ks mv ≤ coefficients ks * M
total-le M at mv w [] = omega arith
total-le M at mv w (k ∷ ks) =
    let h : weigh (at k.node) mv ≤ M = omega (arith, weigh-le (at k.node) mv) in
    let e : coefficients (k ∷ ks) * M ≡ (k.coefficient + coefficients ks) * M = ap (λ (x : ℕ). x * M) (coefficients-cons k ks) in
    omega (arith, total-cons at k ks mv, mul-le-mul_left k.coefficient h, total-le M at mv w ks)

-- a renumbered line agrees if its parts do
module _ (S : Meaning) (g : Weighed S) (T U : ℕ → Truth) (f : ℕ → ℕ) where
  moved-any : (mv : Move) → Whole S mv → (ds : List ℕ) → AllByRecursion (λ j. Agree S dist (T j) (U (f j))) ds → any (λ d. (T d).of mv) ds ≡ any (λ d. (U d).of mv) (map f ds)
  moved-any mv w [] h = refl
  moved-any mv w (d ∷ ds) h = ap₂ ◌||◌ (h.0 mv w) (moved-any mv w ds h.1)

  moved-total : (mv : Move) (ks : List Term) → AllByRecursion (λ k. Agree S state (T k.node) (U (f k.node))) ks → total (λ j. (T j).at) ks mv ≡ total (λ j. (U j).at) (map (retarget f) ks) mv
  moved-total mv [] h = refl
  moved-total mv (k ∷ ks) h =
      total-cons (λ j. (T j).at) k ks mv
      ∙ (ap₂ (λ (x y : ℕ). k.coefficient * x + y) (weigh-same (T k.node).at (U (f k.node)).at h.0 mv) (moved-total mv ks h.1)
      ∙ sym (total-cons (λ j. (U j).at) (retarget f k) (map (retarget f) ks) mv))

  pub renumber-agrees : (l : Line) → AllByRecursion (λ j. Agree S (wants l) (T j) (U (f j))) (parts l) → Agree S (sort l) (sees S T l) (sees S U (renumber f l))
  renumber-agrees (constant state b) h = λ s. refl
  renumber-agrees (constant dist b) h = λ mv w. refl
  renumber-agrees (both state i j) h = λ s. ap₂ ◌&&◌ (h.0 s) (h.1.0 s)
  renumber-agrees (both dist i j) h = λ mv w. ap₂ ◌&&◌ (h.0 mv w) (h.1.0 mv w)
  renumber-agrees (non state i) h = λ s. ap not (h.0 s)
  renumber-agrees (non dist i) h = λ mv w. ap not (h.0 mv w)
  renumber-agrees (step a ms hs) h = λ s.
      ap₂ ◌||◌
      (any_same (λ mv. any (λ d. (T d).of mv) ms) (λ mv. any (λ d. (U d).of mv) (map f ms)) (S.moves s a)
      (All-weaker (Whole S) (λ mv. any (λ d. (T d).of mv) ms ≡ any (λ d. (U d).of mv) (map f ms))
      (λ mv w. moved-any mv w ms (all-front (λ j. Agree S dist (T j) (U (f j))) ms hs h)) (S.moves s a) (g.whole s a)))
      (moved-any (point S s) (omega arith) hs (all_back (λ j. Agree S dist (T j) (U (f j))) ms hs h))
  renumber-agrees (sum t ks) h = λ mv w.
      ap (leb (t * S.mass)) (moved-total mv ks (all_of_map (λ j. Agree S state (T j) (U (f j))) (λ k. k.node) ks h))

-- what is known of a truth value by the tone of its line
abbrev Toned : Tone → Bool → Type 0
Toned yes x = x ≡ true
Toned no x = x ≡ false
Toned neither x = Unit {0}

-- an and and a not, where v tells the truth of lines
module _ (v : Line → Bool) (σ : Sort) (v-yes : v (constant σ true) ≡ true) (v-no : v (constant σ false) ≡ false) where
  both-value : (n : ℕ) (o p : Tone) (a b : Outcome) (x y : Bool) → Toned o x → Toned p y → x ≡ v a.line → y ≡ v b.line
      → (x && y) ≡ v (both σ a.to b.to) → (x && y) ≡ v (both_outcome n σ o p a b).line
  both-value n yes yes a b x y g h ha hb e = ap₂ ◌&&◌ g h ∙ sym v-yes
  both-value n yes no a b x y g h ha hb e = ap₂ ◌&&◌ g h ∙ sym v-no
  both-value n yes neither a b x y g h ha hb e = ap (λ (z : Bool). z && y) g ∙ hb
  both-value n no p a b x y g h ha hb e = ap (λ (z : Bool). z && y) g ∙ sym v-no
  both-value n neither yes a b x y g h ha hb e = ap (λ (z : Bool). x && z) h ∙ (and-true x ∙ ha)
  both-value n neither no a b x y g h ha hb e = ap (λ (z : Bool). x && z) h ∙ (and-false x ∙ sym v-no)
  both-value n neither neither a b x y g h ha hb e = e

  non-value : (o : Tone) (i : ℕ) (x : Bool) → Toned o x → not x ≡ v (non σ i) → not x ≡ v (non_line σ o i)
  non-value yes i x g e = ap not g ∙ sym v-no
  non-value no i x g e = ap not g ∙ sym v-yes
  non-value neither i x g e = e

state≢dist : state ≡ dist → ⊥
state≢dist e = let z : ◌≡◌ {A = ℕ} 0 1 = ap (λ (σ : Sort). elim σ [ state ↦ 0 | dist ↦ 1 ]) e in omega arith

leb_iff : (a b c d : ℕ) → (a ≤ b → c ≤ d) → (c ≤ d → a ≤ b) → leb a b ≡ leb c d
leb_iff a b c d f g = go (cases_lt b a) (cases_lt d c)
  where
    go : (b < a) ⊎ (a ≤ b) → (d < c) ⊎ (c ≤ d) → leb a b ≡ leb c d
    go (inl h) (inl k) = lt-leb a b h ∙ sym (lt-leb c d k)
    go (inl h) (inr k) = absurd (omega (arith, g k))
    go (inr h) (inl k) = absurd (omega (arith, f h))
    go (inr h) (inr k) = le-leb a b h ∙ sym (le-leb c d k)

-- a part C of the sum is taken off the threshold
cut : (t C M R : ℕ) → leb (t * M) (C * M + R) ≡ leb ((t - C) * M) R
cut t C M R = go (cases_lt C t)
  where
    go : (C < t) ⊎ (t ≤ C) → leb (t * M) (C * M + R) ≡ leb ((t - C) * M) R
    go (inl h) =
        let e : t ≡ C + (t - C) = omega arith in
        let f : t * M ≡ (C + (t - C)) * M = ap (λ (x : ℕ). x * M) e in
        leb_iff (t * M) (C * M + R) ((t - C) * M) R (λ k. omega arith) (λ k. omega arith)
    go (inr h) =
        let e : t - C ≡ 0 = omega arith in
        let f : (t - C) * M ≡ 0 * M = ap (λ (x : ℕ). x * M) e in
        le-leb (t * M) (C * M + R) (omega (arith, mul-le-mul_right M h)) ∙ sym (le-leb ((t - C) * M) R (omega arith))

-- T tells the truth of the lines, T' that of the lines that they become
module _ (S : Meaning) (g : Weighed S) (T T' : ℕ → Truth) (E : ℕ → Outcome) where
  -- what is known of a part of the sort σ
  pub record Fit (σ : Sort) (j : ℕ) : Type 0 where
    pub there : Agree S σ (T j) (T' (E j).to)
    pub same : Agree S σ (T j) (sees S T' (E j).line)
    pub is : sort (E j).line ≡ σ

  toned_at : (l : Line) (s : ℕ) → sort l ≡ state → Toned (tone l) ((sees S T' l).at s)
  toned_at (constant state true) s e = refl
  toned_at (constant state false) s e = refl
  toned_at (constant dist b) s e = absurd (state≢dist (sym e))
  toned_at (both σ i j) s e = tt
  toned_at (non σ i) s e = tt
  toned_at (step a ms hs) s e = tt
  toned_at (sum t ks) s e = tt

  toned_of : (l : Line) (mv : Move) → sort l ≡ dist → Toned (tone l) ((sees S T' l).of mv)
  toned_of (constant dist true) mv e = refl
  toned_of (constant dist false) mv e = refl
  toned_of (constant state b) mv e = absurd (state≢dist e)
  toned_of (both σ i j) mv e = tt
  toned_of (non σ i) mv e = tt
  toned_of (step a ms hs) mv e = tt
  toned_of (sum t ks) mv e = tt

  at_part : (j : ℕ) → Fit state j → (s : ℕ) → Toned (tone_of E j) ((T j).at s)
  at_part j f s = subst (Toned (tone_of E j)) (sym (f.same s)) (toned_at (E j).line s f.is)

  of_part : (j : ℕ) → Fit dist j → (mv : Move) → Whole S mv → Toned (tone_of E j) ((T j).of mv)
  of_part j f mv w = subst (Toned (tone_of E j)) (sym (f.same mv w)) (toned_of (E j).line mv f.is)

  -- a step
  module _ (mv : Move) (w : Whole S mv) where
    left-any : (ds : List ℕ) → AllByRecursion (Fit dist) ds → any (λ d. (T d).of mv) ds ≡ any (λ d. (T' d).of mv) (alternatives_left E ds)
    left-any [] h = refl
    left-any (d ∷ ds) h = go (tone_of E d) (of_part d h.0 mv w) (left-any ds h.1)
      where
        rest : List ℕ
        rest = filter (λ d. not (is_no (tone_of E d))) ds

        go : (o : Tone) → Toned o ((T d).of mv) → any (λ d. (T d).of mv) ds ≡ any (λ d. (T' d).of mv) (map (λ d. (E d).to) rest)
            → any (λ d. (T d).of mv) (d ∷ ds) ≡ any (λ d. (T' d).of mv) (map (λ d. (E d).to) (cond (not (is_no o)) (d ∷ rest) rest))
        go yes x e = ap₂ ◌||◌ (h.0.there mv w) e
        go no x e = ap₂ ◌||◌ x e
        go neither x e = ap₂ ◌||◌ (h.0.there mv w) e

    yes-any : (ds : List ℕ) → AllByRecursion (Fit dist) ds → has_yes E ds ≡ true → any (λ d. (T d).of mv) ds ≡ true
    yes-any [] h e = e
    yes-any (d ∷ ds) h e = go (tone_of E d) (of_part d h.0 mv w) (yes-any ds h.1) e
      where
        go : (o : Tone) → Toned o ((T d).of mv) → (has_yes E ds ≡ true → any (λ d. (T d).of mv) ds ≡ true) → (is_yes o || has_yes E ds) ≡ true
            → any (λ d. (T d).of mv) (d ∷ ds) ≡ true
        go yes x f e = ap (λ (y : Bool). y || any (λ d. (T d).of mv) ds) x
        go no x f e = ap₂ ◌||◌ x (f e)
        go neither x f e = ap (λ (y : Bool). (T d).of mv || y) (f e) ∙ or-true ((T d).of mv)

  any_none : {X : Type 0} (xs : List X) → any (λ x. false) xs ≡ false
  any_none [] = refl
  any_none (x ∷ xs) = any_none xs

  step-line_at : (a : ℕ) (ms hs : List ℕ) (s : ℕ) → (sees S T' (step a ms hs)).at s ≡ (sees S T' (step_line a ms hs)).at s
  step-line_at a [] [] s = ap (λ (x : Bool). x || false) (any_none (S.moves s a))
  step-line_at a [] (x ∷ hs) s = refl
  step-line_at a (m ∷ ms) hs s = refl

  step-agrees : (a : ℕ) (ms hs : List ℕ) → AllByRecursion (Fit dist) ms → AllByRecursion (Fit dist) hs → (b : Bool) → has_yes E hs ≡ b → (s : ℕ)
      → (sees S T (step a ms hs)).at s ≡ (sees S T' (cond b (constant state true) (step_line a (alternatives_left E ms) (alternatives_left E hs)))).at s
  step-agrees a ms hs hm hh true e s =
      ap (λ (x : Bool). any (λ mv. any (λ d. (T d).of mv) ms) (S.moves s a) || x) (yes-any (point S s) (omega arith) hs hh e)
      ∙ or-true (any (λ mv. any (λ d. (T d).of mv) ms) (S.moves s a))
  step-agrees a ms hs hm hh false e s =
      ap₂ ◌||◌
      (any_same (λ mv. any (λ d. (T d).of mv) ms) (λ mv. any (λ d. (T' d).of mv) (alternatives_left E ms)) (S.moves s a)
      (All-weaker (Whole S) (λ mv. any (λ d. (T d).of mv) ms ≡ any (λ d. (T' d).of mv) (alternatives_left E ms)) (λ mv w. left-any mv w ms hm) (S.moves s a) (g.whole s a)))
      (left-any (point S s) (omega arith) hs hh)
      ∙ step-line_at a (alternatives_left E ms) (alternatives_left E hs) s

  -- a sum
  module _ (mv : Move) (w : Whole S mv) where
    split : (ks : List Term) → AllByRecursion (λ k. Fit state k.node) ks
        → total (λ j. (T j).at) ks mv ≡ yes_part E ks * S.mass + total (λ j. (T' j).at) (terms_left E ks) mv
    split [] h = omega arith
    split (k ∷ ks) h = go (tone_of E k.node) (at_part k.node h.0) (split ks h.1)
      where
        ys : List Term
        ys = filter (λ k. is_yes (tone_of E k.node)) ks

        rest : List Term
        rest = filter (λ k. is_neither (tone_of E k.node)) ks

        go : (o : Tone) → ((s : ℕ) → Toned o ((T k.node).at s)) → total (λ j. (T j).at) ks mv ≡ coefficients ys * S.mass + total (λ j. (T' j).at) (map (retarget (λ j. (E j).to)) rest) mv
            → total (λ j. (T j).at) (k ∷ ks) mv
            ≡ coefficients (cond (is_yes o) (k ∷ ys) ys) * S.mass + total (λ j. (T' j).at) (map (retarget (λ j. (E j).to)) (cond (is_neither o) (k ∷ rest) rest)) mv
        go yes x e =
            let c : k.coefficient * weigh (T k.node).at mv ≡ k.coefficient * S.mass = ap (λ (n : ℕ). k.coefficient * n) (weigh-yes (T k.node).at x mv ∙ w) in
            let d : coefficients (k ∷ ys) * S.mass ≡ (k.coefficient + coefficients ys) * S.mass = ap (λ (n : ℕ). n * S.mass) (coefficients-cons k ys) in
            omega (arith, total-cons (λ j. (T j).at) k ks mv)
        go no x e =
            let c : k.coefficient * weigh (T k.node).at mv ≡ k.coefficient * 0 = ap (λ (n : ℕ). k.coefficient * n) (weigh-no (T k.node).at x mv) in
            omega (arith, total-cons (λ j. (T j).at) k ks mv)
        go neither x e =
            let c : k.coefficient * weigh (T k.node).at mv ≡ k.coefficient * weigh (T' (E k.node).to).at mv =
            ap (λ (n : ℕ). k.coefficient * n) (weigh-same (T k.node).at (T' (E k.node).to).at h.0.there mv) in
            omega (arith, total-cons (λ j. (T j).at) k ks mv, total-cons (λ j. (T' j).at) (retarget (λ j. (E j).to) k) (map (retarget (λ j. (E j).to)) rest) mv)

    sum-line_of : (t : ℕ) (ks : List Term) (b c : Bool) → eqb t 0 ≡ b → ltb (coefficients ks) t ≡ c
        → (sees S T' (sum t ks)).of mv ≡ (sees S T' (cond b (constant dist true) (cond c (constant dist false) (sum t ks)))).of mv
    sum-line_of t ks true c e f =
        let z : t * S.mass ≡ 0 * S.mass = ap (λ (n : ℕ). n * S.mass) (eqb-true t 0 e) in
        le-leb (t * S.mass) (total (λ j. (T' j).at) ks mv) (omega arith)
    sum-line_of t ks false true e f =
        lt-leb (t * S.mass) (total (λ j. (T' j).at) ks mv)
        (omega (arith, total-le S.mass (λ j. (T' j).at) mv w ks, mul-le-mul_right S.mass (ltb-true (coefficients ks) t f), g.heavy))
    sum-line_of t ks false false e f = refl

  pub became-agrees : (n : ℕ) (l : Line) → AllByRecursion (Fit (wants l)) (parts l) → Agree S (sort l) (sees S T l) (sees S T' (became n E l).line)
  became-agrees n (constant state b) h = λ s. refl
  became-agrees n (constant dist b) h = λ mv w. refl
  became-agrees n (both state i j) h = λ s.
      both-value (λ l. (sees S T' l).at s) state refl refl n (tone_of E i) (tone_of E j) (E i) (E j) ((T i).at s) ((T j).at s)
      (at_part i h.0 s) (at_part j h.1.0 s) (h.0.same s) (h.1.0.same s) (ap₂ ◌&&◌ (h.0.there s) (h.1.0.there s))
  became-agrees n (both dist i j) h = λ mv w.
      both-value (λ l. (sees S T' l).of mv) dist refl refl n (tone_of E i) (tone_of E j) (E i) (E j) ((T i).of mv) ((T j).of mv)
      (of_part i h.0 mv w) (of_part j h.1.0 mv w) (h.0.same mv w) (h.1.0.same mv w) (ap₂ ◌&&◌ (h.0.there mv w) (h.1.0.there mv w))
  became-agrees n (non state i) h = λ s.
      non-value (λ l. (sees S T' l).at s) state refl refl (tone_of E i) (E i).to ((T i).at s) (at_part i h.0 s) (ap not (h.0.there s))
  became-agrees n (non dist i) h = λ mv w.
      non-value (λ l. (sees S T' l).of mv) dist refl refl (tone_of E i) (E i).to ((T i).of mv) (of_part i h.0 mv w) (ap not (h.0.there mv w))
  became-agrees n (step a ms hs) h = λ s.
      step-agrees a ms hs (all-front (Fit dist) ms hs h) (all_back (Fit dist) ms hs h) (has_yes E hs) refl s
  became-agrees n (sum t ks) h = λ mv w.
      ap (leb (t * S.mass)) (split mv w ks (all_of_map (Fit state) (λ k. k.node) ks h))
      ∙ (cut t (yes_part E ks) S.mass (total (λ j. (T' j).at) (terms_left E ks) mv)
      ∙ sum-line_of mv w (t - yes_part E ks) (terms_left E ks) (eqb (t - yes_part E ks) 0) (ltb (coefficients (terms_left E ks)) (t - yes_part E ks)) refl refl)
