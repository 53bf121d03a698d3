-- A line holds exactly where it is satisfied.
use Rattle.std.proofs.Common.{◌≡◌, ℕ, zero, suc, ◌*◌, ◌<◌, Bool, true, false, not, ◌&&◌, ◌||◌, ◌⊎◌, List, [], ◌∷◌, length, get_or, sym, refl, ap, ◌∙◌, inl, inr, suc-le-suc, zero-le, le_of_suc-le-suc, not-suc-le-zero}
use Rattle.std.proofs.lemmas.Bool.{and_parts, and_from, or_cases, or_left, or_right, not-true, not_from_false, both_ways, cases_Bool, false≢true, leb-true, le-leb}
use Rattle.systems.specs.Meaning.{Meaning, Move, point}
use Rattle.formulas.specs.Lines.{state, dist, Line, constant, both, non, step, sum}
use Rattle.formulas.specs.Truths.{any, holds_at, holds_of, truths, at_node, of_node, total}
use Rattle.formulas.specs.Satisfaction.{Iff, Some, SatisfiedIn, SatisfiedOf}
use Rattle.formulas.specs.Laws.{InLaw, OfLaw}
use Rattle.formulas.proofs.Course.{truths-at}

module _ {X : Type 0} (d : X) (p : X → Bool) (P : X → Type 0) where
  any_some : ((x : X) → p x ≡ true → P x) → (xs : List X) → any p xs ≡ true → Some d xs P
  any_some f [] h = absurd (false≢true h)
  any_some f (x ∷ xs) h = elim (or_cases (p x) (any p xs) h) [ inl e ↦ (0, suc-le-suc zero-le, f x e) | inr e ↦ let r = any_some f xs e in (suc r.0, suc-le-suc r.1, r.2) ]

  some-any : ((x : X) → P x → p x ≡ true) → (xs : List X) (k : ℕ) → k < length xs → P (get_or xs k d) → any p xs ≡ true
  some-any g [] k l h = absurd (not-suc-le-zero l)
  some-any g (x ∷ xs) zero l h = or_left (p x) (any p xs) (g x h)
  some-any g (x ∷ xs) (suc k) l h = or_right (p x) (any p xs) (some-any g xs k (le_of_suc-le-suc l) h)

  -- some entry passes the test exactly if P holds of some entry
  some_iff : ((x : X) → Iff (p x ≡ true) (P x)) → (xs : List X) → Iff (any p xs ≡ true) (Some d xs P)
  some_iff f xs = (any_some (λ x. (f x).0) xs, λ h. some-any (λ x. (f x).1) xs h.0 h.1 h.2)

same : {A : Type 0} → Iff A A
same = (λ h. h, λ h. h)

not_iff : (b : Bool) → Iff (not b ≡ true) (b ≡ true → ⊥)
not_iff b = (λ h. both_ways b (not-true b h), λ n. elim (cases_Bool b) [ inl e ↦ absurd (n e) | inr e ↦ not_from_false b e ])

or_iff : (b c : Bool) (B C : Type 0) → Iff (b ≡ true) B → Iff (c ≡ true) C → Iff ((b || c) ≡ true) (B ⊎ C)
or_iff b c B C f g = (λ h. elim (or_cases b c h) [ inl e ↦ inl (f.0 e) | inr e ↦ inr (g.0 e) ], λ h. elim h [ inl e ↦ or_left b c (f.1 e) | inr e ↦ or_right b c (g.1 e) ])

and_iff : (b c : Bool) → Iff ((b && c) ≡ true) ((b ≡ true) × (c ≡ true))
and_iff b c = (and_parts b c, λ h. and_from b c h.0 h.1)

nowhere : Iff (false ≡ true) ⊥
nowhere = (λ h. false≢true h, λ h. absurd h)

everywhere : Iff (true ≡ true) (Unit {0})
everywhere = (λ _. tt, λ _. refl)

module _ (S : Meaning) (ls : List Line) where
  abbrev at : ℕ → ℕ → Bool
  at = at_node (truths S ls)

  abbrev of : ℕ → Move → Bool
  of = of_node (truths S ls)

  in_line : (s : ℕ) (l : Line) → Iff (holds_at S at of l s ≡ true) (SatisfiedIn S ls s l)
  in_line s (constant state true) = everywhere
  in_line s (constant state false) = nowhere
  in_line s (constant dist b) = nowhere
  in_line s (both state i j) = and_iff (at i s) (at j s)
  in_line s (both dist i j) = nowhere
  in_line s (non state i) = not_iff (at i s)
  in_line s (non dist i) = nowhere
  in_line s (step a ms hs) =
      or_iff _ _ _ _
      (some_iff [] (λ mv. any (λ d. of d mv) ms) (λ mv. Some 0 ms (λ d. of d mv ≡ true)) (λ mv. some_iff 0 (λ d. of d mv) (λ d. of d mv ≡ true) (λ d. same) ms) (S.moves s a))
      (some_iff 0 (λ d. of d (point S s)) (λ d. of d (point S s) ≡ true) (λ d. same) hs)
  in_line s (sum t ks) = nowhere

  of-line : (mv : Move) (l : Line) → Iff (holds_of S at of l mv ≡ true) (SatisfiedOf S ls mv l)
  of-line mv (constant dist true) = everywhere
  of-line mv (constant dist false) = nowhere
  of-line mv (constant state b) = nowhere
  of-line mv (both dist i j) = and_iff (of i mv) (of j mv)
  of-line mv (both state i j) = nowhere
  of-line mv (non dist i) = not_iff (of i mv)
  of-line mv (non state i) = nowhere
  of-line mv (step a ms hs) = nowhere
  of-line mv (sum t ks) = (leb-true (t * S.mass) (total at ks mv), le-leb (t * S.mass) (total at ks mv))

-- what holds of a test holds of an equal one
moved : (b c : Bool) (C : Type 0) → b ≡ c → Iff (c ≡ true) C → Iff (b ≡ true) C
moved b c C e f = (λ h. f.0 (sym e ∙ h), λ h. e ∙ f.1 h)

pub in_law : InLaw
in_law S ls i s formed l = moved _ _ _ (ap (λ t. t.at s) (truths-at S ls formed i l)) (in_line S ls s (get_or ls i (constant state true)))

pub of-law : OfLaw
of-law S ls i mv formed l = moved _ _ _ (ap (λ t. t.of mv) (truths-at S ls formed i l)) (of-line S ls mv (get_or ls i (constant state true)))
