-- A stack is piled from its end.
use Rattle.std.proofs.Common.{◌≡◌, ℕ, ◌+◌, ◌≤◌, Bool, List, [], ◌∷◌, ◌++◌, length, IfOk, Some, None, Err, rc_value, Option, Result, sym, refl, ap, ◌∙◌, subst, ap₂, arith, length-append}
use mathlib.Core.List.{map-append}
use Rattle.std.specs.declared.rc.Rc.{Rc}
use Rattle.systems.specs.declared.actions.ActionSet.{ActionSet}
use Rattle.systems.specs.declared.any.AnySystem.{AnySystem}
use Rattle.systems.specs.declared.fault.Fault.{Fault}
use Rattle.systems.specs.Actions.{has}
use Rattle.systems.specs.Any.{any_meaning}
use Rattle.systems.specs.Meaning.{Meaning}
use Rattle.systems.specs.Piles.{pile, refusal}
use Rattle.systems.specs.Stacks.{stack}
use Rattle.claims.specs.declared.claim.Claim.{Claim}
use Rattle.formulas.specs.declared.tables.Tables.{Tables}
use Rattle.qcheck.specs.declared.refused.Refused.TheVariants.{System}
use Rattle.qcheck.specs.Answers.{Answer, answer_on, either_fault, pile_fault, unless, answer_over, meanings, Told, ToldOver}

-- the last of the systems over S is the one next to it
stack-last : (A : ℕ → Bool) (Ms : List Meaning) (M S : Meaning) → stack A (Ms ++ (M ∷ [])) S ≡ stack A Ms (pile A M S)
stack-last A [] M S = refl
stack-last A (N ∷ Ms) M S = ap (pile A N) (stack-last A Ms M S)

either_assoc : (a b c : Option Fault) → either_fault (either_fault a b) c ≡ either_fault a (either_fault b c)
either_assoc (Some f) b c = refl
either_assoc None b c = refl

-- and is the first to be refused
fault_last : (A : ℕ → Bool) (Ms : List Meaning) (M S : Meaning) → pile_fault A (Ms ++ (M ∷ [])) S ≡ either_fault (refusal M S) (pile_fault A Ms (pile A M S))
fault_last A [] M S = either_none (refusal M S)
  where
    either_none : (o : Option Fault) → o ≡ either_fault o None
    either_none (Some f) = refl
    either_none None = refl
fault_last A (N ∷ Ms) M S =
    ap₂ either_fault (fault_last A Ms M S) (ap (refusal N) (stack-last A Ms M S))
    ∙ either_assoc (refusal M S) (pile_fault A Ms (pile A M S)) (refusal N (stack A Ms (pile A M S)))

-- the last system u of the stack xs is piled over S, with the actions A
module _ {Z : Type 0} (xs ys : List (Rc AnySystem Z)) (u : Rc AnySystem Z) (A : ActionSet) (S : Meaning) (c : Claim) (t : Tables) (whole : xs ≡ ys ++ (u ∷ [])) (shared : A ≡ c.shared) where
  upper : Meaning
  upper = any_meaning (rc_value u)

  apart : meanings xs ≡ meanings ys ++ (upper ∷ [])
  unfolding upper
  apart = ap meanings whole ∙ map-append (λ x. any_meaning (rc_value x)) ys (u ∷ [])

  answer-apart : answer_over (meanings xs) S c t ≡ unless (either_fault (refusal upper S) (pile_fault (has c.shared) (meanings ys) (pile (has c.shared) upper S))) (answer_on (stack (has c.shared) (meanings ys) (pile (has c.shared) upper S)) c t)
  answer-apart =
      ap (λ Ms. answer_over Ms S c t) apart
      ∙ ap₂ (λ f M. unless f (answer_on M c t)) (fault_last (has c.shared) (meanings ys) upper S) (stack-last (has c.shared) (meanings ys) upper S)

  -- into one that means P
  pub told_piled : {E : Type 0} (P : Meaning) (r : Result Answer E) → P ≡ pile (has A) (any_meaning (rc_value u)) S → IfOk r (ToldOver ys P c t) → IfOk r (ToldOver xs S c t)
  unfolding upper
  told_piled P r piled h =
      subst (λ M. IfOk r (Told M c t))
      (ap (stack (has c.shared) (meanings ys)) (piled ∙ ap (λ B. pile (has B) upper S) shared)
      ∙ sym (ap (λ Ms. stack (has c.shared) Ms S) apart ∙ stack-last (has c.shared) (meanings ys) upper S))
      h

  pub answered_piled : {E : Type 0} (P : Meaning) (r : Result Answer E) → refusal (any_meaning (rc_value u)) S ≡ None → P ≡ pile (has A) (any_meaning (rc_value u)) S → IfOk r (λ a. a ≡ answer_over (meanings ys) P c t) → IfOk r (λ a. a ≡ answer_over (meanings xs) S c t)
  unfolding upper
  answered_piled P r free piled h =
      subst (λ b. IfOk r (λ a. a ≡ b))
      (ap (λ M. answer_over (meanings ys) M c t) (piled ∙ ap (λ B. pile (has B) upper S) shared)
      ∙ ap (λ o. unless (either_fault o (pile_fault (has c.shared) (meanings ys) (pile (has c.shared) upper S))) (answer_on (stack (has c.shared) (meanings ys) (pile (has c.shared) upper S)) c t)) (sym free)
      ∙ sym answer-apart)
      h

  -- it is refused
  pub answer-refused : (f : Fault) → refusal (any_meaning (rc_value u)) S ≡ Some f → Err (System f) ≡ answer_over (meanings xs) S c t
  unfolding upper
  answer-refused f fault =
      ap (λ o. unless (either_fault o (pile_fault (has c.shared) (meanings ys) (pile (has c.shared) upper S))) (answer_on (stack (has c.shared) (meanings ys) (pile (has c.shared) upper S)) c t)) (sym fault)
      ∙ sym answer-apart

  -- one fewer is left
  pub one_fewer : (k : ℕ) → length xs ≤ k + 1 → length ys ≤ k
  one_fewer k few = omega (arith, ap length whole, length-append ys (u ∷ []))
