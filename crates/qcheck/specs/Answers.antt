-- What is answered to a judge line, and what an answer tells: on systems piled over one another, the first on top.
use Rattle.std.specs.Prelude.{◌≡◌, ℕ, ◌*◌, min, Bool, cond, List, [], ◌∷◌, map, length, IfOk, Some, None, Ok, Err, Option, Result, nat_lt}
use Rattle.std.specs.Rc.{rc_value}
use Rattle.std.specs.declared.rc.Rc.{Rc}
use Rattle.systems.specs.declared.any.AnySystem.{AnySystem}
use Rattle.systems.specs.declared.fault.Fault.{Fault}
use Rattle.systems.specs.declared.fault.Fault.TheVariants.{Size}
use Rattle.systems.specs.Actions.{has}
use Rattle.systems.specs.Any.{any_meaning}
use Rattle.systems.specs.Meaning.{Meaning}
use Rattle.systems.specs.Piles.{refusal}
use Rattle.systems.specs.Stacks.{stack}
use Rattle.formulas.specs.Truths.{holds}
use Rattle.claims.specs.declared.claim.Claim.{Claim}
use Rattle.formulas.specs.declared.refusal.Refusal.{Refusal}
use Rattle.formulas.specs.declared.tables.Tables.{Tables}
use Rattle.claims.specs.declared.verdict.Verdict.{Verdict}
use Rattle.claims.specs.Claims.{formula}
use Rattle.claims.specs.Verdicts.{verdict, judged}
use Rattle.qcheck.specs.declared.refused.Refused.{Refused}
use Rattle.qcheck.specs.declared.refused.Refused.TheVariants.{System, Claim as Call}

-- a verdict, or why there is none
abbrev pub Answer : Type 0
Answer = Result Verdict Refused

abbrev pub told : Result Verdict Refusal → Answer
told (Ok v) = Ok v
told (Err why) = Err (Call why)

-- on one system: the truth table has as many bytes as are needed, but no more than 2^28
abbrev pub answer_on : Meaning → Claim → Tables → Answer
answer_on M c t = told (judged M c t (min (c.fills.nodes * M.states) 268435456) c.fills.nodes)

-- the first fault that there is
abbrev pub either_fault : Option Fault → Option Fault → Option Fault
either_fault (Some f) o = Some f
either_fault None o = o

-- why the systems Ms cannot be piled over S: they are piled from below
abbrev pub pile_fault : (ℕ → Bool) → List Meaning → Meaning → Option Fault
pile_fault A [] S = None
pile_fault A (M ∷ Ms) S = either_fault (pile_fault A Ms S) (refusal M (stack A Ms S))

abbrev pub unless : Option Fault → Answer → Answer
unless (Some f) a = Err (System f)
unless None a = a

-- on the systems Ms piled over S with the actions that the claim shares
abbrev pub answer_over : List Meaning → Meaning → Claim → Tables → Answer
answer_over Ms S c t = unless (pile_fault (has c.shared) Ms S) (answer_on (stack (has c.shared) Ms S) c t)

-- at most five are piled over another; more are too large
abbrev pub answer_to : List Meaning → Meaning → Claim → Tables → Answer
answer_to Ms S c t = cond (nat_lt 5 (length Ms)) (Err (System Size)) (answer_over Ms S c t)

-- what the systems of a stack mean
abbrev pub meanings : {Z : Type 0} → List (Rc AnySystem Z) → List Meaning
meanings systems = map (λ s. any_meaning (rc_value s)) systems

-- a verdict is the truth of the claim's formula on a system that means M; a refusal tells nothing
abbrev pub Told : Meaning → Claim → Tables → Answer → Type 0
Told M c t a = IfOk a (λ v. v ≡ verdict (holds M (formula c t)))

-- the answer is told of these systems over one that means S, piled with the actions that the claim shares
abbrev pub ToldOver : {Z : Type 0} → List (Rc AnySystem Z) → Meaning → Claim → Tables → Answer → Type 0
ToldOver systems S c t a = Told (stack (has c.shared) (meanings systems) S) c t a
