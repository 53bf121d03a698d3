-- A claim with owned tables, and calls on it as steps of a run.
use Rattle.std.specs.Prelude.{Ok, Err, is_err, vec_items, Result}
use Rattle.systems.specs.Meaning.{Meaning}
use Rattle.formulas.specs.declared.node.Fills.{Fills}
use Rattle.formulas.specs.Tables.{Slots, slots}
use Rattle.formulas.specs.declared.refusal.Refusal.{Refusal}
use Rattle.claims.specs.Books.{removing, simplifying, entry, Stage, stage}
use Rattle.claims.specs.Runs.{Step}
use Rattle.qcheck.specs.declared.case.Case.{Case}
use Rattle.qcheck.specs.declared.case.Store.{Store}

-- the entries of owned tables
abbrev pub owned : Store → Slots
owned s = slots (vec_items s.nodes) (vec_items s.terms) (vec_items s.alternatives)

-- where the claim of a case is
abbrev pub stage_of : Case → Stage
stage_of c = stage c.claim (owned c.store)

-- the cases before and after simplify are one step apart
abbrev pub Simplification : Case → Case → Result Fills Refusal → Type 0
Simplification before after r = Step (stage_of before) (entry simplifying (is_err r)) (stage_of after)

-- the case that a removal leaves, or gives back
abbrev pub left_by : Result (Case × Fills) (Case × Refusal) → Case
left_by (Ok left) = left.0
left_by (Err back) = back.0

-- the cases before and after the removal of R are one step apart
abbrev pub Removal : Meaning → Case → Result (Case × Fills) (Case × Refusal) → Type 0
Removal R before r = Step (stage_of before) (entry (removing R) (is_err r)) (stage_of (left_by r))
