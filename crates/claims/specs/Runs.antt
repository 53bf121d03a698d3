-- Runs of calls on a claim, each call being what its contract tells.
use Rattle.std.specs.Prelude.{◌≡◌, ℕ, true, List, length, is_err, Ok, Err, Result}
use Rattle.systems.specs.declared.actions.ActionSet.{ActionSet}
use Rattle.systems.specs.Meaning.{Meaning, Sound}
use Rattle.formulas.specs.declared.draft.Draft.{Draft}
use Rattle.formulas.specs.declared.node.Fills.{Fills}
use Rattle.formulas.specs.Tables.{Slots, stands_in, contents}
use Rattle.simplification.specs.Tables.{desk}
use Rattle.claims.specs.declared.claim.Claim.{Claim}
use Rattle.formulas.specs.declared.refusal.Refusal.{Refusal}
use Rattle.formulas.specs.declared.tables.Tables.{Tables}
use Rattle.claims.specs.declared.verdict.Verdict.{Verdict}
use Rattle.claims.specs.Books.{removing, simplifying, judging, Entry, entry, Book, new_book, fed, Stage, stage, formula_on}
use Rattle.claims.specs.Claims.{Opened}
use Rattle.claims.specs.Removals.{Answer, Removes}
use Rattle.claims.specs.Simplifications.{Simplifies}
use Rattle.claims.specs.Verdicts.{judged}

-- after remove: the new claim goes on in the second tables, a refused one in its own
abbrev pub onward : Slots → Answer → Slots → Stage
onward s (Ok x) after = stage x.0 after
onward s (Err e) after = stage e.0 s

-- one call on the claim at g: what is noted of it, and where the claim is then
pub data Step (g : Stage) : Entry → Stage → Type 0 where
  remove : (R : Meaning) (second after : Slots) (r : Answer)
      → Sound R → Removes R g.claim g.tables second r after → Step g (entry (removing R) (is_err r)) (onward g.tables r after)
  simplify : (map map' : List ℕ) (s : Slots) (c : Claim) (r : Result Fills Refusal)
      → Simplifies g.claim (desk g.tables map) r c (desk s map') → Step g (entry simplifying (is_err r)) (stage c s)
  judge : (S : Meaning) (t : Tables) (truth row : List ℕ) (r : Result Verdict Refusal)
      → Sound S → contents t ≡ g.tables → r ≡ judged S g.claim t (length truth) (length row) → Step g (entry (judging S) (is_err r)) g

-- calls, one after another, from g to another stage, and the book that is kept of them
pub data Run (g : Stage) : Book → Stage → Type 0 where
  begin : Run g (new_book (formula_on g)) g
  call : {k : Book} {e : Entry} {h i : Stage} → Run g k h → Step h e i → Run g (fed k e) i

-- a new claim: one that open makes of a draft
pub record New (A : ActionSet) (g : Stage) : Type 0 where
  pub draft : Draft
  pub held : stands_in draft.fills draft.root 1 g.tables ≡ true
  pub opened : Opened draft A g.claim
