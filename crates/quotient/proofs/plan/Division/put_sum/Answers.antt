use Rattle.std.proofs.Common.{◌≤◌, List, sym, subst, arith}
use Rattle.std.specs.List.{AllByRecursion}
use Rattle.systems.specs.Piles.{cross}
use Rattle.formulas.specs.declared.node.Term.{Term}
use Rattle.formulas.specs.Append.{table}
use Rattle.quotient.specs.Plans.{LightTerm, term_at}
use Rattle.quotient.proofs.Dividing.{light-threshold, light-terms}
use Rattle.quotient.proofs.Laying.{fill-grows}
use Rattle.quotient.proofs.plan.Division.put_sum.Goals as goal

pub put_terms-requires-clause-terms : goal.put_terms-requires-clause-terms
put_terms-requires-clause-terms g c =
    let Light : List Term → Type 0 = λ l. AllByRecursion (LightTerm c.args.self.now.plan) l in
    subst Light (sym c.entries-parts.ensures) (light-terms c.args.self.now.plan c.args.sum c.requires.fit)

pub overflow_sub-end : goal.overflow_sub-end
overflow_sub-end g c =
    let small : c.args.out.now.terms.now.fill ≤ 4294967295 = omega arith in
    fill-grows (table c.args.out.now.terms.now) (table c.put_terms.new.out) (cross (term_at c.args.self.now.plan) c.entries-parts.result.now c.args.targets.now) c.put_terms.ensures.wrote small

pub overflow_mul-sum : goal.overflow_mul-sum
overflow_mul-sum g c = omega (arith, light-threshold c.args.self.now.plan c.args.sum c.requires.fit)
