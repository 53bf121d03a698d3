use Rattle.std.proofs.Common.{ℕ, ◌^◌, ◌<◌, Bool, cond, length, get_or, sum_by, rules, arith}
use Rattle.std.proofs.ByRecursion.{All-get_or}
use Rattle.std.proofs.iter.Serving.{serving}
use Rattle.std.proofs.iter.runs.Made.{chains}
use Rattle.formulas.specs.declared.node.Term.{Term}
use Rattle.claims.specs.Sums.{lit, RowAt}
use Rattle.claims.proofs.Totals.{coefficients-le}
use Rattle.claims.proofs.truths.Truths.coefficients_at.Goals as goal

pub sum-requires-clause-can : goal.sum-requires-clause-can
sum-requires-clause-can c =
    let t = c.args.self.now in
    let inside = c.requires.inside in
    let room : (k : ℕ) (d : Term) → k < length c.args.terms.now → RowAt t.states (length t.bytes.now) (get_or c.args.terms.now k d).node = λ k d h. All-get_or (λ (u : Term). RowAt t.states (length t.bytes.now) u.node) c.args.terms.now k d h c.requires.room in
    grind (serving, room, inside)

pub sum-requires-clause-fits : goal.sum-requires-clause-fits
sum-requires-clause-fits c =
    let t = c.args.self.now in
    let P : ℕ → Bool = λ i. lit t.bytes.now t.states i c.args.state in
    let small : sum_by (λ (k : Term). cond (lit t.bytes.now t.states k.node c.args.state) k.coefficient 0) c.args.terms.now < 2 ^ 64 = omega (arith, coefficients-le P c.args.terms.now, c.requires.light) in
    search (rules, chains, small)
