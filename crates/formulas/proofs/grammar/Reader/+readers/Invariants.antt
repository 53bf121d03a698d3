-- The unread bytes fall; where none is read before the call, the rank does.
use Rattle.formulas.specs.Stores.{SameTables, filled}
use Rattle.formulas.proofs.Summing.{Partly}
use Rattle.formulas.proofs.Taking.{measure}
use Rattle.formulas.proofs.grammar.Reader.+readers.Given as goal

abbrev pub decreases-at_least : goal.decreases-at_least
decreases-at_least l = measure l.self.now.words 1

abbrev pub decreases-diamond : goal.decreases-diamond
decreases-diamond l = measure l.self.now.words 1

abbrev pub decreases-dist_inside : goal.decreases-dist_inside
decreases-dist_inside l = measure l.self.now.words 3

abbrev pub decreases-dist_term : goal.decreases-dist_term
decreases-dist_term l = measure l.self.now.words 0

abbrev pub decreases-element : goal.decreases-element
decreases-element l = measure l.self.now.words 0

abbrev pub decreases-here : goal.decreases-here
decreases-here l = measure l.self.now.words 1

abbrev pub decreases-product : goal.decreases-product
decreases-product l = measure l.self.now.words 0

abbrev pub decreases-quantity : goal.decreases-quantity
decreases-quantity l = measure l.self.now.words 0

abbrev pub decreases-several : goal.decreases-several
decreases-several l = measure l.self.now.words 1

abbrev pub decreases-single : goal.decreases-single
decreases-single l = measure l.self.now.words 1

abbrev pub decreases-state_inside : goal.decreases-state_inside
decreases-state_inside l = measure l.self.now.words 3

abbrev pub decreases-negation : goal.decreases-negation
decreases-negation l = measure l.self.now.words 2

abbrev pub decreases-pair : goal.decreases-pair
decreases-pair l = measure l.self.now.words 2

abbrev pub decreases-state_term : goal.decreases-state_term
decreases-state_term l = measure l.self.now.words 0

abbrev pub decreases-sum : goal.decreases-sum
decreases-sum l = measure l.self.now.words 0

abbrev pub decreases-sum_inside : goal.decreases-sum_inside
decreases-sum_inside l = measure l.self.now.words 2

abbrev pub decreases-term : goal.decreases-term
decreases-term l = measure l.self.now.words 1

abbrev pub invariant-several-loop-x : goal.invariant-several-loop-x
invariant-several-loop-x l =
    SameTables l.initial.self l.self
    × Partly l.room l.initial.self.words (filled l.initial.self) l.found l.left l.self.words (filled l.self)

abbrev pub decreases-several-loop-x : goal.decreases-several-loop-x
decreases-several-loop-x l = measure l.self.words 0
