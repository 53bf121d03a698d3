-- The moves of a pile, and what they weigh.
use Rattle.std.proofs.Common.{◌≡◌, ℕ, ◌+◌, ◌*◌, ◌/◌, ◌%◌, ◌<◌, Bool, true, false, cond, [], sum_by, sym, refl, ap, ◌∙◌, ap₂, mul-zero}
use lib.Arith.{digits_lt}
use Rattle.std.proofs.lemmas.Bool.{lt-ltb, cond-true}
use Rattle.std.proofs.lemmas.Nat.{div-mul-add, mod-mul-add}
use Rattle.systems.specs.Meaning.{Meaning, Move}
use Rattle.systems.specs.Piles.{over, pair, moves_over, pile_moves, pile}
use Rattle.formulas.specs.Truths.{weigh}
use Rattle.quotient.specs.Theorems.{Into}
use Rattle.quotient.proofs.Lists.{sum_by_on, sum_by_eq, sum_by_mul, sum_by_cross, all_cross}

-- the moves of u over v
pub pile-at : (A : ℕ → Bool) (U L : Meaning) (u v a : ℕ) → u < U.states → v < L.states → (pile A U L).moves (u * L.states + v) a ≡ moves_over A U L u v a
unfolding pile_moves
pile-at A U L u v a hu hv =
    cond-true _ (moves_over A U L ((u * L.states + v) / L.states) ((u * L.states + v) % L.states) a) [] (lt-ltb _ _ (digits_lt hu hv))
    ∙ ap₂ (λ (x y : ℕ). moves_over A U L x y a) (div-mul-add u L.states v hv) (mod-mul-add u L.states v hv)

pub weigh_on : (n : ℕ) (P Q : ℕ → Bool) (mv : Move) → Into n mv → ((s : ℕ) → s < n → P s ≡ Q s) → weigh P mv ≡ weigh Q mv
weigh_on n P Q mv h e = sum_by_on mv h (λ t l. ap (λ b. cond b t.weight 0) (e t.state l))

cond-mul : (b : Bool) (w x : ℕ) → cond b (w * x) 0 ≡ w * cond b x 0
cond-mul true w x = refl
cond-mul false w x = sym (mul-zero w)

-- each upper target has its weight times what the lower move weighs under it
pub weigh-pair : (P : ℕ → Bool) (k : ℕ) (mu ml : Move) → weigh P (pair k mu ml) ≡ sum_by (λ t. t.weight * weigh (λ v. P (t.state * k + v)) ml) mu
weigh-pair P k mu ml =
    sum_by_cross (over k) (λ t. cond (P t.state) t.weight 0) mu ml
    ∙ sum_by_eq mu (λ t.
    sum_by_eq ml (λ u. cond-mul (P (t.state * k + u.state)) t.weight u.weight) ∙ sum_by_mul t.weight (λ u. cond (P (t.state * k + u.state)) u.weight 0) ml)

pub pair_into : (n k : ℕ) (mu ml : Move) → Into n mu → Into k ml → Into (n * k) (pair k mu ml)
pair_into n k mu ml hu hl = all_cross (over k) (λ t. t.state < n * k) mu ml hu hl (λ t u p q. digits_lt p q)
