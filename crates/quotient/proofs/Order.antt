-- The order of the systems in a stack does not matter.
use Rattle.std.proofs.Common.{◌≡◌, ℕ, ◌+◌, ◌*◌, ◌/◌, ◌%◌, ◌<◌, Bool, true, false, cond, ◌||◌, List, ◌++◌, map, sum_by, sym, refl, ap, ◌∙◌, subst, ap₂, add-zero, zero-mul, mul_left_comm}
use mathlib.Core.List.{Permᴰ}
use native.Mathlib.Nat.{one-le-mul, zero-div, zero-mod}
use lib.Arith.{digits_lt}
use Rattle.std.specs.List.{AllByRecursion}
use Rattle.std.proofs.lemmas.Nat.{div-add-mod', div-mul-add, mod-mul-add, div_below, mod_below}
use Rattle.systems.specs.Meaning.{Meaning, Move, Shaped, point}
use Rattle.systems.specs.Piles.{cross, over, pair, moves_over, pile}
use Rattle.formulas.specs.Laws.{CourseLaw}
use Rattle.formulas.specs.Lines.{Formula}
use Rattle.formulas.specs.Truths.{weigh, any, holds}
use Rattle.quotient.specs.Quotient.{quotient}
use Rattle.systems.specs.Stacks.{stack}
use Rattle.quotient.specs.Theorems.{Into, OrderLaw}
use Rattle.formulas.specs.WellFormed.{WellFormed}
use Rattle.quotient.proofs.Lists.{any_append, any_on, any_eq, any-map, any_swap, any-cross, or_left, sum_by_on, sum_by_eq, sum_by_swap, sum_by_cross}
use Rattle.quotient.proofs.Piles.{pile-at, pair_into}
use Rattle.quotient.proofs.Quotients.{quotient-law}
use Rattle.quotient.proofs.Rules.{stack_shaped}
use Rattle.quotient.proofs.Same.{Near, same-holds}

-- a test of the moves of two systems on X
module _ (A : ℕ → Bool) (r₁ r₂ X : Meaning) (φ : Move → Bool) where
  abbrev three : Move → Move → Move → Bool
  three m₁ m₂ m = φ (pair (r₂.states * X.states) m₁ (pair X.states m₂ m))

  abbrev together : ℕ → ℕ → ℕ → ℕ → Bool
  together u₁ u₂ v a = any (λ m₁. any (λ m₂. any (three m₁ m₂) (X.moves v a)) (r₂.moves u₂ a)) (r₁.moves u₁ a)

  abbrev apart : ℕ → ℕ → ℕ → ℕ → Bool
  apart u₁ u₂ v a =
      any (λ m₁. three m₁ (point r₂ u₂) (point X v)) (r₁.moves u₁ a)
      || (any (λ m₂. three (point r₁ u₁) m₂ (point X v)) (r₂.moves u₂ a) || any (three (point r₁ u₁) (point r₂ u₂)) (X.moves v a))

  two_moves : (u₁ u₂ v a : ℕ) → u₁ < r₁.states → u₂ < r₂.states → v < X.states
      → any φ ((pile A r₁ (pile A r₂ X)).moves (u₁ * (r₂.states * X.states) + (u₂ * X.states + v)) a) ≡ cond (A a) (together u₁ u₂ v a) (apart u₁ u₂ v a)
  unfolding moves_over cross
  two_moves u₁ u₂ v a h₁ h₂ hv =
      ap (any φ) (pile-at A r₁ (pile A r₂ X) u₁ (u₂ * X.states + v) a h₁ (digits_lt h₂ hv))
      ∙ ap (λ (ms : List Move). any φ (on_top (A a) ms)) (pile-at A r₂ X u₂ v a h₂ hv)
      ∙ go (A a)
    where
      K : ℕ
      K = r₂.states * X.states

      on_top : Bool → List Move → List Move
      on_top b ms = cond b (cross (pair K) (r₁.moves u₁ a) ms) (map (λ mu. pair K mu (point (pile A r₂ X) (u₂ * X.states + v))) (r₁.moves u₁ a) ++ map (pair K (point r₁ u₁)) ms)

      go : (b : Bool) → any φ (on_top b (cond b (cross (pair X.states) (r₂.moves u₂ a) (X.moves v a)) (map (λ mu. pair X.states mu (point X v)) (r₂.moves u₂ a) ++ map (pair X.states (point r₂ u₂)) (X.moves v a))))
          ≡ cond b (together u₁ u₂ v a) (apart u₁ u₂ v a)
      go true =
          any-cross (pair K) φ (r₁.moves u₁ a) (cross (pair X.states) (r₂.moves u₂ a) (X.moves v a))
          ∙ any_eq (r₁.moves u₁ a) (λ m₁. any-cross (pair X.states) (λ m. φ (pair K m₁ m)) (r₂.moves u₂ a) (X.moves v a))
      go false = simp (any_append, any-map)

-- what a test of three weighs
weigh_three : (P : ℕ → Bool) (K k : ℕ) (m₁ m₂ m : Move) → weigh P (pair K m₁ (pair k m₂ m))
    ≡ sum_by (λ t₁. sum_by (λ t₂. sum_by (λ t. cond (P (t₁.state * K + (t₂.state * k + t.state))) (t₁.weight * (t₂.weight * t.weight)) 0) m) m₂) m₁
weigh_three P K k m₁ m₂ m =
    sum_by_cross (over K) (λ t. cond (P t.state) t.weight 0) m₁ (pair k m₂ m)
    ∙ sum_by_eq m₁ (λ t₁. sum_by_cross (over k) (λ t. cond (P (t₁.state * K + t.state)) (t₁.weight * t.weight) 0) m₂ m)

-- where a state goes when the two systems on top change places: n₁, n₂ and k are the numbers of states
swapped : ℕ → ℕ → ℕ → ℕ → ℕ
swapped n₁ n₂ k s = (s % (n₂ * k) / k) * (n₁ * k) + (s / (n₂ * k) * k + s % (n₂ * k) % k)

swapped_at : (n₁ n₂ k u₁ u₂ v : ℕ) → u₂ < n₂ → v < k → swapped n₁ n₂ k (u₁ * (n₂ * k) + (u₂ * k + v)) ≡ u₂ * (n₁ * k) + (u₁ * k + v)
unfolding swapped
swapped_at n₁ n₂ k u₁ u₂ v h hv =
    let l : u₂ * k + v < n₂ * k = digits_lt h hv in
    ap₂ (λ (x y : ℕ). (y / k) * (n₁ * k) + (x * k + y % k)) (div-mul-add u₁ (n₂ * k) (u₂ * k + v) l) (mod-mul-add u₁ (n₂ * k) (u₂ * k + v) l)
    ∙ ap₂ (λ (x y : ℕ). x * (n₁ * k) + (u₁ * k + y)) (div-mul-add u₂ k v hv) (mod-mul-add u₂ k v hv)

swapped_zero : (n₁ n₂ k : ℕ) → swapped n₁ n₂ k 0 ≡ 0
unfolding swapped
swapped_zero n₁ n₂ k = simp (zero-div, zero-mod, zero-mul, add-zero)

-- two systems change places
module _ (A : ℕ → Bool) (r₁ r₂ X : Meaning) (h₁ : Shaped r₁) (h₂ : Shaped r₂) (hX : Shaped X) where
  abbrev f : ℕ → ℕ
  f = swapped r₁.states r₂.states X.states

  abbrev Y : Meaning
  Y = pile A r₁ (pile A r₂ X)

  abbrev Y' : Meaning
  Y' = pile A r₂ (pile A r₁ X)

  near : (m₁ m₂ m : Move) → Into r₁.states m₁ → Into r₂.states m₂ → Into X.states m
      → Near Y Y' f (pair (r₂.states * X.states) m₁ (pair X.states m₂ m)) (pair (r₁.states * X.states) m₂ (pair X.states m₁ m))
  near m₁ m₂ m b₁ b₂ b = (
    pair_into r₁.states (r₂.states * X.states) m₁ (pair X.states m₂ m) b₁ (pair_into r₂.states X.states m₂ m b₂ b),
    λ P.
        weigh_three (λ s. P (f s)) (r₂.states * X.states) X.states m₁ m₂ m
        ∙ sum_by_on m₁ b₁ (λ t₁ l₁. sum_by_on m₂ b₂ (λ t₂ l₂. sum_by_on m b (λ t l.
        ap₂ (λ (s w : ℕ). cond (P s) w 0) (swapped_at r₁.states r₂.states X.states t₁.state t₂.state t.state l₂ l) (mul_left_comm t₁.weight t₂.weight t.weight))))
        ∙ sum_by_swap (λ t₁ t₂. sum_by (λ t. cond (P (t₂.state * (r₁.states * X.states) + (t₁.state * X.states + t.state))) (t₂.weight * (t₁.weight * t.weight)) 0) m) m₁ m₂
        ∙ sym (weigh_three P (r₁.states * X.states) X.states m₂ m₁ m),
  )

  module _ (φ φ' : Move → Bool) (e : (mv mv' : Move) → Near Y Y' f mv mv' → φ mv ≡ φ' mv') where
    same : (m₁ m₂ m : Move) → Into r₁.states m₁ → Into r₂.states m₂ → Into X.states m → three A r₁ r₂ X φ m₁ m₂ m ≡ three A r₂ r₁ X φ' m₂ m₁ m
    same m₁ m₂ m b₁ b₂ b = e _ _ (near m₁ m₂ m b₁ b₂ b)

    together-same : (u₁ u₂ v a : ℕ) → together A r₁ r₂ X φ u₁ u₂ v a ≡ together A r₂ r₁ X φ' u₂ u₁ v a
    together-same u₁ u₂ v a =
        any_on (r₁.moves u₁ a) (h₁.closed u₁ a) (λ m₁ b₁. any_on (r₂.moves u₂ a) (h₂.closed u₂ a) (λ m₂ b₂. any_on (X.moves v a) (hX.closed v a) (λ m b. same m₁ m₂ m b₁ b₂ b)))
        ∙ any_swap (λ m₁ m₂. any (three A r₂ r₁ X φ' m₂ m₁) (X.moves v a)) (r₁.moves u₁ a) (r₂.moves u₂ a)

    apart-same : (u₁ u₂ v a : ℕ) → u₁ < r₁.states → u₂ < r₂.states → v < X.states → apart A r₁ r₂ X φ u₁ u₂ v a ≡ apart A r₂ r₁ X φ' u₂ u₁ v a
    apart-same u₁ u₂ v a l₁ l₂ l =
        ap₂ ◌||◌ (any_on (r₁.moves u₁ a) (h₁.closed u₁ a) (λ m₁ b₁. same m₁ (point r₂ u₂) (point X v) b₁ (l₂, tt) (l, tt)))
        (ap₂ ◌||◌ (any_on (r₂.moves u₂ a) (h₂.closed u₂ a) (λ m₂ b₂. same (point r₁ u₁) m₂ (point X v) (l₁, tt) b₂ (l, tt)))
        (any_on (X.moves v a) (hX.closed v a) (λ m b. same (point r₁ u₁) (point r₂ u₂) m (l₁, tt) (l₂, tt) b)))
        ∙ or_left (any (λ m₁. three A r₂ r₁ X φ' (point r₂ u₂) m₁ (point X v)) (r₁.moves u₁ a)) (any (λ m₂. three A r₂ r₁ X φ' m₂ (point r₁ u₁) (point X v)) (r₂.moves u₂ a)) (any (three A r₂ r₁ X φ' (point r₂ u₂) (point r₁ u₁)) (X.moves v a))

    moves-at : (u₁ u₂ v a : ℕ) → u₁ < r₁.states → u₂ < r₂.states → v < X.states
        → any φ (Y.moves (u₁ * (r₂.states * X.states) + (u₂ * X.states + v)) a) ≡ any φ' (Y'.moves (f (u₁ * (r₂.states * X.states) + (u₂ * X.states + v))) a)
    moves-at u₁ u₂ v a l₁ l₂ l =
        two_moves A r₁ r₂ X φ u₁ u₂ v a l₁ l₂ l
        ∙ ap₂ (cond (A a)) (together-same u₁ u₂ v a) (apart-same u₁ u₂ v a l₁ l₂ l)
        ∙ sym (two_moves A r₂ r₁ X φ' u₂ u₁ v a l₂ l₁ l)
        ∙ ap (λ (s : ℕ). any φ' (Y'.moves s a)) (sym (swapped_at r₁.states r₂.states X.states u₁ u₂ v l₂ l))

    moves-same : (s a : ℕ) → s < Y.states → any φ (Y.moves s a) ≡ any φ' (Y'.moves (f s) a)
    moves-same s a l =
        let k = X.states in
        let K = r₂.states * X.states in
        let some : 0 < K = one-le-mul h₂.some hX.some in
        let split : s / K * K + (s % K / k * k + s % K % k) ≡ s = ap (λ (x : ℕ). s / K * K + x) (div-add-mod' (s % K) k) ∙ div-add-mod' s K in
        subst (λ (z : ℕ). any φ (Y.moves z a) ≡ any φ' (Y'.moves (f z) a)) split
        (moves-at (s / K) (s % K / k) (s % K % k) a (div_below s K r₁.states some l) (div_below (s % K) k r₂.states hX.some (mod_below s K some)) (mod_below (s % K) k hX.some))

  swap_holds : CourseLaw → (F : Formula) → WellFormed F → holds Y F ≡ holds Y' F
  swap_holds course =
      same-holds Y Y' f course
      (record { mass = mul_left_comm r₁.mass r₂.mass X.mass; moves = λ s a l φ φ' e. moves-same φ φ' e s a l })
      (one-le-mul h₁.some (one-le-mul h₂.some hX.some))
      (swapped_zero r₁.states r₂.states X.states)

-- systems that hold the same formulas do so under another, by its quotients
under : CourseLaw → (A : ℕ → Bool) (r X X' : Meaning) → Shaped r → Shaped X → Shaped X' → ((F : Formula) → WellFormed F → holds X F ≡ holds X' F) → (F : Formula) → WellFormed F → holds (pile A r X) F ≡ holds (pile A r X') F
under course A r X X' hr hX hX' e F hF =
    let q = quotient-law course A r X F hr hX hF in
    sym q.1 ∙ e (quotient A r F) q.0 ∙ (quotient-law course A r X' F hr hX' hF).1

shaped_perm : {rs rs' : List Meaning} → Permᴰ rs rs' → AllByRecursion Shaped rs → AllByRecursion Shaped rs'
shaped_perm Permᴰ.nil h = tt
shaped_perm (Permᴰ.cons e p) h = (subst Shaped e h.0, shaped_perm p h.1)
shaped_perm (Permᴰ.swap e e') h = (subst Shaped e' h.1.0, (subst Shaped e h.0, h.1.1))
shaped_perm (Permᴰ.trans p q) h = shaped_perm q (shaped_perm p h)

module _ (course : CourseLaw) (A : ℕ → Bool) (S : Meaning) (hS : Shaped S) where
  order : {rs rs' : List Meaning} → Permᴰ rs rs' → AllByRecursion Shaped rs → (F : Formula) → WellFormed F → holds (stack A rs S) F ≡ holds (stack A rs' S) F
  order Permᴰ.nil h F hF = refl
  order (Permᴰ.cons {a} {b} {l₁} {l₂} e p) h F hF =
      under course A a (stack A l₁ S) (stack A l₂ S) h.0 (stack_shaped A l₁ S h.1 hS) (stack_shaped A l₂ S (shaped_perm p h.1) hS) (order p h.1) F hF
      ∙ ap (λ (r : Meaning). holds (pile A r (stack A l₂ S)) F) e
  order (Permᴰ.swap {a} {b} {a'} {b'} {l} e e') h F hF =
      swap_holds A a b (stack A l S) h.0 h.1.0 (stack_shaped A l S h.1.1 hS) course F hF
      ∙ ap₂ (λ (r r' : Meaning). holds (pile A r (pile A r' (stack A l S))) F) e' e
  order (Permᴰ.trans p q) h F hF = order p h F hF ∙ order q (shaped_perm p h) F hF

pub order_law : CourseLaw → OrderLaw
order_law course A S rs rs' F hS h p hF = order course A S hS p h F hF
