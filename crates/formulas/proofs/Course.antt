-- The truths line by line.
use Rattle.std.proofs.Common.{◌≡◌, ℕ, zero, suc, ◌+◌, ◌*◌, ◌<◌, ◌≤◌, Bool, true, cond, not, ◌&&◌, ◌||◌, leb, List, [], ◌∷◌, ◌++◌, length, get_or, take, drop, fold, sym, refl, ap, ◌∙◌, ap₂, le_of_suc-le-suc, not-suc-le-zero, arith}
use Rattle.std.proofs.lemmas.List.{length_push, get_or_append_left, get_or_push, take-append-drop, length-take-le}
use Rattle.std.proofs.lemmas.List.Sums.{sum_by-cons}
use Rattle.std.specs.List.{AllByRecursion}
use Rattle.systems.specs.Meaning.{Meaning, Move, point}
use Rattle.formulas.specs.declared.node.Term.{Term}
use Rattle.formulas.specs.Lines.{state, is_state, is_dist, Line, constant, both, non, step, sum}
use Rattle.formulas.specs.Truths.{Truth, truth, truths, never, next_truth, weigh, total, any, holds_of, holds_at, at_node, of_node}
use Rattle.formulas.specs.Right.{Below, Formed}

-- what looks only at states of P
pub weigh-same : (P : ℕ → Type 0) (f g : ℕ → Bool) → ((s : ℕ) → P s → f s ≡ g s) → (mv : Move) → AllByRecursion (λ t. P t.state) mv → weigh f mv ≡ weigh g mv
weigh-same P f g e [] a = refl
weigh-same P f g e (t ∷ mv) a =
    sum_by-cons (λ u. cond (f u.state) u.weight 0) t mv
    ∙ ap₂ (λ x y. cond x t.weight 0 + y) (e t.state a.0) (weigh-same P f g e mv a.1)
    ∙ sym (sum_by-cons (λ u. cond (g u.state) u.weight 0) t mv)

pub total-same : (P : ℕ → Type 0) (i : ℕ) (f g : ℕ → ℕ → Bool) → ((j s : ℕ) → j < i → P s → f j s ≡ g j s) → (mv : Move) → AllByRecursion (λ t. P t.state) mv → (ts : List Term) → AllByRecursion (λ t. t.node < i) ts → total f ts mv ≡ total g ts mv
total-same P i f g e mv a [] b = refl
total-same P i f g e mv a (t ∷ ts) b =
    sum_by-cons (λ u. u.coefficient * weigh (f u.node) mv) t ts
    ∙ ap₂ (λ x y. t.coefficient * x + y) (weigh-same P (f t.node) (g t.node) (λ s p. e t.node s b.0 p) mv a) (total-same P i f g e mv a ts b.1)
    ∙ sym (sum_by-cons (λ u. u.coefficient * weigh (g u.node) mv) t ts)

pub any_same : {X : Type 0} (Q : X → Type 0) (f g : X → Bool) → ((x : X) → Q x → f x ≡ g x) → (xs : List X) → AllByRecursion Q xs → any f xs ≡ any g xs
any_same Q f g e [] a = refl
any_same Q f g e (x ∷ xs) a = ap₂ ◌||◌ (e x a.0) (any_same Q f g e xs a.1)

-- of a move into states of P, a line looks only at the lines before it
pub of-same : (P : ℕ → Type 0) (S : Meaning) (i : ℕ) (f g : ℕ → ℕ → Bool) (p q : ℕ → Move → Bool) (mv : Move) → ((j s : ℕ) → j < i → P s → f j s ≡ g j s) → ((j : ℕ) → j < i → p j mv ≡ q j mv) → AllByRecursion (λ t. P t.state) mv → (l : Line) → Below i l → holds_of S f p l mv ≡ holds_of S g q l mv
of-same P S i f g p q mv e h a (constant σ c) b = refl
of-same P S i f g p q mv e h a (both σ j k) b = ap₂ (λ x y. is_dist σ && (x && y)) (h j b.0) (h k b.1)
of-same P S i f g p q mv e h a (non σ j) b = ap (λ x. is_dist σ && not x) (h j b)
of-same P S i f g p q mv e h a (step x ms hs) b = refl
of-same P S i f g p q mv e h a (sum least ts) b = ap (leb (least * S.mass)) (total-same P i f g e mv a ts b)

-- so does it in a state of P whose moves and point are of V
pub at_same : (P : ℕ → Type 0) (V : Move → Type 0) (S : Meaning) (i : ℕ) (f g : ℕ → ℕ → Bool) (p q : ℕ → Move → Bool) (s : ℕ) → P s → V (point S s) → ((a : ℕ) → AllByRecursion V (S.moves s a)) → ((j s : ℕ) → j < i → P s → f j s ≡ g j s) → ((j : ℕ) (mv : Move) → j < i → V mv → p j mv ≡ q j mv) → (l : Line) → Below i l → holds_at S f p l s ≡ holds_at S g q l s
at_same P V S i f g p q s ps vp va e h (constant σ c) b = refl
at_same P V S i f g p q s ps vp va e h (both σ j k) b = ap₂ (λ x y. is_state σ && (x && y)) (e j s b.0 ps) (e k s b.1 ps)
at_same P V S i f g p q s ps vp va e h (non σ j) b = ap (λ x. is_state σ && not x) (e j s b ps)
at_same P V S i f g p q s ps vp va e h (step a ms hs) b =
    ap₂ ◌||◌
    (any_same V (λ mv. any (λ d. p d mv) ms) (λ mv. any (λ d. q d mv) ms) (λ mv v. any_same (λ d. d < i) (λ d. p d mv) (λ d. q d mv) (λ d l. h d mv l v) ms b.0) (S.moves s a) (va a))
    (any_same (λ d. d < i) (λ d. p d (point S s)) (λ d. q d (point S s)) (λ d l. h d (point S s) l vp) hs b.1)
at_same P V S i f g p q s ps vp va e h (sum least ts) b = refl

folded_append : {A B : Type 0} (f : B → A → B) (a : B) (xs ys : List A) → fold f a (xs ++ ys) ≡ fold f (fold f a xs) ys
folded_append f a [] ys = refl
folded_append f a (x ∷ xs) ys = folded_append f (f a x) xs ys

module _ (S : Meaning) where
  length_from : (T : List Truth) (ls : List Line) → length (fold (next_truth S) T ls) ≡ length T + length ls
  length_from T [] = omega arith
  length_from T (l ∷ ls) = omega (arith, length_from (next_truth S T l) ls, length_push T (truth S T l))

  kept_from : (T : List Truth) (ls : List Line) (j : ℕ) → j < length T → get_or (fold (next_truth S) T ls) j never ≡ get_or T j never
  kept_from T [] j h = refl
  kept_from T (l ∷ ls) j h =
      kept_from (next_truth S T l) ls j (omega (arith, length_push T (truth S T l))) ∙ get_or_append_left T (truth S T l ∷ []) never j h

  line-from : (T : List Truth) (ls : List Line) (i : ℕ) (d : Line) → i < length ls → get_or (fold (next_truth S) T ls) (length T + i) never ≡ truth S (fold (next_truth S) T (take i ls)) (get_or ls i d)
  line-from T [] i d h = absurd (not-suc-le-zero h)
  line-from T (l ∷ ls) zero d h =
      ap (λ n. get_or (fold (next_truth S) (next_truth S T l) ls) n never) (omega arith)
      ∙ kept_from (next_truth S T l) ls (length T) (omega (arith, length_push T (truth S T l)))
      ∙ get_or_push T (truth S T l) never (length T) refl
  line-from T (l ∷ ls) (suc i) d h =
      ap (λ n. get_or (fold (next_truth S) (next_truth S T l) ls) n never) (omega (arith, length_push T (truth S T l)))
      ∙ line-from (next_truth S T l) ls i d (le_of_suc-le-suc h)

  -- later lines leave the truths of the earlier ones
  pub truths-kept : (ls : List Line) (i j : ℕ) → j < i → i ≤ length ls → get_or (truths S ls) j never ≡ get_or (truths S (take i ls)) j never
  unfolding truths
  truths-kept ls i j h l =
      let whole = ap (λ xs. get_or (fold (next_truth S) [] xs) j never) (sym (take-append-drop i ls)) in
      let long : j < length (fold (next_truth S) [] (take i ls)) = omega (arith, length_from [] (take i ls), length-take-le i ls l) in
      whole ∙ ap (λ T. get_or T j never) (folded_append (next_truth S) [] (take i ls) (drop i ls)) ∙ kept_from (fold (next_truth S) [] (take i ls)) (drop i ls) j long

pub all_unit : {X : Type 0} (xs : List X) → AllByRecursion (λ _. Unit {0}) xs
all_unit [] = tt
all_unit (x ∷ xs) = (tt, all_unit xs)

-- the truth of a line, from the truths of all the lines
pub truths-at : (S : Meaning) (ls : List Line) → Formed ls → (i : ℕ) → i < length ls → get_or (truths S ls) i never ≡ truth S (truths S ls) (get_or ls i (constant state true))
unfolding truths
truths-at S ls formed i h =
    let T = truths S ls in
    let U = truths S (take i ls) in
    let l = get_or ls i (constant state true) in
    let first : get_or T i never ≡ truth S U l = ap (λ n. get_or T n never) (omega arith) ∙ line-from S [] ls i (constant state true) h in
    let same : (j : ℕ) → j < i → get_or U j never ≡ get_or T j never = λ j k. sym (truths-kept S ls i j k (omega arith)) in
    let e : (j s : ℕ) → j < i → Unit {0} → at_node U j s ≡ at_node T j s = λ j s k _. ap (λ t. t.at s) (same j k) in
    let p : (j : ℕ) (mv : Move) → j < i → Unit {0} → of_node U j mv ≡ of_node T j mv = λ j mv k _. ap (λ t. t.of mv) (same j k) in
    let b = formed i h in
    let states : (s : ℕ) → (truth S U l).at s ≡ (truth S T l).at s = λ s. at_same (λ _. Unit {0}) (λ _. Unit {0}) S i (at_node U) (at_node T) (of_node U) (of_node T) s tt tt (λ a. all_unit (S.moves s a)) e p l b in
    let moves : (mv : Move) → (truth S U l).of mv ≡ (truth S T l).of mv = λ mv. of-same (λ _. Unit {0}) S i (at_node U) (at_node T) (of_node U) (of_node T) mv e (λ j k. p j mv k tt) (all_unit mv) l b in
    first ∙ (λ k. record { at = λ s. states s k; of = λ mv. moves mv k })
