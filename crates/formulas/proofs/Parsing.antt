-- The grammar, one step at a time.
use Rattle.std.proofs.Common.{◌≡◌, ℕ, zero, suc, ◌+◌, ◌-◌, ◌<◌, ◌≤◌, Bool, true, false, cond, ◌&&◌, eqb, leb, List, length, Some, None, Ok, Err, Option, sym, refl, ap, ◌∙◌, ⊎_elim, arith}
use Rattle.std.proofs.lemmas.Bool.{cases_Bool, cond-false, and_parts, leb-true, leb-false, lt-leb, ne_eqb}
use Rattle.std.proofs.lemmas.Bool.Decides.{nat_tests}
use Rattle.formulas.specs.declared.token.Lexeme.{Lexeme}
use Rattle.formulas.specs.declared.lexer.Start.{Start}
use Rattle.formulas.specs.declared.lexer.Start.TheVariants.{Constant, Inside}
use Rattle.formulas.specs.declared.token.Token.TheVariants.{Open, Close, True, False, Prob, Times}
use Rattle.formulas.specs.declared.words.Words.{Words}
use Rattle.formulas.specs.Grammar.{Item, items, Out, then, next, is, expect, number, ranged, value, nought, misplaced, too_many, closed, begun, sum_begun, several, term, sum, quantity, element}
use Rattle.formulas.specs.Lines.{Sort, state}
use Rattle.formulas.specs.Productions.{a_term, inside, a_sum, sum_inside, a_quantity, a_product, products, an_element}
use Rattle.formulas.specs.Readers.{behind, starts, sum_starts, following, another, confirmed, prob_starts, Takes, Itself}
use Rattle.formulas.specs.Trees.{Tree, leaf, Products, none, product}
use Rattle.formulas.proofs.Taking.{read_itself}

-- steps in a row
pub then-then : {A B C : Type 0} (o : Out A) (f : A → List Item → Out B) (g : B → List Item → Out C) → then (then o f) g ≡ then o (λ a r. then (f a r) g)
then-then (Ok x) f g = refl
then-then (Err e) f g = refl

-- a step that says nothing
pub then_same : {A : Type 0} (o : Out A) → then o (λ a r. Ok (a, r)) ≡ o
then_same (Ok x) = refl
then_same (Err e) = refl

-- the same step, said in another way
pub then_as : {A B : Type 0} (o : Out A) (f g : A → List Item → Out B) → ((a : A) (r : List Item) → f a r ≡ g a r) → then o f ≡ then o g
then_as (Ok x) f g h = h x.0 x.1
then_as (Err e) f g h = refl

then-cond : {A B : Type 0} (b : Bool) (x y : Out A) (k : A → List Item → Out B) → then (cond b x y) k ≡ cond b (then x k) (then y k)
then-cond true x y k = refl
then-cond false x y k = refl

-- the same first step, where the rest is divided in another way
divided : {A B C : Type 0} (o : Out A) (f : A → List Item → Out C) (g : A → List Item → Out B) (k : B → List Item → Out C) → ((a : A) (r : List Item) → f a r ≡ then (g a r) k) → then o f ≡ then (then o g) k
divided (Ok x) f g k h = h x.0 x.1
divided (Err e) f g k h = refl

-- what a term is, from its beginning
abbrev pub started : ℕ → Sort → Start → ℕ → List Item → Out Tree
started room σ (Constant b) stop ws = Ok (leaf b, ws)
started room σ (Inside y) stop ws = inside room σ y stop ws

begins : (x : Lexeme) (rest : List Item) (o : Out Tree) (p : Out Start) (k : Start → List Item → Out Tree) → k (Constant true) rest ≡ Ok (leaf true, rest) → k (Constant false) rest ≡ Ok (leaf false, rest) → o ≡ then p k →
    begun x rest o ≡ then (cond (is True x) (Ok (Constant true, rest)) (cond (is False x) (Ok (Constant false, rest)) (cond (is Open x) p (misplaced x)))) k
begins x rest o p k t f h =
    ap (λ y. cond (is True x) y (cond (is False x) (Ok (leaf false, rest)) (cond (is Open x) o (misplaced x)))) (sym t)
    ∙ ap (λ z. cond (is True x) (k (Constant true) rest) (cond (is False x) z (cond (is Open x) o (misplaced x)))) (sym f)
    ∙ ap (λ z. cond (is True x) (k (Constant true) rest) (cond (is False x) (k (Constant false) rest) (cond (is Open x) z (misplaced x)))) h
    ∙ ap (λ z. cond (is True x) (k (Constant true) rest) (cond (is False x) (k (Constant false) rest) z)) (sym (then-cond (is Open x) p (misplaced x) k))
    ∙ ap (cond (is True x) (k (Constant true) rest)) (sym (then-cond (is False x) (Ok (Constant false, rest)) (cond (is Open x) p (misplaced x)) k))
    ∙ sym (then-cond (is True x) (Ok (Constant true, rest)) (cond (is False x) (Ok (Constant false, rest)) (cond (is Open x) p (misplaced x))) k)

open_behind : (room : ℕ) (x : Lexeme) (stop : ℕ) (ws : List Item) → behind (suc room) x stop ws ≡ next stop ws
open_behind room x stop ws = cond-false (eqb (suc room) 0) (too_many x) (next stop ws) (ne_eqb (suc room) 0 (λ e. omega arith))

less : (room : ℕ) → suc room - 1 ≡ room
less room = omega arith

pub term-starts : (room : ℕ) (σ : Sort) (stop : ℕ) (ws : List Item) → a_term room σ stop ws ≡ then (starts room stop ws) (λ s r. started (room - 1) σ s stop r)
unfolding term
term-starts zero σ stop ws = divided (next stop ws) _ _ _ (λ x rest. begins x rest _ _ (λ s r. started (zero - 1) σ s stop r) refl refl refl)
term-starts (suc room) σ stop ws =
    divided (next stop ws) _ _ _
    (λ x rest. begins x rest _ _ (λ s r. started (suc room - 1) σ s stop r) refl refl
    (ap (λ n. then (next stop rest) (λ y more. inside n σ y stop more)) (sym (less room))
    ∙ ap (λ o. then o (λ y more. inside (suc room - 1) σ y stop more)) (sym (open_behind room x stop rest))
    ∙ sym (then-then (behind (suc room) x stop rest) (λ y r. Ok (Inside y, r)) (λ s r. started (suc room - 1) σ s stop r))))

-- what a sum is, from its beginning
abbrev pub sum-started : ℕ → Option Lexeme → ℕ → List Item → Out Products
sum-started room None stop ws = Ok (none, ws)
sum-started room (Some y) stop ws = sum_inside room y stop ws

sum-begins : (x : Lexeme) (rest : List Item) (o : Out Products) (p : Out (Option Lexeme)) (k : Option Lexeme → List Item → Out Products) → k None rest ≡ Ok (none, rest) → o ≡ then p k →
    sum_begun x rest o ≡ then (cond (nought (value x.token)) (Ok (None, rest)) (cond (is Open x) p (misplaced x))) k
sum-begins x rest o p k z h =
    ap (λ y. cond (nought (value x.token)) y (cond (is Open x) o (misplaced x))) (sym z)
    ∙ ap (λ y. cond (nought (value x.token)) (k None rest) (cond (is Open x) y (misplaced x))) h
    ∙ ap (cond (nought (value x.token)) (k None rest)) (sym (then-cond (is Open x) p (misplaced x) k))
    ∙ sym (then-cond (nought (value x.token)) (Ok (None, rest)) (cond (is Open x) p (misplaced x)) k)

pub sum_starts_as : (room stop : ℕ) (ws : List Item) → a_sum room stop ws ≡ then (sum_starts room stop ws) (λ s r. sum-started (room - 1) s stop r)
unfolding sum
sum_starts_as zero stop ws = divided (next stop ws) _ _ _ (λ x rest. sum-begins x rest _ _ (λ s r. sum-started (zero - 1) s stop r) refl refl)
sum_starts_as (suc room) stop ws =
    divided (next stop ws) _ _ _
    (λ x rest. sum-begins x rest _ _ (λ s r. sum-started (suc room - 1) s stop r) refl
    (ap (λ n. then (next stop rest) (λ y more. sum_inside n y stop more)) (sym (less room))
    ∙ ap (λ o. then o (λ y more. sum_inside (suc room - 1) y stop more)) (sym (open_behind room x stop rest))
    ∙ sym (then-then (behind (suc room) x stop rest) (λ y r. Ok (Some y, r)) (λ s r. sum-started (suc room - 1) s stop r))))

-- a probability
pub quantity_starts : (room stop : ℕ) (ws : List Item) → a_quantity room stop ws ≡ then (prob_starts room stop ws) (λ _ r. then (a_term (room - 1) state stop r) (λ s l. closed stop s l))
unfolding quantity
quantity_starts zero stop ws = divided (next stop ws) _ _ _ (λ x rest. sym (then-cond (is Open x) _ (misplaced x) _))
quantity_starts (suc room) stop ws =
    then-then (next stop ws) _ _
    ∙ divided (next stop ws) _ _ _
    (λ x rest.
    then-cond (is Open x) (Ok (tt, rest)) (misplaced x) _
    ∙ ap (λ n. cond (is Open x) (then (expect Prob stop rest) (λ _ q. then (a_term n state stop q) (λ s l. closed stop s l))) (misplaced x)) (sym (less room))
    ∙ ap (λ o. cond (is Open x) (then (then o (λ y more. confirmed Prob y more)) (λ _ q. then (a_term (suc room - 1) state stop q) (λ s l. closed stop s l))) (misplaced x)) (sym (open_behind room x stop rest))
    ∙ sym (then-cond (is Open x) _ (misplaced x) _))

-- one of several products
pub element_full : (room : ℕ) (x : Lexeme) (left stop : ℕ) (ws : List Item) → room ≡ 0 → an_element room x left stop ws ≡ too_many x
unfolding element
element_full room x left stop ws z = ap (λ n. an_element n x left stop ws) z

pub element_open : (room : ℕ) (x : Lexeme) (left stop : ℕ) (ws : List Item) → (room ≡ 0 → ⊥) → an_element room x left stop ws ≡ then (expect Times stop ws) (λ _ r. a_product (room - 1) left stop r)
unfolding element
element_open room x left stop ws h =
    let up : room ≡ suc (room - 1) = omega arith in
    ap (λ n. an_element n x left stop ws) up

-- the rest of a sum, from what follows its first products
abbrev pub followed : ℕ → ℕ → ℕ → Option Lexeme → ℕ → List Item → Out Products
followed room count left None stop ws = Ok (none, ws)
followed room count left (Some x) stop ws =
    then (an_element room x left stop ws) (λ k r. then (products room (count + 1) (left - k.0) stop r) (λ ks q. Ok (product k.0 k.1 ks, q)))

-- fewer than eight products came
rest_open : (room count left stop : ℕ) (ws : List Item) → count < 8 → products room count left stop ws ≡ then (another count stop ws) (λ o r. followed room count left o stop r)
unfolding several
rest_open room count left stop ws lt =
    let up : 8 - count ≡ suc (8 - (count + 1)) = omega arith in
    let t : leb (suc (8 - (count + 1))) 6 ≡ leb 2 count = grind (arith, nat_tests) in
    ap (λ m. several stop (λ z n l. element stop room z n l) m left ws) up
    ∙ divided (next stop ws) _ _ _
    (λ x rest.
    ap (λ b. cond (is Close x && b) (Ok (none, rest)) (cond (is Open x) (followed room count left (Some x) stop rest) (misplaced x))) t
    ∙ ap (λ o. cond (is Close x && leb 2 count) (Ok (none, rest)) (cond (is Open x) o (misplaced x)))
    (sym (ap (λ b. then (cond b (too_many x) (Ok (Some x, rest))) (λ o r. followed room count left o stop r)) (lt-leb 8 count lt)))
    ∙ ap (cond (is Close x && leb 2 count) (Ok (none, rest))) (sym (then-cond (is Open x) (cond (leb 8 count) (too_many x) (Ok (Some x, rest))) (misplaced x) _))
    ∙ sym (then-cond (is Close x && leb 2 count) (Ok (None, rest)) _ _))

-- eight products came
full : (room count left stop : ℕ) (ws : List Item) → count ≡ 8 → products room count left stop ws ≡ then (another count stop ws) (λ o r. followed room count left o stop r)
unfolding several
full room count left stop ws e =
    ap (λ m. products room m left stop ws) e
    ∙ divided (next stop ws) _ _ _
    (λ x rest.
    ap (λ b. cond b (Ok (none, rest)) (cond (is Open x) (too_many x) (misplaced x))) (and_true (is Close x))
    ∙ ap (cond (is Close x && leb 2 8) (Ok (none, rest))) (sym (then-cond (is Open x) (too_many x) (misplaced x) _))
    ∙ sym (then-cond (is Close x && leb 2 8) (Ok (None, rest)) _ (λ o r. followed room 8 left o stop r)))
    ∙ ap (λ m. then (another m stop ws) (λ o r. followed room m left o stop r)) (sym e)
  where
    and_true : (b : Bool) → b ≡ b && true
    and_true true = refl
    and_true false = refl

pub products_follow : (room count left stop : ℕ) (ws : List Item) → count ≤ 8 → products room count left stop ws ≡ then (another count stop ws) (λ o r. followed room count left o stop r)
products_follow room count left stop ws h =
    ⊎_elim (λ e. let le = leb-true 8 count e in full room count left stop ws (omega arith)) (λ e. rest_open room count left stop ws (leb-false 8 count e)) (cases_Bool (leb 8 count))

pub follow_room : (count stop : ℕ) (ws : List Item) (y : Lexeme) (rest : List Item) → another count stop ws ≡ Ok (Some y, rest) → count < 8
follow_room count stop ws y rest e =
    ⊎_elim (λ h. absurd (from h (next stop ws) e)) (λ h. leb-false 8 count h) (cases_Bool (leb 8 count))
  where
    from : leb 8 count ≡ true → (o : Out Lexeme) → then o (λ x r. following count x r) ≡ Ok (Some y, rest) → ⊥
    from h (Err f) i = grind arith
    from h (Ok p) i =
        ⊎_elim (λ t. grind arith) (λ t. ⊎_elim (λ u. grind arith) (λ u. grind arith) (cases_Bool (is Open p.0))) (cases_Bool (is Close p.0 && leb 2 count))

-- a number is in its range
number-low : (low high stop : ℕ) (ws : List Item) (n : ℕ) (rest : List Item) → number low high stop ws ≡ Ok (n, rest) → n ≤ high
number-low low high stop ws n rest e = from (next stop ws) e
  where
    within : (p : ℕ) (v : Option ℕ) (r : List Item) → ranged low high p v r ≡ Ok (n, rest) → n ≤ high
    within p None r i = absurd (grind arith)
    within p (Some m) r i =
        ⊎_elim
        (λ t. let q = leb-true m high (and_parts (leb low m) (leb m high) t).1 in let same : m ≡ n = grind arith in omega arith)
        (λ t. absurd (grind arith))
        (cases_Bool (leb low m && leb m high))

    from : (o : Out Lexeme) → then o (λ x r. ranged low high x.place (value x.token) r) ≡ Ok (n, rest) → n ≤ high
    from (Err f) i = absurd (grind arith)
    from (Ok p) i = within p.0.place (value p.0.token) p.1 i

pub number-within : (low high : ℕ) {d n : ℕ} {w m : Words} → Takes d (number low high) Itself w (Ok n) m → n ≤ high
number-within low high {n = n} {w} h = number-low low high (length w.text.now) (items w.text.now w.pos) n _ (read_itself h)
