-- The products of a sum, read one after another.
use Rattle.std.proofs.Common.{◌≡◌, ℕ, ◌+◌, ◌-◌, ◌≤◌, true, List, [], ◌∷◌, ◌++◌, length, length-append, is_err, IsErrAnd, Some, None, Ok, Err, Option, Result, sym, refl, ap, ◌∙◌, subst, arith}
use Rattle.arrayvec.specs.ArrayVec.{ArrayVec}
use Rattle.formulas.specs.declared.fault.GrammarFault.{GrammarFault}
use Rattle.formulas.specs.declared.node.Term.{Term}
use Rattle.formulas.specs.declared.token.Lexeme.{Lexeme}
use Rattle.formulas.specs.declared.words.Words.{Words}
use Rattle.formulas.specs.Grammar.{Item, items, Out, then}
use Rattle.formulas.specs.Productions.{products, an_element}
use Rattle.formulas.specs.Readers.{Takes, Itself, another}
use Rattle.formulas.specs.Stores.{Store, Summed, Factored}
use Rattle.formulas.specs.Trees.{Products, none, product}
use Rattle.formulas.proofs.Parsing.{then-then, then_same, then_as, followed, products_follow, follow_room}
use Rattle.formulas.proofs.Storing.{joined, joined_none, joined-joined, none_summed, one_summed}
use Rattle.formulas.proofs.Taking.{nothing_read, read_itself, eased, as_if, and_so, and-next, stopped}

-- the count said in another way
pub another_as : {n k : ℕ} {r : Result (Option Lexeme) GrammarFault} {w v : Words} → n ≡ k → Takes 1 (another n) Itself w r v → Takes 1 (another k) Itself w r v
another_as {r = r} {w} {v} e h = subst (λ i. Takes 1 (another i) Itself w r v) e h

-- the products behind those that are done
abbrev pub further : ℕ → ℕ → ℕ → Products → ℕ → List Item → Out Products
further room count left done stop ws = then (products room count left stop ws) (λ ks rest. Ok (joined done ks, rest))

-- from s0 and w0 on some products are read, and the reader stands at w: what reads the further ones reads the whole sum
pub record Partly (room : ℕ) (w0 : Words) (s0 : Store) (xs : ArrayVec Term) (left : ℕ) (w : Words) (s : Store) : Type 0 where
  pub done : Products
  pub wrote : Summed s0 s done xs
  pub same : w.text ≡ w0.text
  pub moved : w0.pos ≤ w.pos
  pub whole : (after : Store) (r : Result (ArrayVec Term) GrammarFault) (v : Words) → Takes 0 (further room (length xs.items) left done) (Summed s0 after) w r v → Takes 0 (products room 0 1000) (Summed s0 after) w0 r v

pub partly_none : {room : ℕ} {w : Words} {s : Store} {xs : ArrayVec Term} {left : ℕ} → xs.items ≡ [] → left ≡ 1000 → Partly room w s xs left w s
partly_none {room} {w} {s} {xs} {left} z e =
    record {
      done = none;
      wrote = none_summed z;
      same = refl;
      moved = omega arith;
      whole = λ after r v h. as_if (λ stop ws. ap (λ n. products room n 1000 stop ws) (sym (ap length z)) ∙ ap (λ n. products room (length xs.items) n stop ws) (sym e) ∙ sym (then_same (products room (length xs.items) left stop ws))) h;
    }

module _ {room left : ℕ} {w0 w : Words} {s0 s : Store} {xs : ArrayVec Term} (h : Partly room w0 s0 xs left w s) where
  -- what follows decides
  further_follow : (stop : ℕ) (ws : List Item) → further room (length xs.items) left h.done stop ws ≡ then (another (length xs.items) stop ws) (λ o r. then (followed room (length xs.items) left o stop r) (λ ks rest. Ok (joined h.done ks, rest)))
  further_follow stop ws =
      ap (λ o. then o (λ ks rest. Ok (joined h.done ks, rest))) (products_follow room (length xs.items) left stop ws h.wrote.few)
      ∙ then-then (another (length xs.items) stop ws) _ _

  -- the sum ends
  pub partly_end : {v : Words} → Takes 1 (another (length xs.items)) Itself w (Ok None) v → Takes 0 (products room 0 1000) (Summed s0 s) w0 (Ok xs) v
  partly_end e =
      h.whole s _ _ (eased (as_if further_follow
      (and_so _ e (as_if (λ stop ws. ap (λ d. Ok (d, ws)) (joined_none h.done)) (nothing_read h.wrote)))))

  -- it is refused before the next product
  pub partly_stopped : {v : Words} {after : Store} {e : GrammarFault} (r : Result (ArrayVec Term) GrammarFault) → Takes 1 (another (length xs.items)) Itself w (Err e) v → (is_err r ≡ true) × IsErrAnd r (λ y. y ≡ e) → Takes 0 (products room 0 1000) (Summed s0 after) w0 r v
  partly_stopped {after} r e b = h.whole after r _ (eased (as_if further_follow (stopped _ r e b)))

  module _ {m : Words} {x : Lexeme} (a : Takes 1 (another (length xs.items)) Itself w (Ok (Some x)) m) where
    -- it is refused in the next product
    pub partly_refused : {v : Words} {after s1 : Store} {e : GrammarFault} (r : Result (ArrayVec Term) GrammarFault) → Takes 1 (an_element room x left) (Factored left s s1) m (Err e) v → (is_err r ≡ true) × IsErrAnd r (λ y. y ≡ e) → Takes 0 (products room 0 1000) (Summed s0 after) w0 r v
    partly_refused {after} r e b =
        h.whole after r _ (eased (as_if further_follow (and_so _ a (as_if (λ stop ws. then-then (an_element room x left stop ws) _ _) (stopped _ r e b)))))

    -- one product more
    pub partly_more : {v : Words} {after : Store} {ys : ArrayVec Term} {term : Term} {less : ℕ} → Takes 1 (an_element room x left) (Factored left s after) m (Ok term) v → ys.items ≡ xs.items ++ (term ∷ []) → less ≡ left - term.coefficient → Partly room w0 s0 ys less v after
    partly_more {after} {ys} {term} {less} e t l =
        let k = e.took.0 in
        let f = e.took.2 in
        let p = a.moved in
        let q = e.moved in
        let first = h.moved in
        let n : length ys.items ≡ length xs.items + 1 = ap length t ∙ simp length-append refl in
        record {
          done = joined h.done (product k.0 k.1 none);
          wrote = one_summed h.wrote f (follow_room (length xs.items) (length w.text.now) (items w.text.now w.pos) x _ (read_itself a)) t;
          same = e.same ∙ a.same ∙ h.same;
          moved = omega arith;
          whole = λ fin r u g.
              h.whole fin r u (eased (as_if further_follow (and_so _ a (as_if (λ stop ws. then-then (an_element room x left stop ws) _ _)
              (and-next _ e
              (as_if
              (λ stop ws.
              then-then (products room (length xs.items + 1) (left - k.0) stop ws) _ _
              ∙ then_as (products room (length xs.items + 1) (left - k.0) stop ws) _ _ (λ ks rest. ap (λ d. Ok (d, rest)) (sym (joined-joined h.done k.0 k.1 ks)))
              ∙ ap (λ i. further room i (left - k.0) (joined h.done (product k.0 k.1 none)) stop ws) (sym n)
              ∙ ap (λ i. further room (length ys.items) i (joined h.done (product k.0 k.1 none)) stop ws) (ap (λ i. left - i) (sym f.coefficient) ∙ sym l))
              g))))));
        }
