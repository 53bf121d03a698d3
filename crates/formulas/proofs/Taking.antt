-- How readers follow one another.
use Rattle.std.proofs.Common.{◌≡◌, ℕ, ◌+◌, ◌-◌, ◌*◌, true, List, length, is_err, IsErrAnd, Ok, Err, Result, sym, refl, ap, ◌∙◌, subst, arith, Bor}
use Rattle.formulas.specs.declared.fault.GrammarFault.{GrammarFault}
use Rattle.formulas.specs.declared.words.Words.{Words}
use Rattle.formulas.specs.Grammar.{Item, items, Out, then}
use Rattle.formulas.specs.Readers.{Taken, Moved, Takes, Itself}

-- the unread bytes and a rank below four, as one number
abbrev pub measure : Words → ℕ → ℕ
measure w rank = 4 * (length w.text.now - w.pos) + rank

-- a value without a word
pub nothing_read : {A X : Type 0} {V : A → X → Type 0} {w : Words} {v : A} {x : X} → V v x → Takes 0 (λ stop ws. Ok (v, ws)) V w (Ok x) w
nothing_read {v} h = record { same = refl; moved = (omega arith, omega arith); took = (v, refl, h) }

pub eased : {A X : Type 0} {f : ℕ → List Item → Out A} {V : A → X → Type 0} {w v : Words} {r : Result X GrammarFault} → Takes 1 f V w r v → Takes 0 f V w r v
eased {w} {v} {r} h = record { same = h.same; moved = shorter _ w.pos v.pos r h.moved; took = h.took }
  where
    shorter : {X : Type 0} (n p q : ℕ) (r : Result X GrammarFault) → Moved 1 n p r q → Moved 0 n p r q
    shorter n p q (Ok x) m = (omega arith, m.1)
    shorter n p q (Err f) m = tt

-- a refusal, at the first word and behind others
pub refused-first : {A X : Type 0} {V : A → X → Type 0} {w : Words} {d : ℕ} {f : GrammarFault} → Takes {A = A} {X = X} d (λ stop ws. Err f) V w (Err f) w
refused-first = record { same = refl; moved = tt; took = refl }

pub refused : {A X : Type 0} {V : A → X → Type 0} {w : Words} {f : GrammarFault} → Takes {A = A} {X = X} 0 (λ stop ws. Err f) V w (Err f) w
refused = refused-first

-- what was read, where the answer is the value
pub read_itself : {A : Type 0} {f : ℕ → List Item → Out A} {w m : Words} {d : ℕ} {x : A} → Takes d f Itself w (Ok x) m → f (length w.text.now) (items w.text.now w.pos) ≡ Ok (x, items w.text.now m.pos)
read_itself h = h.took.1 ∙ ap (λ v. Ok (v, _)) h.took.2

pub as_if : {A X : Type 0} {V : A → X → Type 0} {w v : Words} {d : ℕ} {r : Result X GrammarFault} {f g : ℕ → List Item → Out A} →
    ((stop : ℕ) (ws : List Item) → f stop ws ≡ g stop ws) → Takes d g V w r v → Takes d f V w r v
as_if {V} {w} {v} {r} e h =
    record { same = h.same; moved = h.moved; took = subst (λ o. Taken V w.text.now o r v.pos) (sym (e _ _)) h.took }

moved_on : {X Y : Type 0} (t s : Bor (List ℕ)) (p q z d e : ℕ) (x : X) (r : Result Y GrammarFault) → s ≡ t → Moved d (length t.now) p (Ok x) q → Moved e (length s.now) q r z → Moved d (length t.now) p r z
moved_on t s p q z d e x (Ok y) i a b = let n : length s.now ≡ length t.now = ap (λ u. length u.now) i in (omega arith, omega arith)
moved_on t s p q z d e x (Err g) i a b = tt

took_on : {A B Y : Type 0} (U : B → Y → Type 0) (text : List ℕ) (o : Out A) (k : A → List Item → Out B) (v : A) (q z : ℕ) (r : Result Y GrammarFault) → o ≡ Ok (v, items text q) → Taken U text (k v (items text q)) r z → Taken U text (then o k) r z
took_on U text o k v q z (Ok y) e h = (h.0, ap (λ x. then x k) e ∙ h.1, h.2)
took_on U text o k v q z (Err g) e h = ap (λ x. then x k) e ∙ h

module _ {A B X Y : Type 0} {V : A → X → Type 0} {U : B → Y → Type 0} {f : ℕ → List Item → Out A} {w m : Words} {d : ℕ} where
  -- the reader is refused at its first step
  pub stopped : {e : GrammarFault} (k : ℕ → A → List Item → Out B) (r : Result Y GrammarFault) → Takes d f V w (Err e) m → (is_err r ≡ true) × IsErrAnd r (λ y. y ≡ e) → Takes d (λ stop ws. then (f stop ws) (k stop)) U w r m
  stopped k (Ok y) h b = absurd b.1
  stopped k (Err g) h b =
      record { same = h.same; moved = tt; took = ap (λ o. then o (k (length w.text.now))) h.took ∙ ap Err (sym b.1) }

  -- the reader goes on behind its first step
  pub and-next : {v : Words} {r : Result Y GrammarFault} {e : ℕ} {x : X} (k : ℕ → A → List Item → Out B) (h : Takes d f V w (Ok x) m) → Takes e (λ stop ws. k stop h.took.0 ws) U m r v → Takes d (λ stop ws. then (f stop ws) (k stop)) U w r v
  and-next {v} {r} {e} {x} k h n =
      let a = h.took.0 in
      record {
        same = n.same ∙ h.same;
        moved = moved_on w.text m.text w.pos m.pos v.pos d e x r h.same h.moved n.moved;
        took =
            took_on U w.text.now _ (k (length w.text.now)) a m.pos v.pos r h.took.1
            (subst (λ t. Taken U t.now (k (length t.now) a (items t.now m.pos)) r v.pos) h.same n.took);
      }

  pub and_then : {v : Words} {r : Result Y GrammarFault} {e : ℕ} {x : X} (k : ℕ → A → List Item → Out B) → Takes d f V w (Ok x) m → ((a : A) → V a x → Takes e (λ stop ws. k stop a ws) U m r v) → Takes d (λ stop ws. then (f stop ws) (k stop)) U w r v
  and_then k h more = and-next k h (more h.took.0 h.took.2)

-- the same, where the first step answers its value
pub and_so : {A B Y : Type 0} {U : B → Y → Type 0} {f : ℕ → List Item → Out A} {w m v : Words} {d e : ℕ} {r : Result Y GrammarFault} {x : A} (k : ℕ → A → List Item → Out B) →
    Takes d f Itself w (Ok x) m → Takes e (λ stop ws. k stop x ws) U m r v → Takes d (λ stop ws. then (f stop ws) (k stop)) U w r v
and_so {U} {m} {v} {e} {r} k h more = and_then k h (λ a i. subst (λ b. Takes e (λ stop ws. k stop b ws) U m r v) (sym i) more)

-- the answer in another form
pub known : {A : Type 0} {f : ℕ → List Item → Out A} {w m : Words} {d : ℕ} {x y : A} → Takes d f Itself w (Ok x) m → x ≡ y → Takes d f Itself w (Ok y) m
known {f} {w} {m} {d} h e = subst (λ v. Takes d f Itself w (Ok v) m) e h

pub and_as : {A B Y : Type 0} {U : B → Y → Type 0} {f : ℕ → List Item → Out A} {w m v : Words} {d e : ℕ} {r : Result Y GrammarFault} {x y : A} (k : ℕ → A → List Item → Out B) →
    Takes d f Itself w (Ok x) m → x ≡ y → Takes e (λ stop ws. k stop y ws) U m r v → Takes d (λ stop ws. then (f stop ws) (k stop)) U w r v
and_as k h i more = and_so k (known h i) more
