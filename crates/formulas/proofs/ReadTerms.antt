-- The readers of a term, where those of its parts answer rightly.
use Rattle.std.proofs.Common.{◌≡◌, ℕ, suc, Bool, true, false, ◌↔◌, List, [], ◌∷◌, Some, Err, sym, refl, ap, ◌∙◌, subst, arith}
use Rattle.formulas.specs.declared.fault.GrammarFault.TheVariants.{Misplaced}
use Rattle.formulas.specs.declared.token.Token.{Token}
use Rattle.formulas.specs.declared.token.Token.TheVariants.{Open, Close, True, False, And, Not, Dia, Here, Prob, AtLeast, Plus, Times, Numeral}
use Rattle.formulas.specs.Grammar.{Item, Out, then, number, closed, begun, headed}
use Rattle.formulas.specs.Lines.{Sort, state, dist}
use Rattle.formulas.specs.Trees.{Tree, leaf, conj, neg, dia, here, at_least, Products, OfSort}
use Rattle.formulas.proofs.Written.{Toks, write, write_sum, Headed, shape}
use Rattle.formulas.proofs.Outcomes.{Limits, free, numbers, sizes, Right, right-behind, One, Two, right-misplaced}
use Rattle.formulas.proofs.Languages.{InBounds, Counted, counted_proper, counted_clear, Within, Said, said_proper, said_clear, Body, body_proper, SumWithin, Summed, summed_clear}
use Rattle.formulas.proofs.ReadTokens.{right-one, right_two, right-number}

module _ (stop : ℕ) where
  -- a term that is true, false, or begins with `(`
  pub right-begun : (room : ℕ) (σ : Sort) (behind : Out Tree) (p : ℕ) (t : Token) (rest : List Item)
      → Right stop (Said room σ) behind ((p, Some Open) ∷ rest)
      → Right stop (Said room σ) (begun (record { token = t; place = p }) rest behind) ((p, Some t) ∷ rest)
  right-begun room σ behind p t rest h = each t
    where
      out : (k : Token) → ((b : Tree) (u v : Toks) → Said room σ free b (Some k ∷ u) v → ⊥) → Right stop (Said room σ) (Err (Misplaced p)) ((p, Some k) ∷ rest)
      out k never = right-misplaced stop (Said room σ) (said_proper room σ) p k rest never

      constant : (b : Bool) (w : Limits) (v : Toks) → Said room σ w (leaf b) (write (leaf b) v) v
      constant b free v = record { sorted = tt; within = tt; spelled = refl }
      constant b numbers v = record { sorted = tt; within = tt; spelled = refl }
      constant b sizes v = record { sorted = tt; within = (tt, omega arith); spelled = refl }

      each : (k : Token) → Right stop (Said room σ) (begun (record { token = k; place = p }) rest behind) ((p, Some k) ∷ rest)
      each Open = h
      each Close = out Close (λ b u v k. shape b (Some Close ∷ u) v k.spelled)
      each True = ((p, Some True) ∷ [], refl, constant true)
      each False = ((p, Some False) ∷ [], refl, constant false)
      each And = out And (λ b u v k. shape b (Some And ∷ u) v k.spelled)
      each Not = out Not (λ b u v k. shape b (Some Not ∷ u) v k.spelled)
      each Dia = out Dia (λ b u v k. shape b (Some Dia ∷ u) v k.spelled)
      each Here = out Here (λ b u v k. shape b (Some Here ∷ u) v k.spelled)
      each Prob = out Prob (λ b u v k. shape b (Some Prob ∷ u) v k.spelled)
      each AtLeast = out AtLeast (λ b u v k. shape b (Some AtLeast ∷ u) v k.spelled)
      each Plus = out Plus (λ b u v k. shape b (Some Plus ∷ u) v k.spelled)
      each Times = out Times (λ b u v k. shape b (Some Times ∷ u) v k.spelled)
      each (Numeral n) = out (Numeral n) (λ b u v k. shape b (Some (Numeral n) ∷ u) v k.spelled)

-- the limits of a term and of its parts
conj_within : (room : ℕ) (w : Limits) (x y : Tree) → Within (suc room) w (conj x y) ↔ (Within room w x × Within room w y)
conj_within room free x y = (λ h. (tt, tt), λ h. tt)
conj_within room numbers x y = (λ h. h, λ h. h)
conj_within room sizes x y = (λ h. ((h.0.0, omega arith), (h.0.1, omega arith)), λ h. ((h.0.0, h.1.0), omega arith))

neg_within : (room : ℕ) (w : Limits) (x : Tree) → Within (suc room) w (neg x) ↔ Within room w x
neg_within room free x = (λ h. tt, λ h. tt)
neg_within room numbers x = (λ h. h, λ h. h)
neg_within room sizes x = (λ h. (h.0, omega arith), λ h. (h.0, omega arith))

here_within : (room : ℕ) (w : Limits) (x : Tree) → Within (suc room) w (here x) ↔ Within room w x
here_within room free x = (λ h. tt, λ h. tt)
here_within room numbers x = (λ h. h, λ h. h)
here_within room sizes x = (λ h. (h.0, omega arith), λ h. (h.0, omega arith))

dia_within : (room : ℕ) (w : Limits) (a : ℕ) (x : Tree) → Within (suc room) w (dia a x) ↔ (InBounds 0 31 w a × Within room w x)
dia_within room free a x = (λ h. (tt, tt), λ h. tt)
dia_within room numbers a x = (λ h. ((omega arith, h.0), h.1), λ h. (h.0.1, h.1))
dia_within room sizes a x = (λ h. (tt, (h.0, omega arith)), λ h. (h.1.0, omega arith))

at_least_within : (room : ℕ) (w : Limits) (ks : Products) (t : ℕ) → Within (suc room) w (at_least ks t) ↔ (SumWithin room w ks × InBounds 0 1000 w t)
at_least_within room free ks t = (λ h. (tt, tt), λ h. tt)
at_least_within room numbers ks t = (λ h. ((h.0, h.1), (omega arith, h.2)), λ h. (h.0.0, h.0.1, h.1.1))
at_least_within room sizes ks t = (λ h. ((h.0.0, h.0.1, omega arith), tt), λ h. ((h.0.0, h.0.1), omega arith))

module _ (stop room : ℕ) (sub : Sort → List Item → Out Tree) (sums : List Item → Out Products)
    (subs : (τ : Sort) (l : List Item) → Right stop (Said room τ) (sub τ l) l)
    (adds : (l : List Item) → Right stop (Summed room) (sums l) l) where
  -- a term of the sort σ with one part, of the sort τ
  right-only : (σ τ : Sort) (t : Token) (make : Tree → Tree) (sorts : (x : Tree) → OfSort σ (make x) ↔ OfSort τ x)
      (limits : (w : Limits) (x : Tree) → Within (suc room) w (make x) ↔ Within room w x)
      (words : (x : Tree) (v : Toks) → Some Open ∷ Some t ∷ write x (Some Close ∷ v) ≡ write (make x) v)
      (shaped : (b : Tree) (u v : Toks) → Some Open ∷ Some t ∷ u ≡ write b v → (x : Tree) × (b ≡ make x) × (u ≡ write x (Some Close ∷ v)))
      (p : ℕ) (ws : List Item) → Right stop (Body room σ) (then (sub τ ws) (λ a r. closed stop (make a) r)) ((p, Some t) ∷ ws)
  right-only σ τ t make sorts limits words shaped p ws =
      right-behind stop (One (Said room τ) make) (Body room σ) ((p, Some t) ∷ []) ws _
      (λ w b u v h.
      let x = h.2 in
      let e = h.3 in
      subst (λ c. Said (suc room) σ w c (Some Open ∷ Some t ∷ u) v) (sym e.0) (record {
        sorted = (sorts h.0).1 x.sorted;
        within = (limits w h.0).1 x.within;
        spelled = ap (λ l. Some Open ∷ Some t ∷ l) (x.spelled ∙ ap (λ l. write h.0 l) e.1) ∙ words h.0 v;
      }))
      (λ w b u v h.
      let k = shaped b u v h.spelled in (
        k.0,
        Some Close ∷ v,
        record {
          sorted = (sorts k.0).0 (subst (λ c. OfSort σ c) k.1 h.sorted);
          within = (limits w k.0).0 (subst (λ c. Within (suc room) w c) k.1 h.within);
          spelled = k.2;
        },
        (k.1, refl),
      ))
      (right-one stop (Said room τ) make (said_clear room τ) (sub τ ws) ws (subs τ ws))

  right-not : (σ : Sort) (p : ℕ) (ws : List Item) → Right stop (Body room σ) (then (sub σ ws) (λ a r. closed stop (neg a) r)) ((p, Some Not) ∷ ws)
  right-not σ p ws =
      right-only σ σ Not (λ x. neg x) (λ x. (λ h. h, λ h. h)) (λ w x. neg_within room w x) (λ x v. refl) (λ b u v e. shape b (Some Open ∷ Some Not ∷ u) v e) p ws

  right-here : (p : ℕ) (ws : List Item) → Right stop (Body room state) (then (sub dist ws) (λ d r. closed stop (here d) r)) ((p, Some Here) ∷ ws)
  right-here p ws =
      right-only state dist Here (λ x. here x) (λ x. (λ h. h, λ h. h)) (λ w x. here_within room w x) (λ x v. refl) (λ b u v e. shape b (Some Open ∷ Some Here ∷ u) v e) p ws

  right-and : (σ : Sort) (p : ℕ) (ws : List Item)
      → Right stop (Body room σ) (then (sub σ ws) (λ a r. then (sub σ r) (λ b s. closed stop (conj a b) s))) ((p, Some And) ∷ ws)
  right-and σ p ws =
      right-behind stop (Two (Said room σ) (Said room σ) (λ a b. conj a b)) (Body room σ) ((p, Some And) ∷ []) ws _
      (λ w b u v h.
      let x = h.2 in
      let y = h.3.2 in
      let e = h.3.3 in
      subst (λ c. Said (suc room) σ w c (Some Open ∷ Some And ∷ u) v) (sym e.0) (record {
        sorted = (x.sorted, y.sorted);
        within = (conj_within room w h.0 h.3.0).1 (x.within, y.within);
        spelled = ap (λ l. Some Open ∷ Some And ∷ l) (x.spelled ∙ ap (λ l. write h.0 l) (y.spelled ∙ ap (λ l. write h.3.0 l) e.1));
      }))
      (λ w b u v h.
      let k = shape b (Some Open ∷ Some And ∷ u) v h.spelled in
      let s : OfSort σ (conj k.0 k.1) = subst (λ c. OfSort σ c) k.2 h.sorted in
      let d = (conj_within room w k.0 k.1).0 (subst (λ c. Within (suc room) w c) k.2 h.within) in (
        k.0,
        write k.1 (Some Close ∷ v),
        record { sorted = s.0; within = d.0; spelled = k.3 },
        (k.1, Some Close ∷ v, record { sorted = s.1; within = d.1; spelled = refl }, (k.2, refl)),
      ))
      (right_two stop (Said room σ) (Said room σ) (λ a b. conj a b) (said_clear room σ) (said_clear room σ) (said_proper room σ).some (sub σ ws) (sub σ) ws (subs σ ws) (subs σ))

  right-dia : (p : ℕ) (ws : List Item)
      → Right stop (Body room state) (then (number 0 31 stop ws) (λ n r. then (sub dist r) (λ d s. closed stop (dia n d) s))) ((p, Some Dia) ∷ ws)
  right-dia p ws =
      right-behind stop (Two (Counted 0 31) (Said room dist) (λ n d. dia n d)) (Body room state) ((p, Some Dia) ∷ []) ws _
      (λ w b u v h.
      let n = h.2 in
      let x = h.3.2 in
      let e = h.3.3 in
      subst (λ c. Said (suc room) state w c (Some Open ∷ Some Dia ∷ u) v) (sym e.0) (record {
        sorted = x.sorted;
        within = (dia_within room w h.0 h.3.0).1 (n.0, x.within);
        spelled = ap (λ l. Some Open ∷ Some Dia ∷ l) (n.1 ∙ ap (λ l. Some (Numeral h.0) ∷ l) (x.spelled ∙ ap (λ l. write h.3.0 l) e.1));
      }))
      (λ w b u v h.
      let k = shape b (Some Open ∷ Some Dia ∷ u) v h.spelled in
      let s : OfSort state (dia k.0 k.1) = subst (λ c. OfSort state c) k.2 h.sorted in
      let d = (dia_within room w k.0 k.1).0 (subst (λ c. Within (suc room) w c) k.2 h.within) in (
        k.0,
        write k.1 (Some Close ∷ v),
        (d.0, k.3),
        (k.1, Some Close ∷ v, record { sorted = s; within = d.1; spelled = refl }, (k.2, refl)),
      ))
      (right_two stop (Counted 0 31) (Said room dist) (λ n d. dia n d) (counted_clear 0 31) (said_clear room dist) (said_proper room dist).some
      (number 0 31 stop ws) (sub dist) ws (right-number stop 0 31 ws) (subs dist))

  right-at_least : (p : ℕ) (ws : List Item)
      → Right stop (Body room dist) (then (sums ws) (λ ks r. then (number 0 1000 stop r) (λ n s. closed stop (at_least ks n) s))) ((p, Some AtLeast) ∷ ws)
  right-at_least p ws =
      right-behind stop (Two (Summed room) (Counted 0 1000) (λ ks n. at_least ks n)) (Body room dist) ((p, Some AtLeast) ∷ []) ws _
      (λ w b u v h.
      let x = h.2 in
      let n = h.3.2 in
      let e = h.3.3 in
      subst (λ c. Said (suc room) dist w c (Some Open ∷ Some AtLeast ∷ u) v) (sym e.0) (record {
        sorted = x.sorted;
        within = (at_least_within room w h.0 h.3.0).1 (x.within, n.0);
        spelled = ap (λ l. Some Open ∷ Some AtLeast ∷ l) (x.spelled ∙ ap (λ l. write_sum h.0 l) (n.1 ∙ ap (λ l. Some (Numeral h.3.0) ∷ l) e.1));
      }))
      (λ w b u v h.
      let k = shape b (Some Open ∷ Some AtLeast ∷ u) v h.spelled in
      let s : OfSort dist (at_least k.0 k.1) = subst (λ c. OfSort dist c) k.2 h.sorted in
      let d = (at_least_within room w k.0 k.1).0 (subst (λ c. Within (suc room) w c) k.2 h.within) in (
        k.0,
        Some (Numeral k.1) ∷ Some Close ∷ v,
        record { sorted = s; within = d.0; spelled = k.3 },
        (k.1, Some Close ∷ v, (d.1, refl), (k.2, refl)),
      ))
      (right_two stop (Summed room) (Counted 0 1000) (λ ks n. at_least ks n) (summed_clear room) (counted_clear 0 1000) (counted_proper 0 1000).some
      (sums ws) (number 0 1000 stop) ws (adds ws) (right-number stop 0 1000))

  no_head : (σ : Sort) (p : ℕ) (t : Token) (rest : List Item) → ((b : Tree) (u v : Toks) → Headed t b u v → OfSort σ b → ⊥)
      → Right stop (Body room σ) (Err (Misplaced p)) ((p, Some t) ∷ rest)
  no_head σ p t rest never = right-misplaced stop (Body room σ) (body_proper room σ) p t rest (λ b u v h. never b u v (shape b (Some Open ∷ Some t ∷ u) v h.spelled) h.sorted)

  pub right-headed : (σ : Sort) (p : ℕ) (t : Token) (rest : List Item)
      → Right stop (Body room σ) (headed stop sub sums σ (record { token = t; place = p }) rest) ((p, Some t) ∷ rest)
  right-headed σ p And rest = right-and σ p rest
  right-headed σ p Not rest = right-not σ p rest
  right-headed state p Dia rest = right-dia p rest
  right-headed dist p Dia rest = no_head dist p Dia rest (λ b u v h s. subst (λ c. OfSort dist c) h.2 s)
  right-headed state p Here rest = right-here p rest
  right-headed dist p Here rest = no_head dist p Here rest (λ b u v h s. subst (λ c. OfSort dist c) h.1 s)
  right-headed state p AtLeast rest = no_head state p AtLeast rest (λ b u v h s. subst (λ c. OfSort state c) h.2 s)
  right-headed dist p AtLeast rest = right-at_least p rest
  right-headed state p Open rest = no_head state p Open rest (λ b u v h s. h)
  right-headed dist p Open rest = no_head dist p Open rest (λ b u v h s. h)
  right-headed state p Close rest = no_head state p Close rest (λ b u v h s. h)
  right-headed dist p Close rest = no_head dist p Close rest (λ b u v h s. h)
  right-headed state p True rest = no_head state p True rest (λ b u v h s. h)
  right-headed dist p True rest = no_head dist p True rest (λ b u v h s. h)
  right-headed state p False rest = no_head state p False rest (λ b u v h s. h)
  right-headed dist p False rest = no_head dist p False rest (λ b u v h s. h)
  right-headed state p Prob rest = no_head state p Prob rest (λ b u v h s. h)
  right-headed dist p Prob rest = no_head dist p Prob rest (λ b u v h s. h)
  right-headed state p Plus rest = no_head state p Plus rest (λ b u v h s. h)
  right-headed dist p Plus rest = no_head dist p Plus rest (λ b u v h s. h)
  right-headed state p Times rest = no_head state p Times rest (λ b u v h s. h)
  right-headed dist p Times rest = no_head dist p Times rest (λ b u v h s. h)
  right-headed state p (Numeral n) rest = no_head state p (Numeral n) rest (λ b u v h s. h)
  right-headed dist p (Numeral n) rest = no_head dist p (Numeral n) rest (λ b u v h s. h)
