-- Lists with some entries put in the place of others.
use Rattle.std.proofs.Common.{◌≡◌, ℕ, ◌+◌, ◌-◌, ◌<◌, ◌≤◌, Bool, true, false, cond, Option, None, Some, List, [], ◌∷◌, ◌++◌, map, length, get_or, take, drop, set, filter, sym, refl, ap, ◌∙◌, subst, ap₂, add-zero, arith}
use Rattle.std.specs.List.{AllByRecursion, cons_option}
use Rattle.std.proofs.lemmas.List.{append_assoc, append-nil, length-append, length-map, length_push, length-take-le, length-drop, take-append-drop, take_at, drop_at, drop-drop, drop_more, take_more, set_at, get_or-drop, get_or-take}
use Rattle.std.proofs.ByRecursion.{All-get_or}
use Rattle.std.proofs.lemmas.List.Sums.{length-filter, count_by-le-length}
use Rattle.formulas.specs.Lines.{part}
use Rattle.formulas.specs.Tables.{over}
use Rattle.simplification.specs.Moving.{put, Remains, Moved}

module _ {X : Type 0} where
  -- the plain form, also with nothing to put
  put_is : (p : ℕ) (new old : List X) → put p new old ≡ take p old ++ (new ++ drop (p + length new) old)
  put_is p [] old = sym (ap (λ k. take p old ++ drop k old) (add-zero p) ∙ take-append-drop p old)
  put_is p (x ∷ new) old = refl

  put-long : (p : ℕ) (new old : List X) → p ≤ length old → length (take p old ++ new) ≡ p + length new
  put-long p new old h = length-append (take p old) new ∙ ap (λ n. n + length new) (length-take-le p old h)

  -- in two parts: what is put with all before it, and what follows
  put-parts : (p : ℕ) (new old : List X) → put p new old ≡ (take p old ++ new) ++ drop (p + length new) old
  put-parts p new old = put_is p new old ∙ sym (append_assoc (take p old) new (drop (p + length new) old))

  drop-put : (p q : ℕ) (new old : List X) → p ≤ length old → p + length new ≤ q → drop q (put p new old) ≡ drop q old
  drop-put p q new old h l =
      let m = p + length new in
      let front = take p old ++ new in
      let s : m + (q - m) ≡ q = omega arith in
      ap (drop q) (put-parts p new old)
      ∙ (ap (λ n. drop n (front ++ drop m old)) (sym s)
      ∙ (sym (drop-drop (q - m) m (front ++ drop m old))
      ∙ (ap (drop (q - m)) (drop_at front (drop m old) m (put-long p new old h))
      ∙ (drop-drop (q - m) m old ∙ ap (λ n. drop n old) s))))

  pub part-put : (p q n : ℕ) (new old : List X) → p ≤ length old → p + length new ≤ q → part (put p new old) q n ≡ part old q n
  part-put p q n new old h l = ap (take n) (drop-put p q new old h l)

  get_or_put : (p q : ℕ) (new old : List X) (d : X) → p ≤ length old → p + length new ≤ q → get_or (put p new old) q d ≡ get_or old q d
  get_or_put p q new old d h l =
      let at : (xs : List X) → get_or (drop q xs) 0 d ≡ get_or xs q d = λ xs. get_or-drop q xs 0 d ∙ ap (λ k. get_or xs k d) (add-zero q) in
      sym (at (put p new old)) ∙ (ap (λ xs. get_or xs 0 d) (drop-put p q new old h l) ∙ at old)

  -- one entry more
  put-more : (p : ℕ) (new old : List X) (y : X) → p + length new < length old → set (put p new old) (p + length new) y ≡ put p (new ++ (y ∷ [])) old
  put-more p new old y h =
      let q = p + length new in
      let front = take p old ++ new in
      let long : length front ≡ q = put-long p new old (omega arith) in
      let next : q + 1 ≡ p + length (new ++ (y ∷ [])) = omega (arith, length_push new y) in
      ap (λ l. set l q y) (put-parts p new old ∙ ap (λ r. front ++ r) (drop_more old q y h))
      ∙ (set_at front (get_or old q y) (drop (q + 1) old) y q long
      ∙ (append_assoc (take p old) new (y ∷ drop (q + 1) old)
      ∙ (ap (λ r. take p old ++ r) (sym (append_assoc new (y ∷ []) (drop (q + 1) old)))
      ∙ (ap (λ n. take p old ++ ((new ++ (y ∷ [])) ++ drop n old)) next
      ∙ sym (put_is p (new ++ (y ∷ [])) old)))))

  -- more entries, after those put before
  pub put-put : (p q : ℕ) (new more old : List X) → q ≡ p + length new → p ≤ length old → put q more (put p new old) ≡ put p (new ++ more) old
  put-put p q new more old s h =
      let front = take p old ++ new in
      let n = q + length more in
      let rest = drop (p + length new) old in
      let long : length front ≡ q = put-long p new old h ∙ sym s in
      let end : n ≡ p + length (new ++ more) = omega (arith, length-append new more) in
      put_is q more (put p new old)
      ∙ (ap₂ (λ (a b : List X). a ++ (more ++ b)) (ap (take q) (put-parts p new old) ∙ take_at front rest q long) (drop-put p n new old h (omega arith))
      ∙ (append_assoc (take p old) new (more ++ drop n old)
      ∙ (ap (λ r. take p old ++ r) (sym (append_assoc new more (drop n old)))
      ∙ (ap (λ k. take p old ++ ((new ++ more) ++ drop k old)) end
      ∙ sym (put_is p (new ++ more) old)))))

  -- a list over the front of another is put at its first place
  over-is : (front old : List X) → over front old ≡ put 0 front old
  over-is [] old = refl
  over-is (x ∷ front) old = let e : length (x ∷ front) ≡ 0 + length (x ∷ front) = omega arith in ap (λ n. (x ∷ front) ++ drop n old) e

  pub over-more : (front new old : List X) (p : ℕ) → p ≡ length front → put p new (over front old) ≡ over (front ++ new) old
  over-more front new old p s =
      ap (put p new) (over-is front old) ∙ (put-put 0 p front new old (omega arith) (omega arith) ∙ sym (over-is (front ++ new) old))

  pub over_set : (front old : List X) (y : X) → length front < length old → set (over front old) (length front) y ≡ over (front ++ (y ∷ [])) old
  over_set front old y h =
      let e : length front ≡ 0 + length front = omega arith in
      ap₂ (λ (xs : List X) (k : ℕ). set xs k y) (over-is front old) e ∙ (put-more 0 front old y (omega arith) ∙ sym (over-is (front ++ (y ∷ [])) old))

  pub drop-over : (q : ℕ) (front old : List X) → length front ≤ q → drop q (over front old) ≡ drop q old
  drop-over q front old h = ap (drop q) (over-is front old) ∙ drop-put 0 q front old (omega arith) (omega arith)

  pub get_or_past_over : (q : ℕ) (front old : List X) (d : X) → length front ≤ q → get_or (over front old) q d ≡ get_or old q d
  get_or_past_over q front old d h = ap (λ xs. get_or xs q d) (over-is front old) ∙ get_or_put 0 q front old d (omega arith) (omega arith)

  pub length_over : (front old : List X) → length front ≤ length old → length (over front old) ≡ length old
  length_over front old h = omega (arith, length-append front (drop (length front) old), length-drop (length front) old)

  part-more : (xs : List X) (p n : ℕ) (d : X) → p + n < length xs → part xs p (n + 1) ≡ part xs p n ++ (get_or xs (p + n) d ∷ [])
  part-more xs p n d h =
      take_more (drop p xs) n d (omega (arith, length-drop p xs)) ∙ ap (λ x. take n (drop p xs) ++ (x ∷ [])) (get_or-drop p xs n d)

  part_at : (xs : List X) (p n k : ℕ) (d : X) → k < n → get_or (part xs p n) k d ≡ get_or xs (p + k) d
  part_at xs p n k d h = get_or-take n (drop p xs) k d h ∙ get_or-drop p xs k d

  pub length_part : (xs : List X) (p n : ℕ) → p + n ≤ length xs → length (part xs p n) ≡ n
  length_part xs p n h = length-take-le n (drop p xs) (omega (arith, length-drop p xs))

-- what R leaves of entries that are looked at one after another
module _ {X : Type 0} (R : X → Option X → Type 0) where
  pub left-few : (xs ys : List X) → Remains R xs ys → length ys ≤ length xs
  left-few [] ys e = omega (arith, ap length e)
  left-few (x ∷ xs) ys (None, zs, r, l, e) = omega (arith, left-few xs zs l, ap length e)
  left-few (x ∷ xs) ys (Some y, zs, r, l, e) = omega (arith, left-few xs zs l, ap length e)

  pub left-more : (xs ys : List X) (x : X) (o : Option X) → Remains R xs ys → R x o → Remains R (xs ++ (x ∷ [])) (ys ++ cons_option o [])
  left-more [] ys x o e r = (o, [], r, refl, ap (λ l. l ++ cons_option o []) e)
  left-more (z ∷ xs) ys x o (None, zs, q, l, e) r = (None, zs ++ cons_option o [], q, left-more xs zs x o l r, ap (λ l. l ++ cons_option o []) e)
  left-more (z ∷ xs) ys x o (Some y, zs, q, l, e) r = (Some y, zs ++ cons_option o [], q, left-more xs zs x o l r, ap (λ l. l ++ cons_option o []) e)

-- where it leaves what f and g tell, that is the entries that pass f, changed by g
pub left-is : {X : Type 0} (R : X → Option X → Type 0) (f : X → Bool) (g : X → X) (xs ys : List X)
    → AllByRecursion (λ x. (o : Option X) → R x o → o ≡ cond (f x) (Some (g x)) None) xs → Remains R xs ys → ys ≡ map g (filter f xs)
left-is R f g [] ys h e = e
left-is R f g (x ∷ xs) ys h (o, zs, r, l, e) =
    e ∙ (ap₂ (λ (o : Option _) (ws : List _). cons_option o ws) (h.0 o r) (left-is R f g xs zs h.1 l) ∙ passes (f x))
  where
    passes : (b : Bool) → cons_option (cond b (Some (g x)) None) (map g (filter f xs)) ≡ map g (cond b (x ∷ filter f xs) (filter f xs))
    passes true = refl
    passes false = refl

-- the same of what is moved
pub moved-is : {X : Type 0} (R : X → Option X → Type 0) (f : X → Bool) (g : X → X) (xs : List X) (p : ℕ) (old : List X) (e : ℕ) (new : List X) (m : Moved R xs p old e new)
    → AllByRecursion (λ x. (o : Option X) → R x o → o ≡ cond (f x) (Some (g x)) None) xs
    → (e ≡ p + length (map g (filter f xs))) × (new ≡ put p (map g (filter f xs)) old)
moved-is R f g xs p old e new m h =
    let same = left-is R f g xs m.left h m.each in
    (m.end ∙ ap (λ l. p + length l) same, m.is ∙ ap (λ l. put p l old) same)

kept-all : {X : Type 0} (xs : List X) → filter (λ _. true) xs ≡ xs
kept-all [] = refl
kept-all (x ∷ xs) = ap (λ r. x ∷ r) (kept-all xs)

-- the same where something is left of each entry
pub moved-all : {X : Type 0} (R : X → Option X → Type 0) (g : X → X) (xs : List X) (p : ℕ) (old : List X) (e : ℕ) (new : List X) (m : Moved R xs p old e new)
    → AllByRecursion (λ x. (o : Option X) → R x o → o ≡ Some (g x)) xs
    → (e ≡ p + length (map g xs)) × (new ≡ put p (map g xs) old)
moved-all R g xs p old e new m h =
    let moved = moved-is R (λ _. true) g xs p old e new m h in
    let every = kept-all xs in
    (moved.0 ∙ ap (λ l. p + length (map g l)) every, moved.1 ∙ ap (λ l. put p (map g l) old) every)

pub moved-few : {X : Type 0} (f : X → Bool) (g : X → X) (xs : List X) (p n : ℕ) → p + n ≤ length xs → length (map g (filter f (part xs p n))) ≤ n
moved-few f g xs p n h =
    omega (arith, length-map (filter f (part xs p n)) g, length-filter f (part xs p n), count_by-le-length f (part xs p n), length_part xs p n h)

-- what R leaves of the entries from the place p to the place q is moved down to the place s, and w is where it ends
abbrev pub Moving : {X : Type 0} → (X → Option X → Type 0) → List X → List X → ℕ → ℕ → ℕ → ℕ → Type 0
Moving R xs ys p s q w = Moved R (part xs p (q - p)) s xs w ys

module _ {X : Type 0} (R : X → Option X → Type 0) (xs : List X) (p s : ℕ) where
  module _ (ys : List X) (q w : ℕ) (m : Moving R xs ys p s q w) (past : s ≤ p) (low : p ≤ q) (h : q < length xs) where
    few : length m.left ≤ q - p
    few = omega (arith, left-few R (part xs p (q - p)) m.left m.each, length_part xs p (q - p) (omega arith))

    pub moving-low : w ≤ q
    moving-low = omega (arith, few, m.end)

    pub moving-read : (d : X) → get_or ys q d ≡ get_or xs q d
    moving-read d = ap (λ l. get_or l q d) m.is ∙ get_or_put s q m.left xs d (omega arith) (omega (arith, few))

    pub moving-at : (P : X → Type 0) (count : ℕ) → p + count ≤ length xs → q < p + count → AllByRecursion P (part xs p count) → (d : X) → d ≡ get_or ys q d → P d
    moving-at P count l b a d e =
        let n = q - p in
        let here : p + n ≡ q = omega arith in
        subst P (part_at xs p count n d (omega arith) ∙ (ap (λ k. get_or xs k d) here ∙ (sym (moving-read d) ∙ sym e)))
        (All-get_or P (part xs p count) n d (omega (arith, length_part xs p count l)) a)

    grows : (d : X) → d ≡ get_or ys q d → (o : Option X) → R d o → Remains R (part xs p ((q + 1) - p)) (m.left ++ cons_option o [])
    grows d e o r =
        let n = q - p in
        let here : p + n ≡ q = omega arith in
        let next : (q + 1) - p ≡ n + 1 = omega arith in
        let more = ap (part xs p) next ∙ (part-more xs p n d (omega arith) ∙ ap (λ k. part xs p n ++ (get_or xs k d ∷ [])) here) in
        subst (λ l. Remains R l (m.left ++ cons_option o [])) (sym more)
        (left-more R (part xs p n) m.left (get_or xs q d) o m.each (subst (λ x. R x o) (e ∙ moving-read d) r))

    pub moving-take : (d : X) → d ≡ get_or ys q d → (y : X) → R d (Some y) → (ys' : List X) (w' : ℕ) → ys' ≡ set ys w y → w' ≡ w + 1 → Moving R xs ys' p s (q + 1) w'
    moving-take d e y r ys' w' u v = record {
      left = m.left ++ (y ∷ []);
      each = grows d e (Some y) r;
      end = omega (arith, v, m.end, length_push m.left y);
      is = u ∙ (ap₂ (λ (l : List X) (k : ℕ). set l k y) m.is m.end ∙ put-more s m.left xs y (omega (arith, few)));
    }

    pub moving_skip : (d : X) → d ≡ get_or ys q d → R d None → (ys' : List X) (w' : ℕ) → ys' ≡ ys → w' ≡ w → Moving R xs ys' p s (q + 1) w'
    moving_skip d e r ys' w' u v = record {
      left = m.left;
      each = subst (λ l. Remains R (part xs p ((q + 1) - p)) l) (append-nil m.left) (grows d e None r);
      end = v ∙ m.end;
      is = u ∙ m.is;
    }
