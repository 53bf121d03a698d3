-- What the methods of a pile owe, as facts of numbers and lists.
use Rattle.std.proofs.Common.{◌≡◌, ℕ, ◌+◌, ◌-◌, ◌*◌, ◌/◌, ◌%◌, ◌<◌, ◌≤◌, Bool, true, false, ◌⊎◌, List, [], ◌∷◌, length, get_or, Some, None, Option, sym, refl, ap, ◌∙◌, subst, ap₂, inl, inr, mod-eq_of_lt, mul-le-mul, one-mul, mul-one, div-one, arith}
use native.Mathlib.Nat.{mod-one, div-eq_of_lt}
use lib.Arith.{digits_lt}
use Rattle.std.specs.List.{slice_get}
use Rattle.std.proofs.lemmas.List.{get_or_past, nil_from_length}
use Rattle.std.proofs.lemmas.Option.{slice_get-get_or, slice_get_past}
use Rattle.std.proofs.lemmas.Bool.{cases_lt}
use Rattle.std.proofs.ByRecursion.{All-get_or}
use Rattle.std.proofs.lemmas.List.Sums.{get_or-le-sum_by}
use Rattle.systems.specs.declared.system.Target.{Target}
use Rattle.systems.specs.Meaning.{Meaning, Move, Ruled, Good, Aimed, point}
use Rattle.systems.specs.Piles.{over, pair, moves_over, pile}
use Rattle.systems.specs.Splits.{Split}
use Rattle.systems.specs.Cross.{length_cross}
use Rattle.systems.specs.Piled.{both, both_none, inside_moves, shared_moves, shared_count, apart_count, shared_move, upper_move, lower_move, cross_nil, nth_pair, good_move}
use Rattle.systems.specs.PiledSound.{upper_below, lower_below}

-- a target that a ruled system may answer
abbrev pub Held : ℕ → ℕ → Option Target → Type 0
Held n m (Some t) = (t.state < n) × (t.weight ≤ m)
Held n m None = Unit {0}

module _ (S : Meaning) (s : Ruled S) where
  pub short-move : (k a i : ℕ) → length (get_or (S.moves k a) i []) ≤ S.breadth
  short-move k a i = go (cases_lt i (length (S.moves k a)))
    where
      go : (i < length (S.moves k a)) ⊎ (length (S.moves k a) ≤ i) → length (get_or (S.moves k a) i []) ≤ S.breadth
      go (inl l) = (good_move S s k a i l).short
      go (inr g) = rw (get_or_past (S.moves k a) i [] g) (omega arith)

  pub held-target : (k a i j : ℕ) (o : Option Target) → o ≡ slice_get (get_or (S.moves k a) i []) j → Held S.states S.mass o
  held-target k a i j o e = subst (Held S.states S.mass) (sym e) (go (cases_lt i (length (S.moves k a))))
    where
      at : (mv : Move) → Good S.states S.mass S.breadth mv → (j < length mv) ⊎ (length mv ≤ j) → Held S.states S.mass (slice_get mv j)
      at mv g (inl l) =
          let d : Target = record { state = 0; weight = 0 } in
          let le = get_or-le-sum_by (λ (t : Target). t.weight) mv j d l in
          let aim = All-get_or (Aimed S.states) mv j d l g.aimed in
          rw (slice_get-get_or mv j d l) (aim.inside, omega (arith, le, g.whole))
      at mv g (inr p) = rw (slice_get_past mv j p) tt

      go : (i < length (S.moves k a)) ⊎ (length (S.moves k a) ≤ i) → Held S.states S.mass (slice_get (get_or (S.moves k a) i []) j)
      go (inl l) = at (get_or (S.moves k a) i []) (good_move S s k a i l) (cases_lt j (length (get_or (S.moves k a) i [])))
      go (inr g) = rw (get_or_past (S.moves k a) i [] g) tt

-- one over the other, where the lower system has k states, is within the limits
abbrev pub Room : ℕ → Target → Target → Type 0
Room k x y = (x.state * k + y.state ≤ 1073741824) × (x.weight * y.weight ≤ 1000000000000000)

-- the lengths and the elements of a pair
length-pair : (k : ℕ) (mu ml : Move) → length (pair k mu ml) ≡ length mu * length ml
length-pair k mu ml = length_cross (over k) mu ml

nth_upper : (k : ℕ) (mu : Move) (t : Target) (i : ℕ) → slice_get (pair k mu (t ∷ [])) i ≡ both k (slice_get mu i) (Some t)
nth_upper k mu t i = nth_pair k mu (t ∷ []) i (omega arith) ∙ rw (div-one i, mod-one i) refl

nth_lower : (k : ℕ) (t : Target) (ml : Move) (i : ℕ) → slice_get (pair k (t ∷ []) ml) i ≡ both k (Some t) (slice_get ml i)
nth_lower k t ml i = go (cases_lt i (length ml))
  where
    go : (i < length ml) ⊎ (length ml ≤ i) → slice_get (pair k (t ∷ []) ml) i ≡ both k (Some t) (slice_get ml i)
    go (inl l) = nth_pair k (t ∷ []) ml i (omega arith) ∙ rw (div-eq_of_lt l, mod-eq_of_lt l) refl
    go (inr g) =
        let e : length (pair k (t ∷ []) ml) ≤ i = omega (arith, length-pair k (t ∷ []) ml, one-mul (length ml)) in
        slice_get_past (pair k (t ∷ []) ml) i e ∙ rw (slice_get_past ml i g) refl

-- in a state that is u over v
module _ {A : ℕ → Bool} {U L : Meaning} {s u v : ℕ} (h : Split A U L s u v) where
  upper-inside : u < U.states
  upper-inside = rw h.upper_at (upper_below A U L h.upper_ruled h.lower_ruled s h.within)

  lower-inside : v < L.states
  lower-inside = rw h.lower_at (lower_below A U L h.upper_ruled h.lower_ruled s)

  -- the moves are those of u over v
  module _ (a : ℕ) where
    split_moves : (pile A U L).moves s a ≡ moves_over A U L u v a
    split_moves = inside_moves A U L s a h.within ∙ ap₂ (λ (x y : ℕ). moves_over A U L x y a) (sym h.upper_at) (sym h.lower_at)

    module _ {up low : ℕ} (eu : up ≡ length (U.moves u a)) (el : low ≡ length (L.moves v a)) where
      pub count-shared : true ≡ A a → up * low ≡ length ((pile A U L).moves s a)
      count-shared sh = let p = ap length split_moves in let q = shared_count A U L u v a (sym sh) in cc

      pub count-apart : false ≡ A a → up + low ≡ length ((pile A U L).moves s a)
      count-apart sh = let p = ap length split_moves in let q = apart_count A U L u v a (sym sh) in cc

      pub few-shared : up * low ≤ 1073741824
      few-shared =
          let p : up * low ≤ U.breadth * L.breadth = mul-le-mul (omega (arith, h.upper_ruled.few u a)) (omega (arith, h.lower_ruled.few v a)) in
          omega (arith, h.limited.breadth_high)

    pub short-shared : (i j : ℕ) {x y : ℕ} → x ≡ length (get_or (U.moves u a) i []) → y ≡ length (get_or (L.moves v a) j []) → x * y ≤ 1073741824
    short-shared i j {x} {y} ex ey =
        let p : x * y ≤ U.breadth * L.breadth = mul-le-mul (omega (arith, short-move U h.upper_ruled u a i)) (omega (arith, short-move L h.lower_ruled v a j)) in
        omega (arith, h.limited.breadth_high)

    -- what stands over what fits, where the lower system has k states
    module _ {k : ℕ} (ek : k ≡ L.states) where
      room_of : (x y : Target) → Held U.states U.mass (Some x) → Held L.states L.mass (Some y) → Room k x y
      room_of x y hx hy =
          let d : x.state * L.states + y.state < U.states * L.states = digits_lt hx.0 hy.0 in
          let w : x.weight * y.weight ≤ U.mass * L.mass = mul-le-mul hx.1 hy.1 in
          let same = ap (λ (z : ℕ). x.state * z + y.state) ek in
          (omega (arith, h.limited.states_high), omega (arith, h.limited.mass_high))

      pub room-shared : (i j e f : ℕ) {x y : Target} → Some x ≡ slice_get (get_or (U.moves u a) i []) j → Some y ≡ slice_get (get_or (L.moves v a) e []) f → Room k x y
      room-shared i j e f {x} {y} ex ey = room_of x y (held-target U h.upper_ruled u a i j (Some x) ex) (held-target L h.lower_ruled v a e f (Some y) ey)

      pub room-upper : (i j : ℕ) {w : ℕ} {x : Target} → Some x ≡ slice_get (get_or (U.moves u a) i []) j → w ≡ L.mass → Room k x (record { state = v; weight = w })
      room-upper i j {w} {x} ex ew = room_of x (record { state = v; weight = w }) (held-target U h.upper_ruled u a i j (Some x) ex) (lower-inside, omega arith)

      pub room-lower : (i j : ℕ) {w : ℕ} {y : Target} → Some y ≡ slice_get (get_or (L.moves v a) i []) j → w ≡ U.mass → Room k (record { state = u; weight = w }) y
      room-lower i j {w} {y} ey ew = room_of (record { state = u; weight = w }) y (upper-inside, omega arith) (held-target L h.lower_ruled v a i j (Some y) ey)

    -- each move, by its number
    module _ (mv : ℕ) where
      module _ {low : ℕ} (sh : true ≡ A a) (el : low ≡ length (L.moves v a)) where
        pub no_move : low ≡ 0 → get_or ((pile A U L).moves s a) mv [] ≡ []
        no_move z =
            let e = nil_from_length (L.moves v a) (sym el ∙ z) in
            let p : (pile A U L).moves s a ≡ [] = split_moves ∙ shared_moves A U L u v a (sym sh) ∙ rw e (cross_nil (pair L.states) (U.moves u a)) in
            rw p refl

        module _ (some : low ≡ 0 → ⊥) where
          pair-move : get_or ((pile A U L).moves s a) mv [] ≡ pair L.states (get_or (U.moves u a) (mv / low) []) (get_or (L.moves v a) (mv % low) [])
          pair-move = ap (λ (ms : List Move). get_or ms mv []) split_moves ∙ shared_move A U L u v a mv (sym sh) (omega arith) ∙ rw el refl

          pub targets_shared : {x y : ℕ} → x ≡ length (get_or (U.moves u a) (mv / low) []) → y ≡ length (get_or (L.moves v a) (mv % low) []) → x * y ≡ length (get_or ((pile A U L).moves s a) mv [])
          targets_shared ex ey =
              let p = ap length pair-move in
              let q = length-pair L.states (get_or (U.moves u a) (mv / low) []) (get_or (L.moves v a) (mv % low) []) in
              cc

          module _ {t : ℕ} (et : t ≡ length (get_or (L.moves v a) (mv % low) [])) (j : ℕ) where
            pub no_target : t ≡ 0 → None ≡ slice_get (get_or ((pile A U L).moves s a) mv []) j
            no_target z =
                let e = nil_from_length (get_or (L.moves v a) (mv % low) []) (sym et ∙ z) in
                let q = cross_nil (over L.states) (get_or (U.moves u a) (mv / low) []) in
                sym (ap (λ (xs : Move). slice_get xs j) pair-move ∙ rw (e, q) refl)

            pub target-shared : {k : ℕ} {x y : Option Target} → k ≡ L.states → (t ≡ 0 → ⊥) → x ≡ slice_get (get_or (U.moves u a) (mv / low) []) (j / t) → y ≡ slice_get (get_or (L.moves v a) (mv % low) []) (j % t) → both k x y ≡ slice_get (get_or ((pile A U L).moves s a) mv []) j
            target-shared {x = x} {y = y} ek tpos ex ey =
                let p = ap (λ (xs : Move). slice_get xs j) pair-move in
                let q = nth_pair L.states (get_or (U.moves u a) (mv / low) []) (get_or (L.moves v a) (mv % low) []) j (omega arith) in
                ap (λ (z : ℕ). both z x y) ek ∙ rw (ex, ey, et) (sym (p ∙ q))

            -- the upper move has no such target
            pub no_upper : (t ≡ 0 → ⊥) → None ≡ slice_get (get_or (U.moves u a) (mv / low) []) (j / t) → None ≡ slice_get (get_or ((pile A U L).moves s a) mv []) j
            no_upper tpos ex = sym (both_none L.states _) ∙ target-shared refl tpos ex refl

      module _ {up : ℕ} (sh : false ≡ A a) (eu : up ≡ length (U.moves u a)) where
        module _ (l : mv < up) where
          upper-pair : get_or ((pile A U L).moves s a) mv [] ≡ pair L.states (get_or (U.moves u a) mv []) (point L v)
          upper-pair = ap (λ (ms : List Move). get_or ms mv []) split_moves ∙ upper_move A U L u v a mv (sym sh) (omega arith)

          pub targets_upper : {x : ℕ} → x ≡ length (get_or (U.moves u a) mv []) → x ≡ length (get_or ((pile A U L).moves s a) mv [])
          targets_upper ex =
              let p = ap length upper-pair in
              let q = length-pair L.states (get_or (U.moves u a) mv []) (point L v) in
              let r = mul-one (length (get_or (U.moves u a) mv [])) in
              cc

          pub target-upper : (j : ℕ) {k w : ℕ} {x : Option Target} → k ≡ L.states → w ≡ L.mass → x ≡ slice_get (get_or (U.moves u a) mv []) j → both k x (Some (record { state = v; weight = w })) ≡ slice_get (get_or ((pile A U L).moves s a) mv []) j
          target-upper j ek ew ex =
              let p = ap (λ (xs : Move). slice_get xs j) upper-pair in
              let q = nth_upper L.states (get_or (U.moves u a) mv []) (record { state = v; weight = L.mass }) j in
              rw (ek, ex, ew) (sym (p ∙ q))

        module _ (g : up ≤ mv) where
          lower-pair : get_or ((pile A U L).moves s a) mv [] ≡ pair L.states (point U u) (get_or (L.moves v a) (mv - up) [])
          lower-pair = ap (λ (ms : List Move). get_or ms mv []) split_moves ∙ lower_move A U L u v a mv (sym sh) (omega arith) ∙ rw eu refl

          pub targets_lower : {x : ℕ} → x ≡ length (get_or (L.moves v a) (mv - up) []) → x ≡ length (get_or ((pile A U L).moves s a) mv [])
          targets_lower ex =
              let p = ap length lower-pair in
              let q = length-pair L.states (point U u) (get_or (L.moves v a) (mv - up) []) in
              let r = one-mul (length (get_or (L.moves v a) (mv - up) [])) in
              cc

          pub target-lower : (j : ℕ) {k w : ℕ} {y : Option Target} → k ≡ L.states → w ≡ U.mass → y ≡ slice_get (get_or (L.moves v a) (mv - up) []) j → both k (Some (record { state = u; weight = w })) y ≡ slice_get (get_or ((pile A U L).moves s a) mv []) j
          target-lower j ek ew ey =
              let p = ap (λ (xs : Move). slice_get xs j) lower-pair in
              let q = nth_lower L.states (record { state = u; weight = U.mass }) (get_or (L.moves v a) (mv - up) []) j in
              rw (ek, ey, ew) (sym (p ∙ q))
