-- The moves of a pile, by those of its parts.
use Rattle.std.specs.Prelude.{◌≡◌, ℕ, ◌+◌, ◌-◌, ◌*◌, ◌/◌, ◌%◌, ◌<◌, ◌≤◌, Bool, true, false, ◌⊎◌, List, [], ◌∷◌, ◌++◌, map, length, Some, None, Option, slice_index_or, refl}
use Rattle.std.proofs.Common.{sym, ap, ◌∙◌, inl, inr, arith, length-append}
use Rattle.std.specs.List.{slice_get}
use Rattle.std.proofs.lemmas.List.{get_or_append_left, get_or-append_right, get_or-map, get_or_past, length-map}
use Rattle.std.proofs.lemmas.Bool.{cases_lt, cond-true, cond-false, lt-ltb, le-ltb}
use Rattle.std.proofs.lemmas.Option.{slice_get-get_or, slice_get_past}
use Rattle.std.proofs.lemmas.Nat.{le-div, div_below, mod_below}
use Rattle.std.proofs.ByRecursion.{All-get_or}
use Rattle.systems.specs.declared.system.Target.{Target}
use Rattle.systems.specs.Meaning.{Meaning, Move, Ruled, Good, point}
use Rattle.systems.specs.Piles.{cross, over, pair, moves_over, pile_moves}
use Rattle.systems.specs.Cross.{length_cross, get_or_cross}

-- both of them, one over the other, if there are both
abbrev pub both : ℕ → Option Target → Option Target → Option Target
both k (Some x) (Some y) = Some (over k x y)
both k (Some x) None = None
both k None (Some y) = None
both k None None = None

pub both_none : (k : ℕ) (o : Option Target) → both k None o ≡ None
both_none k (Some y) = refl
both_none k None = refl

no_target : Target
no_target = record { state = 0; weight = 0 }

-- the target of a pair at any place
pub nth_pair : (k : ℕ) (xs ys : Move) (i : ℕ) → 0 < length ys → slice_get (pair k xs ys) i ≡ both k (slice_get xs (i / length ys)) (slice_get ys (i % length ys))
nth_pair k xs ys i pos = go (cases_lt i (length xs * length ys))
  where
    go : (i < length xs * length ys) ⊎ (length xs * length ys ≤ i) → slice_get (pair k xs ys) i ≡ both k (slice_get xs (i / length ys)) (slice_get ys (i % length ys))
    go (inl l) =
        let l' : i < length (pair k xs ys) = omega (arith, length_cross (over k) xs ys) in
        let q : i / length ys < length xs = div_below i (length ys) (length xs) pos l in
        let r : i % length ys < length ys = mod_below i (length ys) pos in
        slice_get-get_or (pair k xs ys) i no_target l' ∙ ap Some (get_or_cross (over k) xs ys i no_target no_target no_target l) ∙ rw (slice_get-get_or xs (i / length ys) no_target q, slice_get-get_or ys (i % length ys) no_target r) refl
    go (inr g) =
        let g' : length (pair k xs ys) ≤ i = omega (arith, length_cross (over k) xs ys) in
        let q : length xs ≤ i / length ys = le-div (length xs) i (length ys) pos g in
        slice_get_past (pair k xs ys) i g' ∙ rw (slice_get_past xs (i / length ys) q) (sym (both_none k (slice_get ys (i % length ys))))

pub cross_nil : {X Y Z : Type 0} (f : X → Y → Z) (xs : List X) → cross f xs [] ≡ []
unfolding cross
cross_nil f [] = refl
cross_nil f (x ∷ xs) = cross_nil f xs

pub nil_cross : {X Y Z : Type 0} (f : X → Y → Z) (ys : List Y) → cross f [] ys ≡ []
unfolding cross
nil_cross f ys = refl

module _ (A : ℕ → Bool) (U L : Meaning) where
  pub inside_moves : (k a : ℕ) → k < U.states * L.states → pile_moves A U L k a ≡ moves_over A U L (k / L.states) (k % L.states) a
  unfolding pile_moves
  inside_moves k a h = cond-true _ _ _ (lt-ltb k (U.states * L.states) h)

  pub outside_moves : (k a : ℕ) → U.states * L.states ≤ k → pile_moves A U L k a ≡ []
  unfolding pile_moves
  outside_moves k a h = cond-false _ _ _ (le-ltb k (U.states * L.states) h)

  module _ (u v a : ℕ) where
    pub shared_moves : A a ≡ true → moves_over A U L u v a ≡ cross (pair L.states) (U.moves u a) (L.moves v a)
    unfolding moves_over
    shared_moves e = cond-true _ _ _ e

    pub apart_moves : A a ≡ false → moves_over A U L u v a ≡ map (λ mu. pair L.states mu (point L v)) (U.moves u a) ++ map (pair L.states (point U u)) (L.moves v a)
    unfolding moves_over
    apart_moves e = cond-false _ _ _ e

    pub shared_count : A a ≡ true → length (moves_over A U L u v a) ≡ length (U.moves u a) * length (L.moves v a)
    shared_count e = ap length (shared_moves e) ∙ length_cross (pair L.states) (U.moves u a) (L.moves v a)

    pub apart_count : A a ≡ false → length (moves_over A U L u v a) ≡ length (U.moves u a) + length (L.moves v a)
    apart_count e =
        ap length (apart_moves e) ∙ length-append (map (λ mu. pair L.states mu (point L v)) (U.moves u a)) (map (pair L.states (point U u)) (L.moves v a))
        ∙ omega (arith, length-map (U.moves u a) (λ mu. pair L.states mu (point L v)), length-map (L.moves v a) (pair L.states (point U u)))

    pub shared_move : (i : ℕ) → A a ≡ true → 0 < length (L.moves v a) → slice_index_or (moves_over A U L u v a) i [] ≡ pair L.states (slice_index_or (U.moves u a) (i / length (L.moves v a)) []) (slice_index_or (L.moves v a) (i % length (L.moves v a)) [])
    shared_move i e pos = rw (shared_moves e) (go (cases_lt i (length (U.moves u a) * length (L.moves v a))))
      where
        go : (i < length (U.moves u a) * length (L.moves v a)) ⊎ (length (U.moves u a) * length (L.moves v a) ≤ i) → slice_index_or (cross (pair L.states) (U.moves u a) (L.moves v a)) i [] ≡ pair L.states (slice_index_or (U.moves u a) (i / length (L.moves v a)) []) (slice_index_or (L.moves v a) (i % length (L.moves v a)) [])
        go (inl l) = get_or_cross (pair L.states) (U.moves u a) (L.moves v a) i [] [] [] l
        go (inr g) =
            let g' : length (cross (pair L.states) (U.moves u a) (L.moves v a)) ≤ i = omega (arith, length_cross (pair L.states) (U.moves u a) (L.moves v a)) in
            let q : length (U.moves u a) ≤ i / length (L.moves v a) = le-div (length (U.moves u a)) i (length (L.moves v a)) pos g in
            get_or_past (cross (pair L.states) (U.moves u a) (L.moves v a)) i [] g' ∙ rw (get_or_past (U.moves u a) (i / length (L.moves v a)) [] q) (sym (nil_cross (over L.states) (slice_index_or (L.moves v a) (i % length (L.moves v a)) [])))

    pub upper_move : (i : ℕ) → A a ≡ false → i < length (U.moves u a) → slice_index_or (moves_over A U L u v a) i [] ≡ pair L.states (slice_index_or (U.moves u a) i []) (point L v)
    upper_move i e l =
        let l' : i < length (map (λ mu. pair L.states mu (point L v)) (U.moves u a)) = omega (arith, length-map (U.moves u a) (λ mu. pair L.states mu (point L v))) in
        rw (apart_moves e) (get_or_append_left (map (λ mu. pair L.states mu (point L v)) (U.moves u a)) (map (pair L.states (point U u)) (L.moves v a)) [] i l' ∙ get_or-map (λ mu. pair L.states mu (point L v)) (U.moves u a) i [] [] l)

    pub lower_move : (i : ℕ) → A a ≡ false → length (U.moves u a) ≤ i → slice_index_or (moves_over A U L u v a) i [] ≡ pair L.states (point U u) (slice_index_or (L.moves v a) (i - length (U.moves u a)) [])
    lower_move i e g =
        rw (apart_moves e)
        (get_or-append_right (map (λ mu. pair L.states mu (point L v)) (U.moves u a)) (map (pair L.states (point U u)) (L.moves v a)) (length (U.moves u a)) i [] (length-map (U.moves u a) (λ mu. pair L.states mu (point L v))) g
        ∙ go (cases_lt (i - length (U.moves u a)) (length (L.moves v a))))
      where
        go : (i - length (U.moves u a) < length (L.moves v a)) ⊎ (length (L.moves v a) ≤ i - length (U.moves u a)) → slice_index_or (map (pair L.states (point U u)) (L.moves v a)) (i - length (U.moves u a)) [] ≡ pair L.states (point U u) (slice_index_or (L.moves v a) (i - length (U.moves u a)) [])
        go (inl l) = get_or-map (pair L.states (point U u)) (L.moves v a) (i - length (U.moves u a)) [] [] l
        go (inr g') =
            get_or_past (map (pair L.states (point U u)) (L.moves v a)) (i - length (U.moves u a)) [] (omega (arith, length-map (L.moves v a) (pair L.states (point U u))))
            ∙ rw (get_or_past (L.moves v a) (i - length (U.moves u a)) [] g') (sym (cross_nil (over L.states) (point U u)))

-- what a target of a ruled system keeps to
pub good_move : (S : Meaning) → Ruled S → (k a i : ℕ) → i < length (S.moves k a) → Good S.states S.mass S.breadth (slice_index_or (S.moves k a) i [])
good_move S s k a i h = All-get_or (Good S.states S.mass S.breadth) (S.moves k a) i [] h (s.each k a)
