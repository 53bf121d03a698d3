-- The bytes of a truth table, node after node and state after state.
use Rattle.std.proofs.Common.{◌≡◌, ℕ, zero, suc, ◌+◌, ◌*◌, ◌<◌, List, [], ◌∷◌, ◌++◌, map, length, get_or, take, drop, set, sym, refl, ap, ◌∙◌, ap₂, append_assoc, le_of_suc-le-suc, not-suc-le-zero, add-zero, mul-le-mul_right, suc-mul, zero-add, zero-mul, arith}
use Rattle.std.specs.List.{range_with_len, flat_map}
use Rattle.std.proofs.lemmas.List.{append-nil, length-append, length_push, take_at, drop_at, drop_all, drop-drop, drop_more, set_at, get_or_append_left, get_or-append-add, get_or-take, flat_map_more, map-id}
use Rattle.std.proofs.lemmas.List.FromFn.{length-map-range_with_len, get_or-map-range_with_len, map-range_with_len_more}
use Rattle.systems.specs.Meaning.{Meaning}
use Rattle.formulas.specs.Truths.{Truth, at_node}
use Rattle.formulas.specs.Tables.{over}
use Rattle.claims.specs.Verdicts.{byte, node_bytes, bytes}
use Rattle.claims.specs.Boards.{Agrees}

-- one entry more
over_more : (new old : List ℕ) (v : ℕ) → length new < length old → set (over new old) (length new) v ≡ over (new ++ (v ∷ [])) old
over_more new old v h =
    let q = length new in
    let next : q + 1 ≡ length (new ++ (v ∷ [])) = sym (length_push new v) in
    ap (λ r. set (new ++ r) q v) (drop_more old q 0 h)
    ∙ set_at new (get_or old q 0) (drop (q + 1) old) v q refl
    ∙ sym (append_assoc new (v ∷ []) (drop (q + 1) old))
    ∙ ap (λ n. (new ++ (v ∷ [])) ++ drop n old) next

-- one state more
pub node_more : (f : ℕ → ℕ) (s v : ℕ) (old table : List ℕ) → s < length old → table ≡ over (map f (range_with_len 0 s)) old → v ≡ f s → set table s v ≡ over (map f (range_with_len 0 (s + 1))) old
node_more f s v old table h e is =
    let front = map f (range_with_len 0 s) in
    let long = length-map-range_with_len f 0 s in
    ap₂ (λ l w. set l s w) e is
    ∙ ap (λ k. set (over front old) k (f s)) (sym long)
    ∙ over_more front old (f s) (omega arith)
    ∙ ap (λ new. over new old) (sym (map-range_with_len_more f 0 s s (omega arith)))

-- entries over all of a list
over_all : (new old : List ℕ) → length new ≡ length old → over new old ≡ new
over_all new old e = ap (λ r. new ++ r) (drop_all (length new) old (omega arith)) ∙ append-nil new

-- entries right behind those over the front
over-behind : (front new old : List ℕ) (p n : ℕ) → p ≡ length front → n ≡ length new → take p (over front old) ++ (new ++ drop n (drop p (over front old))) ≡ over (front ++ new) old
over-behind front new old p n ep en =
    let rest = drop (length front) old in
    let back = ap₂ (λ i j. drop i (drop j (front ++ rest))) en ep ∙ ap (drop (length new)) (drop_at front rest (length front) refl) ∙ drop-drop (length new) (length front) old ∙ ap (λ k. drop k old) (sym (length-append front new)) in
    ap₂ (λ a r. a ++ (new ++ r)) (take_at front rest p (sym ep)) back ∙ sym (append_assoc front new (drop (length (front ++ new)) old))

pub counting_more : (n : ℕ) → range_with_len 0 (n + 1) ≡ range_with_len 0 n ++ (n ∷ [])
counting_more n =
    sym (map-id (range_with_len 0 (n + 1))) ∙ map-range_with_len_more (λ x. x) 0 n n (omega arith) ∙ ap (λ l. l ++ (n ∷ [])) (map-id (range_with_len 0 n))

-- lists of one length n, one for each number from a on
module _ (f : ℕ → List ℕ) (n : ℕ) (even : (i : ℕ) → length (f i) ≡ n) where
  length-rows : (a c : ℕ) → length (flat_map f (range_with_len a c)) ≡ c * n
  length-rows a zero = sym (zero-mul n)
  length-rows a (suc c) = omega (arith, length-append (f a) (flat_map f (range_with_len (a + 1) c)), even a, length-rows (a + 1) c, suc-mul c n)

  get_d_rows : (a c j s : ℕ) → j < c → s < n → get_or (flat_map f (range_with_len a c)) (j * n + s) 0 ≡ get_or (f (a + j)) s 0
  get_d_rows a zero j s h l = absurd (not-suc-le-zero h)
  get_d_rows a (suc c) zero s h l =
      ap (λ k. get_or (f a ++ flat_map f (range_with_len (a + 1) c)) k 0) (omega (arith, zero-mul n))
      ∙ get_or_append_left (f a) (flat_map f (range_with_len (a + 1) c)) 0 s (omega (arith, even a))
      ∙ ap (λ k. get_or (f k) s 0) (sym (add-zero a))
  get_d_rows a (suc c) (suc j) s h l =
      ap (λ k. get_or (f a ++ flat_map f (range_with_len (a + 1) c)) k 0) (omega (arith, suc-mul j n, even a))
      ∙ get_or-append-add (f a) (flat_map f (range_with_len (a + 1) c)) (j * n + s) 0
      ∙ get_d_rows (a + 1) c j s (le_of_suc-le-suc h) l
      ∙ ap (λ k. get_or (f k) s 0) (omega arith)

module _ (T : List Truth) (n : ℕ) where
  even : (i : ℕ) → length (node_bytes T n i) ≡ n
  even i = length-map-range_with_len (λ s. byte (at_node T i s)) 0 n

  length-bytes : (c : ℕ) → length (bytes T n c) ≡ c * n
  length-bytes c = length-rows (node_bytes T n) n even 0 c

  bytes-more : (i : ℕ) → bytes T n (i + 1) ≡ bytes T n i ++ node_bytes T n i
  bytes-more i = ap (flat_map (node_bytes T n)) (counting_more i) ∙ sym (flat_map_more (node_bytes T n) [] (range_with_len 0 i) i)

  bytes-at : (c j s : ℕ) → j < c → s < n → get_or (bytes T n c) (j * n + s) 0 ≡ byte (at_node T j s)
  bytes-at c j s h l =
      get_d_rows (node_bytes T n) n even 0 c j s h l
      ∙ ap (λ k. get_or (node_bytes T n k) s 0) (zero-add j)
      ∙ get_or-map-range_with_len (λ x. byte (at_node T j x)) 0 n s s 0 l (omega arith)

  -- all states of a node
  pub node_whole : (i s : ℕ) (old table : List ℕ) → length old ≡ n → s ≡ n → table ≡ over (node_bytes T s i) old → table ≡ node_bytes T n i
  node_whole i s old table long e f =
      f ∙ ap (λ k. over (node_bytes T k i) old) e ∙ over_all (node_bytes T n i) old (even i ∙ sym long)

  -- one node more
  pub table_more : (i p k : ℕ) (old table new next : List ℕ) → p ≡ i * n → k ≡ n → table ≡ over (bytes T n i) old → new ≡ node_bytes T n i → next ≡ take p table ++ (new ++ drop k (drop p table)) → next ≡ over (bytes T n (i + 1)) old
  table_more i p k old table new next ep ek e en f =
      f
      ∙ ap₂ (λ t m. take p t ++ (m ++ drop k (drop p t))) e en
      ∙ over-behind (bytes T n i) (node_bytes T n i) old p k (ep ∙ sym (length-bytes i)) (ek ∙ sym (even i))
      ∙ ap (λ l. over l old) (sym (bytes-more i))

pub over-agrees : (M : Meaning) (T : List Truth) (i : ℕ) (old table : List ℕ) → table ≡ over (bytes T M.states i) old → Agrees M T table i
over-agrees M T i old table e j s h l =
    let n = M.states in
    let low : j * n + s < length (bytes T n i) = omega (arith, length-bytes T n i, mul-le-mul_right n h, suc-mul j n) in
    ap (λ r. get_or r (j * n + s) 0) e ∙ get_or_append_left (bytes T n i) (drop (length (bytes T n i)) old) 0 (j * n + s) low ∙ bytes-at T n i j s h l

-- the bytes of the first i nodes, cut off
pub front-agrees : (M : Meaning) (T : List Truth) (i p : ℕ) (table front : List ℕ) → p ≡ i * M.states → front ≡ take p table → Agrees M T table i → Agrees M T front i
front-agrees M T i p table front e f agrees j s h l =
    let n = M.states in
    let low : j * n + s < p = omega (arith, mul-le-mul_right n h, suc-mul j n) in
    ap (λ r. get_or r (j * n + s) 0) f ∙ get_or-take p table (j * n + s) 0 low ∙ agrees j s h l
