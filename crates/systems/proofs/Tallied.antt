-- Counts and lists by state and action, one record after another.
use Rattle.std.proofs.Common.{◌≡◌, ℕ, ◌+◌, ◌*◌, ◌<◌, true, false, cond, eqb, ◌≢◌, ◌⊎◌, List, [], ◌∷◌, ◌++◌, length, get_or, take, set, map, replicate, refl, sym, ap, ap₂, ◌∙◌, subst, inl, inr, arith, length-append, length-set, get_or-set_other, get_or-set_same}
use lib.ListN.{length-replicate}
use Rattle.std.specs.List.{AppendsResults, FoldsTo}
use Rattle.std.proofs.lemmas.List.Elements.{filter_more}
use Rattle.std.proofs.lemmas.List.{append-nil, get_or-replicate, take_all}
use Rattle.std.proofs.lemmas.Bool.{cases_eq, cases_Bool, cond-true, cond-false, and_parts, eqb-true}
use Rattle.systems.specs.declared.records.MoveRecord.{MoveRecord}
use Rattle.systems.specs.Tables.{asks, asked, no_record, row, cell_of}
use Rattle.systems.specs.Index.{Grouped}
use Rattle.systems.specs.Runs.{asks_from, asks_not_state, asks_not_action}

-- the counts of the first i records
pub record Counted (rs : List MoveRecord) (i : ℕ) (counts : List ℕ) : Type 0 where
  pub whole : length counts ≡ 2048
  pub each : (k a : ℕ) → k < 64 → a < 32 → get_or counts (cell_of k a) 0 ≡ length (asked k a (take i rs))

-- what stands in each cell when that of a record has a new value
set_cell : {X : Type 0} (xs : List X) (r : MoveRecord) (y d : X) (k a : ℕ) → r.action < 32 → a < 32 → cell_of r.state r.action < length xs → get_or (set xs (cell_of r.state r.action) y) (cell_of k a) d ≡ cond (asks k a r) y (get_or xs (cell_of k a) d)
set_cell xs r y d k a h h' l = go (cases_eq r.state k) (cases_eq r.action a)
  where
    other : cell_of k a ≢ cell_of r.state r.action → asks k a r ≡ false → get_or (set xs (cell_of r.state r.action) y) (cell_of k a) d ≡ cond (asks k a r) y (get_or xs (cell_of k a) d)
    other ne e = rw get_or-set_other (sym (cond-false (asks k a r) y (get_or xs (cell_of k a) d) e))

    go : (r.state ≡ k) ⊎ (r.state ≡ k → ⊥) → (r.action ≡ a) ⊎ (r.action ≡ a → ⊥) → get_or (set xs (cell_of r.state r.action) y) (cell_of k a) d ≡ cond (asks k a r) y (get_or xs (cell_of k a) d)
    go (inl p) (inl q) =
        ap (λ (c : ℕ). get_or (set xs (cell_of r.state r.action) y) c d) (ap (λ (x : ℕ). cell_of x a) (sym p) ∙ ap (cell_of r.state) (sym q))
        ∙ rw get_or-set_same (sym (cond-true (asks k a r) y (get_or xs (cell_of k a) d) (asks_from k a r p q)))
    go (inr p) (inl q) = other (λ e. p (omega arith)) (asks_not_state k a r p)
    go (inl p) (inr q) = other (λ e. q (omega arith)) (asks_not_action k a r q)
    go (inr p) (inr q) = other (λ e. p (omega arith)) (asks_not_state k a r p)

-- an empty list was filled with what calls returned, each of which shows as y
module _ {F X Y : Type 0} (step : F → X → F → Type 0) (see : X → Y) (y : Y) (each : (p q : F) (x : X) → step p x q → see x ≡ y) where
  all-alike : (f last : F) (xs : List X) → FoldsTo step f xs last → map see xs ≡ replicate (length xs) y
  all-alike f last [] h = refl
  all-alike f last (x ∷ xs) h = ap₂ ◌∷◌ (each f h.0 x h.1) (all-alike h.0 last xs h.2)

  pub filled : (n : ℕ) (old new : List X) (f : F) → old ≡ [] → AppendsResults step (take n old) new f → map see new ≡ replicate (length new) y
  filled n old new f e h =
      let same : new ≡ h.0 = h.2 ∙ ap (λ (xs : List X). xs ++ h.0) (ap (take n) e ∙ take_all {A = X} n [] (omega arith)) in
      subst (λ (xs : List X). map see xs ≡ replicate (length xs) y) (sym same) (all-alike f h.1 h.0 h.3)

module _ (rs : List MoveRecord) where
  pub counted_none : (counts : List ℕ) → counts ≡ replicate 2048 0 → Counted rs 0 counts
  counted_none counts e = record {
    whole = ap length e ∙ length-replicate {A = ℕ} 2048 0;
    each = λ k a h h'. ap (λ (xs : List ℕ). get_or xs (cell_of k a) 0) e ∙ get_or-replicate {A = ℕ} 2048 (cell_of k a) 0 0 (omega arith);
  }

  pub grouped_none : (n : ℕ) (cells : List (List MoveRecord)) → cells ≡ replicate (n * 32) [] → Grouped n rs 0 cells
  grouped_none n cells e = record {
    size = ap length e ∙ length-replicate (n * 32) [];
    each = λ k a h h'. ap (λ (xs : List (List MoveRecord)). get_or xs (cell_of k a) []) e ∙ get_or-replicate (n * 32) (cell_of k a) [] [] (omega arith);
  }

  module _ (i : ℕ) (l : i < length rs) (act : (row rs i).action < 32) where
    -- the records of a state and an action with one more record
    asked-more : (k a : ℕ) → cond (asks k a (row rs i)) (asked k a (take i rs) ++ row rs i ∷ []) (asked k a (take i rs)) ≡ asked k a (take (i + 1) rs)
    asked-more k a = go (cases_Bool (asks k a (row rs i)))
      where
        more : asked k a (take (i + 1) rs) ≡ asked k a (take i rs) ++ cond (asks k a (row rs i)) (row rs i ∷ []) []
        more = filter_more (asks k a) rs i no_record l

        go : (asks k a (row rs i) ≡ true) ⊎ (asks k a (row rs i) ≡ false) → cond (asks k a (row rs i)) (asked k a (take i rs) ++ row rs i ∷ []) (asked k a (take i rs)) ≡ asked k a (take (i + 1) rs)
        go (inl e) = cond-true (asks k a (row rs i)) _ _ e ∙ ap (λ (xs : List MoveRecord). asked k a (take i rs) ++ xs) (sym (cond-true (asks k a (row rs i)) (row rs i ∷ []) [] e)) ∙ sym more
        go (inr e) = cond-false (asks k a (row rs i)) _ _ e ∙ sym (append-nil (asked k a (take i rs))) ∙ ap (λ (xs : List MoveRecord). asked k a (take i rs) ++ xs) (sym (cond-false (asks k a (row rs i)) (row rs i ∷ []) [] e)) ∙ sym more

    -- where a cell has f of the records of its state and action
    keep : {X : Type 0} (f : List MoveRecord → X) (xs : List X) (y d : X) (k a : ℕ) → a < 32 → cell_of (row rs i).state (row rs i).action < length xs
        → get_or xs (cell_of k a) d ≡ f (asked k a (take i rs)) → (asks k a (row rs i) ≡ true → y ≡ f (asked k a (take i rs) ++ row rs i ∷ []))
        → get_or (set xs (cell_of (row rs i).state (row rs i).action) y) (cell_of k a) d ≡ f (asked k a (take (i + 1) rs))
    keep f xs y d k a ha lt before after = set_cell xs (row rs i) y d k a act ha lt ∙ go (cases_Bool (asks k a (row rs i))) ∙ ap f (asked-more k a)
      where
        go : (asks k a (row rs i) ≡ true) ⊎ (asks k a (row rs i) ≡ false) → cond (asks k a (row rs i)) y (get_or xs (cell_of k a) d) ≡ f (cond (asks k a (row rs i)) (asked k a (take i rs) ++ row rs i ∷ []) (asked k a (take i rs)))
        go (inl e) = cond-true (asks k a (row rs i)) y (get_or xs (cell_of k a) d) e ∙ after e ∙ ap f (sym (cond-true (asks k a (row rs i)) _ _ e))
        go (inr e) = cond-false (asks k a (row rs i)) y (get_or xs (cell_of k a) d) e ∙ before ∙ ap f (sym (cond-false (asks k a (row rs i)) _ _ e))

    -- the cell of a state and an action that the record asks is that of the record
    own_cell : (k a : ℕ) → asks k a (row rs i) ≡ true → cell_of (row rs i).state (row rs i).action ≡ cell_of k a
    own_cell k a e =
        let p = and_parts (eqb (row rs i).state k) (eqb (row rs i).action a) e in
        let s = eqb-true (row rs i).state k p.0 in
        let t = eqb-true (row rs i).action a p.1 in
        omega arith

    pub counted-more : (counts : List ℕ) → (row rs i).state < 64 → Counted rs i counts → Counted rs (i + 1) (set counts (cell_of (row rs i).state (row rs i).action) (get_or counts (cell_of (row rs i).state (row rs i).action) 0 + 1))
    counted-more counts inside c = record {
      whole = length-set counts (cell_of (row rs i).state (row rs i).action) (get_or counts (cell_of (row rs i).state (row rs i).action) 0 + 1) ∙ c.whole;
      each = λ k a hk ha. keep length counts (get_or counts (cell_of (row rs i).state (row rs i).action) 0 + 1) 0 k a ha (omega (arith, c.whole)) (c.each k a hk ha)
          (λ e. ap (λ (x : ℕ). get_or counts x 0 + 1) (own_cell k a e) ∙ ap (λ (x : ℕ). x + 1) (c.each k a hk ha) ∙ sym (length-append (asked k a (take i rs)) (row rs i ∷ [])));
    }

    pub grouped_more : (n : ℕ) (cells : List (List MoveRecord)) → (row rs i).state < n → Grouped n rs i cells → Grouped n rs (i + 1) (set cells (cell_of (row rs i).state (row rs i).action) (get_or cells (cell_of (row rs i).state (row rs i).action) [] ++ row rs i ∷ []))
    grouped_more n cells inside g = record {
      size = length-set cells (cell_of (row rs i).state (row rs i).action) (get_or cells (cell_of (row rs i).state (row rs i).action) [] ++ row rs i ∷ []) ∙ g.size;
      each = λ k a hk ha. keep (λ xs. xs) cells (get_or cells (cell_of (row rs i).state (row rs i).action) [] ++ row rs i ∷ []) [] k a ha (omega (arith, g.size)) (g.each k a hk ha)
          (λ e. ap (λ (x : ℕ). get_or cells x [] ++ row rs i ∷ []) (own_cell k a e) ∙ ap (λ (xs : List MoveRecord). xs ++ row rs i ∷ []) (g.each k a hk ha));
    }
