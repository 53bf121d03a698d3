-- What is known of tables in which no record is refused.
use Rattle.std.specs.Prelude.{◌≡◌, ℕ, zero, suc, ◌+◌, ◌<◌, ◌≤◌, max, true, false, ◌&&◌, ◌⊎◌, List, [], ◌∷◌, length, take, Some, None, Option, ◌==◌, ◌≢◌, nat_le, nat_lt, slice_index_or, refl}
use Rattle.std.proofs.Common.{sym, ap, subst, ◌∙◌, inl, inr, arith, add-one}
use Rattle.std.specs.List.{AllByRecursion}
use Rattle.std.specs.Option.{option_or}
use Rattle.std.proofs.ByRecursion.{All-from_get_or, all_kept_by, kept_by_passes}
use Rattle.std.proofs.lemmas.List.{get_or_default, take_all}
use Rattle.std.proofs.lemmas.Bool.{and_parts, eqb-true, ltb-true, leb-true, cond-true, cond-false, cases_lt, cases_Bool}
use Rattle.systems.specs.declared.system.Target.{Target}
use Rattle.systems.specs.declared.records.MoveRecord.{MoveRecord}
use Rattle.systems.specs.declared.fault.MountFault.{MountFault}
use Rattle.systems.specs.declared.fault.MountFault.TheVariants.{Record, Weights}
use Rattle.systems.specs.Meaning.{Between, total}
use Rattle.systems.specs.Tables.{asks, asked, no_record, row, run, fits_alone, good_run, longest}
use Rattle.systems.specs.Mounts.{row_fault, first_fault, sizes, mount_fault, blamed}
use Rattle.systems.specs.Runs.{count_miss}

-- a record that keeps the rules that ask for no other
pub record Alone (n places : ℕ) (r : MoveRecord) : Type 0 where
  pub inside : r.state < n
  pub act : r.action < 32
  pub small : r.count ≤ 64
  pub placed : r.first + r.count ≤ places

pub alone : (n places : ℕ) (r : MoveRecord) → fits_alone n places r ≡ true → Alone n places r
alone n places r e =
    let p = and_parts ((nat_lt r.state n && nat_lt r.action 32) && (nat_le 1 r.count && nat_le r.count 64)) (nat_le (r.first + r.count) places) e in
    let q = and_parts (nat_lt r.state n && nat_lt r.action 32) (nat_le 1 r.count && nat_le r.count 64) p.0 in
    let s = and_parts (nat_lt r.state n) (nat_lt r.action 32) q.0 in
    record {
      inside = ltb-true r.state n s.0;
      act = ltb-true r.action 32 s.1;
      small = leb-true r.count 64 (and_parts (nat_le 1 r.count) (nat_le r.count 64) q.1).1;
      placed = leb-true (r.first + r.count) places p.1;
    }

-- what a state and an action ask is what a record of both asks
same_asked : (k a : ℕ) (r : MoveRecord) → asks k a r ≡ true → (xs : List MoveRecord) → asked k a xs ≡ asked r.state r.action xs
same_asked k a r e xs =
    let p = and_parts (r.state == k) (r.action == a) e in
    let s : k ≡ r.state = sym (eqb-true r.state k p.0) in
    let t : a ≡ r.action = sym (eqb-true r.action a p.1) in
    ap (λ (x : ℕ). asked x a xs) s ∙ ap (λ (x : ℕ). asked r.state x xs) t

-- the longest list of the first records
module _ (rs : List MoveRecord) where
  pub longest_more : (i : ℕ) → longest rs (i + 1) ≡ max (longest rs i) (max (row rs i).count (length (asked (row rs i).state (row rs i).action (take (i + 1) rs))))
  longest_more i = ap (longest rs) (add-one i)

  pub longest_low : (j : ℕ) → 2 ≤ longest rs j
  longest_low zero = omega arith
  longest_low (suc j) = omega (arith, longest_low j)

  count_below : (j i : ℕ) → i < j → (row rs i).count ≤ longest rs j
  count_below zero i l = absurd (omega arith)
  count_below (suc j) i l = go (cases_lt i j) (count_below j i)
    where
      go : (i < j) ⊎ (j ≤ i) → (i < j → (row rs i).count ≤ longest rs j) → (row rs i).count ≤ longest rs (suc j)
      go (inl h) ih = omega (arith, ih h)
      go (inr g) ih = let q : j ≡ i = omega arith in subst (λ (x : ℕ). (row rs x).count ≤ longest rs (suc j)) q (omega arith)

  few_below : (k a j : ℕ) → j ≤ length rs → length (asked k a (take j rs)) ≤ longest rs j
  few_below k a zero h = omega arith
  few_below k a (suc j) h = go (cases_Bool (asks k a (row rs j))) (few_below k a j (omega arith))
    where
      met : length (asked (row rs j).state (row rs j).action (take (j + 1) rs)) ≤ longest rs (suc j)
      met = omega arith

      go : (asks k a (row rs j) ≡ true) ⊎ (asks k a (row rs j) ≡ false) → length (asked k a (take j rs)) ≤ longest rs j → length (asked k a (take (suc j) rs)) ≤ longest rs (suc j)
      go (inl e) ih =
          subst (λ (x : ℕ). length (asked k a (take x rs)) ≤ longest rs (suc j)) (add-one j)
          (subst (λ (xs : List MoveRecord). length xs ≤ longest rs (suc j)) (sym (same_asked k a (row rs j) e (take (j + 1) rs))) met)
      go (inr e) ih =
          let m = count_miss k a rs j (length (asked k a (take j rs))) no_record h refl e in
          subst (λ (x : ℕ). length (asked k a (take x rs)) ≤ longest rs (suc j)) (add-one j) (omega (arith, m))

  pub few_all : (k a : ℕ) → length (asked k a rs) ≤ longest rs (length rs)
  few_all k a = subst (λ (xs : List MoveRecord). length (asked k a xs) ≤ longest rs (length rs)) (take_all (length rs) rs (omega arith)) (few_below k a (length rs) (omega arith))

or_none : (x y : Option MountFault) → option_or x y ≡ None → (x ≡ None) × (y ≡ None)
or_none None y e = (refl, e)
or_none (Some f) y e = let z : ◌≡◌ {A = ℕ} 0 1 = cc in absurd (omega arith)

module _ (n : ℕ) (rs : List MoveRecord) (ts : List Target) where
  pub none_more : (i : ℕ) → first_fault n rs ts i ≡ None → None ≡ row_fault n rs ts i → first_fault n rs ts (i + 1) ≡ None
  none_more i p q = rw add-one (ap (λ (x : Option MountFault). option_or x (row_fault n rs ts i)) p ∙ sym q)

  pub fault_stays : (f : MountFault) (i j : ℕ) → i ≤ j → first_fault n rs ts i ≡ Some f → first_fault n rs ts j ≡ Some f
  fault_stays f i zero h e = let q : i ≡ zero = omega arith in subst (λ (x : ℕ). first_fault n rs ts x ≡ Some f) q e
  fault_stays f i (suc j) h e = go (cases_lt i (suc j)) (fault_stays f i j)
    where
      go : (i < suc j) ⊎ (suc j ≤ i) → (i ≤ j → first_fault n rs ts i ≡ Some f → first_fault n rs ts j ≡ Some f) → first_fault n rs ts (suc j) ≡ Some f
      go (inl l) ih = ap (λ (x : Option MountFault). option_or x (row_fault n rs ts j)) (ih (omega arith) e)
      go (inr g) ih = let q : i ≡ suc j = omega arith in subst (λ (x : ℕ). first_fault n rs ts x ≡ Some f) q e

  -- a record is blamed for its own fault
  blame : (f : MountFault) (i : ℕ) → Some f ≡ row_fault n rs ts i → Some f ≡ blamed f
  blame f i e = go (cases_Bool (fits_alone n (length ts) (row rs i) && nat_le (length (asked (row rs i).state (row rs i).action (take (i + 1) rs))) 64)) (cases_Bool (good_run n (run ts (row rs i)))) (cases_Bool (total (run ts (row rs i)) == 1000))
    where
      is : (f' : MountFault) → Some f' ≡ blamed f' → row_fault n rs ts i ≡ Some f' → Some f ≡ blamed f
      is f' b p = let q : f' ≡ f = cc in subst (λ (x : MountFault). Some x ≡ blamed x) q b

      go : (fits_alone n (length ts) (row rs i) && nat_le (length (asked (row rs i).state (row rs i).action (take (i + 1) rs))) 64 ≡ true) ⊎ (fits_alone n (length ts) (row rs i) && nat_le (length (asked (row rs i).state (row rs i).action (take (i + 1) rs))) 64 ≡ false) → (good_run n (run ts (row rs i)) ≡ true) ⊎ (good_run n (run ts (row rs i)) ≡ false) → ((total (run ts (row rs i)) == 1000) ≡ true) ⊎ ((total (run ts (row rs i)) == 1000) ≡ false) → Some f ≡ blamed f
      go (inr a) b c = is (Record i) refl (cond-false _ _ _ a)
      go (inl a) (inr b) c = is (Record i) refl (cond-true _ _ _ a ∙ cond-false _ _ _ b)
      go (inl a) (inl b) (inr c) = is (Weights i) refl (cond-true _ _ _ a ∙ cond-true _ _ _ b ∙ cond-false _ _ _ c)
      go (inl a) (inl b) (inl c) =
          let p : row_fault n rs ts i ≡ None = cond-true _ _ _ a ∙ cond-true _ _ _ b ∙ cond-true _ _ _ c in
          let z : ◌≡◌ {A = ℕ} 0 1 = cc in
          absurd (omega arith)

  pub fault_first : (f : MountFault) (i j : ℕ) → i < j → first_fault n rs ts i ≡ None → Some f ≡ row_fault n rs ts i → first_fault n rs ts j ≡ blamed f
  fault_first f i j l p q = fault_stays f (suc i) j l (ap (λ (x : Option MountFault). option_or x (row_fault n rs ts i)) p ∙ sym q) ∙ blame f i q

  none_below : (j i : ℕ) → i < j → first_fault n rs ts j ≡ None → row_fault n rs ts i ≡ None
  none_below zero i l e = absurd (omega arith)
  none_below (suc j) i l e = go (cases_lt i j) (none_below j i) (or_none (first_fault n rs ts j) (row_fault n rs ts j) e)
    where
      go : (i < j) ⊎ (j ≤ i) → (i < j → first_fault n rs ts j ≡ None → row_fault n rs ts i ≡ None) → (first_fault n rs ts j ≡ None) × (row_fault n rs ts j ≡ None) → row_fault n rs ts i ≡ None
      go (inl h) ih p = ih h p.0
      go (inr g) ih p = let q : j ≡ i = omega arith in subst (λ (x : ℕ). row_fault n rs ts x ≡ None) q p.1

  -- a record with no fault
  pub record Fine (i : ℕ) : Type 0 where
    pub alone_fits : Alone n (length ts) (row rs i)
    pub few : length (asked (row rs i).state (row rs i).action (take (i + 1) rs)) ≤ 64
    pub good : good_run n (run ts (row rs i)) ≡ true
    pub whole : total (run ts (row rs i)) ≡ 1000

  pub fine : (i : ℕ) → row_fault n rs ts i ≡ None → Fine i
  fine i e = go (cases_Bool (fits_alone n (length ts) (row rs i) && nat_le (length (asked (row rs i).state (row rs i).action (take (i + 1) rs))) 64)) (cases_Bool (good_run n (run ts (row rs i)))) (cases_Bool (total (run ts (row rs i)) == 1000))
    where
      never : {A : Type 0} (f : MountFault) → row_fault n rs ts i ≡ Some f → A
      never f p = let z : ◌≡◌ {A = ℕ} 0 1 = cc in absurd (omega arith)

      go : (fits_alone n (length ts) (row rs i) && nat_le (length (asked (row rs i).state (row rs i).action (take (i + 1) rs))) 64 ≡ true) ⊎ (fits_alone n (length ts) (row rs i) && nat_le (length (asked (row rs i).state (row rs i).action (take (i + 1) rs))) 64 ≡ false) → (good_run n (run ts (row rs i)) ≡ true) ⊎ (good_run n (run ts (row rs i)) ≡ false) → ((total (run ts (row rs i)) == 1000) ≡ true) ⊎ ((total (run ts (row rs i)) == 1000) ≡ false) → Fine i
      go (inr a) b c = never (Record i) (cond-false _ _ _ a)
      go (inl a) (inr b) c = never (Record i) (cond-true _ _ _ a ∙ cond-false _ _ _ b)
      go (inl a) (inl b) (inr c) = never (Weights i) (cond-true _ _ _ a ∙ cond-true _ _ _ b ∙ cond-false _ _ _ c)
      go (inl a) (inl b) (inl c) =
          let r = row rs i in
          let p = and_parts (fits_alone n (length ts) r) (nat_le (length (asked r.state r.action (take (i + 1) rs))) 64) a in
          record {
            alone_fits = alone n (length ts) r p.0;
            few = leb-true (length (asked r.state r.action (take (i + 1) rs))) 64 p.1;
            good = b;
            whole = eqb-true (total (run ts r)) 1000 c;
          }

  module _ (ok : first_fault n rs ts (length rs) ≡ None) where
    pub all_fine : (i : ℕ) → i < length rs → Fine i
    all_fine i l = fine i (none_below (length rs) i l ok)

    pub longest_high : (j : ℕ) → j ≤ length rs → longest rs j ≤ 64
    longest_high zero h = omega arith
    longest_high (suc j) h = omega (arith, longest_high j (omega arith), (all_fine j h).alone_fits.small, (all_fine j h).few)

    pub all_sized : (i : ℕ) → i < length rs → ((row rs i).count ≤ longest rs (length rs)) × ((row rs i).first + (row rs i).count ≤ length ts)
    all_sized i l = (count_below rs (length rs) i l, (all_fine i l).alone_fits.placed)

    pub all_inside : (i : ℕ) (d : MoveRecord) → i < length rs → ((slice_index_or rs i d).state < n) × ((slice_index_or rs i d).action < 32)
    all_inside i d l =
        let P : MoveRecord → Type 0 = λ r. (r.state < n) × (r.action < 32) in
        subst P (get_or_default rs i no_record d l) ((all_fine i l).alone_fits.inside, (all_fine i l).alone_fits.act)

    -- what holds of each record holds of those of a state and an action
    pub asked_all : (P : MoveRecord → Type 0) → ((i : ℕ) → i < length rs → P (row rs i)) → (k a : ℕ) → AllByRecursion P (asked k a rs)
    asked_all P h k a = all_kept_by (asks k a) P rs (All-from_get_or P rs no_record h)

    -- no record is of a state or an action out of range
    none_of : (k a : ℕ) → ((r : MoveRecord) → (r.state < n) × (r.action < 32) → asks k a r ≢ true) → asked k a rs ≡ []
    none_of k a never =
        no_element (asked k a rs) (λ r p q. never r p q) (asked_all (λ r. (r.state < n) × (r.action < 32)) (λ i l. all_inside i no_record l) k a) (kept_by_passes (asks k a) rs)
      where
        no_element : (xs : List MoveRecord) → ((r : MoveRecord) → (r.state < n) × (r.action < 32) → asks k a r ≢ true) → AllByRecursion (λ r. (r.state < n) × (r.action < 32)) xs → AllByRecursion (λ r. asks k a r ≡ true) xs → xs ≡ []
        no_element [] h p q = refl
        no_element (x ∷ xs) h p q = absurd (h x p.0 q.0)

    pub none_past : (k a : ℕ) → n ≤ k → asked k a rs ≡ []
    none_past k a g = none_of k a (λ r p e. omega (arith, p.0, eqb-true r.state k (and_parts (r.state == k) (r.action == a) e).0))

    pub none_acts : (k a : ℕ) → 32 ≤ a → asked k a rs ≡ []
    none_acts k a g = none_of k a (λ r p e. omega (arith, p.1, eqb-true r.action a (and_parts (r.state == k) (r.action == a) e).1))

-- tables that are not refused
pub record Right (n : ℕ) (rs : List MoveRecord) (ts : List Target) : Type 0 where
  pub states : Between 1 64 n
  pub short : length ts ≤ 4096
  pub records : first_fault n rs ts (length rs) ≡ None

pub right_tables : (n : ℕ) (rs : List MoveRecord) (ts : List Target) → mount_fault n rs ts ≡ None → Right n rs ts
right_tables n rs ts e = go (cases_Bool (sizes n rs ts))
  where
    go : (sizes n rs ts ≡ true) ⊎ (sizes n rs ts ≡ false) → Right n rs ts
    go (inl s) =
        let p = and_parts (nat_le 1 n && nat_le n 64) (nat_le (length rs) 4096 && nat_le (length ts) 4096) s in
        let q = and_parts (nat_le 1 n) (nat_le n 64) p.0 in
        record {
          states = (leb-true 1 n q.0, leb-true n 64 q.1);
          short = leb-true (length ts) 4096 (and_parts (nat_le (length rs) 4096) (nat_le (length ts) 4096) p.1).1;
          records = sym (cond-true (sizes n rs ts) (first_fault n rs ts (length rs)) (Some (Record 0)) s) ∙ e;
        }
    go (inr f) =
        let q = cond-false (sizes n rs ts) (first_fault n rs ts (length rs)) (Some (Record 0)) f in
        let z : ◌≡◌ {A = ℕ} 0 1 = cc in
        absurd (omega arith)
