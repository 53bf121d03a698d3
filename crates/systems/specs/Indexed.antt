-- An index of good records: what it means is sound, and what it answers.
use Rattle.std.specs.Prelude.{◌≡◌, ℕ, ◌+◌, ◌/◌, ◌%◌, ◌<◌, ◌≤◌, Bool, true, false, ◌&&◌, ltb, ◌⊎◌, List, [], ◌∷◌, map, length, get_or, None, ◌==◌, nat_le, nat_lt, slice_index_or, refl}
use Rattle.std.proofs.Common.{sym, ap, subst, ◌∙◌, inl, inr, arith}
use Rattle.std.proofs.Math.Path.{fun_ext}
use Rattle.std.specs.List.{AllByRecursion, list_all}
use Rattle.std.proofs.lemmas.Nat.{div_below, mod_below, div-add-mod'}
use Rattle.std.proofs.ByRecursion.{All-from_get_or, All-get_or, All-map, All-weaker}
use Rattle.std.proofs.lemmas.List.{get_or_past, take_all, length-map}
use Rattle.std.proofs.lemmas.Bool.{and_from, and_left, and_right, and_parts, eq-eqb, eqb-true, lt-ltb, le-ltb, le-leb, leb-true, cond-true, cond-false, cases_lt, cases_Bool}
use Rattle.systems.specs.declared.system.Target.{Target}
use Rattle.systems.specs.declared.records.MoveRecord.{MoveRecord}
use Rattle.systems.specs.Meaning.{Move, Sound, Good, Between, total}
use Rattle.systems.specs.Tables.{asked, row, run, good_run, longest, table_meaning, cell_of}
use Rattle.systems.specs.Mounts.{first_fault}
use Rattle.systems.specs.Index.{listed, index_meaning, good_record, good_list, good_index, Grouped}
use Rattle.systems.specs.Runs.{aimed_run, length_run}
use Rattle.systems.specs.Mounted.{all_fine, all_sized, asked_all, few_all, none_past, none_acts}

module _ {X : Type 0} (p : X → Bool) where
  every_all : (xs : List X) → list_all p xs ≡ true → AllByRecursion (λ x. p x ≡ true) xs
  every_all [] e = tt
  every_all (x ∷ xs) e = let q = and_parts (p x) (list_all p xs) e in (q.0, every_all xs q.1)

  all_every : (xs : List X) → AllByRecursion (λ x. p x ≡ true) xs → list_all p xs ≡ true
  all_every [] h = refl
  all_every (x ∷ xs) h = and_from (p x) (list_all p xs) h.0 (all_every xs h.1)

-- a record of a good index
pub record Fit (n b : ℕ) (ts : List Target) (r : MoveRecord) : Type 0 where
  pub small : r.count ≤ b
  pub placed : r.first + r.count ≤ length ts
  pub good : good_run n (run ts r) ≡ true
  pub whole : total (run ts r) ≡ 1000

module _ (n b : ℕ) (ts : List Target) where
  fit : (r : MoveRecord) → good_record n b ts r ≡ true → Fit n b ts r
  fit r e =
      let p = and_parts (nat_le r.count b && nat_le (r.first + r.count) (length ts)) (good_run n (run ts r) && total (run ts r) == 1000) e in
      let q = and_parts (nat_le r.count b) (nat_le (r.first + r.count) (length ts)) p.0 in
      let s = and_parts (good_run n (run ts r)) (total (run ts r) == 1000) p.1 in
      record { small = leb-true r.count b q.0; placed = leb-true (r.first + r.count) (length ts) q.1; good = s.0; whole = eqb-true (total (run ts r)) 1000 s.1 }

  unfit : (r : MoveRecord) → Fit n b ts r → good_record n b ts r ≡ true
  unfit r f =
      and_from (nat_le r.count b && nat_le (r.first + r.count) (length ts)) (good_run n (run ts r) && total (run ts r) == 1000)
      (and_from (nat_le r.count b) (nat_le (r.first + r.count) (length ts)) (le-leb r.count b f.small) (le-leb (r.first + r.count) (length ts) f.placed))
      (and_from (good_run n (run ts r)) (total (run ts r) == 1000) f.good (eq-eqb (total (run ts r)) 1000 f.whole))

  good_move : (r : MoveRecord) → Fit n b ts r → Good n 1000 b (run ts r)
  good_move r f = record { short = omega (arith, length_run ts r f.placed, f.small); aimed = aimed_run n (run ts r) f.good; whole = f.whole }

  -- a list of a good index
  record Fits (rs : List MoveRecord) : Type 0 where
    few : length rs ≤ b
    each : AllByRecursion (Fit n b ts) rs

  fits_list : (rs : List MoveRecord) → good_list n b ts rs ≡ true → Fits rs
  fits_list rs e =
      let p = and_parts (nat_le (length rs) b) (list_all (good_record n b ts) rs) e in
      record { few = leb-true (length rs) b p.0; each = All-weaker (λ r. good_record n b ts r ≡ true) (Fit n b ts) fit rs (every_all (good_record n b ts) rs p.1) }

  list_fits : (rs : List MoveRecord) → length rs ≤ b → AllByRecursion (Fit n b ts) rs → good_list n b ts rs ≡ true
  list_fits rs h each =
      and_from (nat_le (length rs) b) (list_all (good_record n b ts) rs) (le-leb (length rs) b h)
      (all_every (good_record n b ts) rs (All-weaker (Fit n b ts) (λ r. good_record n b ts r ≡ true) unfit rs each))

  module _ (cells : List (List MoveRecord)) (good : good_index n b cells ts ≡ true) where
    fits_cell : (c : ℕ) → Fits (slice_index_or cells c [])
    fits_cell c = go (cases_lt c (length cells))
      where
        go : (c < length cells) ⊎ (length cells ≤ c) → Fits (slice_index_or cells c [])
        go (inl l) = fits_list (slice_index_or cells c []) (All-get_or (λ rs. good_list n b ts rs ≡ true) cells c [] l (every_all (good_list n b ts) cells good))
        go (inr g) = subst Fits (sym (get_or_past cells c [] g)) (record { few = omega arith; each = tt })

    fits_listed : (k a : ℕ) → Fits (listed n cells k a)
    fits_listed k a = go (cases_Bool (nat_lt k n && nat_lt a 32))
      where
        go : (nat_lt k n && nat_lt a 32 ≡ true) ⊎ (nat_lt k n && nat_lt a 32 ≡ false) → Fits (listed n cells k a)
        go (inl e) = subst Fits (sym (cond-true (nat_lt k n && nat_lt a 32) (slice_index_or cells (cell_of k a) []) [] e)) (fits_cell (cell_of k a))
        go (inr e) = subst Fits (sym (cond-false (nat_lt k n && nat_lt a 32) (slice_index_or cells (cell_of k a) []) [] e)) (record { few = omega arith; each = tt })

    pub few_listed : (k a : ℕ) → length (listed n cells k a) ≤ b
    few_listed k a = (fits_listed k a).few

    none_listed : (k a : ℕ) → nat_lt k n && nat_lt a 32 ≡ false → listed n cells k a ≡ []
    none_listed k a e = cond-false (nat_lt k n && nat_lt a 32) (slice_index_or cells (cell_of k a) []) [] e

    pub sound_index : Between 1 64 n → Between 2 64 b → Sound (index_meaning n b cells ts)
    sound_index hn hb = record {
      ruled = record {
        states_low = hn.0;
        mass_low = omega arith;
        breadth_low = hb.0;
        past_states = λ k a h. ap (map (run ts)) (none_listed k a (and_left (nat_lt k n) (nat_lt a 32) (le-ltb k n h)));
        past_actions = λ k a h. ap (map (run ts)) (none_listed k a (and_right (nat_lt k n) (nat_lt a 32) (le-ltb a 32 h)));
        few = λ k a. omega (arith, length-map (listed n cells k a) (run ts), few_listed k a);
        each = λ k a. All-map (Good n 1000 b) (run ts) (listed n cells k a) (All-weaker (Fit n b ts) (λ r. Good n 1000 b (run ts r)) good_move (listed n cells k a) (fits_listed k a).each);
      };
      limited = record { states_high = omega (arith, hn.1); mass_high = omega arith; breadth_high = omega (arith, hb.1) };
    }

pub in_range : (n : ℕ) (cells : List (List MoveRecord)) (k a : ℕ) → k < n → a < 32 → listed n cells k a ≡ slice_index_or cells (cell_of k a) []
in_range n cells k a p q = cond-true (nat_lt k n && nat_lt a 32) (slice_index_or cells (cell_of k a) []) [] (and_from (nat_lt k n) (nat_lt a 32) (lt-ltb k n p) (lt-ltb a 32 q))

-- the index of tables in which no record is refused
module _ (n : ℕ) (rs : List MoveRecord) (ts : List Target) (cells : List (List MoveRecord)) (ok : first_fault n rs ts (length rs) ≡ None) (g : Grouped n rs (length rs) cells) where
  listed_asked : (k a : ℕ) → k < n → a < 32 → slice_index_or cells (cell_of k a) [] ≡ asked k a rs
  listed_asked k a hk ha = g.each k a hk ha ∙ ap (asked k a) (take_all (length rs) rs (omega arith))

  cell_list : (c : ℕ) → c < length cells → slice_index_or cells c [] ≡ asked (c / 32) (c % 32) rs
  cell_list c l =
      ap (λ (x : ℕ). get_or cells x []) (sym (div-add-mod' c 32))
      ∙ listed_asked (c / 32) (c % 32) (div_below c 32 n (omega arith) (omega (arith, g.size))) (mod_below c 32 (omega arith))

  all_fit : (i : ℕ) → i < length rs → Fit n (longest rs (length rs)) ts (row rs i)
  all_fit i l =
      let s = all_sized n rs ts ok i l in
      let f = all_fine n rs ts ok i l in
      record { small = s.0; placed = s.1; good = f.good; whole = f.whole }

  pub index_good : good_index n (longest rs (length rs)) cells ts ≡ true
  index_good = all_every (good_list n (longest rs (length rs)) ts) cells
      (All-from_get_or (λ xs. good_list n (longest rs (length rs)) ts xs ≡ true) cells []
      (λ c l. subst (λ (xs : List MoveRecord). good_list n (longest rs (length rs)) ts xs ≡ true) (sym (cell_list c l))
      (list_fits n (longest rs (length rs)) ts (asked (c / 32) (c % 32) rs) (few_all rs (c / 32) (c % 32)) (asked_all n rs ts ok (Fit n (longest rs (length rs)) ts) all_fit (c / 32) (c % 32)))))

  same_list : (k a : ℕ) → listed n cells k a ≡ asked k a rs
  same_list k a = go (cases_lt k n) (cases_lt a 32)
    where
      none : ltb k n && nat_lt a 32 ≡ false → asked k a rs ≡ [] → listed n cells k a ≡ asked k a rs
      none e z = cond-false (nat_lt k n && nat_lt a 32) (slice_index_or cells (cell_of k a) []) [] e ∙ sym z

      go : (k < n) ⊎ (n ≤ k) → (a < 32) ⊎ (32 ≤ a) → listed n cells k a ≡ asked k a rs
      go (inl p) (inl q) = in_range n cells k a p q ∙ listed_asked k a p q
      go (inl p) (inr q) = none (and_right (nat_lt k n) (nat_lt a 32) (le-ltb a 32 q)) (none_acts n rs ts ok k a q)
      go (inr p) q = none (and_left (nat_lt k n) (nat_lt a 32) (le-ltb k n p)) (none_past n rs ts ok k a p)

  pub same_meaning : index_meaning n (longest rs (length rs)) cells ts ≡ table_meaning n rs ts
  same_meaning =
      ap (λ (f : ℕ → ℕ → List Move). record { states = n; mass = 1000; breadth = longest rs (length rs); moves = f })
      (fun_ext (λ k. fun_ext (λ a. ap (map (run ts)) (same_list k a))))
