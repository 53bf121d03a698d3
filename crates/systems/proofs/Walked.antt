-- The fault of a record, where the records before it are counted.
use Rattle.std.proofs.Common.{◌≡◌, ℕ, ◌+◌, ◌<◌, ◌≤◌, max, true, false, ◌⊎◌, List, length, get_or, take, set, Some, None, sym, refl, ap, ◌∙◌, inl, inr, arith}
use Rattle.std.proofs.lemmas.Bool.{cases_Bool, and_left, cond-false}
use Rattle.systems.specs.declared.system.Target.{Target}
use Rattle.systems.specs.declared.records.MoveRecord.{MoveRecord}
use Rattle.systems.specs.declared.fault.MountFault.TheVariants.{Record}
use Rattle.systems.specs.Tables.{asked, no_record, row, fits_alone, longest, cell_of}
use Rattle.systems.specs.Mounts.{record_fault, row_fault}
use Rattle.systems.specs.Runs.{asks_from, count_hit}
use Rattle.systems.specs.Mounted.{Alone, alone, Fine, fine, longest_more}
use Rattle.systems.proofs.Tallied.{Counted, counted-more}

module _ (n : ℕ) (rs : List MoveRecord) (ts : List Target) (i : ℕ) (counts : List ℕ) (bound : n ≤ 64) (within : i < length rs) (counted : Counted rs i counts) where
  -- how many records of its state and action there are with the record at i, by the counts
  met : ℕ
  met = get_or counts (cell_of (row rs i).state (row rs i).action) 0 + 1

  own-count : Alone n (length ts) (row rs i) → met ≡ length (asked (row rs i).state (row rs i).action (take (i + 1) rs))
  unfolding met
  own-count f =
      let k = (row rs i).state in
      let a = (row rs i).action in
      let hk : k < 64 = omega (arith, f.inside, bound) in
      count_hit k a rs i (get_or counts (cell_of k a) 0) no_record within (counted.each k a hk f.act) (asks_from k a (row rs i) refl refl)

  pub same-fault : record_fault n ts (get_or counts (cell_of (row rs i).state (row rs i).action) 0 + 1) i (row rs i) ≡ row_fault n rs ts i
  unfolding met
  same-fault = go (cases_Bool (fits_alone n (length ts) (row rs i)))
    where
      unfit : (m : ℕ) → fits_alone n (length ts) (row rs i) ≡ false → record_fault n ts m i (row rs i) ≡ Some (Record i)
      unfit m e = cond-false _ _ _ (and_left (fits_alone n (length ts) (row rs i)) _ e)

      go : (fits_alone n (length ts) (row rs i) ≡ true) ⊎ (fits_alone n (length ts) (row rs i) ≡ false) → record_fault n ts met i (row rs i) ≡ row_fault n rs ts i
      go (inl e) = ap (λ (m : ℕ). record_fault n ts m i (row rs i)) (own-count (alone n (length ts) (row rs i) e))
      go (inr e) = unfit met e ∙ sym (unfit _ e)

  -- a record with no fault is counted
  module _ (ok : record_fault n ts (get_or counts (cell_of (row rs i).state (row rs i).action) 0 + 1) i (row rs i) ≡ None) where
    right : Fine n rs ts i
    right = fine n rs ts i (sym same-fault ∙ ok)

    pub counted-right : Counted rs (i + 1) (set counts (cell_of (row rs i).state (row rs i).action) (get_or counts (cell_of (row rs i).state (row rs i).action) 0 + 1))
    counted-right = counted-more rs i within right.alone_fits.act counts (omega (arith, right.alone_fits.inside, bound)) counted

    pub longest-right : {b b' : ℕ} → b ≡ longest rs i → b' ≡ max (max b (row rs i).count) (get_or counts (cell_of (row rs i).state (row rs i).action) 0 + 1) → b' ≡ longest rs (i + 1)
    unfolding met
    longest-right eb eb' = omega (arith, eb, eb', own-count right.alone_fits, longest_more rs i)
