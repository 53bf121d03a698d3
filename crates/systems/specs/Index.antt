-- What an index of moves means: for each state and action the records, one list after another.
use Rattle.std.specs.Prelude.{◌≡◌, ℕ, ◌+◌, ◌*◌, ◌<◌, Bool, cond, ◌&&◌, List, [], map, length, take, ◌==◌, nat_le, nat_lt, slice_index_or}
use Rattle.std.specs.List.{list_all}
use Rattle.systems.specs.declared.system.Target.{Target}
use Rattle.systems.specs.declared.records.MoveRecord.{MoveRecord}
use Rattle.systems.specs.Meaning.{Meaning, total}
use Rattle.systems.specs.Tables.{asked, cell_of, run, good_run}

-- the records of a state and an action
abbrev pub listed : ℕ → List (List MoveRecord) → ℕ → ℕ → List MoveRecord
listed n cells k a = cond (nat_lt k n && nat_lt a 32) (slice_index_or cells (cell_of k a) []) []

abbrev pub index_meaning : ℕ → ℕ → List (List MoveRecord) → List Target → Meaning
index_meaning n b cells ts = record {
  states = n;
  mass = 1000;
  breadth = b;
  moves = λ k a. map (run ts) (listed n cells k a);
}

-- the record has a whole move of at most b targets, each in one of n states, among the target records
abbrev pub good_record : ℕ → ℕ → List Target → MoveRecord → Bool
good_record n b ts r = (nat_le r.count b && nat_le (r.first + r.count) (length ts)) && (good_run n (run ts r) && total (run ts r) == 1000)

abbrev pub good_list : ℕ → ℕ → List Target → List MoveRecord → Bool
good_list n b ts rs = nat_le (length rs) b && list_all (good_record n b ts) rs

abbrev pub good_index : ℕ → ℕ → List (List MoveRecord) → List Target → Bool
good_index n b cells ts = list_all (good_list n b ts) cells

-- the first i records, each in the list of its state and action
pub record Grouped (n : ℕ) (rs : List MoveRecord) (i : ℕ) (cells : List (List MoveRecord)) : Type 0 where
  pub size : length cells ≡ n * 32
  pub each : (k a : ℕ) → k < n → a < 32 → slice_index_or cells (cell_of k a) [] ≡ asked k a (take i rs)
