-- What two tables mean: move records, each with a run of target records.
use Rattle.std.specs.Prelude.{ℕ, zero, suc, ◌+◌, ◌*◌, max, Bool, ◌&&◌, List, map, length, take, drop, filter, ◌==◌, nat_le, nat_lt, slice_index_or}
use Rattle.std.specs.List.{list_all}
use Rattle.systems.specs.declared.system.Target.{Target}
use Rattle.systems.specs.declared.records.MoveRecord.{MoveRecord}
use Rattle.systems.specs.Meaning.{Meaning, Move}

abbrev pub asks : ℕ → ℕ → MoveRecord → Bool
asks k a r = r.state == k && r.action == a

-- the records of a state and an action, in the order of the table
abbrev pub asked : ℕ → ℕ → List MoveRecord → List MoveRecord
asked k a rs = filter (asks k a) rs

-- the run of a record
abbrev pub run : List Target → MoveRecord → Move
run ts r = take r.count (drop r.first ts)

-- what stands past the end of a table
abbrev pub no_record : MoveRecord
no_record = record { state = 0; action = 0; first = 0; count = 0 }

abbrev pub row : List MoveRecord → ℕ → MoveRecord
row rs i = slice_index_or rs i no_record

-- the longest list of moves or targets among the first records, and at least 2:
-- each record has a list of targets, and makes the list of its state and action longer
abbrev pub longest : List MoveRecord → ℕ → ℕ
longest rs zero = 2
longest rs (suc i) = max (longest rs i) (max (row rs i).count (length (asked (row rs i).state (row rs i).action (take (i + 1) rs))))

abbrev pub table_meaning : ℕ → List MoveRecord → List Target → Meaning
table_meaning n rs ts = record {
  states = n;
  mass = 1000;
  breadth = longest rs (length rs);
  moves = λ k a. map (run ts) (asked k a rs);
}

-- the record keeps the rules that ask for no other record, where there are so many target records
abbrev pub fits_alone : ℕ → ℕ → MoveRecord → Bool
fits_alone n places r =
    ((nat_lt r.state n && nat_lt r.action 32) && (nat_le 1 r.count && nat_le r.count 64)) && nat_le (r.first + r.count) places

-- each target goes to one of n states, with some weight
abbrev pub good_target : ℕ → Target → Bool
good_target n t = nat_lt t.state n && nat_le 1 t.weight

abbrev pub good_run : ℕ → Move → Bool
good_run n mv = list_all (good_target n) mv

-- the place of a state and an action, where each state has 32
abbrev pub cell_of : ℕ → ℕ → ℕ
cell_of k a = k * 32 + a
