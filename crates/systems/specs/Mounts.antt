-- When two tables are refused.
use Rattle.std.specs.Prelude.{ℕ, zero, suc, ◌+◌, Bool, cond, ◌&&◌, List, length, take, Some, None, Option, ◌==◌, nat_le}
use Rattle.std.specs.Option.{option_or}
use Rattle.systems.specs.declared.system.Target.{Target}
use Rattle.systems.specs.declared.records.MoveRecord.{MoveRecord}
use Rattle.systems.specs.declared.fault.MountFault.{MountFault}
use Rattle.systems.specs.declared.fault.MountFault.TheVariants.{Record, Weights, NoMemory}
use Rattle.systems.specs.Meaning.{total}
use Rattle.systems.specs.Tables.{asked, row, run, fits_alone, good_run}

-- the fault of the record r at place i, which is the nth of its state and action
abbrev pub record_fault : ℕ → List Target → ℕ → ℕ → MoveRecord → Option MountFault
record_fault n ts nth i r =
    cond (fits_alone n (length ts) r && nat_le nth 64)
    (cond (good_run n (run ts r)) (cond (total (run ts r) == 1000) None (Some (Weights i))) (Some (Record i)))
    (Some (Record i))

abbrev pub row_fault : ℕ → List MoveRecord → List Target → ℕ → Option MountFault
row_fault n rs ts i = record_fault n ts (length (asked (row rs i).state (row rs i).action (take (i + 1) rs))) i (row rs i)

-- the first fault among the records below a place
abbrev pub first_fault : ℕ → List MoveRecord → List Target → ℕ → Option MountFault
first_fault n rs ts zero = None
first_fault n rs ts (suc i) = option_or (first_fault n rs ts i) (row_fault n rs ts i)

abbrev pub sizes : ℕ → List MoveRecord → List Target → Bool
sizes n rs ts = (nat_le 1 n && nat_le n 64) && (nat_le (length rs) 4096 && nat_le (length ts) 4096)

abbrev pub mount_fault : ℕ → List MoveRecord → List Target → Option MountFault
mount_fault n rs ts = cond (sizes n rs ts) (first_fault n rs ts (length rs)) (Some (Record 0))

-- want of memory blames no table
abbrev pub blamed : MountFault → Option MountFault
blamed (Record i) = Some (Record i)
blamed (Weights i) = Some (Weights i)
blamed NoMemory = None
