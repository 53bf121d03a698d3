-- What judge answers, and what it leaves in its two tables.
use Rattle.std.specs.Prelude.{ℕ, ◌*◌, Bool, true, false, cond, not, ◌||◌, List, map, replicate, Ok, Err, Result, codes, nat_lt}
use Rattle.std.specs.List.{range_with_len, flat_map}
use Rattle.systems.specs.Meaning.{Meaning}
use Rattle.formulas.specs.Tables.{contents, over, stands_in, lines_in}
use Rattle.formulas.specs.Truths.{Truth, truths, at_node, holds}
use Rattle.claims.specs.declared.claim.Claim.{Claim}
use Rattle.formulas.specs.declared.tables.Tables.{Tables}
use Rattle.formulas.specs.declared.refusal.Refusal.{Refusal}
use Rattle.formulas.specs.declared.refusal.Refusal.TheVariants.{NoFormula, Heavy, Short}
use Rattle.claims.specs.declared.verdict.Verdict.{Verdict}
use Rattle.claims.specs.declared.verdict.Verdict.TheVariants.{Yes, No}
use Rattle.claims.specs.Claims.{formula}

-- the verdict that a truth is
abbrev pub verdict : Bool → Verdict
verdict true = Yes
verdict false = No

-- how it is printed
abbrev pub word : Verdict → List ℕ
word Yes = codes "yes"
word No = codes "no"

-- the answer of judge on a system that means M, with a truth table and a row of these lengths
abbrev pub judged : Meaning → Claim → Tables → ℕ → ℕ → Result Verdict Refusal
judged M c t size len =
    cond (not (stands_in c.fills c.root c.mass (contents t))) (Err NoFormula)
    (cond (nat_lt 1000000000000000 (c.mass * M.mass)) (Err Heavy)
    (cond (nat_lt size (c.fills.nodes * M.states) || nat_lt len c.fills.nodes) (Err Short)
    (Ok (verdict (holds M (formula c t))))))

abbrev pub byte : Bool → ℕ
byte b = cond b 1 0

-- whether node i holds, in each of n states
abbrev pub node_bytes : List Truth → ℕ → ℕ → List ℕ
node_bytes T n i = map (λ s. byte (at_node T i s)) (range_with_len 0 n)

-- the same of the first nodes, one after the other
abbrev pub bytes : List Truth → ℕ → ℕ → List ℕ
bytes T n count = flat_map (node_bytes T n) (range_with_len 0 count)

-- what judge writes into the truth table, and into the row
abbrev pub truth_bytes : Meaning → Claim → Tables → List ℕ
truth_bytes M c t = bytes (truths M (lines_in c.fills (contents t))) M.states c.fills.nodes

abbrev pub row_bytes : Claim → List ℕ
row_bytes c = replicate c.fills.nodes 0

-- a table after judge: written over if there is a verdict, else as it was
abbrev pub after : Result Verdict Refusal → List ℕ → List ℕ → List ℕ
after (Ok v) front old = over front old
after (Err f) front old = old
