use Rattle.std.proofs.Common.{◌≡◌, sym, ap, ◌∙◌, rules, arith, ltb-false, ltb-true}
use Rattle.formulas.specs.Tokens.{reserved, numeral_token}
use Rattle.formulas.proofs.Reserved.{Apart, not-reserved, other_0, other_1, other_2, other_3, other_4, other_5, other_6}
use Rattle.formulas.proofs.tokens.token.Goals as goal

-- no reserved word came to the last arm
other : (c : goal.After-map) → Apart c.args.word.now reserved
other c = elim c.in_default.branch [
  | goal.in_default-via-then-word-lt1 w ↦ other_0 _ (omega (arith, ltb-true, ltb-false))
  | goal.in_default-via-else-word-lt1+then-word-lt2+in_default-1 w ↦ other_1 _ (omega (arith, ltb-true, ltb-false)) (λ a. omega arith) (λ a. omega arith) (λ a. omega arith) (λ a. omega arith)
  | goal.in_default-via-else-word-lt1+else-word-lt2+then-word-lt3+in_default-1 w ↦ other_2 _ (omega (arith, ltb-true, ltb-false)) (λ a b. omega arith)
  | goal.in_default-via-else-word-lt1+else-word-lt2+then-word-lt3+in-62+in_default-1 w ↦ other_2 _ (omega (arith, ltb-true, ltb-false)) (λ a b. omega arith)
  | goal.in_default-via-else-word-lt1+else-word-lt2+else-word-lt3+then-word-lt4+in_default-1 w ↦ other_3 _ (omega (arith, ltb-true, ltb-false)) (λ a b c. omega arith) (λ a b c. omega arith) (λ a b c. omega arith)
  | goal.in_default-via-else-word-lt1+else-word-lt2+else-word-lt3+then-word-lt4+in-97+in_default-1 w ↦ other_3 _ (omega (arith, ltb-true, ltb-false)) (λ a b c. omega arith) (λ a b c. omega arith) (λ a b c. omega arith)
  | goal.in_default-via-else-word-lt1+else-word-lt2+else-word-lt3+then-word-lt4+in-97+in-110+in_default-1 w ↦ other_3 _ (omega (arith, ltb-true, ltb-false)) (λ a b c. omega arith) (λ a b c. omega arith) (λ a b c. omega arith)
  | goal.in_default-via-else-word-lt1+else-word-lt2+else-word-lt3+then-word-lt4+in-110+in_default-1 w ↦ other_3 _ (omega (arith, ltb-true, ltb-false)) (λ a b c. omega arith) (λ a b c. omega arith) (λ a b c. omega arith)
  | goal.in_default-via-else-word-lt1+else-word-lt2+else-word-lt3+then-word-lt4+in-110+in-111+in_default-1 w ↦ other_3 _ (omega (arith, ltb-true, ltb-false)) (λ a b c. omega arith) (λ a b c. omega arith) (λ a b c. omega arith)
  | goal.in_default-via-else-word-lt1+else-word-lt2+else-word-lt3+then-word-lt4+in-100+in_default-1 w ↦ other_3 _ (omega (arith, ltb-true, ltb-false)) (λ a b c. omega arith) (λ a b c. omega arith) (λ a b c. omega arith)
  | goal.in_default-via-else-word-lt1+else-word-lt2+else-word-lt3+then-word-lt4+in-100+in-105+in_default-1 w ↦ other_3 _ (omega (arith, ltb-true, ltb-false)) (λ a b c. omega arith) (λ a b c. omega arith) (λ a b c. omega arith)
  | goal.in_default-via-else-word-lt1+else-word-lt2+else-word-lt3+else-word-lt4+then-word-lt5+in_default-1 w ↦ other_4 _ (omega (arith, ltb-true, ltb-false)) (λ a b c d. omega arith) (λ a b c d. omega arith) (λ a b c d. omega arith)
  | goal.in_default-via-else-word-lt1+else-word-lt2+else-word-lt3+else-word-lt4+then-word-lt5+in-116+in_default-1 w ↦ other_4 _ (omega (arith, ltb-true, ltb-false)) (λ a b c d. omega arith) (λ a b c d. omega arith) (λ a b c d. omega arith)
  | goal.in_default-via-else-word-lt1+else-word-lt2+else-word-lt3+else-word-lt4+then-word-lt5+in-116+in-114+in_default-1 w ↦ other_4 _ (omega (arith, ltb-true, ltb-false)) (λ a b c d. omega arith) (λ a b c d. omega arith) (λ a b c d. omega arith)
  | goal.in_default-via-else-word-lt1+else-word-lt2+else-word-lt3+else-word-lt4+then-word-lt5+in-116+in-114+in-117+in_default-1 w ↦ other_4 _ (omega (arith, ltb-true, ltb-false)) (λ a b c d. omega arith) (λ a b c d. omega arith) (λ a b c d. omega arith)
  | goal.in_default-via-else-word-lt1+else-word-lt2+else-word-lt3+else-word-lt4+then-word-lt5+in-104+in_default-1 w ↦ other_4 _ (omega (arith, ltb-true, ltb-false)) (λ a b c d. omega arith) (λ a b c d. omega arith) (λ a b c d. omega arith)
  | goal.in_default-via-else-word-lt1+else-word-lt2+else-word-lt3+else-word-lt4+then-word-lt5+in-104+in-101+in_default-1 w ↦ other_4 _ (omega (arith, ltb-true, ltb-false)) (λ a b c d. omega arith) (λ a b c d. omega arith) (λ a b c d. omega arith)
  | goal.in_default-via-else-word-lt1+else-word-lt2+else-word-lt3+else-word-lt4+then-word-lt5+in-104+in-101+in-114+in_default-1 w ↦ other_4 _ (omega (arith, ltb-true, ltb-false)) (λ a b c d. omega arith) (λ a b c d. omega arith) (λ a b c d. omega arith)
  | goal.in_default-via-else-word-lt1+else-word-lt2+else-word-lt3+else-word-lt4+then-word-lt5+in-112+in_default-1 w ↦ other_4 _ (omega (arith, ltb-true, ltb-false)) (λ a b c d. omega arith) (λ a b c d. omega arith) (λ a b c d. omega arith)
  | goal.in_default-via-else-word-lt1+else-word-lt2+else-word-lt3+else-word-lt4+then-word-lt5+in-112+in-114+in_default-1 w ↦ other_4 _ (omega (arith, ltb-true, ltb-false)) (λ a b c d. omega arith) (λ a b c d. omega arith) (λ a b c d. omega arith)
  | goal.in_default-via-else-word-lt1+else-word-lt2+else-word-lt3+else-word-lt4+then-word-lt5+in-112+in-114+in-111+in_default-1 w ↦ other_4 _ (omega (arith, ltb-true, ltb-false)) (λ a b c d. omega arith) (λ a b c d. omega arith) (λ a b c d. omega arith)
  | goal.in_default-via-else-word-lt1+else-word-lt2+else-word-lt3+else-word-lt4+else-word-lt5+then-word-lt6+in_default-1 w ↦ other_5 _ (omega (arith, ltb-true, ltb-false)) (λ a b c d e. omega arith)
  | goal.in_default-via-else-word-lt1+else-word-lt2+else-word-lt3+else-word-lt4+else-word-lt5+then-word-lt6+in-102+in_default-1 w ↦ other_5 _ (omega (arith, ltb-true, ltb-false)) (λ a b c d e. omega arith)
  | goal.in_default-via-else-word-lt1+else-word-lt2+else-word-lt3+else-word-lt4+else-word-lt5+then-word-lt6+in-102+in-97+in_default-1 w ↦ other_5 _ (omega (arith, ltb-true, ltb-false)) (λ a b c d e. omega arith)
  | goal.in_default-via-else-word-lt1+else-word-lt2+else-word-lt3+else-word-lt4+else-word-lt5+then-word-lt6+in-102+in-97+in-108+in_default-1 w ↦ other_5 _ (omega (arith, ltb-true, ltb-false)) (λ a b c d e. omega arith)
  | goal.in_default-via-else-word-lt1+else-word-lt2+else-word-lt3+else-word-lt4+else-word-lt5+then-word-lt6+in-102+in-97+in-108+in-115+in_default-1 w ↦ other_5 _ (omega (arith, ltb-true, ltb-false)) (λ a b c d e. omega arith)
  | goal.in_default-via-else-word-lt1+else-word-lt2+else-word-lt3+else-word-lt4+else-word-lt5+else-word-lt6 w ↦ other_6 _ (omega (arith, ltb-true, ltb-false))
]

pub returns-in_default : goal.returns-in_default
returns-in_default c =
    let e : c.map.result ≡ numeral_token c.numeral.result = search rules in
    e ∙ ap numeral_token c.numeral.ensures ∙ sym (not-reserved _ (other c))
