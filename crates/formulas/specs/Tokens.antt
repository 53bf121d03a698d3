-- The reserved words and the numerals.
use Rattle.std.specs.Prelude.{ℕ, ◌+◌, ◌-◌, ◌*◌, min, Bool, true, false, cond, ◌&&◌, List, [], ◌∷◌, Some, None, codes, Option, ◌==◌, nat_le}
use Rattle.formulas.specs.declared.token.Token.{Token}
use Rattle.formulas.specs.declared.token.Token.TheVariants.{Open, Close, True, False, And, Not, Dia, Here, Prob, AtLeast, Plus, Times, Numeral}

abbrev pub same : List ℕ → List ℕ → Bool
same [] [] = true
same [] (y ∷ ys) = false
same (x ∷ xs) [] = false
same (x ∷ xs) (y ∷ ys) = x == y && same xs ys

abbrev pub digit : ℕ → Bool
digit b = nat_le 48 b && nat_le b 57

abbrev pub digits : List ℕ → Bool
digits [] = true
digits (b ∷ bs) = digit b && digits bs

-- the number that digits stand for, after digits that stand for a
abbrev pub decimal : ℕ → List ℕ → ℕ
decimal a [] = a
decimal a (b ∷ bs) = decimal (a * 10 + (b - 48)) bs

-- at least one digit, and no zero in front of another
abbrev pub canonical : List ℕ → Bool
canonical [] = false
canonical (b ∷ []) = digits (b ∷ [])
canonical (b ∷ c ∷ bs) = cond (b == 48) false (digits (b ∷ c ∷ bs))

-- any number above 2^30 is read as 2^30 + 1
abbrev pub numeral_of : List ℕ → Option ℕ
numeral_of w = cond (canonical w) (Some (min (decimal 0 w) 1073741825)) None

abbrev pub numeral_token : Option ℕ → Option Token
numeral_token (Some n) = Some (Numeral n)
numeral_token None = None

abbrev pub reserved : List (List ℕ × Token)
reserved =
    (codes "(", Open) ∷ (codes ")", Close) ∷ (codes "+", Plus) ∷ (codes "*", Times) ∷ (codes ">=", AtLeast)
    ∷ (codes "and", And) ∷ (codes "not", Not) ∷ (codes "dia", Dia)
    ∷ (codes "true", True) ∷ (codes "here", Here) ∷ (codes "prob", Prob) ∷ (codes "false", False) ∷ []

-- the first entry of the word w, or else o
abbrev pub entry : List ℕ → List (List ℕ × Token) → Option Token → Option Token
entry w [] o = o
entry w (e ∷ es) o = cond (same w e.0) (Some e.1) (entry w es o)

abbrev pub token_of : List ℕ → Option Token
token_of w = entry w reserved (numeral_token (numeral_of w))
