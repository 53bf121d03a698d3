-- What the readers of the grammar do: where they stand in the text, and what they find there.
use Rattle.std.specs.Prelude.{◌≡◌, ℕ, ◌+◌, ◌<◌, ◌≤◌, max, true, false, cond, ◌&&◌, List, [], ◌∷◌, length, Some, None, Ok, Err, Option, Result, ◌==◌, nat_le}
use Rattle.formulas.specs.declared.fault.GrammarFault.{GrammarFault}
use Rattle.formulas.specs.declared.fault.GrammarFault.TheVariants.{OutOfRange}
use Rattle.formulas.specs.declared.fault.WordFault.{WordFault}
use Rattle.formulas.specs.declared.token.Lexeme.{Lexeme}
use Rattle.formulas.specs.declared.token.Token.{Token}
use Rattle.formulas.specs.declared.token.Token.TheVariants.{Open, Close, True, False, Prob}
use Rattle.formulas.specs.declared.lexer.Start.{Start}
use Rattle.formulas.specs.declared.lexer.Start.TheVariants.{Constant, Inside}
use Rattle.formulas.specs.declared.words.Words.{Words}
use Rattle.formulas.specs.Grammar.{Item, items, Out, then, next, is, value, nought, misplaced, too_many}

-- o was read: its value is to the answer x as V says, and q is the place behind it
abbrev pub Taken : {A X : Type 0} → (A → X → Type 0) → List ℕ → Out A → Result X GrammarFault → ℕ → Type 0
Taken {A} V text o (Ok x) q = (v : A) × (o ≡ Ok (v, items text q)) × V v x
Taken V text o (Err f) q = o ≡ Err f

-- from the place p to the place q it is d bytes at least, and q is not past the end n of the text
abbrev pub Moved : {X : Type 0} → ℕ → ℕ → ℕ → Result X GrammarFault → ℕ → Type 0
Moved d n p (Ok x) q = (p + d ≤ q) × (q ≤ max n p)
Moved d n p (Err f) q = Unit {0}

-- a reader that stands at w answers r and then stands at v, having read what f says, and d bytes at least
pub record Takes {A X : Type 0} (d : ℕ) (f : ℕ → List Item → Out A) (V : A → X → Type 0) (w : Words) (r : Result X GrammarFault) (v : Words) : Type 0 where
  pub same : v.text ≡ w.text
  pub moved : Moved d (length w.text.now) w.pos r v.pos
  pub took : Taken V w.text.now (f (length w.text.now) (items w.text.now w.pos)) r v.pos

-- the answer is the value itself
abbrev pub Itself : {A : Type 0} → A → A → Type 0
Itself v x = v ≡ x

-- the words ws begin with what is handed out, and q is the place behind it
abbrev pub First : List ℕ → List Item → ℕ → Result (Option Lexeme) WordFault → ℕ → Type 0
First text ws p (Ok (Some x)) q = (ws ≡ (x.place, Some x.token) ∷ items text q) × (p < q) × (q ≤ length text)
First text ws p (Ok None) q = ws ≡ []
First text ws p (Err f) q = (rest : List Item) × (ws ≡ (f.place, None) ∷ rest)

-- a number from low to high, or the fault at the place p
abbrev pub in_range : ℕ → ℕ → ℕ → ℕ → Result ℕ GrammarFault
in_range low high p n = cond (nat_le low n && nat_le n high) (Ok n) (Err (OutOfRange p))

-- the token behind the opening parenthesis x, where room more parentheses may open
abbrev pub behind : ℕ → Lexeme → ℕ → List Item → Out Lexeme
behind room x stop ws = cond (room == 0) (too_many x) (next stop ws)

-- how a term begins: with a constant, or with the token behind its parenthesis
abbrev pub starting : ℕ → Lexeme → ℕ → List Item → Out Start
starting room x stop ws =
    cond (is True x) (Ok (Constant true, ws))
    (cond (is False x) (Ok (Constant false, ws))
    (cond (is Open x) (then (behind room x stop ws) (λ y rest. Ok (Inside y, rest))) (misplaced x)))

abbrev pub starts : ℕ → ℕ → List Item → Out Start
starts room stop ws = then (next stop ws) (λ x rest. starting room x stop rest)

-- how a sum begins: with 0, or with the token behind its parenthesis
abbrev pub sum_starting : ℕ → Lexeme → ℕ → List Item → Out (Option Lexeme)
sum_starting room x stop ws =
    cond (nought (value x.token)) (Ok (None, ws))
    (cond (is Open x) (then (behind room x stop ws) (λ y rest. Ok (Some y, rest))) (misplaced x))

abbrev pub sum_starts : ℕ → ℕ → List Item → Out (Option Lexeme)
sum_starts room stop ws = then (next stop ws) (λ x rest. sum_starting room x stop rest)

-- what follows count products: the end, which comes after two at least, or the opening parenthesis of one more, of which there are eight at most
abbrev pub following : ℕ → Lexeme → List Item → Out (Option Lexeme)
following count x ws =
    cond (is Close x && nat_le 2 count) (Ok (None, ws))
    (cond (is Open x) (cond (nat_le 8 count) (too_many x) (Ok (Some x, ws))) (misplaced x))

abbrev pub another : ℕ → ℕ → List Item → Out (Option Lexeme)
another count stop ws = then (next stop ws) (λ x rest. following count x rest)

-- whether it is the certain token t
abbrev pub confirmed : Token → Lexeme → List Item → Out (Unit {0})
confirmed t x ws = cond (is t x) (Ok (tt, ws)) (misplaced x)

-- the beginning of a probability
abbrev pub prob_starting : ℕ → Lexeme → ℕ → List Item → Out (Unit {0})
prob_starting room x stop ws =
    cond (is Open x) (then (behind room x stop ws) (λ y rest. confirmed Prob y rest)) (misplaced x)

abbrev pub prob_starts : ℕ → ℕ → List Item → Out (Unit {0})
prob_starts room stop ws = then (next stop ws) (λ x rest. prob_starting room x stop rest)
