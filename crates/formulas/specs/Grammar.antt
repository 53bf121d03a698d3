-- How the words of a text are read.
use Rattle.std.specs.Prelude.{ℕ, zero, suc, ◌-◌, Bool, true, false, cond, ◌&&◌, List, [], ◌∷◌, map, length, Some, None, Ok, Err, Option, Result, ◌==◌, nat_le}
use Rattle.formulas.specs.declared.fault.GrammarFault.{GrammarFault}
use Rattle.formulas.specs.declared.fault.GrammarFault.TheVariants.{Word, Misplaced, OutOfRange, TooMany}
use Rattle.formulas.specs.declared.token.Token.{Token}
use Rattle.formulas.specs.declared.token.Token.TheVariants.{Open, Close, True, False, And, Not, Dia, Here, Prob, AtLeast, Plus, Times, Numeral}
use Rattle.formulas.specs.declared.token.Lexeme.{Lexeme}
use Rattle.formulas.specs.Lines.{Sort, state, dist, is_state, is_dist}
use Rattle.formulas.specs.Tokens.{token_of}
use Rattle.formulas.specs.Trees.{Tree, leaf, conj, neg, dia, here, at_least, Products, none, product}
use Rattle.formulas.specs.Words.{onward, part}

-- a word of the text: its place, and its token if it has one
abbrev pub Item : Type 0
Item = ℕ × Option Token

abbrev pub item : List ℕ → ℕ × ℕ → Item
item text w = (w.0, token_of (part text w.0 w.1))

-- the words of a text from a place on
abbrev pub items : List ℕ → ℕ → List Item
items text p = map (item text) (onward text p)

-- what is read: a value and the words behind it, or a fault
abbrev pub Out : Type 0 → Type 0
Out A = Result (A × List Item) GrammarFault

abbrev pub then : {A B : Type 0} → Out A → (A → List Item → Out B) → Out B
then (Ok x) f = f x.0 x.1
then (Err e) f = Err e

abbrev pub lexed : ℕ → Option Token → List Item → Out Lexeme
lexed p (Some t) rest = Ok (record { token = t; place = p }, rest)
lexed p None rest = Err (Word (record { place = p }))

-- the next token, where the text ends at stop
abbrev pub next : ℕ → List Item → Out Lexeme
next stop [] = Err (Misplaced stop)
next stop (i ∷ is) = lexed i.0 i.1 is

-- which token it is, the value of a numeral aside
abbrev pub code : Token → ℕ
code Open = 0
code Close = 1
code True = 2
code False = 3
code And = 4
code Not = 5
code Dia = 6
code Here = 7
code Prob = 8
code AtLeast = 9
code Plus = 10
code Times = 11
code (Numeral n) = 12

abbrev pub is : Token → Lexeme → Bool
is t x = code t == code x.token

abbrev pub misplaced : {A : Type 0} → Lexeme → Out A
misplaced x = Err (Misplaced x.place)

abbrev pub too_many : {A : Type 0} → Lexeme → Out A
too_many x = Err (TooMany x.place)

-- one certain token
abbrev pub expect : Token → ℕ → List Item → Out (Unit {0})
expect t stop ws = then (next stop ws) (λ x rest. cond (is t x) (Ok (tt, rest)) (misplaced x))

abbrev pub value : Token → Option ℕ
value Open = None
value Close = None
value True = None
value False = None
value And = None
value Not = None
value Dia = None
value Here = None
value Prob = None
value AtLeast = None
value Plus = None
value Times = None
value (Numeral n) = Some n

abbrev pub ranged : ℕ → ℕ → ℕ → Option ℕ → List Item → Out ℕ
ranged low high p (Some n) rest = cond (nat_le low n && nat_le n high) (Ok (n, rest)) (Err (OutOfRange p))
ranged low high p None rest = Err (Misplaced p)

-- a numeral from low to high
abbrev pub number : ℕ → ℕ → ℕ → List Item → Out ℕ
number low high stop ws = then (next stop ws) (λ x rest. ranged low high x.place (value x.token) rest)

abbrev pub closed : {A : Type 0} → ℕ → A → List Item → Out A
closed stop x ws = then (expect Close stop ws) (λ _ rest. Ok (x, rest))

-- a term that begins with the token x, where behind is what an opening parenthesis gives
abbrev pub begun : Lexeme → List Item → Out Tree → Out Tree
begun x rest behind =
    cond (is True x) (Ok (leaf true, rest))
    (cond (is False x) (Ok (leaf false, rest))
    (cond (is Open x) behind (misplaced x)))

-- a term of a sort behind its parenthesis and its first token x, where sub reads a term inside it, and sums a sum
abbrev pub headed : ℕ → (Sort → List Item → Out Tree) → (List Item → Out Products) → Sort → Lexeme → List Item → Out Tree
headed stop sub sums σ x ws =
    cond (is And x) (then (sub σ ws) (λ a r. then (sub σ r) (λ b s. closed stop (conj a b) s)))
    (cond (is Not x) (then (sub σ ws) (λ a r. closed stop (neg a) r))
    (cond (is_state σ && is Dia x) (then (number 0 31 stop ws) (λ n r. then (sub dist r) (λ d s. closed stop (dia n d) s)))
    (cond (is_state σ && is Here x) (then (sub dist ws) (λ d r. closed stop (here d) r))
    (cond (is_dist σ && is AtLeast x) (then (sums ws) (λ ks r. then (number 0 1000 stop r) (λ n s. closed stop (at_least ks n) s)))
    (misplaced x)))))

-- whether it is the numeral 0
abbrev pub nought : Option ℕ → Bool
nought (Some n) = n == 0
nought None = false

-- a sum that begins with the token x, where behind is what an opening parenthesis gives
abbrev pub sum_begun : Lexeme → List Item → Out Products → Out Products
sum_begun x rest behind = cond (nought (value x.token)) (Ok (none, rest)) (cond (is Open x) behind (misplaced x))

-- a product behind its `*`: a coefficient of at most left, then what quantity reads
abbrev pub factor : ℕ → (List Item → Out Tree) → ℕ → List Item → Out (ℕ × Tree)
factor stop quantity left ws = then (number 1 left stop ws) (λ c r. then (quantity r) (λ s q. closed stop (c, s) q))

abbrev pub alone : Out (ℕ × Tree) → Out Products
alone o = then o (λ k r. Ok (product k.0 k.1 none, r))

-- the products behind a `+` up to its closing parenthesis, of which there are two to eight: at most more of them to come,
-- whose coefficients add up to at most left; element reads one behind its opening parenthesis
unfoldable pub several : ℕ → (Lexeme → ℕ → List Item → Out (ℕ × Tree)) → ℕ → ℕ → List Item → Out Products
several stop element zero left ws =
    then (next stop ws) (λ x rest. cond (is Close x) (Ok (none, rest)) (cond (is Open x) (too_many x) (misplaced x)))
several stop element (suc more) left ws =
    then (next stop ws) (λ x rest.
    cond (is Close x && nat_le (suc more) 6) (Ok (none, rest))
    (cond (is Open x)
    (then (element x left rest) (λ k r. then (several stop element more (left - k.0) r) (λ ks q. Ok (product k.0 k.1 ks, q))))
    (misplaced x)))

-- a sum behind its parenthesis and its first token x
abbrev pub sum_headed : ℕ → (List Item → Out Tree) → (Lexeme → ℕ → List Item → Out (ℕ × Tree)) → Lexeme → List Item → Out Products
sum_headed stop quantity element x ws =
    cond (is Times x) (alone (factor stop quantity 1000 ws))
    (cond (is Plus x) (several stop element 8 1000 ws)
    (misplaced x))

-- where room more parentheses may open: a term of a sort, a sum, a `(prob S)`, and a product behind its opening parenthesis x
unfoldable mutual
  pub term : ℕ → ℕ → Sort → List Item → Out Tree
  term stop zero σ ws = then (next stop ws) (λ x rest. begun x rest (too_many x))
  term stop (suc room) σ ws =
      then (next stop ws) (λ x rest. begun x rest
      (then (next stop rest) (λ y more. headed stop (λ τ l. term stop room τ l) (λ l. sum stop room l) σ y more)))

  pub sum : ℕ → ℕ → List Item → Out Products
  sum stop zero ws = then (next stop ws) (λ x rest. sum_begun x rest (too_many x))
  sum stop (suc room) ws =
      then (next stop ws) (λ x rest. sum_begun x rest
      (then (next stop rest) (λ y more. sum_headed stop (λ l. quantity stop room l) (λ z left l. element stop room z left l) y more)))

  pub quantity : ℕ → ℕ → List Item → Out Tree
  quantity stop zero ws = then (next stop ws) (λ x rest. cond (is Open x) (too_many x) (misplaced x))
  quantity stop (suc room) ws =
      then (expect Open stop ws) (λ _ r. then (expect Prob stop r) (λ _ q. then (term stop room state q) (λ s l. closed stop s l)))

  pub element : ℕ → ℕ → Lexeme → ℕ → List Item → Out (ℕ × Tree)
  element stop zero x left ws = too_many x
  element stop (suc room) x left ws = then (expect Times stop ws) (λ _ r. factor stop (λ l. quantity stop room l) left r)

-- a word behind the last term
abbrev pub stray : ℕ → Option Token → GrammarFault
stray p (Some t) = Misplaced p
stray p None = Word (record { place = p })

abbrev pub lone : Tree → List Item → Result Tree GrammarFault
lone t [] = Ok t
lone t (i ∷ rest) = Err (stray i.0 i.1)

abbrev pub finish : Out Tree → Result Tree GrammarFault
finish (Ok x) = lone x.0 x.1
finish (Err f) = Err f

-- the one state term of a text, in which at most 64 parentheses are open at a time
unfoldable pub parse : List ℕ → Result Tree GrammarFault
parse text = finish (term (length text) 64 state (items text 0))
