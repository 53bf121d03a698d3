-- The law of reading: which texts are accepted, and what each refusal of a text means.
use Rattle.std.specs.Prelude.{◌≡◌, ℕ, ◌≤◌, true, false, ◌↔◌, List, [], ◌∷◌, ◌++◌, map, length, Some, None, Ok, Err, codes, decimal, Option, ◌≢◌}
use Rattle.formulas.specs.declared.fault.GrammarFault.{GrammarFault}
use Rattle.formulas.specs.declared.fault.GrammarFault.TheVariants.{Word, Misplaced, OutOfRange, TooMany}
use Rattle.formulas.specs.declared.fault.ReadFault.TheVariants.{Text, Tables}
use Rattle.formulas.specs.declared.token.Token.{Token}
use Rattle.formulas.specs.declared.token.Token.TheVariants.{Open, Close, True, False, And, Not, Dia, Here, Prob, AtLeast, Plus, Times, Numeral}
use Rattle.formulas.specs.Grammar.{Item, items}
use Rattle.formulas.specs.Layout.{node_table, term_table, alternative_table, fills}
use Rattle.formulas.specs.Lines.{state}
use Rattle.formulas.specs.Reading.{reading}
use Rattle.formulas.specs.Tables.{Slots, fits, laid}
use Rattle.formulas.specs.Stands.{stands, formula_in}
use Rattle.formulas.specs.Tokens.{token_of}
use Rattle.formulas.specs.Trees.{Tree, leaf, conj, neg, dia, here, at_least, Products, none, product, spell, OfSort, InRange, count, coefficients, depth, below, lay}
use Rattle.formulas.specs.Words.{onward, part}

-- words, each by its token if it has one
abbrev pub tokens_of : List Item → List (Option Token)
tokens_of ws = map (λ i. i.1) ws

-- the words of a text
abbrev pub tokens : List ℕ → List (Option Token)
tokens text = tokens_of (items text 0)

-- the words of a text are those of a tree
abbrev pub Spells : List ℕ → Tree → Type 0
Spells text t = tokens text ≡ map Some (spell t)

-- the bytes of a token; of a numeral, its decimal digits
abbrev pub word : Token → List ℕ
word Open = codes "("
word Close = codes ")"
word True = codes "true"
word False = codes "false"
word And = codes "and"
word Not = codes "not"
word Dia = codes "dia"
word Here = codes "here"
word Prob = codes "prob"
word AtLeast = codes ">="
word Plus = codes "+"
word Times = codes "*"
word (Numeral n) = decimal n

-- a numeral that keeps its value
abbrev pub Small : Token → Type 0
Small Open = Unit {0}
Small Close = Unit {0}
Small True = Unit {0}
Small False = Unit {0}
Small And = Unit {0}
Small Not = Unit {0}
Small Dia = Unit {0}
Small Here = Unit {0}
Small Prob = Unit {0}
Small AtLeast = Unit {0}
Small Plus = Unit {0}
Small Times = Unit {0}
Small (Numeral n) = n ≤ 1073741824

-- the words of a text as parts of it
abbrev pub parts : List ℕ → List (List ℕ)
parts text = map (λ w. part text w.0 w.1) (onward text 0)

-- a state term within the limits
pub record Allowed (t : Tree) : Type 0 where
  pub sorted : OfSort state t
  pub ranged : InRange t
  pub shallow : depth t ≤ 64

-- a text is accepted, and read as the tree t, exactly when it spells t, and t is allowed and fits the tables
pub record Accepts (text : List ℕ) (s : Slots) (t : Tree) : Type 0 where
  pub spells : Spells text t
  pub allowed : Allowed t
  pub room : fits (fills (lay state 0 t)) s ≡ true

-- its numbers are in their ranges
abbrev mutual
  pub NumbersFit : Tree → Type 0
  NumbersFit (leaf b) = Unit {0}
  NumbersFit (conj x y) = NumbersFit x × NumbersFit y
  NumbersFit (neg x) = NumbersFit x
  NumbersFit (dia a d) = (a ≤ 31) × NumbersFit d
  NumbersFit (here d) = NumbersFit d
  NumbersFit (at_least ks t) = CoefficientsFit ks × (coefficients ks ≤ 1000) × (t ≤ 1000)

  pub CoefficientsFit : Products → Type 0
  CoefficientsFit none = Unit {0}
  CoefficientsFit (product c s ks) = (1 ≤ c) × NumbersFit s × CoefficientsFit ks

-- none of its sums has more than eight terms
abbrev mutual
  pub SumsShort : Tree → Type 0
  SumsShort (leaf b) = Unit {0}
  SumsShort (conj x y) = SumsShort x × SumsShort y
  SumsShort (neg x) = SumsShort x
  SumsShort (dia a d) = SumsShort d
  SumsShort (here d) = SumsShort d
  SumsShort (at_least ks t) = PartsShort ks × (count ks ≤ 8)

  pub PartsShort : Products → Type 0
  PartsShort none = Unit {0}
  PartsShort (product c s ks) = SumsShort s × PartsShort ks

-- the words begin the spelling of some tree that P holds of
abbrev pub Begin : (Tree → Type 0) → List (Option Token) → Type 0
Begin P ws = (t : Tree) × (more : List (Option Token)) × P t × (map Some (spell t) ≡ ws ++ more)

-- of some state term, whatever its numbers, sums and depth
abbrev pub BeginTerm : List (Option Token) → Type 0
BeginTerm ws = Begin (λ t. OfSort state t) ws

-- of one whose numbers are in their ranges
abbrev pub BeginFit : List (Option Token) → Type 0
BeginFit ws = Begin (λ t. OfSort state t × NumbersFit t) ws

-- of one whose sums have at most eight terms, and in which at most 64 parentheses are open at a time
abbrev pub BeginSmall : List (Option Token) → Type 0
BeginSmall ws = Begin (λ t. OfSort state t × SumsShort t × (depth t ≤ 64)) ws

-- what is wrong behind the words ws, where back are the words from there on and the text ends at stop
abbrev pub Wrong : ℕ → List (Option Token) → List Item → GrammarFault → Type 0
-- the text ends, and the words are no state term yet
Wrong stop ws [] f = (f ≡ Misplaced stop) × ((t : Tree) → OfSort state t → map Some (spell t) ≢ ws)
-- the next word is none of the language
Wrong stop ws (i ∷ back) (Word g) = (i.0 ≡ g.place) × (i.1 ≡ None)
-- no state term goes on with the next word
Wrong stop ws (i ∷ back) (Misplaced p) = (i.0 ≡ p) × ((t : Token) × (i.1 ≡ Some t)) × (BeginTerm (ws ++ (i.1 ∷ [])) → ⊥)
-- one does, and none with its numbers in their ranges
Wrong stop ws (i ∷ back) (OutOfRange p) =
    (i.0 ≡ p) × ((n : ℕ) × (i.1 ≡ Some (Numeral n))) × BeginTerm (ws ++ (i.1 ∷ [])) × (BeginFit (ws ++ (i.1 ∷ [])) → ⊥)
-- one does, and none with short sums and few open parentheses
Wrong stop ws (i ∷ back) (TooMany p) =
    (i.0 ≡ p) × (i.1 ≡ Some Open) × BeginTerm (ws ++ (i.1 ∷ [])) × (BeginSmall (ws ++ (i.1 ∷ [])) → ⊥)

-- where a text is refused: words that begin a state term, and what is wrong behind them
pub record Refusal (text : List ℕ) (f : GrammarFault) : Type 0 where
  pub front : List Item
  pub back : List Item
  pub split : items text 0 ≡ front ++ back
  pub begun : BeginTerm (tokens_of front)
  pub wrong : Wrong (length text) (tokens_of front) back f

pub record ReadingLaw : Type 0 where
  pub sound : (text : List ℕ) (s : Slots) (t : Tree) → reading text s ≡ Ok t → Accepts text s t
  pub complete : (text : List ℕ) (s : Slots) (t : Tree) → Accepts text s t → reading text s ≡ Ok t
  -- each token has one word, and a text spells a tree exactly when its words are those of the tree's tokens
  pub worded : (t : Token) → Small t → token_of (word t) ≡ Some t
  pub wording : (w : List ℕ) (t : Token) → Small t → token_of w ≡ Some t → w ≡ word t
  pub spells_bytes : (text : List ℕ) (t : Tree) → InRange t → Spells text t ↔ (parts text ≡ map word (spell t))
  pub refused : (text : List ℕ) (s : Slots) (f : GrammarFault) → reading text s ≡ Err (Text f) → Refusal text f
  -- the tables are too short for a text only if nothing else is wrong with it
  pub crowded : (text : List ℕ) (s : Slots) → reading text s ≡ Err Tables
      → (t : Tree) × Spells text t × Allowed t × (fits (fills (lay state 0 t)) s ≡ false)
  -- two trees never share a spelling
  pub unique : (x y : Tree) → spell x ≡ spell y → x ≡ y
  -- what is laid out is a formula, and so are the tables that hold it, whatever they held before
  pub stands_laid : (t : Tree) → Allowed t → stands (node_table 0 0 (lay state 0 t)) (term_table (lay state 0 t)) (alternative_table (lay state 0 t)) (below t) 1 ≡ true
  pub opens : (s : Slots) (t : Tree) → Allowed t
      → formula_in (fills (lay state 0 t)) (below t) 1 (laid (lay state 0 t) s).nodes (laid (lay state 0 t) s).terms (laid (lay state 0 t) s).alternatives ≡ true
