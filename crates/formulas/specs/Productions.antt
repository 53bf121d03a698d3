-- The grammar, production by production: each by how many more parentheses may open, and by where the text ends.
use Rattle.std.specs.Prelude.{ℕ, ◌-◌, List}
use Rattle.formulas.specs.declared.sort.Sort as sorts
use Rattle.formulas.specs.declared.token.Lexeme.{Lexeme}
use Rattle.formulas.specs.Grammar.{Item, Out, then, number, closed, headed, sum_headed, factor, alone, several, term, sum, quantity, element}
use Rattle.formulas.specs.Lines.{Sort, state, dist}
use Rattle.formulas.specs.Trees.{Tree, conj, neg, dia, here, at_least, Products}

-- the sort that a reader was asked for
abbrev pub sort_of : sorts.Sort → Sort
sort_of sorts.TheVariants.State = state
sort_of sorts.TheVariants.Dist = dist

abbrev pub a_term : ℕ → Sort → ℕ → List Item → Out Tree
a_term room σ stop ws = term stop room σ ws

-- a term behind its parenthesis and its first token x
abbrev pub inside : ℕ → Sort → Lexeme → ℕ → List Item → Out Tree
inside room σ x stop ws = headed stop (λ τ l. term stop room τ l) (λ l. sum stop room l) σ x ws

-- the five kinds, behind their first token
abbrev pub pair : ℕ → Sort → ℕ → List Item → Out Tree
pair room σ stop ws = then (a_term room σ stop ws) (λ a r. then (a_term room σ stop r) (λ b s. closed stop (conj a b) s))

abbrev pub negation : ℕ → Sort → ℕ → List Item → Out Tree
negation room σ stop ws = then (a_term room σ stop ws) (λ a r. closed stop (neg a) r)

abbrev pub diamond : ℕ → ℕ → List Item → Out Tree
diamond room stop ws = then (number 0 31 stop ws) (λ n r. then (a_term room dist stop r) (λ d s. closed stop (dia n d) s))

abbrev pub standing : ℕ → ℕ → List Item → Out Tree
standing room stop ws = then (a_term room dist stop ws) (λ d r. closed stop (here d) r)

abbrev pub a_sum : ℕ → ℕ → List Item → Out Products
a_sum room stop ws = sum stop room ws

abbrev pub threshold : ℕ → ℕ → List Item → Out Tree
threshold room stop ws = then (a_sum room stop ws) (λ ks r. then (number 0 1000 stop r) (λ n s. closed stop (at_least ks n) s))

abbrev pub a_quantity : ℕ → ℕ → List Item → Out Tree
a_quantity room stop ws = quantity stop room ws

-- a sum behind its parenthesis and its first token x
abbrev pub sum_inside : ℕ → Lexeme → ℕ → List Item → Out Products
sum_inside room x stop ws = sum_headed stop (λ l. quantity stop room l) (λ z left l. element stop room z left l) x ws

-- a product whose coefficient is at most left, behind its `*`
abbrev pub a_product : ℕ → ℕ → ℕ → List Item → Out (ℕ × Tree)
a_product room left stop ws = factor stop (λ l. quantity stop room l) left ws

abbrev pub one_product : ℕ → ℕ → List Item → Out Products
one_product room stop ws = alone (a_product room 1000 stop ws)

-- the products behind count others
abbrev pub products : ℕ → ℕ → ℕ → ℕ → List Item → Out Products
products room count left stop ws = several stop (λ z n l. element stop room z n l) (8 - count) left ws

abbrev pub an_element : ℕ → Lexeme → ℕ → ℕ → List Item → Out (ℕ × Tree)
an_element room x left stop ws = element stop room x left ws
