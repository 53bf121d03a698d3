-- How many lines, terms and alternatives a tree has, and the tables of lines one after another.
use Rattle.std.proofs.Common.{◌≡◌, ℕ, suc, ◌+◌, List, [], ◌∷◌, ◌++◌, length, sym, refl, ap, ◌∙◌, append_assoc, add-zero, add_assoc, arith, length-append}
use Rattle.formulas.specs.Layout.{node, terms_in, alternatives_in, node_table, term_table, alternative_table}
use Rattle.formulas.specs.Lines.{Sort, state, dist, Line}
use Rattle.formulas.specs.Stores.{term_count, term_counts, step_count, step_counts}
use Rattle.formulas.specs.Trees.{Tree, leaf, conj, neg, dia, here, at_least, Products, none, product, below, below_products, count, terms, lay, lay_products}

pub term_table-++ : (ls ms : List Line) → term_table (ls ++ ms) ≡ term_table ls ++ term_table ms
term_table-++ [] ms = refl
term_table-++ (l ∷ ls) ms = ap (λ r. terms_in l ++ r) (term_table-++ ls ms) ∙ sym (append_assoc (terms_in l) (term_table ls) (term_table ms))

pub alternative_table-++ : (ls ms : List Line) → alternative_table (ls ++ ms) ≡ alternative_table ls ++ alternative_table ms
alternative_table-++ [] ms = refl
alternative_table-++ (l ∷ ls) ms = ap (λ r. alternatives_in l ++ r) (alternative_table-++ ls ms) ∙ sym (append_assoc (alternatives_in l) (alternative_table ls) (alternative_table ms))

pub length-node_table : (t a : ℕ) (ls : List Line) → length (node_table t a ls) ≡ length ls
length-node_table t a [] = refl
length-node_table t a (l ∷ ls) = ap (λ n. suc n) (length-node_table (t + length (terms_in l)) (a + length (alternatives_in l)) ls)

pub node_table-++ : (t a : ℕ) (ls ms : List Line) → node_table t a (ls ++ ms) ≡ node_table t a ls ++ node_table (t + length (term_table ls)) (a + length (alternative_table ls)) ms
node_table-++ t a [] ms = simp add-zero
node_table-++ t a (l ∷ ls) ms =
    ap (λ r. node t a l ∷ r) (node_table-++ (t + length (terms_in l)) (a + length (alternatives_in l)) ls ms
    ∙ simp (length-append, add_assoc))

mutual
  pub length-lay : (σ : Sort) (n : ℕ) (x : Tree) → length (lay σ n x) ≡ below x + 1
  length-lay σ n (leaf b) = refl
  length-lay σ n (conj x y) = simp length-append (omega (arith, length-lay σ n x, length-lay σ (n + below x + 1) y))
  length-lay σ n (neg x) = simp length-append (omega (arith, length-lay σ n x))
  length-lay σ n (dia a d) = simp length-append (omega (arith, length-lay dist n d))
  length-lay σ n (here d) = simp length-append (omega (arith, length-lay dist n d))
  length-lay σ n (at_least ks t) = simp length-append (omega (arith, length-lay_products n ks))

  length-lay_products : (n : ℕ) (ks : Products) → length (lay_products n ks) ≡ below_products ks
  length-lay_products n none = refl
  length-lay_products n (product c s ks) = simp length-append (omega (arith, length-lay state n s, length-lay_products (n + below s + 1) ks))

length-terms : (n : ℕ) (ks : Products) → length (terms n ks) ≡ count ks
length-terms n none = refl
length-terms n (product c s ks) = omega (arith, length-terms (n + below s + 1) ks)

mutual
  pub length-term_table : (σ : Sort) (n : ℕ) (x : Tree) → length (term_table (lay σ n x)) ≡ term_count x
  length-term_table σ n (leaf b) = refl
  length-term_table σ n (conj x y) = simp (term_table-++, length-append) (omega (arith, length-term_table σ n x, length-term_table σ (n + below x + 1) y))
  length-term_table σ n (neg x) = simp (term_table-++, length-append) (omega (arith, length-term_table σ n x))
  length-term_table σ n (dia a d) = simp (term_table-++, length-append) (omega (arith, length-term_table dist n d))
  length-term_table σ n (here d) = simp (term_table-++, length-append) (omega (arith, length-term_table dist n d))
  length-term_table σ n (at_least ks t) = simp (term_table-++, length-append) (omega (arith, length_term_tables n ks, length-terms n ks))

  length_term_tables : (n : ℕ) (ks : Products) → length (term_table (lay_products n ks)) ≡ term_counts ks
  length_term_tables n none = refl
  length_term_tables n (product c s ks) = simp (term_table-++, length-append) (omega (arith, length-term_table state n s, length_term_tables (n + below s + 1) ks))

mutual
  pub length-alternative_table : (σ : Sort) (n : ℕ) (x : Tree) → length (alternative_table (lay σ n x)) ≡ step_count x
  length-alternative_table σ n (leaf b) = refl
  length-alternative_table σ n (conj x y) = simp (alternative_table-++, length-append) (omega (arith, length-alternative_table σ n x, length-alternative_table σ (n + below x + 1) y))
  length-alternative_table σ n (neg x) = simp (alternative_table-++, length-append) (omega (arith, length-alternative_table σ n x))
  length-alternative_table σ n (dia a d) = simp (alternative_table-++, length-append) (omega (arith, length-alternative_table dist n d))
  length-alternative_table σ n (here d) = simp (alternative_table-++, length-append) (omega (arith, length-alternative_table dist n d))
  length-alternative_table σ n (at_least ks t) = simp (alternative_table-++, length-append) (omega (arith, length_alternative_tables n ks))

  length_alternative_tables : (n : ℕ) (ks : Products) → length (alternative_table (lay_products n ks)) ≡ step_counts ks
  length_alternative_tables n none = refl
  length_alternative_tables n (product c s ks) = simp (alternative_table-++, length-append) (omega (arith, length-alternative_table state n s, length_alternative_tables (n + below s + 1) ks))
