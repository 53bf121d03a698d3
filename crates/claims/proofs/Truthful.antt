-- What is computed from tables that hold truths is a truth.
use Rattle.std.proofs.Common.{◌≡◌, ℕ, ◌+◌, ◌*◌, ◌<◌, ◌≤◌, Bool, true, false, cond, not, ◌&&◌, eqb, leb, List, [], ◌∷◌, length, get_or, sum_by, sym, refl, ap, ◌∙◌, ap₂, mul-le-mul_right, mul_assoc, add-mul, one-mul, arith}
use Rattle.std.specs.Int.{from_bool}
use Rattle.std.specs.List.{AllByRecursion}
use Rattle.std.proofs.ByRecursion.{All-weaker}
use Rattle.std.proofs.lemmas.List.Sums.{sum_by-cons}
use Rattle.std.proofs.lemmas.Bool.{eq-eqb, ne_eqb}
use Rattle.std.proofs.lemmas.Nat.{div-add-mod'}
use Rattle.systems.specs.Meaning.{Meaning, Move}
use Rattle.formulas.specs.declared.node.Node.{Node}
use Rattle.formulas.specs.declared.node.Node.TheVariants.{State, Dist}
use Rattle.formulas.specs.declared.node.StateNode as sn
use Rattle.formulas.specs.declared.node.DistNode as dn
use Rattle.formulas.specs.declared.node.Run.{Run}
use Rattle.formulas.specs.declared.node.Term.{Term}
use Rattle.formulas.specs.Lines.{line, entries}
use Rattle.formulas.specs.Right.{Right, RightSum}
use Rattle.formulas.specs.Truths.{weigh, total, holds_at, holds_of, at_node, of_node}
use Rattle.formulas.specs.declared.tables.Tables.{Tables}
use Rattle.claims.specs.Verdicts.{byte}
use Rattle.claims.specs.Sums.{lit, RowAt, ReadySum}
use Rattle.claims.specs.Rows.{lit_row, parts, no_node, Parted, Ready}
use Rattle.claims.specs.Boards.{truths_in, most_removed, Sits, Agrees}

-- a truth as a byte
pub bool_byte : (b : Bool) (x : ℕ) → x ≡ from_bool b → x ≡ byte b
bool_byte true x e = e
bool_byte false x e = e

pub byte-lit : (b : Bool) (x : ℕ) → x ≡ byte b → eqb x 1 ≡ b
byte-lit true x e = eq-eqb x 1 e
byte-lit false x e = ne_eqb x 1 (λ h. omega arith)

weigh-same : (n : ℕ) (f g : ℕ → Bool) → ((s : ℕ) → s < n → f s ≡ g s) → (mv : Move) → AllByRecursion (λ u. u.state < n) mv → weigh f mv ≡ weigh g mv
weigh-same n f g e [] a = refl
weigh-same n f g e (u ∷ mv) a =
    sum_by-cons (λ v. cond (f v.state) v.weight 0) u mv
    ∙ ap₂ (λ x y. cond x u.weight 0 + y) (e u.state a.0) (weigh-same n f g e mv a.1)
    ∙ sym (sum_by-cons (λ v. cond (g v.state) v.weight 0) u mv)

total-same : (n j : ℕ) (f g : ℕ → ℕ → Bool) → ((i s : ℕ) → i < j → s < n → f i s ≡ g i s) → (mv : Move) → AllByRecursion (λ u. u.state < n) mv → (ks : List Term) → AllByRecursion (λ k. k.node < j) ks → total f ks mv ≡ total g ks mv
total-same n j f g e mv a [] b = refl
total-same n j f g e mv a (k ∷ ks) b =
    sum_by-cons (λ u. u.coefficient * weigh (f u.node) mv) k ks
    ∙ ap₂ (λ x y. k.coefficient * x + y) (weigh-same n (f k.node) (g k.node) (λ s l. e k.node s b.0 l) mv a) (total-same n j f g e mv a ks b.1)
    ∙ sym (sum_by-cons (λ u. u.coefficient * weigh (g u.node) mv) k ks)

module _ (M : Meaning) (t : Tables) (table : List ℕ) (j : ℕ) (agrees : Agrees M (truths_in M t) table j) where
  lit-same : (i s : ℕ) → i < j → s < M.states → lit table M.states i s ≡ at_node (truths_in M t) i s
  lit-same i s h l = byte-lit (at_node (truths_in M t) i s) _ (agrees i s h l)

  of-same : (m : ℕ) (mv : Move) → AllByRecursion (λ u. u.state < M.states) mv → (row : List ℕ) (n : Node) → Right t.terms.now t.alternatives.now m j n → AllByRecursion (λ p. get_or row p 0 ≡ byte (of_node (truths_in M t) p mv)) (parts n) → holds_of M (lit table M.states) (λ d _. lit_row row d) (line t.terms.now t.alternatives.now n) mv ≡ holds_of M (at_node (truths_in M t)) (of_node (truths_in M t)) (line t.terms.now t.alternatives.now n) mv
  of-same m mv w row (State sn.TheVariants.Yes) r a = refl
  of-same m mv w row (State sn.TheVariants.No) r a = refl
  of-same m mv w row (State (sn.TheVariants.And i k)) r a = refl
  of-same m mv w row (State (sn.TheVariants.Not i)) r a = refl
  of-same m mv w row (State (sn.TheVariants.Step x ms hs)) r a = refl
  of-same m mv w row (Dist dn.TheVariants.Yes) r a = refl
  of-same m mv w row (Dist dn.TheVariants.No) r a = refl
  of-same m mv w row (Dist (dn.TheVariants.And i k)) r a = ap₂ ◌&&◌ (byte-lit (of_node (truths_in M t) i mv) _ a.0) (byte-lit (of_node (truths_in M t) k mv) _ a.1.0)
  of-same m mv w row (Dist (dn.TheVariants.Not i)) r a = ap not (byte-lit (of_node (truths_in M t) i mv) _ a.0)
  of-same m mv w row (Dist (dn.TheVariants.Sum x k)) r a = ap (leb (x * M.mass)) (total-same M.states j (lit table M.states) (at_node (truths_in M t)) lit-same mv w (entries t.terms.now k) r.below)

  at_same : (m s : ℕ) → s < M.states → (n : Node) → Right t.terms.now t.alternatives.now m j n → holds_at M (lit table M.states) (of_node (truths_in M t)) (line t.terms.now t.alternatives.now n) s ≡ holds_at M (at_node (truths_in M t)) (of_node (truths_in M t)) (line t.terms.now t.alternatives.now n) s
  at_same m s l (State sn.TheVariants.Yes) r = refl
  at_same m s l (State sn.TheVariants.No) r = refl
  at_same m s l (State (sn.TheVariants.And i k)) r = ap₂ ◌&&◌ (lit-same i s r.0 l) (lit-same k s r.1 l)
  at_same m s l (State (sn.TheVariants.Not i)) r = ap not (lit-same i s r l)
  at_same m s l (State (sn.TheVariants.Step x ms hs)) r = refl
  at_same m s l (Dist dn.TheVariants.Yes) r = refl
  at_same m s l (Dist dn.TheVariants.No) r = refl
  at_same m s l (Dist (dn.TheVariants.And i k)) r = refl
  at_same m s l (Dist (dn.TheVariants.Not i)) r = refl
  at_same m s l (Dist (dn.TheVariants.Sum x k)) r = refl

  -- node j on a move, from its parts in the row; and in a state
  module _ (sits : Sits M t) (h : j < length t.nodes.now) where
    pub move-is : (mv : Move) → AllByRecursion (λ u. u.state < M.states) mv → (row : List ℕ) → AllByRecursion (λ p. get_or row p 0 ≡ byte (of_node (truths_in M t) p mv)) (parts (get_or t.nodes.now j no_node)) → holds_of M (lit table M.states) (λ d _. lit_row row d) (line t.terms.now t.alternatives.now (get_or t.nodes.now j no_node)) mv ≡ of_node (truths_in M t) j mv
    move-is mv w row a =
        of-same (most_removed M) mv w row (get_or t.nodes.now j no_node) (sits.right j no_node h) a ∙ sym (ap (λ u. u.of mv) (sits.solved j no_node h))

    pub state-is : (s : ℕ) → s < M.states → holds_at M (lit table M.states) (of_node (truths_in M t)) (line t.terms.now t.alternatives.now (get_or t.nodes.now j no_node)) s ≡ at_node (truths_in M t) j s
    state-is s l = at_same (most_removed M) s l (get_or t.nodes.now j no_node) (sits.right j no_node h) ∙ sym (ap (λ u. u.at s) (sits.solved j no_node h))

-- the parts of a node that is right come before it
parts-before : (ts : List Term) (alts : List ℕ) (m i : ℕ) (n : Node) → Right ts alts m i n → AllByRecursion (λ p. p < i) (parts n)
parts-before ts alts m i (State x) r = tt
parts-before ts alts m i (Dist dn.TheVariants.Yes) r = tt
parts-before ts alts m i (Dist dn.TheVariants.No) r = tt
parts-before ts alts m i (Dist (dn.TheVariants.And j k)) r = (r.0, (r.1, tt))
parts-before ts alts m i (Dist (dn.TheVariants.Not j)) r = (r, tt)
parts-before ts alts m i (Dist (dn.TheVariants.Sum x k)) r = tt

pub sits_parted : (M : Meaning) (t : Tables) → Sits M t → Parted t.nodes.now
sits_parted M t sits k h = parts-before t.terms.now t.alternatives.now (most_removed M) k (get_or t.nodes.now k no_node) (sits.right k no_node h)

pub row_at : (n size i j : ℕ) → i * n ≤ size → j < i → RowAt n size j
row_at n size i j rows h = omega (arith, mul-le-mul_right n h, add-mul j 1 n, one-mul n)

-- a node that is right can be evaluated where the tables are long enough
module _ (M : Meaning) (i size len : ℕ) (rows : i * M.states ≤ size) (long : i ≤ len) where
  scaled : (x : ℕ) → x ≤ 1000 * most_removed M → x * M.mass ≤ 1000000000000000000
  scaled x h = omega (arith, mul-le-mul_right M.mass h, mul_assoc 1000 (most_removed M) M.mass, div-add-mod' 1000000000000000 M.mass)

  ready-sum : (ts : List Term) (j x : ℕ) (r : Run) → j ≤ i → RightSum ts (most_removed M) j x r → ReadySum M size ts x r
  ready-sum ts j x r h right = record {
    within = right.within;
    low = scaled x right.low;
    terms = record {
      room = All-weaker (λ k. k.node < j) (λ k. RowAt M.states size k.node) (λ k l. row_at M.states size i k.node rows (omega arith)) (entries ts r) right.below;
      light = scaled (sum_by (λ k. k.coefficient) (entries ts r)) right.light;
    };
  }

  pub ready : (ts : List Term) (alts : List ℕ) (j : ℕ) (n : Node) → j ≤ i → Right ts alts (most_removed M) j n → Ready M size len ts n
  ready ts alts j (State x) h r = tt
  ready ts alts j (Dist dn.TheVariants.Yes) h r = tt
  ready ts alts j (Dist dn.TheVariants.No) h r = tt
  ready ts alts j (Dist (dn.TheVariants.And p q)) h r = (omega (arith, r.0), omega (arith, r.1))
  ready ts alts j (Dist (dn.TheVariants.Not p)) h r = omega (arith, r)
  ready ts alts j (Dist (dn.TheVariants.Sum x k)) h r = ready-sum ts j x k h r
