-- Two passes over a text.
use Rattle.std.proofs.Common.{◌≡◌, ℕ, ◌+◌, ◌<◌, ◌≤◌, Bool, true, false, cond, ◌&&◌, leb, List, [], length, is_err, IsErrAnd, Ok, Err, Result, sym, refl, ap, ◌∙◌, subst, ⊎_elim, zero-add, arith}
use Rattle.std.proofs.lemmas.Bool.{cases_Bool, leb-true, leb-false, lt-leb, and_parts, cond-true, cond-false}
use Rattle.formulas.specs.declared.draft.Draft.{Draft}
use Rattle.formulas.specs.declared.fault.GrammarFault.{GrammarFault}
use Rattle.formulas.specs.declared.fault.ReadFault.TheVariants.{Tables}
use Rattle.formulas.specs.declared.node.Fills.{Fills}
use Rattle.formulas.specs.declared.tables.Standing.{Standing}
use Rattle.formulas.specs.declared.words.Words.{Words}
use Rattle.formulas.specs.Append.{capped, raised, written}
use Rattle.formulas.specs.Grammar.{items, parse, finish, lone}
use Rattle.formulas.specs.Layout.{node_table, term_table, alternative_table, fills}
use Rattle.formulas.specs.Lines.{state}
use Rattle.formulas.specs.Productions.{a_term}
use Rattle.formulas.specs.Reading.{placed, reading, Reads}
use Rattle.formulas.specs.Tables.{Slots, takes, fits, over, laid}
use Rattle.formulas.specs.Readers.{Takes}
use Rattle.formulas.specs.Stores.{Store, holding, Small, Wrote, term_count, step_count}
use Rattle.formulas.specs.Trees.{Tree, below, lay}
use Rattle.formulas.specs.Whole.{empty, Whole, Ends}
use Rattle.formulas.proofs.Sizes.{length-node_table, length-lay, length-term_table, length-alternative_table}
use Rattle.formulas.proofs.Storing.{same-table, together}
use Rattle.formulas.proofs.Pasted.{written-front}

pub same_store : {a b : Store} → a.nodes.slots ≡ b.nodes.slots → a.nodes.fill ≡ b.nodes.fill → a.terms.slots ≡ b.terms.slots → a.terms.fill ≡ b.terms.fill → a.alternatives.slots ≡ b.alternatives.slots → a.alternatives.fill ≡ b.alternatives.fill → a ≡ b
same_store e f g h i j = together (same-table e f) (same-table g h) (same-table i j)

-- a pass that is refused
pub whole-refused : (o : Result Tree GrammarFault) (s after : Slots) {f : GrammarFault} (r : Result Standing GrammarFault) → o ≡ Err f → (is_err r ≡ true) × IsErrAnd r (λ y. y ≡ f) → Whole o s r after
whole-refused o s after (Ok x) e b = absurd b.1
whole-refused o s after (Err g) e b = e ∙ ap Err (sym b.1)

-- one pass
module _ {text : List ℕ} (w : Words) (same : w.text.now ≡ text) (start : w.pos ≡ 0) where
  parsed : parse text ≡ finish (a_term 64 state (length w.text.now) (items w.text.now w.pos))
  unfolding parse
  parsed = ap (λ u. finish (a_term 64 state (length u) (items u 0))) (sym same) ∙ ap (λ p. finish (a_term 64 state (length w.text.now) (items w.text.now p))) (sym start)

  pub parse-stopped : {s0 s1 : Store} {m : Words} {f : GrammarFault} → Takes 1 (a_term 64 state) (Wrote state s0 s1) w (Err f) m → parse text ≡ Err f
  parse-stopped h = parsed ∙ ap finish h.took

  module _ {s0 s1 : Store} {m : Words} {n : ℕ} (h : Takes 1 (a_term 64 state) (Wrote state s0 s1) w (Ok n) m) where
    parse-lone : parse text ≡ lone h.took.0 (items m.text.now m.pos)
    parse-lone = parsed ∙ ap finish h.took.1 ∙ ap (λ u. lone h.took.0 (items u.now m.pos)) (sym h.same)

    pub parse-stray : {f : GrammarFault} → Ends (items m.text.now m.pos) (Err f) → parse text ≡ Err f
    parse-stray e = parse-lone ∙ e h.took.0

    pub whole-done : {s after : Slots} {f : Fills} → s0 ≡ holding empty s → s1 ≡ holding f after → items m.text.now m.pos ≡ [] → Whole (parse text) s (Ok (record { fills = f; root = n })) after
    whole-done {s} {after} {f} a b e = (
      h.took.0,
      parse-lone ∙ ap (lone h.took.0) e,
      subst (λ z. Wrote state z (holding f after) h.took.0 n) a (subst (λ z. Wrote state s0 z h.took.0 n) b h.took.2),
    )

-- a count that stops serves the test as well as the count itself
takes-capped : (size f n : ℕ) → capped f ≡ raised 0 n → takes size f ≡ takes size n
takes-capped size f n e =
    ⊎_elim
    (λ h. let b = leb-true f 1048576 h in let same : f ≡ n = grind arith in ap (takes size) same)
    (λ h. let b = leb-false f 1048576 h in let large : 1048576 < n = grind arith in
    ap (λ x. leb f size && x) h ∙ and_false (leb f size) ∙ sym (and_false (leb n size)) ∙ ap (λ x. leb n size && x) (sym (lt-leb n 1048576 large)))
    (cases_Bool (leb f 1048576))
  where
    and_false : (b : Bool) → (b && false) ≡ false
    and_false true = refl
    and_false false = refl

module _ {t : Tree} {s after : Slots} {f : Fills} {n : ℕ} (w : Wrote state (holding empty s) (holding f after) t n) where
  fits-counted : (tables : Slots) → fits f tables ≡ fits (fills (lay state 0 t)) tables
  fits-counted tables =
      ap (λ b. b && (takes (length tables.terms) f.terms && takes (length tables.alternatives) f.alternatives))
      (takes-capped (length tables.nodes) f.nodes (below t + 1) w.counted.nodes ∙ ap (takes (length tables.nodes)) (sym (length-lay state 0 t)))
      ∙ ap (λ b. takes (length tables.nodes) (length (lay state 0 t)) && (b && takes (length tables.alternatives) f.alternatives))
      (takes-capped (length tables.terms) f.terms (term_count t) w.counted.terms ∙ ap (takes (length tables.terms)) (sym (length-term_table state 0 t)))
      ∙ ap (λ b. takes (length tables.nodes) (length (lay state 0 t)) && (takes (length tables.terms) (length (term_table (lay state 0 t))) && b))
      (takes-capped (length tables.alternatives) f.alternatives (step_count t) w.counted.alternatives ∙ ap (takes (length tables.alternatives)) (sym (length-alternative_table state 0 t)))

  -- the tables take the tree
  module _ (fit : fits (fills (lay state 0 t)) s ≡ true) where
    parts : (takes (length s.nodes) (length (lay state 0 t)) ≡ true) × (takes (length s.terms) (length (term_table (lay state 0 t))) ≡ true) × (takes (length s.alternatives) (length (alternative_table (lay state 0 t))) ≡ true)
    parts =
        let a = and_parts _ _ fit in
        let b = and_parts _ _ a.1 in
        (a.0, b.0, b.1)

    within : (size need : ℕ) → takes size need ≡ true → (need ≤ size) × (need ≤ 1048576)
    within size need e = let p = and_parts (leb need size) (leb need 1048576) e in (leb-true need size p.0, leb-true need 1048576 p.1)

    exactly : (g m : ℕ) → capped g ≡ raised 0 m → m ≤ 1048576 → g ≡ m
    exactly g m e h = grind arith

    counts : f ≡ fills (lay state 0 t)
    counts =
        let a = within (length s.nodes) (length (lay state 0 t)) parts.0 in
        let b = within (length s.terms) (length (term_table (lay state 0 t))) parts.1 in
        let c = within (length s.alternatives) (length (alternative_table (lay state 0 t))) parts.2 in
        let ln = length-lay state 0 t in
        let lt = length-term_table state 0 t in
        let la = length-alternative_table state 0 t in
        let x : f.nodes ≡ length (lay state 0 t) = exactly f.nodes (below t + 1) w.counted.nodes (omega arith) ∙ sym ln in
        let y : f.terms ≡ length (term_table (lay state 0 t)) = exactly f.terms (term_count t) w.counted.terms (omega arith) ∙ sym lt in
        let z : f.alternatives ≡ length (alternative_table (lay state 0 t)) = exactly f.alternatives (step_count t) w.counted.alternatives (omega arith) ∙ sym la in
        λ i. record { nodes = x i; terms = y i; alternatives = z i }

    small : Small (holding f after)
    small =
        let a = within (length s.nodes) (length (lay state 0 t)) parts.0 in
        let b = within (length s.terms) (length (term_table (lay state 0 t))) parts.1 in
        let c = within (length s.alternatives) (length (alternative_table (lay state 0 t))) parts.2 in
        let x : f.nodes ≡ length (lay state 0 t) = ap (λ g. g.nodes) counts in
        let y : f.terms ≡ length (term_table (lay state 0 t)) = ap (λ g. g.terms) counts in
        let z : f.alternatives ≡ length (alternative_table (lay state 0 t)) = ap (λ g. g.alternatives) counts in
        record { nodes = omega arith; terms = omega arith; alternatives = omega arith }

    table-laid : {X : Type 0} (old ys : List X) (m : ℕ) → length ys ≡ m → takes (length old) m ≡ true → written old 0 ys ≡ over ys old
    table-laid old ys m e h = let b = within (length old) m h in written-front ys old (omega arith) (omega arith)

    tables-laid : after ≡ laid (lay state 0 t) s
    tables-laid =
        let l = w.laid small in
        let ls = lay state 0 t in
        let x : after.nodes ≡ over (node_table 0 0 ls) s.nodes = ap (λ k. k.nodes.slots) l ∙ table-laid s.nodes (node_table 0 0 ls) (length ls) (length-node_table 0 0 ls) parts.0 in
        let y : after.terms ≡ over (term_table ls) s.terms = ap (λ k. k.terms.slots) l ∙ table-laid s.terms (term_table ls) (length (term_table ls)) refl parts.1 in
        let z : after.alternatives ≡ over (alternative_table ls) s.alternatives = ap (λ k. k.alternatives.slots) l ∙ table-laid s.alternatives (alternative_table ls) (length (alternative_table ls)) refl parts.2 in
        λ i. record { nodes = x i; terms = y i; alternatives = z i }

-- the first pass counts
module _ (text : List ℕ) (s : Slots) {x : Standing} {none any : Slots} (first : Whole (parse text) none (Ok x) any) where
  reads_as : reading text s ≡ cond (fits x.fills s) (Ok first.0) (Err Tables)
  reads_as = ap (placed s) first.1 ∙ ap (λ b. cond b (Ok first.0) (Err Tables)) (sym (fits-counted first.2 s))

  pub read_short : fits x.fills s ≡ false → Reads (reading text s) s (Err Tables) s
  read_short e = subst (λ o. Reads o s (Err Tables) s) (sym (reads_as ∙ cond-false (fits x.fills s) (Ok first.0) (Err Tables) e)) (refl, refl)

  -- the second writes
  pub read_done : {y : Standing} {after : Slots} (d : Draft) → fits x.fills s ≡ true → Whole (parse text) s (Ok y) after → d.fills ≡ y.fills → d.root ≡ y.root → Reads (reading text s) s (Ok d) after
  read_done {y} {after} d e second g r =
      let t = second.0 in
      let same : first.0 ≡ t = let a = first.1 in let b = second.1 in cc in
      let fit : fits (fills (lay state 0 t)) s ≡ true = ap (λ v. fits (fills (lay state 0 v)) s) (sym same) ∙ sym (fits-counted first.2 s) ∙ e in
      let w = second.2 in
      let read : reading text s ≡ Ok t = reads_as ∙ cond-true (fits x.fills s) (Ok first.0) (Err Tables) e ∙ ap Ok same in
      subst (λ o. Reads o s (Ok d) after) (sym read) (g ∙ counts w fit, r ∙ w.number (small w fit) ∙ zero-add (below t), tables-laid w fit)
