-- Without move alternatives, a simplified formula is one line, yes or no.
use Rattle.std.proofs.Common.{◌≡◌, ℕ, ◌-◌, ◌<◌, ◌≤◌, Bool, true, false, cond, not, ◌||◌, ◌⊎◌, List, [], ◌∷◌, ◌++◌, map, length, filter, sym, refl, ap, ◌∙◌, subst, inl, inr, true≢false, arith}
use Rattle.std.specs.List.{AllByRecursion}
use Rattle.std.proofs.ByRecursion.{All-weaker}
use Rattle.std.proofs.lemmas.Bool.{cases_lt}
use Rattle.formulas.specs.declared.node.Term.{Term}
use Rattle.formulas.specs.Lines.{Sort, state, Line, constant, both, non, step, sum, sort, Formula}
use Rattle.formulas.specs.WellFormed.{line_at, WellFormed}
use Rattle.simplification.specs.Simplify.{parts, coefficients, Tone, yes, no, neither, tone, tone_of, is_yes, is_no, is_neither, Outcome, alternatives_left, has_yes, retarget, terms_left, settle, kept, place, renumber, prune}
use Rattle.simplification.specs.Laws.{moving, only, SettlesLaw}
use Rattle.simplification.proofs.Lists.{all_back, strong}
use Rattle.simplification.proofs.Outcomes.{Ordered, outcome, shrunk, Stays, Turn, settled, first, second, stays, by_turns, lines-length, lines_get, lines-ordered}
use Rattle.simplification.proofs.Prune.{kept-root, kept-parts, kept-only, rank-back, pruned_get, pruned_length, place-within}
use Rattle.simplification.proofs.Forms.{fitting_ordered, settle_form}

abbrev Const : Tone → Type 0
Const yes = Unit {0}
Const no = Unit {0}
Const neither = ⊥

-- a line without move alternatives, all of whose parts are constant, is constant
module _ (E : ℕ → Outcome) where
  abbrev Live : Line → Type 0
  Live l = moving l ≡ false → AllByRecursion (λ j. Const (tone_of E j)) (parts l) → Const (tone l)

  abbrev Open : ℕ → Type 0
  Open j = Const (tone_of E j) → ⊥

  abbrev Stable : ℕ → Type 0
  Stable j = E (E j).to ≡ E j

  back : (j : ℕ) → Stable j → Const (tone_of E (E j).to) → Const (tone_of E j)
  back j s c = subst (λ (x : Outcome). Const (tone x.line)) s c

  -- what is left of a step's here alternatives and of a sum's terms is neither yes nor no
  left_open : (ds : List ℕ) → AllByRecursion Stable ds → has_yes E ds ≡ false → AllByRecursion Open (alternatives_left E ds)
  left_open [] h e = tt
  left_open (d ∷ ds) h e = go (tone_of E d) (back d h.0) e (left_open ds h.1)
    where
      rest : List ℕ
      rest = filter (λ d. not (is_no (tone_of E d))) ds

      go : (o : Tone) → (Const (tone_of E (E d).to) → Const o) → (is_yes o || has_yes E ds) ≡ false → (has_yes E ds ≡ false → AllByRecursion Open (map (λ d. (E d).to) rest))
          → AllByRecursion Open (map (λ d. (E d).to) (cond (not (is_no o)) (d ∷ rest) rest))
      go yes f e r = absurd (true≢false e)
      go no f e r = r e
      go neither f e r = (f, r e)

  terms_open : (ks : List Term) → AllByRecursion Stable (map (λ k. k.node) ks) → AllByRecursion Open (map (λ k. k.node) (terms_left E ks))
  terms_open [] h = tt
  terms_open (k ∷ ks) h = go (tone_of E k.node) (back k.node h.0) (terms_open ks h.1)
    where
      rest : List Term
      rest = filter (λ k. is_neither (tone_of E k.node)) ks

      go : (o : Tone) → (Const (tone_of E (E k.node).to) → Const o) → AllByRecursion Open (map (λ k. k.node) (map (retarget (λ j. (E j).to)) rest))
          → AllByRecursion Open (map (λ k. k.node) (map (retarget (λ j. (E j).to)) (cond (is_neither o) (k ∷ rest) rest)))
      go yes f r = r
      go no f r = r
      go neither f r = (f, r)

  step_live : (a : ℕ) (ms hs : List ℕ) → (ms ++ hs ≡ [] → ⊥) → AllByRecursion Open hs → Live (step a ms hs)
  step_live a [] [] s o q c = s refl
  step_live a [] (x ∷ hs) s o q c = o.0 c.0
  step_live a (m ∷ ms) hs s o q c = absurd (true≢false q)

  sum_live : (t : ℕ) (ks : List Term) → (t ≡ 0 → ⊥) → t ≤ coefficients ks → AllByRecursion Open (map (λ k. k.node) ks) → Live (sum t ks)
  sum_live t [] z e o q c = z (omega arith)
  sum_live t (k ∷ ks) z e o q c = o.0 c.0

  stays_live : (l : Line) → Stays E l → AllByRecursion Stable (parts l) → Live (shrunk E l)
  stays_live (constant σ b) s h q c = absurd s
  stays_live (both σ i j) s h q c = subst Const s (back i h.0 c.0)
  stays_live (non σ i) s h q c = subst Const s (back i h.0 c.0)
  stays_live (step a ms hs) s h q c =
      step_live a (alternatives_left E ms) (alternatives_left E hs) s.1 (left_open hs (all_back Stable ms hs h) s.0) q c
  stays_live (sum t ks) s h q c = sum_live (t - _) (terms_left E ks) s.0 s.1 (terms_open ks h) q c

  turn_live : (n : ℕ) (l : Line) (x : Outcome) → Turn n E l x → AllByRecursion (λ j. Live (E j).line) (parts l) → AllByRecursion Stable (parts l) → Live x.line
  turn_live n l x (settled true) h s q c = tt
  turn_live n l x (settled false) h s q c = tt
  turn_live n l x first h s q c = h.0 q c
  turn_live n l x second h s q c = h.1.0 q c
  turn_live n l x (stays t) h s q c = stays_live l t s q c

lives : (ls : List Line) → Ordered ls → (i : ℕ) → i < length ls → Live (outcome ls) (outcome ls i).line
lives ls o = by_turns ls o (λ n x. Live (outcome ls) x.line) (λ n h f x t.
    let l : Line = line_at ls n in
    turn_live (outcome ls) n l x t
    (All-weaker (λ j. j < n) (λ j. Live (outcome ls) (outcome ls j).line) (λ j k. (f j k).1) (parts l) (o n h))
    (All-weaker (λ j. j < n) (λ j. outcome ls (outcome ls j).to ≡ outcome ls j) (λ j k. (f j k).0.stable) (parts l) (o n h)))

moving-renumber : (f : ℕ → ℕ) (l : Line) → moving (renumber f l) ≡ moving l
moving-renumber f (constant σ b) = refl
moving-renumber f (both σ i j) = refl
moving-renumber f (non σ i) = refl
moving-renumber f (step a [] hs) = refl
moving-renumber f (step a (m ∷ ms) hs) = refl
moving-renumber f (sum t ks) = refl

one_line : (ls : List Line) (l : Line) → length ls ≡ 1 → line_at ls 0 ≡ l → ls ≡ l ∷ []
one_line [] l h e = absurd (omega arith)
one_line (x ∷ []) l h e = ap (λ (y : Line). y ∷ []) e
one_line (x ∷ (y ∷ ys)) l h e = absurd (omega arith)

-- a constant root reaches itself alone
prune-alone : (F : Formula) (b : Bool) → F.root < length F.lines → line_at F.lines F.root ≡ constant state b → prune F ≡ only b
prune-alone F b h e =
    let alone : (i : ℕ) → kept F i ≡ true → i ≡ F.root =
    kept-only (λ i. i ≡ F.root) F refl (λ i k q. subst (λ (l : Line). AllByRecursion (λ j. j ≡ F.root) (parts l)) (sym (ap (line_at F.lines) q ∙ e)) tt) in
    let lowest : place F F.root ≡ 0 = go (cases_lt 0 (place F F.root)) alone in
    let long : length (prune F).lines ≡ 1 = last (cases_lt 1 (length (prune F).lines)) alone lowest in
    let line : line_at (prune F).lines 0 ≡ constant state b =
    ap (line_at (prune F).lines) (sym lowest) ∙ (pruned_get F F.root h (kept-root F) ∙ ap (renumber (place F)) e) in
    λ i. record { lines = one_line (prune F).lines (constant state b) long line i; root = lowest i }
  where
    go : (0 < place F F.root) ⊎ (place F F.root ≤ 0) → ((i : ℕ) → kept F i ≡ true → i ≡ F.root) → place F F.root ≡ 0
    go (inl p) alone = let r = rank-back (kept F) F.root 0 p in absurd (omega (arith, r.1, alone r.0 r.2))
    go (inr p) alone = omega arith

    last : (1 < length (prune F).lines) ⊎ (length (prune F).lines ≤ 1) → ((i : ℕ) → kept F i ≡ true → i ≡ F.root) → place F F.root ≡ 0 → length (prune F).lines ≡ 1
    last (inl p) alone z =
        let r = rank-back (kept F) (length F.lines) 1 (omega (arith, pruned_length F)) in
        absurd (omega (arith, r.3, ap (place F) (alone r.0 r.2)))
    last (inr p) alone z = omega (arith, place-within F F.root h (kept-root F))

constant-state : (l : Line) → Const (tone l) → sort l ≡ state → (l ≡ constant state true) ⊎ (l ≡ constant state false)
constant-state (constant σ true) c s = inl (ap (λ (σ : Sort). constant σ true) s)
constant-state (constant σ false) c s = inr (ap (λ (σ : Sort). constant σ false) s)
constant-state (both σ i j) c s = absurd c
constant-state (non σ i) c s = absurd c
constant-state (step a ms hs) c s = absurd c
constant-state (sum t ks) c s = absurd c

pub settles : SettlesLaw
settles F w still =
    let ls : List Line = F.lines in
    let o : Ordered ls = fitting_ordered ls w.lines in
    let G : Formula = settle F in
    let v : WellFormed G = settle_form F w in
    let consts : (i : ℕ) → i < length G.lines → kept G i ≡ true → Const (tone_of (outcome ls) i) =
    strong (λ i. i < length G.lines → kept G i ≡ true → Const (tone_of (outcome ls) i)) (λ n f h k.
    let l : Line = line_at G.lines n in
    let e : l ≡ (outcome ls n).line = lines_get ls n in
    let m : moving l ≡ false =
    sym (moving-renumber (place G) l) ∙ (ap moving (sym (pruned_get G n h k)) ∙ still (place G n) (place-within G n h k)) in
    let p : AllByRecursion (λ j. Const (tone_of (outcome ls) j)) (parts l) =
    All-weaker (λ j. (kept G j ≡ true) × (j < n)) (λ j. Const (tone_of (outcome ls) j)) (λ j x. f j x.1 (omega (arith, x.1)) x.0) (parts l)
    (kept-parts G (lines-ordered ls o) n h k) in
    subst (λ (x : Line). Const (tone x)) e (subst (Live (outcome ls)) (sym e) (lives ls o n (omega (arith, lines-length ls))) m p)) in
    let root : Const (tone (line_at G.lines G.root)) =
    subst (λ (x : Line). Const (tone x)) (sym (lines_get ls G.root)) (consts G.root v.root.before (kept-root G)) in
    finish G (constant-state (line_at G.lines G.root) root v.root.sorted) v.root.before
  where
    finish : (G : Formula) → (line_at G.lines G.root ≡ constant state true) ⊎ (line_at G.lines G.root ≡ constant state false) → G.root < length G.lines
        → (prune G ≡ only true) ⊎ (prune G ≡ only false)
    finish G (inl e) h = inl (prune-alone G true h e)
    finish G (inr e) h = inr (prune-alone G false h e)
