-- What a program that simplifies in place asks of the definitions.
use Rattle.std.proofs.Common.{◌≡◌, ℕ, suc, ◌+◌, ◌<◌, ◌≤◌, Bool, true, false, cond, List, [], ◌∷◌, ◌++◌, length, take, drop, sym, refl, ap, ◌∙◌, subst, ap₂, add-one, arith, length-take}
use Rattle.std.specs.List.{AllByRecursion}
use Rattle.std.proofs.ByRecursion.{All-weaker}
use Rattle.std.proofs.lemmas.List.{take_more, drop_more}
use Rattle.formulas.specs.Lines.{state, Line, constant, Formula}
use Rattle.formulas.specs.WellFormed.{line_at}
use Rattle.simplification.specs.Simplify.{parts, Outcome, member, reached, kept, rank, place, renumber, compact, prune, settle, simplify}
use Rattle.simplification.proofs.Outcomes.{Ordered, outcome, shrunk-parts, Turn, settled, first, second, stays, placed, by_turns, lines-length, lines_get}
use Rattle.simplification.proofs.Prune.{member_back, kept-only, compact-length}

-- the parts of what lines become stand for themselves
turn_fixed : (n : ℕ) (E : ℕ → Outcome) (l : Line) (x : Outcome) → Turn n E l x → AllByRecursion (λ j. AllByRecursion (λ k. (E k).to ≡ k) (parts (E j).line)) (parts l)
    → AllByRecursion (λ j. (E (E j).to).to ≡ (E j).to) (parts l) → AllByRecursion (λ k. (E k).to ≡ k) (parts x.line)
turn_fixed n E l x (settled b) h s = tt
turn_fixed n E l x first h s = h.0
turn_fixed n E l x second h s = h.1.0
turn_fixed n E l x (stays t) h s = shrunk-parts E (λ k. (E k).to ≡ k) l s

fixed : (ls : List Line) → Ordered ls → (i : ℕ) → i < length ls → AllByRecursion (λ k. (outcome ls k).to ≡ k) (parts (outcome ls i).line)
fixed ls o = by_turns ls o (λ n x. AllByRecursion (λ k. (outcome ls k).to ≡ k) (parts x.line)) (λ n h f x t.
    let l : Line = line_at ls n in
    turn_fixed n (outcome ls) l x t
    (All-weaker (λ j. j < n) (λ j. AllByRecursion (λ k. (outcome ls k).to ≡ k) (parts (outcome ls j).line)) (λ j k. (f j k).1) (parts l) (o n h))
    (All-weaker (λ j. j < n) (λ j. (outcome ls (outcome ls j).to).to ≡ (outcome ls j).to) (λ j k. ap (λ (y : Outcome). y.to) (f j k).0.stable) (parts l) (o n h)))

-- only lines that stand for themselves are kept
kept_fixed : (F : Formula) → Ordered F.lines → F.root < length F.lines → (i : ℕ) → kept (settle F) i ≡ true → (outcome F.lines i).to ≡ i
kept_fixed F o r =
    kept-only (λ i. (outcome F.lines i).to ≡ i) (settle F) (ap (λ (y : Outcome). y.to) (placed F.lines o F.root r).stable)
    (λ i h _. subst (λ (l : Line). AllByRecursion (λ k. (outcome F.lines k).to ≡ k) (parts l)) (sym (lines_get F.lines i)) (fixed F.lines o i (omega (arith, lines-length F.lines))))

-- lines that are not reached may be anything
reached-same : (i : ℕ) (xs ys : List Line) (r : List ℕ) → length xs ≡ length ys
    → ((k n : ℕ) → n ≡ i + k → k < length xs → member n (reached i xs r) ≡ true → line_at xs k ≡ line_at ys k) → reached i xs r ≡ reached i ys r
reached-same i [] [] r s h = refl
reached-same i [] (y ∷ ys) r s h = absurd (omega arith)
reached-same i (x ∷ xs) [] r s h = absurd (omega arith)
reached-same i (x ∷ xs) (y ∷ ys) r s h =
    go (member i later) refl (reached-same (suc i) xs ys r (omega arith) (λ k n q u v. h (suc k) n (omega arith) (omega arith) (wider (member i later) n v)))
  where
    later : List ℕ
    later = reached (suc i) xs r

    wider : (b : Bool) (j : ℕ) → member j later ≡ true → member j (cond b (parts x ++ later) later) ≡ true
    wider true j q = member_back j (parts x) later q
    wider false j q = q

    go : (b : Bool) → member i later ≡ b → later ≡ reached (suc i) ys r
        → cond (member i later) (parts x ++ later) later ≡ cond (member i (reached (suc i) ys r)) (parts y ++ reached (suc i) ys r) (reached (suc i) ys r)
    go true q p =
        ap₂ (λ (z : List ℕ) (l : Line). cond (member i z) (parts l ++ z) z) p (h 0 i (omega arith) (omega arith) (wider (member i later) i q))
    go false q p =
        ap (λ (b : Bool). cond b (parts x ++ later) later) q
        ∙ (p ∙ sym (ap (λ (b : Bool). cond b (parts y ++ reached (suc i) ys r) (reached (suc i) ys r)) (ap (member i) (sym p) ∙ q)))

compact-same : (keep : ℕ → Bool) (f : ℕ → ℕ) (i : ℕ) (xs ys : List Line) → length xs ≡ length ys
    → ((k n : ℕ) → n ≡ i + k → k < length xs → keep n ≡ true → line_at xs k ≡ line_at ys k) → compact keep f i xs ≡ compact keep f i ys
compact-same keep f i [] [] s h = refl
compact-same keep f i [] (y ∷ ys) s h = absurd (omega arith)
compact-same keep f i (x ∷ xs) [] s h = absurd (omega arith)
compact-same keep f i (x ∷ xs) (y ∷ ys) s h =
    go (keep i) refl (compact-same keep f (suc i) xs ys (omega arith) (λ k n q u v. h (suc k) n (omega arith) (omega arith) v))
  where
    go : (b : Bool) → keep i ≡ b → compact keep f (suc i) xs ≡ compact keep f (suc i) ys
        → cond b (renumber f x ∷ compact keep f (suc i) xs) (compact keep f (suc i) xs) ≡ cond b (renumber f y ∷ compact keep f (suc i) ys) (compact keep f (suc i) ys)
    go true q p = ap₂ (λ (l : Line) (z : List Line). renumber f l ∷ z) (h 0 i (omega arith) (omega arith) q) p
    go false q p = p

prune-same : (F G : Formula) → F.root ≡ G.root → length F.lines ≡ length G.lines
    → ((i : ℕ) → i < length F.lines → kept F i ≡ true → line_at F.lines i ≡ line_at G.lines i) → prune F ≡ prune G
prune-same F G e s h =
    let same : (k n : ℕ) → n ≡ 0 + k → k < length F.lines → kept F n ≡ true → line_at F.lines k ≡ line_at G.lines k =
    λ k n q u v. let z : n ≡ k = omega arith in h k u (subst (λ (x : ℕ). kept F x ≡ true) z v) in
    let r : reached 0 F.lines (F.root ∷ []) ≡ reached 0 G.lines (G.root ∷ []) =
    reached-same 0 F.lines G.lines (F.root ∷ []) s same ∙ ap (λ (x : ℕ). reached 0 G.lines (x ∷ [])) e in
    let c : compact (kept F) (place F) 0 F.lines ≡ compact (kept F) (place F) 0 G.lines = compact-same (kept F) (place F) 0 F.lines G.lines s same in
    let d : compact (kept F) (place F) 0 F.lines ≡ compact (kept G) (place G) 0 G.lines =
    c ∙ ap (λ (x : List ℕ). compact (λ i. member i x) (rank (λ i. member i x)) 0 G.lines) r in
    λ i. record { lines = d i; root = rank (λ j. member j (r i)) (e i) }

-- so where users take another line, anything may stand after the first pass
pub simplify_by : (F : Formula) → Ordered F.lines → F.root < length F.lines → (ls : List Line) → length ls ≡ length F.lines
    → ((i : ℕ) → i < length F.lines → (outcome F.lines i).to ≡ i → line_at ls i ≡ (outcome F.lines i).line)
    → simplify F ≡ prune (record { lines = ls; root = (outcome F.lines F.root).to })
simplify_by F o h ls s f =
    prune-same (settle F) (record { lines = ls; root = (outcome F.lines F.root).to }) refl (lines-length F.lines ∙ sym s) (λ i g k.
    let u : i < length F.lines = omega (arith, lines-length F.lines) in
    lines_get F.lines i ∙ sym (f i u (kept_fixed F o h i k)))

-- the second pass, from the last line to the first: what is reached once line i is looked at
pub reached-back : (ls : List Line) (r : List ℕ) (i : ℕ) → i < length ls
    → reached i (drop i ls) r
    ≡ cond (member i (reached (i + 1) (drop (i + 1) ls) r)) (parts (line_at ls i) ++ reached (i + 1) (drop (i + 1) ls) r) (reached (i + 1) (drop (i + 1) ls) r)
reached-back ls r i h =
    ap (λ (x : List Line). reached i x r) (drop_more ls i (constant state true) h)
    ∙ ap (λ (k : ℕ). cond (member i (reached k (drop (i + 1) ls) r)) (parts (line_at ls i) ++ reached k (drop (i + 1) ls) r) (reached k (drop (i + 1) ls) r)) (sym (add-one i))

-- the third pass: one line more, and how many there are
compact_push : (keep : ℕ → Bool) (f : ℕ → ℕ) (k : ℕ) (ls : List Line) (l : Line) (n : ℕ) → n ≡ k + length ls
    → compact keep f k (ls ++ (l ∷ [])) ≡ compact keep f k ls ++ cond (keep n) (renumber f l ∷ []) []
compact_push keep f k [] l n s = let e : k ≡ n = omega arith in ap (λ (x : ℕ). cond (keep x) (renumber f l ∷ []) []) e
compact_push keep f k (x ∷ ls) l n s = go (keep k) (compact_push keep f (suc k) ls l n (omega arith))
  where
    go : (b : Bool) → compact keep f (suc k) (ls ++ (l ∷ [])) ≡ compact keep f (suc k) ls ++ cond (keep n) (renumber f l ∷ []) []
        → cond b (renumber f x ∷ compact keep f (suc k) (ls ++ (l ∷ []))) (compact keep f (suc k) (ls ++ (l ∷ [])))
        ≡ cond b (renumber f x ∷ compact keep f (suc k) ls) (compact keep f (suc k) ls) ++ cond (keep n) (renumber f l ∷ []) []
    go true e = ap (λ (r : List Line). renumber f x ∷ r) e
    go false e = e

pub compact_more : (keep : ℕ → Bool) (f : ℕ → ℕ) (ls : List Line) (i : ℕ) → i < length ls
    → compact keep f 0 (take (i + 1) ls) ≡ compact keep f 0 (take i ls) ++ cond (keep i) (renumber f (line_at ls i) ∷ []) []
compact_more keep f ls i h =
    ap (compact keep f 0) (take_more ls i (constant state true) h)
    ∙ compact_push keep f 0 (take i ls) (line_at ls i) i (simp length-take (omega arith))

pub compact_so_far : (keep : ℕ → Bool) (f : ℕ → ℕ) (ls : List Line) (i : ℕ) → i ≤ length ls → length (compact keep f 0 (take i ls)) ≡ rank keep i
compact_so_far keep f ls i h = omega (arith, compact-length keep f 0 (take i ls) i (simp length-take (omega arith)))
