-- The records of a state and an action, and the run of a record.
use Rattle.std.specs.Prelude.{◌≡◌, ℕ, ◌+◌, ◌<◌, ◌≤◌, true, false, cond, List, [], ◌∷◌, length, take, drop, ◌==◌, ◌≢◌, nat_le, nat_lt, slice_index_or}
use Rattle.std.proofs.Common.{sym, ap, ◌∙◌, arith, add-zero, length-drop, length-append}
use Rattle.std.specs.List.{AllByRecursion}
use Rattle.std.proofs.lemmas.List.Elements.{filter_more}
use Rattle.std.proofs.lemmas.List.{length-take-le}
use Rattle.std.proofs.lemmas.Bool.{and_from, and_left, and_right, eq-eqb, ne_eqb, and_parts, ltb-true, leb-true, cond-true, cond-false}
use Rattle.systems.specs.declared.system.Target.{Target}
use Rattle.systems.specs.declared.records.MoveRecord.{MoveRecord}
use Rattle.systems.specs.Meaning.{Move, Aimed}
use Rattle.systems.specs.Tables.{asks, asked, run, good_target, good_run}

pub aimed_run : (n : ℕ) (mv : Move) → good_run n mv ≡ true → AllByRecursion (Aimed n) mv
aimed_run n [] e = tt
aimed_run n (t ∷ ts) e =
    let p = and_parts (good_target n t) (good_run n ts) e in
    let q = and_parts (nat_lt t.state n) (nat_le 1 t.weight) p.0 in
    (record { inside = ltb-true t.state n q.0; heavy = leb-true 1 t.weight q.1 }, aimed_run n ts p.1)

pub asks_from : (k a : ℕ) (r : MoveRecord) → r.state ≡ k → r.action ≡ a → asks k a r ≡ true
asks_from k a r p q = and_from (r.state == k) (r.action == a) (eq-eqb r.state k p) (eq-eqb r.action a q)

pub asks_not_state : (k a : ℕ) (r : MoveRecord) → (r.state ≢ k) → asks k a r ≡ false
asks_not_state k a r p = and_left (r.state == k) (r.action == a) (ne_eqb r.state k p)

pub asks_not_action : (k a : ℕ) (r : MoveRecord) → (r.action ≢ a) → asks k a r ≡ false
asks_not_action k a r p = and_right (r.state == k) (r.action == a) (ne_eqb r.action a p)

pub length_run : (ts : List Target) (r : MoveRecord) → r.first + r.count ≤ length ts → length (run ts r) ≡ r.count
length_run ts r h = length-take-le r.count (drop r.first ts) (omega (arith, length-drop r.first ts))

-- the count of the first records
module _ (k a : ℕ) (rs : List MoveRecord) (i n : ℕ) (d : MoveRecord) (l : i < length rs) (inv : n ≡ length (asked k a (take i rs))) where
  more : length (asked k a (take (i + 1) rs)) ≡ n + length (cond (asks k a (slice_index_or rs i d)) (slice_index_or rs i d ∷ []) [])
  more = ap length (filter_more (asks k a) rs i d l) ∙ length-append (asked k a (take i rs)) (cond (asks k a (slice_index_or rs i d)) (slice_index_or rs i d ∷ []) []) ∙ ap (λ x. x + length (cond (asks k a (slice_index_or rs i d)) (slice_index_or rs i d ∷ []) [])) (sym inv)

  pub count_hit : asks k a (slice_index_or rs i d) ≡ true → n + 1 ≡ length (asked k a (take (i + 1) rs))
  count_hit e = sym (more ∙ ap (λ (ys : List MoveRecord). n + length ys) (cond-true (asks k a (slice_index_or rs i d)) (slice_index_or rs i d ∷ []) [] e))

  pub count_miss : asks k a (slice_index_or rs i d) ≡ false → n ≡ length (asked k a (take (i + 1) rs))
  count_miss e = sym (more ∙ ap (λ (ys : List MoveRecord). n + length ys) (cond-false (asks k a (slice_index_or rs i d)) (slice_index_or rs i d ∷ []) [] e) ∙ add-zero n)
