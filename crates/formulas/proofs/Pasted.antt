-- Tables that fill from the front.
use Rattle.std.proofs.Common.{◌≡◌, ℕ, ◌+◌, ◌<◌, ◌≤◌, List, [], ◌∷◌, ◌++◌, length, drop, set, sym, refl, ap, ◌∙◌, append_assoc, arith, length-append}
use Rattle.formulas.specs.Append.{raised, written}

pub written-++ : {X : Type 0} (ys zs : List X) (xs : List X) (i : ℕ) → i ≤ 4294967295 → written (written xs i ys) (raised i (length ys)) zs ≡ written xs i (ys ++ zs)
written-++ [] zs xs i h = ap (λ n. written xs n zs) (grind arith)
written-++ (y ∷ ys) zs xs i h = ap (λ n. written (written (set xs i y) (raised i 1) ys) n zs) (grind arith) ∙ written-++ ys zs (set xs i y) (raised i 1) (grind arith)

-- entries written from the front of a table that takes them
set_behind : {X : Type 0} (zs : List X) (x y : X) (xs : List X) → set (zs ++ (x ∷ xs)) (length zs) y ≡ zs ++ (y ∷ xs)
set_behind [] x y xs = refl
set_behind (z ∷ zs) x y xs = ap (λ l. z ∷ l) (set_behind zs x y xs)

written_behind : {X : Type 0} (ys zs xs : List X) → length ys ≤ length xs → length zs + length ys < 4294967295 → written (zs ++ xs) (length zs) ys ≡ zs ++ (ys ++ drop (length ys) xs)
written_behind [] zs xs h b = refl
written_behind (y ∷ ys) zs [] h b = absurd (omega arith)
written_behind (y ∷ ys) zs (x ∷ xs) h b =
    let here : length (zs ++ (y ∷ [])) ≡ raised (length zs) 1 = simp length-append (grind arith) in
    let less : length (zs ++ (y ∷ [])) + length ys < 4294967295 = simp length-append (omega arith) in
    ap (λ l. written l (raised (length zs) 1) ys) (set_behind zs x y xs ∙ sym (append_assoc zs (y ∷ []) xs))
    ∙ ap (λ n. written ((zs ++ (y ∷ [])) ++ xs) n ys) (sym here)
    ∙ written_behind ys (zs ++ (y ∷ [])) xs (omega arith) less
    ∙ append_assoc zs (y ∷ []) (ys ++ drop (length ys) xs)

pub written-front : {X : Type 0} (ys xs : List X) → length ys ≤ length xs → length ys < 4294967295 → written xs 0 ys ≡ ys ++ drop (length ys) xs
written-front ys xs h b = written_behind ys [] xs h (omega arith)
