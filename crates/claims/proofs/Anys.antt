-- A search for one that passes a test, and tests that agree.
use Rattle.std.proofs.Common.{◌≡◌, ℕ, ◌+◌, ◌<◌, Bool, true, false, ◌||◌, List, [], ◌∷◌, length, get_or, drop, sym, refl, ap, ◌∙◌, ap₂}
use Rattle.std.specs.List.{AllByRecursion, list_any}
use Rattle.std.proofs.lemmas.List.{at_drop_more}
use Rattle.systems.specs.Meaning.{Move}
use Rattle.formulas.specs.Truths.{any}

-- some alternative holds of the move
abbrev pub some_of : (ℕ → Move → Bool) → List ℕ → Move → Bool
some_of of ds mv = any (λ d. of d mv) ds

-- none before the place i passes
module _ {X : Type 0} (p : X → Bool) (xs : List X) (i : ℕ) where
  pub any_hit : (d : X) → any p xs ≡ any p (drop i xs) → i < length xs → p (get_or xs i d) ≡ true → true ≡ any p xs
  any_hit d before h e = sym (before ∙ at_drop_more (any p) xs i d h ∙ ap (λ b. b || any p (drop (i + 1) xs)) e)

  pub any_miss : (d : X) → any p xs ≡ any p (drop i xs) → i < length xs → p (get_or xs i d) ≡ false → any p xs ≡ any p (drop (i + 1) xs)
  any_miss d before h e = before ∙ at_drop_more (any p) xs i d h ∙ ap (λ b. b || any p (drop (i + 1) xs)) e

pub any_same : {X : Type 0} (Q : X → Type 0) (p q : X → Bool) → ((x : X) → Q x → p x ≡ q x) → (xs : List X) → AllByRecursion Q xs → any p xs ≡ any q xs
any_same Q p q e [] a = refl
any_same Q p q e (x ∷ xs) a = ap₂ ◌||◌ (e x a.0) (any_same Q p q e xs a.1)

-- it is the library's
pub any_list : {X : Type 0} (p : X → Bool) (xs : List X) → list_any p xs ≡ any p xs
any_list p [] = refl
any_list p (x ∷ xs) = ap (λ b. p x || b) (any_list p xs)
