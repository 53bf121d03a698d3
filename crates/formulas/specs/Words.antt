-- The words of a text, each by its place and the place after its last byte.
use Rattle.std.specs.Prelude.{ℕ, ◌+◌, ◌-◌, cond, List, [], ◌∷◌, take, drop, ◌==◌}
use Rattle.formulas.specs.declared.words.Mode.{Mode}
use Rattle.formulas.specs.declared.words.Mode.TheVariants.{Between, InWord, InComment}
use Rattle.formulas.specs.declared.words.Turn.{Turn}
use Rattle.formulas.specs.declared.words.Turn.TheVariants.{Go, Close, Alone}

-- space, tab and CR; LF; the parentheses; the semicolon; any other byte
pub data Kind : Type 0 where
  blank : Kind
  newline : Kind
  paren : Kind
  semi : Kind
  plain : Kind

abbrev pub kind : ℕ → Kind
kind b = cond (b == 32) blank (cond (b == 9) blank (cond (b == 13) blank (cond (b == 10) newline (cond (b == 40) paren (cond (b == 41) paren (cond (b == 59) semi plain))))))

-- what a byte of a kind, at the place p, does to a scan
abbrev pub turned : Mode → Kind → ℕ → Turn
turned Between blank p = Go Between
turned Between newline p = Go Between
turned Between paren p = Alone
turned Between semi p = Go InComment
turned Between plain p = Go (InWord p)
turned (InWord s) blank p = Close s
turned (InWord s) newline p = Close s
turned (InWord s) paren p = Close s
turned (InWord s) semi p = Close s
turned (InWord s) plain p = Go (InWord s)
turned InComment blank p = Go InComment
turned InComment newline p = Go Between
turned InComment paren p = Go InComment
turned InComment semi p = Go InComment
turned InComment plain p = Go InComment

-- the words from a byte of a kind on, at the place p, where k has those after it
abbrev pub after : Mode → Kind → ℕ → (Mode → List (ℕ × ℕ)) → List (ℕ × ℕ)
after Between blank p k = k Between
after Between newline p k = k Between
after Between paren p k = (p, p + 1) ∷ k Between
after Between semi p k = k InComment
after Between plain p k = k (InWord p)
after (InWord s) blank p k = (s, p) ∷ k Between
after (InWord s) newline p k = (s, p) ∷ k Between
after (InWord s) paren p k = (s, p) ∷ (p, p + 1) ∷ k Between
after (InWord s) semi p k = (s, p) ∷ k InComment
after (InWord s) plain p k = k (InWord s)
after InComment blank p k = k InComment
after InComment newline p k = k Between
after InComment paren p k = k InComment
after InComment semi p k = k InComment
after InComment plain p k = k InComment

abbrev pub ended : Mode → ℕ → List (ℕ × ℕ)
ended Between p = []
ended (InWord s) p = (s, p) ∷ []
ended InComment p = []

abbrev pub words : Mode → ℕ → List ℕ → List (ℕ × ℕ)
words m p [] = ended m p
words m p (b ∷ bs) = after m (kind b) p (λ n. words n (p + 1) bs)

-- the words of a text from a place on
abbrev pub onward : List ℕ → ℕ → List (ℕ × ℕ)
onward text p = words Between p (drop p text)

-- the part of a text between two places
abbrev pub part : List ℕ → ℕ → ℕ → List ℕ
part text s e = take (e - s) (drop s text)
