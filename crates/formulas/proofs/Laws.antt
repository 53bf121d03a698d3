-- The law of truth, and of lines that come after their parts.
use Rattle.std.proofs.Common.{true, ap, ◌∙◌, arith}
use Rattle.std.proofs.lemmas.List.{get_or-map, length-map}
use Rattle.formulas.specs.Lines.{state, constant, line, lines}
use Rattle.formulas.specs.Truths.{truth, truths}
use Rattle.formulas.specs.Laws.{TruthLaw, CourseLaw, FormedLaw}
use Rattle.formulas.proofs.Course.{truths-at}
use Rattle.formulas.proofs.Rights.{stands-right, right-formed}

pub formed-law : FormedLaw
formed-law ns ts alts root m h = right-formed ns ts alts m (stands-right ns ts alts m root h)

pub course_law : CourseLaw
course_law S ls i formed l = truths-at S ls formed i l

pub truth-law : TruthLaw
truth-law S ns ts alts root m i d h l =
    truths-at S (lines ns ts alts) (formed-law ns ts alts root m h) i (omega (arith, length-map ns (line ts alts)))
    ∙ ap (truth S (truths S (lines ns ts alts))) (get_or-map (line ts alts) ns i d (constant state true) l)
