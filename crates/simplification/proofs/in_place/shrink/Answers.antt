use Rattle.std.proofs.Common.{rules, [], get_or, sym, ap, ◌∙◌, arith}
use Rattle.formulas.specs.Tables.{slots, held, standing}
use Rattle.simplification.specs.Simplify.{prune, simplify}
use Rattle.simplification.specs.Tables.{padded}
use Rattle.simplification.specs.Packed.{whole, filled}
use Rattle.simplification.proofs.Shrinks.{packed-left, root-low, simplified-is, laid-fits, filled_is, filled-same, returned}
use Rattle.simplification.proofs.in_place.shrink.Goals as goal

pub cut-standing-requires : goal.cut-standing-requires
cut-standing-requires c =
    let s = slots c.args.nodes.now c.args.terms.now c.args.alternatives.now in
    let left = held c.settle.new.tables in
    let P = c.requires.packed in
    record {
      packed =
          packed-left s P left c.settle.ensures.tables
          (omega (arith, P.few_nodes, c.settle.ensures.lent.0.1)) (omega (arith, P.few_terms, c.settle.ensures.lent.1.1)) (omega (arith, P.few_alternatives, c.settle.ensures.lent.2.1));
      long = c.settle.auto.map ∙ (c.requires.long ∙ sym c.settle.ensures.lent.0.1);
      root =
          omega (
            arith,
            c.requires.root,
            c.settle.ensures.lent.0.1,
            root-low s P left c.settle.ensures.tables c.args.map.now c.settle.new.map c.settle.ensures.map c.args.root c.requires.root,
          );
    }

pub tidy-requires : goal.tidy-requires
tidy-requires c =
    let left = held c.settle.new.tables in
    let fits =
    laid-fits (prune (whole (get_or c.settle.new.map c.args.root 0) left)).lines left (held c.cut-standing.new.tables) c.cut-standing.result.fills
    c.cut-standing.ensures.tables (ap (λ x. x.fills) c.cut-standing.ensures.answer) c.cut-standing.ensures.lent.0.1 c.cut-standing.ensures.lent.1.1 c.cut-standing.ensures.lent.2.1 in
    record { nodes = fits.0; terms = fits.1; alternatives = fits.2 }

pub returns : goal.returns
returns c =
    let s = slots c.args.nodes.now c.args.terms.now c.args.alternatives.now in
    let left = held c.settle.new.tables in
    let is = simplified-is s c.requires.packed left c.settle.ensures.tables c.args.map.now c.settle.new.map c.settle.ensures.map c.args.root c.requires.root in
    let blanked =
    filled_is (prune (whole (get_or c.settle.new.map c.args.root 0) left)).lines left (held c.cut-standing.new.tables) c.cut-standing.result.fills
    c.cut-standing.ensures.tables (ap (λ x. x.fills) c.cut-standing.ensures.answer) c.cut-standing.ensures.lent.0.1 c.cut-standing.ensures.lent.1.1 c.cut-standing.ensures.lent.2.1
    (held c.tidy.new.tables) c.tidy.ensures.nodes c.tidy.ensures.terms c.tidy.ensures.alternatives in
    record {
      answer = c.cut-standing.ensures.answer ∙ ap standing is;
      tables = returned (search rules) (search rules) (search rules) ∙ (blanked ∙ (ap (λ G. filled G.lines left) is ∙ filled-same (simplify (whole c.args.root s)).lines s left c.settle.ensures.lent.0.1 c.settle.ensures.lent.1.1 c.settle.ensures.lent.2.1));
      map = c.tidy.ensures.map ∙ ap (λ n. padded n 0 []) (c.cut-standing.auto.map ∙ c.settle.auto.map);
    }
