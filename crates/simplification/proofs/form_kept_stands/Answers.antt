use Rattle.simplification.proofs.Forms.{keeps_form, keeps_bounds}
use Rattle.simplification.proofs.form_kept_stands.Goals as goal

pub returns : goal.returns
returns c = record { form = keeps_form; bounds = keeps_bounds }
