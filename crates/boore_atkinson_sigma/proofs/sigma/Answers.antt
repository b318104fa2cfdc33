use Rattle.std.proofs.Common.{ap, sym, ◌∙◌}
use Rattle.interval_theory.specs.Signed.{ends_of}
use Rattle.boore_atkinson_theory.specs.Evaluation.{sigma_of}
use Rattle.boore_atkinson_theory.proofs.Laws.{sigma_of_promise}
use Rattle.boore_atkinson_sigma.proofs.sigma.Goals as goal

pub returns : goal.returns
unfolding sigma_of ends_of
returns c =
    let e = c.between.ensures ∙ ap ends_of (sym c.sigma_by_row-z.ensures.0) in
    record { value = e; sigma_ends = rw e (sigma_of_promise c.args.k c.args.mechanism c.requires) }
