use Rattle.std.proofs.Common.{refl}
use Rattle.idriss_theory.specs.Evaluation.{period_term_of}
use Rattle.idriss_theory.proofs.SigmaLaws.{term_fits, term_sized}
use Rattle.idriss_sigma.proofs.period_term.Goals as goal

pub multiple-requires : goal.multiple-requires
multiple-requires c = rw c.ln.ensures.value (term_fits c.requires)

pub returns : goal.returns
unfolding period_term_of
returns c = rw (c.multiple.ensures, c.ln.ensures.value) (refl, term_sized c.requires)
