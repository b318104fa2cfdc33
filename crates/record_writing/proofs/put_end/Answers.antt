use mathlib.Core.Path.{◌≡◌}
use native.Mathlib.Omega.{arith}
use borrow.Author.Rules.{rules}
use Rattle.scenario_theory.specs.Distances.{projection_number}
use Rattle.record_theory.proofs.AbsentLaws.{mapped, then_unless}
use Rattle.record_theory.proofs.Stores.{end_length, end_stores}
use Rattle.record_writing.proofs.put_end.Goals as goal

pub put_word-projection_at-requires : goal.put_word-projection_at-requires
put_word-projection_at-requires c =
    rw (c.then_some-period.ensures, then_unless) (omega (arith, end_length c.args.x))

pub put_word-requires : goal.put_word-requires
put_word-requires c =
    let projection : c.map-projection.result ≡ projection_number c.args.x.projection =
    mapped _ _ _ c.map-projection.ensures.cases (λ d n h. search rules) in
    let place = rw (c.then_some-period.ensures, then_unless) at c.put_word-projection_at.ensures.place in
    rw projection (omega (arith, end_length c.args.x))

pub returns : goal.returns
returns c =
    let projection : c.map-projection.result ≡ projection_number c.args.x.projection =
    mapped _ _ _ c.map-projection.ensures.cases (λ d n h. search rules) in
    end_stores c.args.x (rw (c.then_some-period.ensures, then_unless) at c.put_word-projection_at.ensures)
    (rw projection at c.put_word.ensures)
