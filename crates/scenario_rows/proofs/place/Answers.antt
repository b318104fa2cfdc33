-- What the search finds is the row, and how many periods are below where there is none.
use Rattle.std.proofs.Common.{refl}
use borrow.Author.Tests.{ne_eqb, lt-ltb, le-ltb}
use Rattle.scenario_theory.specs.Rows.{place_among}
use Rattle.toolbox_theory.proofs.Searched.{found, missing}
use Rattle.scenario_rows.proofs.place.Goals as goal

pub returns-in-Ok : goal.returns-in-Ok
unfolding place_among
returns-in-Ok c =
    let f = found c.args.periods.now c.args.period c.requires.0 c.in-Ok.k c.in-Ok.ensures.position in
    rw (ne_eqb c.args.period 0 c.if-period-eq0.false, f.listed, f.count) refl

pub returns-in-Err : goal.returns-in-Err
unfolding place_among
returns-in-Err c =
    let m = missing c.args.periods.now c.args.period c.requires.0 c.in-Err.n c.in-Err.ensures.position in
    rw (
      ne_eqb c.args.period 0 c.if-period-eq0.false,
      m.not_listed,
      m.count,
      lt-ltb 0 _ c.if-n-gt0.true,
      lt-ltb _ _ c.if-n-periods.true,
    ) refl

pub returns-in-Err-2 : goal.returns-in-Err-2
unfolding place_among
returns-in-Err-2 c =
    let m = missing c.args.periods.now c.args.period c.requires.0 c.in-Err.n c.in-Err.ensures.position in
    rw (
      ne_eqb c.args.period 0 c.if-period-eq0.false,
      m.not_listed,
      m.count,
      lt-ltb 0 _ c.if-n-gt0.true,
      le-ltb _ _ c.if-n-periods.false,
    ) refl

pub returns-in-Err-2-2 : goal.returns-in-Err-2-2
unfolding place_among
returns-in-Err-2-2 c =
    let m = missing c.args.periods.now c.args.period c.requires.0 c.in-Err.n c.in-Err.ensures.position in
    rw (ne_eqb c.args.period 0 c.if-period-eq0.false, m.not_listed, m.count, le-ltb 0 _ c.if-n-gt0.false) refl
