use mathlib.Core.Path.{◌≡◌, refl}
use native.Mathlib.Omega.{arith}
use borrow.Author.Rules.{rules}
use borrow.Author.Tests.{ne_eqb}
use Rattle.stores_theory.proofs.StoreLaws.{put_byte}
use Rattle.scenario_theory.specs.Distances.{rupture_number}
use Rattle.record_theory.proofs.AbsentLaws.{mapped, then_unless}
use Rattle.record_theory.proofs.Stores.{middle_length, middle_stores}
use Rattle.record_writing.proofs.put_middle.Goals as goal

pub put_word-velocity_at-requires : goal.put_word-velocity_at-requires
put_word-velocity_at-requires c =
    let rupture : c.map-rupture.result ≡ rupture_number c.args.x.rupture =
    mapped _ _ _ c.map-rupture.ensures.cases (λ d n h. search rules) in
    rw rupture (omega (arith, middle_length c.args.x))

pub put_word-mechanism_at-requires : goal.put_word-mechanism_at-requires
put_word-mechanism_at-requires c =
    let rupture : c.map-rupture.result ≡ rupture_number c.args.x.rupture =
    mapped _ _ _ c.map-rupture.ensures.cases (λ d n h. search rules) in
    let place = rw rupture at c.put_word-velocity_at.ensures.place in
    rw (c.then_some-velocity.ensures, then_unless) (omega (arith, middle_length c.args.x))

pub returns-then-x-eq-ABSENT_MECHANISM : goal.returns-then-x-eq-ABSENT_MECHANISM
returns-then-x-eq-ABSENT_MECHANISM c =
    let rupture : c.map-rupture.result ≡ rupture_number c.args.x.rupture =
    mapped _ _ _ c.map-rupture.ensures.cases (λ d n h. search rules) in
    middle_stores c.args.x (rw rupture at c.put_word-velocity_at.ensures)
    (rw (c.then_some-velocity.ensures, then_unless) at c.put_word-mechanism_at.ensures)
    (rw c.if-x-eq-ABSENT_MECHANISM.true (record { place = omega arith; bytes = refl }))

pub bounds-out-mechanism_at : goal.bounds-out-mechanism_at
bounds-out-mechanism_at c =
    let rupture : c.map-rupture.result ≡ rupture_number c.args.x.rupture =
    mapped _ _ _ c.map-rupture.ensures.cases (λ d n h. search rules) in
    let first = rw rupture at c.put_word-velocity_at.ensures.place in
    let second = rw (c.then_some-velocity.ensures, then_unless) at c.put_word-mechanism_at.ensures.place in
    let all = rw (ne_eqb _ 9 c.if-x-eq-ABSENT_MECHANISM.false) at (middle_length c.args.x) in
    omega arith

pub returns : goal.returns
returns c =
    let rupture : c.map-rupture.result ≡ rupture_number c.args.x.rupture =
    mapped _ _ _ c.map-rupture.ensures.cases (λ d n h. search rules) in
    middle_stores c.args.x (rw rupture at c.put_word-velocity_at.ensures)
    (rw (c.then_some-velocity.ensures, then_unless) at c.put_word-mechanism_at.ensures)
    (rw (ne_eqb _ 9 c.if-x-eq-ABSENT_MECHANISM.false) (put_byte _ _ _))
