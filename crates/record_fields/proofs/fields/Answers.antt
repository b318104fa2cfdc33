use mathlib.Core.Path.{◌≡◌, sym}
use mathlib.Core.Bool.{cond}
use native.Mathlib.Omega.{arith}
use lib.ListN.{get_or}
use borrow.Author.Rules.{rules}
use borrow.Author.Tests.{ne_eqb}
use Rattle.scenario_theory.specs.Distances.{rupture_of, projection_of}
use Rattle.record_theory.specs.Layout.{stands}
use Rattle.record_theory.specs.Outcome.{map_in}
use Rattle.record_theory.proofs.AbsentLaws.{bit_or, mapped}
use Rattle.record_theory.proofs.FieldLaws.{mechanism_at, fields_fit, scenario_is, byte_at}
use Rattle.record_fields.proofs.fields.Goals as goal
use Rattle.record_fields.proofs.fields.Goals.{then-mechanism, else-mechanism}

pub bounds-s-0 : goal.bounds-s-0
bounds-s-0 c = omega (arith, fields_fit)

-- a distance that stands, and the byte of the mechanism
pub returns : goal.returns
returns c =
    let s = c.args.s.now in
    let rupture : c.map.result ≡ rupture_of c.word_if.result =
    mapped _ _ _ c.map.ensures.cases (λ n d h. search rules) in
    let projection : c.map-2.result ≡ projection_of c.word_if-4.result =
    mapped _ _ _ c.map-2.ensures.cases (λ n d h. search rules) in
    let mechanism : c.if-mechanism.result ≡ cond (stands 4 (map_in s)) (get_or s c.more_if-mechanism_at.result 0) 9 =
    elim c.if-mechanism.branch [
      | then-mechanism w ↦ rw w.if-mechanism.true w.result-is
      | else-mechanism w ↦ rw (ne_eqb _ 1 w.if-mechanism.false) w.result-is
    ] in
    rw (
      rupture,
      projection,
      mechanism,
      c.unwrap_or.ensures,
      c.unwrap_or-2.ensures,
      c.word.ensures,
      c.word_if.ensures,
      c.word_if-2.ensures,
      c.word_if-3.ensures,
      c.word_if-4.ensures,
      c.more_if-projection_at.ensures.0,
      c.more_if-period_at.ensures.0,
      c.more_if-mechanism_at.ensures.0,
      c.more_if-velocity_at.ensures.0,
      bit_or (stands 3 (map_in s)),
      bit_or (stands 5 (map_in s)),
      ← byte_at s 1,
      ← byte_at s (mechanism_at (map_in s)),
    ) (sym (scenario_is s c.requires.passes))
