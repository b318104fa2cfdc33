use mathlib.Core.Path.{refl, sym, ◌∙◌}
use borrow.Author.Tests.{lt-ltb, le-ltb}
use Rattle.toolbox_theory.proofs.Results.{passed_on}
use Rattle.record_theory.specs.Steps.{front_refusal}
use Rattle.record_theory.proofs.ReadingLaws.{passes, first_fails}
use Rattle.record_fields.proofs.front_check.Goals as goal

pub returns-then-is_empty : goal.returns-then-is_empty
unfolding front_refusal
returns-then-is_empty c = rw (sym c.is_empty.ensures ∙ c.if-is_empty.true) refl

pub returns-in_err-map_check : goal.returns-in_err-map_check
unfolding front_refusal
returns-in_err-map_check c =
    passed_on c.from_residual.ensures ∙ rw (sym c.is_empty.ensures ∙ c.if-is_empty.false)
    (first_fails _ _ (sym c.map_check.ensures ∙ c.in_err-map_check.was))

pub returns-then-s-record_length : goal.returns-then-s-record_length
unfolding front_refusal
returns-then-s-record_length c =
    rw (
      sym c.is_empty.ensures ∙ c.if-is_empty.false,
      passes _ (sym c.map_check.ensures ∙ c.in_ok-map_check.was),
      ← c.record_length.ensures,
      lt-ltb _ _ c.if-s-record_length.true,
    ) refl

pub returns : goal.returns
unfolding front_refusal
returns c =
    rw (
      sym c.is_empty.ensures ∙ c.if-is_empty.false,
      passes _ (sym c.map_check.ensures ∙ c.in_ok-map_check.was),
      ← c.record_length.ensures,
      le-ltb _ _ c.if-s-record_length.false,
    ) refl
