-- What `ln_of` and `root_of` promise (specs/Promise), and the order and the sizes that callers rest on.
use Rattle.std.specs.Prelude.{ℕ}
use mathlib.Core.Path.{◌≡◌, refl}
use Prim.Native.Nat.{ℕ, ◌*◌, ◌-◌, ◌^◌, ◌≤◌, ◌<◌}
use native.Mathlib.Omega.{arith}
use borrow.Author.Tests.{eq-eqb}
use lib.Dec.{eqb, eqb→eq}
use Rattle.toolbox_theory.specs.Whole.{up, down}
use Rattle.toolbox_theory.proofs.Tests.{by_test}
use Rattle.exact_theory.specs.Fraction.{◌-q◌}
use Rattle.exact_theory.specs.Root.{root_values}
use Rattle.exact_theory.specs.Formula.{units}
use Rattle.exact_theory.proofs.FractionLaws.{lt_of, add-Is, mul-Is, neg-Is, over-Is}
use Rattle.exact_theory.proofs.LogarithmLaws.{Bounds, bounds_wider, bounds_same, bounds_least, bounds_most}
use Rattle.exact_theory.proofs.LogarithmLaws.{encloses_ln}
use Rattle.exact_theory.proofs.RootLaws.{whole_root_is, root_below, encloses_root}
use Rattle.interval_theory.specs.declared.Ends.{Ends}
use Rattle.interval_theory.specs.Natural.{unit}
use Rattle.interval_theory.specs.Bound.{Sized}
use Rattle.logarithm_theory.specs.Evaluation.{scaled_ln_of, ln_of, root_of}
use Rattle.logarithm_theory.specs.Promise.{LnDomain, ln_width, LnEnds, root_fineness, width, RootEnds}
use Rattle.logarithm_theory.specs.Chain.{LnLeast}
use Rattle.logarithm_theory.specs.Bound.{ln_most}
use Rattle.logarithm_theory.proofs.Octave.{scales}
use Rattle.logarithm_theory.proofs.Sum.{mantissa_ln, total}

-- e are ends of the logarithm of a/b
pub record Rounded (a b : ℕ) (e : Ends ℕ) : Type 0 where
  pub bounds : Bounds unit e.low e.high a b
  pub sized : Sized e ln_width ln_most

-- what the sum may miss is 209, and 23 for each octave; its ends are rounded outward to units
pub ln_of_rounded : {a b : ℕ} → LnDomain a b → Rounded a b (ln_of a b)
unfolding ln_of scaled_ln_of
ln_of_rounded {a} {b} d =
    by_test (eqb a b) (Rounded a b)
    (λ t. rw (eqb→eq a b t) (record { bounds = bounds_same d.least (omega arith); sized = omega arith }))
    (λ _. record {
      bounds = bounds_wider unit _ _ (omega arith) (omega arith) (omega arith) (omega arith) (total d);
      sized = omega (arith, (scales d).normal.few, (mantissa_ln (scales d).normal.mantissa).small);
    })

-- ---- the promises

pub ln_of_promise : {a b : ℕ} → LnDomain a b → LnEnds a b (ln_of a b)
unfolding ln_of
ln_of_promise {a} {b} d =
    let r = ln_of_rounded d in
    record {
      encloses = encloses_ln d.least d.order r.sized.order r.bounds;
      narrow = r.sized.narrow;
      same = λ e. simp (eq-eqb a b e) (refl, refl);
    }

-- every pair of which a contract says `r ≡ ln_of a b` keeps the promise
pub ln_ends_lem : {a b : ℕ} {r : Ends ℕ} → LnDomain a b → r ≡ ln_of a b → (r ≡ ln_of a b) × LnEnds a b r
ln_ends_lem d e = (e, rw e (ln_of_promise d))

pub root_of_promise : (X : ℕ) → RootEnds X (root_of X)
unfolding root_of width root_values units ◌-q◌ up down
root_of_promise X = record {
  encloses = encloses_root X root_fineness (omega arith) (whole_root_is _);
  narrow =
      lt_of (mul-Is (mul-Is (over-Is _ _ (omega arith)) (over-Is _ _ (omega arith)))
      (add-Is (over-Is _ _ (omega arith)) (neg-Is (over-Is _ _ (omega arith)))))
      (over-Is _ unit (omega arith)) (omega arith);
}

-- ---- the order and the sizes

-- ln(a/b) is at most (a − b)/b, and at least (a − b)/a
pub ln_of_most : {a b : ℕ} → LnDomain a b → (ln_of a b).low * b ≤ (a - b) * unit
ln_of_most d = bounds_most (omega arith) d.least d.order (ln_of_rounded d).bounds

pub ln_of_least : {a b : ℕ} → LnDomain a b → LnLeast a b
ln_of_least d = omega (arith, bounds_least (omega arith) d.least d.order (ln_of_rounded d).bounds)

pub root_of_small : {X : ℕ} → X < 2 ^ 29 → root_of X < 2 ^ 32
unfolding root_of
root_of_small {X} h = root_below (2 ^ 32) (whole_root_is _) (omega arith)
