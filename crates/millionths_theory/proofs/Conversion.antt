-- From the ends of a logarithm to two whole numbers of millionths: what is promised of these (`FromEnds`) follows from
-- the ends alone.
use Rattle.std.specs.Prelude.{ℤ}
use mathlib.Core.Path.{◌≡◌, refl}
use Prim.Native.Nat.{ℕ, suc, ◌+◌, ◌*◌, ◌-◌, ◌≤◌, ◌<◌}
use native.Mathlib.Decide.{dec_le}
use native.Mathlib.Omega.{arith}
use lib.Count.{count_leading_zeros}
use lib.Dec.{T}
use lib.IntN.{ℤ, pos, ◌+ℤ◌}
use lib.Signed.{le_z}
use Rattle.toolbox_theory.specs.Whole.{up, down}
use Rattle.toolbox_theory.proofs.Whole.{le_in, le_out, gt_out, add_is}
use Rattle.exact_theory.specs.Formula.{Formula, eval, ends}
use Rattle.exact_theory.proofs.FractionLaws.{≤q_trans}
use Rattle.interval_theory.specs.declared.Ends.{Ends}
use Rattle.interval_theory.specs.Natural.{unit}
use Rattle.interval_theory.specs.Signed.{between_of}
use Rattle.interval_theory.proofs.SignedValues.{units_rise}
use Rattle.logarithm_tables_theory.specs.Tables.{coarse_at, fine_at}
use Rattle.logarithm_theory.specs.Promise.{ln_width}
use Rattle.logarithm_theory.specs.Evaluation.{scaled_of, near_one_of, mantissa_ln_of, scaled_ln_of, ln_of}
use Rattle.engine_theory.specs.Ranges.{median_most}
use Rattle.millionths_theory.specs.declared.Floor.{Floor}
use Rattle.millionths_theory.specs.Promise.{MeetsMillionths, Gap, MillionthsEnds, widest, Convertible, FromEnds}
use Rattle.millionths_theory.specs.Evaluation.{ln_millionths, most, greatest_passing, up_to, floor_of, at_least}
use Rattle.millionths_theory.specs.Evaluation.{ceiling_after, millionths_from}
use Rattle.millionths_theory.proofs.Search.{at_most, passes, next_fails, from_start, soon, first_passes}
use Rattle.millionths_theory.proofs.Search.{before_fails}
use Rattle.millionths_theory.proofs.Order.{ln_encloses, apart}

-- ln((most + 1)/10^6), which no median is above
pub last : (ln_millionths (suc most)).low ≡ pos 2_126_874_594
unfolding ln_millionths between_of ln_of scaled_ln_of scaled_of mantissa_ln_of near_one_of
    coarse_at fine_at count_leading_zeros
last = refl

-- ---- the two searches

pub floored : {r : Floor} (z : ℤ) → r ≡ floor_of z →
    (r.whole ≤ most) × (r.next ≡ (ln_millionths (r.whole + 1)).low)
unfolding floor_of
floored z e =
    let a = greatest_passing (up_to z) most in
    let next : a + 1 ≡ suc a = omega arith in
    rw e (at_most (up_to z) most, rw next refl)

pub ceiling_most : (a : ℕ) (z : ℤ) → a ≤ most → ceiling_after a z ≤ suc most
unfolding ceiling_after
ceiling_most a z h = omega (arith, soon (at_least z) (most - a) (suc a))

-- ---- what is promised of the two numbers from ends that enclose f

module _ {f : Formula} (e : Ends ℤ) (c : Convertible f e) where
  abbrev a : ℕ
  a = greatest_passing (up_to e.low) most

  abbrev b : ℕ
  b = ceiling_after a e.high

  a_most : a ≤ most
  a_most = at_most (up_to e.low) most

  b_after : a < b
  unfolding ceiling_after
  b_after = from_start (at_least e.high) (most - a) (suc a)

  b_most : b ≤ suc most
  b_most = ceiling_most a e.high a_most

  -- ln(a/10^6) is up to the low end
  a_holds : 1 ≤ a → T (le_z (ln_millionths a).high e.low)
  a_holds h = passes (up_to e.low) most h

  -- ln(b/10^6) is from the high end on
  b_holds : T (le_z e.high (ln_millionths b).low)
  unfolding up down ceiling_after
  b_holds = elim (dec_le b most) [
    | yes h ↦ first_passes (at_least e.high) (most - a) (suc a) (omega (arith, a_most))
    | no h ↦
        let all : b ≡ suc most = omega (arith, b_most) in
        rw (all, last) (le_in e.high _ (omega (arith, le_out e.high (pos median_most) c.few.le)))
  ]

  -- a + 1 is not surely up to the low end, and b − 1 not surely from the high end on: they are near
  gap : Gap a b
  unfolding up down ceiling_after
  gap = elim (dec_le b (a + 2)) [
    | yes h ↦ omega arith
    | no h ↦
        let after = next_fails (up_to e.low) most (omega (arith, b_most)) in
        let before = before_fails (at_least e.high) (most - a) (suc a) (b - 1) (omega arith) (omega arith) in
        elim (dec_le ((widest + 3 * ln_width) * (b - 1)) ((b - 1 - suc a) * unit)) [
          | yes wide ↦
              absurd (omega (
                arith,
                gt_out (ln_millionths (suc a)).high e.low after,
                gt_out e.high (ln_millionths (b - 1)).low before,
                apart {j = suc a} {k = b - 1} widest (omega arith) (omega arith) (omega (arith, b_most)) wide,
                le_out e.high (e.low +ℤ pos widest) c.narrow.le,
                add_is e.low (pos widest),
              ))
          | no near ↦ omega arith
        ]
  ]

  meets : (n : ℕ) → 1 ≤ n → MeetsMillionths n f a b
  unfolding eval ends
  meets n g =
      let m = c.encloses.meets n g in
      record {
        point = m.point;
        inside = m.right;
        from = λ some.
            let l = (ln_encloses a (omega arith) (omega (arith, a_most))).meets n g in
            let up = le_out (ln_millionths a).high e.low (a_holds (omega arith)) in
            ≤q_trans (≤q_trans l.right.from l.left.to) (≤q_trans (units_rise _ _ up) m.left.from);
        to =
            let l = (ln_encloses b (omega (arith, b_after)) (omega (arith, b_most))).meets n g in
            let up = le_out e.high (ln_millionths b).low b_holds in
            ≤q_trans (≤q_trans m.left.to (units_rise _ _ up)) (≤q_trans l.left.from l.right.to);
      }

  -- what is promised of the two
  pub converts : MillionthsEnds f (millionths_from e).low (millionths_from e).high
  unfolding millionths_from floor_of
  converts = record {
    between = record { some = omega (arith, b_after); defined = c.encloses.defined; meets = meets };
    order = omega (arith, b_after);
    gap = gap;
  }

-- every two numbers of which a contract says `m ≡ millionths_from e` keep it
pub from_ends : {m : Ends ℕ} (e : Ends ℤ) → m ≡ millionths_from e → (m ≡ millionths_from e) × FromEnds e m
from_ends e same = (same, λ f c. rw same (converts e c))
