-- the factors are the tables' entries, which bring y near 2^47, and then near 2^61
use Rattle.std.proofs.Common.{arith, ◌≡◌, ℕ, ◌-◌, ◌*◌, ◌/◌, ◌^◌}
use Rattle.logarithm_tables_theory.specs.declared.Factor.{Factor}
use Rattle.logarithm_tables_theory.specs.Tables.{coarse_at, fine_at}
use Rattle.logarithm_tables_theory.proofs.Factors.{Coarse, Fine, coarse_at_lem, fine_at_lem}
use Rattle.logarithm_theory.specs.Evaluation.{Mantissa}
use Rattle.logarithm_theory.proofs.Sum.{near}
use Rattle.logarithm_theory.proofs.Remainder.{near_small}
use Rattle.logarithm.proofs.mantissa_ln.Goals as goal

coarse_known : (y : ℕ) {f : Factor} → Mantissa y → f ≡ coarse_at (y / 2 ^ 29 - 64) → Coarse y f
coarse_known y m e = rw e (coarse_at_lem y m.least m.most)

fine_known : (y : ℕ) {f g : Factor} → Coarse y f → g ≡ fine_at (y * f.by / 2 ^ 35 - 4096) → Fine (y * f.by) g
fine_known y k e = rw e (fine_at_lem _ k.least k.most)

pub overflow_mul-nearer : goal.overflow_mul-nearer
overflow_mul-nearer c = omega (arith, (coarse_known c.args.y c.requires c.coarse-coarse.ensures).most)

pub overflow_sub-nearer : goal.overflow_sub-nearer
overflow_sub-nearer c = omega (arith, (coarse_known c.args.y c.requires c.coarse-coarse.ensures).least)

pub overflow_mul-nearer-2 : goal.overflow_mul-nearer-2
overflow_mul-nearer-2 c =
    let k = coarse_known c.args.y c.requires c.coarse-coarse.ensures in
    omega (arith, (fine_known c.args.y k c.fine-fine.ensures).most)

pub near_one-rest-requires : goal.near_one-rest-requires
near_one-rest-requires c =
    let k = coarse_known c.args.y c.requires c.coarse-coarse.ensures in near (fine_known c.args.y k c.fine-fine.ensures)

pub overflow_add-result : goal.overflow_add-result
overflow_add-result c =
    let k = coarse_known c.args.y c.requires c.coarse-coarse.ensures in
    omega (arith, k, fine_known c.args.y k c.fine-fine.ensures)

pub overflow_add-result-2 : goal.overflow_add-result-2
overflow_add-result-2 c =
    let k = coarse_known c.args.y c.requires c.coarse-coarse.ensures in
    let w = fine_known c.args.y k c.fine-fine.ensures in
    rw c.near_one-rest.ensures (omega (arith, k.small, near_small (near w)))
