use Rattle.std.proofs.Common.{arith, ◌≡◌, refl, ℕ, ◌^◌, ◌≤◌, ◌<◌}
use Rattle.logarithm_theory.specs.Evaluation.{root_of}
use Rattle.logarithm_theory.proofs.Laws.{root_of_small}
use Rattle.boore_atkinson_theory.specs.Rock.{sum_of_squares}
use Rattle.boore_atkinson_theory.specs.Evaluation.{km_of, effective_of}
use Rattle.boore_atkinson_theory.proofs.RockSizes.{squares, effective_domain, effective_sized}
use Rattle.boore_atkinson_rock.proofs.effective_distance.Goals as goal

small_root : {k : ℕ} (d h : ℕ) → d ≤ 19_999 → 100 ≤ h → h ≤ 400 → k ≡ root_of (sum_of_squares d h) → k < 2 ^ 32
small_root d h far shallow deep e = rw e (root_of_small (effective_domain (squares far shallow deep)).small)

pub overflow_mul-result : goal.overflow_mul-result
overflow_mul-result c =
    let p = c.requires in omega (arith, small_root _ _ p.0 p.1 p.2 c.root-k.ensures.value)

pub overflow_add-result : goal.overflow_add-result
overflow_add-result c =
    let p = c.requires in omega (arith, small_root _ _ p.0 p.1 p.2 c.root-k.ensures.value)

pub overflow_mul-result-2 : goal.overflow_mul-result-2
overflow_mul-result-2 c =
    let p = c.requires in omega (arith, small_root _ _ p.0 p.1 p.2 c.root-k.ensures.value)

pub overflow_add-result-2 : goal.overflow_add-result-2
overflow_add-result-2 c =
    let p = c.requires in omega (arith, small_root _ _ p.0 p.1 p.2 c.root-k.ensures.value)

pub returns : goal.returns
unfolding effective_of km_of
returns c =
    let p = c.requires in
    rw (c.root-k.ensures.value, c.ln.ensures.value) (refl, effective_sized (squares p.0 p.1 p.2))
