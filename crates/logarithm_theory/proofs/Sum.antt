-- The logarithm as a sum: what is left after both factors, the factors' own logarithms, the octaves.
use mathlib.Core.Path.{◌≡◌}
use Prim.Native.Nat.{ℕ, zero, suc, ◌+◌, ◌*◌, ◌^◌, ◌≤◌}
use native.Mathlib.Nat.{mul-le-mul_left, mul-le-mul_right, one-le-mul, le_trans}
use native.Mathlib.Omega.{arith}
use lib.Pow.{pow_pos}
use Rattle.exact_theory.proofs.LogarithmLaws.{Bounds, bounds_wider, bounds_same, bounds_plus, bounds_times}
use Rattle.exact_theory.proofs.LogarithmLaws.{bounds_over}
use Rattle.logarithm_tables_theory.specs.declared.Factor.{Factor}
use Rattle.logarithm_tables_theory.specs.Tables.{ln2, coarse_at}
use Rattle.logarithm_tables_theory.proofs.Areas.{bounds_rounded}
use Rattle.logarithm_tables_theory.proofs.Walk.{U}
use Rattle.logarithm_tables_theory.proofs.Factors.{Coarse, Fine, coarse_at_lem, coarse_entry, fine_at_lem}
use Rattle.logarithm_theory.specs.declared.Scaled.{Scaled}
use Rattle.logarithm_theory.specs.Promise.{LnDomain}
use Rattle.logarithm_theory.specs.Evaluation.{Mantissa, NearOne, near_one_of, mantissa_ln_of, scaled_of}
use Rattle.logarithm_theory.proofs.Remainder.{near_one, near_small}
use Rattle.logarithm_theory.proofs.Octave.{scales}

-- what both factors come to
pub near : {w : ℕ} {f : Factor} → Fine w f → NearOne (w * f.by)
near l = omega arith

-- a and b times r are given as a' and b'
scaled : (r : ℕ) {S x y a b a' b' : ℕ} → 1 ≤ r → r * a ≡ a' → r * b ≡ b' → Bounds S x y a b → Bounds S x y a' b'
scaled r hr e f p = rw (← e, ← f) (bounds_times r hr p)

-- ---- the mantissa, by the chain c f y, 2^61, 2^47 f, c f 2^35

brought : {y : ℕ} {c f : Factor} → Mantissa y → Coarse y c → Fine (y * c.by) f →
    let r : ℕ = near_one_of (y * c.by * f.by) in
    Bounds U (c.logarithm + f.logarithm + r) (c.logarithm + f.logarithm + r + 89) y (2 ^ 35)
brought {y} {c} {f} m k l =
    let r : ℕ = near_one_of (y * c.by * f.by) in
    let same : c.by * f.by * y ≡ y * c.by * f.by = omega arith in
    let third : c.by * f.by * 2 ^ 35 ≤ 2 ^ 47 * f.by = omega (arith, mul-le-mul_right f.by k.up) in
    bounds_over (c.by * f.by) (one-le-mul k.some l.some) (omega arith) m.least
    (bounds_wider U _ _ (omega arith) (omega arith) (omega arith) (omega arith)
    (bounds_plus U {x = r} {y = r + 64} {c = 2 ^ 61} (omega arith) (omega arith) (omega (arith, l.least))
    (rw same (near_one (near l)))
    (bounds_plus U (omega arith) third (omega arith) (bounds_times (2 ^ 47) (omega arith) l.entry)
    (scaled (2 ^ 35 * f.by) (omega (arith, l.some)) (omega arith) (omega arith) k.entry))))

-- what the code rests on, and the bounds, at the tables' entries
pub record MantissaLn (y : ℕ) : Type 0 where
  pub bounds : Bounds U (mantissa_ln_of y) (mantissa_ln_of y + 89) y (2 ^ 35)
  pub small : mantissa_ln_of y ≤ 5_680_000_000_000

pub mantissa_ln : {y : ℕ} → Mantissa y → MantissaLn y
unfolding mantissa_ln_of
mantissa_ln {y} m =
    let k = coarse_at_lem y m.least m.most in
    let l = fine_at_lem _ k.least k.most in
    record { bounds = brought m k l; small = omega (arith, near_small (near l)) }

-- ---- k octaves

one_octave : Bounds U ln2 (ln2 + 23) 2 1
unfolding coarse_at
one_octave = bounds_over 2048 (omega arith) (omega arith) (omega arith) (coarse_entry 64 (omega arith))

octaves : (k : ℕ) → Bounds U (k * ln2) (k * (ln2 + 23)) (2 ^ k) 1
octaves zero = bounds_same (omega arith) (omega arith)
octaves (suc k) =
    bounds_wider U _ _ (omega arith) (omega arith) (omega arith) (omega arith)
    (bounds_plus U {c = 2 ^ k} (omega arith) (pow_pos k) (omega arith)
    (scaled (2 ^ k) (pow_pos k) (omega arith) (omega arith) one_octave) (octaves k))

-- ---- a/b, by the chain 2^35 a, b 2^k y, b 2^k 2^35, 2^35 b

pub total : {a b : ℕ} → LnDomain a b → let s : Scaled = scaled_of a b in
    let x : ℕ = s.octave * ln2 + mantissa_ln_of s.mantissa in Bounds U x (x + 23 * s.octave + 209) a b
total {a} {b} d =
    let s : Scaled = scaled_of a b in
    let w = scales d in
    let y : ℕ = s.mantissa in
    let m = w.normal.mantissa in
    let base : ℕ = b * 2 ^ s.octave in
    let some : 1 ≤ base = one-le-mul d.least (pow_pos s.octave) in
    let second = mul-le-mul_left base m.least in
    let third : 2 ^ 35 * b ≤ base * 2 ^ 35 = omega (arith, mul-le-mul_left b (pow_pos s.octave)) in
    bounds_over (2 ^ 35) (omega arith) d.least d.order
    (bounds_wider U _ _ (omega arith) (omega arith) (omega arith) (omega arith)
    (bounds_plus U (omega arith) (le_trans third second) w.low
    (bounds_rounded U 120 base y (2 ^ 35 * a) (omega arith) some (omega arith) (omega arith) w.low w.high)
    (bounds_plus U {c = base * 2 ^ 35} (omega arith) third second (bounds_times base some (mantissa_ln m).bounds)
    (scaled (2 ^ 35 * b) (omega arith) (omega arith) (omega arith) (octaves s.octave)))))
