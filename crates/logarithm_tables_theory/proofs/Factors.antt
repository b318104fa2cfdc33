-- What the tables' entries do: the coarse one brings a mantissa y near 2^47, the fine one brings that near 2^61.
use mathlib.Core.List.{List}
use Prim.Native.Nat.{ℕ, ◌+◌, ◌*◌, ◌-◌, ◌/◌, ◌^◌, ◌≤◌, ◌<◌}
use native.Mathlib.Nat.{mul-le-mul_right, zero-add}
use native.Mathlib.Omega.{arith}
use lib.Dec.{T, leb→le}
use lib.ListN.{length, get_or}
use Rattle.toolbox_theory.proofs.Tests.{and_left, and_right, every, every_at}
use Rattle.logarithm_tables_theory.specs.declared.Factor.{Factor}
use Rattle.logarithm_tables_theory.specs.Tables.{ln2, coarse, coarse_at, fine, fine_at}
use Rattle.logarithm_tables_theory.proofs.Walk.{Entry, walks, table_entry}
use Rattle.logarithm_tables_theory.proofs.TableTests.{in_place, coarse_walks, fine_walks, coarse_places}
use Rattle.logarithm_tables_theory.proofs.TableTests.{fine_places}

-- ---- a factor at its place

-- w brings y to what is from top cells D to below end D, and its logarithm is right to δ
pub record Brings (cells top end δ D y : ℕ) (w : Factor) : Type 0 where
  pub entry : Entry top δ w
  pub some : 1 ≤ w.by
  pub up : w.by ≤ top
  pub small : w.logarithm ≤ ln2
  pub least : top * cells * D ≤ y * w.by
  pub most : y * w.by < end * D

-- by the two tests of a table, each of its entries does; y is from (cells + i) D to below (cells + i + 1) D
module _ (c cells top most δ D : ℕ) (ws : List Factor) (hc : 1 ≤ c) (ht : 1 ≤ c * top)
    (walk : T (walks c top δ ws (c * top) 0 0)) (places : T (every (in_place cells top most) 0 ws)) where
  brings : (d : Factor) (i y : ℕ) → i < length ws → (cells + i) * D ≤ y → y < (cells + i + 1) * D →
      Brings cells top most δ D y (get_or ws i d)
  brings d i y h g k =
      let t = rw zero-add at (every_at (in_place cells top most) d 0 ws places i h) in
      let some : 1 ≤ (get_or ws i d).by = search (and_left, and_right, leb→le) in
      let low : top * cells ≤ (get_or ws i d).by * (cells + i) = search (and_left, leb→le) in
      let high : (get_or ws i d).by * (cells + i + 1) ≤ most = search (and_left, and_right, leb→le) in
      record {
        entry = table_entry c top δ hc ws ht walk d i h;
        some = some;
        up = search (and_left, and_right, leb→le);
        small = search (and_right, leb→le);
        least = omega (arith, mul-le-mul_right (get_or ws i d).by g, mul-le-mul_right D low);
        most = omega (arith, mul-le-mul_right (get_or ws i d).by k, mul-le-mul_right D high);
      }

-- ---- the two tables

abbrev pub Coarse : ℕ → Factor → Type 0
Coarse y c = Brings 64 4096 266_240 23 (2 ^ 29) y c

pub coarse_at_lem : (y : ℕ) → 2 ^ 35 ≤ y → y < 2 ^ 36 → Coarse y (coarse_at (y / 2 ^ 29 - 64))
unfolding coarse_at
coarse_at_lem y p q =
    brings 64 64 4096 266_240 23 (2 ^ 29) coarse (omega arith) (omega arith) coarse_walks coarse_places
    _ (y / 2 ^ 29 - 64) y (omega arith) (omega arith) (omega arith)

-- its logarithms alone, the last of which is ln 2
pub coarse_entry : (i : ℕ) → i ≤ 64 → Entry 4096 23 (coarse_at i)
unfolding coarse_at
coarse_entry i h = table_entry 64 4096 23 (omega arith) coarse (omega arith) coarse_walks _ i (omega arith)

abbrev pub Fine : ℕ → Factor → Type 0
Fine w f = Brings 4096 16_384 67_129_344 2 (2 ^ 35) w f

pub fine_at_lem : (w : ℕ) → 2 ^ 47 ≤ w → w < 4160 * 2 ^ 35 → Fine w (fine_at (w / 2 ^ 35 - 4096))
unfolding fine_at
fine_at_lem w p q =
    brings 16 4096 16_384 67_129_344 2 (2 ^ 35) fine (omega arith) (omega arith) fine_walks fine_places
    _ (w / 2 ^ 35 - 4096) w (omega arith) (omega arith) (omega arith)
