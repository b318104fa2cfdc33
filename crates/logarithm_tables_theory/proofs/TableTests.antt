-- The tests that antt computes over the two tables of factors.
use mathlib.Core.Bool.{Bool, ◌&&◌}
use Prim.Native.Nat.{ℕ, ◌+◌, ◌*◌}
use lib.Dec.{T, leb}
use Rattle.toolbox_theory.proofs.Tests.{every}
use Rattle.logarithm_tables_theory.specs.declared.Factor.{Factor}
use Rattle.logarithm_tables_theory.specs.Tables.{ln2, coarse, fine}
use Rattle.logarithm_tables_theory.proofs.Walk.{walks}

-- the factor at i, from 1 to top, brings what is from (cells + i)/cells to below (cells + i + 1)/cells to what is from
-- top to below most/cells
abbrev pub in_place : ℕ → ℕ → ℕ → ℕ → Factor → Bool
in_place cells top most i w =
    leb (top * cells) (w.by * (cells + i)) && (leb (w.by * (cells + i + 1)) most &&
    (leb 1 w.by && (leb w.by top && leb w.logarithm ln2)))

pub coarse_walks : T (walks 64 4096 23 coarse 262_144 0 0)
coarse_walks = tt

pub fine_walks : T (walks 16 16_384 2 fine 262_144 0 0)
fine_walks = tt

pub coarse_places : T (every (in_place 64 4096 266_240) 0 coarse)
coarse_places = tt

pub fine_places : T (every (in_place 4096 16_384 67_129_344) 0 fine)
fine_places = tt
