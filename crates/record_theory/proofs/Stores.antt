-- The record of a scenario as runs of stores.
use mathlib.Core.Path.{◌≡◌, refl, ◌∙◌}
use mathlib.Core.List.{List, ◌∷◌, ◌++◌, append-nil, append_assoc}
use Prim.Native.Nat.{ℕ, ◌+◌, ◌≤◌}
use native.Mathlib.Omega.{arith}
use lib.ListN.{length, take, drop, length-append}
use lib.Seq.{sets}
use Rattle.scenario_theory.specs.declared.Scenario.{Scenario}
use Rattle.stores_theory.specs.Stores.{Put}
use Rattle.stores_theory.proofs.StoreLaws.{sets_front, put_then}
use Rattle.scenario_theory.specs.Distances.{rupture_number, projection_number}
use Rattle.record_theory.specs.Layout.{◌unless◌, absent_velocity, absent_mechanism, absent_period, layout, map_of}
use Rattle.record_theory.specs.Layout.{part_of, parts_of, record_of}

module _ (x : Scenario) where
  -- ---- the fields between the magnitude and the period

  pub middle_length : length (parts_of (take 3 (drop 2 layout)) x) ≡
      length (part_of 2 (rupture_number x.rupture)) +
      (length (part_of 2 (x.velocity unless absent_velocity)) +
      length (part_of 1 (x.mechanism unless absent_mechanism)))
  unfolding parts_of
  middle_length = simp (length-append, append-nil)

  pub middle_stores : {l l1 l2 l3 : List ℕ} {a b c : ℕ} → Put 4 (part_of 2 (rupture_number x.rupture)) l a l1 →
      Put a (part_of 2 (x.velocity unless absent_velocity)) l1 b l2 →
      Put b (part_of 1 (x.mechanism unless absent_mechanism)) l2 c l3 →
      Put 4 (parts_of (take 3 (drop 2 layout)) x) l c l3
  unfolding parts_of
  middle_stores p q r = simp append-nil (put_then p (put_then q r))

  -- ---- the period and the projection distance

  pub end_length : length (parts_of (drop 5 layout) x) ≡
      length (part_of 2 (x.period unless absent_period)) + length (part_of 2 (projection_number x.projection))
  unfolding parts_of
  end_length = simp (length-append, append-nil)

  pub end_stores : {l l1 l2 : List ℕ} {a b c : ℕ} → Put a (part_of 2 (x.period unless absent_period)) l b l1 →
      Put b (part_of 2 (projection_number x.projection)) l1 c l2 → Put a (parts_of (drop 5 layout) x) l c l2
  unfolding parts_of
  end_stores p q = simp append-nil (put_then p q)

  -- ---- the whole record

  pub record_length : length (record_of x) ≡
      4 + (length (parts_of (take 3 (drop 2 layout)) x) + length (parts_of (drop 5 layout) x))
  unfolding record_of parts_of
  record_length = simp (length-append, append-nil) (omega arith)

  -- its parts are one after the other
  all_parts : (m : ℕ) → m ≡ map_of layout x →
      (m ∷ parts_of (take 2 layout) x) ++ (parts_of (take 3 (drop 2 layout)) x ++ parts_of (drop 5 layout) x) ≡
      record_of x
  unfolding record_of parts_of
  all_parts m e = rw e (simp append_assoc refl)

  pub record_stores : (m : ℕ) (l : List ℕ) {l1 l2 l3 : List ℕ} {a b : ℕ} → m ≡ map_of layout x →
      l1 ≡ sets l 0 (m ∷ parts_of (take 2 layout) x) → Put 4 (parts_of (take 3 (drop 2 layout)) x) l1 a l2 →
      Put a (parts_of (drop 5 layout) x) l2 b l3 → length (record_of x) ≤ length l →
      l3 ≡ record_of x ++ drop (length (record_of x)) l
  unfolding parts_of
  record_stores m l {l1} e front middle end h =
      let head : Put 0 (m ∷ parts_of (take 2 layout) x) l 4 l1 = record { place = refl; bytes = front } in
      (put_then head (put_then middle end)).bytes ∙ rw (all_parts m e) (sets_front l (record_of x) h)
