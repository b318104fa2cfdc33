-- A loop over the places of two arrays at once, each with its number.
use mathlib.Core.Path.{◌≡◌, ap, ◌∙◌}
use mathlib.Core.List.{List}
use Prim.Native.Nat.{ℕ, ◌+◌, ◌<◌}
use native.Mathlib.Omega.{arith}
use denote.Ref.{Bor}
use lib.ListN.{length, get_or}
use Rattle.std.specs.Prelude.{Option, Some}
use Rattle.std.specs.declared.iter.Enumerate.{Enumerate}
use Rattle.std.specs.declared.iter.Zip.{Zip}
use Rattle.std.specs.declared.slice.Iter.{Iter}
use Rattle.std.specs.Iterator.{Yields}
use Rattle.std.specs.Iterator.Adapters.{enumerate_source, enumerate_count, enumerate_steps, zip_first, zip_second}
use Rattle.std.specs.List.{enumerate_from, zip}
use Rattle.std.specs.Slice.Iter.{iter_rest}
use Rattle.std.proofs.iter.Yields.{fronts}
use Rattle.std.proofs.lemmas.Iterator.{zips, YieldsList-from_slice, YieldsList-from_zip}
use Rattle.std.proofs.lemmas.Iterator.Consumers.{YieldsList-from_enumerate, YieldsList-turn}
use Rattle.std.proofs.lemmas.List.{get_or_default}
use Rattle.std.proofs.lemmas.List.FromFn.{length-enumerate_from, get_or-enumerate_from}
use Rattle.std.proofs.lemmas.Slice.Zip.{length-zip, get_or-zip}

module _ {A B : Type 0} (xs : List A) (ys : List B) where
  -- turn k is at place k, with an element of each
  pub record Turn (k : ℕ) (i : ℕ) (x : A) (y : B) : Type 0 where
    pub number : i ≡ k
    pub first : (d : A) → x ≡ get_or xs k d
    pub second : (d : B) → y ≡ get_or ys k d

  -- the places
  abbrev places : List (ℕ × (A × B))
  places = enumerate_from 0 (zip xs ys)

  at_place : (k : ℕ) (p : ℕ × (A × B)) → k < length places → p ≡ get_or places k p → Turn k p.0 p.1.0 p.1.1
  at_place k p h e =
      let within : k < length (zip xs ys) = omega (arith, length-enumerate_from 0 (zip xs ys)) in
      let left : k < length xs = omega (arith, length-zip xs ys) in
      let right : k < length ys = omega (arith, length-zip xs ys) in
      let is : p ≡ (0 + k, get_or (zip xs ys) k p.1) = e ∙ get_or-enumerate_from 0 (zip xs ys) k p within in
      let both = ap (λ q. q.1) is ∙ get_or-zip xs ys k p.1 left right in
      record {
        number = omega (arith, ap (λ q. q.0) is);
        first = λ d. ap (λ q. q.0) both ∙ get_or_default xs k _ d left;
        second = λ d. ap (λ q. q.1) both ∙ get_or_default ys k _ d right;
      }

  -- what a loop that began with s has next, after the turns ps
  pub turn : (s : Enumerate (Zip (Iter A) (Iter B))) (ps : List (ℕ × (Bor A × Bor B)))
      (t u : Enumerate (Zip (Iter A) (Iter B))) {r : Option (ℕ × (Bor A × Bor B))} {i : ℕ} {x : Bor A} {y : Bor B} →
      Yields (enumerate_steps (zips fronts fronts)) s ps t → enumerate_steps (zips fronts fronts) t r u →
      r ≡ Some (i, (x, y)) → enumerate_count s ≡ 0 → iter_rest (zip_first (enumerate_source s)) ≡ xs →
      iter_rest (zip_second (enumerate_source s)) ≡ ys → Turn (length ps) i x.now y.now
  turn s ps t u {r} {i} {x} {y} so_far step is none left right =
      let pairs = YieldsList-from_zip (YieldsList-from_slice xs left) (YieldsList-from_slice ys right) in
      let h = YieldsList-turn (YieldsList-from_enumerate pairs none) ps t so_far r u (i, (x, y)) is step in
      at_place _ _ h.0 h.1
