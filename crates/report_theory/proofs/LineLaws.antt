-- The line of an answer in the parts that the code puts, and what is left of the lent bytes.
use mathlib.Core.Path.{◌≡◌, refl, sym}
use mathlib.Core.Bool.{Bool, true, false, cond}
use mathlib.Core.List.{List, [], ◌∷◌, ◌++◌, append_assoc, append-nil}
use Prim.Native.Nat.{ℕ, ◌≤◌}
use native.Mathlib.Omega.{arith}
use borrow.Author.Tests.{le-ltb}
use lib.ListN.{length, take, drop, length-append}
use lib.Seq.{take_at}
use mir.ValLaws.{to_z-of_z}
use lib.IntN.{ℤ, pos, nat_abs}
use lib.Signed.{lt_z}
use Rattle.interval_theory.specs.declared.Ends.{Ends}
use Rattle.engine_theory.specs.declared.Enclosure.{Enclosure}
use Rattle.engine_theory.specs.Promise.{Answer}
use Rattle.std.specs.Prelude.{Ok, Err}
use Rattle.scenario_theory.specs.declared.Refusal.{Refusal}
use Rattle.scenario_theory.specs.Numbers.{refusal_number}
use Rattle.report_theory.specs.Text.{decimal, signed_decimal, spaced}
use Rattle.report_theory.specs.Lines.{line_of, refused_line_of, numbered_line_of, last_line_of, length_on, bytes_after}
use Rattle.report_theory.specs.Steps.{ends_bytes}
use Rattle.report_theory.proofs.TextLaws.{decimal_most}

-- ---- the parts of a line

pub enclosed_parts : (position : ℕ) (e : Enclosure ℤ) →
    line_of position (Ok e)
    ≡ decimal position ++ (32 ∷ 69 ∷ []) ++ ends_bytes e.median ++ ends_bytes e.sigma
unfolding line_of spaced
enclosed_parts position e = simp (append_assoc, append-nil)

pub refused_parts : (position : ℕ) (r : Refusal) →
    line_of position (Err r) ≡ decimal position ++ (32 ∷ 82 ∷ 32 ∷ []) ++ decimal (refusal_number r)
unfolding line_of spaced
refused_parts position r = simp (append_assoc, append-nil)

-- ---- on lent bytes: what is said of a line of n bytes

module _ (line lent : List ℕ) {n : ℕ} where
  -- where it fits, it is what is there
  pub fitting : {after : List ℕ} → length line ≤ length lent → n ≡ length_on line lent → after ≡ bytes_after line lent →
      (take n after ≡ line) × (n ≤ length after)
  unfolding length_on bytes_after
  fitting {after} h count is =
      let long = le-ltb (length lent) (length line) h in
      let size : n ≡ length line = rw long at count in
      let bytes : after ≡ line ++ drop (length line) lent = rw long at is in
      rw bytes (
        take_at line (drop (length line) lent) n (omega arith),
        omega (arith, length-append line (drop (length line) lent)),
      )

-- ---- sizes

sign_most : (minus : Bool) → length {A = ℕ} (cond minus (45 ∷ []) []) ≤ 1
sign_most true = omega arith
sign_most false = omega arith

pub signed_most : (z : ℤ) → length (signed_decimal z) ≤ 21
unfolding signed_decimal
signed_most z = omega (arith, sign_most (lt_z z (pos 0)), decimal_most (nat_abs z), length-append {A = ℕ})

pub ends_most : (e : Ends ℤ) → length (ends_bytes e) ≤ 44
unfolding spaced
ends_most e = omega (arith, signed_most e.low, signed_most e.high, length-append {A = ℕ})

-- what a line is and how long it is at most, after each part of it that is put
pub ruleset lines = (
  append_assoc,
  append-nil,
  length-append,
  decimal_most,
  signed_most,
  ends_most,
  enclosed_parts,
  refused_parts,
  to_z-of_z,
)

-- the line of a `Refusal` is that of its number
pub refused_is : (position : ℕ) (r : Refusal) → line_of position (Err r) ≡ refused_line_of position (refusal_number r)
unfolding line_of
refused_is position r = refl

pub by_refusal : (position : ℕ) (a : Answer) → numbered_line_of refusal_number position a ≡ line_of position a
unfolding numbered_line_of
by_refusal position (Ok e) = refl
by_refusal position (Err r) = sym (refused_is position r)

-- no line is longer than this, whatever number a refusal has
pub refused_line_most : (position k : ℕ) → length (refused_line_of position k) ≤ 110
unfolding spaced
refused_line_most position k = omega (arith, decimal_most position, decimal_most k, length-append {A = ℕ})

pub line_most_lem : (position : ℕ) (a : Answer) → length (line_of position a) ≤ 110
line_most_lem position (Ok e) =
    rw (enclosed_parts position e)
    (omega (arith, decimal_most position, ends_most e.median, ends_most e.sigma, length-append {A = ℕ}))
line_most_lem position (Err r) = rw (refused_is position r) (refused_line_most position (refusal_number r))

pub last_line_most : (count : ℕ) → length (last_line_of count) ≤ 24
unfolding last_line_of
last_line_most count = omega (arith, decimal_most count)

-- how long each line is at most
pub ruleset page_steps = (append_assoc, length-append, line_most_lem, last_line_most)
