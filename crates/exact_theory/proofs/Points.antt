-- The fact about pairs. Put a point of its pair for each logarithm and root of a formula: the value that the formula
-- then has lies in the formula's pair. So ends that hold this value enclose the formula. One fact serves every
-- operation.
use mathlib.Core.Path.{◌≡◌, refl}
use mathlib.Core.Bool.{cond}
use Prim.Native.Nat.{ℕ, ◌*◌, ◌≤◌, ◌<◌}
use native.Mathlib.Omega.{arith}
use Rattle.exact_theory.specs.Fraction.{Fraction, le_q, ◌+q◌, ◌-q◌, ◌*q◌, ◌/q◌}
use Rattle.exact_theory.specs.Pair.{Pair, ◌∈◌, AboveZero}
use Rattle.exact_theory.specs.Logarithm.{ln_pair}
use Rattle.exact_theory.specs.Root.{whole_root, root_pair}
use Rattle.exact_theory.specs.Formula.{Formula, stated, ln, root, ◌⊕◌, ◌⊖◌, ◌⊗◌, ◌⊘◌, if_up_to, eval, Defined}
use Rattle.exact_theory.specs.Formula.{ln_q, Encloses}
use Rattle.exact_theory.proofs.FractionLaws.{Is, num_natural}
use Rattle.exact_theory.proofs.PairLaws.{Proper, in_exactly, in_proper, low_in, in_add, in_sub, in_mul, in_div}
use Rattle.exact_theory.proofs.PairLaws.{in_branch, above_mul}
use Rattle.exact_theory.proofs.LogarithmLaws.{ln_proper, ln_above}
use Rattle.exact_theory.proofs.RootLaws.{values_proper}

-- a point for each logarithm and each root
pub record Points : Type 0 where
  pub ln_at : ℕ → ℕ → Fraction
  pub root_at : ℕ → Fraction

-- the value of a formula at these points
unfoldable pub value : Points → Formula → Fraction
value σ (stated x) = x
value σ (ln a b) = σ.ln_at a b
value σ (root X) = σ.root_at X
value σ (e ⊕ f) = value σ e +q value σ f
value σ (e ⊖ f) = value σ e -q value σ f
value σ (e ⊗ f) = value σ e *q value σ f
value σ (e ⊘ f) = value σ e /q value σ f
value σ (if_up_to e f A B) = cond (le_q (value σ e) (value σ f)) (value σ A) (value σ B)

-- the logarithm of a/b by its own a and b
pub ln_q_is : {x : Fraction} {a b : ℕ} → Is x a 0 b → ln_q x ≡ ln a b
unfolding ln_q
ln_q_is i = rw (num_natural i, i.scale) refl

-- each is a point of its pair at fineness n
pub record Picked (n : ℕ) (σ : Points) : Type 0 where
  pub ln_in : (a b : ℕ) → 1 ≤ a → 1 ≤ b → σ.ln_at a b ∈ ln_pair n a b
  pub root_in : (X : ℕ) → σ.root_at X ∈ root_pair n X

-- ---- the fact

module _ {n : ℕ} {σ : Points} (picked : Picked n σ) where
  pub value_in : (e : Formula) → Defined n e → value σ e ∈ eval n e
  unfolding value eval Defined
  value_in (stated x) d = in_exactly x
  value_in (ln a b) d = picked.ln_in a b d.0 d.1
  value_in (root X) d = picked.root_in X
  value_in (e ⊕ f) d = in_add (value_in e d.0) (value_in f d.1)
  value_in (e ⊖ f) d = in_sub (value_in e d.0) (value_in f d.1)
  value_in (e ⊗ f) d = in_mul (value_in e d.0) (value_in f d.1)
  value_in (e ⊘ f) d = in_div d.2 (value_in e d.0) (value_in f d.1)
  value_in (if_up_to e f A B) d =
      in_branch (value_in e d.0) (value_in f d.1) (λ t. value_in A (d.2 t)) (λ t. value_in B (d.3 t))

-- so a formula's pair is proper: its low ends are points
pub eval_proper : {n : ℕ} → 1 ≤ n → (e : Formula) → Defined n e → Proper (eval n e)
unfolding root_pair
eval_proper {n} g e d =
    let lows : Picked n (record { ln_at = λ a b. (ln_pair n a b).low; root_at = λ X. (root_pair n X).low }) = record {
      ln_in = λ a b ha hb. low_in (ln_proper ha hb n g);
      root_in = λ X. low_in (values_proper n (whole_root (X * (n * n))) g);
    } in in_proper (value_in lows e d)

-- ---- where every divisor is above zero

-- e is defined and above zero at every fineness: it may be a divisor
pub record Positive (e : Formula) : Type 0 where
  pub defined : (n : ℕ) → 1 ≤ n → Defined n e
  pub above : (n : ℕ) → 1 ≤ n → AboveZero (eval n e)

pub positive_ln : {a b : ℕ} → 1 ≤ b → b < a → Positive (ln a b)
unfolding eval Defined
positive_ln hb hab = record { defined = λ n g. (omega arith, hb); above = ln_above hb hab }

pub positive_product : {e f : Formula} → Positive e → Positive f → Positive (e ⊗ f)
unfolding eval Defined
positive_product {e} {f} p q = record {
  defined = λ n g. (p.defined n g, q.defined n g);
  above = λ n g.
      above_mul (p.above n g) (q.above n g) (eval_proper g e (p.defined n g)) (eval_proper g f (q.defined n g));
}

-- logarithms are of numbers of at least 1, and divisors are above zero at every fineness
unfoldable pub Sound : Formula → Type 0
Sound (stated x) = Unit {0}
Sound (ln a b) = (1 ≤ a) × (1 ≤ b)
Sound (root X) = Unit {0}
Sound (e ⊕ f) = Sound e × Sound f
Sound (e ⊖ f) = Sound e × Sound f
Sound (e ⊗ f) = Sound e × Sound f
Sound (e ⊘ f) = Sound e × Positive f
Sound (if_up_to e f A B) = Sound e × Sound f × Sound A × Sound B

module _ (n : ℕ) (g : 1 ≤ n) where
  sound_defined : (e : Formula) → Sound e → Defined n e
  unfolding Sound Defined
  sound_defined (stated x) s = tt
  sound_defined (ln a b) s = s
  sound_defined (root X) s = tt
  sound_defined (e ⊕ f) s = (sound_defined e s.0, sound_defined f s.1)
  sound_defined (e ⊖ f) s = (sound_defined e s.0, sound_defined f s.1)
  sound_defined (e ⊗ f) s = (sound_defined e s.0, sound_defined f s.1)
  sound_defined (e ⊘ f) s = (sound_defined e s.0, s.1.defined n g, s.1.above n g)
  sound_defined (if_up_to e f A B) s =
      (sound_defined e s.0, sound_defined f s.1, λ t. sound_defined A s.2, λ t. sound_defined B s.3)

-- ---- from points to an enclosure

-- points of the pairs at fineness n, at which e has a value in P
pub record Witness (n : ℕ) (P : Pair) (e : Formula) : Type 0 where
  pub points : Points
  pub picked : Picked n points
  pub held : value points e ∈ P

pub encloses_by : {e : Formula} {P : Pair} → Sound e → ((n : ℕ) → 1 ≤ n → Witness n P e) → Encloses P e
encloses_by {e} s w = record {
  defined = λ n g. sound_defined n g e s;
  meets = λ n g. record {
    point = value (w n g).points e;
    left = (w n g).held;
    right = value_in (w n g).picked e (sound_defined n g e s);
  };
}
