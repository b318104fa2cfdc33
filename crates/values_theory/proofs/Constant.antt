-- Formulas whose pair is one number at every fineness, found by computing.
use mathlib.Core.Path.{◌≡◌}
use mathlib.Core.Bool.{Bool, true, false, ◌&&◌}
use Rattle.std.specs.Prelude.{Option, Some, None}
use Prim.Native.Nat.{ℕ, ◌≤◌}
use native.Mathlib.Nat.{le_refl, sub_self}
use borrow.Author.Tests.{le-leb}
use lib.Dec.{T, eqb, leb, ltb, eqb→eq, leb→le, ltb→lt}
use Rattle.toolbox_theory.proofs.Tests.{and_left, and_right}
use Rattle.exact_theory.proofs.PairLaws.{span_has}
use Rattle.exact_theory.specs.Fraction.{Fraction, le_q, ◌≈q◌, zero_q, ◌+q◌, ◌-q◌, ◌*q◌, ◌/q◌}
use Rattle.exact_theory.specs.Pair.{Pair, exactly, ◌+p◌, ◌-p◌, ◌*p◌, ◌/p◌, span4}
use Rattle.exact_theory.specs.Logarithm.{harmonic, lower_sum, upper_sum, ln_pair}
use Rattle.exact_theory.specs.Formula.{Formula, stated, ln, root, ◌⊕◌, ◌⊖◌, ◌⊗◌, ◌⊘◌, if_up_to, eval, Defined}
use Rattle.exact_theory.proofs.FractionLaws.{≤q_antisym}
use Rattle.exact_theory.proofs.AlgebraLaws.{≈q_refl, ≈q_trans, add_cong, neg_cong, mul_cong_left, mul_cong_right}
use Rattle.exact_theory.proofs.AlgebraLaws.{mul_zero}
use Rattle.exact_theory.proofs.Points.{Positive, positive_ln}
use Rattle.values_theory.specs.Table.{HasEnds}

-- ---- numbers that are the same

unfoldable pub same : Fraction → Fraction → Bool
same x y = le_q x y && le_q y x

pub same_is : {x y : Fraction} → T (same x y) → x ≈q y
unfolding same
same_is t = search (and_left, and_right, ≤q_antisym)

-- ---- one operation

-- both ends of P are x
abbrev pub Is : Pair → Fraction → Type 0
Is P x = HasEnds P x x

-- what is the same as x is x
pub is_same : {P : Pair} {x y : Fraction} → Is P x → T (same x y) → Is P y
is_same p t = record { low = ≈q_trans p.low (same_is t); high = ≈q_trans p.high (same_is t) }

module _ {x y : Fraction} {P Q : Pair} (p : Is P x) (q : Is Q y) where
  pub add_is : Is (P +p Q) (x +q y)
  unfolding ◌+p◌
  add_is = record { low = add_cong p.low q.low; high = add_cong p.high q.high }

  pub sub_is : Is (P -p Q) (x -q y)
  unfolding ◌-p◌ ◌-q◌
  sub_is = record { low = add_cong p.low (neg_cong q.high); high = add_cong p.high (neg_cong q.low) }

-- the least and the greatest of four that are equal
span_is : {a b c d x : Fraction} → a ≈q x → b ≈q x → c ≈q x → d ≈q x → Is (span4 a b c d) x
span_is {x = x} a b c d = let s = span_has (λ m. m ≈q x) a b c d in record { low = s.0; high = s.1 }

mul_both : {x x' y y' : Fraction} → x ≈q x' → y ≈q y' → x *q y ≈q x' *q y'
mul_both {x' = x'} {y} p q = ≈q_trans (mul_cong_left y p) (mul_cong_right x' q)

pub mul_is : {x y : Fraction} {P Q : Pair} → Is P x → Is Q y → Is (P *p Q) (x *q y)
unfolding ◌*p◌
mul_is p q = search (span_is, mul_both)

pub none_over_is : {P : Pair} (Q : Pair) → Is P zero_q → Is (P /p Q) zero_q
unfolding ◌/p◌ ◌/q◌
none_over_is Q p = search (span_is, mul_zero)

-- equal arguments: at no fineness is there a term to sum
pub ln_is : (a n : ℕ) → Is (eval n (ln a a)) zero_q
unfolding eval ln_pair lower_sum upper_sum harmonic
ln_is a n = simp (le-leb a a (le_refl a), sub_self) (record { low = ≈q_refl zero_q; high = ≈q_refl zero_q })

-- ---- what is found by computing

-- what a test shows, where it passes
unfoldable pub when : {A : Type 0} (b : Bool) → (T b → A) → Option A
when true f = Some (f tt)
when false f = None

-- e is x at fineness n, and defined
abbrev pub At : ℕ → Formula → Fraction → Type 0
At n e x = Defined n e × Is (eval n e) x

-- the number that e is at every fineness
pub record Constant (e : Formula) : Type 0 where
  pub number : Fraction
  pub at : (n : ℕ) → 1 ≤ n → At n e number

unfoldable pub merged : {e f g : Formula} (op : Fraction → Fraction → Fraction) →
    ((n : ℕ) (x y : Fraction) → At n e x → At n f y → At n g (op x y)) →
    Option (Constant e) → Option (Constant f) → Option (Constant g)
merged op step None y = None
merged op step (Some x) None = None
merged op step (Some x) (Some y) = Some (record {
  number = op x.number y.number;
  at = λ n h. step n x.number y.number (x.at n h) (y.at n h);
})

-- 0 over what is above zero
unfoldable pub zero_over : {e f : Formula} → Option (Constant e) → Option (Positive f) → Option (Constant (e ⊘ f))
unfolding eval Defined
zero_over None q = None
zero_over (Some x) None = None
zero_over {f = f} (Some x) (Some q) = when (same x.number zero_q) (λ t. record {
  number = zero_q;
  at = λ n h. (((x.at n h).0, q.defined n h, q.above n h), none_over_is (eval n f) (is_same (x.at n h).1 t));
})

-- f is a logarithm above zero
unfoldable pub positive : (f : Formula) → Option (Positive f)
positive (stated x) = None
positive (ln a b) = when (leb 1 b && ltb b a) (λ t. search (and_left, and_right, leb→le, ltb→lt, positive_ln))
positive (root X) = None
positive (e ⊕ f) = None
positive (e ⊖ f) = None
positive (e ⊗ f) = None
positive (e ⊘ f) = None
positive (if_up_to e f A B) = None

unfoldable pub ln_constant : (a b : ℕ) → 1 ≤ a → a ≡ b → Constant (ln a b)
unfolding Defined
ln_constant a b h e = record { number = zero_q; at = λ n g. rw (← e) ((h, h), ln_is a n) }

-- the number, if it is found
unfoldable pub constant : (e : Formula) → Option (Constant e)
unfolding eval Defined exactly
constant (stated x) = Some (record { number = x; at = λ n h. (tt, record { low = ≈q_refl x; high = ≈q_refl x }) })
constant (ln a b) = when (leb 1 a && eqb a b) (λ t. search (and_left, and_right, leb→le, eqb→eq, ln_constant))
constant (root X) = None
constant (e ⊕ f) = merged ◌+q◌ (λ n x y p q. ((p.0, q.0), add_is p.1 q.1)) (constant e) (constant f)
constant (e ⊖ f) = merged ◌-q◌ (λ n x y p q. ((p.0, q.0), sub_is p.1 q.1)) (constant e) (constant f)
constant (e ⊗ f) = merged ◌*q◌ (λ n x y p q. ((p.0, q.0), mul_is p.1 q.1)) (constant e) (constant f)
constant (e ⊘ f) = zero_over (constant e) (positive f)
constant (if_up_to e f A B) = None
