-- How a crate above shows an enclosure. Take each logarithm and root for a number that lies within the engine's ends,
-- and show that the formula's value lies within the answer's: then the answer encloses the formula at every fineness.
use mathlib.Core.Path.{◌≡◌, refl}
use mathlib.Core.Bool.{cond}
use mathlib.Core.Logic.Dec
use Prim.Native.Nat.{ℕ, ◌^◌, ◌≤◌, ◌<◌}
use native.Mathlib.Nat.{le_of_lt, le_trans}
use native.Mathlib.Decide.{dec_le, dec_lt}
use native.Mathlib.Omega.{arith}
use borrow.Author.Tests.{le-leb, lt-leb}
use lib.Dec.{leb}
use lib.IntN.{pos}
use Rattle.exact_theory.specs.Fraction.{Fraction, neg_q}
use Rattle.exact_theory.specs.Pair.{Pair, ◌∈◌}
use Rattle.exact_theory.specs.Logarithm.{ln_pair}
use Rattle.exact_theory.specs.Root.{root_values}
use Rattle.exact_theory.specs.Formula.{Formula, eval, ends, Encloses}
use Rattle.exact_theory.proofs.FractionLaws.{≤q_refl, neg_anti}
use Rattle.exact_theory.proofs.LogarithmLaws.{ln_proper, ln_flipped}
use Rattle.exact_theory.proofs.Points.{Points, value, Picked, Sound, encloses_by}
use Rattle.interval_theory.specs.declared.SignedPair.{SignedPair}
use Rattle.interval_theory.specs.Signed.{ends_of}
use Rattle.interval_theory.proofs.SignedValues.{LiesIn, in_ends}
use Rattle.logarithm_theory.specs.Promise.{LnDomain, root_fineness}
use Rattle.logarithm_theory.specs.Evaluation.{ln_of, root_of}
use Rattle.logarithm_theory.proofs.Laws.{ln_of_promise, root_of_promise}

-- the engine's ends of a logarithm
abbrev pub ln_ends : ℕ → ℕ → Pair
ln_ends a b = ends (pos (ln_of a b).low) (pos (ln_of a b).high)

-- what is known of the points: they lie within the engine's ends, and the logarithm of a/b is that of b/a, negated
pub record Known (σ : Points) : Type 0 where
  pub ln_within : {a b : ℕ} → LnDomain a b → σ.ln_at a b ∈ ln_ends a b
  pub ln_negated : {a b : ℕ} → a < b → σ.ln_at a b ≡ neg_q (σ.ln_at b a)
  pub root_within : (X : ℕ) → σ.root_at X ∈ root_values root_fineness (root_of X)

-- ---- at fineness n such points are found

-- for 1 ≤ b ≤ a, a point of the logarithm's pair, and of the engine's ends where it has any
record Choice (n a b : ℕ) : Type 0 where
  point : Fraction
  exact : 1 ≤ b → b ≤ a → point ∈ ln_pair n a b
  within : LnDomain a b → point ∈ ln_ends a b

choice : (n a b : ℕ) → 1 ≤ n → Choice n a b
unfolding eval
choice n a b g = elim (Dec.and (Dec.and (dec_le 1 b) (dec_le b a)) (dec_lt a (2 ^ 29))) [
  | yes h ↦
      let m = (ln_of_promise {a = a} {b = b} (omega arith)).encloses.meets n g in
      record { point = m.point; exact = λ _ _. m.right; within = λ _. m.left }
  | no h ↦ record {
    point = (ln_pair n a b).low;
    exact = λ p q. record { from = ≤q_refl _; to = (ln_proper (le_trans p q) p n g).ordered };
    within = λ d. absurd (h ((d.least, d.order), d.small));
  }
]

module _ (n : ℕ) (g : 1 ≤ n) where
  abbrev points : Points
  points = record {
    ln_at = λ a b. cond (leb b a) (choice n a b g).point (neg_q (choice n b a g).point);
    root_at = λ X. ((root_of_promise X).encloses.meets n g).point;
  }

  known : Known points
  known = record {
    ln_within = λ {a} {b} d. rw (le-leb b a d.order) ((choice n a b g).within d);
    ln_negated = λ {a} {b} h. rw (lt-leb b a h, le-leb a b (le_of_lt h)) refl;
    root_within = λ X. ((root_of_promise X).encloses.meets n g).left;
  }

  picked : Picked n points
  unfolding eval
  picked = record {
    ln_in = λ a b ha hb. elim (dec_le b a) [
      | yes h ↦ rw (le-leb b a h) ((choice n a b g).exact hb h)
      | no h ↦
          let t : a < b = omega arith in
          let c = (choice n b a g).exact ha (le_of_lt t) in
          rw (lt-leb b a t, ln_flipped t n) (record { from = neg_anti c.to; to = neg_anti c.from })
    ];
    root_in = λ X. ((root_of_promise X).encloses.meets n g).right;
  }

-- ---- the only way up

-- every logarithm of f is of numbers of at least 1, every divisor above zero, and at whatever points are known, what f
-- comes to lies in P
pub record AtPoints (f : Formula) (P : Pair) : Type 0 where
  pub sound : Sound f
  pub held : (σ : Points) → Known σ → value σ f ∈ P

pub encloses : {f : Formula} {P : Pair} → AtPoints f P → Encloses P f
encloses h =
    encloses_by h.sound
    (λ n g. record { points = points n g; picked = picked n g; held = h.held (points n g) (known n g) })

-- the same of a signed pair, and so of its ends
pub record PairAtPoints (f : Formula) (a : SignedPair) : Type 0 where
  pub sound : Sound f
  pub held : (σ : Points) → Known σ → LiesIn (value σ f) a

pub at_ends : {f : Formula} (a : SignedPair) → PairAtPoints f a → AtPoints f (ends (ends_of a).low (ends_of a).high)
at_ends a h = record { sound = h.sound; held = λ σ known. in_ends a (h.held σ known) }
