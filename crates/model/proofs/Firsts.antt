-- The numbers below n, and the first member of a list that passes a test. In a list in order it comes before every
-- other member that passes.
use Prim.Native.Nat.{ℕ, zero, suc, ◌<◌}
use native.Mathlib.Omega.{arith}
use mathlib.Core.Path.{◌≡◌, refl, sym, ap, ◌∙◌, subst}
use mathlib.Core.Logic.{◌⊎◌, inl, inr, ⊎_elim}
use mathlib.Core.Bool.{Bool, true, false, cond}
use mathlib.Core.List.{List, [], ◌∷◌}
use mathlib.Core.List.Memᴰ
use mathlib.Core.List.{Memᴰ}
use mathlib.Core.Option.{none, some, some-injective, none-ne-some}
use lib.Dec.{T}
use Rattle.model.specs.Pairwise.{Pairwise}
use Rattle.model.specs.Explanations.{below, first}
use Rattle.model.proofs.Tests.{true→T}
use Rattle.model.proofs.Pairwise.{pairwise_map}

-- ---- the numbers below n

-- They are exactly the numbers below n,
pub mem_below : (n j : ℕ) → j < n → Memᴰ j (below n)
unfolding below
mem_below zero j h = absurd (omega arith)
mem_below (suc n) zero h = Memᴰ.head refl
mem_below (suc n) (suc j) h = Memᴰ.tail (Memᴰ.map suc (mem_below n j (omega arith)))

pub of_below : (n j : ℕ) → Memᴰ j (below n) → j < n
unfolding below
of_below zero j m = absurd (Memᴰ.not-nil m)
of_below (suc n) j m =
    let later = of_below n in
    ⊎_elim
    (λ e. omega (arith, e))
    (λ i. let (k, at, e) = Memᴰ.of_map suc (below n) i in omega (arith, later k at, e))
    (Memᴰ.cases_cons m)

-- and each is less than those behind it.
pub pairwise_below : (n : ℕ) → Pairwise ◌<◌ (below n)
unfolding Pairwise below
pairwise_below zero = tt
pairwise_below (suc n) = (
  λ b i. let (k, at, e) = Memᴰ.of_map suc (below n) i in omega (arith, e),
  pairwise_map ◌<◌ ◌<◌ suc (below n) (pairwise_below n) (λ i j h. omega arith),
)

-- ---- the first member that passes a test

-- It is a member and passes, and every other member that passes comes after it.
pub record First {A : Type 0} (R : A → A → Type 0) (test : A → Bool) (l : List A) (a : A) : Type 0 where
  pub member : Memᴰ a l
  pub passes : T (test a)
  pub others : (b : A) → Memᴰ b l → T (test b) → (b ≡ a) ⊎ R a b

-- What `first` gives is that member.
pub first_some : {A : Type 0} (R : A → A → Type 0) (test : A → Bool) (l : List A) (a : A) → Pairwise R l
    → first test l ≡ some a → First R test l a
unfolding Pairwise first
first_some R test [] a p e = absurd (none-ne-some a e)
first_some {A} R test (c ∷ l) a p e = go (test c) refl (first_some R test l a p.1) e
  where
    go : (b : Bool) → test c ≡ b → (first test l ≡ some a → First R test l a)
        → cond b (some c) (first test l) ≡ some a → First R test (c ∷ l) a
    go true t later e =
        let same = some-injective c a e in
        record {
          member = Memᴰ.head (sym same);
          passes = subst (λ (d : A). T (test d)) same (true→T t);
          others = λ b m u.
              ⊎_elim (λ h. inl (h ∙ same)) (λ i. inr (subst (λ (d : A). R d b) same (p.0 b i)))
              (Memᴰ.cases_cons m);
        }
    go false t later e =
        let rest = later e in
        record {
          member = Memᴰ.tail rest.member;
          passes = rest.passes;
          others = λ b m u.
              ⊎_elim
              (λ h. absurd (subst T (ap test h ∙ t) u))
              (λ i. rest.others b i u)
              (Memᴰ.cases_cons m);
        }

-- Where it gives none, no member passes.
pub first_none : {A : Type 0} (test : A → Bool) (l : List A) → first test l ≡ none
    → (b : A) → Memᴰ b l → ¬ T (test b)
unfolding first
first_none test [] e b m u = Memᴰ.not-nil m
first_none {A} test (c ∷ l) e b m u = go (test c) refl (first_none test l) e
  where
    go : (d : Bool) → test c ≡ d → (first test l ≡ none → (b : A) → Memᴰ b l → ¬ T (test b))
        → cond d (some c) (first test l) ≡ none → ⊥
    go true t later e = none-ne-some c (sym e)
    go false t later e =
        ⊎_elim (λ h. subst T (ap test h ∙ t) u) (λ i. later e b i u) (Memᴰ.cases_cons m)
