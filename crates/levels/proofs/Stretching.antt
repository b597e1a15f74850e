-- Two stretches with the same events: what more to pay behind the last gap makes of the number of steps, and when one
-- is finished wherever the other is.
use Prim.Native.Nat.{ℕ, zero, suc, ◌+◌, ◌≤◌, ◌<◌}
use native.Mathlib.Nat.{le_trans, lt_of_le_of_lt}
use native.Mathlib.Omega.{arith}
use mathlib.Core.Path.{◌≡◌, refl, sym, ◌∙◌, subst}
use mathlib.Core.Logic.{◌⊎◌, inl, inr, ⊎_elim, ◌↔◌}
use mathlib.Core.Bool.{Bool, true, false, cond, not, ◌&&◌}
use lib.Dec.{T, eqb, eqb→eq}
use lib.Ieee.Fits.{eq→eqb}
use Rattle.model.specs.Cxl0.{event, L, R, M}
use Rattle.model.specs.Cxl0.{Event, LStore, RStore, MStore, Load, LFlush, RFlush, Crash, SetCrash, RMW}
use Rattle.model.specs.Sharers.{has}
use Rattle.model.specs.OneLocation.{Site, enabled_at, effect, moved}
use Rattle.rows.specs.Rows.{state}
use Rattle.levels.specs.Stretches.{FAR, Stretch, state_at, Finishes, ends, acts, writes, moves, Inner}

-- ---- what is to pay behind the last gap

-- The stretch with n steps to pay behind its last gap.
abbrev pub ending : Stretch → ℕ → Stretch
ending q n =
    record {
      site = q.site;
      copy = q.copy;
      memory = q.memory;
      event = q.event;
      back = q.back;
      end = q.end;
      accepts = q.accepts;
      last = n;
    }

-- The stretch without write-backs.
abbrev pub dry : Stretch → Stretch
dry q =
    record {
      site = q.site;
      copy = q.copy;
      memory = q.memory;
      event = q.event;
      back = λ t. FAR;
      end = q.end;
      accepts = q.accepts;
      last = q.last;
    }

-- Code c reaches the last gap without a write-back, in so many moves that with n steps behind it they are at most l.
abbrev pub Through : Stretch → (n t c l : ℕ) → Type 0
Through q n t c l = (a : ℕ) × Finishes (ending (dry q) 0) t c a × (a + n ≤ l)

module _ (q : Stretch) (n : ℕ) where
  -- What finishes has a write-back on its way, or goes through without one.
  apart : {t c l : ℕ} → Finishes (ending q n) t c l → Finishes (ending q FAR) t c l ⊎ Through q n t c l
  apart (ends e v h) = inr (0, ends {l = 0} e v (omega arith), omega arith)
  apart (acts b e f) = ⊎_elim (λ g. inl (acts b e g)) (λ g. inr (g.0, acts b e g.1, g.2)) (apart f)
  apart (writes h b) = inl (writes h b)
  apart (moves i v f) =
      ⊎_elim (λ g. inl (moves i v g)) (λ g. inr (suc g.0, moves i v g.1, omega (arith, g.2))) (apart f)

  -- With a write-back on its way it finishes whatever is to pay behind the last gap.
  backward : {t c l : ℕ} → l < FAR → Finishes (ending q FAR) t c l → Finishes (ending q n) t c l
  backward far (ends e v h) = absurd (omega arith)
  backward far (acts b e f) = acts b e (backward far f)
  backward far (writes h b) = writes h b
  backward far (moves i v f) = moves i v (backward (omega arith) f)

  -- And what goes through without one finishes.
  through : {t c a l : ℕ} → l < FAR → Finishes (ending (dry q) 0) t c a → a + n ≤ l → Finishes (ending q n) t c l
  through {l} far (ends e v h) le = ends {l = l} e v (omega arith)
  through far (acts b e f) le = acts b e (through far f le)
  through far (writes h b) le = absurd (omega arith)
  through {l = zero} far (moves i v f) le = absurd (omega arith)
  through {l = suc l} far (moves i v f) le = moves {l = l} i v (through (omega arith) f (omega arith))

  -- The steps of a stretch with n steps to pay behind its last gap are those of a way with a write-back, or n more than
  -- those of a way without one.
  pub linear : (t c l : ℕ) → l < FAR
      → Finishes (ending q n) t c l ↔ (Finishes (ending q FAR) t c l ⊎ Through q n t c l)
  linear t c l far = (apart, ⊎_elim (backward far) (λ g. through far g.1 g.2))

-- ---- the same events at another memory

-- The code after an event depends on the code before it alone.
pub code_after : (k : Site) (e : Event) (c u m v n : ℕ)
    → (effect k (event e) (state c u m)).code ≡ (effect k (event e) (state c v n)).code
unfolding effect
code_after k (LStore i x w) c u m v n = refl
code_after k (RStore i x w) c u m v n = refl
code_after k (MStore i x w) c u m v n = refl
code_after k (Load i x w) c u m v n = refl
code_after k (LFlush i x) c u m v n = refl
code_after k (RFlush i x) c u m v n = refl
code_after k (Crash i) c u m v n = refl
code_after k (SetCrash set) c u m v n = refl
code_after k (RMW L i x w z) c u m v n = refl
code_after k (RMW R i x w z) c u m v n = refl
code_after k (RMW M i x w z) c u m v n = refl

-- An event inside a stretch is possible at any memory that has the value of the copies where the first one has it.
pub inner_possible : (k : Site) (e : Event) (c u m n : ℕ) → Inner u e → (m ≡ u → n ≡ u)
    → T (enabled_at k (event e) (state c u m)) → T (enabled_at k (event e) (state c u n))
unfolding enabled_at Inner
inner_possible k (LStore i x w) c u m n inner reads t = absurd inner
inner_possible k (RStore i x w) c u m n inner reads t = absurd inner
inner_possible k (MStore i x w) c u m n inner reads t = absurd inner
inner_possible k (Load i x w) c u m n inner reads t = go (eqb c 0) t
  where
    go : (b : Bool) → T (cond b (eqb m w) (eqb u w)) → T (cond b (eqb n w) (eqb u w))
    go true r = eq→eqb (reads (eqb→eq m w r ∙ inner) ∙ sym inner)
    go false r = r
inner_possible k (LFlush i x) c u m n inner reads t = t
inner_possible k (RFlush i x) c u m n inner reads t = t
inner_possible k (Crash i) c u m n inner reads t = t
inner_possible k (SetCrash set) c u m n inner reads t = t
inner_possible k (RMW form i x w z) c u m n inner reads t = absurd inner

-- From gap `from` on, the stretch q' has the events of q, and its memory has the value of the copies at each gap where
-- that of q has; it accepts what q accepts, and has no more to pay behind its last gap or behind a write-back.
pub record Easier (from : ℕ) (q q' : Stretch) : Type 0 where
  pub site : q'.site ≡ q.site
  pub copy : q'.copy ≡ q.copy
  pub end : q'.end ≡ q.end
  pub events : (t : ℕ) → from ≤ t → t < q.end → q'.event t ≡ q.event t
  pub inner : (t : ℕ) → from ≤ t → t < q.end → Inner q.copy (q.event t)
  pub reads : (t : ℕ) → from ≤ t → t < q.end → q.memory t ≡ q.copy → q'.memory t ≡ q'.copy
  pub accepts : (c : ℕ) → T (q.accepts c) → T (q'.accepts c)
  pub last : q'.last ≤ q.last
  pub back : (t : ℕ) → from ≤ t → t ≤ q.end → q'.back t ≤ q.back t

-- Then q' finishes wherever q does.
module _ (from : ℕ) (q q' : Stretch) (s : Easier from q q') where
  -- An event is possible in q' wherever it is in q, and leaves the same code.
  possible_too : (t c : ℕ) → from ≤ t → t < q.end → T (enabled_at q.site (event (q.event t)) (state_at q t c))
      → T (enabled_at q'.site (event (q'.event t)) (state_at q' t c))
  possible_too t c a b e =
      let m = q'.memory t in
      let reads : q.memory t ≡ q.copy → m ≡ q.copy = λ r. s.reads t a b r ∙ s.copy in
      rw (s.site, s.events t a b, s.copy)
      (inner_possible q.site (q.event t) c q.copy (q.memory t) m (s.inner t a b) reads e)

  same_code : (t c : ℕ) → from ≤ t → t < q.end
      → (effect q.site (event (q.event t)) (state_at q t c)).code
      ≡ (effect q'.site (event (q'.event t)) (state_at q' t c)).code
  same_code t c a b =
      rw (s.site, s.events t a b)
      (code_after q.site (q.event t) c q.copy (q.memory t) q'.copy (q'.memory t))

  pub monotone : {t c l : ℕ} → from ≤ t → t ≤ q.end → Finishes q t c l → Finishes q' t c l
  monotone {c} a b (ends e v h) = ends (e ∙ sym s.end) (s.accepts c v) (le_trans s.last h)
  monotone {t} {c} {l} a b (acts d e f) =
      acts (subst (λ (n : ℕ). t < n) (sym s.end) d) (possible_too t c a d e)
      (subst (λ (d : ℕ). Finishes q' (suc t) d l) (same_code t c a d) (monotone (omega arith) d f))
  monotone {t} {c} a b (writes h d) =
      writes (subst (λ (k : Site). T (has k.owner c)) (sym s.site) h) (lt_of_le_of_lt (s.back t a b) d)
  monotone {t} {c} a b (moves {l} i v f) =
      moves i (subst (λ (k : Site). T (not (eqb i k.owner) && has i c)) (sym s.site) v)
      (subst (λ (k : Site). Finishes q' t (moved k.owner i c) l) (sym s.site) (monotone a b f))
