-- The order of schedules by their numbers at the first difference. Of two schedules with as many steps one is smaller,
-- or they are the same; so at most one schedule is the shortest.
use Prim.Native.Nat.{ℕ, ◌+◌, ◌≤◌, ◌<◌}
use native.Mathlib.Nat.{eq-or-lt_of_le, le_refl}
use native.Mathlib.Decide.{dec_le}
use native.Mathlib.Omega.{arith}
use mathlib.Core.Path.{◌≡◌, refl, sym, ap, ◌∙◌, subst}
use mathlib.Core.Logic.{◌⊎◌, inl, inr, ⊎_elim, ◌↔◌}
use mathlib.Core.List.{List, [], ◌∷◌, ◌++◌, map, cons≢nil, head-eq_of_cons-eq, tail-eq_of_cons-eq}
use mathlib.Core.List.{Memᴰ}
use lib.Dec.{T, eqb, eqb_refl}
use lib.ListN.{length, length-map}
use Rattle.model.specs.Cxl0.{Location, Topology, Event, Action, event, silent, silents}
use Rattle.model.specs.Schedule.{Step, silent_of, weave_from, weave, schedule_from}
use Rattle.model.specs.OneLocation.{Local, silent_at, own_steps}
use Rattle.model.specs.Shortest.{Less, Smaller, Shortest}
use Rattle.model.specs.ShortestAt.{RunOf, ShortestFrom}
use Rattle.model.proofs.Tests.{and_i}
use Rattle.model.proofs.Weaving.{events_weave, events_weave_from, silents_weave_from, schedule_weave}
use Rattle.model.proofs.Weaving.{schedule_from_weave_from}
use Rattle.model.proofs.Steps.{silent_at_silent_of}

-- ---- the order of steps

-- One number is less than another, the same, or greater.
by_order : {A : Type 0} (m n : ℕ) → (m < n → A) → (m ≡ n → A) → (n < m → A) → A
by_order m n less same greater =
    elim (dec_le m n) [ yes h ↦ ⊎_elim same less (eq-or-lt_of_le h) | no h ↦ greater (omega arith) ]

by_case : {A B C D : Type 0} → (A → D) → (B → D) → (C → D) → A ⊎ (B ⊎ C) → D
by_case f g h = ⊎_elim f (⊎_elim g h)

-- Steps with the same numbers are the same.
pub same_step : (p q : Step) → p.before ≡ q.before → p.location ≡ q.location → p.machine ≡ q.machine → p ≡ q
same_step p q b l m = λ j. record { before = b j; location = l j; machine = m j }

-- Of two steps one is less, or they are the same.
pub less_or_same : (p q : Step) → Less p q ⊎ ((p ≡ q) ⊎ Less q p)
less_or_same p q = by_order p.before q.before (λ h. inl (inl h)) by_location (λ h. inr (inr (inl h)))
  where
    by_machine : p.before ≡ q.before → p.location ≡ q.location → Less p q ⊎ ((p ≡ q) ⊎ Less q p)
    by_machine b l =
        by_order p.machine q.machine
        (λ h. inl (inr (b, inr (l, h))))
        (λ m. inr (inl (same_step p q b l m)))
        (λ h. inr (inr (inr (sym b, inr (sym l, h)))))

    by_location : p.before ≡ q.before → Less p q ⊎ ((p ≡ q) ⊎ Less q p)
    by_location b =
        by_order p.location q.location
        (λ h. inl (inr (b, inl h)))
        (by_machine b)
        (λ h. inr (inr (inr (sym b, inl h))))

-- No step is less than itself.
pub less_self : (p : Step) → ¬ Less p p
less_self p = ⊎_elim (λ h. omega arith) (λ h. ⊎_elim (λ l. omega arith) (λ m. omega arith) h.1)

-- A step that is less than another is not the same.
pub less_not : (p q : Step) → Less p q → ¬ (p ≡ q)
less_not p q h e = less_self q (subst (λ (r : Step). Less r q) e h)

-- A step that is less than one that is less than a third is less than the third.
pub less_trans : (p q r : Step) → Less p q → Less q r → Less p r
less_trans p q r (inl h) (inl g) = inl (omega arith)
less_trans p q r (inl h) (inr g) = inl (omega arith)
less_trans p q r (inr h) (inl g) = inl (omega arith)
less_trans p q r (inr h) (inr g) =
    inr (
      h.0 ∙ g.0,
      ⊎_elim
          (λ l. inl (⊎_elim (λ k. omega arith) (λ k. omega arith) g.1))
          (λ l. ⊎_elim (λ k. inl (omega arith)) (λ k. inr (l.0 ∙ k.0, omega arith)) g.1)
          h.1,
    )

-- ---- the order of schedules

-- No schedule is smaller than none.
pub smaller_nil : (ps : List Step) → ¬ Smaller ps []
unfolding Smaller
smaller_nil [] h = h
smaller_nil (p ∷ ps) h = h

-- No schedule is smaller than itself.
pub smaller_irreflexive : (ps : List Step) → ¬ Smaller ps ps
unfolding Smaller
smaller_irreflexive [] h = h
smaller_irreflexive (p ∷ ps) h = ⊎_elim (less_self p) (λ s. smaller_irreflexive ps s.1) h

-- A schedule that is smaller than one that is smaller than a third is smaller than the third.
pub smaller_trans : (ps qs rs : List Step) → Smaller ps qs → Smaller qs rs → Smaller ps rs
unfolding Smaller
smaller_trans [] qs rs a b = absurd a
smaller_trans (p ∷ ps) [] rs a b = absurd a
smaller_trans (p ∷ ps) (q ∷ qs) [] a b = absurd b
smaller_trans (p ∷ ps) (q ∷ qs) (r ∷ rs) (inl a) (inl b) = inl (less_trans p q r a b)
smaller_trans (p ∷ ps) (q ∷ qs) (r ∷ rs) (inl a) (inr b) = inl (subst (Less p) b.0 a)
smaller_trans (p ∷ ps) (q ∷ qs) (r ∷ rs) (inr a) (inl b) = inl (subst (λ (s : Step). Less s r) (sym a.0) b)
smaller_trans (p ∷ ps) (q ∷ qs) (r ∷ rs) (inr a) (inr b) =
    inr (a.0 ∙ b.0, smaller_trans ps qs rs a.1 b.1)

-- Of two schedules with as many steps one is smaller, or they are the same.
pub smaller_total : (ps qs : List Step) → length ps ≡ length qs → Smaller ps qs ⊎ ((ps ≡ qs) ⊎ Smaller qs ps)
unfolding Smaller
smaller_total [] [] e = inr (inl refl)
smaller_total [] (q ∷ qs) e = absurd (omega arith)
smaller_total (p ∷ ps) [] e = absurd (omega arith)
smaller_total (p ∷ ps) (q ∷ qs) e =
    by_case
    (λ h. inl (inl h))
    (λ same. by_rest same (smaller_total ps qs (omega arith)))
    (λ h. inr (inr (inl h)))
    (less_or_same p q)
  where
    by_rest : p ≡ q → Smaller ps qs ⊎ ((ps ≡ qs) ⊎ Smaller qs ps)
        → Smaller (p ∷ ps) (q ∷ qs) ⊎ ((p ∷ ps ≡ q ∷ qs) ⊎ Smaller (q ∷ qs) (p ∷ ps))
    by_rest same =
        by_case
        (λ h. inl (inr (same, h)))
        (λ rest. inr (inl (λ j. same j ∷ rest j)))
        (λ h. inr (inr (inr (sym same, h))))

-- Of two schedules in two parts each, with as many steps in the first part, one is smaller if its first part is, or if
-- the first parts are the same and its second part is smaller.
pub smaller_append : (qs ps qs' ps' : List Step) → length qs ≡ length ps
    → Smaller (qs ++ qs') (ps ++ ps') ↔ (Smaller qs ps ⊎ ((qs ≡ ps) × Smaller qs' ps'))
unfolding Smaller
smaller_append [] [] qs' ps' e = (λ h. inr (refl, h), ⊎_elim (λ h. absurd h) (λ h. h.1))
smaller_append [] (p ∷ ps) qs' ps' e = absurd (omega arith)
smaller_append (q ∷ qs) [] qs' ps' e = absurd (omega arith)
smaller_append (q ∷ qs) (p ∷ ps) qs' ps' e =
    let rest = smaller_append qs ps qs' ps' (omega arith) in (
      ⊎_elim
          (λ h. inl (inl h))
          (λ h. ⊎_elim (λ g. inl (inr (h.0, g))) (λ g. inr ((λ j. h.0 j ∷ g.0 j), g.1)) (rest.0 h.1)),
      ⊎_elim
          (⊎_elim inl (λ h. inr (h.0, rest.1 (inl h.1))))
          (λ h. inr (head-eq_of_cons-eq h.0, rest.1 (inr (tail-eq_of_cons-eq h.0, h.1)))),
    )

-- ---- at most one is the shortest

-- Two schedules, neither with more steps than the other and neither smaller, are the same.
neither : (ps qs : List Step) → length ps ≤ length qs → length qs ≤ length ps
    → (length qs ≡ length ps → ¬ Smaller qs ps) → (length ps ≡ length qs → ¬ Smaller ps qs) → ps ≡ qs
neither ps qs few few' small small' =
    let same : length ps ≡ length qs = omega arith in
    by_case (λ h. absurd (small' same h)) (λ e. e) (λ h. absurd (small (sym same) h)) (smaller_total ps qs same)

-- A weaving has as many silent steps as its schedule has steps.
pub length_weave_from : (n : ℕ) (es : List Event) (ps : List Step) → length (silents (weave_from n es ps)) ≡ length ps
length_weave_from n es ps = ap length (silents_weave_from n es ps) ∙ length-map ps silent_of

-- At most one schedule is the shortest.
pub shortest_unique : (sys : Topology) (es : List Event) (ps qs : List Step)
    → Shortest sys es ps → Shortest sys es qs → ps ≡ qs
unfolding weave
shortest_unique sys es ps qs s t =
    neither ps qs (no_more s t) (no_more t s) (not_smaller s t) (not_smaller t s)
  where
    no_more : {ps qs : List Step} → Shortest sys es ps → Shortest sys es qs → length ps ≤ length qs
    no_more {qs = qs} s t =
        rw (length_weave_from 0 es qs) at (s.fewest (weave es qs) (events_weave es qs) t.run)

    not_smaller : {ps qs : List Step} → Shortest sys es ps → Shortest sys es qs
        → length qs ≡ length ps → ¬ Smaller qs ps
    not_smaller {qs = qs} s t e =
        rw (schedule_weave es qs t.order) at
        (s.smallest (weave es qs) (events_weave es qs) t.run (length_weave_from 0 es qs ∙ e))

-- ---- at one location

-- A list whose silent steps are those of a schedule at x has steps of x alone.
own-steps : (x : Location) (acts : List Action) (ps : List Step) → silents acts ≡ map silent_of ps
    → ((p : Step) → Memᴰ p ps → p.location ≡ x) → T (own_steps x acts)
unfolding own_steps silents
own-steps x [] ps e own = tt
own-steps x (event d ∷ acts) ps e own = own-steps x acts ps e own
own-steps x (silent a ∷ acts) [] e own = absurd (cons≢nil e)
own-steps x (silent a ∷ acts) (p ∷ ps) e own =
    let here : T (eqb x p.location) = rw (own p (Memᴰ.head refl)) (eqb_refl x) in
    and_i (silent_at x a) (own_steps x acts)
    (rw (head-eq_of_cons-eq e, silent_at_silent_of x p.location p.before p.machine) here)
    (own-steps x acts ps (tail-eq_of_cons-eq e) (λ q m. own q (Memᴰ.tail m)))

module _ {sys : Topology} {x : Location} {n : ℕ} {es : List Event} {s : Local} where
  -- The weaving of the shortest schedule is a run at x.
  pub shortest_run_of : {ps : List Step} → ShortestFrom sys x n es s ps → RunOf sys x es s (weave_from n es ps)
  shortest_run_of {ps} h =
      record {
        of = events_weave_from n es ps;
        own = own-steps x (weave_from n es ps) ps (silents_weave_from n es ps) h.own;
        runs = h.runs;
      }

  -- Its schedule is the shortest one again.
  pub shortest_schedule : {ps : List Step} → ShortestFrom sys x n es s ps → schedule_from n (weave_from n es ps) ≡ ps
  shortest_schedule {ps} h = schedule_from_weave_from n (n + length es) es ps (le_refl _) h.order

  -- Of two shortest schedules none has more steps than the other, and none is smaller.
  no_more : {ps qs : List Step} → ShortestFrom sys x n es s ps → ShortestFrom sys x n es s qs → length ps ≤ length qs
  no_more {qs = qs} h g = rw (length_weave_from n es qs) at (h.fewest (weave_from n es qs) (shortest_run_of g))

  not_smaller : {ps qs : List Step} → ShortestFrom sys x n es s ps → ShortestFrom sys x n es s qs
      → length qs ≡ length ps → ¬ Smaller qs ps
  not_smaller {qs = qs} h g e =
      rw (shortest_schedule g) at
      (h.smallest (weave_from n es qs) (shortest_run_of g) (length_weave_from n es qs ∙ e))

  -- At most one schedule of x is the shortest.
  pub shortest_from_unique : {ps qs : List Step} → ShortestFrom sys x n es s ps → ShortestFrom sys x n es s qs → ps ≡ qs
  shortest_from_unique {ps} {qs} h g =
      neither ps qs (no_more h g) (no_more g h) (not_smaller h g) (not_smaller g h)
