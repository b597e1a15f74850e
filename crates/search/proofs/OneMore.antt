-- Weaving one event more: the steps that come after all events so far stand right before it.
use Prim.Native.Nat.{ℕ, suc, ◌+◌}
use native.Mathlib.Nat.{eq-or-lt_of_le}
use native.Mathlib.Omega.{arith}
use mathlib.Core.Path.{◌≡◌, refl, ap, ◌∙◌}
use mathlib.Core.Logic.{⊎_elim}
use mathlib.Core.List.{List, [], ◌∷◌, ◌++◌}
use lib.Dec.{T}
use lib.ListN.{length}
use Rattle.model.specs.Cxl0.{Event, event, silent}
use Rattle.model.specs.Schedule.{Step, silent_of, due, later, steps, weave_from, weave, in_order}
use Rattle.model.proofs.Weaving.{in_order_cons, weave_due, weave_event}
use Rattle.model.proofs.Steps.{in_order_append}

-- All steps are due before one event.
all_due : (e : Event) (k n : ℕ) (qs : List Step) → T (in_order k n qs)
    → weave_from n (e ∷ []) qs ≡ steps qs ++ event e ∷ []
unfolding steps
all_due e k n [] t = unfold weave_from due later in refl
all_due e k n (p ∷ qs) t =
    let o = (in_order_cons k n p qs).0 t in
    weave_due n (e ∷ []) p qs o.1 ∙ ap (◌∷◌ (silent (silent_of p))) (all_due e p.before n qs o.2)

-- The event e and steps qs, all of them after m events.
module _ (e : Event) (m : ℕ) (qs : List Step) (q : T (in_order m m qs)) where
  -- With e and qs behind, n events having passed.
  abbrev Behind : ℕ → List Event → List Step → Type 0
  Behind n es ps = weave_from n (es ++ e ∷ []) (ps ++ qs) ≡ weave_from n es ps ++ (steps qs ++ event e ∷ [])

  -- If that is so of schedules with no step due after n events, it is so of those with some.
  behind_due : (n : ℕ) (es : List Event) → ((ps : List Step) → T (in_order (suc n) m ps) → Behind n es ps)
      → (ps : List Step) → T (in_order n m ps) → Behind n es ps
  unfolding in_order
  behind_due n es h [] t = h [] tt
  behind_due n es h (p ∷ ps) t =
      let o = (in_order_cons n m p ps).0 t in
      ⊎_elim
      (λ l.
      let rest = behind_due n es h ps (rw (← l) at o.2) in
      rw (weave_due n (es ++ e ∷ []) p (ps ++ qs) (omega arith), weave_due n es p ps (omega arith), rest))
      (λ l. h (p ∷ ps) ((in_order_cons (suc n) m p ps).1 (l, o.1, o.2)))
      (eq-or-lt_of_le o.0)

  behind : (n : ℕ) (es : List Event) → n + length es ≡ m
      → (ps : List Step) → T (in_order n m ps) → Behind n es ps
  behind n [] l ps t = behind_due n [] none ps t
    where
      none : (ps : List Step) → T (in_order (suc n) m ps) → Behind n [] ps
      none [] t = unfold weave_from steps in (let e' : m ≡ n = omega arith in all_due e m n qs (rw (← e') q))
      none (p ∷ ps) t = let o = (in_order_cons (suc n) m p ps).0 t in absurd (omega arith)
  behind n (f ∷ es) l ps t =
      behind_due n (f ∷ es)
      (λ ps t.
      let all = in_order_append (suc n) m m ps qs (omega arith) (omega arith) t q in
      rw (weave_event n m f (es ++ e ∷ []) (ps ++ qs) all, weave_event n m f es ps t)
      (ap (◌∷◌ (event f)) (behind (suc n) es (omega arith) ps t)))
      ps t

-- The events es with a schedule ps in order, and then qs and e.
pub weave_more : (es : List Event) (e : Event) (ps qs : List Step)
    → T (in_order 0 (length es) ps) → T (in_order (length es) (length es) qs)
    → weave (es ++ e ∷ []) (ps ++ qs) ≡ weave es ps ++ (steps qs ++ event e ∷ [])
unfolding weave
weave_more es e ps qs t q = behind e (length es) qs q 0 es (omega arith) ps t
