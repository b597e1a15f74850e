-- The shortest schedules of the locations below x and then that of x are those of the locations up to x.
use Prim.Native.Nat.{ℕ, suc, ◌*◌, ◌≤◌, ◌<◌}
use native.Mathlib.Nat.{eq-or-lt_of_le, le_of_suc-le-suc, not-suc-le-zero}
use native.Mathlib.Omega.{arith}
use mathlib.Core.Path.{◌≡◌, refl, sym, ap, ◌∙◌, subst}
use mathlib.Core.Logic.{◌≢◌, ⊎_elim}
use mathlib.Core.List.{List, [], ◌∷◌, ◌++◌, map, append-nil}
use mathlib.Core.List.Memᴰ
use mathlib.Core.List.{Memᴰ}
use lib.Dec.{T, eqb}
use lib.ListN.{length, length-append}
use Rattle.model.specs.Cxl0.{Location, Topology, is_location, WellFormed, Event, event, all_named}
use Rattle.model.specs.Schedule.{Step}
use Rattle.model.specs.ShortestAt.{ShortestAt}
use Rattle.model.specs.Sums.{sum}
use Rattle.model.proofs.Allowances.{sum_allowances}
use Rattle.model.proofs.RunBounds.{shortest_named, shortest_few}
use Rattle.sorting.specs.Rising.{select}
use Rattle.sorting.specs.Ordering.{at_location}
use Rattle.sorting.proofs.Rising.{select_append}
use Rattle.sorting.proofs.AtLocation.{at_here, at_other, at_own}
use Rattle.sorting.proofs.ShortestMerge.{rise_none, rise_more}
use Rattle.events.proofs.EarlyPlaces.{shortest_counts}
use Rattle.weighing.specs.Gathering.{Gathered}

-- ---- the steps of one location

at_none : (y : Location) (ps : List Step) → ((p : Step) → Memᴰ p ps → p.location ≢ y)
    → at_location y ps ≡ []
at_none y [] h = unfold at_location select in refl
at_none y (p ∷ ps) h =
    at_other y p ps (λ e. h p (Memᴰ.head refl) (sym e)) ∙ at_none y ps (λ q m. h q (Memᴰ.tail m))

at_all : (y : Location) (ps : List Step) → ((p : Step) → Memᴰ p ps → p.location ≡ y)
    → at_location y ps ≡ ps
at_all y [] h = unfold at_location select in refl
at_all y (p ∷ ps) h =
    at_here y p ps (sym (h p (Memᴰ.head refl))) ∙ ap (◌∷◌ p) (at_all y ps (λ q m. h q (Memᴰ.tail m)))

at_append : (y : Location) (ps qs : List Step) → at_location y (ps ++ qs) ≡ at_location y ps ++ at_location y qs
unfolding at_location
at_append y ps qs = select_append (λ p. eqb y p.location) ps qs

-- ---- one location more

module _ (sys : Topology) (es : List Event) where
  pub gathered_none : Gathered sys es 0 []
  unfolding sum
  gathered_none =
      record {
        own = λ p m. absurd (Memᴰ.not-nil m);
        named = λ p m. absurd (Memᴰ.not-nil m);
        few = omega arith;
        rise = rise_none;
        shortest = λ y h. absurd (not-suc-le-zero h);
      }

  module _ {x : ℕ} {ps : List Step} (g : Gathered sys es x ps) where
    -- There are at most two steps for each event.
    pub gathered_few : length ps ≤ 2 * length es
    gathered_few = omega (arith, g.few, sum_allowances x es)

    -- No step has more events before it than there are.
    pub gathered_before : (p : Step) → Memᴰ p ps → p.before ≤ length es
    gathered_before p m = (shortest_counts sys (g.shortest p.location (g.own p m)) p (at_own ps m)).1

    module _ {qs : List Step} (new : ShortestAt sys x es qs) where
      before_same : (y : Location) → y < x → at_location y (ps ++ qs) ≡ at_location y ps
      before_same y h =
          let none = at_none y qs (λ p m e. omega (arith, new.own p m)) in
          at_append y ps qs ∙ rw none (append-nil (at_location y ps))

      here_new : at_location x (ps ++ qs) ≡ qs
      here_new =
          let none = at_none x ps (λ p m e. omega (arith, g.own p m)) in
          at_append x ps qs ∙ rw none (at_all x qs new.own)

      -- The shortest schedule of the next location behind those of the locations below it.
      pub gathered_more : WellFormed sys → T (is_location sys x) → T (all_named sys (map event es))
          → Gathered sys es (suc x) (ps ++ qs)
      unfolding sum
      gathered_more w listed names =
          record {
            own = λ p m. ⊎_elim (λ l. omega (arith, g.own p l)) (λ l. omega (arith, new.own p l))
                (Memᴰ.append_cases ps m);
            named = λ p m. ⊎_elim (g.named p) (shortest_named sys w listed names new p) (Memᴰ.append_cases ps m);
            few = omega (arith, length-append ps qs, g.few, shortest_few sys w listed names new);
            rise = rise_more x ps qs g.rise g.own new.own;
            shortest = λ y h. ⊎_elim
                (λ e. subst (λ (z : Location). ShortestAt sys z es (at_location z (ps ++ qs))) (sym e)
                (rw here_new new))
                (λ l. rw (before_same y l) (g.shortest y l))
                (eq-or-lt_of_le (le_of_suc-le-suc h));
          }
