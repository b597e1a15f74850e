-- One location more: what its search says of the log's events, from the events that were picked for it.
use Prim.Native.Nat.{ℕ, suc, ◌+◌, ◌*◌, ◌/◌, ◌%◌, ◌≤◌, ◌<◌}
use native.Mathlib.Nat.{le_refl, le_of_suc-le-suc, eq-or-lt_of_le}
use native.Mathlib.Omega.{arith}
use mathlib.Core.Path.{◌≡◌, sym, ap, ◌∙◌, subst, refl}
use mathlib.Core.Logic.{⊎_elim}
use mathlib.Core.List.{List, [], ◌++◌, map, map-append, append-nil}
use lib.Dec.{T}
use lib.ListN.{length, get_or, take, drop, length-take, length-append, length-map}
use lib.Seq.{take_all, take-take}
use Rattle.model.specs.Cxl0.{Location, Topology, WellFormed, Event, event, all_named}
use Rattle.model.specs.Schedule.{Step}
use Rattle.model.specs.OneLocation.{start_at, HasRunAt}
use Rattle.model.specs.ShortestAt.{ShortestAt}
use Rattle.model.specs.Meaning.{topology_of}
use Rattle.model.specs.Words.{step_of_word}
use Rattle.model.specs.declared.Topology as topology
use Rattle.model.proofs.Gaps.{has_run_nil}
use Rattle.model.proofs.Greedy.{shortest_nil}
use Rattle.model.proofs.Limits.{within, listed_below}
use Rattle.model.proofs.NamedEvents.{named_take}
use Rattle.entries.specs.declared.Site.{Site}
use Rattle.rows.specs.Sites.{Describes}
use Rattle.scratch.specs.Layout.{EVENTS, ROWS, STEPS, WORDS, MOST, OnlyIn, LOG}
use Rattle.scratch.specs.Words.{INDEX, events_from, events_in, words_at, steps_at}
use Rattle.scratch.proofs.Frames.{only_then, only_wider, get_or_below}
use Rattle.scratch.proofs.Segments.{words_after}
use Rattle.scratch.proofs.Events.{events_take, events_length}
use Rattle.search.specs.declared.explaining.Found.{Found}
use Rattle.search.specs.declared.explaining.Found.TheVariants.{All}
use Rattle.search.specs.Paths.{Explainable, events_of}
use Rattle.search.specs.Shortening.{Shortenable, Shortened}
use Rattle.search.proofs.Prefixes.{has_run_at_prefix}
use Rattle.events.specs.Thinning.{Thinned, retimed}
use Rattle.events.specs.Linking.{index_in, indices_in, logged, Linked, Picked}
use Rattle.events.specs.Retiming.{Retimable, Retimed}
use Rattle.events.proofs.Retimings.{indices_at}
use Rattle.events.proofs.Thinning.{thinned_run}
use Rattle.events.proofs.KeptEvents.{thinned_take, thins_indices, kept_concern, thins_named}
use Rattle.events.proofs.EarlyPlaces.{thinned_shortest}
use Rattle.weighing.specs.Gathering.{Gathered}
use Rattle.weighing.specs.Visiting.{Visitable, Visited}
use Rattle.weighing.specs.declared.visiting.Progress.{Progress}
use Rattle.weighing.proofs.KnownEvents.{knowns}
use Rattle.weighing.proofs.Gathering.{gathered_few, gathered_more}
use Rattle.weighing.proofs.Extending.{Extended, kept_only, found_retimable, found_extended}

module _ {t : topology.Topology} {n x : ℕ} {p : Progress} {w : List ℕ} (can : Visitable t n x p w) where
  abbrev sys : Topology
  sys = topology_of t

  abbrev es : List Event
  es = logged n w

  abbrev m : ℕ
  m = p.events

  size : length es ≡ n
  size = events_length (drop LOG w) n

  few : n ≤ MOST
  few = omega (arith, size, can.weighable.linked.few)

  room : WORDS ≤ length w
  room = can.weighable.linked.room

  well_formed : WellFormed sys
  well_formed = (within t can.weighable.limits).well-formed

  few_machines : sys.machines ≤ 6
  unfolding topology_of
  few_machines = (within t can.weighable.limits).machines_few

  -- The events can be picked.
  pub pick_can : (es : List Event) × Linked es w × (m ≤ length es)
  pick_can = (es, can.weighable.linked, can.tried.most)

  pub pick_low : x < 32
  pick_low =
      omega (arith, listed_below t x can.listed, (within t can.weighable.limits).locations_few)

  -- Fewer events have a run at the locations before.
  before_fewer : (d : ℕ) → d ≤ m → (y : Location) → y < x → HasRunAt sys y (take d es) (start_at sys y)
  before_fewer d h y l =
      rw (← take-take d m es h) (has_run_at_prefix sys y (take m es) d (start_at sys y) (can.tried.runs y l))

  -- With a run of the first d events here, all locations up to x have one.
  runs_more : (d : ℕ) → d ≤ m → HasRunAt sys x (take d es) (start_at sys x)
      → (y : Location) → y < suc x → HasRunAt sys y (take d es) (start_at sys y)
  runs_more d h here y l =
      ⊎_elim
      (λ e. subst (λ (z : Location). HasRunAt sys z (take d es) (start_at sys z)) (sym e) here)
      (before_fewer d h y)
      (eq-or-lt_of_le (le_of_suc-le-suc l))

  module _ {k : ℕ} {w₁ : List ℕ} (picked : Picked x m w k w₁) where
    thinned : Thinned x (take m es) (events_in w₁ k) (indices_in w₁ k)
    thinned = picked.thinned es can.weighable.linked can.tried.most

    few_picked : k ≤ MOST
    few_picked = omega (arith, picked.few, can.tried.most, size, few)

    kept_named : T (all_named sys (map event (events_in w₁ k)))
    kept_named = thins_named sys thinned (named_take sys es m can.weighable.named)

    frame₁ : OnlyIn 0 STEPS w w₁
    frame₁ = only_wider picked.frame (omega arith) (omega arith)

    -- The list of steps is as it was.
    list_same : words_at STEPS p.steps w₁ ≡ words_at STEPS p.steps w
    list_same = words_after frame₁ STEPS p.steps (le_refl STEPS)

    -- What keeps the log after the picking keeps it from the beginning.
    to_log : {w₂ : List ℕ} → OnlyIn EVENTS LOG w₁ w₂ → OnlyIn 0 LOG w w₂
    to_log frame = only_then (only_wider frame₁ (omega arith) (omega arith)) frame

    all_taken : m ≡ length es → take m es ≡ es
    all_taken e = take_all m es (omega arith)

    -- The shortest schedule of the picked events, retimed, is that of the log's events, if these are all.
    gathered_here : m ≡ length es → {ps qs : List Step} → Gathered sys es x ps → ShortestAt sys x (events_in w₁ k) qs
        → Gathered sys es (suc x) (ps ++ retimed (indices_in w₁ k) qs)
    gathered_here e g new =
        gathered_more sys es g (thinned_shortest sys (rw (all_taken e) at thinned) new)
        well_formed can.listed can.weighable.named

    -- ---- no event was picked

    pub visit_none : k ≡ 0 → Visited t n (suc x) w p w₁
    unfolding events_from retimed
    visit_none e =
        let none : events_in w₁ k ≡ [] = rw e in
        let run : HasRunAt sys x (events_in w₁ k) (start_at sys x) = rw none (has_run_nil sys x (start_at sys x)) in
        record {
          frame = only_wider frame₁ (omega arith) (omega arith);
          tried = record {
            most = can.tried.most;
            few = can.tried.few;
            runs = runs_more m (le_refl m) ((thinned_run sys thinned).1 run);
            ends = can.tried.ends;
            steps = λ all.
                let old = can.tried.steps all in
                let same : steps_at STEPS p.steps w₁ ≡ steps_at STEPS p.steps w ++ [] =
                ap (map step_of_word) list_same ∙ sym (append-nil (steps_at STEPS p.steps w)) in
                let new : ShortestAt sys x (events_in w₁ k) [] = rw none (shortest_nil sys x 0 (start_at sys x)) in
                (rw list_same old.0, rw same (gathered_here all old.1 new));
          };
        }

    -- ---- events were picked

    -- They can be searched.
    module _ {s : Site} (here : s.location.0 ≡ x) (d : Describes sys s) where
      explainable : Explainable s k p.steps w₁
      explainable =
          record {
            room = omega (arith, room, picked.frame.sized);
            few = omega (arith, few_picked);
            short = can.tried.few;
            known = knowns sys few_machines w₁ k kept_named
                (picked.operations es can.weighable.linked can.tried.most);
            system = sys;
            placed = record {
              describes = d;
              well_formed = well_formed;
              listed = rw here can.listed;
              named = kept_named;
            };
          }

      pub visit_shortenable : Shortenable s k p.steps w₁
      visit_shortenable =
          record { explainable = explainable; here = λ j h. rw here (kept_concern w₁ k thinned j h) }

    -- ---- events were picked, and searched

    module _ {s : Site} (here : s.location.0 ≡ x) (d : Describes sys s) {found : Found} {w₂ : List ℕ}
        (done : Shortened s k p.steps w₁ found w₂) where
      abbrev good : ℕ
      good = events_of k found

      frame : OnlyIn ROWS LOG w₁ w₂
      frame = kept_only done.kept

      kept₂ : OnlyIn 0 LOG w w₂
      kept₂ = to_log (only_wider frame (omega arith) (omega arith))

      abbrev RunsHere : List Event → Type 0
      RunsHere l = HasRunAt sys x l (start_at sys x)

      run_good : RunsHere (take good (events_in w₁ k))
      run_good = rw (events_take w₁ good k done.most) (rw here at (done.runs sys d))

      -- The indices of the picked events are as they were.
      visit_index : (i : ℕ) → i < k → index_in EVENTS w₂ i ≡ get_or (indices_in w₁ k) i 0
      visit_index i l =
          let below = get_or_below frame (EVENTS + 2 * i) (omega (arith, few_picked)) in
          ap (λ (v : ℕ). v / INDEX % 256) below ∙ sym (indices_at w₁ k i l)

      -- They are indices of the log.
      visit_indices : (i : ℕ) → i < k → index_in EVENTS w₂ i < MOST
      visit_indices i l =
          let inside = (thins_indices thinned i (rw (events_length w₁ k) l)).1 in
          omega (arith, visit_index i l, inside, length-take m es, size, few)

      -- Not all of them have a run.
      pub visit_ends : good < k → (e : ℕ) → e ≡ index_in EVENTS w₂ good
          → Visited t n (suc x) w (record { events = e; steps = p.steps }) w₂
      visit_ends l e at =
          let index : get_or (indices_in w₁ k) good 0 ≡ e = sym (at ∙ visit_index good l) in
          let cut = rw index at (thinned_take thinned good (rw (events_length w₁ k) l)) in
          let below : e < m = omega (arith, cut.0, length-take m es, can.tried.most) in
          let runs : RunsHere (take e es) =
          rw (← take-take e m es (omega arith)) ((thinned_run sys cut.1).1 run_good) in
          let none : ¬ RunsHere (take (suc e) es) = λ r.
          let kept = (thinned_run sys cut.2).0 (rw (take-take (suc e) m es below) r) in
          done.ends l sys d (rw here (rw (events_take w₁ (suc good) k l) at kept)) in
          record {
            frame = kept₂;
            tried = record {
              most = omega (arith, can.tried.most);
              few = can.tried.few;
              runs = runs_more e (omega arith) runs;
              ends = λ h. (x, can.listed, none);
              steps = λ all. absurd (omega (arith, can.tried.most));
            };
          }

      module _ (good_all : good ≡ k) where
        run_all : RunsHere (take m es)
        run_all =
            let long : length (events_in w₁ k) ≤ good = rw (events_length w₁ k) (omega arith) in
            let all = take_all good (events_in w₁ k) long in
            (thinned_run sys thinned).1 (rw all at run_good)

        -- All of them have a run, but not all events of the log had one before.
        pub visit_same : m < n → Visited t n (suc x) w p w₂
        visit_same l =
            record {
              frame = kept₂;
              tried = record {
                most = can.tried.most;
                few = can.tried.few;
                runs = runs_more m (le_refl m) run_all;
                ends = can.tried.ends;
                steps = λ all. absurd (omega (arith, size));
              };
            }

    -- All events have a run so far: the schedule gets its places in the log.
    module _ {s : Site} (here : s.location.0 ≡ x) (d : Describes sys s) {more : ℕ} {w₂ : List ℕ}
        (done : Shortened s k p.steps w₁ (All more) w₂) (all : n ≤ m) where
      everything : m ≡ length es
      everything = omega (arith, can.tried.most, size)

      pub visit_retimable : Retimable k p.steps more w₂
      visit_retimable = found_retimable (explainable here d) done (visit_indices here d done)

      module _ {w₃ : List ℕ} (timed : Retimed k p.steps more w₂ w₃) where
        new : Extended s k p.steps w₁ more w₃
        new = found_extended (explainable here d) done timed

        abbrev before : List ℕ
        before = words_at STEPS p.steps w

        words : words_at STEPS more w₃ ≡ before ++ new.words
        words = new.list ∙ ap (λ (l : List ℕ). l ++ new.words) list_same

        counted : length (words_at STEPS more w₃) ≡ more
        counted =
            let old = (can.tried.steps everything).0 in
            rw words (omega (arith, length-append before new.words, old, new.counted))

        gathered : Gathered sys es (suc x) (steps_at STEPS more w₃)
        gathered =
            let old = (can.tried.steps everything).1 in
            let added = retimed (indices_in w₁ k) new.steps in
            let steps : steps_at STEPS more w₃ ≡ steps_at STEPS p.steps w ++ added =
            ap (map step_of_word) words ∙ map-append step_of_word before new.words
            ∙ ap (◌++◌ (steps_at STEPS p.steps w)) new.timed in
            let at_x : ShortestAt sys x (events_in w₁ k) new.steps =
            subst (λ (y : Location). ShortestAt sys y (events_in w₁ k) new.steps) here (new.shortest sys d) in
            rw steps (gathered_here everything old at_x)

        pub visit_extends : Visited t n (suc x) w (record { events = m; steps = more }) w₃
        visit_extends =
            let long = length-map (words_at STEPS more w₃) step_of_word in
            record {
              frame = to_log (only_wider new.frame (omega arith) (omega arith));
              tried = record {
                most = can.tried.most;
                few = omega (arith, gathered_few sys es gathered, size, few, counted, long);
                runs = runs_more m (le_refl m) (run_all here d done refl);
                ends = can.tried.ends;
                steps = λ e. (counted, gathered);
              };
            }
