-- Visits one after the other, from none to all locations.
use Prim.Native.Nat.{ℕ, suc, ◌+◌, ◌*◌}
use native.Mathlib.Omega.{arith}
use mathlib.Core.Path.{◌≡◌, ap}
use mathlib.Core.List.{List}
use lib.Dec.{T}
use lib.ListN.{drop}
use lib.Seq.{slice_empty}
use Rattle.model.specs.Cxl0.{is_location, Event}
use Rattle.model.specs.Meaning.{topology_of}
use Rattle.model.specs.declared.Topology as topology
use Rattle.scratch.specs.Layout.{STEPS, OnlyIn, LOG}
use Rattle.scratch.specs.Words.{events_in}
use Rattle.scratch.proofs.Frames.{only_none, only_then, get_or_above}
use Rattle.scratch.proofs.Events.{events_length}
use Rattle.events.specs.Linking.{head_of, logged, Linked}
use Rattle.weighing.specs.Weighing.{Weighable}
use Rattle.weighing.specs.Visiting.{Visitable, Visited}
use Rattle.weighing.specs.declared.visiting.Progress.{Progress}
use Rattle.weighing.proofs.Gathering.{gathered_none}

-- Words below LOG do not matter to the log.
module _ {w w' : List ℕ} (only : OnlyIn 0 LOG w w') (n : ℕ) where
  pub logged_same : logged n w' ≡ logged n w
  logged_same = ap (λ (l : List ℕ). events_in l n) only.above

  linked_same : {es : List Event} → Linked es w → Linked es w'
  linked_same l =
      record {
        room = omega (arith, l.room, only.sized);
        few = l.few;
        events = rw only.above l.events;
        operations = λ j h. rw (get_or_above only (LOG + 2 * j) (omega arith)) (l.operations j h);
        indices = λ j h. rw (get_or_above only (LOG + 2 * j) (omega arith)) (l.indices j h);
        owns = λ x j h o. rw (get_or_above only (LOG + 2 * j) (omega arith)) (l.owns x j h o);
        crashes = λ j h. rw (get_or_above only (LOG + 2 * j) (omega arith)) (l.crashes j h);
        heads = λ x h. rw (get_or_above only (head_of x) (omega arith)) (l.heads x h);
      }

  pub weighable_same : {t : topology.Topology} → Weighable t n w → Weighable t n w'
  weighable_same l =
      record {
        linked = rw logged_same (linked_same l.linked);
        limits = l.limits;
        named = rw logged_same l.named;
      }

module _ {t : topology.Topology} {n : ℕ} {w : List ℕ} (can : Weighable t n w) where
  pub visits_none : Visited t n 0 w (record { events = n; steps = 0 }) w
  visits_none =
      let size = events_length (drop LOG w) n in
      record {
        frame = only_none 0 LOG w;
        tried = record {
          most = omega (arith, size);
          few = omega arith;
          runs = λ y h. absurd (omega arith);
          ends = λ h. absurd (omega (arith, size));
          steps = λ e. (
            rw (slice_empty STEPS w),
            rw (slice_empty STEPS w) (gathered_none (topology_of t) (logged n w)),
          );
        };
      }

  module _ {x : ℕ} {p : Progress} {w' : List ℕ} (v : Visited t n x w p w') where
    pub visits_can : T (is_location (topology_of t) x) → Visitable t n x p w'
    visits_can listed =
        record {
          weighable = weighable_same v.frame n can;
          listed = listed;
          tried = rw (logged_same v.frame n) v.tried;
        }

    pub visits_more : {q : Progress} {w'' : List ℕ} → Visited t n (suc x) w' q w'' → Visited t n (suc x) w q w''
    visits_more next =
        record {
          frame = only_then v.frame next.frame;
          tried = rw (logged_same v.frame n) at next.tried;
        }
