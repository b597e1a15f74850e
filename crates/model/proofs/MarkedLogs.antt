-- The marked logs have the verdicts that document 01 and the requests give them: one computed test over each list, and
-- one theorem that carries it to each log.
use Prim.Native.Nat.{ℕ, zero, suc}
use native.Mathlib.Nat.{le_of_suc-le-suc}
use native.Mathlib.Omega.{arith}
use mathlib.Core.Bool.{Bool, true, not, ◌&&◌}
use mathlib.Core.List.{List, [], ◌∷◌, Memᴰ}
use lib.Dec.{T, T_not, leb, leb→le}
use lib.ListN.{length, take}
use Rattle.model.specs.Cxl0.{Machine, Topology, WellFormed, is_machine, is_location, owner, initial, keeps}
use Rattle.model.specs.Cxl0.{is_persistent, Event, crashes, clears, named, all_named, FirstImpossible}
use Rattle.model.specs.Sharers.{has, insert, remove, remove_all}
use Rattle.model.specs.OneLocation.{concerns, event_at, moved, enabled_at, effect, location_of, site_of}
use Rattle.model.specs.OneLocation.{possible_at, next_at, start_at}
use Rattle.model.specs.Meaning.{owners_fit}
use Rattle.model.specs.MarkedLogs.{Verdict, MarkedLog, log, AsMarked, three, persistent, volatile, first_volatile}
use Rattle.model.specs.MarkedLogs.{logs, pattern_logs, set_crash_logs, kind_logs}
use Rattle.model.proofs.Tests.{and_l, and_r}
use Rattle.model.proofs.Owners.{owners-fit}
use Rattle.model.proofs.SomeSilent.{some_moved, some_silent}
use Rattle.model.proofs.Decision.{good, every_below, decide, decide_correct}
use Rattle.model.proofs.Prefixes.{has_run_fewer}

-- The verdict is right: for event e + 1, the first e events have a run and the first e + 1 have none.
unfoldable pub judged : Topology → List Event → ℕ → Bool
judged sys es zero = decide sys es
judged sys es (suc e) =
    leb (suc e) (length es) && not (decide sys (take (suc e) es)) && decide sys (take e es)

judged_correct : (sys : Topology) → WellFormed sys → (es : List Event) (e : ℕ)
    → T (judged sys es e) → Verdict sys es e
unfolding judged Verdict FirstImpossible
judged_correct sys w es zero t = (decide_correct sys w es).0 t
judged_correct sys w es (suc e) t =
    let listed = leb (suc e) (length es) in
    let with = decide sys (take (suc e) es) in
    let before = decide sys (take e es) in
    let p = and_l (listed && not with) before t in
    let r = (decide_correct sys w (take e es)).0 (and_r (listed && not with) before t) in (
      omega arith,
      leb→le (suc e) (length es) (and_l listed (not with) p),
      λ q. T_not with (and_r listed (not with) p) ((decide_correct sys w (take (suc e) es)).1 q),
      λ d h. has_run_fewer sys es d e (le_of_suc-le-suc h) r,
    )

-- The system is well formed and the verdict is right.
unfoldable pub right : MarkedLog → Bool
right l =
    owners_fit l.system.machines l.system.homes && judged l.system l.events l.verdict

unfoldable pub all_right : List MarkedLog → Bool
all_right [] = true
all_right (l ∷ ls) = right l && all_right ls

each : (ls : List MarkedLog) → T (all_right ls) → (l : MarkedLog) → Memᴰ l ls → T (right l)
unfolding all_right
each [] t l i = elim i [ ]
each (a ∷ ls) t l (Memᴰ.head e) = rw e (and_l (right a) (all_right ls) t)
each (a ∷ ls) t l (Memᴰ.tail m) = each ls (and_r (right a) (all_right ls) t) l m

-- The whole test of each list, computed. That of W-203 asks nothing of machines other than 1.
marked_right : T (all_right logs) × T (all_right pattern_logs) × T (all_right kind_logs)
unfolding
    logs pattern_logs kind_logs log three persistent volatile
    all_right right owners_fit judged decide every_below good some_silent some_moved
    is_machine is_location owner initial keeps is_persistent crashes clears named all_named
    has insert remove remove_all
    concerns event_at location_of enabled_at site_of moved effect possible_at next_at start_at
marked_right = (tt, tt, tt)

sets_right : (others : Machine → Bool) → T (all_right (set_crash_logs others))
unfolding
    set_crash_logs log first_volatile
    all_right right owners_fit judged decide every_below good some_silent some_moved
    is_machine is_location owner initial keeps is_persistent crashes clears named all_named
    has insert remove remove_all
    concerns event_at location_of enabled_at site_of moved effect possible_at next_at start_at
sets_right others = tt

-- Each log of a list that passes has a well-formed system and its verdict.
each_right : (ls : List MarkedLog) → T (all_right ls) → AsMarked ls
unfolding right
each_right ls t l m =
    let fit = owners_fit l.system.machines l.system.homes in
    let verdict = judged l.system l.events l.verdict in
    let r = each ls t l m in
    let w = owners-fit l.system (and_l fit verdict r) in
    (w, judged_correct l.system w l.events l.verdict (and_r fit verdict r))

pub marked_logs : AsMarked logs
marked_logs = each_right logs marked_right.0

pub pattern-logs : AsMarked pattern_logs
pattern-logs = each_right pattern_logs marked_right.1

pub kind-logs : AsMarked kind_logs
kind-logs = each_right kind_logs marked_right.2

pub set-crash-logs : (others : Machine → Bool) → AsMarked (set_crash_logs others)
set-crash-logs others = each_right (set_crash_logs others) (sets_right others)
