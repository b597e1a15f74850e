-- Copies of events of the log, one after the other: what each step of the picking leaves.
use Rattle.std.specs.Prelude.{ℕ, ◌+◌, ◌*◌, cond, List, ltb, get_or}
use Rattle.scratch.specs.Layout.{EVENTS, LOG}
use Rattle.scratch.specs.Words.{pair_at}
use Rattle.events.specs.declared.picking.Pick.{Pick}
use Rattle.events.specs.Linking.{next_own_in, next_crash_in}

-- The area after event j of the log became event k.
abbrev pub copied : ℕ → ℕ → List ℕ → List ℕ
copied j k w = pair_at (EVENTS + 2 * k) (get_or w (LOG + 2 * j) 0) (get_or w (LOG + 2 * j + 1) 0) w

-- What is next after the first event that is copied.
abbrev pub pick_from : ℕ → List ℕ → Pick
pick_from j w = record { own = next_own_in w j; crash = next_crash_in w j; count = 1 }

-- The index of the event that is copied next, the earlier one of the two.
abbrev pub nearer : Pick → ℕ
nearer p = cond (ltb p.crash p.own) p.crash p.own

-- What is next after it.
abbrev pub pick_after : Pick → List ℕ → Pick
pick_after p w =
    cond (ltb p.crash p.own)
    (record { own = p.own; crash = next_crash_in w p.crash; count = p.count + 1 })
    (record { own = next_own_in w p.own; crash = p.crash; count = p.count + 1 })
