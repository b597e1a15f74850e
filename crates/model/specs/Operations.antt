-- The numbers of the operations: 1 LStore, 2 RStore, 3 MStore, 4 Load, 5 LFlush, 6 RFlush, 7 crash, 8 L-RMW, 9 R-RMW,
-- 10 M-RMW, 11 set crash.
use Rattle.std.specs.Prelude.{ℕ, Bool, cond, not, ◌&&◌, ◌||◌, leb, eqb}
use Rattle.model.specs.Cxl0.{Machine, Location, Value}
use Rattle.model.specs.Cxl0.{Event, LStore, RStore, MStore, Load, LFlush, RFlush, Crash, SetCrash}
use Rattle.model.specs.Cxl0.{RMW, L, R, M}

unfoldable pub is_operation : ℕ → Bool
is_operation op = leb 1 op && leb op 11

-- The operations at a location: all but the crashes.
unfoldable pub is_located : ℕ → Bool
is_located op = is_operation op && not (eqb op 7 || eqb op 11)

-- The event of an operation by its number, with the machine, the location, the value and the value that is written
-- after a read, of which it uses what it needs. A set crash has its set in place of the location.
unfoldable pub event_of : ℕ → Machine → Location → Value → Value → Event
event_of op i x v w =
    cond (eqb op 1) (LStore i x v)
    (cond (eqb op 2) (RStore i x v)
    (cond (eqb op 3) (MStore i x v)
    (cond (eqb op 4) (Load i x v)
    (cond (eqb op 5) (LFlush i x)
    (cond (eqb op 6) (RFlush i x)
    (cond (eqb op 8) (RMW L i x v w)
    (cond (eqb op 9) (RMW R i x v w)
    (cond (eqb op 10) (RMW M i x v w)
    (cond (eqb op 11) (SetCrash x)
    (Crash i))))))))))
