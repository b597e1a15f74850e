-- What going back asks of the area, it leaves as it is.
use Prim.Native.Nat.{ℕ}
use native.Mathlib.Omega.{arith}
use mathlib.Core.List.{List}
use Rattle.entries.specs.declared.Site.{Site}
use Rattle.walking.specs.StepsBack.{Ready, OnlyRows}
use Rattle.scratch.proofs.Events.{struct_same, events_same}

pub ready_kept : {s : Site} {m : ℕ} {w w' : List ℕ} → Ready s m w → OnlyRows w w' → Ready s m w'
ready_kept ready only =
    record {
      room = omega (arith, ready.room, only.frame.sized);
      few = ready.few;
      owner = ready.owner;
      known = λ j l. rw (struct_same only.frame j (omega (arith, ready.few))) (ready.known j l);
      copies = λ t l. rw (only.copies t, events_same only.frame t (omega (arith, ready.few)))
          (ready.copies t l);
    }
