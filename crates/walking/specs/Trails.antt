-- Silent steps of one location, one after the other, by their machines: 0 stands for a write-back.
use Rattle.std.specs.Prelude.{ℕ, zero, suc, ◌+◌, ◌*◌, ◌≤◌, ◌≡◌, Bool, cond, not, ◌&&◌, List, [], ◌∷◌, ◌++◌, T, eqb}
use Rattle.model.specs.Cxl0.{Machine, Location, Topology, Action}
use Rattle.model.specs.Schedule.{Step}
use Rattle.model.specs.Sharers.{has}
use Rattle.model.specs.OneLocation.{Local, moved, runs_at, after_at}
use Rattle.model.specs.OneLocation.{recoded, written}

-- At a location with owner k the steps are possible in their turn and lead from s to t.
pub data Trail (k : Machine) : List Machine → Local → Local → Type 0 where
  none : {s : Local} → Trail k [] s s
  moves : {s t : Local} {is : List Machine} (i : Machine) → T (not (eqb i k) && has i s.code)
      → Trail k is (recoded (moved k i s.code) s) t → Trail k (i ∷ is) s t
  writes : {s t : Local} {is : List Machine} → T (has k s.code)
      → Trail k is (written s) t → Trail k (0 ∷ is) s t

-- Machine i is the first one in the set of code c.
pub record FirstHolder (i : Machine) (c : ℕ) : Type 0 where
  pub held : T (has i c)
  pub first : (j : Machine) → T (has j c) → i ≤ j

-- Between code c and code d, machine i gives its copy up to the owner k.
unfoldable pub gives_up : Machine → ℕ → ℕ → Machine → Bool
gives_up k c d i = not (eqb i k) && (has i c && not (has i d))

-- One number where the test is passed, and none where it is failed.
abbrev pub one_if : Bool → ℕ → List ℕ
one_if b n = cond b (n ∷ []) []

-- Of machines 1 to n, those that give up their copies.
unfoldable pub leaving : Machine → ℕ → ℕ → ℕ → List Machine
leaving k c d zero = []
leaving k c d (suc n) = leaving k c d n ++ one_if (gives_up k c d (suc n)) (suc n)

-- A write-back, after a move of machine i where the owner has no copy.
abbrev pub draining : Machine → ℕ → Machine → List Machine
draining k c i = one_if (not (has k c)) i ++ 0 ∷ []

-- The step of machine i at location x after n events, and the word that holds it.
abbrev pub step_at : ℕ → Location → Machine → Step
step_at n x i = record { before = n; location = x; machine = i }

abbrev pub word_of : ℕ → Location → Machine → ℕ
word_of n x i = n + 256 * x + 65536 * i

-- At x the actions are possible in their turn and lead from s to t.
pub record RunsTo (sys : Topology) (x : Location) (acts : List Action) (s t : Local) : Type 0 where
  pub runs : T (runs_at sys x acts s)
  pub leads : after_at sys x acts s ≡ t
