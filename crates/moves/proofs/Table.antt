-- The tests that the numbers of the move table pass: all that is shown of them rests on these.
use Prim.Native.Nat.{ℕ, ◌-◌, ◌^◌, ◌≤◌}
use mathlib.Core.Path.{◌≡◌, refl}
use mathlib.Core.Bool.{Bool, cond, not, ◌&&◌, ◌||◌}
use mathlib.Core.List.{List, [], ◌∷◌}
use lib.Dec.{T, eqb, eqb→eq, ltb}
use lib.Bits.{bit_or}
use lib.ListN.{length, get_or}
use Rattle.model.specs.Cxl0.{Machine, every_machine}
use Rattle.model.specs.Sharers.{has, insert, remove}
use Rattle.model.specs.OneLocation.{movable, moved}
use Rattle.model.proofs.Machines.{every_e as every-machine}
use Rattle.masks.proofs.Constants.{every, tells}
use Rattle.moves.specs.Exchange.{put, exchange}
use Rattle.moves.specs.Table.{number, entries, table, number_at}
use Rattle.moves.proofs.Everywhere.{everywhere}
use Rattle.moves.proofs.Swaps.{swap, rises, distance}
use Rattle.moves.proofs.Unions.{union}

code_0 : T (every_machine 6 (λ k. eqb (number_at k 0) 1))
unfolding every_machine table entries number moved has insert remove
code_0 = tt

-- How many numbers it has, and those that document 01 names.
pub checks : (length table ≡ 384)
    × (number_at 2 1 ≡ 6)
    × (number_at 1 3 ≡ 10)
    × (number_at 1 6 ≡ 106)
    × ((k : Machine) → 1 ≤ k → k ≤ 6 → number_at k 0 ≡ 1)
unfolding table entries number moved has insert remove
checks = (
  refl,
  refl,
  refl,
  refl,
  λ k l h. eqb→eq (number_at k 0) 1 (every-machine 6 (λ k. eqb (number_at k 0) 1) code_0 k l h),
)

-- ---- owner 1

-- The numbers of owner 1, which the code keeps, and the one for code c.
unfoldable pub kept : List ℕ
kept = entries 64 0

abbrev pub entry : ℕ → ℕ
entry c = get_or kept c 0

-- The number that a move of machine i leads to, or 0 where i cannot move.
abbrev pub ahead : ℕ → Machine → ℕ
ahead c i = cond (movable 1 i c) (entry (moved 1 i c)) 0

-- The rule of the table: a number is the union of its own code and the numbers one move ahead.
unfoldable pub closed : ℕ → Bool
closed c = eqb (entry c) (bit_or (2 ^ c) (union 6 (ahead c)))

-- Moves come to an end: each makes the code without its owner less.
unfoldable pub falls : ℕ → Machine → Bool
falls c i = not (movable 1 i c) || ltb (remove 1 (moved 1 i c)) (remove 1 c)

-- The 64 numbers follow the rule.
pub all_closed : T (every 64 closed)
unfolding every_machine every closed union kept entries number moved has insert remove
all_closed = tt

pub all_fall : T (every 64 (λ c. every_machine 6 (falls c)))
unfolding every_machine every falls moved has insert remove
all_fall = tt

-- ---- every owner

-- The codes that rise where machines 1 and k are exchanged, as masks: for k from 1 to 6, and for one k.
unfoldable pub risers : List ℕ
risers =
    0 ∷ 0x2222_2222_2222_2222 ∷ 0x0a0a_0a0a_0a0a_0a0a ∷ 0x00aa_00aa_00aa_00aa ∷ 0x0000_aaaa_0000_aaaa
    ∷ 0x0000_0000_aaaa_aaaa ∷ []

abbrev pub low : Machine → ℕ
low k = get_or risers (k - 1) 0

pub all_rise : T (everywhere (λ k. tells (low k) (rises k)))
unfolding every_machine every risers has
all_rise = tt

-- A number is owner 1's for the exchanged code, exchanged back, and has no more than 64 bits.
unfoldable pub follows : Machine → ℕ → Bool
follows k c =
    let back = swap 64 (low k) (distance k) (entry (exchange k c)) in
    eqb (number_at k c) back && ltb back (2 ^ 64)

-- The 384 numbers are those that the 64 give.
pub all_follow : T (everywhere follows)
unfolding every_machine every follows risers kept table entries number moved exchange put has insert remove
all_follow = tt
