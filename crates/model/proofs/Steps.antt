-- Steps of a schedule: one list in order after another, and at which location a step is.
use Prim.Native.Nat.{ℕ, zero, suc, ◌≤◌}
use native.Mathlib.Omega.{arith}
use mathlib.Core.Path.{◌≡◌, refl}
use mathlib.Core.List.{List, [], ◌∷◌, ◌++◌}
use lib.Dec.{T, eqb}
use Rattle.model.specs.Cxl0.{Location}
use Rattle.model.specs.Schedule.{Step, silent_of, in_order}
use Rattle.model.specs.OneLocation.{silent_at}
use Rattle.model.proofs.Weaving.{in_order_cons}

-- Steps in order from a count on are so from a smaller one on.
pub in_order_lower : (k l n : ℕ) (ps : List Step) → k ≤ l → T (in_order l n ps) → T (in_order k n ps)
unfolding in_order
in_order_lower k l n [] h t = tt
in_order_lower k l n (p ∷ ps) h t =
    let o = (in_order_cons l n p ps).0 t in
    (in_order_cons k n p ps).1 (omega arith, o.1, o.2)

-- Steps in order up to a count, and after them steps in order from there on.
pub in_order_append : (k l n : ℕ) (ps qs : List Step) → k ≤ l → l ≤ n → T (in_order k l ps) → T (in_order l n qs)
    → T (in_order k n (ps ++ qs))
unfolding in_order
in_order_append k l n [] qs g h s t = in_order_lower k l n qs g t
in_order_append k l n (p ∷ ps) qs g h s t =
    let o = (in_order_cons k l p ps).0 s in
    let rest = in_order_append p.before l n ps qs o.1 h o.2 t in
    (in_order_cons k n p (ps ++ qs)).1 (o.0, omega arith, rest)

-- A step is at the location that it names.
pub silent_at_silent_of : (x y : Location) (n i : ℕ)
    → silent_at x (silent_of (record { before = n; location = y; machine = i })) ≡ eqb x y
unfolding silent_of silent_at
silent_at_silent_of x y n zero = refl
silent_at_silent_of x y n (suc i) = refl
