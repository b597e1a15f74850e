-- `move_to` meets its contract. The loop's invariant: those of machines 1 to n - 1 that give up are noted.
use Prim.Native.Nat.{suc, ◌+◌, ◌≤◌}
use native.Mathlib.Omega.{arith}
use mathlib.Core.Path.{◌≡◌, refl}
use lib.ListN.{length, length-map}
use Rattle.walking.specs.Trails.{gives_up, leaving, word_of}
use Rattle.scratch.proofs.Stored.{stored_none, stored_length}
use Rattle.walking.proofs.StepWords.{stored_if}
use Rattle.walking.proofs.Givers.{leaving_few}
use Rattle.walking.proofs.move_to.Goals as goal

pub loop-n-init : goal.loop-n-init
unfolding leaving
loop-n-init c = (0, refl, stored_none _ _)

-- The area keeps its length, and at most n - 1 words are stored.
room : (h : goal.After-word) → let a : _ = h.args in
    (length h.loop-n.w ≡ length a.w.now) × (h.loop-n.to + 1 ≤ a.at + h.loop-n.n)
room h =
    let a = h.args in
    let inv = h.loop-n.invariant in
    let k = a.site.owner.0 in
    let words = length-map (leaving k a.c a.d inv.0) (word_of a.t a.site.location.0) in
    (stored_length inv.2, omega (arith, leaving_few k a.c a.d inv.0))

pub put_if-to-requires : goal.put_if-to-requires
put_if-to-requires c = omega (arith, room c)

pub loop-n-preserved : goal.loop-n-preserved
unfolding leaving
loop-n-preserved c =
    let a = c.args in
    let k = a.site.owner.0 in
    let f = word_of a.t a.site.location.0 in
    let inv = c.loop-n.invariant in
    let i = suc inv.0 in
    let one = rw (c.gives_up.ensures, c.word.ensures, inv.1) at c.put_if-to.ensures in (
      i,
      omega arith,
      stored_if f (leaving k a.c a.d inv.0) (gives_up k a.c a.d i) i inv.2 one,
    )

pub returns : goal.returns
returns c =
    let inv = c.loop-n.invariant in
    let all : inv.0 ≡ 6 = omega arith in
    rw all at inv.2
