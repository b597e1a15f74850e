-- `put` puts the bytes one after the other.
use Prim.Native.Nat.{ℕ, suc, ◌+◌, ◌≤◌, ◌<◌}
use native.Mathlib.Numerals.{add-one}
use native.Mathlib.Omega.{arith}
use mathlib.Core.Path.{◌≡◌, refl, sym, ap, ◌∙◌}
use mathlib.Core.List.{List, [], ◌∷◌}
use lib.ListN.{length, get_or, take, set}
use lib.Seq.{take-suc, take-length, length-take-le}
use Rattle.model.proofs.Limits.{mapped}
use Rattle.fields.specs.Put.{put}
use Rattle.fields.proofs.Put.{put_sets, put_none, put_more}
use Rattle.verdict_file.proofs.filling.put.Goals as goal

-- One byte more is put behind those before it.
one_more : (l bytes now : List ℕ) (at i : ℕ) → now ≡ put l at (take i bytes) → length now ≡ length l
    → i < length bytes → at + length bytes ≤ length l
    → set now (at + i) (get_or bytes i 0) ≡ put l at (take (suc i) bytes)
one_more l bytes now at i same kept low room =
    let byte : List ℕ = get_or bytes i 0 ∷ [] in
    let place : at + length (take i bytes) ≡ at + i = omega (arith, length-take-le i bytes (omega arith)) in
    put_sets byte now (at + i) (omega arith)
    ∙ ap (λ (part : List ℕ). put part (at + i) byte) same
    ∙ put_more l at (at + i) (take i bytes) byte place (omega arith)
    ∙ ap (put l at) (sym (take-suc bytes i 0 low))

pub loop-i-init : goal.loop-i-init
loop-i-init g c = sym (put_none _ _)

pub loop-i-preserved : goal.loop-i-preserved
loop-i-preserved g c =
    let sized : length c.args.bytes ≡ g.row.N = search mapped in
    rw add-one (one_more c.args.part.now c.args.bytes c.loop-i.part c.args.at c.loop-i.i c.loop-i.invariant
    c.loop-i.auto.part (omega arith) (omega arith))

pub returns : goal.returns
returns g c =
    let sized : length c.args.bytes ≡ g.row.N = search mapped in
    let all : c.loop-i.i ≡ length c.args.bytes = omega arith in
    (refl, c.loop-i.invariant ∙ rw (all, take-length))
