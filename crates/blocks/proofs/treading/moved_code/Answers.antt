-- `moved_code` meets its contract: machine i's bit goes, and the owner's comes.
use Prim.Native.Nat.{ℕ, ◌-◌, ◌<◌, ◌%◌}
use native.Mathlib.Nat.{mod-eq_of_lt}
use native.Mathlib.Omega.{arith}
use mathlib.Core.Path.{◌≡◌, sym, ap, ◌∙◌}
use lib.Bits.{bit_and, bit_or, and_le_l}
use Rattle.model.specs.Cxl0.{Machine}
use Rattle.model.specs.Sharers.{insert}
use Rattle.model.specs.OneLocation.{moved}
use Rattle.model.proofs.Bits.{insert_byte, remove_byte}
use Rattle.masks.specs.Sets.{OneToSix}
use Rattle.masks.proofs.Codes.{moved_fits}
use Rattle.blocks.proofs.treading.moved_code.Goals as goal

-- The code of machine i alone is a byte.
byte : (i : Machine) (a : ℕ) → (a ≡ insert i 0) × (a < 64) → a ≡ insert i 0 % 256
byte i a alone = alone.0 ∙ sym (mod-eq_of_lt (omega arith))

moved-byte : (k i : Machine) (c a b : ℕ) → OneToSix k → c < 64
    → (a ≡ insert i 0) × (a < 64) → (b ≡ insert k 0) × (b < 64) → bit_or (bit_and c (255 - a)) b ≡ moved k i c
unfolding moved
moved-byte k i c a b own fits goes comes =
    let low : bit_and c (255 - a) < 256 = omega (arith, and_le_l c (255 - a)) in
    let all = moved_fits k i c own fits in
    insert_byte k (bit_and c (255 - a)) b (byte k b comes) low
    ∙ ap (λ (d : ℕ). insert k d % 256) (remove_byte i c a (byte i a goes) (omega arith))
    ∙ mod-eq_of_lt (omega arith)

pub returns : goal.returns
returns c =
    let a = c.args in
    let same = moved-byte a.owner.0 a.i.0 a.c c.alone.result c.alone-2.result
    c.requires.0 c.requires.2 c.alone.ensures c.alone-2.ensures in
    (same, rw same (moved_fits a.owner.0 a.i.0 a.c c.requires.0 c.requires.2))
