-- The entry of an action's effect, byte by byte.
use Prim.Native.Nat.{ℕ, ◌<◌, ◌-◌, ◌%◌}
use native.Mathlib.Nat.{mod-eq_of_lt, lt_of_le_of_lt}
use mathlib.Core.Path.{◌≡◌, refl, sym, ap, ◌∙◌}
use lib.Bits.{bit_and, bit_or, and_le_l}
use Rattle.model.specs.Cxl0.{Machine}
use Rattle.model.specs.Sharers.{insert, remove, remove_all}
use Rattle.model.proofs.Bits.{free_byte, has_byte, insert_byte, remove_byte, remove_all_byte}
use Rattle.entries.specs.Entries.{short_of, entry_of}
use Rattle.entries.specs.declared.Entry as entry

-- Entries with the same copy are equal if their sharers and memory are.
same_entry : {b d c m n : ℕ} → b ≡ d → m ≡ n
    → ◌≡◌ {A = entry.Entry}
    (record { sharers = b; copy = c; memory = m })
    (record { sharers = d; copy = c; memory = n })
same_entry {c} p q = λ i. record { sharers = p i; copy = c; memory = q i }

-- An entry stands for its short form, and the short form for the entry.
pub entry_same : (e : entry.Entry) → e.sharers < 256 → e ≡ entry_of (short_of e)
unfolding short_of entry_of
entry_same e h = same_entry (sym (mod-eq_of_lt h)) refl

-- The byte of a set without machine i.
pub lost_byte : (i : Machine) (c b : ℕ) → b ≡ insert i 0 % 256 → c < 256 → bit_and c (255 - b) ≡ remove i c % 256
lost_byte i c b e h =
    let low = lt_of_le_of_lt (and_le_l c (255 - b)) h in
    sym (mod-eq_of_lt low) ∙ ap (λ (d : ℕ). d % 256) (remove_byte i c b e h)

-- The byte of a set with machine k and without machine i.
pub gained_byte : (k i : Machine) (c b d : ℕ) → b ≡ insert i 0 % 256 → d ≡ insert k 0 % 256 → c < 256
    → bit_or (bit_and c (255 - b)) d ≡ insert k (remove i c) % 256
gained_byte k i c b d e f h =
    insert_byte k _ d f (lt_of_le_of_lt (and_le_l c (255 - b)) h)
    ∙ ap (λ (m : ℕ). insert k m % 256) (remove_byte i c b e h)

-- The byte of a set without the machines of the set d.
pub lost_all_byte : (d c : ℕ) → c < 256 → d < 256 → bit_and c (255 - d) ≡ remove_all d c % 256
lost_all_byte d c h l =
    let low = lt_of_le_of_lt (and_le_l c (255 - d)) h in
    sym (mod-eq_of_lt low) ∙ ap (λ (b : ℕ). b % 256) (remove_all_byte d c h l)

-- What the bytes of an action's effect are shown by.
pub ruleset effects = (free_byte, has_byte, insert_byte, gained_byte, lost_byte, lost_all_byte, entry_same)
