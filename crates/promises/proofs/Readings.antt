-- What the reader's contract says of its answer.
use Prim.Native.Nat.{ℕ}
use mathlib.Core.Path.{◌≡◌, refl, sym, ap, ◌∙◌}
use mathlib.Core.Logic.{◌↔◌}
use mathlib.Core.List.{List}
use lib.ListN.{length}
use Rattle.std.specs.Prelude.{Result}
use Rattle.fields.specs.declared.Edition.{Edition}
use Rattle.fields.specs.declared.Refusal.{Refusal}
use Rattle.log_bytes.specs.Records.{Records, WithinLimits}
use Rattle.log_bytes.specs.Bytes.{Bytes, encode}
use Rattle.log_bytes.specs.Reading.{Log, accepted, rejected, read_log}
use Rattle.log_bytes.proofs.Checks.{clash}
use Rattle.log_bytes.proofs.OneForm.{accepted_iff}
use Rattle.log_bytes.specs.declared.Head.{Head}
use Rattle.reader.specs.Answers.{holds, refused, meaning_of, summary_of}

module _ (s : List ℕ) (a : Result Head Refusal) (answered : meaning_of a ≡ summary_of (read_log s)) where
  pub read_refused : (number : ℕ) → read_log s ≡ rejected number → meaning_of a ≡ refused number
  read_refused number e = answered ∙ ap summary_of e

  pub read_accepted : (r : Records) → read_log s ≡ accepted r
      → meaning_of a ≡ holds r.edition r.machines r.persistent (length r.homes) (length r.events)
  read_accepted r e = answered ∙ ap summary_of e

  -- An answer that is no refusal is that of an accepted log.
  of_accepted : (l : Log) {d : Edition} {n p x e : ℕ} → summary_of l ≡ holds d n p x e → (r : Records)
      × (l ≡ accepted r)
  of_accepted (accepted r) h = (r, refl)
  of_accepted (rejected number) h = clash (cc)

  pub read_exactly : Bytes s
      → ((edition : Edition) × (machines persistent locations events : ℕ)
      × (meaning_of a ≡ holds edition machines persistent locations events))
      ↔ ((r : Records) × WithinLimits r × (encode r ≡ s))
  read_exactly b = (
    λ (d, n, p, x, e, said).
        let (r, log) = of_accepted (read_log s) (sym answered ∙ said) in
        let (within, bytes) = (accepted_iff s b r).0 log in
        (r, within, bytes),
    λ (r, within, bytes).
        let log = (accepted_iff s b r).1 (within, bytes) in
        (r.edition, r.machines, r.persistent, length r.homes, length r.events, read_accepted r log),
  )
