-- How a segment closes: behind its last gap there is to pay what the next segment costs, for the codes and the memory
-- values that its closing event accepts.
use Prim.Native.Nat.{ℕ, suc, ◌-◌, ◌≤◌, ◌<◌}
use native.Mathlib.Nat.{le_refl, le_of_eq}
use native.Mathlib.Omega.{arith}
use mathlib.Core.Path.{◌≡◌, refl, sym, ◌∙◌, subst}
use mathlib.Core.Logic.Iff
use mathlib.Core.Logic.{◌↔◌}
use mathlib.Core.Bool.{Bool, true, false, cond, ◌&&◌, and-true}
use mathlib.Core.List.{List}
use borrow.Author.Tests.{eq-eqb}
use lib.Dec.{T, eqb}
use Rattle.model.specs.Cxl0.{Value}
use Rattle.model.specs.OneLocation.{Site}
use Rattle.model.specs.Paying.{done}
use Rattle.model.proofs.Tests.{and_iff}
use Rattle.rows.specs.Rows.{state}
use Rattle.scratch.specs.Words.{events_from}
use Rattle.levels.specs.Stretches.{FAR}
use Rattle.levels.specs.Tasks.{accepting}
use Rattle.levels.specs.declared.Closing.{Closing}
use Rattle.levels.specs.declared.Closing.TheVariants.{Open, Same, Other}
use Rattle.segments.specs.declared.words.Segment.{Segment}
use Rattle.segments.specs.declared.words.Block.{Block}
use Rattle.segments.specs.Words.{segment_in}
use Rattle.std.proofs.Common.{None}
use Rattle.segments.specs.Costs.{met, ending, rest_from}
use Rattle.segments.specs.Segments.{Costs, Accepts, Follows, Closes, store, final, ended, Means, again_of}
use Rattle.segments.proofs.Rests.{rest_end, rest_far}
use Rattle.segments.proofs.Paying.{Onward, onward_pays, pays_onward, events_first}

-- What is to pay behind the last gap of a segment, where no silent step comes first, with memory value m there.
abbrev pub Behind : Site → List ℕ → Block → Segment → (m : Value) → (c x : ℕ) → Type 0
Behind k w b s m c x = Onward k (events_from w s.end (b.end - s.end)) (state c s.copy m) x

-- The number `last` is right: a code with memory value m has that much to pay if the segment's close accepts it.
abbrev pub Lasts : Site → List ℕ → Block → Segment → (m : Value) → (last : ℕ) → Type 0
Lasts k w b s m last =
    (c x : ℕ) → x < FAR
    → (T (accepting s.closing (eqb m s.copy) c) × (last ≤ x)) ↔ Behind k w b s m c x

-- ---- behind the last gap

-- At the end of a block there is nothing to pay, if memory has the value that is read there.
ending_reads : (reads : Bool) (x : ℕ) → x < FAR → (cond reads 0 FAR ≤ x) ↔ T reads
ending_reads true x far = (λ h. tt, λ t. omega arith)
ending_reads false x far = (λ h. absurd (omega arith), λ t. absurd t)

-- What is to pay is FAR if the closing event does not accept the code.
accepted_pays : (accepted : Bool) (r x : ℕ) → x < FAR → (T accepted × (r ≤ x)) ↔ (cond accepted r FAR ≤ x)
accepted_pays true r x far = (λ h. h.1, λ h. (tt, h))
accepted_pays false r x far = (λ h. absurd h.0, λ h. absurd (omega arith))

accepted_far : (accepted : Bool) (r : ℕ) → r ≤ FAR → cond accepted r FAR ≤ FAR
accepted_far true r h = h
accepted_far false r h = le_refl FAR

-- Every closing event accepts code 0 if memory has the value of the copies.
accepts_none : (closing : Closing) → accepting closing true 0 ≡ true
accepts_none Open = refl
accepts_none Same = refl
accepts_none Other = refl

module _ (k : Site) (w : List ℕ) (b : Block) (l : ℕ) where
  abbrev s : Segment
  s = segment_in w l

  -- Behind a store there is to pay what the next segment costs,
  after_store : Means k w b (suc l) → Follows k w b l → (m : Value) → Lasts k w b s m (rest_from w b (suc l) m)
  unfolding Onward
  after_store means f m c x far =
      let accepted = f.accepts.enabled c m ∙ and-true (accepting s.closing (eqb m s.copy) c) in
      let next = (means (suc l) (le_refl _) f.more m).exact x far in
      rw (events_first w b.end s.end f.inside, accepted, f.leads c m)
      (Iff.and Iff.rfl (Iff.symm (rw f.next at next)))

  -- behind the last event of the block nothing,
  after_final : suc l ≡ b.count → suc s.end ≡ b.end → Accepts k w b s true
      → (m : Value) → Lasts k w b s m (rest_from w b (suc l) m)
  unfolding Onward events_from
  after_final last end accepts m c x far =
      let none : b.end - suc s.end ≡ 0 = omega arith in
      let asked = accepting s.closing (eqb m s.copy) c in
      let reads = met b.forced m in
      let accepted : (T asked × (ending b m ≤ x)) ↔ T (asked && reads) =
      Iff.trans
      (Iff.and Iff.rfl (ending_reads reads x far))
      (Iff.symm (and_iff asked reads))
      in
      rw (
        events_first w b.end s.end (omega arith),
        none,
        rest_end w b (suc l) (le_of_eq (sym last)) m,
        accepts.enabled c m,
      )
      (λ r. (accepted.0 r, done), λ r. accepted.1 r.0)

  -- and so behind the last event of the log.
  after_ended : suc l ≡ b.count → s.end ≡ b.end → s.closing ≡ Open → b.forced ≡ None
      → (m : Value) → Lasts k w b s m (rest_from w b (suc l) m)
  unfolding Onward events_from
  after_ended last end asks free m c x far =
      let none : b.end - s.end ≡ 0 = omega arith in
      rw (none, rest_end w b (suc l) (le_of_eq (sym last)) m, free, asks) (λ r. tt, λ r. (tt, omega arith))

  -- What the segments behind it cost is right behind the last gap of a segment.
  pub behind_right : Means k w b (suc l) → Closes k w b l
      → (m : Value) → Lasts k w b s m (rest_from w b (suc l) m)
  behind_right means (store f) = after_store means f
  behind_right means (final last end accepts) = after_final last end accepts
  behind_right means (ended last end asks free) = after_ended last end asks free

  -- ---- without a copy

  -- There is to pay what is right behind the last gap, if the closing event accepts it.
  pub left_behind : Means k w b (suc l) → Closes k w b l
      → (m : Value) → Costs k w b.end s.end s.copy 0 m (again_of s m (rest_from w b (suc l) m))
  left_behind means closes m =
      let rest = rest_from w b (suc l) m in
      let ahead = events_from w s.end (b.end - s.end) in
      record {
        most = accepted_far (accepting s.closing (eqb m s.copy) 0) rest (rest_far w b (suc l) m);
        exact =
            λ x far.
            Iff.trans (pays_onward refl, onward_pays ahead)
            (Iff.trans (Iff.symm (behind_right means closes m 0 x far))
            (accepted_pays (accepting s.closing (eqb m s.copy) 0) rest x far));
      }

  -- With the value of the copies in memory every closing event accepts it.
  pub left_back : Means k w b (suc l) → Closes k w b l
      → Costs k w b.end s.end s.copy 0 s.copy (rest_from w b (suc l) s.copy)
  left_back means closes =
      let kept = rest_from w b (suc l) s.copy in
      let accepted : again_of s s.copy kept ≡ kept =
      rw (eq-eqb s.copy s.copy refl, accepts_none s.closing)
      in
      subst (Costs k w b.end s.end s.copy 0 s.copy) accepted (left_behind means closes s.copy)
