-- The loop that cuts the events from a place on: what it keeps, turn by turn, and the block that it leaves.
use Prim.Native.Nat.{ℕ, suc, ◌+◌, ◌≤◌, ◌<◌}
use native.Mathlib.Nat.{le_refl}
use native.Mathlib.Numerals.{add-one}
use native.Mathlib.Omega.{arith}
use mathlib.Core.Path.{◌≡◌, refl, sym, ap, ◌∙◌, subst}
use mathlib.Core.Logic.{◌≢◌, ◌⊎◌, ⊎_elim}
use mathlib.Core.Bool.{true, false, ◌&&◌, and-true}
use mathlib.Core.List.{List}
use lib.Dec.{eqb}
use lib.ListN.{length}
use Rattle.model.specs.Cxl0.{Value, event}
use Rattle.model.specs.OneLocation.{clears_site, enabled_at, effect}
use Rattle.model.specs.Meaning.{meant}
use Rattle.std.specs.Prelude.{Option, None, Some}
use Rattle.model.specs.declared.Event as declared
use Rattle.entries.specs.Entries.{site_meant, short_of}
use Rattle.entries.specs.declared.Site.{Site}
use Rattle.entries.specs.declared.Acted.{Acted}
use Rattle.rows.specs.Rows.{state}
use Rattle.rows.specs.Sites.{Known}
use Rattle.scratch.specs.Layout.{WORDS, MOST, SEGMENTS, LOG, OnlyIn}
use Rattle.scratch.specs.Words.{event_in, struct_in}
use Rattle.scratch.proofs.Frames.{only_none, only_then, only_wider}
use Rattle.scratch.proofs.Events.{meant_read}
use Rattle.scratch.proofs.StepArea.{struct_kept, event_kept}
use Rattle.levels.specs.Tasks.{accepting}
use Rattle.levels.specs.declared.Closing.{Closing}
use Rattle.levels.specs.declared.Closing.TheVariants.{Open}
use Rattle.segments.specs.Costs.{met}
use Rattle.segments.specs.Words.{SegmentFits, SegmentPut}
use Rattle.segments.specs.Segments.{Accepts, Closes, final, ended}
use Rattle.segments.specs.declared.words.Segment.{Segment}
use Rattle.segments.specs.declared.words.Block.{Block}
use Rattle.walking.specs.Acting.{Acts}
use Rattle.blocks.specs.Splitting.{kind_of, ends_block, closing_of, forced_of, Splittable, KnownEnd, Split}
use Rattle.blocks.specs.declared.splitting.Place.{Place}
use Rattle.blocks.specs.declared.splitting.Kind.{Kind}
use Rattle.blocks.specs.declared.splitting.Kind.TheVariants.{Inside, Store, ReadStore}
use Rattle.blocks.specs.declared.splitting.Kind.TheVariants.{MemoryStore, ReadMemoryStore, OtherRead}
use Rattle.blocks.proofs.EventKinds.{read_of, asks_kind, store_leads, read_value}
use Rattle.blocks.proofs.Cutting.{NONE, Alike, Cut, Cuts, AllPut, cuts_none, cuts_inside, cuts_reset, all_put}
use Rattle.blocks.proofs.Cutting.{cuts_next, segmented}

-- The segment that is open at the place.
abbrev pub opened : Place → ℕ → Segment
opened p k =
    record { copy = p.copy; first = p.gap; end = k; code = p.code; closing = Open; reset = NONE }

-- The segment that is open at gap t after a store.
abbrev pub opens : Acted → (t k : ℕ) → Segment
opens made t k =
    record {
      copy = made.entry.copy;
      first = t;
      end = k;
      code = made.entry.sharers;
      closing = Open;
      reset = NONE;
    }

-- The open segment s as an event closes it at gap t.
abbrev pub closed : Segment → ℕ → Closing → Segment
closed s t closing =
    record { copy = s.copy; first = s.first; end = t; code = s.code; closing = closing; reset = s.reset }

-- The events up to gap t of k are cut, with nothing but segments written.
pub record Splitting (site : Site) (k : ℕ) (w₀ : List ℕ) (s₀ : Segment) (w : List ℕ) (l : ℕ) (s : Segment) (t : ℕ)
    : Type 0 where
  pub most : t ≤ k
  pub frame : OnlyIn SEGMENTS LOG w₀ w
  pub cuts : Cuts (site_meant site) s₀ w l s t
  pub end : s.end ≡ k
  pub closing : s.closing ≡ Open

-- An event that does not end a block asks nothing of memory.
goes_on : (kind : Kind) (v : Value) → ends_block kind ≡ false → forced_of kind v ≡ None
goes_on Inside v h = refl
goes_on Store v h = refl
goes_on ReadStore v h = refl
goes_on MemoryStore v h = cc
goes_on ReadMemoryStore v h = cc
goes_on OtherRead v h = cc

-- Only a read of another value asks something of memory.
forced_same : (kind : Kind) {v v' : Value} → (kind ≡ OtherRead → v ≡ v') → forced_of kind v ≡ forced_of kind v'
forced_same Inside h = refl
forced_same Store h = refl
forced_same ReadStore h = refl
forced_same MemoryStore h = refl
forced_same ReadMemoryStore h = refl
forced_same OtherRead h = ap Some (h refl)

module _ {site : Site} {p : Place} {k : ℕ} {w₀ : List ℕ} (start : Splittable site p k w₀) where
  abbrev s₀ : Segment
  s₀ = opened p k

  pub begin : Splitting site k w₀ s₀ w₀ 0 s₀ p.gap
  begin =
      record {
        most = omega (arith, start.before);
        frame = only_none SEGMENTS LOG w₀;
        cuts = cuts_none (site_meant site) w₀ s₀ start.fits refl;
        end = refl;
        closing = refl;
      }

  module _ {w : List ℕ} {l : ℕ} {s : Segment} {t : ℕ} (at : Splitting site k w₀ s₀ w l s t) where
    pub room : WORDS ≤ length w
    room = rw at.frame.sized start.room

    same_struct : (j : ℕ) → j < k → struct_in w j ≡ struct_in w₀ j
    same_struct j h = struct_kept at.frame (omega arith) j (omega (arith, start.few))

    pub known_in : (j : ℕ) → j < k → Known (struct_in w j)
    known_in j h = rw (same_struct j h) (start.known j h)

    -- The number of the open segment has a place, and a segment closed at gap t fits it.
    pub number : l ≤ MOST
    number = omega (arith, at.cuts.few, at.most, start.few)

    pub fits_closed : (closing : Closing) → SegmentFits (closed s t closing)
    fits_closed closing =
        let g = at.cuts.grown in
        record {
          first = omega (arith, g.order, at.most, start.few);
          end = omega (arith, at.most, start.few);
          code = g.code;
          reset = ⊎_elim (λ e. rw e (omega arith)) (λ r. omega (arith, r.1, at.most, start.few)) g.resets;
        }

    -- ---- the events are at their end

    module _ (over : k ≤ t) where
      here : t ≡ k
      here = omega (arith, at.most)

      pub fits_open : SegmentFits s
      fits_open =
          let end : t ≡ s.end = here ∙ sym at.end in
          let closing : Open ≡ s.closing = sym at.closing in
          subst SegmentFits (λ i. closed s (end i) (closing i)) (fits_closed Open)

    -- ---- a segment is put

    module _ {w' : List ℕ} {s' : Segment} (put : SegmentPut w l s' w') (alike : Alike s s') (end : s'.end ≡ t)
        (reset : s'.reset ≡ s.reset) where
      frame_put : OnlyIn SEGMENTS LOG w₀ w'
      frame_put = only_then at.frame (only_wider put.frame (omega arith) (omega (arith, number)))

      whole : AllPut (site_meant site) s₀ w' l t
      whole = all_put at.cuts (omega (arith, at.most, start.few)) put alike end reset

      -- It closes the block.
      split_put : (b : Block) → b.count ≡ l + 1 → t ≤ b.end → p.gap < b.end → b.end ≤ k
          → Closes (site_meant site) w' b l
          → (b.end < k → KnownEnd w₀ b w') → Split site p k w₀ b w'
      split_put b count upto longer most closes last =
          let begins = whole.begins in
          let same : (j : ℕ) → j < t → Known (struct_in w' j) =
          λ j h. rw (struct_kept frame_put (omega arith) j (omega (arith, at.most, start.few)))
          (start.known j (omega (arith, at.most)))
          in
          record {
            frame = frame_put;
            segmented = segmented whole b same (omega (arith, at.most, start.few)) (count ∙ add-one l) upto
                (omega (arith, start.few)) closes;
            some = omega arith;
            first = begins.first;
            code = begins.code;
            copy = begins.copy;
            longer = longer;
            most = most;
            last = last;
          }

    -- The events end with the open segment.
    pub split_end : {w' : List ℕ} → k ≤ t → SegmentPut w l s w'
        → Split site p k w₀ (record { count = l + 1; end = k; forced = None }) w'
    split_end {w'} over put =
        let b : Block = record { count = l + 1; end = k; forced = None } in
        let there : s.end ≡ t = omega (arith, at.end, at.most) in
        split_put put (record { first = refl; code = refl; copy = refl }) there refl b refl at.most start.before
        (le_refl k)
        (ended (sym (add-one l)) (rw put.stored at.end) (rw put.stored at.closing) refl)
        (λ less. absurd (omega arith))

    -- ---- an event

    module _ (more : t < k) {e : declared.Event} (read : e ≡ struct_in w t) {kind : Kind}
        (is : kind ≡ kind_of s.copy (meant e)) where
      abbrev u : Value
      u = s.copy

      means : meant e ≡ event_in w t
      means = meant_read w t e read

      of_kind : kind_of u (event_in w t) ≡ kind
      of_kind = rw (← means) (sym is)

      pub known_event : Known e
      known_event = rw read (known_in t more)

      -- It is inside the open segment, and not its first reset,
      pub again_inside : kind ≡ Inside
          → (s.reset ≢ NONE) ⊎ (clears_site (meant e) (site_meant site) ≡ false)
          → Splitting site k w₀ s₀ w l s (t + 1)
      again_inside inside other =
          let not_first : (s.reset ≢ NONE) ⊎ (clears_site (event_in w t) (site_meant site) ≡ false) =
          rw means at other
          in
          rw (add-one t)
          (record {
            most = more;
            frame = at.frame;
            cuts = cuts_inside at.cuts (of_kind ∙ inside) not_first (omega (arith, start.few));
            end = at.end;
            closing = at.closing;
          })

      -- or its first reset,
      pub again_reset : kind ≡ Inside → s.reset ≡ NONE → clears_site (meant e) (site_meant site) ≡ true
          → Splitting site k w₀ s₀ w l
          (record { copy = s.copy; first = s.first; end = s.end; code = s.code; closing = s.closing; reset = t })
          (t + 1)
      again_reset inside none clears =
          let s' : Segment =
          record { copy = s.copy; first = s.first; end = s.end; code = s.code; closing = s.closing; reset = t }
          in
          rw (add-one t)
          (record {
            most = more;
            frame = at.frame;
            cuts =
                cuts_reset at.cuts (of_kind ∙ inside) s' (record { first = refl; code = refl; copy = refl }) refl none
                (rw (← means) clears) (omega (arith, start.few));
            end = at.end;
            closing = at.closing;
          })

      -- or it closes the open segment,
      module _ (some : kind ≢ Inside) {w' : List ℕ} (put : SegmentPut w l (closed s t (closing_of kind)) w') where
        kept : event_in w' t ≡ event_in w t
        kept = event_kept put.frame (omega arith) t (omega (arith, start.few))

        asks_closed : (c m : ℕ)
            → enabled_at (site_meant site) (event (event_in w' t)) (state c u m)
            ≡ (accepting (closing_of kind) (eqb m u) c && met (forced_of kind (read_of (event_in w t))) m)
        asks_closed c m =
            rw (kept, ← of_kind) (asks_kind (site_meant site) u (event_in w t) c m (rw (← of_kind) at some))

        -- Where it is a store, the state after it has the memory from before.
        next_state : ends_block kind ≡ false → (made : Acted)
            → short_of made.entry ≡ effect (site_meant site) (event (meant e)) (state 0 u 0) → (c m : ℕ)
            → effect (site_meant site) (event (event_in w' t)) (state c u m)
            ≡ state made.entry.sharers made.entry.copy m
        unfolding short_of
        next_state goes made leads c m =
            let k' = site_meant site in
            let after = sym (rw means at leads) in
            rw kept
            (store_leads k' u (event_in w t) c m (rw (← of_kind) at some) (rw of_kind goes)
            ∙ λ i. state (after i).code (after i).copy m)

        -- Where it reads another value than that of the copies, that is the value of its struct.
        asks_value : forced_of kind (read_of (event_in w t)) ≡ forced_of kind e.value
        asks_value = forced_same kind (λ other. rw (← means) (read_value e u (sym is ∙ other)))

        -- with a store, after which the next segment begins,
        pub again_store : ends_block kind ≡ false → {made : Acted}
            → Acts site (meant e) u (record { code = 0; memory = 0; end = 0 }) made
            → Splitting site k w₀ s₀ w' (l + 1) (opens made (t + 1) k) (t + 1)
        again_store goes {made} acts =
            let s' = opens made (t + 1) k in
            let not_read = goes_on kind (read_of (event_in w t)) goes in
            let asked : (c m : ℕ)
            → enabled_at (site_meant site) (event (event_in w' t)) (state c u m)
            ≡ accepting (closing_of kind) (eqb m u) c =
            λ c m. asks_closed c m ∙ rw not_read (and-true _)
            in
            let cut : Cut (site_meant site) w' (closed s t (closing_of kind)) s' =
            record { accepts = asked; next = add-one t; leads = next_state goes made acts.leads }
            in
            let before = whole put (record { first = refl; code = refl; copy = refl }) refl refl in
            rw (add-one l)
            (subst (Splitting site k w₀ s₀ w' (suc l) s') (sym (add-one t))
            (record {
              most = more;
              frame = frame_put put (record { first = refl; code = refl; copy = refl }) refl refl;
              cuts = cuts_next before s' (rw put.stored cut) acts.fits refl;
              end = refl;
              closing = refl;
            }))

        -- or with an event after which the state is known.
        pub split_known : ends_block kind ≡ true
            → Split site p k w₀ (record { count = l + 1; end = t + 1; forced = forced_of kind e.value }) w'
        split_known last =
            let b : Block = record { count = l + 1; end = t + 1; forced = forced_of kind e.value } in
            let accepts : Accepts (site_meant site) w' b (closed s t (closing_of kind)) true =
            record {
              enabled =
                  λ c m.
                  asks_closed c m
                  ∙ ap (λ (f : Option Value). accepting (closing_of kind) (eqb m u) c && met f m) asks_value;
            }
            in
            let before : kind_of u (event_in w₀ t) ≡ kind =
            rw (← event_kept at.frame (omega arith) t (omega (arith, start.few))) of_kind
            in
            let same_value = ap (λ (f : declared.Event). f.value) (read ∙ same_struct t more) in
            split_put put (record { first = refl; code = refl; copy = refl }) refl refl b refl (omega arith)
            (omega (arith, at.cuts.from)) (omega arith)
            (final (sym (add-one l)) (rw put.stored (sym (add-one t))) (rw put.stored accepts))
            (λ less. (
              l,
              sym (add-one l),
              rw put.stored (sym (add-one t)),
              rw (put.stored, before) last,
              rw (put.stored, before) (λ other. rw other (ap Some same_value)),
            ))
