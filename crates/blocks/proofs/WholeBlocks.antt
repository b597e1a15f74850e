-- A block from its first place to the next: what the numbers of its segments say of its runs, and what the walk leaves.
use Prim.Native.Nat.{ℕ, suc, zero-le, ◌+◌, ◌-◌, ◌*◌, ◌≤◌, ◌<◌}
use native.Mathlib.Nat.{le_refl}
use native.Mathlib.Omega.{arith}
use mathlib.Core.Path.{◌≡◌, refl, sym, ap, ◌∙◌, subst}
use mathlib.Core.Logic.{◌≢◌}
use mathlib.Core.Bool.{true}
use Rattle.std.specs.Prelude.{Option, None, Some, unwrap_or}
use mathlib.Core.List.{List, ◌++◌, map, Memᴰ}
use lib.Dec.{T}
use Rattle.model.specs.Cxl0.{Location, Value, Topology, Event, event}
use Rattle.model.specs.OneLocation.{Local, site_of, event_at, effect, HasRunAt}
use Rattle.model.specs.OneLocation as model
use Rattle.model.specs.ShortestAt.{RunOf, ShortestFrom, KnownAfter}
use Rattle.model.specs.Paying.{Pays}
use Rattle.model.specs.Words.{step_of_word}
use Rattle.model.proofs.RunsOf.{halves}
use Rattle.model.proofs.Payments.{AllAt, pays_more, pays_run}
use Rattle.entries.specs.Entries.{site_meant}
use Rattle.entries.specs.declared.Site.{Site}
use Rattle.rows.specs.Rows.{state}
use Rattle.rows.specs.Sites.{NamesSix, Known, Describes}
use Rattle.scratch.specs.Layout.{MOST, ROWS, LEVELS, LOG, OnlyIn}
use Rattle.scratch.specs.Words.{event_in, struct_in, events_from}
use Rattle.scratch.proofs.Frames.{only_then, only_wider}
use Rattle.scratch.proofs.Events.{meant_read, known_machines, events_two, events_all, length_from}
use Rattle.scratch.proofs.Events.{same_from, struct_same, event_same}
use Rattle.levels.specs.Stretches.{FAR}
use Rattle.segments.specs.Words.{segment_in}
use Rattle.segments.specs.Costs.{rest_from}
use Rattle.segments.specs.Segments.{Costs}
use Rattle.segments.specs.Weighing.{Restable}
use Rattle.segments.specs.declared.words.Block.{Block}
use Rattle.blocks.specs.Splitting.{kind_of, ends_block, Split}
use Rattle.blocks.specs.declared.splitting.Kind.TheVariants.{OtherRead}
use Rattle.blocks.specs.Blocks.{between, Laid, Priced, Ahead, Through, last_in, Closable, Closed}
use Rattle.blocks.specs.Blocks.{Blockable, Crossed, Blocked}
use Rattle.blocks.specs.declared.treading.Stand.{Stand}
use Rattle.blocks.specs.declared.splitting.Place.{Place}
use Rattle.blocks.proofs.Towards.{all_from}
use Rattle.blocks.proofs.EventKinds.{read_of, read_value}
use Rattle.segments.proofs.Kept.{kept_between}
use Rattle.blocks.proofs.Pricing.{kept_laid}
use Rattle.blocks.proofs.Planning.{same_segment}
use Rattle.blocks.proofs.Places.{known_behind}
use Rattle.blocks.proofs.FewSteps.{pays_few}

-- The most steps of a block.
abbrev MOST-PAID : ℕ
MOST-PAID = 8 + 2 * MOST

module _ {site : Site} {p : Place} {k : ℕ} {w : List ℕ} (start : Blockable site p k w) {b : Block} {w₁ : List ℕ}
    (cut : Split site p k w b w₁) where
  pub laid : Laid site b w₁
  laid =
      record {
        room = rw cut.frame.sized start.splittable.room;
        owner = start.splittable.owner;
        segmented = cut.segmented;
      }

  short : b.end ≤ MOST
  short = cut.segmented.short

  module _ {w₂ : List ℕ} (priced : Priced site b w₁ w₂) where
    abbrev here : model.Site
    here = site_meant site

    abbrev x : Location
    x = site.location.0

    abbrev begin : Local
    begin = state p.code p.copy p.memory

    abbrev steps : ℕ
    steps = rest_from w₂ b 0 p.memory

    -- ---- the area

    frame_priced : OnlyIn LEVELS LOG w w₂
    frame_priced = only_then (only_wider cut.frame (omega arith) (le_refl _)) priced.frame

    only_events : OnlyIn ROWS LOG w w₂
    only_events = only_wider frame_priced (omega arith) (le_refl _)

    same_events : (t n : ℕ) → t ≤ n → n ≤ MOST → between w₂ t n ≡ between w t n
    same_events t n h few = same_from only_events t (n - t) (omega arith)

    same_first : (segment_in w₂ 0).first ≡ p.gap
    same_first = rw (priced.segments 0) cut.first

    same_code : (segment_in w₂ 0).code ≡ p.code
    same_code = rw (priced.segments 0) cut.code

    same_copy : (segment_in w₂ 0).copy ≡ p.copy
    same_copy = rw (priced.segments 0) cut.copy

    concerned : (j : ℕ) → j < b.end → T (event_at x (event_in w₂ j))
    concerned j h =
        rw (event_same only_events j (omega (arith, short))) (start.here j (omega (arith, cut.most)))

    known_in : (j : ℕ) → j < b.end → Known (struct_in w₂ j)
    known_in j h =
        rw (struct_same only_events j (omega (arith, short))) (start.splittable.known j (omega (arith, cut.most)))

    -- ---- what is to pay

    pub restable : Restable w₂ b 0
    restable =
        record {
          room = priced.costed.laid.room;
          few = cut.segmented.few;
          here = zero-le;
          orderly = priced.costed.orderly;
        }

    costs : Costs here w₂ b.end p.gap p.copy p.code p.memory steps
    costs = rw (same_first, same_code, same_copy) at (priced.costed.means 0 zero-le cut.some p.memory)

    -- If the block has a run, few steps are to pay.
    few_steps : {l : ℕ} → Pays here (between w₂ p.gap b.end) begin l → steps ≤ MOST-PAID
    few_steps paid =
        let n = b.end - p.gap in
        let six : (e : Event) → Memᴰ e (between w₂ p.gap b.end) → NamesSix e =
        events_all NamesSix w₂ p.gap n (λ j a h. known_machines w₂ j (known_in j (omega (arith, cut.longer))))
        in
        let few = pays_few here start.splittable.owner six start.splittable.fits paid in
        (costs.exact MOST-PAID (omega arith)).0
        (pays_more here few (omega (arith, length_from w₂ p.gap n, short)))

    few_here : (sys : Topology) → Describes sys site → (l : ℕ)
        → Pays (site_of sys x) (between w p.gap b.end) begin l → steps ≤ MOST-PAID
    few_here sys d l paid =
        few_steps {l = l} (rw (same_events p.gap b.end (omega (arith, cut.longer)) short, ← d.here) paid)

    -- Where the numbers say that there is none, the events have no run.
    no_run : FAR ≤ steps → (sys : Topology) → Describes sys site → ¬ HasRunAt sys x (between w p.gap k) begin
    no_run far sys d run =
        let gap = p.gap in
        let n = b.end - gap in
        let m = k - b.end in
        let most = cut.most in
        let whole : k - gap ≡ n + m = omega (arith, cut.longer) in
        let there : gap + n ≡ b.end = omega (arith, cut.longer) in
        let parts : between w gap k ≡ between w gap b.end ++ between w b.end k =
        rw whole (events_two w gap n m ∙ ap (λ (j : ℕ). between w gap b.end ++ events_from w j m) there)
        in
        let runs : RunOf sys x (between w gap k) begin run.0 =
        record { of = run.1; own = run.2; runs = run.3 }
        in
        let first = halves sys x (between w gap b.end) (between w b.end k) begin run.0 (rw parts at runs) in
        let own : AllAt x (between w gap b.end) = all_from x w gap n (λ j a h. start.here j (omega arith)) in
        let paid = (pays_run sys x (between w gap b.end) own begin).0
        (first.front, first.begins.of, first.begins.own, first.begins.runs) in
        absurd (omega (arith, few_here sys d paid.0 paid.1))

    pub none : FAR ≤ steps → Blocked site p k w None w₂
    none far =
        record {
          frame = only_wider frame_priced (omega (arith, start.space)) (le_refl _);
          crossed = tt;
          none = no_run far;
        }

    -- ---- the walk

    -- Where the walk begins.
    abbrev from : Stand
    from = record { code = p.code; memory = p.memory; end = p.end; steps = steps }

    pub ahead : steps < FAR → Ahead site b 0 from w₂
    ahead far =
        let few = few_steps ((costs.exact steps far).1 (le_refl _)) in
        record {
          numbered = record {
            costed = priced.costed;
            known = known_in;
            here = concerned;
            number = cut.some;
          };
          code = sym same_code;
          steps = refl;
          finite = far;
          low = start.low;
          space = omega (arith, start.space);
        }

    -- ---- behind the walk

    module _ {end : ℕ} {w₃ : List ℕ} (through : Through site b from w₂ end w₃) where
      frame_through : OnlyIn p.end LOG w w₃
      frame_through =
          only_then (only_wider frame_priced (omega (arith, start.space)) (le_refl _))
          (only_wider through.frame (le_refl _) (omega arith))

      -- The words noted are the shortest schedule from the place on.
      shortest_through : (sys : Topology) → Describes sys site
          → ShortestFrom sys x p.gap (between w p.gap b.end) begin (map step_of_word through.words)
      shortest_through sys d =
          rw (same_first, same_copy, same_events p.gap b.end (omega (arith, cut.longer)) short)
          at (through.shortest sys d)

      -- So every place at the end of the block is crossed to, if it is known where events follow.
      blocked : (r : Place) → r.gap ≡ b.end → r.end ≡ end → r.code < 64
          → (b.end < k → (sys : Topology) → Describes sys site
          → KnownAfter sys x (between w p.gap b.end) begin (state r.code r.copy r.memory))
          → Blocked site p k w (Some r) w₃
      blocked r gap ends fits known =
          let crossed : Crossed site p k w r w₃ = record {
            on = rw gap cut.longer;
            most = rw gap cut.most;
            fits = fits;
            words = through.words;
            ends = ends ∙ through.ends;
            list = through.list;
            shortest = rw gap shortest_through;
            known = rw gap known;
          } in
          record {
            frame = frame_through;
            crossed = crossed;
            none = tt;
          }

      -- The block ends with the events,
      pub blocked_end : b.end ≡ k
          → Blocked site p k w
          (Some (record { gap = k; code = 0; copy = 0; memory = 0; end = end })) w₃
      blocked_end over =
          blocked (record { gap = k; code = 0; copy = 0; memory = 0; end = end }) (sym over) refl (omega arith)
          (λ less. absurd (omega arith))

      -- or with an event after which the state is known.
      module _ (last : ℕ) (count : suc last ≡ b.count) (ends : suc (segment_in w₁ last).end ≡ b.end)
          (known : ends_block (kind_of (segment_in w₁ last).copy (event_in w (segment_in w₁ last).end)) ≡ true)
          (value : kind_of (segment_in w₁ last).copy (event_in w (segment_in w₁ last).end) ≡ OtherRead
          → b.forced ≡ Some (struct_in w (segment_in w₁ last).end).value) where
        abbrev t : ℕ
        t = (segment_in w₁ last).end

        abbrev u : Value
        u = (segment_in w₁ last).copy

        -- The segments and the events are as they were before the walk.
        low : ROWS ≤ p.end
        low = omega (arith, start.low)

        last_after : last_in w₃ b ≡ segment_in w₁ last
        last_after =
            let is : b.count - 1 ≡ last = omega arith in
            rw is (same_segment through.frame low (le_refl _) last ∙ priced.segments last)

        only_after : OnlyIn ROWS LOG w w₃
        only_after = only_wider frame_through low (le_refl _)

        near : t < MOST
        near = omega (arith, short)

        closable_last : Closable site b w₃
        closable_last =
            let walk = through.frame in
            record {
              laid = kept_laid (kept_between walk low (le_refl _)) walk.sized priced.costed.laid;
              some = cut.some;
              inside = rw last_after near;
              known =
                  rw (last_after, struct_same only_after t near)
                  (start.splittable.known t (omega (arith, cut.most)));
            }

        -- What event j of the area leads to from no copy, with the block's value in memory.
        abbrev Led : List ℕ → (j : ℕ) → Value → Local
        Led v j c = effect here (event (event_in v j)) (state 0 c (unwrap_or b.forced 0))

        -- What the place says is the state after every run.
        known_place : {r : Place} → Closed site b end w₃ r → (sys : Topology) → Describes sys site
            → KnownAfter sys x (between w p.gap b.end) begin (state r.code r.copy r.memory)
        known_place {r} closed sys d =
            let same = priced.segments last in
            let event₂ = event_same only_events t near in
            let means = meant_read w t (struct_in w t) refl in
            let reads : kind_of u (event_in w t) ≡ OtherRead → unwrap_or b.forced 0 ≡ read_of (event_in w t) =
            λ other.
            ap (λ (f : Option Value). unwrap_or f 0) (value other)
            ∙ sym (rw means at (read_value (struct_in w t) u (rw means other)))
            in
            let behind =
            known_behind priced.costed.laid.segmented x concerned {last = last} count (rw same ends)
            (rw (same, event₂) known) (rw (same, event₂) reads) sys d.here p.code p.memory
            in
            let events = same_events p.gap b.end (omega (arith, cut.longer)) short in
            let place = rw (last_after, event_same only_after t near) at closed.leads in
            let leads : Led w₂ (segment_in w₂ last).end (segment_in w₂ last).copy ≡ Led w t u = rw (same, event₂) in
            subst (KnownAfter sys x (between w p.gap b.end) begin) (leads ∙ sym place)
            (rw (same_first, same_copy, events) at behind)

      pub closable : b.end ≢ k → Closable site b w₃
      closable more =
          let l = cut.last (omega (arith, cut.most)) in closable_last l.0 l.1 l.2 l.3 l.4

      pub blocked_known : b.end ≢ k → {r : Place} → Closed site b end w₃ r
          → Blocked site p k w (Some r) w₃
      blocked_known more {r} closed =
          let l = cut.last (omega (arith, cut.most)) in
          blocked r closed.gap closed.ends closed.fits
          (λ less. known_place l.0 l.1 l.2 l.3 l.4 closed)
