-- What an event is to a segment: inside it, a store that begins the next one, or an event after which the state is
-- known.
use Prim.Native.Nat.{ℕ}
use mathlib.Core.Path.{◌≡◌, refl, sym, ap₂, ◌∙◌}
use mathlib.Core.Logic.{◌≢◌, ◌⊎◌, inl, inr, ⊎_elim}
use mathlib.Core.Bool.{Bool, true, false, cond, not, ◌&&◌, ◌||◌, and-true}
use lib.Dec.{T, eqb, eqb→eq}
use borrow.Author.Tests.{eq-eqb, ne_eqb}
use Rattle.model.specs.Cxl0.{Value, event}
use Rattle.model.specs.Cxl0.{Event, LStore, RStore, MStore, Load, LFlush, RFlush, Crash, SetCrash, RMW, L, R, M}
use Rattle.model.specs.OneLocation.{Site, enabled_at, effect, readable_at}
use Rattle.model.specs.Meaning.{meant}
use Rattle.model.specs.declared.Event as declared
use Rattle.model.proofs.Tests.{by_test, ne_test, and_l, and_r}
use Rattle.model.proofs.Operations.{by_number}
use Rattle.rows.specs.Rows.{state}
use Rattle.levels.specs.Stretches.{Inner}
use Rattle.levels.specs.Tasks.{accepting}
use Rattle.segments.specs.Costs.{met}
use Rattle.blocks.specs.Splitting.{kind_of, ends_block, closing_of, forced_of}
use Rattle.blocks.specs.declared.splitting.Kind.{Kind}
use Rattle.blocks.specs.declared.splitting.Kind.TheVariants.{Inside, Store, ReadStore}
use Rattle.blocks.specs.declared.splitting.Kind.TheVariants.{MemoryStore, ReadMemoryStore, OtherRead}

-- ---- inside a segment

-- A read is of one kind if it reads the value of the copies, and of another one if not.
by_value : (P : Kind → Type 0) (v u : Value) (same differs : Kind) → (v ≡ u → P same) → (v ≢ u → P differs)
    → P (cond (eqb v u) same differs)
by_value P v u same differs f g =
    by_test (eqb v u)
    (λ t. let e = eqb→eq v u t in rw (eq-eqb v u e) (f e))
    (λ t. let n = ne_test v u t in rw (ne_eqb v u n) (g n))

not_inner : (v u : ℕ) (n : Kind) → n ≢ Inside → cond (eqb v u) n OtherRead ≢ Inside
not_inner v u n some = by_value (λ m. m ≢ Inside) v u n OtherRead (λ e. some) (λ d z. cc)

-- An event that is said to stand inside a segment does.
pub inner_kind : (u : Value) (e : Event) → kind_of u e ≡ Inside → Inner u e
unfolding kind_of Inner
inner_kind u (LStore i x v) = λ z. absurd (cc)
inner_kind u (RStore i x v) = λ z. absurd (cc)
inner_kind u (MStore i x v) = λ z. absurd (cc)
inner_kind u (Load i x v) = by_value (λ n. n ≡ Inside → v ≡ u) v u Inside OtherRead (λ e z. e) (λ n z. absurd (cc))
inner_kind u (LFlush i x) = λ z. tt
inner_kind u (RFlush i x) = λ z. tt
inner_kind u (Crash i) = λ z. tt
inner_kind u (SetCrash set) = λ z. tt
inner_kind u (RMW L i x v w) = not_inner v u ReadStore (λ z. cc)
inner_kind u (RMW R i x v w) = not_inner v u ReadStore (λ z. cc)
inner_kind u (RMW M i x v w) = not_inner v u ReadMemoryStore (λ z. cc)

-- ---- what an event of another kind asks

-- The value that an event reads, where it reads one.
unfoldable pub read_of : Event → Value
read_of (LStore i x v) = 0
read_of (RStore i x v) = 0
read_of (MStore i x v) = 0
read_of (Load i x v) = v
read_of (LFlush i x) = 0
read_of (RFlush i x) = 0
read_of (Crash i) = 0
read_of (SetCrash set) = 0
read_of (RMW form i x v w) = v

-- It asks what the closing of its kind says, and that memory has the value that it reads if it must come from there.
abbrev asks : (kind : Kind) → (reads : Value) → (u : Value) (c : ℕ) (m : Value) → Bool
asks kind reads u c m = accepting (closing_of kind) (eqb m u) c && met (forced_of kind reads) m

-- So a read of the value of the copies, which any copy has.
read_same : (u c m : ℕ) → readable_at u (state c u m) ≡ ((not (eqb c 0) || eqb m u) && true)
read_same u c m = rw (eq-eqb u u refl, and-true (not (eqb c 0) || eqb m u)) (go (eqb c 0) (eqb m u))
  where
    go : (none same : Bool) → cond none same true ≡ (not none || same)
    go true same = refl
    go false same = refl

-- And a read of another value, which no copy has.
read_other : (v u c m : ℕ) → v ≢ u → readable_at v (state c u m) ≡ (eqb c 0 && eqb m v)
read_other v u c m n = rw (ne_eqb u v (λ e. n (sym e))) (go (eqb c 0) (eqb m v))
  where
    go : (none same : Bool) → cond none same false ≡ (none && same)
    go true same = refl
    go false same = refl

-- So a read that is of kind n.
abbrev ReadAsks : (u v c m : ℕ) → Kind → Type 0
ReadAsks u v c m n = n ≢ Inside → readable_at v (state c u m) ≡ asks n v u c m

asks_same : (u v c m : ℕ) → v ≡ u → readable_at v (state c u m) ≡ ((not (eqb c 0) || eqb m u) && true)
asks_same u v c m e = rw e (read_same u c m)

pub asks_kind : (k : Site) (u : Value) (e : Event) (c m : ℕ) → kind_of u e ≢ Inside
    → enabled_at k (event e) (state c u m) ≡ asks (kind_of u e) (read_of e) u c m
unfolding kind_of enabled_at read_of
asks_kind k u (LStore i x v) c m = λ n. refl
asks_kind k u (RStore i x v) c m = λ n. refl
asks_kind k u (MStore i x v) c m = λ n. refl
asks_kind k u (Load i x v) c m =
    by_value (ReadAsks u v c m) v u Inside OtherRead (λ e n. absurd (n refl)) (λ d n. read_other v u c m d)
asks_kind k u (LFlush i x) c m = λ n. absurd (n refl)
asks_kind k u (RFlush i x) c m = λ n. absurd (n refl)
asks_kind k u (Crash i) c m = λ n. absurd (n refl)
asks_kind k u (SetCrash set) c m = λ n. absurd (n refl)
asks_kind k u (RMW L i x v w) c m =
    by_value (ReadAsks u v c m) v u ReadStore OtherRead
    (λ e n. asks_same u v c m e) (λ d n. read_other v u c m d)
asks_kind k u (RMW R i x v w) c m =
    by_value (ReadAsks u v c m) v u ReadStore OtherRead
    (λ e n. asks_same u v c m e) (λ d n. read_other v u c m d)
asks_kind k u (RMW M i x v w) c m =
    by_value (ReadAsks u v c m) v u ReadMemoryStore OtherRead
    (λ e n. asks_same u v c m e) (λ d n. read_other v u c m d)

-- ---- stores

-- A store leaves memory as it was, and code and copies do not depend on those before it.
pub store_leads : (k : Site) (u : Value) (e : Event) (c m : ℕ) → kind_of u e ≢ Inside
    → ends_block (kind_of u e) ≡ false
    → effect k (event e) (state c u m)
    ≡ state (effect k (event e) (state 0 u 0)).code (effect k (event e) (state 0 u 0)).copy m
unfolding kind_of effect
store_leads k u (LStore i x v) c m = λ n h. refl
store_leads k u (RStore i x v) c m = λ n h. refl
store_leads k u (MStore i x v) c m = λ n h. absurd (cc)
store_leads k u (Load i x v) c m =
    λ n h.
    absurd
    (by_value (λ n. n ≢ Inside → ends_block n ≡ false → ⊥) v u Inside OtherRead (λ e n h. n refl) (λ d n h. cc) n h)
store_leads k u (LFlush i x) c m = λ n. absurd (n refl)
store_leads k u (RFlush i x) c m = λ n. absurd (n refl)
store_leads k u (Crash i) c m = λ n. absurd (n refl)
store_leads k u (SetCrash set) c m = λ n. absurd (n refl)
store_leads k u (RMW L i x v w) c m = λ n h. refl
store_leads k u (RMW R i x v w) c m = λ n h. refl
store_leads k u (RMW M i x v w) c m =
    λ n h. absurd (by_value (λ n. ends_block n ≡ false → ⊥) v u ReadMemoryStore OtherRead (λ e h. cc) (λ d h. cc) h)

-- ---- events after which the state is known

-- A read without an M ends a block only if it reads another value.
not_stored : (v u : Value) (n : Kind) → ends_block n ≡ false → ends_block (cond (eqb v u) n OtherRead) ≡ true
    → cond (eqb v u) n OtherRead ≢ OtherRead → ⊥
not_stored v u n goes_on =
    by_value (λ m. ends_block m ≡ true → m ≢ OtherRead → ⊥) v u n OtherRead (λ e h f. cc) (λ d h f. f refl)

-- After an MStore, or one that reads first, the state does not depend on that before it.
stored_known : (k : Site) (u : Value) (e : Event) (c m c' m' : ℕ) → ends_block (kind_of u e) ≡ true
    → kind_of u e ≢ OtherRead
    → effect k (event e) (state c u m) ≡ effect k (event e) (state c' u m')
unfolding kind_of effect
stored_known k u (LStore i x v) c m c' m' = λ h n. absurd (cc)
stored_known k u (RStore i x v) c m c' m' = λ h n. absurd (cc)
stored_known k u (MStore i x v) c m c' m' = λ h n. refl
stored_known k u (Load i x v) c m c' m' =
    λ h n. absurd (not_stored v u Inside refl h n)
stored_known k u (LFlush i x) c m c' m' = λ h n. absurd (cc)
stored_known k u (RFlush i x) c m c' m' = λ h n. absurd (cc)
stored_known k u (Crash i) c m c' m' = λ h n. absurd (cc)
stored_known k u (SetCrash set) c m c' m' = λ h n. absurd (cc)
stored_known k u (RMW L i x v w) c m c' m' =
    λ h n. absurd (not_stored v u ReadStore refl h n)
stored_known k u (RMW R i x v w) c m c' m' =
    λ h n. absurd (not_stored v u ReadStore refl h n)
stored_known k u (RMW M i x v w) c m c' m' = λ h n. refl

-- A read of a value that is not that of the copies is possible only without a copy, and with that value in memory.
pub read_known : (k : Site) (u : Value) (e : Event) (c m : ℕ) → kind_of u e ≡ OtherRead
    → T (enabled_at k (event e) (state c u m)) → (c ≡ 0) × (m ≡ read_of e)
read_known k u e c m other can =
    let some : kind_of u e ≢ Inside = λ z. cc in
    let both = rw (asks_kind k u e c m some, other) at can in
    let none = eqb c 0 in
    let reads = eqb m (read_of e) in
    (eqb→eq c 0 (and_l none reads both), eqb→eq m (read_of e) (and_r none reads both))

is_other : (kind : Kind) → (kind ≡ OtherRead) ⊎ (kind ≢ OtherRead)
is_other Inside = inr (λ e. cc)
is_other Store = inr (λ e. cc)
is_other ReadStore = inr (λ e. cc)
is_other MemoryStore = inr (λ e. cc)
is_other ReadMemoryStore = inr (λ e. cc)
is_other OtherRead = inl refl

-- So the state after an event that ends a block is the same whatever it was before, where the event is possible.
pub known_after : (k : Site) (u : Value) (e : Event) (c m m' : ℕ) → ends_block (kind_of u e) ≡ true
    → (kind_of u e ≡ OtherRead → m' ≡ read_of e) → T (enabled_at k (event e) (state c u m))
    → effect k (event e) (state c u m) ≡ effect k (event e) (state 0 u m')
known_after k u e c m m' h value can =
    ⊎_elim
    (λ other.
    let known = read_known k u e c m other can in
    ap₂ (λ (d n : ℕ). effect k (event e) (state d u n)) known.0 (known.1 ∙ sym (value other)))
    (λ none. stored_known k u e c m 0 m' h none)
    (is_other (kind_of u e))

-- ---- the value of the struct

-- A read of another value reads the value of its struct.
pub read_value : (e : declared.Event) (u : Value) → kind_of u (meant e) ≡ OtherRead → read_of (meant e) ≡ e.value
unfolding kind_of read_of
read_value e u =
    by_number e (λ op f. kind_of u f ≡ OtherRead → read_of f ≡ e.value)
    (λ h. absurd (cc)) (λ h. absurd (cc)) (λ h. absurd (cc))
    (λ h. refl)
    (λ h. absurd (cc)) (λ h. absurd (cc))
    (λ h. refl) (λ h. refl) (λ h. refl)
    (λ h. absurd (cc))
    (λ op no h. absurd (cc))
