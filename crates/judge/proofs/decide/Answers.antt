-- `decide` gives an accepted log its verdict.
use Prim.Native.Nat.{ℕ, ◌≤◌, ◌<◌}
use native.Mathlib.Omega.{arith}
use mathlib.Core.Path.{◌≡◌, sym, ap, ◌∙◌, subst}
use mathlib.Core.List.{List}
use lib.ListN.{get_or, length}
use Rattle.log_bytes.specs.Bytes.{Bytes}
use Rattle.log_bytes.specs.Records.{Records, system_of}
use Rattle.log_bytes.specs.Reading.{accepted, read_log}
use Rattle.log_bytes.specs.Answers.{head_of}
use Rattle.log_bytes.specs.declared.Head.{Head}
use Rattle.log_bytes.proofs.Each.{bytes_by_index}
use Rattle.cursors.specs.Opening.{Opens, open_log}
use Rattle.cursors.specs.declared.Opened.{Opened}
use Rattle.cursors.proofs.Opens.{opens_accepted}
use Rattle.model.specs.Meaning.{topology_of}
use Rattle.scratch.specs.Layout.{WORDS}
use Rattle.scratch.specs.Clearing.{zeros}
use Rattle.events.specs.Linking.{logged}
use Rattle.events.specs.Loading.{Loadable, Loads}
use Rattle.verdict_file.specs.Files.{Verdict}
use Rattle.verdict_file.proofs.Verdicts.{Right}
use Rattle.weighing.specs.Weighing.{Weighable}
use Rattle.judge.specs.Issuing.{verdict_found}
use Rattle.judge.proofs.Loading.{few_events, loadable, loads_weighable, loads_right}
use Rattle.judge.proofs.Soundness.{concluded_right, concluded_issuable, right_issued}
use Rattle.judge.proofs.Deciding.{fit_out, fit_scratch, decided}
use Rattle.judge.proofs.decide.Goals as goal

-- After an accepted log is opened: its bytes, and what was opened.
module _ (s : List ℕ) (small : (i : ℕ) → get_or s i 0 < 256) {head : Head}
    (log : (r : Records) × (read_log s ≡ accepted r) × (head_of r ≡ head))
    {o : Opened} (opened : o ≡ open_log s head) where
  bytes : Bytes s
  bytes = bytes_by_index s small

  opens : Opens s log.0 o
  opens = let (r, read, heads) = log in subst (Opens s r) (sym opened) (opens_accepted s bytes r read heads)

  -- Its events are a log's, and can be loaded.
  few : head.events ≤ 128
  few = let (r, read, heads) = log in few_events s bytes r read head heads o opens

  can_load : {w : List ℕ} → WORDS ≤ length w → Loadable s o.events head.events w
  can_load room = let (r, read, heads) = log in loadable s bytes r read head heads o opens room

  -- After they are loaded: they can be weighed, and what is right for them is right for the log.
  module _ {w w' : List ℕ} (loads : Loads s o.events head.events w w') where
    weighable : Weighable o.topology head.events w'
    weighable = let (r, read, heads) = log in loads_weighable s bytes r read head heads o opens loads

    right_for_log : (v : Verdict) → Right (topology_of o.topology) (logged head.events w') v
        → Right (system_of log.0) log.0.events v
    right_for_log v right = let (r, read, heads) = log in loads_right s bytes r read head heads o opens loads v right

pub load-requires : goal.load-requires
load-requires c =
    let a = c.args in
    can_load a.log.now (λ i. omega (arith, c.type_inv.log i)) c.requires.log_value c.open-opened.ensures
    (fit_scratch a.out.now a.offset a.scratch.now c.requires.scratch_value)

pub weigh-found-requires : goal.weigh-found-requires
weigh-found-requires c =
    weighable c.args.log.now (λ i. omega (arith, c.type_inv.log i)) c.requires.log_value c.open-opened.ensures
    c.load.ensures

pub issue-answer-requires : goal.issue-answer-requires
issue-answer-requires c =
    let s = c.args.log.now in
    let small : (i : ℕ) → get_or s i 0 < 256 = λ i. omega (arith, c.type_inv.log i) in
    let log = c.requires.log_value in
    let opened = c.open-opened.ensures in
    concluded_issuable (weighable s small log opened c.load.ensures) (few s small log opened)
    c.weigh-found.result c.weigh-found.ensures

pub returns : goal.returns
returns c =
    let a = c.args in
    let s = a.log.now in
    let small : (i : ℕ) → get_or s i 0 < 256 = λ i. omega (arith, c.type_inv.log i) in
    let log = c.requires.log_value in
    let opened = c.open-opened.ensures in
    let loads = c.load.ensures in
    let found = verdict_found c.weigh-found.result c.weigh-found.new.w in
    let right = concluded_right c.weigh-found.result c.weigh-found.ensures in
    let fits = fit_out a.out.now a.offset a.scratch.now c.requires.scratch_value in
    let issued =
    right_issued (weighable s small log opened loads) (few s small log opened) found right fits
    c.issue-answer.ensures in
    decided s log.0 log.1 found (right_for_log s small log opened loads found right)
    a.out.now a.offset a.scratch.now c.issue-answer.result issued
    (c.clear.ensures ∙ ap zeros (c.weigh-found.ensures.frame.sized ∙ loads.frame.sized))
