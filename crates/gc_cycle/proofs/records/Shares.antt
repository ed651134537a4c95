-- What is read of a pass off a log that grows.
use Rattle.std.specs.Prelude.{◌≢◌, ◌-◌, ◌==◌, cond}
use Rattle.std.proofs.lemmas.Bool.{ne_eqb, eq-eqb}
use Rattle.std.proofs.lemmas.List.{append-nil, length-drop, length-reverse, get_or_append_left, length-append, length-map, get_or-map}
use Rattle.std.proofs.Math.Seq.{drop-length}
use Rattle.std.proofs.lemmas.List.Sorted.{All-permutation, IsPermutation-reverse}
use Rattle.std.proofs.lemmas.List.Elements.{filter-append, All-map, All-append, All-cons, All-nil, All-head}
use Rattle.lawful_records.proofs.telling.Following.{made_by-cons_other, made_by-cons_own}
use Rattle.gc_cycle.proofs.records.Ends.{listed}
use Rattle.std.specs.List.{All, filter}
use Rattle.std.proofs.Common.{◌≡◌, ℕ, zero, suc, ◌≤◌, ◌<◌, List, [], ◌∷◌, ◌++◌, length, map, Bool, true, false, drop, reverse, get_or, Option, Some, None, refl, sym, ap, ◌∙◌, subst, arith}
use Rattle.heap_words.specs.Layouts.{Sizes, IsPass}
use Rattle.handshakes.specs.Handshakes.{Announced}
use Rattle.handshakes.specs.declared.poll.PollMachine.TheVariants as poll
use Rattle.handshakes.specs.declared.retire.RetireMachine.TheVariants as retire
use Rattle.barriers.specs.declared.pass.PassMachine.{PassMachine}
use Rattle.barriers.specs.declared.pass.PassMachine.TheVariants as machine
use Rattle.barriers.specs.Cycles.{Cycle}
use Rattle.barriers.specs.Spaces.{Space}
use Rattle.barriers.specs.Says.{Notices}
use Rattle.lawful_records.specs.Cycling.{announced_by, cycle_of}
use Rattle.lawful_records.specs.Records.{number_of, view_by, seen_of as seen_by_party}
use Rattle.lawful_records.specs.declared.records.PassKnown.{PassKnown}
use Rattle.lawful_records.specs.declared.records.Party.{Party}
use Rattle.lawful_records.specs.declared.records.Party.TheVariants as party
use Rattle.heap_history.specs.LogLaws.{All-changes_of}
use Rattle.heap_history.specs.Histories.{pass_of, made_by}
use Rattle.heap_history.specs.Logs.{changes_of, of_pass}
use Rattle.heap_history.specs.declared.call.Call.{Call}
use Rattle.heap_history.specs.declared.call.Ended.{Ended}
use Rattle.barriers.specs.declared.pass.PassRecord.{PassRecord}
use Rattle.barriers.specs.Kits.{Kit}
use Rattle.lawful_records.specs.LawfulRecords.{LawfulRecords, IsPassRecord, IsMachine, IsParty}
use Rattle.lawful_records.specs.Turns.{with_change}
use Rattle.gc_cycle.specs.Lawful.{Lawful, history_in, seen_of, known_in, collector_in, records_in}
use Rattle.gc_cycle.specs.Worlds.{State, changes_now, logged, pass_at, nobody}

-- ---- a past by its length

pub seen_whole : (h : List Call) → seen_of h (length h) ≡ h
seen_whole h = let none : length h - length h ≡ 0 = omega arith in rw none refl

pub seen_within : (h : List Call) (n : ℕ) → n ≡ length (seen_of h n) → n ≤ length h
seen_within h n is = omega (arith, is, length-drop (length h - n) h)

pub seen_later : (c : Call) (h : List Call) (n : ℕ) → n ≤ length h → seen_of (c ∷ h) n ≡ seen_of h n
seen_later c h n within = let more : suc (length h) - n ≡ suc (length h - n) = omega (arith, within) in rw more refl

-- ---- the log grows

-- the changes with one more call: none or one more
pub record Grown (log : List Ended) (call : Option Ended) (change : Option Call) (pass : ℕ) : Type 0 where
  pub history : reverse (changes_of (logged log call)) ≡ with_change change (reverse (changes_of log))
  pub owner : (c : Call) → change ≡ Some c → pass_of c ≡ pass
  pub teller : (e : Ended) → call ≡ Some e → pass_of e.call ≡ pass

-- ---- one pass's share

pub seen_stays : (change : Option Call) (h : List Call) (n : ℕ) → n ≤ length h → seen_of (with_change change h) n ≡ seen_of h n
seen_stays None h n within = refl
seen_stays (Some c) h n within = seen_later c h n within

mine_stays : (change : Option Call) (h : List Call) (mover pass : ℕ) → pass ≢ mover → ((c : Call) → change ≡ Some c → pass_of c ≡ mover) → made_by pass (with_change change h) ≡ made_by pass h
mine_stays None h mover pass other owner = refl
mine_stays (Some c) h mover pass other owner = made_by-cons_other pass c h (λ same. other (sym same ∙ owner c refl))

ended_stays : (log : List Ended) (call : Option Ended) (mover pass : ℕ) → pass ≢ mover → ((e : Ended) → call ≡ Some e → pass_of e.call ≡ mover) → of_pass pass (logged log call) ≡ of_pass pass log
ended_stays log None mover pass other teller = refl
ended_stays log (Some e) mover pass other teller =
    let none : of_pass pass (e ∷ []) ≡ [] = ap (λ test. cond test (e ∷ []) []) (ne_eqb (pass_of e.call) pass (λ same. other (sym same ∙ teller e refl))) in
    filter-append (λ (d : Ended). pass_of d.call == pass) log (e ∷ []) ∙ ap (λ es. of_pass pass log ++ es) none ∙ append-nil (of_pass pass log)

-- its own calls
pub ended_grows : (log : List Ended) (call : Option Ended) (pass : ℕ) → ((e : Ended) → call ≡ Some e → pass_of e.call ≡ pass) → of_pass pass (logged log call) ≡ of_pass pass log ++ listed call
ended_grows log None pass teller = sym (append-nil (of_pass pass log))
ended_grows log (Some e) pass teller =
    let one : of_pass pass (e ∷ []) ≡ e ∷ [] = ap (λ test. cond test (e ∷ []) []) (eq-eqb (pass_of e.call) pass (teller e refl)) in
    filter-append (λ (d : Ended). pass_of d.call == pass) log (e ∷ []) ∙ ap (λ es. of_pass pass log ++ es) one

pub mine_grows : (change : Option Call) (h : List Call) (pass : ℕ) → ((c : Call) → change ≡ Some c → pass_of c ≡ pass) → made_by pass (with_change change h) ≡ with_change change (made_by pass h)
mine_grows None h pass owner = refl
mine_grows (Some c) h pass owner = made_by-cons_own pass c h (owner c refl)

-- ---- a history by the shares of all passes

more_pass : (p : Call → Bool) (c : Call) (h : List Call) → length (filter p h) ≤ length (filter p (c ∷ h))
more_pass p c h = elim (p c) as (λ test. length (filter p h) ≤ length (cond test (c ∷ filter p h) (filter p h))) [ true ↦ omega arith | false ↦ omega arith ]

fewer_pass : (p : Call → Bool) (k : ℕ) (h : List Call) → length (filter p (drop k h)) ≤ length (filter p h)
fewer_pass p zero h = omega arith
fewer_pass p (suc k) [] = omega arith
fewer_pass p (suc k) (c ∷ h) = let fewer = fewer_pass p k h in let more = more_pass p c h in omega (arith, fewer, more)

-- a past that has the changes of the pass of the last one is all
all_shared : (h : List Call) (k : ℕ) → ((c : Call) (rest : List Call) → h ≡ c ∷ rest → made_by (pass_of c) h ≡ made_by (pass_of c) (drop k h)) → drop k h ≡ h
all_shared [] zero same = refl
all_shared [] (suc k) same = refl
all_shared (c ∷ h) zero same = refl
all_shared (c ∷ h) (suc k) same =
    let pass : ℕ = pass_of c in
    let fewer = fewer_pass (λ d. pass_of d == pass) k h in
    let shared : made_by pass (c ∷ h) ≡ made_by pass (drop k h) = same c h refl in
    let own : made_by pass (c ∷ h) ≡ c ∷ made_by pass h = made_by-cons_own pass c h refl in
    let count : length (made_by pass (drop k h)) ≡ suc (length (made_by pass h)) = ap (λ (cs : List Call). length cs) (sym shared ∙ own) in
    absurd (omega (arith, fewer, count))

-- some of its changes are no longer there
abbrev IsPast : List Call → List Call → Type 0
IsPast h seen = (k : ℕ) × (seen ≡ drop k h)

pub same_known : {R W E : Type 0} → (p : PassRecord R W E) (seen mine other_seen other_mine : List Call) (ended others : List Ended) → other_seen ≡ seen → other_mine ≡ mine → others ≡ ended
    → Path (PassKnown R W E) (record { pass = p; seen = other_seen; mine = other_mine; ended = others }) (record { pass = p; seen = seen; mine = mine; ended = ended })
same_known p seen mine other_seen other_mine ended others a b c = rw (a, b, c) refl

module _ {R W E M : Type 0} (kit : Kit R W E M) where
  -- its number is in its view
  number_by : (l : Sizes) (c : Cycle) (s : Space) (n : Notices) (p : PassKnown R W E) (m : PassMachine R W E) → IsMachine kit l c s n p m → (let view = view_by m p.pass.view in view.pass) ≡ (let view = p.pass.view in view.pass)
  number_by l c s n p machine.Idle is = refl
  number_by l c s n p machine.Retired is = refl
  number_by l c s n p (machine.Poll (poll.Ended end)) is = is.0
  number_by l c s n p (machine.Poll m) is = refl
  number_by l c s n p (machine.Retire retire.Ended) is = refl
  number_by l c s n p (machine.Retire m) is = refl
  number_by l c s n p (machine.New m) is = refl
  number_by l c s n p (machine.Read m) is = refl
  number_by l c s n p (machine.Write m) is = refl
  number_by l c s n p (machine.Exchange m) is = refl

  pub number_is : (l : Sizes) (a : Announced) (c : Cycle) (s : Space) (n : Notices) (p : PassKnown R W E) → IsPassRecord kit l a c s n p → number_of p ≡ (let view = p.pass.view in view.pass)
  number_is l a c s n p is = number_by l c s n p p.pass.machine is.machine

module _ {R W E M : Type 0} (kit : Kit R W E M) (w : State R W E M) (lawful : Lawful kit w) where
  abbrev h : List Call
  h = history_in w

  abbrev r : LawfulRecords kit w.layout w.words (records_in w)
  r = lawful.records

  abbrev in_pass : PassRecord R W E → Party R W E M
  in_pass p = party.Pass (known_in w p)

  abbrev tail : List (Party R W E M)
  tail = party.Collector (collector_in w) ∷ []

  place_below : (pass : ℕ) → IsPass w.layout pass → pass - 1 < length w.passes
  place_below pass is = omega (arith, is.0, is.1, lawful.passes)

  -- a pass's record is among those of the world
  pub record_at : (pass : ℕ) → IsPass w.layout pass → IsPassRecord kit w.layout (announced_by r.collector) (cycle_of r.collector) r.space r.notices (known_in w (pass_at w pass))
  record_at pass is =
      let P : Party R W E M → Type 0 = IsParty kit w.layout r.collector r.space r.notices in
      let x : Party R W E M = in_pass (pass_at w pass) in
      let below = place_below pass is in
      let all : P (get_or (map in_pass w.passes ++ tail) (pass - 1) x) = r.each (pass - 1) x (omega (arith, below, length-append (map in_pass w.passes) tail, length-map w.passes in_pass)) in
      let here : get_or (map in_pass w.passes ++ tail) (pass - 1) x ≡ x =
      get_or_append_left (map in_pass w.passes) tail x (pass - 1) (omega (arith, below, length-map w.passes in_pass)) ∙ get_or-map in_pass w.passes (pass - 1) nobody x below in
      subst P here all

  pub number_at : (pass : ℕ) → IsPass w.layout pass → number_of (known_in w (pass_at w pass)) ≡ pass
  number_at pass is = number_is kit w.layout (announced_by r.collector) (cycle_of r.collector) r.space r.notices (known_in w (pass_at w pass)) (record_at pass is) ∙ (lawful.threads pass is).number

  pasts : All (IsPast h) (map seen_by_party (records_in w))
  pasts =
      let P : Party R W E M → Type 0 = λ x. IsPast h (seen_by_party x) in
      All-map (IsPast h) seen_by_party (records_in w)
      (All-append P (map in_pass w.passes) tail (All-map P in_pass w.passes (λ i d below. (length h - (get_or w.passes i d).seen, refl))) (All-cons P _ [] (length h, sym (drop-length h)) (All-nil P)))

  past_is : IsPast h r.space.history
  past_is = let shown = r.history.shown in subst (IsPast h) shown.2 (pasts shown.0 r.space.history shown.1)

  owned : (c : Call) (rest : List Call) → h ≡ c ∷ rest → IsPass w.layout (pass_of c)
  owned c rest is =
      let P : Call → Type 0 = λ d. (1 ≤ pass_of d) × (pass_of d ≤ w.layout.passes) in
      let all : All P h = All-permutation P (changes_of w.told.log) h (IsPermutation-reverse (changes_of w.told.log)) (All-changes_of P w.told.log lawful.owners) in
      All-head P c rest (subst (All P) is all)

  shared : (pass : ℕ) → IsPass w.layout pass → made_by pass h ≡ made_by pass r.space.history
  shared pass is = subst (λ (m : ℕ). made_by m h ≡ made_by m r.space.history) (number_at pass is)
      (ap (λ (m : ℕ). made_by m h) (number_at pass is ∙ sym (lawful.threads pass is).number) ∙ (record_at pass is).told.mine)

  -- the history of the records is that of the log
  pub history_is : r.space.history ≡ h
  history_is = let k = past_is.0 in past_is.1 ∙ all_shared h k (λ c rest is. shared (pass_of c) (owned c rest is) ∙ ap (λ (cs : List Call). made_by (pass_of c) cs) past_is.1)

  pub seen_few : (pass : ℕ) → IsPass w.layout pass → (let p = pass_at w pass in p.seen) ≤ length h
  seen_few pass is = seen_within h (let p = pass_at w pass in p.seen) (record_at pass is).told.count

  pub changes_are : changes_now w ≡ length h
  changes_are = sym (length-reverse (changes_of w.told.log))

  -- what is read of a pass stays where another one's call has ended
  pub known_stays : (next : State R W E M) (call : Option Ended) (change : Option Call) (mover pass : ℕ) → (let told = next.told in told.log) ≡ logged (let told = w.told in told.log) call
      → Grown (let told = w.told in told.log) call change mover → IsPass w.layout pass → pass ≢ mover → known_in next (pass_at w pass) ≡ known_in w (pass_at w pass)
  known_stays next call change mover pass log grown is other =
      let p : PassRecord R W E = pass_at w pass in
      let number : p.view.pass ≡ pass = (lawful.threads pass is).number in
      let apart : p.view.pass ≢ mover = λ same. other (sym number ∙ same) in
      let history : history_in next ≡ with_change change h = ap (λ (es : List Ended). reverse (changes_of es)) log ∙ grown.history in
      same_known p (seen_of h p.seen) (made_by p.view.pass h) (seen_of (history_in next) p.seen) (made_by p.view.pass (history_in next)) (of_pass p.view.pass w.told.log) (of_pass p.view.pass next.told.log)
      (ap (λ (cs : List Call). seen_of cs p.seen) history ∙ seen_stays change h p.seen (seen_few pass is))
      (ap (λ (cs : List Call). made_by p.view.pass cs) history ∙ mine_stays change h mover p.view.pass apart grown.owner)
      (ap (λ (es : List Ended). of_pass p.view.pass es) log ∙ ended_stays w.told.log call mover p.view.pass apart grown.teller)
