-- A turn of the collector keeps lawful records.
use Rattle.std.specs.Prelude.{slice_index, Bool, true, false, if◌then◌else◌, ◌≤◌, ◌==◌, ◌<◌, sum_by}
use Rattle.std.proofs.lemmas.Bool.{eqb-true}
use Rattle.std.proofs.lemmas.List.Elements.{All-cons}
use Rattle.std.proofs.lemmas.List.Sums.{sum_by-cons}
use Rattle.heap_words.specs.Layouts.{IsPass}
use Rattle.handshakes.specs.PhaseWords.{retired_word}
use Rattle.handshakes.specs.declared.retire.RetireMachine.TheVariants as retire
use Rattle.barriers.specs.Spaces.{Holds}
use Rattle.barriers.specs.States.{On}
use Rattle.barriers.specs.declared.pass.PassMachine.{PassMachine}
use Rattle.barriers.specs.declared.pass.PassMachine.TheVariants as machine
use Rattle.lawful_records.specs.declared.records.PassKnown.{PassKnown}
use Rattle.lawful_records.specs.Cycling.{announced_by, cycle_of}
use Rattle.lawful_records.specs.Fixing.{IsFixedPass, IsFixedParty, AreFixed}
use Rattle.lawful_records.specs.LawfulRecords.{IsAcked, IsMachine, IsPassRecord, is_pass_of}
use Rattle.lawful_records.specs.Records.{number_of, acked_of}
use Rattle.lawful_records.proofs.fixing.RootTurns.{root_inside_of, root_goes}
use Rattle.lawful_records.proofs.fixing.Walking.{walk_inside_of, walk_goes}
use Rattle.std.specs.List.{All}
use Rattle.std.proofs.Common.{◌≡◌, ◌≢◌, ap, ℕ, List, [], ◌∷◌, length, get_or, refl, sym, ◌∙◌, subst, arith, length-append, ◌++◌}
use Rattle.std.proofs.lemmas.List.Elements.{All-head, All-tail}
use Rattle.call_steps.specs.declared.step.Step.TheVariants.{Ended}
use Rattle.call_steps.specs.Steps.{place_of, applied, IsInside}
use Rattle.call_steps.specs.StepLaws.{length-applied}
use Rattle.heap_words.specs.Layouts.{Sizes, words_of}
use Rattle.heap_history.specs.declared.call.Call.{Call}
use Rattle.space_reclaim.specs.Plans.{Planned}
use Rattle.barriers.specs.Spaces.{Space}
use Rattle.barriers.specs.Says.{Notices}
use Rattle.barriers.specs.Kits.{Kit, Stepping, Laws}
use Rattle.lawful_records.specs.declared.stage.Announcement.{Announcement}
use Rattle.lawful_records.specs.declared.stage.Announcement.TheVariants.{Mark, Confirm, Search, Copy, Fix, Free}
use Rattle.lawful_records.specs.declared.awaited.Awaited.{Awaited}
use Rattle.lawful_records.specs.declared.collector.CollectorMachine.{CollectorMachine}
use Rattle.lawful_records.specs.declared.collector.CollectorMachine.TheVariants as collector
use Rattle.lawful_records.specs.Collectors.{is_await, begun_by, with_await, awaits_behind, look, AreEarlier}
use Rattle.lawful_records.specs.Handshakes.{IsCollector}
use Rattle.lawful_records.specs.HeaderChanges.{HeadersChange}
use Rattle.lawful_records.specs.JobStands.{IsPlan}
use Rattle.lawful_records.specs.LawfulRecords.{IsCollectorRecord, IsParty, LawfulRecords}
use Rattle.lawful_records.specs.Turns.{collector_asks, collector_turned, party_asks, turned, sealed_now, collector_fed}
use Rattle.lawful_records.specs.declared.records.CollectorKnown.{CollectorKnown}
use Rattle.lawful_records.specs.declared.records.Sealed.{Sealed}
use Rattle.lawful_records.specs.declared.records.Party.{Party}
use Rattle.lawful_records.specs.declared.records.Party.TheVariants as party
use Rattle.lawful_records.proofs.parties.Assembling.{CollectorMoved, assemble_collector}
use Rattle.lawful_records.proofs.parties.Counts.{IsPassParty, others_pass}
use Rattle.lawful_records.proofs.parties.Pasts.{history_is}
use Rattle.lawful_records.proofs.collecting.Goes.{found_in, next_of, CollectorStands, CollectorGoes}
use Rattle.lawful_records.proofs.collecting.HeardTurns.{heard_goes}
use Rattle.lawful_records.proofs.collecting.SeekTurns.{draw_inside, draw_goes_on, seek_inside, seek_goes}
use Rattle.lawful_records.proofs.collecting.WorkTurns.{source_inside, target_inside, source_goes, target_goes}
use Rattle.lawful_records.proofs.collecting.TagTurns.{tag_inside, tag_goes}
use Rattle.lawful_records.proofs.collecting.MoveWork.{move_inside}
use Rattle.lawful_records.proofs.collecting.MoveTurns.{move_goes}
use Rattle.lawful_records.proofs.collecting.Playing.{await_is, plays_fed}
use Rattle.lawful_records.specs.Counts.{HasCounted, unsealed_in, KeepsSeal}
use Rattle.std.proofs.lemmas.List.{append-nil}
use Rattle.lawful_records.proofs.collecting.Counted.{counts_fed, counts_moved, most_unsealed}

-- ---- the counts of its awaits

earlier_none : (changes : ℕ) → AreEarlier changes (record { mark = 0; confirm = 0; copy = 0; fix = 0; free = 0 })
earlier_none changes = record { mark = omega arith; confirm = omega arith; copy = omega arith; fix = omega arith; free = omega arith }

earlier_begun : (a : Announcement) (changes : ℕ) (h : Awaited) → AreEarlier changes h → AreEarlier changes (begun_by a h)
earlier_begun Mark changes h are = earlier_none changes
earlier_begun Confirm changes h are = are
earlier_begun Search changes h are = are
earlier_begun Copy changes h are = are
earlier_begun Fix changes h are = are
earlier_begun Free changes h are = are

earlier_with : (a : Announcement) (changes : ℕ) (h : Awaited) → AreEarlier changes h → AreEarlier changes (with_await a changes h)
earlier_with Mark changes h are = record { mark = omega arith; confirm = are.confirm; copy = are.copy; fix = are.fix; free = are.free }
earlier_with Confirm changes h are = record { mark = are.mark; confirm = omega arith; copy = are.copy; fix = are.fix; free = are.free }
earlier_with Search changes h are = are
earlier_with Copy changes h are = record { mark = are.mark; confirm = are.confirm; copy = omega arith; fix = are.fix; free = are.free }
earlier_with Fix changes h are = record { mark = are.mark; confirm = are.confirm; copy = are.copy; fix = omega arith; free = are.free }
earlier_with Free changes h are = record { mark = are.mark; confirm = are.confirm; copy = are.copy; fix = are.fix; free = omega arith }

earlier_after : {M : Type 0} (k after : CollectorMachine M) (changes : ℕ) (h : Awaited) → AreEarlier changes h → AreEarlier changes (awaits_behind k after changes h)
earlier_after (collector.Announce s) after changes h are = earlier_begun s.announcement changes h are
earlier_after (collector.Await s pass m) after changes h are = by_end (is_await after)
  where
    by_end : (on : Bool) → AreEarlier changes (if on then h else with_await s.announcement changes h)
    by_end true = are
    by_end false = earlier_with s.announcement changes h are
earlier_after (collector.Roots s pass reg m) after changes h are = by_end (is_await after)
  where
    by_end : (on : Bool) → AreEarlier changes (if on then h else with_await s.announcement changes h)
    by_end true = are
    by_end false = earlier_with s.announcement changes h are
earlier_after k after changes h are = are

-- ---- its step

module _ {R W E M : Type 0} (kit : Kit R W E M) (by : Stepping R W E M) (laws : Laws kit by) (l : Sizes) (words : List ℕ) (plan : Planned) (s : Space) (n : Notices) (counts : Awaited) (sealed : List Sealed) where
  abbrev Stands : CollectorMachine M → Type 0
  Stands k = CollectorStands kit by l words plan s n counts sealed k

  look_inside : (st : _) (pass : ℕ) → Stands (look st pass) → IsInside (words_of l) (collector_asks kit by (look st pass))
  look_inside st pass stands = let there = stands.collects.in_layout in omega (arith, there.0, there.1)

  inside_of : (k : CollectorMachine M) → Stands k → IsInside (words_of l) (collector_asks kit by k)
  inside_of (collector.Announce st) stands = omega arith
  inside_of (collector.Await st pass m) stands =
      let same = await_is kit by.move_fed l kit.kind stands.cycles st pass m stands.collects in
      subst (λ (k : CollectorMachine M). IsInside (words_of l) (collector_asks kit by k)) (sym same) (look_inside st pass (subst Stands same stands))
  inside_of (collector.Draw st) stands = draw_inside kit by laws l words plan s n counts sealed st stands
  inside_of (collector.Seek st m) stands = seek_inside kit by laws l words plan s n counts sealed st m stands
  inside_of (collector.Source st region next) stands = source_inside kit by laws l words plan s n counts sealed st region next stands
  inside_of (collector.Target st region next) stands = target_inside kit by laws l words plan s n counts sealed st region next stands
  inside_of (collector.Tag st job next) stands = tag_inside kit by laws l words plan s n counts sealed st job next stands
  inside_of (collector.Move st job next m) stands = move_inside kit by laws l words plan s n counts sealed st job next m stands
  inside_of (collector.Roots st pass reg m) stands = root_inside_of kit by laws l words plan s n counts sealed st pass reg m stands
  inside_of (collector.Walk st m) stands = walk_inside_of kit by laws l words plan s n counts sealed st m stands
  inside_of (collector.Done st) stands = tt

  goes_of : (k : CollectorMachine M) → Stands k → collector_asks kit by k ≢ Ended → CollectorGoes kit by l words plan s n sealed k
  goes_of (collector.Announce st) stands on = heard_goes kit by laws l words plan s n counts sealed (collector.Announce st) tt stands
  goes_of (collector.Await st pass m) stands on = heard_goes kit by laws l words plan s n counts sealed (collector.Await st pass m) tt stands
  goes_of (collector.Draw st) stands on = draw_goes_on kit by laws l words plan s n counts sealed st stands
  goes_of (collector.Seek st m) stands on = seek_goes kit by laws l words plan s n counts sealed st m stands
  goes_of (collector.Source st region next) stands on = source_goes kit by laws l words plan s n counts sealed st region next stands
  goes_of (collector.Target st region next) stands on = target_goes kit by laws l words plan s n counts sealed st region next stands
  goes_of (collector.Tag st job next) stands on = tag_goes kit by laws l words plan s n counts sealed st job next stands
  goes_of (collector.Move st job next m) stands on = move_goes kit by laws l words plan s n counts sealed st job next m stands
  goes_of (collector.Roots st pass reg m) stands on = root_goes kit by laws l words plan s n counts sealed st pass reg m stands
  goes_of (collector.Walk st m) stands on = walk_goes kit by laws l words plan s n counts sealed st m stands
  goes_of (collector.Done st) stands on = absurd (on refl)

-- ---- the records

module _ {R W E M : Type 0} (kit : Kit R W E M) (by : Stepping R W E M) (laws : Laws kit by) (l : Sizes) (words : List ℕ) (others : List (Party R W E M)) (q : CollectorKnown M) (w : LawfulRecords kit l words (party.Collector q ∷ others)) where
  own : IsCollectorRecord kit l w.collector w.space q
  own = All-head (IsParty kit l w.collector w.space w.notices) (party.Collector q) others w.each

  -- ---- root words of passes that have retired

  retired_holds : (p : PassKnown R W E) → IsPassRecord kit l (announced_by w.collector) (cycle_of w.collector) w.space w.notices p → (m : PassMachine R W E) → IsAcked kit m (acked_of p) → acked_of p ≡ retired_word → IsMachine kit l (cycle_of w.collector) w.space w.notices p m
      → (reg : ℕ) → reg < 8 → On (Holds w.space) (w.notices.root (number_of p) reg)
  retired_holds p own machine.Retired acked retired is reg less = (is reg less).good.1
  retired_holds p own (machine.Retire retire.Ended) acked retired is reg less = (is reg less).good.1
  retired_holds p own m acked retired is reg less = absurd (acked retired)

  rooted_in : (pass : ℕ) → w.notices.ack pass ≡ retired_word → (rs : List (Party R W E M)) → 1 ≤ sum_by (is_pass_of kit pass) rs → All (IsParty kit l w.collector w.space w.notices) rs → (reg : ℕ) → reg < 8 → On (Holds w.space) (w.notices.root pass reg)
  rooted_in pass retired [] some each reg less = absurd (omega (arith, some))
  rooted_in pass retired (party.Collector x ∷ rs) some each reg less =
      rooted_in pass retired rs (omega (arith, some, sum_by-cons (is_pass_of kit pass) (party.Collector x) rs)) (All-tail (IsParty kit l w.collector w.space w.notices) (party.Collector x) rs each) reg less
  rooted_in pass retired (party.Pass p ∷ rs) some each reg less = by_number (λ none. rooted_in pass retired rs (omega (arith, some, none, sum_by-cons (is_pass_of kit pass) (party.Pass p) rs)) (All-tail (IsParty kit l w.collector w.space w.notices) (party.Pass p) rs each) reg less) (number_of p == pass) refl
    where
      its : IsPassRecord kit l (announced_by w.collector) (cycle_of w.collector) w.space w.notices p
      its = All-head (IsParty kit l w.collector w.space w.notices) (party.Pass p) rs each

      by_number : (is_pass_of kit pass (party.Pass p) ≡ 0 → On (Holds w.space) (w.notices.root pass reg)) → (same : Bool) → (number_of p == pass) ≡ same → On (Holds w.space) (w.notices.root pass reg)
      by_number rest true e =
          let number : number_of p ≡ pass = eqb-true (number_of p) pass e in
          subst (λ (x : ℕ). On (Holds w.space) (w.notices.root x reg)) number
          (retired_holds p its p.pass.machine its.answering.retired (sym its.answering.acked ∙ (ap w.notices.ack number ∙ retired)) its.machine reg less)
      by_number rest false e = rest (ap (λ (b : Bool). if b then 1 else 0) e)

  rooted_all : (pass : ℕ) → IsPass l pass → w.notices.ack pass ≡ retired_word → (reg : ℕ) → reg < 8 → On (Holds w.space) (w.notices.root pass reg)
  rooted_all pass there retired reg less = rooted_in pass retired (party.Collector q ∷ others) (let one = w.parties.passes pass there in omega (arith, one)) w.each reg less

  abbrev pub StandsAs : CollectorMachine M → Type 0
  StandsAs k = CollectorStands kit by l words q.plan w.space w.notices q.awaited q.sealed k

  pub stands : StandsAs q.machine
  stands = subst StandsAs (sym own.machine) (record {
    layout = w.layout;
    width = w.width;
    says = w.says;
    spare = w.spare;
    announced = w.announced;
    drawn = w.drawn;
    rows = w.rows;
    bare = w.bare;
    objects = w.objects;
    lens = w.lens;
    resting = w.resting;
    cycles = own.cycles;
    few = own.few;
    planned = own.plan;
    collects = own.collects;
    jobs = own.jobs;
    search = own.search;
    awaited = own.awaited;
    sealed_are = own.sealed;
    rooted = rooted_all;
    fixed = record { aside = All-head (IsFixedParty kit w.collector w.space w.notices) (party.Collector q) others w.fixed.each; stands = w.fixed.stands };
  })

  -- its step is on a word that is there
  pub collector_inside : IsInside (words_of l) (collector_asks kit by q.machine)
  collector_inside = inside_of kit by laws l words q.plan w.space w.notices q.awaited q.sealed q.machine stands

  -- it plays so many cycles, and what it has planned is a plan
  pub collector_plays : (cycles : ℕ) × IsCollector l kit.kind cycles q.plan q.machine × IsPlan kit.kind l q.plan
  collector_plays = (stands.cycles, stands.collects, stands.planned)

  module _ (on : collector_asks kit by q.machine ≢ Ended) where
    goes : CollectorGoes kit by l words q.plan w.space w.notices q.sealed q.machine
    goes = goes_of kit by laws l words q.plan w.space w.notices q.awaited q.sealed q.machine stands on

    abbrev next : CollectorMachine M
    next = next_of kit by l words q.plan q.machine

    abbrev after : CollectorKnown M
    after = collector_turned kit by w.space.history q (found_in kit by l words q.machine)

    abbrev found : ℕ
    found = found_in kit by l words q.machine

    own_counted : HasCounted (unsealed_in w.space q.machine) q.machine (length q.sealed)
    own_counted = subst (λ (k : CollectorMachine M). HasCounted (unsealed_in w.space k) k (length q.sealed)) (sym own.machine) own.counted

    -- each job has sealed one object at most
    abbrev More : CollectorMachine M → List Sealed
    More k = sealed_now kit by k w.space.history found

    abbrev Counted : CollectorMachine M → Type 0
    Counted k = HasCounted (unsealed_in goes.space (collector_fed kit by q.plan k found)) (collector_fed kit by q.plan k found) (length (q.sealed ++ More k))

    counted_then : (k : CollectorMachine M) → IsCollector l kit.kind stands.cycles q.plan k → HasCounted (unsealed_in w.space k) k (length q.sealed) → KeepsSeal k w.space goes.space (length (More k)) → Counted k
    counted_then (collector.Move st job next m) collects counts keeps =
        subst (HasCounted (unsealed_in goes.space (collector_fed kit by q.plan (collector.Move st job next m) found)) (collector_fed kit by q.plan (collector.Move st job next m) found))
        (sym (length-append q.sealed (More (collector.Move st job next m))))
        (counts_moved kit q.plan w.space goes.space (length q.sealed) (length (More (collector.Move st job next m))) st job next m (by.move_fed m found) (kit.move_ended (by.move_fed m found)) collects.0.next_is counts keeps)
    counted_then k collects counts keeps =
        subst (λ (xs : List Sealed). HasCounted (unsealed_in goes.space (collector_fed kit by q.plan k found)) (collector_fed kit by q.plan k found) (length xs)) (sym (append-nil q.sealed))
        (counts_fed kit q.plan (unsealed_in goes.space (collector_fed kit by q.plan k found)) (most_unsealed goes.space goes.space (collector_fed kit by q.plan k found)) (length q.sealed) by.move_fed l kit.kind stands.cycles (unsealed_in w.space k) k found (λ moves. moves) collects counts)

    fit_then : (k : CollectorMachine M) → IsCollector l kit.kind stands.cycles q.plan k → HasCounted (unsealed_in w.space k) k (length q.sealed) → length q.sealed ≤ (let plan = q.plan in length plan.jobs) → KeepsSeal k w.space goes.space (length (More k)) → length (q.sealed ++ More k) ≤ (let plan = q.plan in length plan.jobs)
    fit_then (collector.Move st job next m) collects counts fit keeps = omega (arith, length-append q.sealed (More (collector.Move st job next m)), collects.2, counts, keeps)
    fit_then k collects counts fit keeps = subst (λ (xs : List Sealed). length xs ≤ (let plan = q.plan in length plan.jobs)) (sym (append-nil q.sealed)) fit

    party_goes : (r : Party R W E M) → IsPassParty r → IsParty kit l w.collector w.space w.notices r → IsParty kit l next goes.space goes.notices r
    party_goes (party.Pass p) pass is = goes.passes p (subst (λ (k : CollectorMachine M). IsParty kit l k w.space w.notices (party.Pass p)) (sym own.machine) is)
    party_goes (party.Collector x) pass is = absurd pass

    each : All (IsParty kit l next goes.space goes.notices) others
    each i d within = party_goes (get_or others i d) (others_pass kit l q others w.parties i d within) (All-tail (IsParty kit l w.collector w.space w.notices) (party.Collector q) others w.each i d within)

    -- what is fixed then
    party_fixed : (r : Party R W E M) → IsPassParty r → IsParty kit l w.collector w.space w.notices r → IsFixedParty kit w.collector w.space w.notices r → IsFixedParty kit next goes.space goes.notices r
    party_fixed (party.Pass p) pass is fixed =
        let from : CollectorMachine M → Type 0 = λ k. IsPassRecord kit l (announced_by k) (cycle_of k) w.space w.notices p × IsFixedPass kit k w.space w.notices p in
        let both = subst from (sym own.machine) (is, fixed) in
        goes.fixed.passes p both.0 both.1
    party_fixed (party.Collector x) pass is fixed = absurd pass

    fixed_each : All (IsFixedParty kit next goes.space goes.notices) others
    fixed_each i d within = party_fixed (get_or others i d) (others_pass kit l q others w.parties i d within) (All-tail (IsParty kit l w.collector w.space w.notices) (party.Collector q) others w.each i d within)
        (All-tail (IsFixedParty kit w.collector w.space w.notices) (party.Collector q) others w.fixed.each i d within)

    fixed_then : AreFixed kit next goes.space goes.notices (party.Collector after ∷ others)
    fixed_then = record {
      stands = goes.fixed.own.stands;
      each = All-cons (IsFixedParty kit next goes.space goes.notices) (party.Collector after) others goes.fixed.own.aside fixed_each;
    }

    moved : CollectorMoved kit l w.space (applied (collector_asks kit by q.machine) words) next goes.space goes.notices after others
    moved = record {
      width = length-applied (collector_asks kit by q.machine) words ∙ w.width;
      says = goes.says;
      spare = goes.spare;
      announced = goes.announced;
      drawn = goes.drawn;
      rows = goes.rows;
      bare = goes.bare;
      objects = goes.objects;
      lens = goes.lens;
      resting = goes.resting;
      history = goes.history;
      own = record {
        machine = refl;
        cycles = stands.cycles;
        few = stands.few;
        plan = stands.planned;
        collects = plays_fed kit by.move_fed q.plan l kit.kind stands.cycles q.machine (found_in kit by l words q.machine) w.layout stands.collects;
        jobs = goes.jobs;
        search = goes.search;
        awaited = subst (λ (h : List Call). AreEarlier (length h) after.awaited) (sym goes.history) (earlier_after q.machine next (length w.space.history) q.awaited stands.awaited);
        sealed = goes.sealed_are;
        counted = counted_then q.machine stands.collects own_counted goes.seals;
        fit = fit_then q.machine stands.collects own_counted own.fit goes.seals;
      };
      each = each;
      fixed = fixed_then;
    }

    -- after a turn of the collector records are lawful
    pub collector_keeps : LawfulRecords kit l (applied (party_asks kit by (party.Collector q)) words) (turned kit by others (party.Collector q) (slice_index words (place_of (party_asks kit by (party.Collector q)))) ∷ others)
    collector_keeps =
        subst (λ (g : List Call). LawfulRecords kit l (applied (collector_asks kit by q.machine) words) (party.Collector (collector_turned kit by g q (found_in kit by l words q.machine)) ∷ others))
        (sym (history_is kit l w.space.history (party.Collector q ∷ others) w.history))
        (assemble_collector kit l words (applied (collector_asks kit by q.machine) words) q after others next goes.space goes.notices w moved)

    -- and headers change as the table of changes says
    pub collector_heads : HeadersChange kit.kind l words (applied (collector_asks kit by q.machine) words)
    collector_heads = record {
      old = w.space;
      old_notices = w.notices;
      says_old = w.says;
      rows_old = w.rows;
      new = goes.space;
      new_notices = goes.notices;
      says_new = goes.says;
      rows_new = goes.rows;
      changes = goes.heads;
    }
