-- The step of a thread's machine in a lawful world, by its records.
use Rattle.std.specs.Prelude.{is_some, slice_index}
use Rattle.std.specs.List.{All}
use Rattle.std.specs.Option.{ForSome, option_map}
use Rattle.std.proofs.Common.{◌≡◌, ◌≢◌, ℕ, ◌<◌, ◌≤◌, Bool, true, false, List, length, Option, Some, None, refl, sym, ap, ◌∙◌, subst, arith}
use Rattle.heap_words.specs.Layouts.{Sizes, IsPass, IsRegion, region_at}
use Rattle.heap_words.specs.FieldWords.{IsFieldWord}
use Rattle.heap_words.specs.declared.field_word.FieldWord.{FieldWord}
use Rattle.heap_words.specs.declared.field_word.FieldWord.TheVariants.{Link}
use Rattle.heap_script.specs.declared.script.Command.{Command}
use Rattle.heap_script.specs.declared.script.Command.TheVariants as commands
use Rattle.heap_script.specs.Scripts.{CommandFits}
use Rattle.heap_script.specs.Commands.{commands_at}
use Rattle.heap_script.specs.TellingSteps.{answers_at}
use Rattle.call_steps.specs.declared.step.Step.TheVariants as steps
use Rattle.call_steps.specs.Steps.{place_of, applied}
use Rattle.call_steps.specs.StepLaws.{reading}
use Rattle.space_reclaim.specs.declared.region_word.RegionWord.TheVariants.{Free}
use Rattle.space_reclaim.specs.declared.claim.Round.{Round}
use Rattle.space_reclaim.specs.Claims.{round_of}
use Rattle.space_reclaim.specs.RegionWords.{word_of_region}
use Rattle.space_reclaim.specs.OwnRegions.{IsOwn, first_own}
use Rattle.handshakes.specs.Handshakes.{Announced}
use Rattle.barriers.specs.declared.ends.NewEnd.{NewEnd}
use Rattle.barriers.specs.declared.ends.NewEnd.TheVariants as new_end
use Rattle.barriers.specs.declared.machine_end.MachineEnd.{MachineEnd}
use Rattle.barriers.specs.declared.machine_end.MachineEnd.TheVariants as ends
use Rattle.barriers.specs.declared.new_object.NewMachine.TheVariants as make
use Rattle.barriers.specs.declared.pass.PassRecord.{PassRecord}
use Rattle.barriers.specs.declared.pass.PassMachine.{PassMachine}
use Rattle.barriers.specs.declared.pass.PassMachine.TheVariants as machine
use Rattle.barriers.specs.declared.room.Room.{Room}
use Rattle.barriers.specs.Cycles.{Cycle}
use Rattle.barriers.specs.Spaces.{Space}
use Rattle.barriers.specs.Kits.{Kit, Stepping, Laws, ending_of, read_said, exchange_said}
use Rattle.barriers.specs.Knowns.{Ending, Got, Done, Differs, Refused}
use Rattle.barriers.specs.Knowns as knowns
use Rattle.barriers.specs.declared.ends.ReadEnd.{ReadEnd}
use Rattle.barriers.specs.declared.ends.ReadEnd.TheVariants as read_end
use Rattle.barriers.specs.declared.ends.ExchangeEnd.{ExchangeEnd}
use Rattle.barriers.specs.declared.ends.ExchangeEnd.TheVariants as exchange_end
use Rattle.barriers.specs.declared.ends.TryRefusal.TheVariants as refusal
use Rattle.barriers.specs.declared.front.Front.{Front}
use Rattle.barriers.specs.Records.{ended_of, with_end, IsReady}
use Rattle.lawful_records.specs.Collectors.{drawn_of}
use Rattle.lawful_records.specs.Cycling.{announced_by, cycle_of}
use Rattle.lawful_records.specs.LawfulRecords.{AreSealed, LawfulRecords, IsPassRecord}
use Rattle.lawful_records.specs.Beginnings.{word_of_end, word_told, rested}
use Rattle.lawful_records.specs.PassTurns.{IsAnnounced, PassStands, HasTurn, in_machine, pass_after, seal_for}
use Rattle.lawful_records.specs.Making.{IsRoom, IsRoomIn, has_room}
use Rattle.lawful_records.specs.Records.{registers_by, room_by, view_by, number_of, taken_in}
use Rattle.lawful_records.specs.Turns.{pass_asks, pass_fed, pass_turned, front_by, change_by, seal_in, LooksOn}
use Rattle.lawful_records.specs.declared.records.PassKnown.{PassKnown}
use Rattle.lawful_records.proofs.calls.Sights.{IsSealAt, sees_so, turned_alike}
use Rattle.lawful_records.proofs.parties.Seals.{are_sealed}
use Rattle.lawful_records.proofs.turns.NewTurns.{new_needs_more}
use Rattle.lawful_records.proofs.turns.OwnTurns.{turn_of, kept_of}
use Rattle.gc_cycle.proofs.records.Seals.{seal_count, looks_count, sealed_is, records_know}
use Rattle.gc_cycle.proofs.records.Stepped.{seal_seen, sealed_few}
use Rattle.lawful_records.proofs.beginnings.Taking.{Standing, end_good}
use Rattle.lawful_records.proofs.turns.Stepping.{own_there}
use Rattle.gc_cycle.specs.Worlds.{State, pass_at, command_at, changes_now, asks_at, found_at, seal_at, fed_at, seen_with, EndFits}
use Rattle.gc_cycle.specs.Lawful.{Lawful, IsAtCommand, known_in, history_in, records_in, seals_in}
use Rattle.gc_cycle.specs.Runs.{decides_at}
use Rattle.heap_history.specs.NewestFirst.{Before}
use Rattle.heap_history.specs.NewestFirstLaws.{Before-length}
use Rattle.heap_history.specs.declared.call.Call.{Call}
use Rattle.gc_cycle.proofs.records.Ends.{Outcome, Polls, Makes, Reads, Writes, Exchanges, Retires, outcome, with_end_is}
use Rattle.gc_cycle.proofs.script.Ends.{EndSays}
use Rattle.gc_cycle.proofs.records.Shares.{history_is, changes_are, record_at}
use Rattle.gc_cycle.proofs.records.Stepping.{front_is}
use Rattle.gc_cycle.proofs.script.Lists.{All-slice_get}
use Rattle.gc_cycle.proofs.script.Machines.{StepSays}
use Rattle.gc_cycle.proofs.script.Turned.{EndSaysAt, HasStepped}
use Rattle.gc_cycle.proofs.script.Stepping.{found_alike, all_held, words_after, NeedsAt, FitsAt, Kept, says_of}

-- ---- in a lawful world

module _ {R W E M : Type 0} (kit : Kit R W E M) (by : Stepping R W E M) (laws : Laws kit by) (w : State R W E M) (lw : Lawful kit w) (party : ℕ) (is : IsPass w.layout party) (few : (let p = pass_at w party in p.made) < 262144) (announcement : IsAnnounced kit.minds w.layout (announced_by (let r = lw.records in r.collector)) (cycle_of (let r = lw.records in r.collector)) (drawn_of (let r = lw.records in r.collector)))
    (on : asks_at kit by w party ≢ steps.Ended) where
  abbrev records : LawfulRecords kit w.layout w.words (records_in w)
  records = lw.records

  history : (let space = records.space in space.history) ≡ history_in w
  history = history_is kit w lw

  abbrev l : Sizes
  l = w.layout

  abbrev p : PassRecord R W E
  p = pass_at w party

  abbrev k : PassKnown R W E
  k = known_in w p

  abbrev a : Announced
  a = announced_by records.collector

  abbrev c : Cycle
  c = cycle_of records.collector

  abbrev s : Space
  s = records.space

  pub stands : PassStands kit by l a c s records.notices k w.words
  stands = record {
    layout = records.layout;
    width = records.width;
    says = records.says;
    spare = records.spare;
    announcement = subst (IsAnnounced kit.minds l a c) (sym records.drawn) announcement;
    announced = records.announced;
    rows = records.rows;
    bare = records.bare;
    objects = records.objects;
    lens = records.lens;
    late = refl;
    own = record_at kit w lw party is;
  }

  pub has : HasTurn kit by l a c s records.notices k w.words
  has = turn_of kit by laws laws.cycle l a c s records.notices w.words k stands on

  abbrev n : ℕ
  n = slice_index w.words (place_of (asks_at kit by w party))

  -- the history at the seal of the object at which its step is
  abbrev seal : Option (List Call)
  seal = seal_seen kit by w party

  seal_is : IsSealAt s (place_of (asks_at kit by w party)) seal
  seal_is x f live inside at =
      let one = records.parties in
      let are = subst (AreSealed s) (sealed_is kit (seals_in w.sealed (history_in w)) (records_in w) one.collector (records_know w)) (are_sealed kit l records.collector s records.notices (records_in w) one.collector records.each) in
      ap (seal_in (seals_in w.sealed (history_in w))) at ∙ are.seals x f live inside

  own_sealed : IsPassRecord kit l a c has.space has.notices (pass_turned kit by seal s.history k n)
  own_sealed = let turn = has.turn in
      subst (IsPassRecord kit l a c has.space has.notices) (sym (turned_alike kit by laws l a c s records.notices w.words k stands on seal seal_is)) turn.own

  found_is : found_at kit by w party ≡ n
  found_is = found_alike (asks_at kit by w party) w.words on

  in_layout : IsPass l (let view = p.view in view.pass)
  in_layout = let thread = lw.threads party is in subst (IsPass l) (sym thread.number) is

  fits_at : (command : Option Command) → command_at w party ≡ command → FitsAt kit by laws l a c has.space has.notices w.told.log s.history history p k.seen k.mine k.ended (let own = stands.own in let told = own.told in told.count) n seal stands.layout in_layout few command
  fits_at None at = tt
  fits_at (Some command) at = let script = lw.script in All-slice_get CommandFits (commands_at w.commands party) (length (answers_at w.told.answers party)) command (script.commands party is) at

  -- where its claim finds a region in use, its objects and the asked one need more regions than it has
  needs_by : (m : PassMachine R W E) → p.machine ≡ m → NeedsAt l w.told.log (let view = p.view in view.pass) (slice_index w.words (place_of (pass_asks kit by m))) m
  needs_by (machine.New y) e =
      λ len claims other. new_needs_more kit by laws l a c s records.notices k w.words y (subst (λ (m : PassMachine R W E). PassStands kit by l a c s records.notices (in_machine k m) w.words) e stands) len claims other
  needs_by machine.Idle e = tt
  needs_by machine.Retired e = tt
  needs_by (machine.Poll x) e = tt
  needs_by (machine.Read x) e = tt
  needs_by (machine.Write x) e = tt
  needs_by (machine.Exchange x) e = tt
  needs_by (machine.Retire x) e = tt

  needs : NeedsAt l w.told.log (let view = p.view in view.pass) n p.machine
  needs = needs_by p.machine refl

  kept : Kept kit by laws l a c has.space has.notices w.told.log s.history history p k.seen k.mine k.ended (let own = stands.own in let told = own.told in told.count) n seal stands.layout in_layout few p.machine
  kept = kept_of kit by laws laws.cycle l a c s records.notices w.words k stands on

  says : StepSays kit by laws l a c has.space has.notices w.told.log s.history history p k.seen k.mine k.ended (let own = stands.own in let told = own.told in told.count) n seal p.machine (command_at w party)
  says =
      let thread = lw.threads party is in
      let turn = has.turn in
      says_of kit by laws l a c has.space has.notices w.told.log s.history history p k.seen k.mine k.ended (let own = stands.own in let told = own.told in told.count) n seal stands.layout in_layout few p.machine (command_at w party)
      (fits_at (command_at w party) refl) thread.at on needs kept (record { own = own_sealed; history = turn.history })

  -- the record after its step, with the word that it finds
  abbrev then : ℕ → PassRecord R W E
  then x = record p { machine = pass_fed kit by p.machine x; seen = seen_with (front_by kit by p.machine x) (option_map (λ (past : List Call). length past) seal) (changes_now w) p.seen }

  seal_counts : seal_at kit by w party ≡ option_map (λ (past : List Call). length past) seal
  seal_counts = seal_count w.sealed (history_in w) (place_of (asks_at kit by w party)) (sealed_few kit by laws w lw party is)

  fed_is : then n ≡ fed_at kit by w party
  fed_is =
      let x = found_at kit by w party in
      ap then (sym found_is)
      ∙ ap (λ (o : Option ℕ). record p { machine = pass_fed kit by p.machine x; seen = seen_with (front_by kit by p.machine x) o (changes_now w) p.seen }) (sym seal_counts)
      ∙ ap (λ (f : Front). record p { machine = pass_fed kit by p.machine x; seen = seen_with f (seal_at kit by w party) (changes_now w) p.seen }) (sym (front_is kit by p.machine x))

  decides_is : is_some (change_by kit by p.machine (let view = p.view in view.pass) n) ≡ decides_at kit by w party
  decides_is = ap (λ x. is_some (change_by kit by p.machine (let view = p.view in view.pass) x)) (sym found_is)

  -- what the record says of a step
  abbrev Goes : PassRecord R W E → Bool → Type 0
  Goes x made = ended_of kit x.machine ≡ None → IsAtCommand kit l x (command_at w party) × (made ≡ false)

  abbrev Ends : PassRecord R W E → Bool → Type 0
  Ends x made = (end : MachineEnd) → ended_of kit x.machine ≡ Some end → EndSaysAt l w.told.log x (command_at w party) end made × All IsFieldWord (let q = with_end x end in q.registers)

  both : (P : PassRecord R W E → Bool → Type 0) → P (then n) (is_some (change_by kit by p.machine (let view = p.view in view.pass) n)) → P (fed_at kit by w party) (decides_at kit by w party)
  both P before = subst (λ (b : Bool). P (fed_at kit by w party) b) decides_is (subst (λ (x : PassRecord R W E). P x (is_some (change_by kit by p.machine (let view = p.view in view.pass) n))) fed_is before)

  ends_so : Ends (then n) (is_some (change_by kit by p.machine (let view = p.view in view.pass) n))
  ends_so end over =
      let turn = has.turn in
      let own = turn.own in
      (says.ends end over, words_after kit (then n) (pass_fed kit by p.machine n) end over (λ i. let good = own.registers i in good.0))

  -- ---- what was seen

  -- what its look has seen
  abbrev look : List Call
  look = knowns.front (front_by kit by p.machine n) seal s.history k.seen

  looks : LooksOn (front_by kit by p.machine n) (seal_for kit by s p.machine) s.history k.seen
  looks = let turn = has.turn in turn.looks

  look_is : look ≡ knowns.front (front_by kit by p.machine n) (seal_for kit by s p.machine) s.history k.seen
  look_is = sees_so kit by laws l a c s records.notices w.words k p.machine stands on seal seal_is

  -- is no less than it had seen, and no more than there is
  look_later : length k.seen ≤ length look
  look_later = Before-length k.seen look (subst (Before k.seen) (sym look_is) looks.later)

  look_within : length look ≤ length s.history
  look_within = Before-length look s.history (subst (λ (seen : List Call). Before seen s.history) (sym look_is) looks.past)

  look_counts : (let q = fed_at kit by w party in q.seen) ≡ length look
  look_counts =
      let own = stands.own in
      let told = own.told in
      let all : changes_now w ≡ length s.history = changes_are kit w lw ∙ ap (λ (cs : List Call). length cs) (sym history) in
      ap (λ (q : PassRecord R W E). q.seen) (sym fed_is) ∙ looks_count (front_by kit by p.machine n) seal s.history k.seen p.seen (changes_now w) all told.count

  pub has_stepped : HasStepped kit by w party
  has_stepped =
      let x = found_at kit by w party in
      let own = stands.own in
      let told = own.told in
      let all : changes_now w ≡ length s.history = changes_are kit w lw ∙ ap (λ (cs : List Call). length cs) (sym history) in
      record {
        later = omega (arith, look_counts, look_later, told.count);
        within = omega (arith, look_counts, look_within, all);
        goes = both Goes says.goes;
        ends = both Ends ends_so;
        looked = ap (λ (f : Front). seen_with f (seal_at kit by w party) (changes_now w) p.seen) (front_is kit by p.machine x);
      }

  -- ---- what comes of its end can be done

  -- the record after the step is a pass's
  own_then : IsPassRecord kit l a c has.space has.notices (pass_after kit by s k w.words)
  own_then = let turn = has.turn in turn.own

  standing_then : Standing kit l has.space has.notices
  standing_then = let turn = has.turn in record { layout = stands.layout; memory = reading (applied (asks_at kit by w party) w.words); says = turn.says; rows = turn.rows }

  word_fits : (word : FieldWord) → word_of_end kit (pass_fed kit by p.machine n) ≡ Some word → IsFieldWord word
  word_fits word said = let own = own_then in let met = own.met in (end_good kit l a c has.space has.notices standing_then (pass_after kit by s k w.words) (pass_fed kit by p.machine n) word own.machine met.call said).0

  own_region : (o : Option ℕ) (used : ℕ) → IsRoomIn l has.space (number_of (pass_after kit by s k w.words)) o used → ForSome o (IsRegion l)
  own_region None used room = λ x at. absurd cc
  own_region (Some region) used room = λ x at. let own = own_then in let same : region ≡ x = cc in subst (IsRegion l) same (own_there l (number_of (pass_after kit by s k w.words)) region stands.layout own.number room.own)

  ready_then : has_room (pass_fed kit by p.machine n) ≡ true → IsReady l (record (taken_in (then n)) { machine = rested kit (pass_fed kit by p.machine n) })
  ready_then roomy =
      let own = own_then in
      let answering = own.answering in
      let room = own.room roomy in
      record {
        pass = own.number;
        acked = answering.phase;
        registers = all_held (registers_by (pass_fed kit by p.machine n) p.registers) (λ i. let good = own.registers i in good.0);
        used = room.used;
        region = own_region (let r = room_by (pass_fed kit by p.machine n) p.room in r.region) (let r = room_by (pass_fed kit by p.machine n) p.room in r.used) room.region;
        last = λ x at. own_there l (number_of (pass_after kit by s k w.words)) x stands.layout own.number (room.last x at);
        made = own.few;
      }

  -- at a command it has ended no retirement
  not_retired : (x : PassRecord R W E) (command : Command) (made : Bool) → EndSays l w.told.log x command ends.Retire made → ⊥
  not_retired x (commands.New dst len) made says = says
  not_retired x (commands.Get dst obj field) made says = says
  not_retired x (commands.Put obj field what) made says = says
  not_retired x (commands.Cas dst obj field expected value) made says = says
  not_retired x (commands.Copy dst src) made says = says
  not_retired x (commands.Drop dst) made says = says
  not_retired x commands.Poll made says = says

  roomy : (m : PassMachine R W E) (end : MachineEnd) → Outcome kit m end → (end ≡ ends.Retire → ⊥) → has_room m ≡ true
  roomy m end (Polls e m_is end_is) stays = rw m_is refl
  roomy m end (Makes e m_is end_is) stays = rw m_is refl
  roomy m end (Reads x e said m_is so told end_is) stays = rw m_is refl
  roomy m end (Writes x e said m_is so told end_is) stays = rw m_is refl
  roomy m end (Exchanges x e said m_is so told end_is) stays = rw m_is refl
  roomy m end (Retires m_is end_is) stays = absurd (stays end_is)

  -- its word fits a register
  abbrev Words : PassMachine R W E → Type 0
  Words m = (word : FieldWord) → word_of_end kit m ≡ Some word → IsFieldWord word

  new_fits : (e : NewEnd) → Words (machine.New (make.Ended e)) → EndFits (ends.New e)
  new_fits (new_end.Made birth at room) each = each (Link birth at) refl
  new_fits (new_end.Refused why) each = tt

  read_fits : (x : R) (e : Ending) (said : ReadEnd) → ending_of (kit.reads x) ≡ Some e → read_said e ≡ Some said → Words (machine.Read x) → EndFits (ends.Read said)
  read_fits x (Got word) said so told each = let same : read_end.Got word ≡ said = cc in subst (λ (y : ReadEnd). EndFits (ends.Read y)) same (each word (ap word_told so))
  read_fits x (Refused (refusal.NoField len)) said so told each = let same : read_end.NoField len ≡ said = cc in subst (λ (y : ReadEnd). EndFits (ends.Read y)) same tt
  read_fits x e said so told each = absurd cc

  exchange_fits : (x : E) (e : Ending) (said : ExchangeEnd) → ending_of (kit.exchanges x) ≡ Some e → exchange_said e ≡ Some said → Words (machine.Exchange x) → EndFits (ends.Exchange said)
  exchange_fits x (Differs word) said so told each = let same : exchange_end.Differs word ≡ said = cc in subst (λ (y : ExchangeEnd). EndFits (ends.Exchange y)) same (each word (ap word_told so))
  exchange_fits x Done said so told each = let same : exchange_end.Done ≡ said = cc in subst (λ (y : ExchangeEnd). EndFits (ends.Exchange y)) same tt
  exchange_fits x (Refused why) said so told each = let same : exchange_end.Refused why ≡ said = cc in subst (λ (y : ExchangeEnd). EndFits (ends.Exchange y)) same tt
  exchange_fits x e said so told each = absurd cc

  end_fits : (m : PassMachine R W E) (end : MachineEnd) → Outcome kit m end → Words m → EndFits end
  end_fits m end (Polls e m_is end_is) each = subst EndFits (sym end_is) tt
  end_fits m end (Makes e m_is end_is) each = subst EndFits (sym end_is) (new_fits e (subst Words m_is each))
  end_fits m end (Reads x e said m_is so told end_is) each = subst EndFits (sym end_is) (read_fits x e said so told (subst Words m_is each))
  end_fits m end (Writes x e said m_is so told end_is) each = subst EndFits (sym end_is) tt
  end_fits m end (Exchanges x e said m_is so told end_is) each = subst EndFits (sym end_is) (exchange_fits x e said so told (subst Words m_is each))
  end_fits m end (Retires m_is end_is) each = subst EndFits (sym end_is) tt

  -- what the record says of an end that is taken in
  abbrev pub Concludes : PassRecord R W E → Bool → Type 0
  Concludes x made = (end : MachineEnd) → ended_of kit x.machine ≡ Some end → EndFits end × ((command : Command) → command_at w party ≡ Some command → IsReady l (with_end x end))

  concludes_then : Concludes (then n) (is_some (change_by kit by p.machine (let view = p.view in view.pass) n))
  concludes_then end over =
      let m = pass_fed kit by p.machine n in
      let made = is_some (change_by kit by p.machine (let view = p.view in view.pass) n) in
      let out = outcome kit by laws m end over in (
        end_fits m end out word_fits,
        λ command at.
            let says_c : EndSaysAt l w.told.log (then n) (Some command) end made = subst (λ o. EndSaysAt l w.told.log (then n) o end made) at (says.ends end over) in
            let stays : end ≡ ends.Retire → ⊥ = λ same. not_retired (then n) command made (subst (λ (y : MachineEnd). EndSays l w.told.log (then n) command y made) same says_c) in
            subst (IsReady l) (sym (with_end_is kit by laws (then n) end out)) (ready_then (roomy m end out stays)),
      )

  pub concludes : Concludes (fed_at kit by w party) (decides_at kit by w party)
  concludes = both Concludes concludes_then
