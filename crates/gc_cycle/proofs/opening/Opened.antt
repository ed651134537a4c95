-- The world at the start is lawful.
use Rattle.std.proofs.Common.{◌≡◌, ℕ, zero, suc, ◌+◌, ◌-◌, ◌<◌, ◌≤◌, Bool, true, List, [], ◌∷◌, ◌++◌, length, get_or, map, drop, refl, sym, ap, ◌∙◌, subst, arith, inl, false}
use Rattle.std.specs.Prelude.{nat_lt, if◌then◌else◌}
use Rattle.std.proofs.lemmas.Bool.Decides.{nat_tests}
use Rattle.std.proofs.lemmas.List.{length-map}
use Rattle.std.proofs.lemmas.List.Elements.{All-nil}
use Rattle.heap_words.specs.Layouts.{Sizes, IsPass}
use Rattle.heap_history.specs.LogLaws.{IsLog-opening}
use Rattle.heap_history.specs.Histories.{pass_of}
use Rattle.heap_history.specs.declared.call.Call.{Call}
use Rattle.heap_history.specs.declared.call.Ended.{Ended}
use Rattle.handshakes.specs.Polls.{poll_of}
use Rattle.handshakes.specs.declared.poll.PollMachine.{PollMachine}
use Rattle.handshakes.specs.declared.poll.PollMachine.TheVariants as poll
use Rattle.heap_script.specs.declared.script.Command.{Command}
use Rattle.heap_script.specs.declared.script.Command.TheVariants as commands
use Rattle.heap_script.specs.declared.answer.Answer.{Answer}
use Rattle.heap_script.specs.Scripts.{Reading}
use Rattle.heap_script.specs.Commands.{commands_by, commands_at}
use Rattle.heap_script.specs.Tellings.{Thread}
use Rattle.heap_script.specs.TellingLaws.{length-agains_of}
use Rattle.heap_script.specs.TellsLaws.{tells_opening}
use Rattle.barriers.specs.declared.machine_end.Request.TheVariants as requests
use Rattle.barriers.specs.declared.pass.PassRecord.{PassRecord}
use Rattle.barriers.specs.declared.pass.PassMachine.TheVariants as machine
use Rattle.barriers.specs.Kits.{Kit, Stepping, Laws}
use Rattle.barriers.specs.Records.{started}
use Rattle.lawful_records.specs.LawfulRecords.{LawfulRecords}
use Rattle.lawful_records.specs.declared.records.Party.{Party}
use Rattle.lawful_records.specs.declared.records.Party.TheVariants as party
use Rattle.gc_cycle.specs.Worlds.{State, nobody, or_else, pass_at, opening_words, opening_registers, fresh_pass, opening_pass, opening_passes, opening_state}
use Rattle.gc_cycle.specs.Lawful.{Lawful, HasRoom, IsScript, IsThread, IsThreadOf, IsAt, known_in, records_in, thread_of}
use Rattle.gc_cycle.proofs.records.Stepped.{in_pass}
use Rattle.gc_cycle.proofs.opening.Starts.{known_as, collector_at_start, records_start}
use Rattle.gc_cycle.specs.declared.job_log.SealedAt.{SealedAt}
use Rattle.lawful_records.specs.declared.collector.CollectorMachine.TheVariants as collector
use Rattle.lawful_records.specs.Counts.{HasCounted}
use Rattle.lawful_records.specs.Jobs.{first_plan}
use Rattle.lawful_records.specs.Collectors.{collector_of, stage_at_start}
use Rattle.lawful_records.specs.declared.stage.Announcement.TheVariants.{Mark}

module _ {R W E M : Type 0} (kit : Kit R W E M) where
  -- ---- the passes, and their answers

  length-opening_passes : (l : Sizes) (first : ℕ) (lists : List (List Command)) → length (opening_passes kit l first lists) ≡ length lists
  length-opening_passes l first [] = refl
  length-opening_passes l first (commands ∷ later) = ap suc (length-opening_passes l (first + 1) later)

  opening_passes_at : (l : Sizes) (first : ℕ) (lists : List (List Command)) (i : ℕ) → i < length lists → get_or (opening_passes kit l first lists) i nobody ≡ opening_pass kit l (get_or lists i []) (first + i)
  opening_passes_at l first [] i h = absurd (omega arith)
  opening_passes_at l first (commands ∷ later) zero h = let same : first + 0 ≡ first = omega arith in ap (opening_pass kit l commands) (sym same)
  opening_passes_at l first (commands ∷ later) (suc i) h =
      let same : first + 1 + i ≡ first + suc i = omega arith in
      opening_passes_at l (first + 1) later i (omega (arith, h)) ∙ ap (opening_pass kit l (get_or later i [])) same

  -- nothing is answered yet
  opening_answers : (lists : List (List Command)) (i : ℕ) → get_or (map (λ (c : List Command). let none : List Answer = [] in none) lists) i [] ≡ []
  opening_answers [] i = refl
  opening_answers (commands ∷ later) zero = refl
  opening_answers (commands ∷ later) (suc i) = opening_answers later i

  -- ---- one thread

  -- at any command it may poll
  polls : (l : Sizes) (p : PassRecord R W E) (command : Command) (m : PollMachine) → IsAt kit l p command (machine.Poll m)
  polls l p (commands.New dst len) m = tt
  polls l p (commands.Get dst obj field) m = tt
  polls l p (commands.Put obj field what) m = tt
  polls l p (commands.Cas dst obj field expected value) m = tt
  polls l p (commands.Copy dst src) m = tt
  polls l p (commands.Drop dst) m = tt
  polls l p commands.Poll m = tt

  -- the pass in its first poll
  abbrev polling : Sizes → ℕ → PassRecord R W E
  polling l number = or_else (started kit l (fresh_pass l number) requests.Poll) (fresh_pass l number)

  -- a pass with a command begins so
  begins_with_poll : (l : Sizes) (number : ℕ) (c : Command) (cs : List Command) → opening_pass kit l (c ∷ cs) number ≡ polling l number
  begins_with_poll l number c cs =
      let some : nat_lt 0 (length (c ∷ cs)) ≡ true = grind (arith, nat_tests) in
      ap (λ (more : Bool). or_else (started kit l (fresh_pass l number) (if more then requests.Poll else requests.Retire)) (fresh_pass l number)) some

  -- nothing of it is answered, and it is before its first command, or before it retires where it has none
  opening_thread : (l : Sizes) (number quota : ℕ) (cs : List Command) → IsThreadOf kit l (record { number = number; quota = quota; commands = cs }) (opening_pass kit l cs number) [] []
  opening_thread l number quota [] = record {
    number = refl;
    tells = tells_opening (record { number = number; quota = quota; commands = [] });
    fit = omega arith;
    at = tt;
    going = refl;
  }
  opening_thread l number quota (c ∷ cs) =
      let t : Thread = record { number = number; quota = quota; commands = c ∷ cs } in
      subst (λ (p : PassRecord R W E). IsThreadOf kit l t p [] []) (sym (begins_with_poll l number c cs)) (record {
        number = refl;
        tells = tells_opening t;
        fit = omega arith;
        at = polls l (polling l number) c (poll.Phase (poll_of (let p : PassRecord R W E = fresh_pass l number in p.view) (opening_registers l)));
        going = refl;
      })

module _ {R W E M : Type 0} (kit : Kit R W E M) (s : Reading) (salt : ℕ) (script : IsScript s.layout (commands_by s.layout.passes s.lines)) where
  abbrev lists : List (List Command)
  lists = commands_by s.layout.passes s.lines

  -- ---- what is known of each pass

  none_seen : (n : ℕ) → drop n (let none : List Call = [] in none) ≡ []
  none_seen zero = refl
  none_seen (suc n) = refl

  -- no change is seen, and no call told
  passes_known : (ps : List (PassRecord R W E)) → map (λ p. party.Pass (known_as p)) ps ≡ map (in_pass (opening_state kit s salt)) ps
  passes_known [] = refl
  passes_known (p ∷ ps) =
      let here : Party R W E M = party.Pass (known_in (opening_state kit s salt) p) in
      let same : party.Pass (known_as p) ≡ here = ap (λ (seen : List Call). party.Pass (record { pass = p; seen = seen; mine = []; ended = [] })) (sym (none_seen (0 - p.seen))) in
      ap (λ (q : Party R W E M). q ∷ map (λ p. party.Pass (known_as p)) ps) same ∙ ap (λ (qs : List (Party R W E M)). here ∷ qs) (passes_known ps)

  -- ---- the threads

  has_room : HasRoom (opening_state kit s salt)
  has_room = record {
    threads = length-map lists _;
    answers = refl;
    log = refl;
    calls = omega arith;
    agains = length-agains_of lists;
  }

  pass_is : (p : ℕ) → IsPass s.layout p → pass_at (opening_state kit s salt) p ≡ opening_pass kit s.layout (commands_at lists p) p
  pass_is p is =
      let same : 1 + (p - 1) ≡ p = omega (arith, is.0) in
      opening_passes_at kit s.layout 1 lists (p - 1) (omega (arith, is.0, is.1, script.threads)) ∙ ap (opening_pass kit s.layout (commands_at lists p)) same

  thread_is : (p : ℕ) → IsPass s.layout p → IsThread kit (opening_state kit s salt) p
  thread_is p is =
      let t : Thread = thread_of (opening_state kit s salt) p in
      let here : IsThreadOf kit s.layout t (opening_pass kit s.layout (commands_at lists p) p) [] [] = opening_thread kit s.layout p s.layout.quota (commands_at lists p) in
      let at : IsThreadOf kit s.layout t (pass_at (opening_state kit s salt) p) [] [] = subst (λ (x : PassRecord R W E). IsThreadOf kit s.layout t x [] []) (sym (pass_is p is)) here in
      subst (λ (answers : List Answer). IsThreadOf kit s.layout t (pass_at (opening_state kit s salt) p) answers []) (sym (opening_answers kit lists (p - 1))) at

module _ {R W E M : Type 0} (kit : Kit R W E M) (by : Stepping R W E M) (laws : Laws kit by) (s : Reading) (salt : ℕ) where
  -- the records that are read off the world
  records_known : (let w : State R W E M = opening_state kit s salt in IsScript s.layout w.commands) → s.cycles ≤ 64 → LawfulRecords kit s.layout (opening_words s.layout) (records_in (opening_state kit s salt))
  records_known script few =
      let lists : List (List Command) = commands_by s.layout.passes s.lines in
      let collector : List (Party R W E M) = collector_at_start kit s.layout s.cycles salt ∷ [] in
      subst (λ (rs : List (Party R W E M)). LawfulRecords kit s.layout (opening_words s.layout) (rs ++ collector)) (passes_known kit s salt script (opening_passes kit s.layout 1 lists))
      (records_start kit by laws s.layout lists s.cycles salt script.layout script.threads few)

-- no job has ended
module _ {R W E M : Type 0} (kit : Kit R W E M) (l : Sizes) (cycles salt : ℕ) where
  counted_by : (more : Bool) → HasCounted {M = M} 1 (if more then collector.Announce (record (stage_at_start kit.kind l cycles salt) { cycle = 0 + 1; announcement = Mark }) else collector.Done (stage_at_start kit.kind l cycles salt)) 0
  counted_by true = refl
  counted_by false = tt

  counted_at_start : HasCounted 1 (collector_of kit (first_plan kit.kind l) l cycles salt) 0
  counted_at_start = counted_by (nat_lt 0 cycles)

-- The world at the start is lawful.
pub opening_is_lawful : {R W E M : Type 0} (kit : Kit R W E M) (by : Stepping R W E M) (laws : Laws kit by) (s : Reading) (salt : ℕ) → IsScript s.layout (let w : State R W E M = opening_state kit s salt in w.commands) → s.cycles ≤ 64 → Lawful kit (opening_state kit s salt)
opening_is_lawful kit by laws s salt script few = record {
  records = records_known kit by laws s salt script few;
  sealed = All-nil (λ (x : SealedAt). x.changes ≤ 0);
  ended = record { plan = refl; counted = counted_at_start kit s.layout s.cycles salt; fit = omega arith };
  script = script;
  passes = length-opening_passes kit s.layout 1 (commands_by s.layout.passes s.lines) ∙ script.threads;
  room = has_room kit s salt script;
  log = IsLog-opening;
  owners = All-nil (λ (e : Ended). (1 ≤ pass_of e.call) × (pass_of e.call ≤ s.layout.passes));
  threads = thread_is kit s salt script;
}
