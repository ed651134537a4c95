-- A world: some passes over any copier, which play the commands of a script, the collector, and the words on which they step.
use Rattle.std.specs.Prelude.{◌≢◌, ◌&&◌, not, ℕ, ◌+◌, ◌-◌, ◌<◌, ◌≤◌, ◌^◌, Bool, true, false, nat_lt, if◌then◌else◌, List, [], ◌∷◌, ◌++◌, length, replicate, Option, Some, None, slice_get, slice_set, slice_index_or}
use Rattle.std.specs.List.{list_all, find}
use Rattle.std.specs.Option.{ForSome, option_map}
use Rattle.heap_words.specs.Layouts.{Sizes, words_of, region_at, first_word}
use Rattle.heap_words.specs.declared.field_word.FieldWord.{FieldWord}
use Rattle.heap_words.specs.declared.field_word.FieldWord.TheVariants.{Num, Link}
use Rattle.heap_words.specs.FieldWords.{IsFieldWord}
use Rattle.object_headers.specs.Headers.{word_of_header}
use Rattle.space_reclaim.specs.declared.move_job.MoveJob.{MoveJob}
use Rattle.space_reclaim.specs.declared.region_word.RegionWord.TheVariants.{Filled}
use Rattle.space_reclaim.specs.RegionWords.{word_of_region}
use Rattle.call_steps.specs.declared.step.Step.{Step}
use Rattle.call_steps.specs.declared.step.Step.TheVariants.{Ended}
use Rattle.call_steps.specs.Steps.{applied, found_by, place_of, IsInside}
use Rattle.cycle_journal.specs.declared.journal.MarkFound.{MarkFound}
use Rattle.cycle_journal.specs.declared.journal.MarkRow.{MarkRow}
use Rattle.heap_history.specs.declared.call.Ended as calls
use Rattle.heap_history.specs.Logs.{changes_of}
use Rattle.heap_script.specs.declared.script.Command.{Command}
use Rattle.heap_script.specs.declared.answer.Answer.{Answer}
use Rattle.heap_script.specs.declared.answer.Answer.TheVariants as answers
use Rattle.heap_script.specs.Scripts.{Reading, CommandFits}
use Rattle.heap_script.specs.Commands.{commands_by, commands_at, before}
use Rattle.heap_script.specs.Tellings.{Telling}
use Rattle.heap_script.specs.TellingSteps.{with_refusal, with_answer, answers_at, room_at, opening_telling}
use Rattle.barriers.specs.declared.front.Front.{Front}
use Rattle.barriers.specs.declared.front.Front.TheVariants.{Stays, Now, SealedOrNow}
use Rattle.barriers.specs.declared.machine_end.MachineEnd.{MachineEnd}
use Rattle.barriers.specs.declared.machine_end.MachineEnd.TheVariants as ends
use Rattle.barriers.specs.declared.ends.MoveEnd.{MoveEnd}
use Rattle.barriers.specs.declared.ends.NewEnd.TheVariants as new_end
use Rattle.barriers.specs.declared.ends.ReadEnd.TheVariants as read_end
use Rattle.barriers.specs.declared.ends.ExchangeEnd.TheVariants as exchange_end
use Rattle.barriers.specs.declared.machine_end.Request.{Request}
use Rattle.barriers.specs.declared.machine_end.Request.TheVariants as requests
use Rattle.barriers.specs.declared.pass.PassRecord.{PassRecord}
use Rattle.barriers.specs.declared.pass.PassMachine.TheVariants as machine
use Rattle.barriers.specs.PassMachines as passes
use Rattle.barriers.specs.NewObjects.{new_header}
use Rattle.barriers.specs.Kits.{Kit, Stepping}
use Rattle.barriers.specs.Records.{IsReady, HasBirths, Fits, with_end, ended_of, started}
use Rattle.lawful_records.specs.declared.awaited.Awaited.{Awaited}
use Rattle.lawful_records.specs.declared.collector.CollectorMachine.{CollectorMachine}
use Rattle.lawful_records.specs.Collectors.{collector_of, none_awaited, awaits_behind, seals_of, move_ended}
use Rattle.lawful_records.specs.Collectors as collectors
use Rattle.gc_cycle.specs.declared.sequel.Face.{Face}
use Rattle.gc_cycle.specs.declared.sequel.InRegister.{InRegister}
use Rattle.gc_cycle.specs.declared.sequel.Sequel.{Sequel}
use Rattle.gc_cycle.specs.declared.sequel.Sequel.TheVariants as sequel
use Rattle.gc_cycle.specs.declared.job_log.SealedAt.{SealedAt}
use Rattle.gc_cycle.specs.declared.world.Turn.{Turn}
use Rattle.gc_cycle.specs.declared.world.Turn.TheVariants as turns
use Rattle.gc_cycle.specs.CycleEnds.{search_ended, finds_after, mark_after, with_mark, nowhere, unmarked_rows}
use Rattle.gc_cycle.specs.Sequels.{sequel_of}
use Rattle.space_reclaim.specs.Plans.{Planned}
use Rattle.lawful_records.specs.Jobs.{first_plan}
use Rattle.gc_cycle.specs.JobLogs.{sealed_after, moved_after}

-- the layout, the commands of each thread, the words, the records of the passes in rising number, the collector, what its first cycle moves
-- and how many changes there were when its awaits ended, the objects that it has sealed, the jobs that have ended and what with, where the
-- candidates of the running search were found, the mark of each cycle, and what there is to tell
pub record State (R W E M : Type 0) : Type 0 where
  pub layout : Sizes
  pub commands : List (List Command)
  pub words : List ℕ
  pub passes : List (PassRecord R W E)
  pub collector : CollectorMachine M
  pub plan : Planned
  pub awaited : Awaited
  pub sealed : List SealedAt
  pub moved : List (MoveJob × MoveEnd)
  pub finds : List MarkFound
  pub marks : List MarkRow
  pub told : Telling

-- ---- one party

-- a record that is nobody's
abbrev pub nobody : {R W E : Type 0} → PassRecord R W E
nobody = record {
  view = record { pass = 0; acked = 0; mark = 0 };
  registers = [];
  machine = machine.Idle;
  room = record { region = None; used = 0; last = None };
  made = 0;
  seen = 0;
}

-- the word fits the register
abbrev pub PutFits : Option InRegister → Type 0
PutFits None = Unit {0}
PutFits (Some put) = (put.register < 8) × IsFieldWord put.word

module _ {R W E M : Type 0} where
  -- parties count from 1
  abbrev pub pass_at : State R W E M → ℕ → PassRecord R W E
  pass_at w party = slice_index_or w.passes (party - 1) nobody

  -- how many of its commands are answered
  abbrev pub answered : State R W E M → ℕ → ℕ
  answered w party = length (answers_at w.told.answers party)

  -- the command that it is at, if one is left
  abbrev pub command_at : State R W E M → ℕ → Option Command
  command_at w party = slice_get (commands_at w.commands party) (answered w party)

  -- how many changes there are
  abbrev pub changes_now : State R W E M → ℕ
  changes_now w = length (changes_of w.told.log)

  -- the place of the command that a party is at, among the commands of all
  abbrev pub place_of_command : State R W E M → ℕ → ℕ
  place_of_command w party = before w.commands party + answered w party

  abbrev pub put_pass : State R W E M → ℕ → PassRecord R W E → State R W E M
  put_pass w party p = record w { passes = slice_set w.passes (party - 1) p }

  -- what a thread does after so many of its commands: the poll before the next one, or the retirement after the last
  abbrev pub next_request : State R W E M → ℕ → ℕ → Request
  next_request w party count = if nat_lt count (length (commands_at w.commands party)) then requests.Poll else requests.Retire

-- ---- what a script reads of a record, and puts in it

module _ {R W E : Type 0} where
  abbrev pub face_of : PassRecord R W E → Face
  face_of p = record { pass = (let view = p.view in view.pass); registers = p.registers; seen = p.seen }

  abbrev pub with_put : PassRecord R W E → Option InRegister → PassRecord R W E
  with_put p None = p
  with_put p (Some put) = record p { registers = slice_set p.registers put.register put.word }

  -- the record that has seen what an ended call has
  abbrev pub in_front : PassRecord R W E → Option calls.Ended → PassRecord R W E
  in_front p None = p
  in_front p (Some e) = record p { seen = e.front }

-- one more call has ended, if there is one
abbrev pub logged : List calls.Ended → Option calls.Ended → List calls.Ended
logged log None = log
logged log (Some e) = log ++ e ∷ []

abbrev pub or_else : {A : Type 0} → Option A → A → A
or_else None a = a
or_else (Some b) a = b

-- ---- what is sealed

-- the object has a field at this address
abbrev pub has_word_at : ℕ → SealedAt → Bool
has_word_at at s = nat_lt s.at at && nat_lt at (s.at + 1 + s.len)

-- how many changes there were at the seal of the object that has a field at this address, if it is sealed
abbrev pub seal_of : List SealedAt → ℕ → Option ℕ
seal_of sealed at = option_map (λ s. s.changes) (find (has_word_at at) sealed)

-- What was seen after a step with this front, where there are so many changes: nothing more; all of them; or those at the seal of the object
-- at which the step is, and where it is not sealed all.
abbrev pub seen_with : Front → Option ℕ → ℕ → ℕ → ℕ
seen_with Stays seal changes seen = seen
seen_with Now seal changes seen = changes
seen_with SealedOrNow seal changes seen = or_else seal changes

-- a machine that asks for this takes no step
abbrev pub is_ended : Step → Bool
is_ended Ended = true
is_ended step = false

-- ---- a turn of a thread

module _ {R W E M : Type 0} (kit : Kit R W E M) where
  -- the pass begins the machine that does what is asked, if the register leads to an object
  abbrev pub begun_at : State R W E M → ℕ → PassRecord R W E → Request → State R W E M
  begun_at w party p request = put_pass w party (or_else (started kit w.layout p request) p)

  -- the command is answered, and the pass goes on to its next one
  abbrev pub answered_with : State R W E M → ℕ → PassRecord R W E → Answer → Option calls.Ended → State R W E M
  answered_with w party p answer call = begun_at (record w {
    told = record w.told { answers = with_answer w.told.answers party answer; log = logged w.told.log call };
  }) party p (next_request w party (answered w party + 1))

  -- a command begins, or is answered as one that leads to no object
  abbrev pub access_begun : State R W E M → ℕ → PassRecord R W E → Option (PassRecord R W E) → State R W E M
  access_begun w party p None = answered_with w party p answers.NotLink None
  access_begun w party p (Some next) = put_pass w party next

  abbrev pub followed_at : State R W E M → ℕ → PassRecord R W E → Sequel → State R W E M
  followed_at w party p sequel.Nothing = put_pass w party p
  followed_at w party p (sequel.Starts request) = access_begun w party p (started kit w.layout p request)
  followed_at w party p (sequel.Answered put answer ended) = answered_with w party (in_front (with_put p put) ended) answer ended
  followed_at w party p (sequel.Retries why) = begun_at (record w {
    told = record w.told { agains = with_refusal w.told.agains (place_of_command w party) why };
  }) party p requests.Poll

  -- at the command that it is at, and after the last one
  abbrev pub concluded_by : State R W E M → ℕ → PassRecord R W E → MachineEnd → Option Command → State R W E M
  concluded_by w party p end None = put_pass w party p
  concluded_by w party p end (Some command) = followed_at w party p (sequel_of (changes_now w) command (face_of p) end)

  -- its machine has ended so
  abbrev pub concluded_at : State R W E M → ℕ → MachineEnd → State R W E M
  concluded_at w party end = concluded_by w party (with_end (pass_at w party) end) end (command_at w party)

  abbrev pub settled_by : State R W E M → ℕ → Option MachineEnd → State R W E M
  settled_by w party None = w
  settled_by w party (Some end) = concluded_at w party end

  -- what follows from its step without a further step
  abbrev pub settled_at : State R W E M → ℕ → State R W E M
  settled_at w party = let p = pass_at w party in settled_by w party (ended_of kit p.machine)

module _ {R W E M : Type 0} (kit : Kit R W E M) (by : Stepping R W E M) where
  abbrev pub asks_at : State R W E M → ℕ → Step
  asks_at w party = let p = pass_at w party in passes.asks_of by.read_asks by.write_asks by.exchange_asks p.machine

  -- the word that its step finds
  abbrev pub found_at : State R W E M → ℕ → ℕ
  found_at w party = found_by (asks_at w party) w.words

  -- how many changes there were at the seal of the object at which its step is, if that is sealed
  abbrev pub seal_at : State R W E M → ℕ → Option ℕ
  seal_at w party = seal_of w.sealed (place_of (asks_at w party))

  -- its record when its machine was fed that word: where its step is a look, the pass has seen all changes so far, or those at the seal
  abbrev pub fed_at : State R W E M → ℕ → PassRecord R W E
  fed_at w party = let p = pass_at w party in record p {
    machine = passes.fed_of by.read_fed by.write_fed by.exchange_fed p.machine (found_at w party);
    seen = seen_with (passes.front_of by.read_front by.write_front by.exchange_front p.machine (found_at w party)) (seal_at w party) (changes_now w) p.seen;
  }

  -- the world after its step alone
  abbrev pub stepped : State R W E M → ℕ → State R W E M
  stepped w party = put_pass (record w { words = applied (asks_at w party) w.words }) party (fed_at w party)

  abbrev pub taken : State R W E M → ℕ → State R W E M
  taken w party = settled_at kit (stepped w party) party

  -- ---- all parties

  -- the step that the collector asks for
  abbrev pub collector_asks : State R W E M → Step
  collector_asks w = collectors.asks_of by.move_asks w.collector

  -- the word that the collector's step finds
  abbrev pub collector_found : State R W E M → ℕ
  collector_found w = found_by (collector_asks w) w.words

  -- the world after the collector's step
  abbrev pub collected : State R W E M → State R W E M
  collected w = let next = collectors.fed_of kit by.move_fed w.plan w.collector (collector_found w) in let ended = search_ended w.collector (collector_found w) in record w {
    words = applied (collector_asks w) w.words;
    collector = next;
    awaited = awaits_behind w.collector next (changes_now w) w.awaited;
    sealed = sealed_after (seals_of w.collector (collector_asks w) (collector_found w)) (changes_now w) w.sealed;
    moved = moved_after (move_ended kit by.move_fed w.collector (collector_found w)) w.moved;
    finds = finds_after ended w.finds;
    marks = with_mark (mark_after ended (finds_after ended w.finds)) w.marks;
  }

  -- the collector is the party after the threads
  abbrev pub is_collector : State R W E M → ℕ → Bool
  is_collector w party = nat_lt w.layout.passes party

  -- the step of a party's next turn
  abbrev pub next_of : State R W E M → ℕ → Step
  next_of w party = if is_collector w party then collector_asks w else asks_at w party

  -- whether a party's turn takes a step
  abbrev pub can_step : State R W E M → ℕ → Bool
  can_step w party = not (is_ended (next_of w party))

  -- the world after a turn of a party: one that waits or has ended takes no step
  abbrev pub turn_of : State R W E M → ℕ → State R W E M
  turn_of w party = if can_step w party then (if is_collector w party then collected w else taken w party) else w

  -- every thread has ended
  abbrev pub all_retired : State R W E M → Bool
  all_retired w = list_all (λ p. is_ended (passes.asks_of by.read_asks by.write_asks by.exchange_asks p.machine)) w.passes

  -- What the turn of a party says of it where it takes no step: the collector waits for the threads, and has ended when all have.
  abbrev pub rest_said : State R W E M → ℕ → Turn
  rest_said w party = if is_collector w party && not (all_retired w) then turns.Idle else turns.Ended

  abbrev pub turn_said : State R W E M → ℕ → Turn
  turn_said w party = if can_step w party then turns.Took (next_of w party) else rest_said w party

  -- turns in this order, and how many of them take a step
  abbrev pub played : State R W E M → List ℕ → State R W E M
  played w [] = w
  played w (party ∷ rest) = played (turn_of w party) rest

  abbrev pub steps_in : State R W E M → List ℕ → ℕ
  steps_in w [] = 0
  steps_in w (party ∷ rest) = (if can_step w party then 1 else 0) + steps_in (turn_of w party) rest

-- the threads and the collector
abbrev pub IsParty : Sizes → ℕ → Type 0
IsParty l party = (1 ≤ party) × (party ≤ l.passes + 1)

-- ---- the start

-- All words are 0, but region 0 is Filled and has the object that is there from the start: eight fields, birth number 1.
abbrev pub opening_words : Sizes → List ℕ
opening_words l = slice_set (slice_set (replicate (words_of l) 0) (region_at l 0) (word_of_region Filled)) (first_word l 0) (word_of_header (new_header 8 1))

-- register h leads to that object
abbrev pub opening_registers : Sizes → List FieldWord
opening_registers l = replicate 7 (Num 0) ++ Link 1 (first_word l 0) ∷ []

-- a pass before its first machine begins
abbrev pub fresh_pass : {R W E : Type 0} → Sizes → ℕ → PassRecord R W E
fresh_pass l party = record {
  view = record { pass = party; acked = 0; mark = 0 };
  registers = opening_registers l;
  machine = machine.Idle;
  room = record { region = None; used = 0; last = None };
  made = 0;
  seen = 0;
}

module _ {R W E M : Type 0} (kit : Kit R W E M) where
  -- before its first command, or before it retires
  abbrev pub opening_pass : Sizes → List Command → ℕ → PassRecord R W E
  opening_pass l commands party = or_else (started kit l (fresh_pass l party) (if nat_lt 0 (length commands) then requests.Poll else requests.Retire)) (fresh_pass l party)

  -- the passes from this one on, of which these are the commands
  abbrev pub opening_passes : Sizes → ℕ → List (List Command) → List (PassRecord R W E)
  opening_passes l party [] = []
  opening_passes l party (commands ∷ later) = opening_pass l commands party ∷ opening_passes l (party + 1) later

  -- a salt draws the marks
  abbrev pub opening_state : Reading → ℕ → State R W E M
  opening_state s salt = record {
    layout = s.layout;
    commands = commands_by s.layout.passes s.lines;
    words = opening_words s.layout;
    passes = opening_passes s.layout 1 (commands_by s.layout.passes s.lines);
    collector = collector_of kit (first_plan kit.kind s.layout) s.layout s.cycles salt;
    plan = first_plan kit.kind s.layout;
    awaited = none_awaited;
    sealed = [];
    moved = [];
    finds = nowhere;
    marks = unmarked_rows s.cycles;
    told = opening_telling (commands_by s.layout.passes s.lines);
  }

-- ---- what the code of a turn relies on

-- a word that a machine has ended with, and that may go to a register, fits it
abbrev pub EndFits : MachineEnd → Type 0
EndFits (ends.New (new_end.Made birth at room)) = IsFieldWord (Link birth at)
EndFits (ends.Read (read_end.Got word)) = IsFieldWord word
EndFits (ends.Exchange (exchange_end.Differs word)) = IsFieldWord word
EndFits end = Unit {0}

-- what comes of an end can be done: the machine begins, and the word fits the register
abbrev pub SequelFits : Sequel → Type 0
SequelFits (sequel.Starts request) = Fits request
SequelFits (sequel.Answered put answer ended) = PutFits put
SequelFits s = Unit {0}

module _ {R W E M : Type 0} where
  -- there are such a thread, and answers of it
  pub record IsThere (w : State R W E M) (party : ℕ) : Type 0 where
    pub least : 1 ≤ party
    pub passes : party ≤ length w.passes
    pub commands : party ≤ length w.commands
    pub answers : party ≤ length w.told.answers

  -- and room for what it will tell
  pub record CanTell (w : State R W E M) (party : ℕ) : Type 0 where
    pub there : IsThere w party
    pub room : answered w party < room_at w.told.rooms party
    pub log : length w.told.log < w.told.log_room
    pub agains : place_of_command w party < length w.told.agains
    pub few : place_of_command w party < 2 ^ 32
    pub changes : changes_now w < 2 ^ 31

  -- what comes of a record whose machine has ended can be done
  pub record CanFollow (w : State R W E M) (party : ℕ) (p : PassRecord R W E) (command : Command) : Type 0 where
    pub tell : CanTell w party
    pub ready : IsReady w.layout p
    pub fits : CommandFits command

  pub record CanConclude (w : State R W E M) (party : ℕ) (end : MachineEnd) : Type 0 where
    pub there : IsThere w party
    pub births : HasBirths (let p = pass_at w party in p.made) end
    pub word : EndFits end
    pub follow : ForSome (command_at w party) (λ c. CanFollow w party (with_end (pass_at w party) end) c)

module _ {R W E M : Type 0} (kit : Kit R W E M) where
  pub record CanSettle (w : State R W E M) (party : ℕ) : Type 0 where
    pub there : IsThere w party
    pub conclude : ForSome (let p = pass_at w party in ended_of kit p.machine) (λ end. CanConclude w party end)

module _ {R W E M : Type 0} (kit : Kit R W E M) (by : Stepping R W E M) where
  -- the thread's machine can take its next step
  pub record CanTake (w : State R W E M) (party : ℕ) : Type 0 where
    pub inside : IsInside (length w.words) (asks_at kit by w party)
    pub goes_on : asks_at kit by w party ≢ Ended
    pub settle : CanSettle kit (stepped kit by w party) party
