-- What holds of a world between any two steps, whoever takes them: its words and records are lawful, and each thread is where its script is.
use Rattle.std.specs.Prelude.{◌≡◌, ℕ, ◌+◌, ◌-◌, ◌≤◌, ◌⊎◌, List, [], ◌∷◌, ◌++◌, length, map, reverse, drop, sum_by, ◌==◌, Option, Some, None, slice_get}
use Rattle.std.specs.List.{All, filter}
use Rattle.std.specs.Option.{ForSome}
use Rattle.heap_words.specs.Layouts.{Sizes, IsLayout, IsPass}
use Rattle.heap_history.specs.Histories.{pass_of}
use Rattle.heap_history.specs.Logs.{changes_of, of_pass, IsLog, AreOfPasses}
use Rattle.heap_history.specs.declared.call.Call.{Call}
use Rattle.heap_history.specs.declared.call.Ended.{Ended}
use Rattle.heap_words.specs.declared.field_word.FieldWord.{FieldWord}
use Rattle.heap_words.specs.declared.field_word.FieldWord.TheVariants.{Num, Link}
use Rattle.heap_script.specs.declared.answer.Answer.{Answer}
use Rattle.heap_script.specs.declared.script.Command.{Command}
use Rattle.heap_script.specs.declared.script.Command.TheVariants as commands
use Rattle.heap_script.specs.Scripts.{CommandFits}
use Rattle.heap_script.specs.Commands.{commands_at, total}
use Rattle.heap_script.specs.Tellings.{Tells, Thread, Standing}
use Rattle.heap_script.specs.TellingSteps.{answers_at}
use Rattle.barriers.specs.declared.new_object.Placement.{Placement}
use Rattle.barriers.specs.declared.new_object.NewMachine.{NewMachine}
use Rattle.barriers.specs.declared.new_object.NewMachine.TheVariants as make
use Rattle.barriers.specs.declared.pass.PassRecord.{PassRecord}
use Rattle.barriers.specs.declared.pass.PassMachine.{PassMachine}
use Rattle.barriers.specs.declared.pass.PassMachine.TheVariants as machine
use Rattle.barriers.specs.declared.room.Room.{Room}
use Rattle.handshakes.specs.Polling.{held_in}
use Rattle.barriers.specs.Records.{ended_of}
use Rattle.barriers.specs.NewObjects.{plan_of, next_birth, new_header}
use Rattle.barriers.specs.Values.{value_of}
use Rattle.barriers.specs.Knowns.{Known, spot_of, task_of, call_of}
use Rattle.barriers.specs.Kits.{Kit, ending_of}
use Rattle.object_headers.specs.Headers.{word_of_header}
use Rattle.lawful_records.specs.declared.records.CollectorKnown.{CollectorKnown}
use Rattle.lawful_records.specs.declared.records.PassKnown.{PassKnown}
use Rattle.lawful_records.specs.declared.records.Party.{Party}
use Rattle.lawful_records.specs.declared.records.Party.TheVariants as party
use Rattle.lawful_records.specs.declared.records.Sealed.{Sealed}
use Rattle.lawful_records.specs.LawfulRecords.{LawfulRecords}
use Rattle.gc_cycle.specs.declared.job_log.SealedAt.{SealedAt}
use Rattle.gc_cycle.specs.Sequels.{read_call, write_call, exchange_call}
use Rattle.gc_cycle.specs.Worlds.{State, pass_at, changes_now, face_of}
use Rattle.lawful_records.specs.Jobs.{first_plan}
use Rattle.lawful_records.specs.Counts.{HasCounted}

-- ---- the records, read off a world

-- the changes so far, the newest first
abbrev pub history_in : {R W E M : Type 0} → State R W E M → List Call
history_in w = reverse (changes_of w.told.log)

-- those of them that one who has seen so many has seen
abbrev pub seen_of : List Call → ℕ → List Call
seen_of h count = drop (length h - count) h

-- the objects that are sealed, each with the changes at its seal
abbrev pub seals_in : List SealedAt → List Call → List Sealed
seals_in sealed h = map (λ s. record { at = s.at; len = s.len; changes = seen_of h s.changes }) sealed

module _ {R W E M : Type 0} where
  -- what is known of a pass: what it has seen, its own changes, and the calls that it has ended, in what was told
  abbrev pub known_in : State R W E M → PassRecord R W E → PassKnown R W E
  known_in w p = record {
    pass = p;
    seen = seen_of (history_in w) p.seen;
    mine = filter (λ c. pass_of c == (let view = p.view in view.pass)) (history_in w);
    ended = of_pass (let view = p.view in view.pass) w.told.log;
  }

  -- and of the collector
  abbrev pub collector_in : State R W E M → CollectorKnown M
  collector_in w = record { machine = w.collector; plan = w.plan; awaited = w.awaited; sealed = seals_in w.sealed (history_in w) }

  abbrev pub records_in : State R W E M → List (Party R W E M)
  records_in w = map (λ p. party.Pass (known_in w p)) w.passes ++ party.Collector (collector_in w) ∷ []

-- ---- a script

-- Scripts for which a world is built: each thread's commands are in their ranges, and there are not too many.
pub record IsScript (l : Sizes) (cs : List (List Command)) : Type 0 where
  pub layout : IsLayout l
  pub threads : length cs ≡ l.passes
  pub commands : (pass : ℕ) → IsPass l pass → All CommandFits (commands_at cs pass)
  pub few : total cs ≤ 65536

-- there is room for an answer to each command, for a call for each, and a count of refused tries for each
pub record HasRoom {R W E M : Type 0} (w : State R W E M) : Type 0 where
  pub threads : length w.told.answers ≡ length w.commands
  pub answers : w.told.rooms ≡ map length w.commands
  pub log : w.told.log_room ≡ total w.commands
  pub calls : length w.told.log ≤ sum_by length w.told.answers
  pub agains : length w.told.agains ≡ total w.commands

-- ---- where a thread is in its script

-- the next object of a pass, of so many fields
abbrev pub IsNextObject : ℕ → ℕ → ℕ → Placement → Type 0
IsNextObject pass made len placement = (placement.birth ≡ next_birth pass made) × (placement.header ≡ word_of_header (new_header len (next_birth pass made)))

-- an object of so many fields is made: the pass claims a region for it, fills the one that it leaves, or stores the object's header
abbrev pub IsMakingOf : Sizes → ℕ → Room → ℕ → ℕ → NewMachine → Type 0
IsMakingOf l pass room made len (make.Look plan round) = plan ≡ plan_of l pass made len room.region
IsMakingOf l pass room made len (make.Claim plan round) = plan ≡ plan_of l pass made len room.region
IsMakingOf l pass room made len (make.Fill at placement) = IsNextObject pass made len placement
IsMakingOf l pass room made len (make.Header placement) = IsNextObject pass made len placement
IsMakingOf l pass room made len (make.Ended end) = ⊥

-- the call that an access is
abbrev pub access_of : ℕ → Known → Call
access_of pass k = call_of pass (spot_of k) (task_of k)

-- it leads to an object
abbrev pub IsLink : FieldWord → Type 0
IsLink (Num n) = ⊥
IsLink (Link birth at) = Unit {0}

-- how many objects a pass has made, how many changes it has seen, and what its registers hold
abbrev pub standing_of : {R W E : Type 0} → PassRecord R W E → Standing
standing_of p = record { made = p.made; seen = p.seen; registers = map value_of p.registers }

-- a thread of the script
abbrev pub thread_of : {R W E M : Type 0} → State R W E M → ℕ → Thread
thread_of w party = record { number = party; quota = w.layout.quota; commands = commands_at w.commands party }

module _ {R W E M : Type 0} (kit : Kit R W E M) where
  -- Its machine does what its command asks for: the call that it is in is the command's, of the object to which the register leads, and not over.
  abbrev pub IsAt : Sizes → PassRecord R W E → Command → PassMachine R W E → Type 0
  IsAt l p (commands.New dst len) (machine.New m) = IsMakingOf l (let view = p.view in view.pass) p.room p.made len m
  IsAt l p (commands.Get dst obj field) (machine.Read m) = IsLink (held_in p.registers obj) × (access_of (let view = p.view in view.pass) (kit.reads m) ≡ read_call (face_of p) obj field) × (ending_of (kit.reads m) ≡ None)
  IsAt l p (commands.Put obj field what) (machine.Write m) = IsLink (held_in p.registers obj) × (access_of (let view = p.view in view.pass) (kit.writes m) ≡ write_call (face_of p) obj field what) × (ending_of (kit.writes m) ≡ None)
  IsAt l p (commands.Cas dst obj field expected value) (machine.Exchange m) = IsLink (held_in p.registers obj) × (access_of (let view = p.view in view.pass) (kit.exchanges m) ≡ exchange_call (face_of p) obj field expected value) × (ending_of (kit.exchanges m) ≡ None)
  IsAt l p command (machine.Poll m) = Unit {0}
  IsAt l p command m = ⊥

  -- after its last command it retires, or has
  abbrev pub IsAfter : PassMachine R W E → Type 0
  IsAfter (machine.Retire m) = Unit {0}
  IsAfter machine.Retired = Unit {0}
  IsAfter m = ⊥

  abbrev pub IsAtCommand : Sizes → PassRecord R W E → Option Command → Type 0
  IsAtCommand l p None = IsAfter p.machine
  IsAtCommand l p (Some command) = IsAt l p command p.machine

  -- A thread: its answers so far are a run of its commands, and its pass is at the next one. No machine that has ended is left standing.
  pub record IsThreadOf (l : Sizes) (t : Thread) (p : PassRecord R W E) (answers : List Answer) (log : List Ended) : Type 0 where
    pub number : (let view = p.view in view.pass) ≡ t.number
    pub tells : Tells t (standing_of p) answers log
    pub fit : length answers ≤ length t.commands
    pub at : IsAtCommand l p (slice_get t.commands (length answers))
    pub going : ended_of kit p.machine ≡ None

  abbrev pub IsThread : State R W E M → ℕ → Type 0
  IsThread w party = IsThreadOf w.layout (thread_of w party) (pass_at w party) (answers_at w.told.answers party) w.told.log

  -- what is planned is the plan of the first cycle, of which no more jobs have ended than have begun
  pub record HasEnded (w : State R W E M) : Type 0 where
    pub plan : w.plan ≡ first_plan kit.kind w.layout
    pub counted : HasCounted 1 w.collector (length w.moved)
    pub fit : length w.moved ≤ (let plan = w.plan in length plan.jobs)

  -- Words and records are lawful, and what is sealed was so after changes that there are; the jobs of the plan end one after another; the
  -- script is one that is played; what was told is a log of the passes' calls; and each thread is where it is.
  pub record Lawful (w : State R W E M) : Type 0 where
    pub records : LawfulRecords kit w.layout w.words (records_in w)
    pub sealed : All (λ s. s.changes ≤ changes_now w) w.sealed
    pub ended : HasEnded w
    pub script : IsScript w.layout w.commands
    pub passes : length w.passes ≡ w.layout.passes
    pub room : HasRoom w
    pub log : IsLog w.told.log
    pub owners : AreOfPasses w.layout.passes w.told.log
    pub threads : (party : ℕ) → IsPass w.layout party → IsThread w party
