-- What holds of the words and of the records of all parties between any two steps, over any copier. No command and no answer is in it.
use Rattle.std.specs.Prelude.{◌≡◌, ◌≢◌, ℕ, ◌+◌, ◌*◌, ◌<◌, ◌≤◌, true, List, [], ◌∷◌, ◌++◌, length, map, reverse, sum_by, ◌==◌, if◌then◌else◌, Option, None, IsSome}
use Rattle.std.specs.List.{All, Contains, filter}
use Rattle.heap_words.specs.Layouts.{Sizes, IsLayout, IsPass, words_of}
use Rattle.heap_words.specs.FieldWords.{IsFieldWord}
use Rattle.heap_words.specs.declared.field_word.FieldWord.{FieldWord}
use Rattle.call_steps.specs.StepLaws.{reading}
use Rattle.heap_history.specs.FixedHeaps.{opening}
use Rattle.heap_history.specs.Histories.{IsHistory, Follows, pass_of}
use Rattle.heap_history.specs.NewestFirst.{len_at, Before}
use Rattle.heap_history.specs.declared.call.Call.{Call}
use Rattle.heap_history.specs.declared.call.Ended.{Ended}
use Rattle.handshakes.specs.Handshakes.{Announced, Answers, AnswersWith}
use Rattle.handshakes.specs.PhaseWords.{retired_word, phase_word_of}
use Rattle.handshakes.specs.Polling.{Polled, IsPolling, held_in}
use Rattle.handshakes.specs.Retiring.{IsRetiring, stored_by}
use Rattle.handshakes.specs.declared.poll.PollMachine.{PollMachine}
use Rattle.handshakes.specs.declared.poll.PollMachine.TheVariants as poll
use Rattle.handshakes.specs.declared.retire.RetireMachine.{RetireMachine}
use Rattle.handshakes.specs.declared.retire.RetireMachine.TheVariants as retire
use Rattle.barriers.specs.declared.pass.PassMachine.{PassMachine}
use Rattle.barriers.specs.declared.pass.PassMachine.TheVariants as machine
use Rattle.barriers.specs.States.{Absent, IsLive, On}
use Rattle.barriers.specs.Spaces.{Space, Holds}
use Rattle.barriers.specs.Says.{Notices, Says}
use Rattle.barriers.specs.Rows.{Rows}
use Rattle.barriers.specs.MoveWords.{IsSpare}
use Rattle.barriers.specs.Values.{value_of}
use Rattle.barriers.specs.Cycles.{Cycle, IsMoving, Handshaken}
use Rattle.barriers.specs.Knowns.{Task, Reads, Writes, Exchanges, task_of}
use Rattle.barriers.specs.Objects.{AreObjects, IsSide, IsCall, HasLens}
use Rattle.barriers.specs.Kits.{Kit}
use Rattle.lawful_records.specs.declared.collector.CollectorMachine.{CollectorMachine}
use Rattle.lawful_records.specs.Handshakes.{IsCollector}
use Rattle.lawful_records.specs.Collectors.{drawn_of, AreEarlier}
use Rattle.lawful_records.specs.Cycling.{announced_by, cycle_of}
use Rattle.lawful_records.specs.Counts.{HasCounted, unsealed_in}
use Rattle.lawful_records.specs.Fixing.{AreFixed}
use Rattle.lawful_records.specs.JobStands.{IsPlan, stand_of, IsMovedBy, StandsAt}
use Rattle.lawful_records.specs.Searches.{SearchStands}
use Rattle.lawful_records.specs.Making.{IsRoom, IsMaking, has_room, lens_of}
use Rattle.lawful_records.specs.Records.{registers_by, room_by, made_by as made_count, number_of, acked_of, mark_of, side_of, seen_of}
use Rattle.lawful_records.specs.Beginnings.{call_ended}
use Rattle.lawful_records.specs.Meetings.{HasMet}
use Rattle.lawful_records.specs.declared.records.PassKnown.{PassKnown}
use Rattle.lawful_records.specs.declared.records.CollectorKnown.{CollectorKnown}
use Rattle.lawful_records.specs.declared.records.Sealed.{Sealed}
use Rattle.lawful_records.specs.Turns.{seal_in}
use Rattle.lawful_records.specs.declared.records.Party.{Party}
use Rattle.lawful_records.specs.declared.records.Party.TheVariants as party

-- ---- words of a pass

-- a field word whose link holds
abbrev pub IsGood : Space → FieldWord → Type 0
IsGood s word = IsFieldWord word × On (Holds s) word

-- the second is the first with its link going to where the object is now
pub record IsMoved (s : Space) (before now : FieldWord) : Type 0 where
  pub value : value_of now ≡ value_of before
  pub good : IsGood s now

-- each register has what it had, by value
abbrev pub AreSame : List FieldWord → List FieldWord → Type 0
AreSame before now = (length now ≡ length before) × ((i : ℕ) → value_of (held_in now i) ≡ value_of (held_in before i))

-- so many root words of a pass hold what its registers hold
abbrev pub AreStored : Notices → ℕ → List FieldWord → ℕ → Type 0
AreStored n pass registers count = (i : ℕ) → i < count → n.root pass i ≡ held_in registers i

-- the root words of a pass that has retired are of the values of its registers, and hold; the collector may have fixed them
abbrev pub AreRooted : Space → Notices → ℕ → List FieldWord → Type 0
AreRooted s n pass registers = (i : ℕ) → i < 8 → IsMoved s (held_in registers i) (n.root pass i)

-- ---- what each machine of a pass stands on

abbrev pub IsWriting : Task → Type 0
IsWriting (Writes word) = Unit {0}
IsWriting task = ⊥

abbrev pub IsExchanging : Task → Type 0
IsExchanging (Exchanges expected word) = Unit {0}
IsExchanging task = ⊥

-- a poll knows what is announced, until it has ended
abbrev pub IsPollIn : Space → Polled → PollMachine → Type 0
IsPollIn s x (poll.Ended end) = (let view = end.view in view.pass ≡ (let own = x.view in own.pass)) × AreSame x.registers end.registers
IsPollIn s x m = IsPolling (IsMoved s) x m

abbrev pub IsRetireIn : Sizes → Space → Notices → ℕ → List FieldWord → Option ℕ → RetireMachine → Type 0
IsRetireIn l s n pass registers region retire.Ended = AreRooted s n pass registers
IsRetireIn l s n pass registers region m =
    IsRetiring l (record { pass = pass; registers = registers; region = region }) m × AreStored n pass registers (stored_by m)

-- how many changes the last of some ended calls had seen
abbrev pub last_front : ℕ → List Ended → ℕ
last_front n [] = n
last_front n (e ∷ es) = last_front e.front es

-- ---- what is sealed

-- the object is there
pub record IsThereSealed (s : Space) (one : Sealed) : Type 0 where
  pub live : IsLive (s.state one.at)
  pub len : s.len one.at ≡ one.len

-- by these the address of a field tells the seal of its object
pub record AreSealed (s : Space) (sealed : List Sealed) : Type 0 where
  pub there : All (IsThereSealed s) sealed
  pub seals : (a f : ℕ) → IsLive (s.state a) → f < s.len a → seal_in sealed (a + 1 + f) ≡ s.seal a

module _ {R W E M : Type 0} (kit : Kit R W E M) where
  -- a pass has acknowledged Retired exactly where its retirement has ended
  abbrev pub IsAcked : PassMachine R W E → ℕ → Type 0
  IsAcked machine.Retired acked = acked ≡ retired_word
  IsAcked (machine.Retire retire.Ended) acked = acked ≡ retired_word
  IsAcked m acked = acked ≢ retired_word

  abbrev pub IsMachine : Sizes → Cycle → Space → Notices → PassKnown R W E → PassMachine R W E → Type 0
  IsMachine l c s n p machine.Idle = Unit {0}
  IsMachine l c s n p machine.Retired = AreRooted s n (number_of p) p.pass.registers
  IsMachine l c s n p (machine.Poll m) = IsPollIn s (record { view = p.pass.view; registers = p.pass.registers; announced = n.phase; mark = n.mark }) m
  IsMachine l c s n p (machine.New m) = IsMaking l s (number_of p) p.pass.room p.pass.made (lens_of p.mine) m
  IsMachine l c s n p (machine.Read m) = IsCall kit.protocol c s (side_of kit p) (kit.reads m) × kit.ReadsFor p.pass.view m × (task_of (kit.reads m) ≡ Reads)
  IsMachine l c s n p (machine.Write m) = IsCall kit.protocol c s (side_of kit p) (kit.writes m) × kit.WritesFor p.pass.view m × IsWriting (task_of (kit.writes m))
  IsMachine l c s n p (machine.Exchange m) = IsCall kit.protocol c s (side_of kit p) (kit.exchanges m) × kit.ExchangesFor p.pass.view m × IsExchanging (task_of (kit.exchanges m))
  IsMachine l c s n p (machine.Retire m) = IsRetireIn l s n (number_of p) p.pass.registers (let room = p.pass.room in room.region) m

  -- ---- a pass

  -- no object that it has not made yet is there
  abbrev pub IsUnborn : List Call → ℕ → ℕ → Type 0
  IsUnborn h pass made = (b : ℕ) → pass * 524288 + made < b → b ≤ pass * 524288 + 262144 → len_at h b ≡ None

  -- what it knows of the handshake
  pub record IsAnswering (a : Announced) (n : Notices) (p : PassKnown R W E) : Type 0 where
    pub acked : n.ack (number_of p) ≡ acked_of p
    pub answers : Answers a (number_of p) (acked_of p)
    pub marked : AnswersWith a (number_of p) (acked_of p) (mark_of p)
    pub phase : IsSome (phase_word_of (acked_of p))
    pub retired : IsAcked p.pass.machine (acked_of p)

  -- what it has told: its changes are those of the history with its number, and its ended calls are legal in it
  pub record HasTold (h : List Call) (p : PassKnown R W E) : Type 0 where
    pub mine : p.mine ≡ filter (λ c. pass_of c == number_of p) h
    pub ended : Follows (reverse h) (number_of p) 0 (p.ended ++ call_ended kit p)
    pub count : (let pass = p.pass in pass.seen) ≡ length p.seen
    pub within : length p.seen ≤ length h
    pub reached : last_front 0 (p.ended ++ call_ended kit p) ≤ length p.seen

  pub record IsPassRecord (l : Sizes) (a : Announced) (c : Cycle) (s : Space) (n : Notices) (p : PassKnown R W E) : Type 0 where
    pub number : IsPass l (number_of p)
    pub side : IsSide kit.protocol c s (side_of kit p)
    pub answering : IsAnswering a n p
    pub shaken : acked_of p ≢ retired_word → Handshaken c (side_of kit p)
    pub eight : length (registers_by p.pass.machine p.pass.registers) ≡ 8
    pub registers : (i : ℕ) → IsGood s (held_in (registers_by p.pass.machine p.pass.registers) i)
    pub room : has_room p.pass.machine ≡ true → IsRoom l s (number_of p) (room_by p.pass.machine p.pass.room) (lens_of p.mine)
    pub few : made_count p.pass.machine p.pass.made ≤ 262144
    pub unborn : IsUnborn s.history (number_of p) (made_count p.pass.machine p.pass.made)
    pub machine : IsMachine l c s n p p.pass.machine
    pub told : HasTold s.history p
    pub met : HasMet kit p

  -- ---- the collector

  pub record IsCollectorRecord (l : Sizes) (k : CollectorMachine M) (s : Space) (q : CollectorKnown M) : Type 0 where
    pub machine : q.machine ≡ k
    pub cycles : ℕ
    pub few : cycles ≤ 64
    pub plan : IsPlan kit.kind l q.plan
    pub collects : IsCollector l kit.kind cycles q.plan k
    pub jobs : StandsAt kit l (cycle_of k) s (stand_of q.plan k)
    pub search : SearchStands l (cycle_of k) s k
    pub awaited : AreEarlier (length s.history) q.awaited
    pub sealed : AreSealed s q.sealed
    -- each job seals one object at most
    pub counted : HasCounted (unsealed_in s k) k (length q.sealed)
    pub fit : length q.sealed ≤ (let plan = q.plan in length plan.jobs)

  abbrev pub IsParty : Sizes → CollectorMachine M → Space → Notices → Party R W E M → Type 0
  IsParty l k s n (party.Pass p) = IsPassRecord l (announced_by k) (cycle_of k) s n p
  IsParty l k s n (party.Collector q) = IsCollectorRecord l k s q

  -- ---- all

  abbrev pub is_pass_of : ℕ → Party R W E M → ℕ
  is_pass_of pass (party.Pass p) = if number_of p == pass then 1 else 0
  is_pass_of pass (party.Collector q) = 0

  abbrev pub is_collector : Party R W E M → ℕ
  is_collector (party.Pass p) = 0
  is_collector (party.Collector q) = 1

  -- one record a party
  pub record AreParties (l : Sizes) (rs : List (Party R W E M)) : Type 0 where
    pub many : length rs ≡ l.passes + 1
    pub passes : (pass : ℕ) → IsPass l pass → sum_by (is_pass_of pass) rs ≡ 1
    pub collector : sum_by is_collector rs ≡ 1

  -- every party has seen a past of one history, and one of them all of it; each change fits the heap before it, and is a pass's
  pub record IsHistoryOf (l : Sizes) (h : List Call) (rs : List (Party R W E M)) : Type 0 where
    pub past : All (λ r. Before (seen_of r) h) rs
    pub shown : Contains (map seen_of rs) h
    pub fits : IsHistory opening (reverse h)
    pub owners : All (λ c. IsPass l (pass_of c)) h

  -- The words say the space, what is announced and acknowledged, and the mark, and those of the wide area that are of no wide object are 0; the
  -- objects of each region follow each other, and where none begins there is no wide object of one; the objects are as the copier and the
  -- history have them, and only the one that is moved is on its way by a mark; each party stands where it is; and links lead to homes, where they
  -- are fixed.
  pub record LawfulRecords (l : Sizes) (words : List ℕ) (rs : List (Party R W E M)) : Type 0 where
    pub layout : IsLayout l
    pub width : length words ≡ words_of l
    pub parties : AreParties l rs
    pub space : Space
    pub notices : Notices
    pub collector : CollectorMachine M
    pub says : Says l (reading words) space notices
    pub announced : notices.phase ≡ (let a = announced_by collector in a.word)
    pub drawn : notices.mark ≡ drawn_of collector
    pub spare : IsSpare l (reading words) space
    pub rows : Rows l space.state space.len space.ends space.region
    pub bare : (a : ℕ) → space.state a ≡ Absent → space.wide a ≡ 0
    pub objects : AreObjects kit.protocol (cycle_of collector) space
    pub lens : HasLens space
    pub resting : (a : ℕ) → IsMoving (space.state a) → IsMovedBy collector a
    pub history : IsHistoryOf l space.history rs
    pub each : All (IsParty l collector space notices) rs
    pub fixed : AreFixed kit collector space notices rs
