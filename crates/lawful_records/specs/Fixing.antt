-- Which links lead to homes: those of passes, of root words and of fields, from when they are fixed to when an object is moved again.
use Rattle.std.specs.Prelude.{◌≡◌, ◌≢◌, ℕ, ◌+◌, ◌-◌, ◌<◌, ◌≤◌, ◌⊎◌, Bool, true, false, List, Option, Some, None}
use Rattle.std.specs.List.{All}
use Rattle.heap_words.specs.FieldWords.{IsFieldWord, word_of, field_at}
use Rattle.heap_words.specs.declared.field_word.FieldWord.{FieldWord}
use Rattle.space_reclaim.specs.declared.move_job.MoveJob.{MoveJob}
use Rattle.space_reclaim.specs.Plans.{Planned}
use Rattle.handshakes.specs.declared.follow.FollowMachine.TheVariants as follow
use Rattle.handshakes.specs.PhaseWords.{retired_word}
use Rattle.handshakes.specs.Polling.{Polled, IsPolling, held_in}
use Rattle.handshakes.specs.declared.poll.PollMachine.{PollMachine}
use Rattle.handshakes.specs.declared.poll.PollMachine.TheVariants as poll
use Rattle.reference_fix.specs.declared.root_fix.RootFixMachine.{RootFixMachine}
use Rattle.reference_fix.specs.declared.root_fix.RootFixMachine.TheVariants as root
use Rattle.reference_fix.specs.declared.field_fix.FixMachine.{FixMachine}
use Rattle.reference_fix.specs.declared.field_fix.FixMachine.TheVariants as fix
use Rattle.reference_fix.specs.declared.fix_walk.FixWalkMachine.{FixWalkMachine}
use Rattle.reference_fix.specs.declared.fix_walk.FixWalkMachine.TheVariants as walk
use Rattle.reference_fix.specs.FixWalks.{address}
use Rattle.reference_fix.specs.FixWalkRuns.{cursor_of}
use Rattle.barriers.specs.declared.spot.Spot.{Spot}
use Rattle.barriers.specs.declared.ends.NewEnd.TheVariants as new_end
use Rattle.barriers.specs.declared.new_object.NewMachine.TheVariants as make
use Rattle.barriers.specs.declared.pass.PassMachine.{PassMachine}
use Rattle.barriers.specs.declared.pass.PassMachine.TheVariants as machine
use Rattle.barriers.specs.CallCloses.{IsTasked}
use Rattle.barriers.specs.Kits.{Kit}
use Rattle.barriers.specs.Knowns.{Known, Follows, at_field, hand_of}
use Rattle.barriers.specs.Protocols.{OnHand}
use Rattle.barriers.specs.Says.{Notices}
use Rattle.barriers.specs.Spaces.{Space, Holds}
use Rattle.barriers.specs.Stances.{Fix as Fix_stance, stance_at}
use Rattle.barriers.specs.States.{State, Tagged as Tagged_state, Wide, Moving, Underway, IsHome, On}
use Rattle.barriers.specs.Values.{value_of}
use Rattle.lawful_records.specs.declared.stage.Announcement.{Announcement}
use Rattle.lawful_records.specs.declared.stage.Announcement.TheVariants.{Fix}
use Rattle.lawful_records.specs.declared.collector.CollectorMachine.{CollectorMachine}
use Rattle.lawful_records.specs.declared.collector.CollectorMachine.TheVariants as collector
use Rattle.lawful_records.specs.declared.records.PassKnown.{PassKnown}
use Rattle.lawful_records.specs.declared.records.Party.{Party}
use Rattle.lawful_records.specs.declared.records.Party.TheVariants as party
use Rattle.lawful_records.specs.Handshakes.{IsIn}
use Rattle.lawful_records.specs.JobStands.{JobStand, Tagging, Tagged, Moved_by, stand_of}
use Rattle.lawful_records.specs.Records.{registers_by, number_of, acked_of}
use Rattle.lawful_records.specs.Searches.{IsBegun}

-- a link leads to a home
abbrev pub Names : Space → ℕ → ℕ → Type 0
Names s birth at = (s.birth at ≡ birth) × IsHome (s.state at)

-- ---- when

-- while this is announced or awaited
abbrev pub fixed_at : Announcement → Bool
fixed_at Fix = false
fixed_at a = true

module _ {M : Type 0} where
  -- All links lead to homes, but from the beginning of a move, or the announcement of Fix, to the end of the walk.
  abbrev pub is_fixed : CollectorMachine M → Bool
  is_fixed (collector.Announce s) = fixed_at s.announcement
  is_fixed (collector.Await s pass m) = fixed_at s.announcement
  is_fixed (collector.Move s job next m) = false
  is_fixed (collector.Roots s pass reg m) = false
  is_fixed (collector.Walk s m) = false
  is_fixed k = true

  -- then, too, those of a pass that has acknowledged Fix
  abbrev pub IsFixedBy : CollectorMachine M → ℕ → Type 0
  IsFixedBy k acked = (is_fixed k ≡ true) ⊎ (stance_at acked ≡ Fix_stance)

  -- and of how many passes, in rising number, the root words, where they have retired
  abbrev pub fixed_passes : CollectorMachine M → ℕ
  fixed_passes (collector.Await s pass m) = pass - 1
  fixed_passes (collector.Roots s pass reg m) = pass - 1
  fixed_passes (collector.Walk s m) = s.layout.passes
  fixed_passes k = 0

  abbrev pub AreRootsFixed : CollectorMachine M → ℕ → Type 0
  AreRootsFixed k pass = (is_fixed k ≡ true) ⊎ (pass ≤ fixed_passes k)

-- ---- a pass

-- the word that a call has in hand, but for a link that it is about to follow
abbrev pub settled : Known → Option FieldWord
settled (Follows s t (follow.Header birth at)) = None
settled k = hand_of k

-- the link that the call is at leads to a home, and so does what it has in hand
pub record NamesHomes (s : Space) (k : Known) : Type 0 where
  pub at : (z : Spot) → at_field k ≡ Some z → Names s z.birth z.at
  pub hand : OnHand (Names s) (settled k)

-- the registers that a poll has followed lead to homes
abbrev pub IsFollowing : Space → Polled → PollMachine → Type 0
IsFollowing s x (poll.Ended end) = Unit {0}
IsFollowing s x m = IsPolling (λ before now. On (Names s) now) x m

module _ {R W E M : Type 0} (kit : Kit R W E M) where
  abbrev pub IsFixedCall : CollectorMachine M → Space → ℕ → Known → Type 0
  IsFixedCall k s acked x = IsTasked x × (IsFixedBy k acked → NamesHomes s x)

  abbrev pub IsFixedMachine : CollectorMachine M → Space → Notices → PassKnown R W E → PassMachine R W E → Type 0
  IsFixedMachine k s n p (machine.Poll m) = IsFollowing s (record { view = p.pass.view; registers = p.pass.registers; announced = n.phase; mark = n.mark }) m
  IsFixedMachine k s n p (machine.New (make.Ended (new_end.Made birth at room))) = IsFixedBy k (acked_of p) → Names s birth at
  IsFixedMachine k s n p (machine.Read m) = IsFixedCall k s (acked_of p) (kit.reads m)
  IsFixedMachine k s n p (machine.Write m) = IsFixedCall k s (acked_of p) (kit.writes m)
  IsFixedMachine k s n p (machine.Exchange m) = IsFixedCall k s (acked_of p) (kit.exchanges m)
  IsFixedMachine k s n p m = Unit {0}

  -- the links that it holds lead to homes, and so do those of its root words once it has retired
  pub record IsFixedPass (k : CollectorMachine M) (s : Space) (n : Notices) (p : PassKnown R W E) : Type 0 where
    pub registers : acked_of p ≢ retired_word → IsFixedBy k (acked_of p) → (i : ℕ) → On (Names s) (held_in (registers_by p.pass.machine p.pass.registers) i)
    pub machine : IsFixedMachine k s n p p.pass.machine
    pub roots : acked_of p ≡ retired_word → AreRootsFixed k (number_of p) → (i : ℕ) → i < 8 → On (Names s) (n.root (number_of p) i)

-- ---- fields

-- each field of a home below this address leads to a home
abbrev pub HasFixed : Space → ℕ → Type 0
HasFixed s end = (a f : ℕ) → IsHome (s.state a) → f < s.len a → a + 1 + f < end → On (Names s) (s.field a f)

-- and each field at all
abbrev pub AreFieldsFixed : Space → Type 0
AreFieldsFixed s = (a f : ℕ) → IsHome (s.state a) → f < s.len a → On (Names s) (s.field a f)

-- ---- what the collector has in hand

-- a packed word, of the same value as that of a field, which leads to a home
pub record IsFixedTo (s : Space) (before : FieldWord) (put : ℕ) : Type 0 where
  pub fits : IsFieldWord (field_at put)
  pub word : put ≡ word_of (field_at put)
  pub value : value_of (field_at put) ≡ value_of before
  pub names : On (Names s) (field_at put)

-- a root word, which holds this
abbrev pub IsRootHand : Space → FieldWord → RootFixMachine → Type 0
IsRootHand s held (root.Root at) = Unit {0}
IsRootHand s held (root.Header at word to) = field_at word ≡ held
IsRootHand s held (root.Store at put) = IsFixedTo s held put
IsRootHand s held root.Ended = Unit {0}

-- the pass has retired; its root words below a register's are fixed
pub record HasRooted (s : Space) (n : Notices) (pass reg : ℕ) (m : RootFixMachine) : Type 0 where
  pub retired : n.ack pass ≡ retired_word
  pub below : (i : ℕ) → i < reg → On (Names s) (n.root pass i)
  pub hand : IsRootHand s (n.root pass reg) m

-- a field that is being fixed holds the word in hand, or leads to a home
abbrev pub HoldsOrNames : Space → ℕ → ℕ → ℕ → Type 0
HoldsOrNames s a f word = (s.field a f ≡ field_at word) ⊎ On (Names s) (s.field a f)

abbrev pub IsFieldHand : Space → ℕ → ℕ → FixMachine → Type 0
IsFieldHand s a f (fix.Field at) = Unit {0}
IsFieldHand s a f (fix.Header at word to) = On (Holds s) (field_at word) × (word ≡ word_of (field_at word)) × HoldsOrNames s a f word
IsFieldHand s a f (fix.Exchange at word put) = IsFixedTo s (field_at word) put × (word ≡ word_of (field_at word)) × HoldsOrNames s a f word
IsFieldHand s a f fix.Ended = Unit {0}

-- where its next step loads a header, one may be; where it is at a field, that object is there
abbrev pub IsAtHome : Space → FixWalkMachine → Type 0
IsAtHome s (walk.Header x c) = IsBegun s c.region (address x c)
IsAtHome s (walk.Field x c len field m) = IsHome (s.state (address x c)) × (s.len (address x c) ≡ len) × IsFieldHand s (address x c) field m
IsAtHome s m = Unit {0}

-- a walk has come so far
pub record HasWalked (s : Space) (m : FixWalkMachine) : Type 0 where
  pub at : IsAtHome s m
  pub passed : HasFixed s (cursor_of m)

module _ {M : Type 0} where
  abbrev pub FixStands : CollectorMachine M → Space → Notices → Type 0
  FixStands (collector.Roots st pass reg m) s n = HasRooted s n pass reg m
  FixStands (collector.Walk st m) s n = HasWalked s m
  FixStands k s n = is_fixed k ≡ true → AreFieldsFixed s

-- ---- objects of a job

-- a home that is neither Plain nor Kept, or a copy under way, whose header's word says Plain
abbrev pub IsAside : State → Type 0
IsAside Tagged_state = Unit {0}
IsAside (Wide wide) = Unit {0}
IsAside (Moving to) = Unit {0}
IsAside Underway = Unit {0}
IsAside x = ⊥

-- it is the object of one of these jobs
abbrev pub IsObjectOf : List MoveJob → ℕ → Type 0
IsObjectOf jobs a = (job : MoveJob) × IsIn jobs job × (a ≡ job.from)

-- it is the object of a job that is tagged or moved, or the copy of the one that is moved
abbrev pub IsOfJob : {M : Type 0} → JobStand M → ℕ → Type 0
IsOfJob (Tagging job done next jobs) a = IsObjectOf jobs a
IsOfJob (Tagged jobs) a = IsObjectOf jobs a
IsOfJob (Moved_by job rest m) a = (a ≡ job.from) ⊎ ((a ≡ job.to) ⊎ IsObjectOf rest a)
IsOfJob stand a = ⊥

-- only objects of jobs are Tagged, Wide or Moving, and only a copy is under way
abbrev pub AreJobsAside : {M : Type 0} → Planned → CollectorMachine M → Space → Type 0
AreJobsAside plan k s = (a : ℕ) → IsAside (s.state a) → IsOfJob (stand_of plan k) a

-- ---- all

module _ {R W E M : Type 0} (kit : Kit R W E M) where
  abbrev pub IsFixedParty : CollectorMachine M → Space → Notices → Party R W E M → Type 0
  IsFixedParty k s n (party.Pass p) = IsFixedPass kit k s n p
  IsFixedParty k s n (party.Collector q) = AreJobsAside q.plan k s

-- The collector stands where it is; only objects of its jobs are on their way; and of each pass the links lead to homes, where they are fixed.
pub record AreFixed {R W E M : Type 0} (kit : Kit R W E M) (k : CollectorMachine M) (s : Space) (n : Notices) (rs : List (Party R W E M)) : Type 0 where
  pub stands : FixStands k s n
  pub each : All (IsFixedParty kit k s n) rs
