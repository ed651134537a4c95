-- Where the collector stands before its step, and what the step comes to.
use Rattle.std.specs.Prelude.{slice_index}
use Rattle.std.proofs.Common.{◌≡◌, ℕ, ◌<◌, ◌≤◌, ◌⊎◌, inl, List, ◌++◌, length, refl, arith}
use Rattle.call_steps.specs.Steps.{place_of, applied}
use Rattle.call_steps.specs.StepLaws.{reading}
use Rattle.heap_words.specs.Layouts.{Sizes, IsLayout, IsPass, words_of}
use Rattle.handshakes.specs.PhaseWords.{retired_word}
use Rattle.object_headers.specs.Changes.{AllowedChange}
use Rattle.space_reclaim.specs.Plans.{Planned}
use Rattle.barriers.specs.Spaces.{Space, Holds}
use Rattle.barriers.specs.Says.{Notices, Says, header_in}
use Rattle.barriers.specs.Rows.{Rows}
use Rattle.barriers.specs.States.{Absent, On}
use Rattle.barriers.specs.MoveWords.{IsSpare}
use Rattle.barriers.specs.Objects.{AreObjects, HasLens}
use Rattle.barriers.specs.Cycles.{Cycle, IsMoving}
use Rattle.barriers.specs.Kits.{Kit, Stepping}
use Rattle.lawful_records.specs.declared.awaited.Awaited.{Awaited}
use Rattle.lawful_records.specs.declared.collector.CollectorMachine.{CollectorMachine}
use Rattle.lawful_records.specs.declared.records.PassKnown.{PassKnown}
use Rattle.lawful_records.specs.declared.records.Sealed.{Sealed}
use Rattle.lawful_records.specs.Collectors.{drawn_of, AreEarlier}
use Rattle.lawful_records.specs.Cycling.{announced_by, cycle_of}
use Rattle.lawful_records.specs.Fixing.{AreJobsAside, FixStands, IsFixedPass}
use Rattle.lawful_records.specs.Frames.{SeenBy, SameRegion, Beside}
use Rattle.lawful_records.specs.Handshakes.{IsCollector}
use Rattle.lawful_records.specs.Counts.{KeepsSeal}
use Rattle.lawful_records.specs.JobStands.{IsPlan, stand_of, IsMovedBy, StandsAt}
use Rattle.lawful_records.specs.Searches.{SearchStands}
use Rattle.lawful_records.specs.LawfulRecords.{AreSealed, IsPassRecord}
use Rattle.lawful_records.specs.Turns.{collector_asks, collector_fed, sealed_now}
use Rattle.lawful_records.proofs.frames.PassStays.{pass_stays}

-- what is fixed as the collector has it
pub record CollectorFixed {M : Type 0} (plan : Planned) (k : CollectorMachine M) (s : Space) (n : Notices) : Type 0 where
  pub aside : AreJobsAside plan k s
  pub stands : FixStands k s n

-- and what its step makes of that, and of passes
pub record GoesFixed {R W E M : Type 0} (kit : Kit R W E M) (l : Sizes) (plan : Planned) (k next : CollectorMachine M) (s t : Space) (n o : Notices) : Type 0 where
  pub own : CollectorFixed plan next t o
  pub passes : (p : PassKnown R W E) → IsPassRecord kit l (announced_by k) (cycle_of k) s n p → IsFixedPass kit k s n p → IsFixedPass kit next t o p

module _ {R W E M : Type 0} (kit : Kit R W E M) (by : Stepping R W E M) (l : Sizes) (words : List ℕ) where
  -- the word that its step finds
  abbrev pub found_in : CollectorMachine M → ℕ
  found_in k = slice_index words (place_of (collector_asks kit by k))

module _ {R W E M : Type 0} (kit : Kit R W E M) (by : Stepping R W E M) (l : Sizes) (words : List ℕ) (plan : Planned) where
  -- its machine then
  abbrev pub next_of : CollectorMachine M → CollectorMachine M
  next_of k = collector_fed kit by plan k (found_in kit by l words k)

  -- before its step, with these counts of its awaits, and so much sealed
  pub record CollectorStands (s : Space) (n : Notices) (counts : Awaited) (sealed : List Sealed) (k : CollectorMachine M) : Type 0 where
    pub layout : IsLayout l
    pub width : length words ≡ words_of l
    pub says : Says l (reading words) s n
    pub announced : n.phase ≡ (let a = announced_by k in a.word)
    pub drawn : n.mark ≡ drawn_of k
    pub spare : IsSpare l (reading words) s
    pub rows : Rows l s.state s.len s.ends s.region
    pub bare : (a : ℕ) → s.state a ≡ Absent → s.wide a ≡ 0
    pub objects : AreObjects kit.protocol (cycle_of k) s
    pub lens : HasLens s
    pub resting : (a : ℕ) → IsMoving (s.state a) → IsMovedBy k a
    pub cycles : ℕ
    pub few : cycles ≤ 64
    pub planned : IsPlan kit.kind l plan
    pub collects : IsCollector l kit.kind cycles plan k
    pub jobs : StandsAt kit l (cycle_of k) s (stand_of plan k)
    pub search : SearchStands l (cycle_of k) s k
    pub awaited : AreEarlier (length s.history) counts
    pub sealed_are : AreSealed s sealed
    -- the root words of passes that have retired hold
    pub rooted : (pass : ℕ) → IsPass l pass → n.ack pass ≡ retired_word → (reg : ℕ) → reg < 8 → On (Holds s) (n.root pass reg)
    pub fixed : CollectorFixed plan k s n

  -- the step makes this of the space and the notices
  pub record CollectorGoes (s : Space) (n : Notices) (sealed : List Sealed) (k : CollectorMachine M) : Type 0 where
    pub space : Space
    pub notices : Notices
    pub says : Says l (reading (applied (collector_asks kit by k) words)) space notices
    pub announced : notices.phase ≡ (let a = announced_by (next_of k) in a.word)
    pub drawn : notices.mark ≡ drawn_of (next_of k)
    pub spare : IsSpare l (reading (applied (collector_asks kit by k) words)) space
    pub rows : Rows l space.state space.len space.ends space.region
    pub bare : (a : ℕ) → space.state a ≡ Absent → space.wide a ≡ 0
    pub objects : AreObjects kit.protocol (cycle_of (next_of k)) space
    pub lens : HasLens space
    pub resting : (a : ℕ) → IsMoving (space.state a) → IsMovedBy (next_of k) a
    pub history : space.history ≡ s.history
    pub passes : (p : PassKnown R W E) → IsPassRecord kit l (announced_by k) (cycle_of k) s n p → IsPassRecord kit l (announced_by (next_of k)) (cycle_of (next_of k)) space notices p
    pub jobs : StandsAt kit l (cycle_of (next_of k)) space (stand_of plan (next_of k))
    pub search : SearchStands l (cycle_of (next_of k)) space (next_of k)
    pub sealed_are : AreSealed space (sealed ++ sealed_now kit by k s.history (found_in kit by l words k))
    pub seals : KeepsSeal k s space (length (sealed_now kit by k s.history (found_in kit by l words k)))
    pub fixed : GoesFixed kit l plan k (next_of k) s space n notices
    pub heads : (a : ℕ) → (header_in space a ≡ header_in s a) ⊎ AllowedChange kit.kind (header_in s a) (header_in space a)

module _ {R W E M : Type 0} (kit : Kit R W E M) (by : Stepping R W E M) (l : Sizes) (words : List ℕ) where
  -- ---- passes, where nothing is announced

  -- what changes is in regions of the pool
  pub quiet_beside : (c : Cycle) (s t : Space) (n : Notices) → SeenBy kit.protocol c s t → ((region : ℕ) → l.pool ≤ region → SameRegion s t region) → t.history ≡ s.history → Beside kit l c 0 s t n n
  quiet_beside c s t n seen regions history = record {
    seen = seen;
    acks = λ pass other. refl;
    roots = λ pass reg other. refl;
    phase = refl;
    mark = refl;
    regions = λ pass region is other own. regions region (omega (arith, own.0));
    history = inl history;
  }

  pub quiet_passes : (k : CollectorMachine M) (s t : Space) (n : Notices) → SeenBy kit.protocol (cycle_of k) s t → ((region : ℕ) → l.pool ≤ region → SameRegion s t region) → t.history ≡ s.history
      → (p : PassKnown R W E) → IsPassRecord kit l (announced_by k) (cycle_of k) s n p → IsPassRecord kit l (announced_by k) (cycle_of k) t n p
  quiet_passes k s t n seen regions history p is =
      pass_stays kit l (announced_by k) (cycle_of k) 0 s t n n p (λ e. (let there = is.number in omega (arith, e, there.0))) (quiet_beside (cycle_of k) s t n seen regions history) is
