-- The law of words and records, in whatever order the parties stand, over any copier.
use Rattle.std.specs.Prelude.{◌≢◌, ◌^◌, slice_index, sum_by, IsPermutation}
use Rattle.std.specs.List.{All}
use Rattle.std.proofs.Common.{◌≡◌, ℕ, ◌+◌, ◌<◌, ◌≤◌, List, [], ◌∷◌, length, Some, arith}
use Rattle.std.proofs.lemmas.List.Elements.{All-head, All-tail}
use Rattle.std.proofs.lemmas.List.Sums.{sum_by-cons}
use Rattle.call_steps.specs.declared.step.Step.TheVariants.{Ended}
use Rattle.call_steps.specs.Steps.{place_of, applied, IsInside}
use Rattle.call_steps.specs.Turns.{still}
use Rattle.heap_words.specs.Layouts.{Sizes, IsLayout, words_of}
use Rattle.object_headers.specs.Changes.{is_clover}
use Rattle.barriers.specs.Knowns.{Known}
use Rattle.barriers.specs.Kits.{Kit, Stepping, Laws}
use Rattle.barriers.specs.Spaces.{Space}
use Rattle.barriers.specs.Says.{Notices}
use Rattle.lawful_records.specs.Beginnings.{BeginsOn}
use Rattle.lawful_records.specs.Cycling.{announced_by, cycle_of}
use Rattle.lawful_records.specs.Handshakes.{IsCollector}
use Rattle.lawful_records.specs.HeaderChanges.{HeadersChange}
use Rattle.lawful_records.specs.LawfulRecords.{IsParty, is_collector, LawfulRecords}
use Rattle.lawful_records.specs.Opening.{opening_words, opening_parties}
use Rattle.lawful_records.specs.PassTurns.{IsAnnounced}
use Rattle.lawful_records.specs.Records.{known_of}
use Rattle.space_reclaim.specs.Plans.{Planned}
use Rattle.lawful_records.specs.Collectors.{drawn_of}
use Rattle.lawful_records.specs.JobStands.{IsPlan}
use Rattle.lawful_records.specs.Turns.{pass_asks, pass_fed, party_asks, turned}
use Rattle.lawful_records.specs.declared.collector.CollectorMachine.{CollectorMachine}
use Rattle.lawful_records.specs.declared.records.CollectorKnown.{CollectorKnown}
use Rattle.lawful_records.specs.declared.records.PassKnown.{PassKnown}
use Rattle.lawful_records.specs.declared.records.Party.{Party}
use Rattle.lawful_records.specs.declared.records.Party.TheVariants as party
use Rattle.lawful_records.proofs.beginnings.Starts.{begins_on}
use Rattle.lawful_records.proofs.calls.CallSteps.{CallKept}
use Rattle.lawful_records.proofs.collecting.CollectorTurns.{collector_inside, collector_plays, collector_heads, collector_keeps}
use Rattle.lawful_records.proofs.collecting.Announcing.{announced_is}
use Rattle.lawful_records.proofs.opening.Opens.{opens}
use Rattle.lawful_records.proofs.parties.PassKeeps.{stands_of}
use Rattle.lawful_records.proofs.turns.Heads.{pass_heads}
use Rattle.lawful_records.proofs.turns.OwnTurns.{turn_of, own_inside, own_kept, own_keeps}
use Rattle.lawful_records.proofs.parties.Assembling.{lawful_wide as wide, lawful_counted as counted, lawful_regroups as regroups}

module _ {R W E M : Type 0} (kit : Kit R W E M) where
  pub begins_rests : (l : Sizes) (r : Party R W E M) → BeginsOn kit l r r
  begins_rests l r = still

  pub lawful_wide : (l : Sizes) (words : List ℕ) (rs : List (Party R W E M)) → LawfulRecords kit l words rs → length words ≡ words_of l
  lawful_wide = wide kit

  pub lawful_counted : (l : Sizes) (words : List ℕ) (rs : List (Party R W E M)) → LawfulRecords kit l words rs → length rs ≡ l.passes + 1
  lawful_counted = counted kit

  pub lawful_regroups : (l : Sizes) (words : List ℕ) (rs qs : List (Party R W E M)) → IsPermutation rs qs → LawfulRecords kit l words rs → LawfulRecords kit l words qs
  lawful_regroups = regroups kit

-- ---- turns

module _ {R W E M : Type 0} (kit : Kit R W E M) where
  -- one of the parties is the collector
  plays : (l : Sizes) (k : CollectorMachine M) (s : Space) (n : Notices) (rs : List (Party R W E M)) → 1 ≤ sum_by (is_collector kit) rs → All (IsParty kit l k s n) rs → (cycles : ℕ) × (plan : Planned) × (cycles ≤ 64) × IsCollector l kit.kind cycles plan k
  plays l k s n [] some each = absurd (omega arith)
  plays l k s n (party.Pass p ∷ rs) some each = plays l k s n rs (omega (arith, some, sum_by-cons (is_collector kit) (party.Pass p) rs)) (All-tail (IsParty kit l k s n) (party.Pass p) rs each)
  plays l k s n (party.Collector q ∷ rs) some each = let is = All-head (IsParty kit l k s n) (party.Collector q) rs each in (is.cycles, q.plan, is.few, is.collects)

  -- what it announces is an announcement to every pass
  pub announced : kit.minds ≡ is_clover kit.kind → (l : Sizes) (words : List ℕ) (rs : List (Party R W E M)) (w : LawfulRecords kit l words rs) → IsAnnounced kit.minds l (announced_by w.collector) (cycle_of w.collector) (drawn_of w.collector)
  announced minds l words rs w = let is = plays l w.collector w.space w.notices rs (omega (arith, w.parties.collector)) w.each in announced_is kit.minds l kit.kind is.0 is.2 minds is.1 w.collector is.3

module _ {R W E M : Type 0} (kit : Kit R W E M) (by : Stepping R W E M) (laws : Laws kit by) where
  pub lawful_inside : (l : Sizes) (words : List ℕ) (others : List (Party R W E M)) (r : Party R W E M) → LawfulRecords kit l words (r ∷ others) → IsInside (words_of l) (party_asks kit by r)
  lawful_inside l words others (party.Pass p) w = own_inside kit by laws laws.cycle l words p others w (announced kit laws.minds l words (party.Pass p ∷ others) w)
  lawful_inside l words others (party.Collector q) w = collector_inside kit by laws l words others q w

  pub lawful_starts : (l : Sizes) (words : List ℕ) (others : List (Party R W E M)) (r now : Party R W E M) → LawfulRecords kit l words (r ∷ others) → BeginsOn kit l r now → LawfulRecords kit l words (now ∷ others)
  lawful_starts l words others r now w begins = begins_on kit by laws l words others r now w begins

  pub record_keeps : (l : Sizes) (words : List ℕ) (others : List (Party R W E M)) (r : Party R W E M) → LawfulRecords kit l words (r ∷ others) → party_asks kit by r ≢ Ended
      → LawfulRecords kit l (applied (party_asks kit by r) words) (turned kit by others r (slice_index words (place_of (party_asks kit by r))) ∷ others)
  record_keeps l words others (party.Pass p) w on = own_keeps kit by laws laws.cycle l words p others w (announced kit laws.minds l words (party.Pass p ∷ others) w) on
  record_keeps l words others (party.Collector q) w on = collector_keeps kit by laws l words others q w on

  -- the same of words that fit, as the trait has it
  pub lawful_keeps : (l : Sizes) (words : List ℕ) (others : List (Party R W E M)) (r : Party R W E M) → LawfulRecords kit l words (r ∷ others) → party_asks kit by r ≢ Ended → slice_index words (place_of (party_asks kit by r)) < 2 ^ 64
      → LawfulRecords kit l (applied (party_asks kit by r) words) (turned kit by others r (slice_index words (place_of (party_asks kit by r))) ∷ others)
  lawful_keeps l words others r w on small = record_keeps l words others r w on

  -- the start is lawful
  pub lawful_opens : (l : Sizes) (cycles salt : ℕ) → IsLayout l → cycles ≤ 64 → LawfulRecords kit l (opening_words l) (opening_parties kit l cycles salt)
  lawful_opens l cycles salt fits few = opens kit by laws l fits cycles few salt

  -- by a step every header changes as the table of allowed changes says
  pub lawful_heads : (l : Sizes) (words : List ℕ) (others : List (Party R W E M)) (r : Party R W E M) → LawfulRecords kit l words (r ∷ others) → party_asks kit by r ≢ Ended → HeadersChange kit.kind l words (applied (party_asks kit by r) words)
  lawful_heads l words others (party.Pass p) w on =
      pass_heads kit by l words p others w kit.kind (let movable = laws.movable in movable.keeps)
      (turn_of kit by laws laws.cycle l (announced_by w.collector) (cycle_of w.collector) w.space w.notices words p (stands_of kit by l words p others w (announced kit laws.minds l words (party.Pass p ∷ others) w)) on)
  lawful_heads l words others (party.Collector q) w on = collector_heads kit by laws l words others q w on

  -- the call that a pass is in stays what it is over its step, and ends only as such a call does
  pub lawful_calls : (l : Sizes) (words : List ℕ) (others : List (Party R W E M)) (p : PassKnown R W E) → LawfulRecords kit l words (party.Pass p ∷ others) → pass_asks kit by p.pass.machine ≢ Ended
      → (k next : Known) → known_of kit p.pass.machine ≡ Some k → known_of kit (pass_fed kit by p.pass.machine (slice_index words (place_of (pass_asks kit by p.pass.machine)))) ≡ Some next → CallKept k next
  lawful_calls l words others p w on = own_kept kit by laws laws.cycle l words p others w (announced kit laws.minds l words (party.Pass p ∷ others) w) on

  -- the collector plays its cycles over the layout, and what it has planned is a plan
  pub lawful_plays : (l : Sizes) (words : List ℕ) (others : List (Party R W E M)) (q : CollectorKnown M) → LawfulRecords kit l words (party.Collector q ∷ others) → (cycles : ℕ) × IsCollector l kit.kind cycles q.plan q.machine × IsPlan kit.kind l q.plan
  lawful_plays l words others q w = collector_plays kit by laws l words others q w

  -- no more is sealed than it has planned to move
  pub lawful_sealed : (l : Sizes) (words : List ℕ) (others : List (Party R W E M)) (q : CollectorKnown M) → LawfulRecords kit l words (party.Collector q ∷ others) → length q.sealed ≤ (let plan = q.plan in length plan.jobs)
  lawful_sealed l words others q w = let own = All-head (IsParty kit l w.collector w.space w.notices) (party.Collector q) others w.each in own.fit
