-- The words and the records at the start are lawful.
use Rattle.std.specs.Prelude.{map, nat_lt, slice_set, replicate, if◌then◌else◌}
use Rattle.std.specs.List.{All, Contains}
use Rattle.std.proofs.Common.{◌≡◌, Bool, true, false, ℕ, zero, suc, ◌+◌, ◌<◌, ◌≤◌, List, [], ◌∷◌, ◌++◌, length-set, refl, sym, ap, ◌∙◌, arith}
use Rattle.std.proofs.lemmas.List.{length-replicate}
use Rattle.std.proofs.lemmas.List.Elements.{All-nil, All-cons}
use Rattle.call_steps.specs.StepLaws.{reading}
use Rattle.heap_words.specs.Layouts.{Sizes, IsLayout, words_of, region_at, first_word}
use Rattle.object_headers.specs.declared.change.Kind.{Kind}
use Rattle.space_reclaim.specs.declared.region_word.RegionWord.TheVariants.{Filled}
use Rattle.space_reclaim.specs.RegionWords.{word_of_region}
use Rattle.heap_history.specs.NewestFirst.{Before}
use Rattle.handshakes.specs.PhaseWords.{word_of_phase}
use Rattle.barriers.specs.Says.{opening_notices, opening_space}
use Rattle.barriers.specs.Kits.{Kit, Stepping, Laws}
use Rattle.barriers.proofs.words.Opening.{is_opening, opening_rows, opening_says}
use Rattle.barriers.proofs.words.Spares.{spare_opening}
use Rattle.barriers.specs.Spaces.{Space}
use Rattle.barriers.specs.Stances.{mark_in}
use Rattle.lawful_records.specs.declared.stage.Announcement.TheVariants.{Mark}
use Rattle.lawful_records.specs.declared.collector.CollectorMachine.TheVariants as collector
use Rattle.lawful_records.specs.declared.stage.Stage.{Stage}
use Rattle.lawful_records.specs.Jobs.{first_plan}
use Rattle.lawful_records.specs.Collectors.{collector_of, stage_at_start, stage_of, word_of, mark_at, drawn_of, announced_of, none_awaited}
use Rattle.lawful_records.specs.Cycling.{announced_by, clear_by, cycle_of}
use Rattle.lawful_records.specs.Fixing.{FixStands, IsFixedParty}
use Rattle.lawful_records.specs.Searches.{SearchStands}
use Rattle.lawful_records.specs.LawfulRecords.{IsParty, IsHistoryOf, IsThereSealed, LawfulRecords}
use Rattle.lawful_records.specs.Opening.{opening_words, opening_passes, opening_pass, opening_parties}
use Rattle.lawful_records.specs.PassTurns.{IsAnnounced}
use Rattle.lawful_records.specs.Records.{seen_of}
use Rattle.lawful_records.specs.declared.collector.CollectorMachine.{CollectorMachine}
use Rattle.lawful_records.specs.declared.records.Party.{Party}
use Rattle.lawful_records.specs.declared.records.Party.TheVariants as party
use Rattle.lawful_records.proofs.collecting.Announcing.{announced_is}
use Rattle.lawful_records.proofs.collecting.FirstJobs.{first_is_plan}
use Rattle.lawful_records.proofs.collecting.Playing.{plays_from_start}
use Rattle.lawful_records.proofs.opening.Counting.{opening_counts}
use Rattle.lawful_records.proofs.opening.FirstRecords.{first_fixed, first_record}
use Rattle.lawful_records.proofs.opening.FirstStand.{stand_at_start}
use Rattle.lawful_records.proofs.opening.Objects.{opening_aside, opening_lens, opening_resting, opening_objects}
use Rattle.lawful_records.specs.Counts.{HasCounted, unsealed_in}

-- ---- the announced word

word_at_start : (kind : Kind) (l : Sizes) (cycles salt : ℕ) → word_of (stage_at_start kind l cycles salt) ≡ 0
unfolding word_of_phase
word_at_start kind l cycles salt = refl

-- before the first cycle the collector says what it says at the start
module _ (M : Type 0) (kind : Kind) (l : Sizes) (cycles salt : ℕ) where
  abbrev start : Stage
  start = stage_at_start kind l cycles salt

  abbrev first : Bool → CollectorMachine M
  first more = if more then collector.Announce (record start { cycle = 0 + 1; announcement = Mark }) else collector.Done start

  stage_from : (more : Bool) → stage_of (first more) ≡ start
  stage_from true = refl
  stage_from false = refl

  drawn_from : (more : Bool) → drawn_of (first more) ≡ 0
  drawn_from true = refl
  drawn_from false = refl

  clear_from : (more : Bool) → clear_by (first more) ≡ false
  clear_from true = refl
  clear_from false = refl

  fixed_from : (more : Bool) → FixStands (first more) (opening_space l) opening_notices
  fixed_from true = λ e a f home less. tt
  fixed_from false = λ e a f home less. tt

  none_from : (s : Space) (more : Bool) → SearchStands l (cycle_of (first more)) s (first more)
  none_from s true = tt
  none_from s false = tt

pub announced_at_start : {R W E M : Type 0} (kit : Kit R W E M) (l : Sizes) (cycles salt : ℕ) → announced_of (collector_of kit (first_plan kit.kind l) l cycles salt) ≡ 0
announced_at_start {M = M} kit l cycles salt = ap word_of (stage_from M kit.kind l cycles salt (nat_lt 0 cycles)) ∙ word_at_start kit.kind l cycles salt

-- ---- parties, each of which

module _ {R W E M : Type 0} (P : Party R W E M → Type 0) (l : Sizes) where
  all_passes : (from count : ℕ) → ((pass : ℕ) → from ≤ pass → pass < from + count → P (party.Pass (opening_pass l pass))) → (last : Party R W E M) → P last → All P (opening_passes l from count ++ last ∷ [])
  all_passes from zero each last is = All-cons P last [] is (λ i d less. absurd (omega arith))
  all_passes from (suc count) each last is = All-cons P (party.Pass (opening_pass l from)) (opening_passes l (from + 1) count ++ last ∷ []) (each from (omega arith) (omega arith))
      (all_passes (from + 1) count (λ pass low high. each pass (omega (arith, low)) (omega (arith, high))) last is)

module _ {R W E M : Type 0} (kit : Kit R W E M) (by : Stepping R W E M) (laws : Laws kit by) (l : Sizes) (fits : IsLayout l) (cycles : ℕ) (few : cycles ≤ 64) (salt : ℕ) where
  abbrev k : CollectorMachine M
  k = collector_of kit (first_plan kit.kind l) l cycles salt

  abbrev last : Party R W E M
  last = party.Collector (record { machine = k; plan = first_plan kit.kind l; awaited = none_awaited; sealed = [] })

  announcement : IsAnnounced kit.minds l (announced_by k) (cycle_of k) (drawn_of k)
  announcement = announced_is kit.minds l kit.kind cycles few laws.minds (first_plan kit.kind l) k (plays_from_start kit (first_plan kit.kind l) l cycles salt)

  none_drawn : drawn_of k ≡ 0
  none_drawn = drawn_from M kit.kind l cycles salt (nat_lt 0 cycles)

  none_marked : (let a = announced_by k in a.mark) ≡ 0
  none_marked = ap mark_at (stage_from M kit.kind l cycles salt (nat_lt 0 cycles))

  abbrev filled : List ℕ
  filled = slice_set (replicate (words_of l) 0) (region_at l 0) (word_of_region Filled)

  shown_by : (from count : ℕ) → Contains (map seen_of (opening_passes l from count ++ last ∷ [])) []
  shown_by from zero = (0, omega arith, refl)
  shown_by from (suc count) = (0, omega arith, refl)

  history : IsHistoryOf kit l [] (opening_parties kit l cycles salt)
  history = record {
    past = all_passes (λ (r : Party R W E M). Before (seen_of r) []) l 1 l.passes (λ pass low high. refl) last refl;
    shown = shown_by 1 l.passes;
    fits = tt;
    owners = λ i d less. absurd (omega arith);
  }

  counted_from : (more : Bool) → HasCounted (unsealed_in (opening_space l) (first M kit.kind l cycles salt more)) (first M kit.kind l cycles salt more) 0
  counted_from true = refl
  counted_from false = tt

  -- at the start all is lawful
  pub opens : LawfulRecords kit l (opening_words l) (opening_parties kit l cycles salt)
  opens = record {
    layout = fits;
    width = length-set filled (first_word l 0) _ ∙ (length-set (replicate (words_of l) 0) (region_at l 0) (word_of_region Filled) ∙ length-replicate (words_of l) 0);
    parties = opening_counts kit l cycles salt;
    space = opening_space l;
    notices = opening_notices;
    collector = k;
    says = opening_says l (reading (opening_words l)) (is_opening l fits);
    announced = sym (announced_at_start kit l cycles salt);
    drawn = sym none_drawn;
    spare = spare_opening l (reading (opening_words l)) (opening_space l) fits (is_opening l fits);
    rows = opening_rows l (omega (arith, fits.pool.0));
    bare = λ a none. refl;
    objects = opening_objects l kit by laws (cycle_of k) (ap mark_in none_drawn) (clear_from M kit.kind l cycles salt (nat_lt 0 cycles));
    lens = opening_lens l;
    resting = λ a moving. absurd (opening_resting l a moving);
    history = history;
    each = all_passes (IsParty kit l k (opening_space l) opening_notices) l 1 l.passes
        (λ pass low high. first_record kit by laws l fits (announced_by k) (cycle_of k) (drawn_of k) announcement (announced_at_start kit l cycles salt) none_marked pass (low, omega (arith, high)))
        last (record { machine = refl; cycles = cycles; few = few; plan = first_is_plan l fits kit.kind; collects = plays_from_start kit (first_plan kit.kind l) l cycles salt; jobs = stand_at_start l kit cycles salt; search = none_from M kit.kind l cycles salt (opening_space l) (nat_lt 0 cycles); awaited = record { mark = omega arith; confirm = omega arith; copy = omega arith; fix = omega arith; free = omega arith }; sealed = record { there = All-nil (IsThereSealed (opening_space l)); seals = λ a f live inside. refl }; counted = counted_from (nat_lt 0 cycles); fit = omega arith });
    fixed = record {
      stands = fixed_from M kit.kind l cycles salt (nat_lt 0 cycles);
      each = all_passes (IsFixedParty kit k (opening_space l) opening_notices) l 1 l.passes (λ pass low high. first_fixed kit l k pass) last (λ a aside. absurd (opening_aside l a aside));
    };
  }
