-- The collector draws a candidate, and seeks it.
use Rattle.std.specs.Prelude.{nat_lt, if◌then◌else◌}
use Rattle.std.proofs.Common.{inl, inr, ◌≡◌, ◌≢◌, ℕ, ◌+◌, ◌<◌, ◌≤◌, ◌⊎◌, ◌==◌, Bool, true, false, Option, Some, None, List, refl, sym, ap, ◌∙◌, subst, arith}
use Rattle.std.proofs.lemmas.Bool.Decides.{nat_tests}
use Rattle.std.proofs.lemmas.List.{append-nil}
use Rattle.call_steps.specs.declared.step.Step.{Step}
use Rattle.call_steps.specs.declared.step.Step.TheVariants.{Store, Ended}
use Rattle.call_steps.specs.Steps.{place_of, put_by, applied, IsInside}
use Rattle.call_steps.specs.StepLaws.{reading, Put, applied-puts}
use Rattle.heap_words.specs.Layouts.{Sizes, words_of, regions_of, region_at, wide_at, mark_at as mark_place}
use Rattle.heap_words.specs.declared.field_word.FieldWord.{FieldWord}
use Rattle.heap_words.specs.declared.field_word.FieldWord.TheVariants.{Num}
use Rattle.object_headers.specs.Changes.{is_clover}
use Rattle.handshakes.specs.Handshakes.{Announced, Advances, Stays}
use Rattle.mark_search.specs.declared.seek.SeekEnd.{SeekEnd}
use Rattle.mark_search.specs.declared.seek.SeekEnd.TheVariants.{Clear, MarkFound}
use Rattle.mark_search.specs.declared.seek.SeekMarkMachine.{SeekMarkMachine}
use Rattle.mark_search.specs.declared.seek.SeekMarkMachine.TheVariants as seek
use Rattle.mark_search.specs.DrawLaws.{last_some}
use Rattle.mark_search.specs.Seeks as seeks
use Rattle.mark_search.specs.Seeks.{search_for}
use Rattle.mark_search.specs.SeekRuns.{cursor_of}
use Rattle.space_reclaim.specs.Plans.{Planned}
use Rattle.barriers.specs.Spaces.{Space, Here, here, place_word, copy_word, is_mark}
use Rattle.barriers.specs.Says.{Notices}
use Rattle.barriers.specs.States.{State, Plain, Kept, Tagged, Wide, Moving, Forward, IsHome, IsLive}
use Rattle.barriers.specs.Stances.{Stance, stance_at, mark_in}
use Rattle.barriers.specs.Stances.{Search as Search_stance, Free as Free_stance}
use Rattle.barriers.specs.Cycles.{Cycle, Side, Nobody, IsMoving, IsSet}
use Rattle.barriers.specs.Events.{IsWide}
use Rattle.barriers.specs.Objects.{IsForward, AreObjects}
use Rattle.barriers.specs.Kits.{Kit, Stepping, Laws}
use Rattle.barriers.proofs.objects.Base.{home_live}
use Rattle.barriers.proofs.words.Frames.{says_same, put_same}
use Rattle.barriers.proofs.words.NoticeStores.{says_mark}
use Rattle.barriers.proofs.words.Regions.{region_ends}
use Rattle.barriers.proofs.words.Rows.{row_area}
use Rattle.barriers.proofs.words.Headers.{home_there}
use Rattle.lawful_records.specs.declared.stage.Announcement.{Announcement}
use Rattle.lawful_records.specs.declared.stage.Announcement.TheVariants.{Search, Fix}
use Rattle.lawful_records.specs.declared.awaited.Awaited.{Awaited}
use Rattle.lawful_records.specs.declared.stage.Stage.{Stage}
use Rattle.lawful_records.specs.declared.collector.CollectorMachine.{CollectorMachine}
use Rattle.lawful_records.specs.declared.collector.CollectorMachine.TheVariants as collector
use Rattle.lawful_records.specs.declared.stage.TheConstants.{SEARCHES}
use Rattle.lawful_records.specs.declared.records.Sealed.{Sealed}
use Rattle.lawful_records.specs.Collectors.{word_of, mark_word, is_refused, stage_before, searched, jobs_of, sought}
use Rattle.lawful_records.specs.Cycling.{announced_by, cycle_of, told_before, clear_before}
use Rattle.lawful_records.specs.Handshakes.{HasDrawn, IsSearch}
use Rattle.lawful_records.specs.Fixing.{FixStands}
use Rattle.lawful_records.specs.JobStands.{stand_at, stand_at_copy, stand_of, StandsAt}
use Rattle.lawful_records.specs.Searches.{Seeks, HasPassed, IsAtObject, SearchStands}
use Rattle.lawful_records.proofs.frames.SpareStays.{mark_low, region_low, spare_low, spare_same}
use Rattle.lawful_records.proofs.collecting.Announcing.{mark_zero}
use Rattle.lawful_records.proofs.collecting.Advancing.{found_says, found_drawn, sought_announced, sought_drawn, search_drawn, search_clover}
use Rattle.lawful_records.proofs.collecting.Goes.{CollectorStands, CollectorGoes}
use Rattle.lawful_records.proofs.collecting.HeardGoes.{HasHeard, hearing_goes}
use Rattle.lawful_records.proofs.collecting.JobBegins.{stand_on}
use Rattle.lawful_records.proofs.collecting.Passing.{FoundBy, words_place, first_place, last_place, first_is}
use Rattle.lawful_records.proofs.collecting.Phasing.{PassGoes, Fits, goes_same, draw_objects, draw_goes, clear_objects, clear_goes}
use Rattle.lawful_records.proofs.collecting.Seeking.{search_in, search_kept}
use Rattle.lawful_records.proofs.collecting.Sought.{goes_on, passes_on}
use Rattle.lawful_records.proofs.collecting.Stages.{stance_by, stance_word, stage_said}

-- ---- the places of homes

-- the word of a home that is not on its way is in the original
plain_place : (mark : Option FieldWord) (x : Here) (copy : FieldWord) → IsHome x.state → (IsMoving x.state → ⊥) → (IsWide x.state → ⊥) → place_word mark x copy ≡ x.word
plain_place mark x copy home resting narrow = grind (arith, home, resting, narrow)

-- of one that has moved it is in the copy
moved_place : (mark : Option FieldWord) (x : Here) (copy : FieldWord) → IsForward x.state → place_word mark x copy ≡ copy
moved_place mark x copy forward = grind (arith, forward)

-- a live object is a home or has moved
home_or_moved : (x : State) → IsLive x → IsHome x ⊎ IsForward x
home_or_moved Plain live = inl tt
home_or_moved Kept live = inl tt
home_or_moved Tagged live = inl tt
home_or_moved (Wide w) live = inl tt
home_or_moved (Moving t) live = inl tt
home_or_moved (Forward t) live = inr tt
home_or_moved x live = absurd live

module _ {R W E M : Type 0} (kit : Kit R W E M) (by : Stepping R W E M) (laws : Laws kit by) (l : Sizes) (words : List ℕ) (plan : Planned) (s : Space) (n : Notices) (counts : Awaited) (sealed : List Sealed) where
  abbrev Stands : CollectorMachine M → Type 0
  Stands k = CollectorStands kit by l words plan s n counts sealed k

  abbrev Heard : CollectorMachine M → Type 0
  Heard k = HasHeard kit by laws l words plan s n counts sealed k

  puts : (k : CollectorMachine M) (stands : Stands k) (step : Step) → step ≢ Ended → IsInside (words_of l) step → Put (reading words) (reading (applied step words)) (place_of step) (put_by step (reading words (place_of step)))
  puts k stands step on inside = applied-puts step words on (subst (λ len. IsInside len step) (sym stands.width) inside)

  -- the mark of a search
  module _ (st : Stage) (cycles : ℕ) (few : cycles ≤ 64) (is : IsSearch l kit.kind cycles st) where
    drawn : HasDrawn st.cycle st.marks × (st.marks.clear ≡ false)
    drawn = search_drawn kit l kit.kind cycles few st is

    clover : is_clover kit.kind ≡ true
    clover = search_clover kit l kit.kind cycles few st is

    pub some_mark : 0 < mark_word st
    some_mark = last_some st.marks.candidates (let has = drawn.0 in omega (arith, has.first, has.some))

    pub mark_is : mark_in (mark_word st) ≡ Some (Num (mark_word st))
    mark_is = let counted : (mark_word st == 0) ≡ false = grind (arith, nat_tests, some_mark) in rw counted refl

    pub passes_is : st.layout.passes ≡ l.passes
    passes_is = ap (λ (t : Sizes). t.passes) is.stage.layout

  -- ---- a draw

  module _ (st : Stage) (stands : Stands (collector.Draw st)) where
    abbrev drawing : CollectorMachine M
    drawing = collector.Draw st

    pub draw_inside : IsInside (words_of l) (Store mark_place (mark_word st))
    draw_inside = let least = stands.layout.passes.0 in omega (arith, least)

    stored : Put (reading words) (reading (applied (Store mark_place (mark_word st)) words)) mark_place (mark_word st)
    stored = puts drawing stands (Store mark_place (mark_word st)) (λ e. cc e) draw_inside

    -- the cycle after it, as that before with the candidate
    abbrev before : Stance
    before = stance_at (word_of (stage_before st))

    abbrev drawn_cycle : Cycle
    drawn_cycle = record { late = true; phase = before; told = Nobody; mark = Some (Num (mark_word st)); clear = false }

    until_search : (a : Announcement) → a ≡ Search → (told_before a (is_refused st) ≡ Nobody) × (clear_before a st.marks.clear ≡ false)
    until_search a is = rw is (refl, refl)

    drawn_is : drawn_cycle ≡ cycle_of {M = M} (collector.Announce st)
    drawn_is =
        let until = until_search st.announcement stands.collects.search in
        rw (until.0, until.1, mark_is st stands.cycles stands.few stands.collects) refl

    passed_all : st.layout.passes ≡ l.passes
    passed_all = passes_is st stands.cycles stands.few stands.collects

    its_clover : is_clover kit.kind ≡ true
    its_clover = clover st stands.cycles stands.few stands.collects

    coming_on : (a : Announcement) → a ≡ Search → StandsAt kit l (cycle_of drawing) s (stand_of plan drawing) → StandsAt kit l (cycle_of {M = M} (collector.Announce st)) s (stand_at (is_clover st.kind) a (jobs_of plan st))
    coming_on a is stands = rw is (stand_on kit l s (cycle_of drawing) (cycle_of {M = M} (collector.Announce st)) (is_clover st.kind) Search (jobs_of plan st) stands)

    pub heard_draw : Heard drawing
    heard_draw = record {
      notices = record n { mark = mark_word st };
      says = says_mark l (reading words) (reading (applied (Store mark_place (mark_word st)) words)) s n stands.rows stands.says (mark_word st) stored;
      spare = spare_low l (reading words) (reading (applied (Store mark_place (mark_word st)) words)) s stands.spare mark_place (mark_word st) stored (mark_low l);
      phase = stands.announced;
      drawn = refl;
      acks = λ p. refl;
      roots = λ p reg runs. refl;
      rooted = λ p is. is;
      advances = Stays;
      marks = λ waits. absurd (omega (arith, passed_all, waits));
      differ = λ waits. absurd (omega (arith, passed_all, waits));
      objects = subst (λ (c : Cycle). AreObjects kit.protocol c s) drawn_is
          (draw_objects kit laws.table laws.cycle s stands.resting laws.movable its_clover before Nobody (mark_in (mark_word (stage_before st))) (mark_word st) stands.objects);
      goes = λ side at was now. subst (λ (c : Cycle). PassGoes kit laws.table laws.cycle s (cycle_of drawing) c side) drawn_is
          (draw_goes kit laws.table laws.cycle s stands.resting laws.movable its_clover before Nobody (mark_in (mark_word (stage_before st))) (mark_word st) stands.objects side
          (subst (λ (c : Cycle). Fits kit laws.table laws.cycle s c side) (sym drawn_is) now));
      still = λ a moved. moved;
      stands_then = coming_on st.announcement stands.collects.search stands.jobs;
      search_then = tt;
      aside = λ a is. absurd is;
      fixed = λ e. stands.fixed.stands refl;
      lets = λ acked all by_next. inl refl;
      roots_fixed = λ p own is retired roots. is.roots retired (inl refl);
      none_sealed = append-nil sealed;
    }

  -- ---- a step of a search

  module _ (st : Stage) (m : SeekMarkMachine) (stands : Stands (collector.Seek st m)) where
    abbrev seeking : CollectorMachine M
    seeking = collector.Seek st m

    at : IsSearch l kit.kind stands.cycles st
    at = stands.collects.at

    abbrev c : Cycle
    c = cycle_of seeking

    marked : c.mark ≡ Some (Num (mark_word st))
    marked = mark_is st stands.cycles stands.few at

    seek_clover : is_clover kit.kind ≡ true
    seek_clover = clover st stands.cycles stands.few at

    -- each home's field is in the original
    plain : (a f : ℕ) → IsHome (s.state a) → f < s.len a → s.field a f ≡ s.word a f
    plain a f home less =
        let narrow = laws.movable.narrows seek_clover c (s.birth a) f (here s a f) (copy_word s a f) (stands.objects.shape a f (home_live (s.state a) home) less) in
        stands.objects.placed a f home less ∙ plain_place c.mark (here s a f) (copy_word s a f) home (stands.resting a) narrow

    abbrev step : Step
    step = seeks.asks_of m

    abbrev word : ℕ
    word = reading words (place_of step)

    abbrev next : SeekMarkMachine
    next = seeks.fed_of m word

    -- its step is the load of a word that is there
    record IsLoad (x : SeekMarkMachine) : Type 0 where
      found : FoundBy l stands.layout (reading words) s n stands.rows stands.says c (mark_word st) marked plain x (reading words (place_of (seeks.asks_of x)))
      inside : IsInside (words_of l) (seeks.asks_of x)
      same : put_by (seeks.asks_of x) (reading words (place_of (seeks.asks_of x))) ≡ reading words (place_of (seeks.asks_of x))
      on : seeks.asks_of x ≢ Ended

    place_by : (x : SeekMarkMachine) → Seeks l (mark_word st) x → IsAtObject l s x → IsLoad x
    place_by (seek.Region q region) is here_is =
        let place : seeks.word_of q region ≡ region_at l region = rw is.0 (words_place l (mark_word st) region stands.layout is.1) in
        record { found = ap (reading words) place; inside = (let low = region_low l region is.1 in omega (arith, place, low)); same = refl; on = λ e. cc e }
    place_by (seek.Header q u) is here_is =
        let first = first_is l stands.layout (reading words) s n stands.rows stands.says c (mark_word st) marked plain q is.0 u.region in
        let ends = region_ends l u.region is.1 in
        record { found = refl; inside = omega (arith, first, ends, is.2); same = refl; on = λ e. cc e }
    place_by (seek.Field q u len field) is here_is =
        let area = row_area l s.state s.len s.ends s.region stands.rows (seeks.address q u) (1 + field) here_is.0 (omega (arith, is.2, here_is.1)) in
        record { found = refl; inside = omega (arith, area.1); same = refl; on = λ e. cc e }
    place_by (seek.Ended q end) is here_is = absurd is

    placed : IsLoad m
    placed = place_by m stands.collects.seeks stands.search.at

    pub seek_inside : IsInside (words_of l) step
    seek_inside = placed.inside

    loaded : Put (reading words) (reading (applied step words)) (place_of step) (put_by step word)
    loaded = puts seeking stands step placed.on placed.inside

    alike : (x : ℕ) → reading (applied step words) x ≡ reading words x
    alike = put_same (reading words) (reading (applied step words)) (place_of step) (put_by step word) loaded placed.same

    passed : HasPassed c s (cursor_of next)
    passed = passes_on l stands.layout (reading words) s n stands.rows stands.says c (mark_word st) marked plain m word stands.collects.seeks stands.search placed.found

    goes_next : IsAtObject l s next
    goes_next = goes_on l stands.layout (reading words) s n stands.rows stands.says c (mark_word st) marked plain m word stands.collects.seeks stands.search.at placed.found

    -- ---- where it has ended clear

    -- its end is the end of the last region
    clear_end : (x : SeekMarkMachine) → seeks.end_of x ≡ Some Clear → search_in x ≡ search_for l (mark_word st) → cursor_of x ≡ wide_at l
    clear_end (seek.Ended q Clear) e same = rw same (first_place l (mark_word st) (regions_of l) stands.layout ∙ last_place l)
    clear_end (seek.Ended q (MarkFound place)) e same = absurd (cc e)
    clear_end (seek.Region q region) e same = absurd (cc e)
    clear_end (seek.Header q u) e same = absurd (cc e)
    clear_end (seek.Field q u len field) e same = absurd (cc e)

    module _ (ended : seeks.end_of next ≡ Some Clear) where
      all_passed : (a f : ℕ) → IsHome (s.state a) → f < s.len a → is_mark c.mark (s.field a f) ≡ false
      all_passed a f home less =
          let end = clear_end next ended (search_kept l (mark_word st) m word stands.collects.seeks) in
          let area = row_area l s.state s.len s.ends s.region stands.rows a (1 + f) (home_there (s.state a) home) (omega (arith, less)) in
          passed a f home less (omega (arith, area.1, end))

      home_passed : (a f : ℕ) → IsHome (s.state a) → f < s.len a → is_mark c.mark (place_word c.mark (here s a f) (copy_word s a f)) ≡ false
      home_passed a f home less = subst (λ (w : FieldWord). is_mark c.mark w ≡ false) (stands.objects.placed a f home less) (all_passed a f home less)

      -- one that has moved has its fields in the copy, which is a home
      moved_passed : (a f : ℕ) → IsForward (s.state a) → f < s.len a → is_mark c.mark (place_word c.mark (here s a f) (copy_word s a f)) ≡ false
      moved_passed a f forward less =
          let copy = stands.objects.copied a forward in
          let home : IsHome (s.state (s.to a)) = rw copy.state tt in
          let short : f < s.len (s.to a) = omega (arith, copy.len, less) in
          let field = all_passed (s.to a) f home short in
          rw (moved_place c.mark (here s a f) (copy_word s a f) forward) (subst (λ (w : FieldWord). is_mark c.mark w ≡ false) (plain (s.to a) f home short) field)

      live_passed : (a f : ℕ) → IsLive (s.state a) → f < s.len a → is_mark c.mark (place_word c.mark (here s a f) (copy_word s a f)) ≡ false
      live_passed a f live less = elim (home_or_moved (s.state a) live) [ inl home ↦ home_passed a f home less | inr forward ↦ moved_passed a f forward less ]

    set : IsSet c.mark
    set = rw marked tt

    zero : is_mark c.mark (Num 0) ≡ false
    zero = mark_zero (mark_word st)

    open_phase : c.phase ≢ Free_stance
    open_phase free =
        let stance : c.phase ≡ Search_stance = stance_word st (stage_said l kit.kind stands.cycles stands.few st at.stage) ∙ ap stance_by at.search in
        let gone : Search_stance ≡ Free_stance = sym stance ∙ free in cc gone

    -- ---- how the collector goes on

    -- what a turn to this machine makes of the objects and of passes
    record Parts (x : CollectorMachine M) : Type 0 where
      objects : AreObjects kit.protocol (cycle_of x) s
      goes : (side : Side) → Fits kit laws.table laws.cycle s c side → Fits kit laws.table laws.cycle s (cycle_of x) side → PassGoes kit laws.table laws.cycle s c (cycle_of x) side
      stands_then : StandsAt kit l (cycle_of x) s (stand_of plan x)
      search_then : SearchStands l (cycle_of x) s x

    same_word : (end : Option SeekEnd) → (let a = announced_by {M = M} (sought st next end) in a.word) ≡ word_of st
    same_word end = ap (λ (a : Announced). a.word) (sought_announced kit l kit.kind stands.cycles stands.few st at m next end)

    -- where the cycle is the same
    same_parts : (x : CollectorMachine M) → c ≡ cycle_of x → StandsAt kit l (cycle_of x) s (stand_of plan x) → SearchStands l (cycle_of x) s x → Parts x
    same_parts x same job search = record {
      objects = subst (λ (d : Cycle). AreObjects kit.protocol d s) same stands.objects;
      goes = λ side was now. subst (λ (d : Cycle). PassGoes kit laws.table laws.cycle s c d side) same (goes_same kit laws.table laws.cycle s c side);
      stands_then = job;
      search_then = search;
    }

    abbrev cleared : Cycle
    cleared = record c { clear = true }

    abbrev clear_next : CollectorMachine M
    clear_next = sought st next (Some Clear)

    cleared_is : cleared ≡ cycle_of clear_next
    cleared_is = rw (same_word (Some Clear)) refl

    clear_parts : seeks.end_of next ≡ Some Clear → Parts clear_next
    clear_parts ended = record {
      objects = subst (λ (d : Cycle). AreObjects kit.protocol d s) cleared_is
          (clear_objects kit laws.table laws.cycle s stands.resting laws.movable seek_clover c.phase Nobody c.mark set open_phase zero stands.objects (live_passed ended));
      goes = λ side was now. subst (λ (d : Cycle). PassGoes kit laws.table laws.cycle s c d side) cleared_is
          (clear_goes kit laws.table laws.cycle s stands.resting laws.movable seek_clover c.phase Nobody c.mark set open_phase zero stands.objects (live_passed ended) side
          (λ on. (was on).told) (subst (λ (d : Cycle). Fits kit laws.table laws.cycle s d side) (sym cleared_is) now));
      stands_then = job_clear;
      search_then = tt;
    }
      where
        job_clear : StandsAt kit l (cycle_of clear_next) s (stand_of plan clear_next)
        job_clear =
            let sought = ap is_clover at.stage.kind_is ∙ seek_clover in
            let searching = stand_on kit l s c (cycle_of clear_next) true Search (jobs_of plan st) stands.jobs in
            subst (λ clover. StandsAt kit l (cycle_of clear_next) s (stand_at_copy clover (jobs_of plan st))) (sym sought) searching

    found_parts : (more : Bool) → Parts (if more then collector.Draw (searched st (st.marks.round + 1)) else collector.Announce (record st { announcement = Fix }))
    found_parts true =
        let x : CollectorMachine M = collector.Draw (searched st (st.marks.round + 1)) in
        let said = ap (λ (a : Announced). a.word) (found_says {M = M} kit l kit.kind stands.cycles stands.few st at true 0) in
        same_parts x (rw (said, found_drawn {M = M} kit l kit.kind stands.cycles stands.few st at true) refl)
        (stand_on kit l s c (cycle_of x) (is_clover st.kind) Search (jobs_of plan st) stands.jobs) tt
    found_parts false =
        let x : CollectorMachine M = collector.Announce (record st { announcement = Fix }) in
        let said = ap (λ (a : Announced). a.word) (found_says {M = M} kit l kit.kind stands.cycles stands.few st at false 0) in
        let unclear = (drawn st stands.cycles stands.few at).1 in
        let sought = ap is_clover at.stage.kind_is ∙ seek_clover in
        same_parts x (rw (said, sought, unclear) refl) tt tt

    parts_by : (end : Option SeekEnd) → seeks.end_of next ≡ end → Parts (sought st next end)
    parts_by None e = same_parts (collector.Seek st next) refl stands.jobs (record { at = goes_next; passed = passed })
    parts_by (Some Clear) e = clear_parts e
    parts_by (Some (MarkFound place)) e = found_parts (nat_lt st.marks.round SEARCHES)

    abbrev end : Option SeekEnd
    end = seeks.end_of next

    parts : Parts (sought st next end)
    parts = parts_by end refl

    -- what is fixed stays so
    fixed_found : (more : Bool) → FixStands {M = M} (if more then collector.Draw (searched st (st.marks.round + 1)) else collector.Announce (record st { announcement = Fix })) s n
    fixed_found true = λ e. stands.fixed.stands refl
    fixed_found false = λ e. stands.fixed.stands refl

    fixed_by : (end : Option SeekEnd) → FixStands {M = M} (sought st next end) s n
    fixed_by None = λ e. stands.fixed.stands refl
    fixed_by (Some Clear) = λ e. stands.fixed.stands refl
    fixed_by (Some (MarkFound place)) = fixed_found (nat_lt st.marks.round SEARCHES)

    pub heard_seek : Heard seeking
    heard_seek = record {
      notices = n;
      says = says_same l (reading words) (reading (applied step words)) s n alike stands.rows stands.says;
      spare = spare_same l (reading words) (reading (applied step words)) s stands.spare alike;
      phase = stands.announced ∙ sym (same_word end);
      drawn = stands.drawn ∙ sym (sought_drawn kit l kit.kind stands.cycles stands.few st at next end);
      acks = λ p. refl;
      roots = λ p reg runs. refl;
      rooted = λ p is. is;
      advances = subst (Advances l n.ack (announced_by seeking)) (sym (sought_announced kit l kit.kind stands.cycles stands.few st at m next end)) Stays;
      marks = λ waits. refl;
      differ = λ waits. absurd (let all = passes_is st stands.cycles stands.few at in omega (arith, all, waits));
      objects = parts.objects;
      goes = λ side stood was now. parts.goes side was now;
      still = λ a moved. moved;
      stands_then = parts.stands_then;
      search_then = parts.search_then;
      aside = λ a is. absurd is;
      fixed = fixed_by end;
      lets = λ acked all by_next. inl refl;
      roots_fixed = λ p own is retired roots. is.roots retired (inl refl);
      none_sealed = append-nil sealed;
    }

  pub draw_goes_on : (st : Stage) → Stands (collector.Draw st) → CollectorGoes kit by l words plan s n sealed (collector.Draw st)
  draw_goes_on st stands = hearing_goes kit by laws l words plan s n counts sealed (collector.Draw st) stands (heard_draw st stands)

  pub seek_goes : (st : Stage) (m : SeekMarkMachine) → Stands (collector.Seek st m) → CollectorGoes kit by l words plan s n sealed (collector.Seek st m)
  seek_goes st m stands = hearing_goes kit by laws l words plan s n counts sealed (collector.Seek st m) stands (heard_seek st m stands)
