-- The collector tags the object of a job.
use Rattle.std.specs.Prelude.{◌≢◌, ◌⊎◌, take, drop}
use Rattle.std.specs.List.{All, slice_get}
use Rattle.std.proofs.Common.{inl, inr, ◌≡◌, ℕ, ◌==◌, true, List, get_or, refl, sym, ap, ◌∙◌, subst, arith}
use Rattle.barriers.specs.States.{IsHome}
use Rattle.lawful_records.specs.Fixing.{IsAside, AreFieldsFixed, AreJobsAside}
use Rattle.lawful_records.proofs.fixing.Frames.{NamesOn, word_names}
use Rattle.lawful_records.proofs.fixing.Objects.{tag_objects}
use Rattle.lawful_records.proofs.fixing.Looks.{before_fixed}
use Rattle.lawful_records.proofs.fixing.Turns.{calm_passes}
use Rattle.std.proofs.lemmas.List.{append-nil}
use Rattle.std.proofs.lemmas.List.Elements.{All-weaker}
use prog.Atomic.{either}
use Rattle.call_steps.specs.declared.step.Step.{Step}
use Rattle.call_steps.specs.declared.step.Step.TheVariants.{Exchange}
use Rattle.call_steps.specs.Steps.{applied, IsInside}
use Rattle.call_steps.specs.StepLaws.{reading, Put, applied-puts}
use Rattle.heap_words.specs.Layouts.{Sizes, words_of}
use Rattle.object_headers.specs.declared.header.Header.{Header}
use Rattle.object_headers.specs.declared.header.State.TheVariants as states
use Rattle.object_headers.specs.Changes.{is_clover, does_tag}
use Rattle.object_headers.specs.Headers.{IsHeader, word_of_header, header_at}
use Rattle.object_headers.specs.HeaderLaws.{header_at-word_of_header}
use Rattle.space_reclaim.specs.declared.move_job.MoveJob.{MoveJob}
use Rattle.barriers.specs.Spaces.{Space}
use Rattle.barriers.specs.States.{State, Absent, Plain, Tagged, Forward, IsLive}
use Rattle.barriers.specs.Accesses.{put_state}
use Rattle.barriers.specs.Says.{Notices, header_by}
use Rattle.barriers.specs.Cycles.{Cycle, Nobody, IsMoving}
use Rattle.barriers.specs.Events.{IsStill}
use Rattle.barriers.specs.CycleLaws.{IsTaggedOrKept}
use Rattle.barriers.specs.MoveTurns.{Restated}
use Rattle.barriers.specs.MoveWords.{IsSpare}
use Rattle.barriers.specs.Objects.{AreObjects, planned_header}
use Rattle.barriers.specs.Kits.{Kit, Stepping, Laws}
use Rattle.barriers.proofs.objects.Stills.{tag_step}
use Rattle.barriers.proofs.words.Found.{header_inside}
use Rattle.barriers.proofs.words.Headers.{live_there}
use Rattle.barriers.proofs.words.Rows.{row_area}
use Rattle.barriers.proofs.words.Sets.{set_cases, set_here, set_else}
use Rattle.barriers.proofs.words.Tags.{word_as, rows_tagged, header_tagged, says_tagged}
use Rattle.handshakes.specs.Handshakes.{Announced}
use Rattle.space_reclaim.specs.Plans.{Planned}
use Rattle.lawful_records.specs.declared.stage.Announcement.{Announcement}
use Rattle.lawful_records.specs.declared.stage.Announcement.TheVariants.{Copy}
use Rattle.lawful_records.specs.declared.awaited.Awaited.{Awaited}
use Rattle.lawful_records.specs.declared.stage.Stage.{Stage}
use Rattle.lawful_records.specs.declared.collector.CollectorMachine.{CollectorMachine}
use Rattle.lawful_records.specs.declared.collector.CollectorMachine.TheVariants as collector
use Rattle.lawful_records.specs.declared.records.Sealed.{Sealed}
use Rattle.lawful_records.specs.Collectors.{is_refused, tag_at}
use Rattle.lawful_records.specs.Cycling.{told_before, announced_by, cycle_of}
use Rattle.lawful_records.specs.Jobs.{tagged_by, tagged_word}
use Rattle.lawful_records.specs.JobStands.{stand_of, IsPlannedJob, IsUnmoved, IsAfter, AreUnmoved, IsPlainAt, IsTaggedAt, IsTagging, StandsAt}
use Rattle.lawful_records.specs.LawfulRecords.{IsThereSealed, AreSealed, IsPassRecord}
use Rattle.lawful_records.specs.declared.records.PassKnown.{PassKnown}
use Rattle.lawful_records.proofs.frames.SeenTurns.{seen_by_others}
use Rattle.lawful_records.proofs.frames.SpareStays.{spare_low}
use Rattle.lawful_records.proofs.collecting.FirstJobs.{tags_by}
use Rattle.lawful_records.proofs.collecting.Goes.{CollectorStands, CollectorGoes, quiet_passes}
use Rattle.lawful_records.proofs.collecting.JobBegins.{forward_to, never_copy, stand_tag}
use Rattle.lawful_records.proofs.collecting.PlanLists.{all_in}
use Rattle.lawful_records.proofs.collecting.Works.{IsBefore, announced_is, cycle_is, drawn_is, none_sought, tag_before}

-- the word of a Plain header, tagged
tagged_is : (h : Header) (word : ℕ) → IsHeader h → (let g = h in g.state) ≡ states.Plain → word ≡ word_of_header h → tagged_word word ≡ word_of_header (record h { state = states.Tagged })
tagged_is h word fits plain is =
    let found : header_at word ≡ h = ap header_at is ∙ header_at-word_of_header h fits in
    ap (λ (g : Header). tagged_by g.state g word) found ∙ ap (λ x. tagged_by x h word) plain

-- ---- one state changes from Plain to Tagged

module _ (s : Space) (a : ℕ) (plain : s.state a ≡ Plain) where
  abbrev t : Space
  t = put_state s a Tagged

  live_on : (x : ℕ) → IsLive (s.state x) → IsLive (t.state x)
  live_on x live = elim (set_cases s.state a x Tagged) [ inl q ↦ rw q.1 tt | inr q ↦ rw q.1 live ]

  live_back : (x : ℕ) → IsLive (t.state x) → IsLive (s.state x)
  live_back x live = elim (set_cases s.state a x Tagged) [ inl q ↦ rw (q.0, plain) tt | inr q ↦ rw q.1 at live ]

  pub moving_back : (x : ℕ) → IsMoving (t.state x) → IsMoving (s.state x)
  moving_back x moving = elim (set_cases s.state a x Tagged) [ inl q ↦ absurd (rw q.1 at moving) | inr q ↦ rw q.1 at moving ]

  pub bare_tagged : ((x : ℕ) → s.state x ≡ Absent → s.wide x ≡ 0) → (x : ℕ) → t.state x ≡ Absent → t.wide x ≡ 0
  bare_tagged bare x none = elim (set_cases s.state a x Tagged) [ inl q ↦ absurd (let gone : Tagged ≡ Absent = sym q.1 ∙ none in cc gone) | inr q ↦ bare x (sym q.1 ∙ none) ]

  pub sealed_tagged : (sealed : List Sealed) → AreSealed s sealed → AreSealed t sealed
  sealed_tagged sealed are = record {
    there = All-weaker (IsThereSealed s) (IsThereSealed t) (λ one is. record { live = live_on one.at is.live; len = is.len }) sealed are.there;
    seals = λ x f live inside. are.seals x f (live_back x live) inside;
  }

  forward_was : (x to : ℕ) → t.state x ≡ Forward to → s.state x ≡ Forward to
  forward_was x to gone = elim (set_cases s.state a x Tagged) [
    | inl q ↦ absurd (let never : Tagged ≡ Forward to = sym q.1 ∙ gone in cc never)
    | inr q ↦ sym q.1 ∙ gone
  ]

  unmoved_tagged : (l : Sizes) (j : MoveJob) → IsUnmoved l s j → IsUnmoved l t j
  unmoved_tagged l j is = record {
    pool = is.pool;
    room = is.room;
    wide = is.wide;
    above = λ some x there has. is.above some x (λ none. there_on x there none) has;
    still = elim (set_cases s.state a j.from Tagged) [ inl q ↦ subst IsStill (sym q.1) tt | inr q ↦ subst IsStill (sym q.1) is.still ];
    len = is.len;
    birth = is.birth;
    header = is.header;
    wideless = is.wideless;
    address = is.address;
    apart = λ x to gone. is.apart x to (forward_was x to gone);
  }
    where
      there_on : (x : ℕ) → t.state x ≢ Absent → s.state x ≡ Absent → ⊥
      there_on x there none = elim (set_cases s.state a x Tagged) [
        | inl q ↦ absurd (let gone : Plain ≡ Absent = sym plain ∙ (ap s.state (sym q.0) ∙ none) in cc gone)
        | inr q ↦ there (q.1 ∙ none)
      ]

  pub are_unmoved_tagged : (l : Sizes) (ends : ℕ → ℕ) (jobs : List MoveJob) → AreUnmoved l s ends jobs → AreUnmoved l t ends jobs
  are_unmoved_tagged l ends jobs are = record { each = All-weaker (IsUnmoved l s) (IsUnmoved l t) (unmoved_tagged l) jobs are.each; laid = are.laid; after = are.after }

  pub forwards_tagged : ((x to : ℕ) → s.state x ≡ Forward to → s.to x ≡ to) → (x to : ℕ) → t.state x ≡ Forward to → t.to x ≡ to
  forwards_tagged gone x to now = gone x to (forward_was x to now)

  -- that object is tagged then, and others stay what they are
  pub tagged_then : (job : MoveJob) → job.from ≡ a → (j : MoveJob) → IsTaggedAt s j ⊎ (j ≡ job) → IsTaggedAt t j
  tagged_then job here j (inl is) = elim (set_cases s.state a j.from Tagged) [ inl q ↦ subst IsTaggedOrKept (sym q.1) tt | inr q ↦ subst IsTaggedOrKept (sym q.1) is ]
  tagged_then job here j (inr same) = subst IsTaggedOrKept (sym (ap t.state (ap (λ (i : MoveJob). i.from) same ∙ here) ∙ set_here s.state a Tagged)) tt

  pub plain_then : (job : MoveJob) → job.from ≡ a → (j : MoveJob) → IsPlainAt s j → IsAfter job j → IsPlainAt t j
  plain_then job here j is after = set_else s.state a j.from Tagged (λ same. after.other (here ∙ sym same)) ∙ is

module _ {R W E M : Type 0} (kit : Kit R W E M) (by : Stepping R W E M) (laws : Laws kit by) (l : Sizes) (words : List ℕ) (plan : Planned) (s : Space) (n : Notices) (counts : Awaited) (sealed : List Sealed) (st : Stage) (job : MoveJob) (next : ℕ)
    (stands : CollectorStands kit by l words plan s n counts sealed (collector.Tag st job next)) where
  abbrev k : CollectorMachine M
  k = collector.Tag st job next

  abbrev tagging : IsTagging l s job (take next plan.jobs) (drop next plan.jobs) plan.jobs
  tagging = stands.jobs

  its : IsPlannedJob kit.kind job
  its = all_in (IsPlannedJob kit.kind) plan.jobs job stands.planned.jobs stands.collects.2

  tags : does_tag kit.kind ≡ true
  tags = tags_by kit.kind its.moves stands.collects.1

  unmoved : IsUnmoved l s job
  unmoved = tagging.own

  plain : s.state job.from ≡ Plain
  plain = tagging.plain

  live : IsLive (s.state job.from)
  live = rw plain tt

  -- ---- the word

  abbrev plain_header : Header
  plain_header = planned_header s job

  header_fits : IsHeader plain_header
  header_fits =
      let fits : IsHeader (header_by Plain (s.colour job.from) (s.len job.from) (s.birth job.from)) = subst (λ x. IsHeader (header_by x (s.colour job.from) (s.len job.from) (s.birth job.from))) plain (stands.says.objects.header_fits job.from (live_there (s.state job.from) live)) in
      subst (λ len. IsHeader (header_by Plain (s.colour job.from) len job.birth)) unmoved.len (subst (λ birth. IsHeader (header_by Plain (s.colour job.from) (s.len job.from) birth)) unmoved.birth fits)

  -- the words of the object's header
  as_planned : (x : State) → word_as s job.from x ≡ word_of_header (header_by x (s.colour job.from) job.len job.birth)
  as_planned x = ap (λ len. word_of_header (header_by x (s.colour job.from) len (s.birth job.from))) unmoved.len ∙ ap (λ birth. word_of_header (header_by x (s.colour job.from) job.len birth)) unmoved.birth

  want_is : job.header ≡ word_as s job.from Plain
  want_is = unmoved.header ∙ sym (as_planned Plain)

  put_is : tagged_word job.header ≡ word_as s job.from Tagged
  put_is = tagged_is plain_header job.header header_fits refl unmoved.header ∙ sym (as_planned Tagged)

  abbrev step : Step
  step = Exchange job.from job.header (tagged_word job.header)

  pub tag_inside : IsInside (words_of l) step
  tag_inside = header_inside l (reading words) s n stands.rows stands.says job.from live

  abbrev then_words : ℕ → ℕ
  then_words = reading (applied step words)

  exchanged : Put (reading words) then_words job.from (either (reading words job.from == word_as s job.from Plain) (word_as s job.from Tagged) (reading words job.from))
  exchanged =
      let was : Put (reading words) then_words job.from (either (reading words job.from == job.header) (tagged_word job.header) (reading words job.from)) =
      applied-puts step words (λ e. cc e) (subst (λ len. IsInside len step) (sym stands.width) tag_inside) in
      subst (λ want. Put (reading words) then_words job.from (either (reading words job.from == want) (word_as s job.from Tagged) (reading words job.from))) want_is
      (subst (λ put. Put (reading words) then_words job.from (either (reading words job.from == job.header) put (reading words job.from))) put_is was)

  tagged_spare : IsSpare l then_words (put_state s job.from Tagged)
  tagged_spare =
      let low = (row_area l s.state s.len s.ends s.region stands.rows job.from 0 (live_there (s.state job.from) live) (omega arith)).1 in
      spare_low l (reading words) then_words s stands.spare job.from (either (reading words job.from == word_as s job.from Plain) (word_as s job.from Tagged) (reading words job.from)) exchanged (omega (arith, low))

  -- ---- the objects

  copy : st.announcement ≡ Copy
  copy = stands.collects.0.next_is

  nobody : (cycle_of {M = M} k).told ≡ Nobody
  nobody = ap (λ (a : Announcement). told_before a (is_refused st)) copy

  forwards : (x to : ℕ) → s.state x ≡ Forward to → s.to x ≡ to
  forwards = forward_to kit.protocol (cycle_of {M = M} k) s stands.objects

  abbrev after : Space
  after = put_state s job.from Tagged

  tagged : Restated kit.protocol (cycle_of {M = M} k) s after
  tagged = tag_step kit.protocol laws.table (cycle_of {M = M} k) s job.from stands.objects stands.lens (laws.movable.tags tags) nobody plain (never_copy l s forwards job unmoved)

  -- ---- the next tag

  abbrev on : CollectorMachine M
  on = tag_at (slice_get plan.jobs next) st next

  before : IsBefore st on
  before = tag_before kit plan st (slice_get plan.jobs next) next

  rest_then : All (IsPlainAt after) (drop next plan.jobs)
  rest_then i d less = plain_then s job.from plain job refl (get_or (drop next plan.jobs) i d) (tagging.rest i d less) (tagging.after i d less)

  stand_then : StandsAt kit l (cycle_of on) after (stand_of plan on)
  stand_then =
      stand_tag kit by laws l stands.layout plan stands.planned after (rows_tagged l s stands.rows job.from plain) (forwards_tagged s job.from plain forwards)
      (slice_get plan.jobs next) st next refl copy (ap is_clover stands.collects.0.stage.kind_is ∙ stands.collects.1) stands.collects.0.planned
      (are_unmoved_tagged s job.from plain l s.ends plan.jobs tagging.unmoved) tagging.targets
      (All-weaker (λ j. IsTaggedAt s j ⊎ (j ≡ job)) (IsTaggedAt after) (tagged_then s job.from plain job refl) (take next plan.jobs) tagging.tagged) rest_then

  quiet : (p : PassKnown R W E) → IsPassRecord kit l (announced_by k) (cycle_of k) s n p → IsPassRecord kit l (announced_by k) (cycle_of k) after n p
  quiet = quiet_passes kit by l words k s after n (seen_by_others kit.protocol laws.table (cycle_of {M = M} k) s after stands.objects tagged.seen) (λ region own. record { word = refl; ends = refl }) refl

  -- ---- what is fixed

  names_on : NamesOn s after
  names_on birth at is = elim (set_cases s.state job.from at Tagged) [ inl q ↦ (is.0, subst IsHome (sym q.1) tt) | inr q ↦ (is.0, subst IsHome (sym q.1) is.1) ]

  home_back : (a : ℕ) → IsHome (after.state a) → IsHome (s.state a)
  home_back a home = elim (set_cases s.state job.from a Tagged) [ inl q ↦ subst IsHome (sym (ap s.state q.0 ∙ plain)) tt | inr q ↦ subst IsHome q.1 home ]

  aside_then : AreJobsAside {M = M} plan on after
  aside_then a aside = tag_objects kit plan st next (slice_get plan.jobs next) refl stands.collects.0.planned stands.collects.0.next_is (ap is_clover stands.collects.0.stage.kind_is ∙ stands.collects.1) a (elim (set_cases s.state job.from a Tagged) [
    | inl q ↦ (job, stands.collects.2, q.0)
    | inr q ↦ stands.fixed.aside a (subst IsAside q.1 aside)
  ])

  fields_then : AreFieldsFixed after
  fields_then a f home less = word_names s after names_on (s.field a f) (stands.fixed.stands refl a f (home_back a home) less)

  pub tag_goes : CollectorGoes kit by l words plan s n sealed k
  tag_goes = record {
    space = after;
    notices = n;
    says = says_tagged l s stands.rows job.from plain (reading words) then_words n stands.says exchanged;
    announced = stands.announced ∙ sym (ap (λ (a : Announced). a.word) (announced_is st on before));
    drawn = stands.drawn ∙ sym (drawn_is st on before);
    spare = tagged_spare;
    rows = rows_tagged l s stands.rows job.from plain;
    bare = bare_tagged s job.from plain stands.bare;
    objects = subst (λ (d : Cycle). AreObjects kit.protocol d after) (sym (cycle_is st on before)) tagged.objects;
    lens = tagged.lens;
    resting = λ a moving. absurd (stands.resting a (moving_back s job.from plain a moving));
    history = refl;
    passes = λ p own. subst (λ (a : Announced). IsPassRecord kit l a (cycle_of on) after n p) (sym (announced_is st on before)) (subst (λ (d : Cycle). IsPassRecord kit l (announced_by k) d after n p) (sym (cycle_is st on before)) (quiet p own));
    jobs = stand_then;
    search = none_sought st l (cycle_of on) after on before;
    sealed_are = subst (AreSealed after) (sym (append-nil sealed)) (sealed_tagged s job.from plain sealed stands.sealed_are);
    seals = tt;
    fixed = record {
      own = record { aside = aside_then; stands = before_fixed st after n on before fields_then };
      passes = λ p own is. calm_passes kit l k on s after n refl names_on p own is;
    };
    heads = λ b. header_tagged l s stands.rows job.from plain kit.kind b tags;
  }
