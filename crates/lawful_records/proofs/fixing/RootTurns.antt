-- The collector fixes a root word of a pass that has retired.
use Rattle.std.specs.Prelude.{slice_index, nat_lt, if◌then◌else◌}
use Rattle.std.proofs.Common.{◌≡◌, ◌≢◌, ℕ, ◌+◌, ◌-◌, ◌<◌, ◌≤◌, ◌⊎◌, inl, inr, Bool, true, false, List, Option, Some, None, refl, sym, ap, ◌∙◌, subst, arith}
use Rattle.std.proofs.lemmas.Bool.{cases_eq}
use Rattle.std.proofs.lemmas.Bool.Decides.{nat_tests}
use Rattle.std.proofs.lemmas.List.{append-nil}
use Rattle.call_steps.specs.declared.step.Step.TheVariants.{Load, Store}
use Rattle.call_steps.specs.Steps.{place_of, put_by, applied, IsInside}
use Rattle.call_steps.specs.StepLaws.{reading, Put, applied-puts}
use Rattle.heap_words.specs.Layouts.{Sizes, IsPass, words_of, root_at}
use Rattle.heap_words.specs.declared.limits.TheConstants.{REGISTERS}
use Rattle.heap_words.specs.declared.field_word.FieldWord.{FieldWord}
use Rattle.heap_words.specs.declared.field_word.FieldWord.TheVariants.{Num, Link}
use Rattle.heap_words.specs.FieldWords.{IsFieldWord, word_of, field_at}
use Rattle.heap_words.specs.FieldWordLaws.{field_at-word_of}
use Rattle.handshakes.specs.Handshakes.{Advances, Stays}
use Rattle.handshakes.specs.PhaseWords.{retired_word}
use Rattle.handshakes.specs.Polling.{held_in}
use Rattle.object_headers.specs.Headers.{header_at}
use Rattle.object_headers.specs.Changes.{is_clover}
use Rattle.reference_fix.specs.declared.root_fix.RootFixMachine.{RootFixMachine}
use Rattle.reference_fix.specs.declared.root_fix.RootFixMachine.TheVariants as root
use Rattle.reference_fix.specs.MovedLinks.{leads_to, moved_link}
use Rattle.reference_fix.specs.RootFixes as roots
use Rattle.reference_fix.specs.RootFixes.{IsRootFixOf}
use Rattle.reference_fix.proofs.RootFixing.{root_asks}
use Rattle.barriers.specs.Cycles.{Side}
use Rattle.space_reclaim.specs.Plans.{Planned}
use Rattle.barriers.specs.Kits.{Kit, Stepping, Laws}
use Rattle.barriers.specs.MoveWords.{IsSpare}
use Rattle.barriers.specs.Objects.{AreObjects}
use Rattle.barriers.specs.Says.{Notices, Says, put_root}
use Rattle.barriers.specs.Spaces.{Space, Holds}
use Rattle.barriers.specs.States.{On}
use Rattle.barriers.specs.Values.{value_of}
use Rattle.barriers.proofs.objects.Base.{home_live}
use Rattle.barriers.proofs.words.Found.{header_inside}
use Rattle.barriers.proofs.words.Frames.{says_same, put_same}
use Rattle.barriers.proofs.words.NoticeStores.{says_root}
use Rattle.barriers.proofs.words.Sets.{set2_cases}
use Rattle.lawful_records.specs.declared.awaited.Awaited.{Awaited}
use Rattle.lawful_records.specs.declared.stage.Announcement.{Announcement}
use Rattle.lawful_records.specs.declared.stage.Announcement.TheVariants.{Fix}
use Rattle.lawful_records.specs.declared.stage.Stage.{Stage}
use Rattle.lawful_records.specs.declared.collector.CollectorMachine.{CollectorMachine}
use Rattle.lawful_records.specs.declared.collector.CollectorMachine.TheVariants as collector
use Rattle.lawful_records.specs.declared.records.PassKnown.{PassKnown}
use Rattle.lawful_records.specs.declared.records.Sealed.{Sealed}
use Rattle.lawful_records.specs.Collectors.{look, pass_within, root_fix, rooted, drawn_of, round_of, stage_before, jobs_of}
use Rattle.lawful_records.specs.Cycling.{announced_by, cycle_of}
use Rattle.lawful_records.specs.Fixing.{Names, fixed_at, IsFixedBy, AreRootsFixed, IsFixedPass, FixStands, HasRooted, IsFixedTo}
use Rattle.lawful_records.specs.JobStands.{stand_at, stand_of, StandsAt}
use Rattle.lawful_records.specs.LawfulRecords.{AreRooted, IsMoved}
use Rattle.lawful_records.specs.Records.{number_of, acked_of}
use Rattle.lawful_records.specs.Searches.{SearchStands}
use Rattle.lawful_records.proofs.CollectorLaws.{runs}
use Rattle.lawful_records.proofs.frames.Machines.{on_stays}
use Rattle.lawful_records.proofs.frames.SpareStays.{spare_low, spare_same, root_low}
use Rattle.lawful_records.proofs.collecting.Advancing.{advances_awaited}
use Rattle.lawful_records.proofs.collecting.Goes.{next_of, CollectorStands, CollectorGoes}
use Rattle.lawful_records.proofs.collecting.HeardGoes.{HasHeard, hearing_goes}
use Rattle.lawful_records.proofs.collecting.HeardTurns.{Then, stand_awaited, fixed_awaits, then_word, then_leaves, then_objects, then_goes}
use Rattle.lawful_records.proofs.collecting.Phasing.{PassGoes, Fits, goes_same}
use Rattle.lawful_records.proofs.collecting.Stages.{stage_said, before_said, differs}
use Rattle.lawful_records.proofs.fixing.Links.{LinkFound, Leads, Goes, link_leads}
use Rattle.lawful_records.proofs.fixing.Looks.{few_awaited, fixed_awaited}
use Rattle.lawful_records.proofs.turns.Stepping.{put_alike}

full_by : (reg : ℕ) → nat_lt reg (REGISTERS - 1) ≡ false → 7 ≤ reg
full_by reg e = grind (arith, nat_tests, e)

pub names_hold : (s : Space) (w : FieldWord) → On (Names s) w → On (Holds s) w
names_hold s w on = on_stays (Names s) (Holds s) w (λ birth at is. (is.0, home_live (s.state at) is.1)) on

module _ {R W E M : Type 0} (kit : Kit R W E M) (by : Stepping R W E M) (laws : Laws kit by) (l : Sizes) (words : List ℕ) (plan : Planned) (s : Space) (n : Notices) (counts : Awaited) (sealed : List Sealed) (st : Stage) (pass reg : ℕ) where
  abbrev fixing : RootFixMachine → CollectorMachine M
  fixing m = collector.Roots st pass reg m

  abbrev Stands : RootFixMachine → Type 0
  Stands m = CollectorStands kit by l words plan s n counts sealed (fixing m)

  module _ (m : RootFixMachine) (stands : Stands m) where
    abbrev k : CollectorMachine M
    k = fixing m

    there : IsPass l pass
    there = stands.collects.in_layout

    has : HasRooted s n pass reg m
    has = stands.fixed.stands

    fix : st.announcement ≡ Fix
    fix = stands.collects.fix

    -- it stands as at a look at its pass
    as_look : CollectorStands kit by l words plan s n counts sealed (look st pass)
    as_look = record {
      layout = stands.layout;
      width = stands.width;
      says = stands.says;
      announced = stands.announced;
      drawn = stands.drawn;
      spare = stands.spare;
      rows = stands.rows;
      bare = stands.bare;
      objects = stands.objects;
      lens = stands.lens;
      resting = stands.resting;
      cycles = stands.cycles;
      few = stands.few;
      collects = record { stage = stands.collects.stage; in_layout = there; look = refl };
      planned = stands.planned;
      jobs = subst (λ (a : Announcement). StandsAt kit l (cycle_of {M = M} (look st pass)) s (stand_at (is_clover st.kind) a (jobs_of plan st))) (sym fix) tt;
      search = tt;
      awaited = stands.awaited;
      sealed_are = stands.sealed_are;
      rooted = stands.rooted;
      fixed = record {
        aside = λ a is. absurd (stands.fixed.aside a is);
        stands = λ e. absurd (let gone : false ≡ true = subst (λ (a : Announcement). fixed_at a ≡ true) fix e in cc gone);
      };
    }

    -- what a turn to this machine makes, with these notices
    record Parts (o : Notices) (x : CollectorMachine M) : Type 0 where
      phase : o.phase ≡ (let a = announced_by x in a.word)
      drawn : o.mark ≡ drawn_of x
      advances : Advances l n.ack (announced_by k) (announced_by x)
      objects : AreObjects kit.protocol (cycle_of x) s
      goes : (side : Side) → Fits kit laws.table laws.cycle s (cycle_of x) side → PassGoes kit laws.table laws.cycle s (cycle_of k) (cycle_of x) side
      stands_then : StandsAt kit l (cycle_of x) s (stand_of plan x)
      search_then : SearchStands l (cycle_of x) s x
      fixed : FixStands x s o
      lets : (acked : ℕ) → IsFixedBy x acked → IsFixedBy k acked
      roots_fixed : (number : ℕ) → AreRootsFixed x number → (number ≤ pass - 1) ⊎ ((number ≡ pass) × ((i : ℕ) → i < 8 → On (Names s) (o.root pass i)))

    unfixed : fixed_at st.announcement ≡ true → {A : Type 0} → A
    unfixed e = absurd (let gone : false ≡ true = subst (λ (a : Announcement). fixed_at a ≡ true) fix e in cc gone)

    -- the same root word, or that of another register
    on_parts : (o : Notices) (i : ℕ) (next : RootFixMachine) → o.phase ≡ n.phase → o.mark ≡ n.mark → HasRooted s o pass i next → Parts o (collector.Roots st pass i next)
    on_parts o i next phase mark fixed = record {
      phase = phase ∙ stands.announced;
      drawn = mark ∙ stands.drawn;
      advances = Stays;
      objects = stands.objects;
      goes = λ side fits. goes_same kit laws.table laws.cycle s (cycle_of k) side;
      stands_then = tt;
      search_then = tt;
      fixed = fixed;
      lets = λ acked is. is;
      roots_fixed = λ number roots. elim roots [ inl fixed_now ↦ absurd (let gone : false ≡ true = fixed_now in cc gone) | inr few ↦ inl few ];
    }

    -- the pass is over
    then_parts : (o : Notices) (more : Bool) → nat_lt pass st.layout.passes ≡ more → o.phase ≡ n.phase → o.mark ≡ n.mark → ((i : ℕ) → i < 8 → On (Names s) (o.root pass i)) → Parts o (Then kit by laws l words plan s n counts sealed st pass as_look more)
    then_parts o more e phase mark all = record {
      phase = phase ∙ (stands.announced ∙ sym (then_word kit by laws l words plan s n counts sealed st pass as_look more));
      drawn = mark ∙ (stands.drawn ∙ sym (then_leaves kit by laws l words plan s n counts sealed st pass as_look more).0);
      advances = advances_awaited kit plan l kit.kind stands.cycles st stands.collects.stage pass n.ack more there e (inl has.retired);
      objects = then_objects kit by laws l words plan s n counts sealed st pass as_look more;
      goes = λ side fits. then_goes kit by laws l words plan s n counts sealed st pass as_look more side fits;
      stands_then = (stand_awaited kit by laws l words plan s n counts sealed st pass as_look more).0;
      search_then = (stand_awaited kit by laws l words plan s n counts sealed st pass as_look more).1;
      fixed = fixed_awaits kit by laws l words plan s n counts sealed st pass as_look o more;
      lets = λ acked is. elim is [ inl fixed_now ↦ unfixed (fixed_awaited kit plan st pass more fixed_now) | inr stance ↦ inr stance ];
      roots_fixed = λ number roots. elim roots [
        | inl fixed_now ↦ unfixed (fixed_awaited kit plan st pass more fixed_now)
        | inr few ↦ elim (cases_eq number pass) [
          | inl here ↦ inr (here, all)
          | inr other ↦ (let most = few_awaited kit plan st pass more e in inl (omega (arith, few, most, other)))
        ]
      ];
    }

    -- its root word is fixed
    module _ (o : Notices) (phase : o.phase ≡ n.phase) (mark : o.mark ≡ n.mark) (acks : o.ack pass ≡ n.ack pass) (below : (i : ℕ) → i < reg + 1 → On (Names s) (o.root pass i)) where
      next_parts : (last : Bool) → nat_lt reg (REGISTERS - 1) ≡ last → Parts o (if last then root_fix st pass (reg + 1) else Then kit by laws l words plan s n counts sealed st pass as_look (nat_lt pass st.layout.passes))
      next_parts true e = on_parts o (reg + 1) (root.Root (root_at st.layout (pass_within st.layout pass) (reg + 1))) phase mark (record { retired = acks ∙ has.retired; below = below; hand = tt })
      next_parts false e =
          let full : 7 ≤ reg = full_by reg e in
          then_parts o (nat_lt pass st.layout.passes) refl phase mark (λ i less. below i (omega (arith, less, full)))

    -- ---- the turn, with these notices

    step_put : IsInside (words_of l) (roots.asks_of m) → Put (reading words) (reading (applied (roots.asks_of m) words)) (place_of (roots.asks_of m)) (put_by (roots.asks_of m) (reading words (place_of (roots.asks_of m))))
    step_put inside = applied-puts (roots.asks_of m) words (root_asks (root_at l pass reg) m stands.collects.fixes) (subst (λ len. IsInside len (roots.asks_of m)) (sym stands.width) inside)

    module _ (o : Notices) (x : CollectorMachine M) (is : next_of kit by l words plan k ≡ x) (says : Says l (reading (applied (roots.asks_of m) words)) s o)
        (spare : IsSpare l (reading (applied (roots.asks_of m) words)) s) (acks : (p : ℕ) → o.ack p ≡ n.ack p) (marks : o.mark ≡ n.mark) (elsewhere : (p i : ℕ) → p ≢ pass → o.root p i ≡ n.root p i) (keeps : (p i : ℕ) → n.ack p ≢ retired_word → o.root p i ≡ n.root p i)
        (rooted_on : (p : PassKnown R W E) → AreRooted s n (number_of p) p.pass.registers → AreRooted s o (number_of p) p.pass.registers) (parts : Parts o x) where
      root_fixed : (p : PassKnown R W E) → IsFixedPass kit k s n p → acked_of p ≡ retired_word → AreRootsFixed x (number_of p) → (i : ℕ) → i < 8 → On (Names s) (o.root (number_of p) i)
      root_fixed p fixed retired roots_then i less = elim (parts.roots_fixed (number_of p) roots_then) [
        | inl low ↦ subst (On (Names s)) (sym (elsewhere (number_of p) i (λ e. (let first = there.0 in omega (arith, e, low, first))))) (fixed.roots retired (inr low) i less)
        | inr own ↦ subst (λ (number : ℕ). On (Names s) (o.root number i)) (sym own.0) (own.1 i less)
      ]

      root_heard : HasHeard kit by laws l words plan s n counts sealed k
      root_heard = record {
        notices = o;
        says = says;
        spare = spare;
        phase = parts.phase ∙ ap (λ (y : CollectorMachine M). (let a = announced_by y in a.word)) (sym is);
        drawn = parts.drawn ∙ ap drawn_of (sym is);
        acks = acks;
        roots = keeps;
        rooted = rooted_on;
        advances = subst (λ (y : CollectorMachine M). Advances l n.ack (announced_by k) (announced_by y)) (sym is) parts.advances;
        marks = λ waits. marks;
        differ = λ waits. (differs st (stage_said l kit.kind stands.cycles stands.few st stands.collects.stage) (before_said l kit.kind stands.cycles stands.few st stands.collects.stage), (let b = stage_before st in runs b.announcement b.cycle (round_of b)));
        objects = subst (λ (y : CollectorMachine M). AreObjects kit.protocol (cycle_of y) s) (sym is) parts.objects;
        goes = λ side at was now. subst (λ (y : CollectorMachine M). Fits kit laws.table laws.cycle s (cycle_of y) side → PassGoes kit laws.table laws.cycle s (cycle_of k) (cycle_of y) side) (sym is) (parts.goes side) now;
        still = λ a moved. moved;
        stands_then = subst (λ (y : CollectorMachine M). StandsAt kit l (cycle_of y) s (stand_of plan y)) (sym is) parts.stands_then;
        search_then = subst (λ (y : CollectorMachine M). SearchStands l (cycle_of y) s y) (sym is) parts.search_then;
        aside = λ a none. absurd none;
        fixed = subst (λ (y : CollectorMachine M). FixStands y s o) (sym is) parts.fixed;
        lets = λ acked all by_next. parts.lets acked (subst (λ (y : CollectorMachine M). IsFixedBy y acked) is by_next);
        roots_fixed = λ p own fixed retired roots_then. root_fixed p fixed retired (subst (λ (y : CollectorMachine M). AreRootsFixed y (number_of p)) is roots_then);
        none_sealed = append-nil sealed;
      }

      root_goes_by : CollectorGoes kit by l words plan s n sealed k
      root_goes_by = hearing_goes kit by laws l words plan s n counts sealed k stands root_heard

    -- a load, after which the machine is this
    load_goes : (alike : (y : ℕ) → reading (applied (roots.asks_of m) words) y ≡ reading words y) (x : CollectorMachine M) → next_of kit by l words plan k ≡ x → Parts n x → CollectorGoes kit by l words plan s n sealed k
    load_goes alike x is parts = root_goes_by n x is (says_same l (reading words) (reading (applied (roots.asks_of m) words)) s n alike stands.rows stands.says)
        (spare_same l (reading words) (reading (applied (roots.asks_of m) words)) s stands.spare alike) (λ p. refl) refl (λ p i other. refl) (λ p i on. refl) (λ p rooted_is. rooted_is) parts

    -- ---- the word that it holds

    small : reg < 8
    small = omega (arith, stands.collects.small)

    abbrev held : FieldWord
    held = n.root pass reg

    held_fits : IsFieldWord held
    held_fits = stands.says.notices.root_fits pass reg there small

    held_there : reading words (root_at l pass reg) ≡ word_of held
    held_there = stands.says.notices.root pass reg there small

    below_held : On (Names s) held → (i : ℕ) → i < reg + 1 → On (Names s) (n.root pass i)
    below_held on i less = elim (cases_eq i reg) [ inl here ↦ rw here on | inr other ↦ has.below i (omega (arith, less, other)) ]

  -- ---- its steps

  module _ (place : ℕ) (stands : Stands (root.Root place)) where
    abbrev loading : RootFixMachine
    loading = root.Root place

    at : place ≡ root_at l pass reg
    at = stands.collects.fixes

    root_inside : IsInside (words_of l) (Load place)
    root_inside = let is = there loading stands in let few = small loading stands in omega (arith, at, is.0, is.1, few)

    abbrev found : ℕ
    found = slice_index words place

    found_is : found ≡ word_of (held loading stands)
    found_is = ap (reading words) at ∙ held_there loading stands

    found_word : field_at found ≡ held loading stands
    found_word = ap field_at found_is ∙ field_at-word_of (held loading stands) (held_fits loading stands)

    alike : (y : ℕ) → reading (applied (Load place) words) y ≡ reading words y
    alike = put_same (reading words) (reading (applied (Load place) words)) place (reading words place) (step_put loading stands root_inside) refl

    led_goes : (w : FieldWord) → held loading stands ≡ w → next_of kit by l words plan (fixing loading) ≡ rooted kit plan st pass reg (roots.led place found (leads_to w)) (roots.end_of (roots.led place found (leads_to w))) → CollectorGoes kit by l words plan s n sealed (fixing loading)
    led_goes (Num number) e is = load_goes loading stands alike _ is (next_parts loading stands n refl refl refl (below_held loading stands (rw e tt)) (nat_lt reg (REGISTERS - 1)) refl)
    led_goes (Link birth to) e is = load_goes loading stands alike _ is (on_parts loading stands n reg (root.Header place found to) refl refl (record { retired = (has loading stands).retired; below = (has loading stands).below; hand = found_word }))

    root_loads : CollectorGoes kit by l words plan s n sealed (fixing loading)
    root_loads = led_goes (held loading stands) refl (ap (λ (w : FieldWord). rooted kit plan st pass reg (roots.led place found (leads_to w)) (roots.end_of (roots.led place found (leads_to w)))) found_word)

  module _ (place word to : ℕ) (stands : Stands (root.Header place word to)) where
    abbrev asking : RootFixMachine
    asking = root.Header place word to

    hand : field_at word ≡ held asking stands
    hand = (has asking stands).hand

    link : (w : FieldWord) → leads_to w ≡ Some to → (birth : ℕ) × (w ≡ Link birth to)
    link (Num number) e = absurd (cc e)
    link (Link birth at) e = let same : at ≡ to = cc e in (birth, ap (Link birth) same)

    its : (birth : ℕ) × (field_at word ≡ Link birth to)
    its = link (field_at word) stands.collects.fixes.1

    abbrev birth : ℕ
    birth = its.0

    held_is : held asking stands ≡ Link birth to
    held_is = sym hand ∙ its.1

    holds : Holds s birth to
    holds = subst (On (Holds s)) held_is (stands.rooted pass (there asking stands) (has asking stands).retired reg (small asking stands))

    fits : IsFieldWord (Link birth to)
    fits = subst IsFieldWord held_is (held_fits asking stands)

    header_there : IsInside (words_of l) (Load to)
    header_there = header_inside l (reading words) s n stands.rows stands.says to holds.1

    abbrev header : ℕ
    header = slice_index words to

    same : (y : ℕ) → reading (applied (Load to) words) y ≡ reading words y
    same = put_same (reading words) (reading (applied (Load to) words)) to (reading words to) (step_put asking stands header_there) refl

    abbrev After : Option ℕ → CollectorMachine M
    After o = rooted kit plan st pass reg (roots.putting place o) (roots.end_of (roots.putting place o))

    after_is : (o : Option ℕ) → moved_link (Link birth to) (header_at header) ≡ o → next_of kit by l words plan (fixing asking) ≡ After o
    after_is o e = ap (λ (w : FieldWord). After (moved_link w (header_at header))) its.1 ∙ ap After e

    known_goes : LinkFound s birth to (header_at header) → CollectorGoes kit by l words plan s n sealed (fixing asking)
    known_goes (Leads none stays names) = load_goes asking stands same _ (after_is None none) (next_parts asking stands n refl refl refl (below_held asking stands (rw held_is names)) (nat_lt reg (REGISTERS - 1)) refl)
    known_goes (Goes put is fixed names) = load_goes asking stands same _ (after_is (Some put) is) (on_parts asking stands n reg (root.Store place put) refl refl (record {
      retired = (has asking stands).retired;
      below = (has asking stands).below;
      hand = subst (λ (w : FieldWord). IsFixedTo s w put) (sym held_is) fixed;
    }))

    root_asked : CollectorGoes kit by l words plan s n sealed (fixing asking)
    root_asked = known_goes (link_leads l (reading words) _ s n stands.rows stands.says stands.objects birth to fits holds)

  module _ (place put : ℕ) (stands : Stands (root.Store place put)) where
    abbrev storing : RootFixMachine
    storing = root.Store place put

    fixed : IsFixedTo s (held storing stands) put
    fixed = (has storing stands).hand

    abbrev new : FieldWord
    new = field_at put

    abbrev o : Notices
    o = put_root n pass reg new

    store_there : IsInside (words_of l) (Store place put)
    store_there = let is = there storing stands in let few = small storing stands in let at = stands.collects.fixes in omega (arith, at, is.0, is.1, few)

    stored : Put (reading words) (reading (applied (Store place put) words)) (root_at l pass reg) (word_of new)
    stored = put_alike (reading words) (reading (applied (Store place put) words)) place put (root_at l pass reg) (word_of new) stands.collects.fixes fixed.word (step_put storing stands store_there)

    here_or : (p i : ℕ) → ((p ≡ pass) × (i ≡ reg) × (o.root p i ≡ new)) ⊎ (o.root p i ≡ n.root p i)
    here_or p i = elim (set2_cases n.root pass reg new p i) [ inl here ↦ inl (here.0, here.1, here.2) | inr there_it ↦ inr there_it.1 ]

    rooted_on : (p : PassKnown R W E) → AreRooted s n (number_of p) p.pass.registers → AreRooted s o (number_of p) p.pass.registers
    rooted_on p is i less = elim (here_or (number_of p) i) [
      | inl here ↦ record {
        value = ap value_of here.2 ∙ (fixed.value ∙ (ap value_of (ap (n.root pass) (sym here.1) ∙ ap (λ (q : ℕ). n.root q i) (sym here.0)) ∙ (is i less).value));
        good = subst (λ (w : FieldWord). IsFieldWord w × On (Holds s) w) (sym here.2) (fixed.fits, names_hold s new fixed.names);
      }
      | inr same ↦ subst (IsMoved s (held_in p.pass.registers i)) (sym same) (is i less)
    ]

    below_new : (i : ℕ) → i < reg + 1 → On (Names s) (o.root pass i)
    below_new i less = elim (here_or pass i) [
      | inl here ↦ subst (On (Names s)) (sym here.2) fixed.names
      | inr same ↦ elim (cases_eq i reg) [
        | inl at ↦ elim (set2_cases n.root pass reg new pass i) [ inl here ↦ subst (On (Names s)) (sym here.2) fixed.names | inr apart ↦ absurd (apart.0 (refl, at)) ]
        | inr other ↦ subst (On (Names s)) (sym same) ((has storing stands).below i (omega (arith, less, other)))
      ]
    ]

    elsewhere : (p i : ℕ) → p ≢ pass → o.root p i ≡ n.root p i
    elsewhere p i apart = elim (here_or p i) [ inl here ↦ absurd (apart here.0) | inr same ↦ same ]

    root_stores : CollectorGoes kit by l words plan s n sealed (fixing storing)
    root_stores = root_goes_by storing stands o _ refl
        (says_root l (reading words) (reading (applied (Store place put) words)) s n stands.rows stands.says pass reg new (there storing stands) (small storing stands) fixed.fits stored)
        (spare_low l (reading words) (reading (applied (Store place put) words)) s stands.spare (root_at l pass reg) (word_of new) stored (root_low l pass reg (there storing stands) (small storing stands)))
        (λ p. refl) refl elsewhere (λ p i on. elsewhere p i (λ e. on (ap n.ack e ∙ (has storing stands).retired))) rooted_on
        (next_parts storing stands o refl refl refl below_new (nat_lt reg (REGISTERS - 1)) refl)

  pub root_inside_of : (m : RootFixMachine) → Stands m → IsInside (words_of l) (roots.asks_of m)
  root_inside_of (root.Root place) stands = root_inside place stands
  root_inside_of (root.Header place word to) stands = header_there place word to stands
  root_inside_of (root.Store place put) stands = store_there place put stands
  root_inside_of root.Ended stands = absurd stands.collects.fixes

  pub root_goes : (m : RootFixMachine) → Stands m → CollectorGoes kit by l words plan s n sealed (fixing m)
  root_goes (root.Root place) stands = root_loads place stands
  root_goes (root.Header place word to) stands = root_asked place word to stands
  root_goes (root.Store place put) stands = root_stores place put stands
  root_goes root.Ended stands = absurd stands.collects.fixes
