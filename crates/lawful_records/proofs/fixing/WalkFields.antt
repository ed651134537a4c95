-- The walk loads a field, or the header to which its link leads.
use Rattle.std.specs.Prelude.{slice_index}
use Rattle.std.proofs.Common.{inl, inr, ◌≡◌, ℕ, ◌+◌, ◌<◌, ◌≤◌, ◌⊎◌, List, Some, refl, sym, ap, ◌∙◌, subst, arith}
use Rattle.call_steps.specs.declared.step.Step.TheVariants.{Load}
use Rattle.call_steps.specs.Steps.{IsInside}
use Rattle.call_steps.specs.StepLaws.{reading}
use Rattle.heap_words.specs.Layouts.{Sizes, regions_of, words_of}
use Rattle.heap_words.specs.declared.field_word.FieldWord.{FieldWord}
use Rattle.heap_words.specs.declared.field_word.FieldWord.TheVariants.{Num, Link}
use Rattle.heap_words.specs.FieldWords.{IsFieldWord, word_of, field_at}
use Rattle.heap_words.specs.FieldWordLaws.{field_at-word_of}
use Rattle.object_headers.specs.Headers.{header_at}
use Rattle.reference_fix.specs.declared.field_fix.FixMachine.{FixMachine}
use Rattle.reference_fix.specs.declared.field_fix.FixMachine.TheVariants as fix
use Rattle.reference_fix.specs.declared.fix_walk.Area.{Area}
use Rattle.reference_fix.specs.declared.fix_walk.Cursor.{Cursor}
use Rattle.reference_fix.specs.declared.fix_walk.FixWalkMachine.TheVariants as walk
use Rattle.reference_fix.specs.FieldFixes as fields
use Rattle.reference_fix.specs.FixWalks as walks
use Rattle.reference_fix.specs.FixWalks.{area_of, address, after_field, fixed_on}
use Rattle.reference_fix.specs.FixWalkRuns.{IsFixOf}
use Rattle.reference_fix.specs.MovedLinks.{leads_to, moved_link}
use Rattle.space_reclaim.specs.Plans.{Planned}
use Rattle.barriers.specs.Kits.{Kit, Stepping, Laws}
use Rattle.barriers.specs.Says.{Notices}
use Rattle.barriers.specs.Spaces.{Space, Holds}
use Rattle.barriers.specs.States.{Plain, Kept, IsHome, On}
use Rattle.barriers.proofs.words.Calls.{holds_fits}
use Rattle.barriers.proofs.words.Found.{header_inside, word_inside}
use Rattle.lawful_records.specs.declared.awaited.Awaited.{Awaited}
use Rattle.lawful_records.specs.declared.stage.Stage.{Stage}
use Rattle.lawful_records.specs.declared.collector.CollectorMachine.{CollectorMachine}
use Rattle.lawful_records.specs.declared.collector.CollectorMachine.TheVariants as collector
use Rattle.lawful_records.specs.declared.records.Sealed.{Sealed}
use Rattle.lawful_records.specs.Fixing.{Names, HasWalked, IsFieldHand, HoldsOrNames}
use Rattle.lawful_records.proofs.collecting.Goes.{CollectorStands}
use Rattle.lawful_records.proofs.fixing.Links.{LinkFound, Leads, Goes, link_leads}
use Rattle.lawful_records.proofs.fixing.WalkWords.{at_rest, rests_written, rest_word, field_over}

module _ {R W E M : Type 0} (kit : Kit R W E M) (by : Stepping R W E M) (laws : Laws kit by) (l : Sizes) (words : List ℕ) (plan : Planned) (s : Space) (n : Notices) (counts : Awaited) (sealed : List Sealed) (st : Stage) (q : Area) (u : Cursor) (len field : ℕ) where
  abbrev pub at_field_walk : FixMachine → CollectorMachine M
  at_field_walk m = collector.Walk st (walk.Field q u len field m)

  abbrev pub StandsWalk : FixMachine → Type 0
  StandsWalk m = CollectorStands kit by l words plan s n counts sealed (at_field_walk m)

  abbrev pub a : ℕ
  a = address q u

  module _ (m : FixMachine) (stands : StandsWalk m) where
    has : HasWalked s (walk.Field q u len field m)
    has = stands.fixed.stands

    pub its_area : q ≡ area_of l
    its_area = stands.collects.walks.0

    pub inside : u.region < regions_of l
    inside = stands.collects.walks.1

    pub short : u.offset < 64
    short = stands.collects.walks.2

    pub less : field < len
    less = stands.collects.walks.3

    pub few : len ≤ 30
    few = stands.collects.walks.4

    pub fixes : IsFixOf (a + 1 + field) m
    fixes = stands.collects.walks.5

    pub home : IsHome (s.state a)
    home = has.at.0

    pub long : s.len a ≡ len
    long = has.at.1

    pub hand : IsFieldHand s a field m
    hand = has.at.2

    pub rests : (s.state a ≡ Plain) ⊎ (s.state a ≡ Kept)
    rests = at_rest (s.state a) home (λ aside. stands.fixed.aside a aside)

    pub within : field < s.len a
    within = rw long less

    pub word_is : s.field a field ≡ s.word a field
    word_is = rest_word kit.protocol _ s stands.objects a field home within rests

    pub word_there : reading words (a + 1 + field) ≡ word_of (s.word a field)
    word_there = stands.says.objects.word a field (rests_written (s.state a) rests) within

    pub word_fits : IsFieldWord (s.word a field)
    word_fits = stands.says.objects.word_fits a field (rests_written (s.state a) rests) within

    pub place_inside : a + 1 + field < words_of l
    place_inside = word_inside l (reading words) s n stands.rows stands.says a field (rests_written (s.state a) rests) within

    pub over : On (Names s) (s.field a field) → HasWalked s (after_field q u len field)
    over names = field_over l stands.layout (reading words) s n stands.rows stands.says q its_area u inside short len field less few home long has.passed names

    -- it is at the field still
    pub goes_on : (next : FixMachine) → IsFieldHand s a field next → HasWalked s (walk.Field q u len field next)
    goes_on next in_hand = record { at = (home, long, in_hand); passed = has.passed }

  -- ---- the word of the field

  module _ (place : ℕ) (stands : StandsWalk (fix.Field place)) where
    abbrev loading : FixMachine
    loading = fix.Field place

    at : place ≡ a + 1 + field
    at = fixes loading stands

    pub field_inside : IsInside (words_of l) (Load place)
    field_inside = let low = place_inside loading stands in omega (arith, at, low)

    abbrev found : ℕ
    found = slice_index words place

    found_is : found ≡ word_of (s.word a field)
    found_is = ap (reading words) at ∙ word_there loading stands

    found_word : field_at found ≡ s.word a field
    found_word = ap field_at found_is ∙ field_at-word_of (s.word a field) (word_fits loading stands)

    led : (w : FieldWord) → s.word a field ≡ w → HasWalked s (fixed_on q u len field (fields.led place found (leads_to w)))
    led (Num number) e = over loading stands (rw (word_is loading stands, e) tt)
    led (Link birth to) e = goes_on loading stands (fix.Header place found to) (
      subst (On (Holds s)) (word_is loading stands ∙ sym found_word) (stands.objects.fields a field (home loading stands) (within loading stands)),
      found_is ∙ ap word_of (sym found_word),
      inl (word_is loading stands ∙ sym found_word),
    )

    pub field_walked : HasWalked s (walks.fed_of (walk.Field q u len field loading) found)
    field_walked = subst (λ (w : FieldWord). HasWalked s (fixed_on q u len field (fields.led place found (leads_to w)))) (sym found_word) (led (s.word a field) refl)

  -- ---- the header to which it leads

  module _ (place word to : ℕ) (stands : StandsWalk (fix.Header place word to)) where
    abbrev asking : FixMachine
    asking = fix.Header place word to

    its_link : (w : FieldWord) → leads_to w ≡ Some to → (birth : ℕ) × (w ≡ Link birth to)
    its_link (Num number) e = absurd (cc e)
    its_link (Link birth at) e = let same : at ≡ to = cc e in (birth, ap (Link birth) same)

    link : (birth : ℕ) × (field_at word ≡ Link birth to)
    link = its_link (field_at word) (fixes asking stands).1

    abbrev birth : ℕ
    birth = link.0

    holds : Holds s birth to
    holds = subst (On (Holds s)) link.1 (hand asking stands).0

    pub link_inside : IsInside (words_of l) (Load to)
    link_inside = header_inside l (reading words) s n stands.rows stands.says to holds.1

    link_fits : IsFieldWord (Link birth to)
    link_fits = holds_fits l (reading words) s n stands.rows stands.says stands.layout birth to holds

    abbrev header : ℕ
    header = slice_index words to

    -- what it holds leads to a home by then
    names_by : HoldsOrNames s a field word → Names s birth to → On (Names s) (s.field a field)
    names_by (inl same) names = rw (same, link.1) names
    names_by (inr already) names = already

    known : LinkFound s birth to (header_at header) → HasWalked s (fixed_on q u len field (fields.putting place word (moved_link (Link birth to) (header_at header))))
    known (Leads none stays names) = rw none (over asking stands (names_by (hand asking stands).2 names))
    known (Goes put is fixed names) = rw is (goes_on asking stands (fix.Exchange place word put) (rw link.1 fixed, (hand asking stands).1, (hand asking stands).2))

    pub link_walked : HasWalked s (walks.fed_of (walk.Field q u len field asking) header)
    link_walked = subst (λ (w : FieldWord). HasWalked s (fixed_on q u len field (fields.putting place word (moved_link w (header_at header))))) (sym link.1)
        (known (link_leads l (reading words) _ s n stands.rows stands.says stands.objects birth to link_fits holds))
