-- The walk exchanges the word of a field for a link to the object's home.
use Rattle.std.proofs.Common.{inl, inr, ◌≡◌, ◌≢◌, ℕ, ◌+◌, ◌<◌, ◌⊎◌, ◌==◌, false, List, Option, Some, None, refl, sym, ap, ◌∙◌, subst, arith}
use prog.Atomic.{either}
use Rattle.std.proofs.lemmas.Bool.{cases_eq}
use Rattle.call_steps.specs.declared.step.Step.TheVariants.{Exchange}
use Rattle.call_steps.specs.Steps.{applied, IsInside}
use Rattle.call_steps.specs.StepLaws.{reading, Put, applied-puts}
use Rattle.heap_words.specs.Layouts.{Sizes, words_of, wide_at}
use Rattle.heap_words.specs.declared.field_word.FieldWord.{FieldWord}
use Rattle.heap_words.specs.declared.field_word.FieldWord.TheVariants.{Num, Link}
use Rattle.heap_words.specs.FieldWords.{word_of, field_at}
use Rattle.heap_words.specs.FieldWordLaws.{field_at-word_of}
use Rattle.heap_history.specs.NewestFirst.{value_at}
use Rattle.reference_fix.specs.declared.field_fix.FixMachine.{FixMachine}
use Rattle.reference_fix.specs.declared.field_fix.FixMachine.TheVariants as fix
use Rattle.reference_fix.specs.declared.fix_walk.Area.{Area}
use Rattle.reference_fix.specs.declared.fix_walk.Cursor.{Cursor}
use Rattle.reference_fix.specs.FixWalks.{after_field}
use Rattle.object_headers.specs.declared.header.Header.{Header}
use Rattle.reference_fix.specs.MovedLinks.{moved_link}
use Rattle.space_reclaim.specs.Plans.{Planned}
use Rattle.barriers.specs.Accesses.{put_word}
use Rattle.barriers.specs.Cycles.{Cycle}
use Rattle.barriers.specs.CallTurns.{Seen}
use Rattle.barriers.specs.Events.{Unmarked, Writable}
use Rattle.barriers.specs.Kits.{Kit, Stepping, Laws}
use Rattle.barriers.specs.Objects.{AreObjects}
use Rattle.barriers.specs.Protocols.{OnHand}
use Rattle.barriers.specs.Says.{Notices, Says}
use Rattle.barriers.specs.Spaces.{Space, is_mark}
use Rattle.barriers.specs.States.{State, Plain, Kept, IsHome, On}
use Rattle.barriers.specs.Values.{value_of}
use Rattle.barriers.proofs.objects.Changes.{IsPut}
use Rattle.barriers.proofs.objects.Puts.{Site, At_home, put_seen, put_objects}
use Rattle.barriers.proofs.words.Frames.{exchange_won, exchange_lost}
use Rattle.barriers.proofs.words.Headers.{home_there}
use Rattle.barriers.proofs.words.Rows.{row_area}
use Rattle.barriers.proofs.words.Sets.{set2_cases}
use Rattle.barriers.proofs.words.Stores.{says_word}
use Rattle.lawful_records.specs.declared.awaited.Awaited.{Awaited}
use Rattle.lawful_records.specs.declared.stage.Stage.{Stage}
use Rattle.lawful_records.specs.declared.records.Sealed.{Sealed}
use Rattle.lawful_records.specs.Cycling.{cycle_of}
use Rattle.lawful_records.specs.Fixing.{Names, HasFixed, HasWalked, IsFixedTo}
use Rattle.lawful_records.proofs.frames.SeenTurns.{seen_by_others}
use Rattle.lawful_records.proofs.frames.SpareStays.{spare_low}
use Rattle.lawful_records.proofs.fixing.RootTurns.{names_hold}
use Rattle.lawful_records.proofs.fixing.WalkFields.{at_field_walk, StandsWalk, its_area, inside, short, less, few, fixes, home, long, hand, rests, within, word_is, word_there, word_fits, place_inside, over}
use Rattle.lawful_records.proofs.fixing.WalkLoads.{load_step}
use Rattle.lawful_records.proofs.fixing.WalkTurns.{WalkStep}
use Rattle.lawful_records.proofs.fixing.WalkWords.{rests_written, field_over}
use Rattle.reference_fix.specs.FixWalks.{address}
use Rattle.reference_fix.specs.declared.fix_walk.FixWalkMachine.TheVariants as walk

-- a link is not the mark, which is a number
link_unmarked : (mark : Option FieldWord) (birth to : ℕ) → OnHand (λ b a. ⊥) mark → is_mark mark (Link birth to) ≡ false
link_unmarked None birth to number = refl
link_unmarked (Some (Num m)) birth to number = refl
link_unmarked (Some (Link b a)) birth to number = absurd number

-- so is a word of a link's value none
value_unmarked : (mark : Option FieldWord) (v w : FieldWord) (birth to : ℕ) → w ≡ Link birth to → value_of v ≡ value_of w → OnHand (λ b a. ⊥) mark → is_mark mark v ≡ false
value_unmarked mark (Link b a) w birth to is same number = link_unmarked mark b a number
value_unmarked mark (Num k) w birth to is same number = absurd (let both : value_of (Num k) ≡ value_of (Link birth to) = same ∙ ap value_of is in cc both)

-- only a link has moved
moved_from : (w : FieldWord) (h : Header) (put : ℕ) → moved_link w h ≡ Some put → (birth : ℕ) × (to : ℕ) × (w ≡ Link birth to)
moved_from (Num k) h put is = absurd (cc is)
moved_from (Link birth to) h put is = (birth, to, refl)

writable_rest : (told : _) (mark : Option FieldWord) (x : State) (o w : FieldWord) → (x ≡ Plain) ⊎ (x ≡ Kept) → Writable told mark x o w
writable_rest told mark x o w (inl is) = rw is tt
writable_rest told mark x o w (inr is) = rw is tt

module _ {R W E M : Type 0} (kit : Kit R W E M) (by : Stepping R W E M) (laws : Laws kit by) (l : Sizes) (words : List ℕ) (plan : Planned) (s : Space) (n : Notices) (counts : Awaited) (sealed : List Sealed) (st : Stage) (q : Area) (u : Cursor) (len field place word put : ℕ)
    (stands : StandsWalk kit by laws l words plan s n counts sealed st q u len field (fix.Exchange place word put)) where
  abbrev m : FixMachine
  m = fix.Exchange place word put

  abbrev a : ℕ
  a = address q u

  abbrev C : Cycle
  C = cycle_of (at_field_walk kit by laws l words plan s n counts sealed st q u len field m)

  abbrev new : FieldWord
  new = field_at put

  at : place ≡ a + 1 + field
  at = (fixes kit by laws l words plan s n counts sealed st q u len field m stands).0

  its_home : IsHome (s.state a)
  its_home = home kit by laws l words plan s n counts sealed st q u len field m stands

  its_within : field < s.len a
  its_within = within kit by laws l words plan s n counts sealed st q u len field m stands

  its_rests : (s.state a ≡ Plain) ⊎ (s.state a ≡ Kept)
  its_rests = rests kit by laws l words plan s n counts sealed st q u len field m stands

  its_word : s.field a field ≡ s.word a field
  its_word = word_is kit by laws l words plan s n counts sealed st q u len field m stands

  fixed : IsFixedTo s (field_at word) put
  fixed = (hand kit by laws l words plan s n counts sealed st q u len field m stands).0

  packed : word ≡ word_of (field_at word)
  packed = (hand kit by laws l words plan s n counts sealed st q u len field m stands).1

  pub put_inside : IsInside (words_of l) (Exchange place word put)
  put_inside = let low = place_inside kit by laws l words plan s n counts sealed st q u len field m stands in omega (arith, at, low)

  abbrev next_words : ℕ → ℕ
  next_words = reading (applied (Exchange place word put) words)

  exchanged : Put (reading words) next_words place (either (reading words place == word) put (reading words place))
  exchanged = applied-puts (Exchange place word put) words (λ e. cc e) (subst (λ size. IsInside size (Exchange place word put)) (sym stands.width) put_inside)

  there : reading words place ≡ word_of (s.word a field)
  there = ap (reading words) at ∙ word_there kit by laws l words plan s n counts sealed st q u len field m stands

  -- ---- where the field holds another word, it leads to a home already

  module _ (other : reading words place ≢ word) where
    names : On (Names s) (s.field a field)
    names = elim (hand kit by laws l words plan s n counts sealed st q u len field m stands).2 [
      | inl same ↦ absurd (other (there ∙ (ap word_of (sym its_word ∙ same) ∙ sym packed)))
      | inr already ↦ already
    ]

    pub lost_step : WalkStep kit by laws l words plan s n counts sealed st (walk.Field q u len field m) stands s
    lost_step = load_step kit by laws l words plan s n counts sealed st (walk.Field q u len field m) stands (exchange_lost (reading words) next_words place word put other exchanged)
        (over kit by laws l words plan s n counts sealed st q u len field m stands names)

  -- ---- where it holds that word

  module _ (same : reading words place ≡ word) where
    held : s.word a field ≡ field_at word
    held = sym (field_at-word_of (s.word a field) (word_fits kit by laws l words plan s n counts sealed st q u len field m stands)) ∙ ap field_at (sym there ∙ same)

    abbrev t : Space
    t = put_word s (s.birth a) a field new s.history

    home_is : s.home (s.birth a) ≡ a
    home_is = stands.objects.home a its_home

    value_same : value_of new ≡ value_at s.history (s.birth a) field
    value_same = fixed.value ∙ (ap value_of (sym (its_word ∙ held)) ∙ stands.objects.agrees a field its_home its_within)

    no_change : IsPut s.history s.history (s.birth a) field (value_of new)
    no_change x g = elim (cases_eq x (s.birth a)) [
      | inl own ↦ elim (cases_eq g field) [
        | inl its ↦ inl (own, its, ap (λ b. value_at s.history b g) own ∙ (ap (value_at s.history (s.birth a)) its ∙ sym value_same))
        | inr other ↦ inr ((λ both. other both.1), refl)
      ]
      | inr other ↦ inr ((λ both. other both.0), refl)
    ]

    unmarked : Unmarked C new
    unmarked clear = let link = moved_from (field_at word) _ put (fixes kit by laws l words plan s n counts sealed st q u len field m stands).2 in value_unmarked C.mark new (field_at word) link.0 link.1 link.2 fixed.value stands.objects.number

    stored : Put (reading words) next_words (a + 1 + field) (word_of new)
    stored = subst (λ x. Put (reading words) next_words x (word_of new)) at (subst (Put (reading words) next_words place) fixed.word (exchange_won (reading words) next_words place word put same exchanged))

    says_then : Says l next_words t n
    says_then = says_word l (reading words) next_words s n stands.rows stands.says a field new t.field s.history (rests_written (s.state a) its_rests) its_within fixed.fits stored

    abbrev site : Site C s (s.home (s.birth a)) a field new
    site = At_home (sym home_is) (writable_rest C.told C.mark (s.state a) (s.word a field) new its_rests)

    seen : Seen kit.protocol C s t
    seen = put_seen kit.protocol laws.table C s stands.objects (s.birth a) a field new s.history (λ early before. before) (rw home_is its_home) (ap s.birth home_is) unmarked (names_hold s new fixed.names) site no_change

    objects_then : AreObjects kit.protocol C t
    objects_then = put_objects kit.protocol laws.table C s stands.objects (s.birth a) a field new s.history (λ early before. before) (rw home_is its_home) (ap s.birth home_is) unmarked (names_hold s new fixed.names) site no_change

    -- its field leads to a home, and all that were passed do so still
    field_now : t.field a field ≡ new
    field_now = elim (set2_cases s.field (s.home (s.birth a)) field new a field) [ inl here ↦ here.2 | inr apart ↦ absurd (apart.0 (sym home_is, refl)) ]

    passed_then : (end : ℕ) → HasFixed s end → HasFixed t end
    passed_then end passed x f its f_less below = elim (set2_cases s.field (s.home (s.birth a)) field new x f) [
      | inl here ↦ subst (On (Names t)) (sym here.2) fixed.names
      | inr apart ↦ subst (On (Names t)) (sym apart.1) (passed x f its f_less below)
    ]

    walked_then : HasWalked t (after_field q u len field)
    walked_then = field_over l stands.layout next_words t n stands.rows says_then q (its_area kit by laws l words plan s n counts sealed st q u len field m stands) u
        (inside kit by laws l words plan s n counts sealed st q u len field m stands) (short kit by laws l words plan s n counts sealed st q u len field m stands)
        len field (less kit by laws l words plan s n counts sealed st q u len field m stands) (few kit by laws l words plan s n counts sealed st q u len field m stands)
        its_home (long kit by laws l words plan s n counts sealed st q u len field m stands)
        (passed_then (a + 1 + field) (let has = stands.fixed.stands in has.passed)) (subst (On (Names t)) (sym field_now) fixed.names)

    pub won_step : WalkStep kit by laws l words plan s n counts sealed st (walk.Field q u len field m) stands t
    won_step = record {
      says = says_then;
      spare = spare_low l (reading words) next_words s stands.spare (a + 1 + field) (word_of new) stored low;
      rows = stands.rows;
      bare = λ x. (refl, refl);
      objects = objects_then;
      lens = stands.lens;
      seen = seen_by_others kit.protocol laws.table C s t stands.objects seen;
      regions = λ region. record { word = refl; ends = refl };
      history = refl;
      are_sealed = record { there = λ i d below. (let one = stands.sealed_are.there i d below in record { live = one.live; len = one.len }); seals = stands.sealed_are.seals };
      heads = λ x. refl;
      names = λ birth to names. names;
      walked_on = walked_then;
    }
      where
        low : a + 1 + field < wide_at l
        low = let area = row_area l s.state s.len s.ends s.region stands.rows a (1 + field) (home_there (s.state a) its_home) (omega (arith, its_within)) in omega (arith, area.1)
