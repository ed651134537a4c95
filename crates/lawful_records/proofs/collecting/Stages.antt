-- The stages of a collector: the phase word of each, where it stands in its cycle, and the one before it.
use Rattle.std.specs.Prelude.{IsSome, ◌&&◌, not, if◌then◌else◌}
use Rattle.std.proofs.Common.{◌≡◌, ◌≢◌, ℕ, ◌-◌, ◌^◌, ◌<◌, ◌≤◌, ◌==◌, Bool, true, false, Option, refl, sym, ap, ◌∙◌, subst, arith}
use Rattle.std.proofs.lemmas.Bool.{eqb-false}
use Rattle.std.proofs.lemmas.Bool.Decides.{nat_tests}
use Rattle.heap_words.specs.Layouts.{Sizes}
use Rattle.object_headers.specs.declared.change.Kind.{Kind}
use Rattle.object_headers.specs.Changes.{is_clover}
use Rattle.handshakes.specs.declared.phase_word.Phase.TheVariants as phases
use Rattle.handshakes.specs.declared.phase_word.PhaseWord.{PhaseWord}
use Rattle.handshakes.specs.PhaseWords.{IsPhaseWord, phase_word_of, phase_word_at}
use Rattle.handshakes.specs.PhaseWordLaws.{phase_word_of-word_of_phase, phase_word_at-word_of_phase}
use Rattle.barriers.specs.Stances.{Stance, stance_at, stance_in, stance_of, is_last}
use Rattle.barriers.specs.Stances as stances
use Rattle.lawful_records.specs.declared.stage.Announcement.{Announcement}
use Rattle.lawful_records.specs.declared.stage.Announcement.TheVariants.{Mark, Confirm, Search, Copy, Fix, Free}
use Rattle.lawful_records.specs.declared.stage.Marks.{Marks}
use Rattle.lawful_records.specs.declared.stage.Stage.{Stage}
use Rattle.lawful_records.specs.Collectors.{phase_of, round_by, round_of, said_of, word_of, is_refused, before_by, stage_before}
use Rattle.lawful_records.specs.Handshakes.{IsMarked, IsStage}
use Rattle.lawful_records.proofs.CollectorLaws.{fits}

-- ---- one stage

-- the number of a search is that of one of the eight
abbrev pub RoundFits : Announcement → ℕ → Type 0
RoundFits Search round = (1 ≤ round) × (round ≤ 8)
RoundFits a round = Unit {0}

-- a stage whose word says where it stands
pub record IsSaid (s : Stage) : Type 0 where
  pub small : s.cycle ≤ 64
  pub round : RoundFits s.announcement s.marks.round

-- the stance of an announcement
abbrev pub stance_by : Announcement → Stance
stance_by Mark = stances.Mark
stance_by Confirm = stances.Confirm
stance_by Search = stances.Search
stance_by Copy = stances.Copy
stance_by Fix = stances.Fix
stance_by Free = stances.Free

not_last : (round : ℕ) → 1 ≤ round → round ≤ 8 → is_last round ≡ false
not_last round first last = grind (arith, nat_tests, first, last)

search_stance : (last : Bool) → last ≡ false → (if last then stances.Copy else stances.Search) ≡ stances.Search
search_stance last is = rw is refl

copy_stance : (clover : Bool) → (let last = is_last (if clover then 9 else 0) in if last then stances.Copy else stances.Search) ≡ stances.Copy
copy_stance true = refl
copy_stance false = refl

stance_said : (a : Announcement) (kind : Kind) (round : ℕ) → RoundFits a round → stance_in (phase_of a) (round_by a kind round) ≡ stance_by a
stance_said Mark kind round in_round = refl
stance_said Confirm kind round in_round = refl
stance_said Search kind round in_round = search_stance (is_last round) (not_last round in_round.0 in_round.1)
stance_said Copy kind round in_round = copy_stance (is_clover kind)
stance_said Fix kind round in_round = refl
stance_said Free kind round in_round = refl

copy_round : (clover : Bool) → (if clover then 9 else 0) < 2 ^ 24
copy_round true = omega arith
copy_round false = omega arith

small_round : (a : Announcement) (kind : Kind) (round : ℕ) → RoundFits a round → round_by a kind round < 2 ^ 24
small_round Mark kind round in_round = omega arith
small_round Confirm kind round in_round = omega arith
small_round Search kind round in_round = omega (arith, in_round.1)
small_round Copy kind round in_round = copy_round (is_clover kind)
small_round Fix kind round in_round = omega arith
small_round Free kind round in_round = omega arith

module _ (s : Stage) (is : IsSaid s) where
  said_fits : IsPhaseWord (said_of s)
  said_fits = fits s.announcement s.cycle (round_of s) (omega (arith, is.small)) (small_round s.announcement s.kind s.marks.round is.round)

  pub said_at : phase_word_at (word_of s) ≡ said_of s
  said_at = phase_word_at-word_of_phase (said_of s) said_fits

  pub stance_word : stance_at (word_of s) ≡ stance_by s.announcement
  stance_word = ap stance_of said_at ∙ stance_said s.announcement s.kind s.marks.round is.round

  pub phase_word : IsSome (phase_word_of (word_of s))
  phase_word = subst (λ (w : Option PhaseWord). IsSome w) (sym (phase_word_of-word_of_phase (said_of s) said_fits)) refl

-- ---- the one before it

-- by whether it is the first search, whether marks are sought, and whether the cycle's was refused
abbrev pub ahead : Announcement → Bool → Bool → Bool → Announcement
ahead Mark first clover refused = Free
ahead Confirm first clover refused = Mark
ahead Search first clover refused = if first then Confirm else Search
ahead Copy first clover refused = if clover then Search else Confirm
ahead Fix first clover refused = if refused then Search else Copy
ahead Free first clover refused = Fix

abbrev pub ahead_of : Stage → Announcement
ahead_of s = ahead s.announcement (s.marks.round == 1) (is_clover s.kind) (is_refused s)

pub ahead_is : (a : Announcement) (s : Stage) → (let b = before_by a s in b.announcement) ≡ ahead a (s.marks.round == 1) (is_clover s.kind) (is_refused s)
ahead_is Mark s = refl
ahead_is Confirm s = refl
ahead_is Search s = refl
ahead_is Copy s = refl
ahead_is Fix s = refl
ahead_is Free s = refl

ahead_cycle : (a : Announcement) (s : Stage) (n : ℕ) → s.cycle ≤ n → (let b = before_by a s in b.cycle) ≤ n
ahead_cycle Mark s n few = omega (arith, few)
ahead_cycle Confirm s n few = few
ahead_cycle Search s n few = few
ahead_cycle Copy s n few = few
ahead_cycle Fix s n few = few
ahead_cycle Free s n few = few

-- the round of a stage of a collector
round_marked : (clover : Bool) (a : Announcement) (cycle : ℕ) (m : Marks) → IsMarked clover a cycle m → RoundFits a m.round
round_marked true Mark cycle m is = tt
round_marked true Confirm cycle m is = tt
round_marked true Search cycle m is = let drawn = is.0 in (drawn.first, drawn.last)
round_marked true Copy cycle m is = tt
round_marked true Fix cycle m is = tt
round_marked true Free cycle m is = tt
round_marked false Search cycle m is = absurd is.0
round_marked false Mark cycle m is = tt
round_marked false Confirm cycle m is = tt
round_marked false Copy cycle m is = tt
round_marked false Fix cycle m is = tt
round_marked false Free cycle m is = tt

search_before : (round : ℕ) → 1 ≤ round → round ≤ 8 → (first : Bool) → (round == 1) ≡ first → RoundFits (if first then Confirm else Search) (round - 1)
search_before round low high true is = tt
search_before round low high false is = let other = eqb-false round 1 is in (omega (arith, low, other), omega (arith, high))

copy_before : (cycle : ℕ) (m : Marks) (clover : Bool) → IsMarked clover Copy cycle m → RoundFits (if clover then Search else Confirm) m.round
copy_before cycle m true is = let drawn = is.0 in (drawn.first, drawn.last)
copy_before cycle m false is = tt

fix_before : (cycle : ℕ) (m : Marks) (clover : Bool) → IsMarked clover Fix cycle m → (refused : Bool) → (clover && not m.clear) ≡ refused → RoundFits (if refused then Search else Copy) m.round
fix_before cycle m true is true e = let drawn = is.0 in (drawn.first, drawn.last)
fix_before cycle m true is false e = tt
fix_before cycle m false is true e = absurd (cc e)
fix_before cycle m false is false e = tt

before_round : (a : Announcement) (s : Stage) → IsMarked (is_clover s.kind) a s.cycle s.marks → RoundFits (let b = before_by a s in b.announcement) (let b = before_by a s in b.marks.round)
before_round Mark s is = tt
before_round Confirm s is = tt
before_round Search s is = let in_round = round_marked (is_clover s.kind) Search s.cycle s.marks is in search_before s.marks.round in_round.0 in_round.1 (s.marks.round == 1) refl
before_round Copy s is = copy_before s.cycle s.marks (is_clover s.kind) is
before_round Fix s is = fix_before s.cycle s.marks (is_clover s.kind) is (is_refused s) refl
before_round Free s is = tt

module _ (l : Sizes) (kind : Kind) (cycles : ℕ) (few : cycles ≤ 64) (s : Stage) (is : IsStage l kind cycles s) where
  pub marked_as : IsMarked (is_clover s.kind) s.announcement s.cycle s.marks
  marked_as = subst (λ (k : Kind). IsMarked (is_clover k) s.announcement s.cycle s.marks) (sym is.kind_is) is.marked

  pub stage_said : IsSaid s
  stage_said = record { small = omega (arith, few, is.last); round = round_marked (is_clover s.kind) s.announcement s.cycle s.marks marked_as }

  pub before_said : IsSaid (stage_before s)
  before_said = record { small = ahead_cycle s.announcement s 64 (omega (arith, few, is.last)); round = before_round s.announcement s marked_as }

-- ---- no two that follow one another are alike

phase_same : (v w : PhaseWord) → v ≡ w → v.phase ≡ w.phase
phase_same v w same = ap (λ (x : PhaseWord). x.phase) same

round_same : (v w : PhaseWord) → v ≡ w → v.round ≡ w.round
round_same v w same = ap (λ (x : PhaseWord). x.round) same

-- a search and the announcement before it, by whether it is the first
search_differs : (kind : Kind) (round : ℕ) (first : Bool) → 1 ≤ round → phase_of (if first then Confirm else Search) ≡ phases.Copy → round_by (if first then Confirm else Search) kind (round - 1) ≡ round → ⊥
search_differs kind round true low phase same = cc phase
search_differs kind round false low phase same = omega (arith, same, low)

-- Copy and the announcement before it
copy_differs : (kind : Kind) (round : ℕ) (clover : Bool) → is_clover kind ≡ clover → RoundFits (if clover then Search else Confirm) round → phase_of (if clover then Search else Confirm) ≡ phases.Copy → round_by (if clover then Search else Confirm) kind round ≡ (if clover then 9 else 0) → ⊥
copy_differs kind round true e fits phase same = omega (arith, same, fits.1)
copy_differs kind round false e fits phase same = cc phase

fix_differs : (refused : Bool) → phase_of (if refused then Search else Copy) ≡ phases.Fix → ⊥
fix_differs true phase = cc phase
fix_differs false phase = cc phase

differs_by : (a : Announcement) (s : Stage) → RoundFits a s.marks.round → RoundFits (let b = before_by a s in b.announcement) (let b = before_by a s in b.marks.round) → said_of (before_by a s) ≡ said_of (record s { announcement = a }) → ⊥
differs_by Mark s fits before same = cc (phase_same _ _ same)
differs_by Confirm s fits before same = cc (phase_same _ _ same)
differs_by Search s fits before same = search_differs s.kind s.marks.round (s.marks.round == 1) fits.0 (phase_same _ _ same) (round_same _ _ same)
differs_by Copy s fits before same = copy_differs s.kind s.marks.round (is_clover s.kind) refl before (phase_same _ _ same) (round_same _ _ same)
differs_by Fix s fits before same = fix_differs (is_refused s) (phase_same _ _ same)
differs_by Free s fits before same = cc (phase_same _ _ same)

pub differs : (s : Stage) → IsSaid s → IsSaid (stage_before s) → word_of (stage_before s) ≢ word_of s
differs s is before same =
    let said : said_of (stage_before s) ≡ said_of s = sym (said_at (stage_before s) before) ∙ ap phase_word_at same ∙ said_at s is in
    differs_by s.announcement s is.round before.round said
