-- A turn of a pass: what holds where it takes its step, and what the step makes of that.
use Rattle.std.specs.Prelude.{◌≡◌, ◌≢◌, ℕ, ◌<◌, Bool, true, false, List, length, slice_index, IsSome, Option, Some, None}
use Rattle.call_steps.specs.Steps.{place_of, applied}
use Rattle.call_steps.specs.StepLaws.{reading}
use Rattle.heap_words.specs.Layouts.{Sizes, IsLayout, IsPass, words_of}
use Rattle.heap_history.specs.declared.call.Call.{Call}
use Rattle.handshakes.specs.Handshakes.{Announced, AnswersWith}
use Rattle.handshakes.specs.declared.pass_view.PassView.{PassView}
use Rattle.handshakes.specs.PhaseWords.{retired_word, phase_word_of, phase_word_at}
use Rattle.handshakes.specs.Polling.{mark_by}
use Rattle.barriers.specs.Spaces.{Space, is_mark}
use Rattle.heap_words.specs.declared.field_word.FieldWord.TheVariants.{Num}
use Rattle.barriers.specs.Says.{Notices, Says}
use Rattle.barriers.specs.Rows.{Rows}
use Rattle.barriers.specs.States.{Absent}
use Rattle.barriers.specs.MoveWords.{IsSpare}
use Rattle.barriers.specs.Stances.{stance_at}
use Rattle.barriers.specs.Cycles.{Cycle, Side, Handshaken}
use Rattle.barriers.specs.Objects.{AreObjects, HasLens}
use Rattle.barriers.specs.Knowns.{Known, spot_of}
use Rattle.barriers.specs.Kits.{Kit, Stepping, IsFromSearch, own_of, cycle_at}
use Rattle.lawful_records.specs.Frames.{writes_in, KeepsFields, Leaves, LeavesSearch, Beside}
use Rattle.lawful_records.specs.LawfulRecords.{IsPassRecord}
use Rattle.lawful_records.specs.Meetings.{FitsHand}
use Rattle.lawful_records.specs.Records.{number_of, side_of, known_of}
use Rattle.lawful_records.specs.Turns.{pass_asks, pass_turned, change_by, front_by, with_change, LooksOn}
use Rattle.barriers.specs.declared.pass.PassMachine.{PassMachine}
use Rattle.lawful_records.specs.declared.records.PassKnown.{PassKnown}

-- the side of a pass that minds its mark or does not
abbrev pub side_with : Bool → PassView → List Call → Side
side_with minds view seen = record { pass = view.pass; acked = stance_at view.acked; own = own_of minds view; seen = seen }

-- What a collector's announcement is to a pass, where this is the mark word: no pass has ended by it, it is the cycle's phase word, and who has
-- answered, with a mark or without, fits the cycle. A pass that has not answered gets the mark that goes with it; the mark is not 0; and a pass
-- with a mark finds a phase word of its own cycle.
pub record IsAnnounced (minds : Bool) (l : Sizes) (a : Announced) (c : Cycle) (mark : ℕ) : Type 0 where
  pub stance : stance_at a.word ≡ c.phase
  pub runs : a.word ≢ retired_word
  pub phase : IsSome (phase_word_of a.word)
  pub shaken : (view : PassView) (seen : List Call) → IsPass l view.pass → AnswersWith a view.pass view.acked view.mark → view.acked ≢ retired_word → Handshaken c (side_with minds view seen)
  pub answered : (pass : ℕ) → IsPass l pass → a.passed < pass → (let w = phase_word_at a.word in mark_by w.phase w.round a.mark_before mark) ≡ a.mark
  pub zero : is_mark c.mark (Num 0) ≡ false
  pub number : (view : PassView) → IsPass l view.pass → AnswersWith a view.pass view.acked view.mark → FitsHand (own_of minds view)
  pub current : (view : PassView) → IsPass l view.pass → AnswersWith a view.pass view.acked view.mark → view.acked ≢ retired_word → view.mark ≢ 0 → (cycle_at a.word ≡ cycle_at view.acked) × IsFromSearch (stance_at a.word)

-- the pass in this machine
abbrev pub in_machine : {R W E : Type 0} → PassKnown R W E → PassMachine R W E → PassKnown R W E
in_machine p m = record p { pass = record p.pass { machine = m } }

-- the seal of the object that a call is at
abbrev pub seal_at : Space → Option Known → Option (List Call)
seal_at s None = None
seal_at s (Some k) = s.seal (let z = spot_of k in z.at)

module _ {R W E M : Type 0} (kit : Kit R W E M) (by : Stepping R W E M) where
  -- the words say the space, in which the objects are as the history has them, and the pass stands where it is
  pub record PassStands (l : Sizes) (a : Announced) (c : Cycle) (s : Space) (n : Notices) (p : PassKnown R W E) (words : List ℕ) : Type 0 where
    pub layout : IsLayout l
    pub width : length words ≡ words_of l
    pub says : Says l (reading words) s n
    pub announcement : IsAnnounced kit.minds l a c n.mark
    pub announced : n.phase ≡ a.word
    pub spare : IsSpare l (reading words) s
    pub rows : Rows l s.state s.len s.ends s.region
    pub bare : (at : ℕ) → s.state at ≡ Absent → s.wide at ≡ 0
    pub objects : AreObjects kit.protocol c s
    pub lens : HasLens s
    pub late : c.late ≡ true
    pub own : IsPassRecord kit l a c s n p

  -- the word that its step finds
  abbrev pub found_by : PassKnown R W E → List ℕ → ℕ
  found_by p words = slice_index words (place_of (pass_asks kit by p.pass.machine))

  -- the change that its step is, if it is one
  abbrev pub change_in : PassKnown R W E → List ℕ → Option Call
  change_in p words = change_by kit by p.pass.machine (number_of p) (found_by p words)

  -- the seal of the object that its call is at
  abbrev pub seal_for : Space → PassMachine R W E → Option (List Call)
  seal_for s m = seal_at s (known_of kit m)

  -- the pass after its step
  abbrev pub pass_after : Space → PassKnown R W E → List ℕ → PassKnown R W E
  pass_after s p words = pass_turned kit by (seal_for s p.pass.machine) s.history p (found_by p words)

  -- after the step the words say this space, and all of that holds of it; to others the step is as one of this pass's
  pub record PassTurn (l : Sizes) (a : Announced) (c : Cycle) (s : Space) (n : Notices) (p : PassKnown R W E) (words : List ℕ) (t : Space) (o : Notices) : Type 0 where
    pub says : Says l (reading (applied (pass_asks kit by p.pass.machine) words)) t o
    pub spare : IsSpare l (reading (applied (pass_asks kit by p.pass.machine) words)) t
    pub rows : Rows l t.state t.len t.ends t.region
    pub objects : AreObjects kit.protocol c t
    pub lens : HasLens t
    pub beside : Beside kit l c (number_of p) s t n o
    pub leaves : Leaves kit.protocol l c s t
    pub search : LeavesSearch kit.kind c (side_of kit p) s t
    pub fields : KeepsFields (writes_in (known_of kit p.pass.machine)) s t
    pub history : t.history ≡ with_change (change_in p words) s.history
    pub number : number_of (pass_after s p words) ≡ number_of p
    pub looks : LooksOn (front_by kit by p.pass.machine (found_by p words)) (seal_for s p.pass.machine) s.history p.seen
    pub own : IsPassRecord kit l a c t o (pass_after s p words)

  -- there is such a turn
  pub record HasTurn (l : Sizes) (a : Announced) (c : Cycle) (s : Space) (n : Notices) (p : PassKnown R W E) (words : List ℕ) : Type 0 where
    pub space : Space
    pub notices : Notices
    pub turn : PassTurn l a c s n p words space notices
