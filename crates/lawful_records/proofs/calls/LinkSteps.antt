-- The step of a call that follows the link that it has found.
use Rattle.std.proofs.Common.{◌≡◌, ◌≢◌, ℕ, inl, List, false, Option, None, refl, sym, ◌∙◌, subst}
use Rattle.call_steps.specs.StepLaws.{Put}
use Rattle.call_steps.specs.Steps.{place_of, put_by}
use Rattle.call_steps.specs.declared.step.Step.TheVariants.{Ended}
use Rattle.heap_words.specs.Layouts.{Sizes}
use Rattle.heap_words.specs.declared.field_word.FieldWord.{FieldWord}
use Rattle.heap_words.specs.declared.field_word.FieldWord.TheVariants.{Link}
use Rattle.object_headers.specs.Headers.{header_at}
use Rattle.heap_history.specs.NewestFirstLaws.{Before-refl}
use Rattle.heap_history.specs.declared.call.Call.{Call}
use Rattle.handshakes.specs.declared.follow.FollowMachine.{FollowMachine}
use Rattle.handshakes.specs.declared.follow.FollowMachine.TheVariants as follow
use Rattle.handshakes.specs.Follows.{place_by}
use Rattle.handshakes.specs.Follows as follows
use Rattle.handshakes.specs.declared.pass_view.PassView.{PassView}
use Rattle.barriers.specs.declared.spot.Spot.{Spot}
use Rattle.barriers.specs.declared.ends.TryRefusal.{TryRefusal}
use Rattle.barriers.specs.declared.ends.TryRefusal.TheVariants as refusal
use Rattle.barriers.specs.declared.front.Front.{Front}
use Rattle.barriers.specs.declared.front.Front.TheVariants.{Stays}
use Rattle.barriers.specs.Spaces.{Space, Holds}
use Rattle.barriers.specs.Says.{Notices}
use Rattle.barriers.specs.Cycles.{Cycle, Side}
use Rattle.barriers.specs.Knowns.{Task, Reads, Writes, Exchanges, Ending, Refused, Known, Follows, Over, task_of, word_ended, found_ending, followed}
use Rattle.barriers.specs.Objects.{IsCall}
use Rattle.barriers.specs.Protocols.{OnHand, AnswersSo, Suits, has_made}
use Rattle.barriers.specs.Kits.{Kit}
use Rattle.barriers.proofs.words.Calls.{holds_fits}
use Rattle.barriers.proofs.words.Frames.{says_same, put_same}
use Rattle.lawful_records.specs.LawfulRecords.{IsMoved}
use Rattle.lawful_records.specs.Meetings.{FitsHand}
use Rattle.lawful_records.specs.Turns.{change_call}
use Rattle.lawful_records.proofs.calls.Changes.{change_none}
use Rattle.lawful_records.proofs.calls.CallSteps.{SameCall, CallStands, CallGoes}
use Rattle.lawful_records.proofs.frames.PassStays.{seen_same}
use Rattle.lawful_records.proofs.frames.JobStays.{leaves_same}
use Rattle.lawful_records.proofs.frames.SearchStays.{search_same}
use Rattle.lawful_records.proofs.frames.SpareStays.{spare_same}
use Rattle.lawful_records.proofs.parties.Pasts.{looks_not}
use Rattle.lawful_records.proofs.telling.Meeting.{spot_later}
use Rattle.lawful_records.proofs.telling.Replies.{EndsSo}
use Rattle.lawful_records.proofs.turns.Holding.{side_at}
use Rattle.lawful_records.proofs.turns.PollTurns.{link_found}

-- it has ended with what it found
record EndsFound (seen : List Call) (s : Space) (z : Spot) (t : Task) (end : Ending) : Type 0 where
  hand : OnHand (Holds s) (word_ended end)
  fits : FitsHand (word_ended end)
  answers : AnswersSo seen z t end
  suits : Suits t end
  look : has_made (Over z t end) ≡ false
  taken : (why : TryRefusal) → end ≢ Refused why

module _ {R W E M : Type 0} (kit : Kit R W E M) (l : Sizes) (c : Cycle) (s : Space) (n : Notices) (memory : ℕ → ℕ) (v : PassView) (seen : List Call) (z : Spot) where
  abbrev side : Side
  side = side_at kit v seen

  module _ (t : Task) (birth at : ℕ) (stands : CallStands kit l c s n memory v seen (Follows z t (follow.Header birth at))) where
    -- the link to where the object is
    abbrev word : FieldWord
    word = Link birth (place_by (header_at (memory at)) at)

    moved : IsMoved s (Link birth at) word
    moved = link_found l memory c s n birth at stands.rows stands.says stands.objects (holds_fits l memory s n stands.rows stands.says stands.layout birth at stands.call.hand, stands.call.hand)

    call_ends : (end : Ending) → EndsFound seen s z t end → IsCall kit.protocol c s side (Over z t end)
    call_ends end is = record {
      runs = stands.call.runs;
      holds = λ y e. absurd (cc e);
      place = λ y e. absurd (cc e);
      inside = λ y e. absurd (cc e);
      counts = λ y e. absurd (cc e);
      hand = is.hand;
      head = λ h e. absurd (cc e);
      own = λ y e. absurd (cc e);
      answered = is.answers;
      refused = λ y u len e. absurd (is.taken (refusal.NoField len) cc);
      made = λ e. absurd (let look = is.look in cc);
    }

    ends_goes : (seal : Option (List Call)) (end : Ending) → EndsFound seen s z t end → (after : ℕ → ℕ) → Put memory after at (memory at) → CallGoes kit l c s s n after v seen None Stays seal (Over z t end)
    ends_goes seal end is after put = record {
      says = says_same l memory after s n (put_same memory after at (memory at) put refl) stands.rows stands.says;
      spare = spare_same l memory after s stands.spare (put_same memory after at (memory at) put refl);
      rows = stands.rows;
      objects = stands.objects;
      lens = stands.lens;
      leaves = leaves_same kit.protocol l c s;
      search = search_same kit.kind c side s;
      looks = looks_not seal s.history seen stands.side.past;
      others = seen_same kit.protocol c s;
      regions = λ region. record { word = refl; ends = refl };
      change_is = sym (change_none (Over z t end) v.pass is.look);
      history = refl;
      grows = inl refl;
      unborn = λ made unborn. unborn;
      side = stands.side;
      call = call_ends end is;
      ends = is.suits;
      met = spot_later seen seen (Follows z t (follow.Header birth at)) (Over z t end) (Before-refl seen) refl refl (λ has not. absurd (cc not)) is.fits stands.met;
    }

  found_ends : (t : Task) (birth at : ℕ) (stands : CallStands kit l c s n memory v seen (Follows z t (follow.Header birth at))) → EndsFound seen s z t (found_ending t (word t birth at stands))
  found_ends Reads birth at stands = record {
    hand = (moved Reads birth at stands).good.1;
    fits = tt;
    answers = record { value = stands.call.answered.value; reply = tt };
    suits = tt;
    look = refl;
    taken = λ why e. cc e;
  }
  found_ends (Writes new) birth at stands = absurd stands.call.answered.reply
  found_ends (Exchanges expected new) birth at stands = record {
    hand = (moved (Exchanges expected new) birth at stands).good.1;
    fits = tt;
    answers = record { value = stands.call.answered.value; reply = stands.call.answered.reply };
    suits = tt;
    look = refl;
    taken = λ why e. cc e;
  }

  pub follow_goes : (t : Task) (f : FollowMachine) → CallStands kit l c s n memory v seen (Follows z t f) → follows.asks_of f ≢ Ended
      → (after : ℕ → ℕ) → Put memory after (place_of (follows.asks_of f)) (put_by (follows.asks_of f) (memory (place_of (follows.asks_of f))))
      → (then : Known) → then ≡ followed z t (follows.fed_of f (memory (place_of (follows.asks_of f)))) → (change : Option Call) → (task_of then ≡ t → EndsSo then → change ≡ change_call then v.pass)
      → (front : Front) → front ≡ Stays → (seal : Option (List Call))
      → SameCall (Follows z t f) then × CallGoes kit l c s s n after v seen change front seal then
  follow_goes t (follow.Ended end) stands on after put then then_is change change_is front front_is seal = absurd (on refl)
  follow_goes t (follow.Header birth at) stands on after put then then_is change change_is front front_is seal =
      let end : Ending = found_ending t (word t birth at stands) in
      let is : EndsFound seen s z t end = found_ends t birth at stands in
      let none = change_none (Over z t end) v.pass is.look in
      subst (λ (then : Known). (task_of then ≡ t → EndsSo then → change ≡ change_call then v.pass) → SameCall (Follows z t (follow.Header birth at)) then × CallGoes kit l c s s n after v seen change front seal then) (sym then_is)
      (λ made. (record { spot = refl; task = refl }, rw (made refl is.suits ∙ none, front_is) (ends_goes t birth at stands seal end is after put))) change_is
