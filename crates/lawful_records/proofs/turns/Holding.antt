-- A pass's record apart from the machine that it is in, and that record after changes of words that its objects do not read.
use Rattle.std.proofs.Common.{◌≡◌, ◌≢◌, ℕ, ◌≤◌, true, List, length, refl}
use Rattle.std.specs.Prelude.{IsSome}
use Rattle.heap_words.specs.Layouts.{Sizes, IsPass}
use Rattle.heap_words.specs.declared.field_word.FieldWord.{FieldWord}
use Rattle.space_reclaim.specs.declared.region_word.RegionWord.{RegionWord}
use Rattle.heap_history.specs.declared.call.Call.{Call}
use Rattle.handshakes.specs.Handshakes.{Announced, Answers, AnswersWith}
use Rattle.handshakes.specs.PhaseWords.{retired_word, phase_word_of}
use Rattle.handshakes.specs.Polling.{held_in}
use Rattle.handshakes.specs.declared.pass_view.PassView.{PassView}
use Rattle.barriers.specs.Spaces.{Space}
use Rattle.barriers.specs.Says.{Notices, put_region}
use Rattle.barriers.specs.Stances.{stance_at}
use Rattle.barriers.specs.Cycles.{Cycle, Side, Handshaken}
use Rattle.barriers.specs.Objects.{AreObjects, IsSide, IsCall}
use Rattle.barriers.specs.Knowns.{Known}
use Rattle.barriers.specs.Protocols.{Protocol}
use Rattle.barriers.specs.Kits.{Kit, own_of}
use Rattle.lawful_records.specs.Frames.{SeenBy}
use Rattle.lawful_records.specs.LawfulRecords.{IsGood, IsAcked, IsMachine, IsUnborn, HasTold, IsPassRecord}
use Rattle.lawful_records.specs.Making.{IsRoom, has_room, lens_of}
use Rattle.lawful_records.specs.Meetings.{IsNamed, HasSpotOf, HasMade}
use Rattle.lawful_records.specs.Records.{view_by, registers_by, room_by, made_by, number_of, acked_of, known_of}
use Rattle.lawful_records.specs.declared.records.PassKnown.{PassKnown}

-- ---- objects do not read what regions are used for

module _ (P : Protocol) (c : Cycle) (s : Space) (k : ℕ) (x : RegionWord) where
  pub objects_region : AreObjects P c s → AreObjects P c (put_region s k x)
  objects_region o = record {
    placed = o.placed;
    agrees = o.agrees;
    home = o.home;
    target = o.target;
    copied = λ a f. let was = o.copied a f in record { state = was.state; birth = was.birth; len = was.len };
    under = λ a f. let was = o.under a f in record { state = was.state; birth = was.birth; len = was.len };
    fields = o.fields;
    words = o.words;
    statuses = o.statuses;
    shape = o.shape;
    seals = o.seals;
    unsealed = o.unsealed;
    right = o.right;
    number = o.number;
  }

  pub side_region : (side : Side) → IsSide P c s side → IsSide P c (put_region s k x) side
  side_region side is = record { fits = is.fits; past = is.past; number = is.number }

  pub call_region : (side : Side) (known : Known) → IsCall P c s side known → IsCall P c (put_region s k x) side known
  call_region side known is = record {
    runs = is.runs;
    holds = is.holds;
    place = is.place;
    inside = is.inside;
    counts = is.counts;
    hand = is.hand;
    head = is.head;
    own = is.own;
    answered = is.answered;
    refused = is.refused;
    made = is.made;
  }

  pub seen_region : SeenBy P c s (put_region s k x)
  seen_region = record { holds = λ birth at holds. holds; side = side_region; call = λ side known is call. call_region side known call; heads = λ at live. record { live = live; birth = refl; len = refl; colour = refl } }

-- ---- a pass in any machine

module _ {R W E M : Type 0} (kit : Kit R W E M) where
  -- its side, by what it knows and has seen
  abbrev pub side_at : PassView → List Call → Side
  side_at view seen = record { pass = view.pass; acked = stance_at view.acked; own = own_of kit.minds view; seen = seen }

  -- what holds of it, by what it knows, holds and has seen
  pub record PassHolds (l : Sizes) (a : Announced) (c : Cycle) (s : Space) (n : Notices) (view : PassView) (registers : List FieldWord) (seen : List Call) : Type 0 where
    pub number : IsPass l view.pass
    pub side : IsSide kit.protocol c s (side_at view seen)
    pub acked : n.ack view.pass ≡ view.acked
    pub answers : Answers a view.pass view.acked
    pub phase : IsSome (phase_word_of view.acked)
    pub marked : AnswersWith a view.pass view.acked view.mark
    pub shaken : view.acked ≢ retired_word → Handshaken c (side_at view seen)
    pub eight : length registers ≡ 8
    pub good : (i : ℕ) → IsGood s (held_in registers i)
    pub named : (i : ℕ) → IsNamed seen (held_in registers i)

  -- and what its machine makes of that
  pub record MachineHolds (l : Sizes) (c : Cycle) (s : Space) (n : Notices) (p : PassKnown R W E) : Type 0 where
    pub retired : IsAcked kit p.pass.machine (acked_of p)
    pub room : has_room p.pass.machine ≡ true → IsRoom l s (number_of p) (room_by p.pass.machine p.pass.room) (lens_of p.mine)
    pub few : made_by p.pass.machine p.pass.made ≤ 262144
    pub unborn : IsUnborn kit s.history (number_of p) (made_by p.pass.machine p.pass.made)
    pub machine : IsMachine kit l c s n p p.pass.machine
    pub told : HasTold kit s.history p
    pub call : HasSpotOf p.seen (known_of kit p.pass.machine)
    pub made : HasMade p.seen p.pass.machine

  module _ (l : Sizes) (a : Announced) (c : Cycle) (s : Space) (n : Notices) (p : PassKnown R W E) where
    abbrev Holding : Type 0
    Holding = PassHolds l a c s n (view_by p.pass.machine p.pass.view) (registers_by p.pass.machine p.pass.registers) p.seen

    pub holds_of : IsPassRecord kit l a c s n p → Holding
    holds_of is = record {
      number = is.number;
      side = is.side;
      acked = is.answering.acked;
      answers = is.answering.answers;
      phase = is.answering.phase;
      marked = is.answering.marked;
      shaken = is.shaken;
      eight = is.eight;
      good = is.registers;
      named = is.met.registers;
    }

    pub machine_of : IsPassRecord kit l a c s n p → MachineHolds l c s n p
    machine_of is = record { retired = is.answering.retired; room = is.room; few = is.few; unborn = is.unborn; machine = is.machine; told = is.told; call = is.met.call; made = is.met.made }

    pub record_of : Holding → MachineHolds l c s n p → IsPassRecord kit l a c s n p
    record_of holds machine = record {
      number = holds.number;
      side = holds.side;
      answering = record { acked = holds.acked; answers = holds.answers; phase = holds.phase; retired = machine.retired; marked = holds.marked };
      shaken = holds.shaken;
      eight = holds.eight;
      registers = holds.good;
      room = machine.room;
      few = machine.few;
      unborn = machine.unborn;
      machine = machine.machine;
      told = machine.told;
      met = record { registers = holds.named; call = machine.call; made = machine.made };
    }

  pub holds_region : (l : Sizes) (a : Announced) (c : Cycle) (s : Space) (n : Notices) (k : ℕ) (x : RegionWord) (view : PassView) (registers : List FieldWord) (seen : List Call)
      → PassHolds l a c s n view registers seen → PassHolds l a c (put_region s k x) n view registers seen
  holds_region l a c s n k x view registers seen is = record {
    number = is.number;
    side = side_region kit.protocol c s k x (side_at view seen) is.side;
    acked = is.acked;
    answers = is.answers;
    phase = is.phase;
    marked = is.marked;
    shaken = is.shaken;
    eight = is.eight;
    good = is.good;
    named = is.named;
  }
