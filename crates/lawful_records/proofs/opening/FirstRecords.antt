-- The record of a pass at the start.
use Rattle.std.specs.Prelude.{◌≢◌, IsSome, option_map}
use Rattle.std.proofs.Common.{◌≡◌, ℕ, zero, suc, ◌<◌, List, [], ◌∷◌, length, Bool, true, false, None, refl, sym, ap, subst, inl, inr, arith}
use Rattle.heap_words.specs.Layouts.{Sizes, IsLayout, IsPass, first_word}
use Rattle.heap_words.specs.declared.field_word.FieldWord.{FieldWord}
use Rattle.heap_words.specs.declared.field_word.FieldWord.TheVariants.{Num, Link}
use Rattle.heap_words.specs.PlaceLaws.{words_of-bound}
use Rattle.heap_history.specs.FixedHeaps.{zeros}
use Rattle.heap_history.specs.HistoryLaws.{fields_of-new_other}
use Rattle.heap_history.specs.NewestFirst.{len_at}
use Rattle.handshakes.specs.Handshakes.{Announced, Answers, AnswersWith}
use Rattle.handshakes.specs.PhaseWords.{retired_word, phase_word_of, names_phase}
use Rattle.handshakes.specs.Phases.{phase_of}
use Rattle.handshakes.specs.Polling.{held_in}
use Rattle.space_reclaim.specs.declared.region_word.RegionWord.TheVariants as regions
use Rattle.space_reclaim.specs.OwnRegions.{IsOwn}
use Rattle.barriers.specs.Spaces.{Space, Holds}
use Rattle.barriers.specs.Says.{opening_notices, opening_space}
use Rattle.barriers.specs.States.{Absent, Plain, On}
use Rattle.barriers.specs.Cycles.{Cycle, Handshaken}
use Rattle.barriers.specs.Objects.{IsSide}
use Rattle.barriers.specs.Protocols.{OnHand}
use Rattle.barriers.specs.Kits.{Kit, Stepping, Laws, own_of}
use Rattle.barriers.proofs.words.Sets.{set_here, set_else}
use Rattle.lawful_records.specs.Fixing.{Names, IsFixedPass}
use Rattle.lawful_records.specs.declared.collector.CollectorMachine.{CollectorMachine}
use Rattle.lawful_records.specs.LawfulRecords.{IsGood, IsUnborn, IsPassRecord}
use Rattle.lawful_records.specs.Making.{IsRoom}
use Rattle.lawful_records.specs.Meetings.{IsNamed}
use Rattle.lawful_records.specs.Opening.{opening_registers, opening_pass}
use Rattle.lawful_records.specs.PassTurns.{IsAnnounced}
use Rattle.lawful_records.specs.Records.{side_of}
use Rattle.lawful_records.specs.declared.records.PassKnown.{PassKnown}

-- ---- registers

-- of each word of a list
abbrev EachOf : (FieldWord → Type 0) → List FieldWord → Type 0
EachOf P [] = Unit {0}
EachOf P (w ∷ ws) = P w × EachOf P ws

each_held : (P : FieldWord → Type 0) (ws : List FieldWord) (i : ℕ) → P (Num 0) → EachOf P ws → P (held_in ws i)
each_held P [] i none each = none
each_held P (w ∷ ws) zero none each = each.0
each_held P (w ∷ ws) (suc i) none each = each_held P ws i none each.1

-- of the registers at the start
first_held : (P : FieldWord → Type 0) (l : Sizes) (i : ℕ) → P (Num 0) → P (Link 1 (first_word l 0)) → P (held_in (opening_registers l) i)
first_held P l i none link = each_held P (opening_registers l) i none (none, (none, (none, (none, (none, (none, (none, (link, tt))))))))

-- ---- births

zero_phase : IsSome (phase_word_of 0)
unfolding phase_word_of names_phase phase_of
zero_phase = refl

no_other : (b : ℕ) → 1 < b → len_at [] b ≡ None
no_other b large = ap (option_map length) (fields_of-new_other [] 1 (zeros 8) b (λ same. omega (arith, same, large)))

module _ {R W E M : Type 0} (kit : Kit R W E M) (by : Stepping R W E M) (laws : Laws kit by) (l : Sizes) (fits : IsLayout l) (a : Announced) (c : Cycle) (mark : ℕ) (announcement : IsAnnounced kit.minds l a c mark) (still : a.word ≡ 0) (bare : a.mark ≡ 0) (pass : ℕ) (is : IsPass l pass) where
  abbrev S : Space
  S = opening_space l

  abbrev p : PassKnown R W E
  p = opening_pass l pass

  runs : 0 ≢ retired_word
  runs same = cc same

  answers : Answers a pass 0
  answers = inr (inl (sym still))

  marked : AnswersWith a pass 0 0
  marked = inr (inl (sym still, sym bare))

  own_none : (minds : Bool) → own_of minds (record { pass = pass; acked = 0; mark = 0 }) ≡ None
  own_none true = refl
  own_none false = refl

  shaken : Handshaken c (side_of kit p)
  shaken = announcement.shaken (record { pass = pass; acked = 0; mark = 0 }) [] is marked runs

  side : IsSide kit.protocol c S (side_of kit p)
  side = record { fits = λ runs. (let cycle = laws.cycle in cycle.fits_by c (side_of kit p) shaken); past = refl; number = subst (OnHand (λ b a. ⊥)) (sym (own_none kit.minds)) tt }

  there : Holds S 1 (first_word l 0)
  there = (refl, rw (set_here (λ a. Absent) (first_word l 0) Plain) tt)

  good : (i : ℕ) → IsGood S (held_in (opening_registers l) i)
  good i = first_held (IsGood S) l i (omega arith, tt) ((omega arith, omega (arith, words_of-bound l fits)), there)

  free : (region : ℕ) → IsOwn l pass region → S.region region ≡ regions.Free
  free region own = set_else (λ k. regions.Free) 0 region regions.Filled (omega (arith, own.0, fits.pool.0))

  room : IsRoom l S pass (record { region = None; used = 0; last = None }) []
  room = record {
    region = tt;
    used = omega arith;
    last = λ region said. absurd cc;
    order = λ few. record { region = refl; last = refl; used = λ some. absurd (cc some); free = λ region own after. free region own };
  }

  unborn : IsUnborn kit [] pass 0
  unborn b low high = no_other b (omega (arith, low, is.0))

  pub first_record : IsPassRecord kit l a c S opening_notices p
  first_record = record {
    number = is;
    side = side;
    answering = record { acked = refl; answers = answers; phase = zero_phase; retired = runs; marked = marked };
    shaken = λ on. shaken;
    eight = refl;
    registers = good;
    room = λ has. room;
    few = omega arith;
    unborn = unborn;
    machine = tt;
    told = record { mine = refl; ended = refl; count = refl; within = omega arith; reached = omega arith };
    met = record { registers = λ i. first_held (IsNamed []) l i tt (8, refl); call = tt; made = tt };
  }

-- and its links lead to homes
pub first_fixed : {R W E M : Type 0} (kit : Kit R W E M) (l : Sizes) (k : CollectorMachine M) (pass : ℕ) → IsFixedPass kit k (opening_space l) opening_notices (opening_pass {R = R} {W = W} {E = E} l pass)
first_fixed kit l k pass = record {
  registers = λ runs by i. first_held (On (Names (opening_space l))) l i tt (refl, rw (set_here (λ a. Absent) (first_word l 0) Plain) tt);
  machine = tt;
  roots = λ retired. absurd (let gone : 0 ≡ retired_word = retired in cc gone);
}
