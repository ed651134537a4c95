-- The retirement of a pass.
use Rattle.std.specs.Prelude.{◌≡◌, ◌≢◌, ℕ, ◌+◌, ◌-◌, ◌<◌, ◌==◌, if◌then◌else◌, Bool, true, false, List, map, slice_index, Option, Some, None, refl}
use Rattle.std.proofs.Common.{lit<, arith}
use Rattle.std.proofs.lemmas.Bool.Decides.{nat_tests}
use Rattle.call_steps.specs.declared.step.Step.{Step}
use Rattle.call_steps.specs.declared.step.Step.TheVariants.{Store, Ended}
use Rattle.heap_words.specs.declared.field_word.FieldWord.{FieldWord}
use Rattle.heap_words.specs.FieldWords.{word_of}
use Rattle.heap_words.specs.Layouts.{Sizes, ack_at, root_at, region_at}
use Rattle.handshakes.specs.declared.pass_view.PassView.{PassView}
use Rattle.handshakes.specs.declared.retire.Retire.{Retire}
use Rattle.handshakes.specs.declared.retire.RetireMachine.{RetireMachine}
use Rattle.handshakes.specs.declared.retire.RetireMachine.TheVariants as retire
use Rattle.heap_words.specs.declared.limits.TheConstants.{REGISTERS}
use Rattle.handshakes.specs.declared.retire.TheConstants.{FILLED}
use Rattle.handshakes.specs.PhaseWords.{retired_word}

-- the address of a region's word, where there is a region
abbrev pub region_word_at : Sizes → Option ℕ → Option ℕ
region_word_at l None = None
region_word_at l (Some region) = Some (region_at l region)

-- the word of a region to which nobody adds objects
abbrev pub filled_word : ℕ
filled_word = FILLED

-- a retirement at its start
abbrev pub retire_of : Sizes → ℕ → List FieldWord → Option ℕ → Retire
retire_of l pass registers region = record {
  last_root_at = root_at l pass (REGISTERS - 1);
  words = map word_of registers;
  region_at = region_word_at l region;
  ack_at = ack_at pass;
}

-- the register that is stored when this many come after it
abbrev pub register_before : ℕ → ℕ
register_before later = REGISTERS - 1 - later

-- the root words, the word of the region, and the acknowledgement are stored
abbrev pub asks_of : RetireMachine → Step
asks_of (retire.Root r later) = Store (r.last_root_at - later) (slice_index r.words (register_before later))
asks_of (retire.Region r at) = Store at filled_word
asks_of (retire.Acknowledge r) = Store r.ack_at retired_word
asks_of retire.Ended = Ended

-- with all registers stored, the region's word comes next if there is one, and at last the acknowledgement
abbrev pub stored_all : Retire → Option ℕ → RetireMachine
stored_all r None = retire.Acknowledge r
stored_all r (Some at) = retire.Region r at

-- what a retired pass knows: Retired is acknowledged, and it has no mark
abbrev pub retired_view : ℕ → PassView
retired_view pass = record { pass = pass; acked = retired_word; mark = 0 }

abbrev pub fed_of : RetireMachine → ℕ → RetireMachine
fed_of (retire.Root r later) found = if later == 0 then stored_all r r.region_at else retire.Root r (later - 1)
fed_of (retire.Region r at) found = retire.Acknowledge r
fed_of (retire.Acknowledge r) found = retire.Ended
fed_of retire.Ended found = retire.Ended

abbrev pub left_of : RetireMachine → ℕ
left_of (retire.Root r later) = later + 3
left_of (retire.Region r at) = 2
left_of (retire.Acknowledge r) = 1
left_of retire.Ended = 0

-- whether it has ended
abbrev pub end_of : RetireMachine → Option (Unit {0})
end_of (retire.Root r later) = None
end_of (retire.Region r at) = None
end_of (retire.Acknowledge r) = None
end_of retire.Ended = Some tt

pub blind_of : (m : RetireMachine) (at put n : ℕ) → asks_of m ≡ Store at put → fed_of m n ≡ fed_of m 0
blind_of (retire.Root r later) at put n is = refl
blind_of (retire.Region r place) at put n is = refl
blind_of (retire.Acknowledge r) at put n is = refl
blind_of retire.Ended at put n is = refl

pub none_left_of : (m : RetireMachine) → asks_of m ≡ Ended → left_of m ≡ 0
none_left_of (retire.Root r later) is = absurd cc
none_left_of (retire.Region r at) is = absurd cc
none_left_of (retire.Acknowledge r) is = absurd cc
none_left_of retire.Ended is = refl

pub some_left_of : (m : RetireMachine) → left_of m ≡ 0 → asks_of m ≡ Ended
some_left_of (retire.Root r later) is = absurd (omega arith)
some_left_of (retire.Region r at) is = absurd (omega arith)
some_left_of (retire.Acknowledge r) is = absurd (omega arith)
some_left_of retire.Ended is = refl

stored_all-left : (r : Retire) (region : Option ℕ) → left_of (stored_all r region) < 3
stored_all-left r None = lit< tt
stored_all-left r (Some at) = lit< tt

root_falls : (r : Retire) (later : ℕ) (last : Bool) → (later == 0) ≡ last → left_of (if last then stored_all r r.region_at else retire.Root r (later - 1)) < later + 3
root_falls r later true is = omega (arith, stored_all-left r r.region_at)
root_falls r later false is = grind (arith, nat_tests)

pub falls_of : (m : RetireMachine) (n : ℕ) → asks_of m ≢ Ended → left_of (fed_of m n) < left_of m
falls_of (retire.Root r later) n on = root_falls r later (later == 0) refl
falls_of (retire.Region r at) n on = lit< tt
falls_of (retire.Acknowledge r) n on = lit< tt
falls_of retire.Ended n on = absurd (on refl)
