-- The records at the start: each pass is between two machines and knows the common object alone, and no cycle has begun.
use Rattle.std.specs.Prelude.{ℕ, zero, suc, ◌+◌, List, [], ◌∷◌, ◌++◌, replicate, None, slice_set}
use Rattle.heap_words.specs.Layouts.{Sizes, words_of, region_at, first_word}
use Rattle.heap_words.specs.declared.field_word.FieldWord.{FieldWord}
use Rattle.heap_words.specs.declared.field_word.FieldWord.TheVariants.{Num, Link}
use Rattle.object_headers.specs.declared.header.Colour.TheVariants.{Even}
use Rattle.space_reclaim.specs.declared.region_word.RegionWord.TheVariants.{Filled}
use Rattle.space_reclaim.specs.RegionWords.{word_of_region}
use Rattle.barriers.specs.declared.pass.PassRecord.{PassRecord}
use Rattle.barriers.specs.declared.pass.PassMachine.TheVariants as machine
use Rattle.barriers.specs.Kits.{Kit}
use Rattle.barriers.specs.Says.{head_word}
use Rattle.barriers.specs.States.{Plain}
use Rattle.lawful_records.specs.Collectors.{collector_of, none_awaited}
use Rattle.lawful_records.specs.Jobs.{first_plan}
use Rattle.lawful_records.specs.declared.records.PassKnown.{PassKnown}
use Rattle.lawful_records.specs.declared.records.Party.{Party}
use Rattle.lawful_records.specs.declared.records.Party.TheVariants as party

-- the first region is filled and has the common object, of birth number 1 with 8 fields; all else is 0
abbrev pub opening_words : Sizes → List ℕ
opening_words l = slice_set (slice_set (replicate (words_of l) 0) (region_at l 0) (word_of_region Filled)) (first_word l 0) (head_word Plain Even 8 1)

-- register h leads to that object
abbrev pub opening_registers : Sizes → List FieldWord
opening_registers l = replicate 7 (Num 0) ++ Link 1 (first_word l 0) ∷ []

module _ {R W E : Type 0} where
  -- a pass before its first machine begins
  abbrev pub opening_record : Sizes → ℕ → PassRecord R W E
  opening_record l pass = record {
    view = record { pass = pass; acked = 0; mark = 0 };
    registers = opening_registers l;
    machine = machine.Idle;
    room = record { region = None; used = 0; last = None };
    made = 0;
    seen = 0;
  }

  abbrev pub opening_pass : Sizes → ℕ → PassKnown R W E
  opening_pass l pass = record { pass = opening_record l pass; seen = []; mine = []; ended = [] }

-- so many passes, from this one on
abbrev pub opening_passes : {R W E M : Type 0} → Sizes → ℕ → ℕ → List (Party R W E M)
opening_passes l pass zero = []
opening_passes l pass (suc count) = party.Pass (opening_pass l pass) ∷ opening_passes l (pass + 1) count

module _ {R W E M : Type 0} (kit : Kit R W E M) where
  -- the passes of the layout, and a collector that plays so many cycles, whose marks a salt draws, of which the first has a plan
  abbrev pub opening_parties : Sizes → ℕ → ℕ → List (Party R W E M)
  opening_parties l cycles salt = opening_passes l 1 l.passes ++ party.Collector (record { machine = collector_of kit (first_plan kit.kind l) l cycles salt; plan = first_plan kit.kind l; awaited = none_awaited; sealed = [] }) ∷ []
