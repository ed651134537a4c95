-- The records at the start are lawful: the passes begin their first machines one after another.
use Rattle.std.specs.Prelude.{nat_lt, if◌then◌else◌}
use Rattle.std.proofs.Common.{◌≡◌, ℕ, ◌+◌, ◌≤◌, inr, Bool, true, false, List, [], ◌∷◌, ◌++◌, length, map, refl, sym, subst}
use Rattle.std.proofs.lemmas.List.Sorted.{IsPermutation-sym, IsPermutation-middle}
use Rattle.call_steps.specs.Turns.{still, on}
use Rattle.heap_words.specs.Layouts.{Sizes, IsLayout}
use Rattle.heap_script.specs.declared.script.Command.{Command}
use Rattle.barriers.specs.declared.machine_end.Request.TheVariants as requests
use Rattle.barriers.specs.declared.pass.PassRecord.{PassRecord}
use Rattle.barriers.specs.Kits.{Kit, Stepping, Laws}
use Rattle.barriers.specs.Records.{started}
use Rattle.lawful_records.specs.Beginnings.{Starts}
use Rattle.lawful_records.specs.Collectors.{collector_of, none_awaited}
use Rattle.lawful_records.specs.LawfulRecords.{LawfulRecords}
use Rattle.lawful_records.specs.Opening as opening
use Rattle.lawful_records.specs.declared.records.PassKnown.{PassKnown}
use Rattle.lawful_records.specs.declared.records.Party.{Party}
use Rattle.lawful_records.specs.declared.records.Party.TheVariants as party
use Rattle.lawful_records.proofs.RecordLaws.{lawful_opens, lawful_regroups, lawful_starts}
use Rattle.gc_cycle.specs.Worlds.{or_else, opening_words, opening_pass, opening_passes, fresh_pass}
use Rattle.lawful_records.specs.Jobs.{first_plan}

-- what is known of a pass that has seen no change
abbrev pub known_as : {R W E : Type 0} → PassRecord R W E → PassKnown R W E
known_as p = record { pass = p; seen = []; mine = []; ended = [] }

-- a collector before its first step
abbrev pub collector_at_start : {R W E M : Type 0} → Kit R W E M → Sizes → ℕ → ℕ → Party R W E M
collector_at_start kit l cycles salt = party.Collector (record { machine = collector_of kit (first_plan kit.kind l) l cycles salt; plan = first_plan kit.kind l; awaited = none_awaited; sealed = [] })

module _ {R W E M : Type 0} (kit : Kit R W E M) (by : Stepping R W E M) (laws : Laws kit by) (l : Sizes) where
  -- before its first command it polls, and without a command it retires
  starts_by : (pass : ℕ) (more : Bool) → Starts kit l (opening.opening_pass l pass) (known_as (or_else (started kit l (fresh_pass l pass) (if more then requests.Poll else requests.Retire)) (fresh_pass l pass)))
  starts_by pass true = record { idle = refl; request = requests.Poll; fits = tt; next = or_else (started kit l (fresh_pass l pass) requests.Poll) (fresh_pass l pass); started_is = refl; is = refl }
  starts_by pass false = record { idle = refl; request = requests.Retire; fits = tt; next = or_else (started kit l (fresh_pass l pass) requests.Retire) (fresh_pass l pass); started_is = refl; is = refl }

  pass_starts : (commands : List Command) (pass : ℕ) → Starts kit l (opening.opening_pass l pass) (known_as (opening_pass kit l commands pass))
  pass_starts commands pass = starts_by pass (nat_lt 0 (length commands))

  -- each pass begins its first machine, whoever else there is
  passes_start : (words : List ℕ) (lists : List (List Command)) (first : ℕ) (others : List (Party R W E M)) → LawfulRecords kit l words (opening.opening_passes l first (length lists) ++ others)
      → LawfulRecords kit l words (map (λ p. party.Pass (known_as p)) (opening_passes kit l first lists) ++ others)
  passes_start words [] first others w = w
  passes_start words (commands ∷ later) first others w =
      let begun : Party R W E M = party.Pass (known_as (opening_pass kit l commands first)) in
      let waits : List (Party R W E M) = opening.opening_passes l (first + 1) (length later) in
      let rest : List (Party R W E M) = map (λ p. party.Pass (known_as p)) (opening_passes kit l (first + 1) later) in
      let one : LawfulRecords kit l words (begun ∷ (waits ++ others)) = lawful_starts kit by laws l words (waits ++ others) (party.Pass (opening.opening_pass l first)) begun w (on still (inr (inr (pass_starts commands first)))) in
      let aside : LawfulRecords kit l words (waits ++ begun ∷ others) = lawful_regroups kit l words (begun ∷ (waits ++ others)) (waits ++ begun ∷ others) (IsPermutation-sym _ _ (IsPermutation-middle waits begun others)) one in
      lawful_regroups kit l words (rest ++ begun ∷ others) (begun ∷ (rest ++ others)) (IsPermutation-middle rest begun others) (passes_start words later (first + 1) (begun ∷ others) aside)

  -- all have begun
  pub records_start : (lists : List (List Command)) (cycles salt : ℕ) → IsLayout l → length lists ≡ l.passes → cycles ≤ 64
      → LawfulRecords kit l (opening_words l) (map (λ p. party.Pass (known_as p)) (opening_passes kit l 1 lists) ++ collector_at_start kit l cycles salt ∷ [])
  records_start lists cycles salt il counted few =
      passes_start (opening_words l) lists 1 (collector_at_start kit l cycles salt ∷ [])
      (subst (λ (n : ℕ). LawfulRecords kit l (opening_words l) (opening.opening_passes l 1 n ++ collector_at_start kit l cycles salt ∷ [])) (sym counted) (lawful_opens kit by laws l cycles salt il few))
