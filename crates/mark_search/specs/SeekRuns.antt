-- What a search has passed, and what it finds, whatever others do meanwhile.
use Rattle.std.specs.Prelude.{◌≡◌, ◌≢◌, ℕ, ◌+◌, ◌<◌, ◌≤◌, ◌⊎◌, List, [], ◌∷◌, Some}
use Rattle.call_steps.specs.declared.step.Step.TheVariants.{Load, Ended}
use Rattle.call_steps.specs.Ending.{after}
use Rattle.heap_words.specs.declared.limits.TheConstants.{REGION_WORDS}
use Rattle.object_headers.specs.declared.header.State.TheVariants as states
use Rattle.object_headers.specs.Headers.{header_at}
use Rattle.mark_search.specs.declared.seek.MarkFound.{MarkFound as Place}
use Rattle.mark_search.specs.declared.seek.SeekEnd.TheVariants.{Clear, MarkFound}
use Rattle.mark_search.specs.declared.seek.SeekMarkMachine.{SeekMarkMachine}
use Rattle.mark_search.specs.declared.seek.SeekMarkMachine.TheVariants as seek
use Rattle.mark_search.specs.Seeks.{first_of, address, asks_of, fed_of, end_of}

-- ---- what it finds

-- it loads a field
abbrev pub IsAtField : SeekMarkMachine → Type 0
IsAtField (seek.Field s c len field) = Unit {0}
IsAtField m = ⊥

-- where its steps found these words no field held the candidate
abbrev pub Unfound : ℕ → SeekMarkMachine → List ℕ → Type 0
Unfound candidate m [] = Unit {0}
Unfound candidate m (word ∷ rest) = (IsAtField m → word ≢ candidate) × Unfound candidate (fed_of m word) rest

-- Whatever words it finds: it ends clear only where no field held the candidate; and with a place only where its last step, the load of that field,
-- found the candidate, and no field before it held that.
pub record EndsAtFirst (candidate : ℕ) (m : SeekMarkMachine) : Type 0 where
  pub clear : (words : List ℕ) → end_of (after fed_of m words) ≡ Some Clear → Unfound candidate m words
  pub found : (words : List ℕ) (n : ℕ) (place : Place) → asks_of (after fed_of m words) ≢ Ended → end_of (fed_of (after fed_of m words) n) ≡ Some (MarkFound place)
      → Unfound candidate m words × (n ≡ candidate) × (asks_of (after fed_of m words) ≡ Load (place.at + 1 + place.field))

-- ---- what it has passed

-- Its cursor: the address in the regions up to which it has come.
abbrev pub cursor_of : SeekMarkMachine → ℕ
cursor_of (seek.Region s region) = first_of s region
cursor_of (seek.Header s c) = address s c
cursor_of (seek.Field s c len field) = address s c + 1 + field
cursor_of (seek.Ended s Clear) = first_of s s.regions
cursor_of (seek.Ended s (MarkFound place)) = place.at + 1 + place.field

-- it is inside a region
abbrev pub IsInside : SeekMarkMachine → Type 0
IsInside (seek.Region s region) = region < s.regions
IsInside (seek.Header s c) = (c.region < s.regions) × (c.offset < REGION_WORDS)
IsInside (seek.Field s c len field) = (c.region < s.regions) × (field < len) × (c.offset + 1 + len ≤ REGION_WORDS)
IsInside (seek.Ended s end) = Unit {0}

-- a header that it finds is that of an object in its region
abbrev pub FitsRegion : SeekMarkMachine → ℕ → Type 0
FitsRegion (seek.Header s c) word = let h = header_at word in c.offset + 1 + h.len ≤ REGION_WORDS
FitsRegion m word = Unit {0}

abbrev pub FitsAlong : SeekMarkMachine → List ℕ → Type 0
FitsAlong m [] = Unit {0}
FitsAlong m (word ∷ rest) = FitsRegion m word × FitsAlong (fed_of m word) rest

-- By a step that found this word it passes such an address: of a Free region; of a header, of a dead object, or one after the last object of a region; or
-- of a field, which did not hold the candidate.
abbrev pub Passes : SeekMarkMachine → ℕ → ℕ → Type 0
Passes (seek.Region s region) word x = word ≡ 0
Passes (seek.Header s c) word x = let h = header_at word in (x ≡ address s c) ⊎ ((h.state ≡ states.Dead) × (x < address s c + 1 + h.len)) ⊎ (h.state ≡ states.Absent)
Passes (seek.Field s c len field) word x = (x ≡ address s c + 1 + field) × (word ≢ s.candidate)
Passes (seek.Ended s end) word x = ⊥

-- a step passes what is below its next cursor, and goes on inside
abbrev pub Stepped : SeekMarkMachine → ℕ → SeekMarkMachine → Type 0
Stepped m word next = ((x : ℕ) → cursor_of m ≤ x → x < cursor_of next → Passes m word x) × IsInside next

-- one of these steps did
abbrev pub PassedBy : SeekMarkMachine → List ℕ → ℕ → Type 0
PassedBy m [] x = ⊥
PassedBy m (word ∷ rest) x = Passes m word x ⊎ PassedBy (fed_of m word) rest x

-- Where each object that it comes to is in its region: each address below its cursor was passed by one of its steps, from where it began.
abbrev pub PassesBelow : SeekMarkMachine → Type 0
PassesBelow m = (words : List ℕ) → FitsAlong m words → (x : ℕ) → cursor_of m ≤ x → x < cursor_of (after fed_of m words) → PassedBy m words x
