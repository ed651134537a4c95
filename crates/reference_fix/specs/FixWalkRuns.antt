-- What a walk puts, what it has passed, and when it has ended, whatever others do meanwhile.
use Rattle.std.specs.Prelude.{◌≡◌, ◌≢◌, ℕ, ◌+◌, ◌<◌, ◌≤◌, ◌⊎◌, List, [], ◌∷◌, length, Some}
use Rattle.call_steps.specs.declared.step.Step.TheVariants.{Store, Exchange, Ended}
use Rattle.call_steps.specs.Ending.{after}
use Rattle.heap_words.specs.FieldWords.{field_at}
use Rattle.object_headers.specs.declared.header.State.{State as HeaderState}
use Rattle.object_headers.specs.declared.header.State.TheVariants as states
use Rattle.object_headers.specs.Headers.{header_at}
use Rattle.reference_fix.specs.declared.field_fix.FixMachine.{FixMachine}
use Rattle.reference_fix.specs.declared.field_fix.FixMachine.TheVariants as fix
use Rattle.reference_fix.specs.declared.fix_walk.Area.{Area}
use Rattle.reference_fix.specs.declared.fix_walk.FixWalkMachine.{FixWalkMachine}
use Rattle.reference_fix.specs.declared.fix_walk.FixWalkMachine.TheVariants as walk
use Rattle.reference_fix.specs.FieldFixes as fields
use Rattle.reference_fix.specs.FixWalks.{first_of, address, asks_of, fed_of}
use Rattle.reference_fix.specs.MovedLinks.{leads_to, moved_link, IsMoved}

-- ---- where it is

-- the fix of the field at this address, which has not ended
abbrev pub IsFixOf : ℕ → FixMachine → Type 0
IsFixOf at (fix.Field place) = place ≡ at
IsFixOf at (fix.Header place word to) = (place ≡ at) × (leads_to (field_at word) ≡ Some to)
IsFixOf at (fix.Exchange place word put) = (place ≡ at) × (header : ℕ) × (moved_link (field_at word) (header_at header) ≡ Some put)
IsFixOf at fix.Ended = ⊥

-- it goes through these regions, and has ended or is inside one of them
abbrev pub Walks : Area → FixWalkMachine → Type 0
Walks r (walk.Region a region) = (a ≡ r) × (region < r.regions)
Walks r (walk.Header a c) = (a ≡ r) × (c.region < r.regions) × (c.offset < 64)
Walks r (walk.Field a c len field m) = (a ≡ r) × (c.region < r.regions) × (c.offset < 64) × (field < len) × (len ≤ 30) × IsFixOf (address a c + 1 + field) m
Walks r (walk.Ended a) = a ≡ r

-- ---- what it puts

-- An exchange puts, in place of a word that one load before it found at the place, what the header says that the next load found; and nothing is stored.
pub record FixesLinks (m : FixWalkMachine) : Type 0 where
  pub exchanges : (words : List ℕ) (at want put : ℕ) → asks_of (after fed_of m words) ≡ Exchange at want put → (header : ℕ) × IsMoved want header put
  pub stores : (words : List ℕ) (at put : ℕ) → asks_of (after fed_of m words) ≢ Store at put

-- ---- what it has passed

-- Its cursor: the address in the regions up to which it has come.
abbrev pub cursor_of : FixWalkMachine → ℕ
cursor_of (walk.Region a region) = first_of a region
cursor_of (walk.Header a c) = address a c
cursor_of (walk.Field a c len field m) = address a c + 1 + field
cursor_of (walk.Ended a) = first_of a a.regions

-- the fields of an object in this state are fixed
abbrev pub IsFixed : HeaderState → Type 0
IsFixed states.Plain = Unit {0}
IsFixed states.Kept = Unit {0}
IsFixed state = ⊥

-- By a step that found this word it passes such an address: of a Free region; of a header, of an object whose fields are not fixed, or one after the last
-- object of a region; or of a field, whose fix ends by it.
abbrev pub Passes : FixWalkMachine → ℕ → ℕ → Type 0
Passes (walk.Region a region) word x = word ≡ 0
Passes (walk.Header a c) word x = let h = header_at word in (x ≡ address a c) ⊎ ((IsFixed h.state → ⊥) × (x < address a c + 1 + h.len)) ⊎ (h.state ≡ states.Absent)
Passes (walk.Field a c len field m) word x = (x ≡ address a c + 1 + field) × (fields.fed_of m word ≡ fix.Ended)
Passes (walk.Ended a) word x = ⊥

-- one of these steps did
abbrev pub PassedBy : FixWalkMachine → List ℕ → ℕ → Type 0
PassedBy m [] x = ⊥
PassedBy m (word ∷ rest) x = Passes m word x ⊎ PassedBy (fed_of m word) rest x

-- Each address below its cursor was passed by one of its steps, from where it began.
abbrev pub PassesBelow : FixWalkMachine → Type 0
PassesBelow m = (words : List ℕ) → (x : ℕ) → cursor_of m ≤ x → x < cursor_of (after fed_of m words) → PassedBy m words x

-- ---- its end

-- after this many steps, whatever words they found
abbrev pub EndsWithin : ℕ → FixWalkMachine → Type 0
EndsWithin most m = (words : List ℕ) → most ≤ length words → asks_of (after fed_of m words) ≡ Ended
