-- What a walk has passed and what it has noted of that, whatever others do meanwhile.
use Rattle.std.specs.Prelude.{◌≡◌, ℕ, ◌+◌, ◌<◌, ◌≤◌, ◌⊎◌, ◌==◌, true, false, List, [], ◌∷◌, Option, Some, None, IsSome}
use Rattle.call_steps.specs.Ending.{after}
use Rattle.heap_words.specs.declared.limits.TheConstants.{REGION_WORDS}
use Rattle.live_walk.specs.declared.note.NoteMachine.{NoteMachine}
use Rattle.live_walk.specs.declared.note.NoteMachine.TheVariants as note
use Rattle.live_walk.specs.Walks.{address, begins, offset_after, fed_of}
use Rattle.live_walk.specs.Noting.{cursor_of}

-- it is inside a region
abbrev pub IsInside : NoteMachine → Type 0
IsInside (note.Region w region) = region < w.regions
IsInside (note.Header w region offset live) = (region < w.regions) × (offset < REGION_WORDS)
IsInside (note.Ended w) = Unit {0}

-- By a step that found this word it passes such an address: of a Free region; in an object that begins at the cursor; or,
-- where none begins there, after the last object of a region. What it tells of the object is `finding_of`: the object,
-- where the region was Filled and the object is live.
abbrev pub Passes : NoteMachine → ℕ → ℕ → Type 0
Passes (note.Region w region) word x = word ≡ 0
Passes (note.Header w region offset live) word x =
    ((begins offset word ≡ true) × (address w region offset ≤ x) × (x < address w region (offset_after offset word)))
    ⊎ (begins offset word ≡ false)
Passes (note.Ended w) word x = ⊥

-- a step passes what is below its next cursor, and goes on inside
abbrev pub Stepped : NoteMachine → ℕ → NoteMachine → Type 0
Stepped m word next = ((x : ℕ) → cursor_of m ≤ x → x < cursor_of next → Passes m word x) × IsInside next

-- one of these steps did
abbrev pub PassedBy : NoteMachine → List ℕ → ℕ → Type 0
PassedBy m [] x = ⊥
PassedBy m (word ∷ rest) x = Passes m word x ⊎ PassedBy (fed_of m word) rest x

-- each address below its cursor was passed by one of its steps, from where it began
abbrev pub PassesBelow : NoteMachine → Type 0
PassesBelow m =
    (words : List ℕ) (x : ℕ) → cursor_of m ≤ x → x < cursor_of (after fed_of m words) → PassedBy m words x
