-- What a step finds in some words, and what it makes of them.
use Rattle.std.specs.Prelude.{ℕ, ◌+◌, ◌-◌, ◌%◌, ◌^◌, ◌<◌, ◌==◌, List, slice_index, slice_set, All}
use prog.Atomic.{either}
use Rattle.call_steps.specs.declared.step.Step.{Step}
use Rattle.call_steps.specs.declared.step.Step.TheVariants.{Load, Store, Exchange, Add, Sub, Ended}

-- the address of the word on which it steps
abbrev pub place_of : Step → ℕ
place_of (Load at) = at
place_of (Store at put) = at
place_of (Exchange at want put) = at
place_of (Add at by) = at
place_of (Sub at by) = at
place_of Ended = 0

-- what that word becomes, of what it was: of `either` the first where the test holds, else the second
abbrev pub put_by : Step → ℕ → ℕ
put_by (Load at) word = word
put_by (Store at put) word = put
put_by (Exchange at want put) word = either (word == want) put word
put_by (Add at by) word = (word + by) % 2 ^ 64
put_by (Sub at by) word = (word + (2 ^ 64 - by)) % 2 ^ 64
put_by Ended word = word

-- the address is below this length; Ended steps on no word
abbrev pub IsInside : ℕ → Step → Type 0
IsInside len Ended = Unit {0}
IsInside len step = place_of step < len

-- the word that it finds, and 0 for Ended
abbrev pub found_by : Step → List ℕ → ℕ
found_by Ended words = 0
found_by step words = slice_index words (place_of step)

-- the words after it: the one on which it steps has become what it puts
abbrev pub applied : Step → List ℕ → List ℕ
applied Ended words = words
applied step words = slice_set words (place_of step) (put_by step (slice_index words (place_of step)))

-- what a machine is fed where the words are shared: a store tells nothing
abbrev pub told : Step → ℕ → ℕ
told (Store at put) found = 0
told Ended found = 0
told step found = found

-- each of them is below 2^64
abbrev pub AreWords : List ℕ → Type 0
AreWords words = All (λ word. word < 2 ^ 64) words

-- what it puts, where it says this itself, is below 2^64
abbrev pub PutsWord : Step → Type 0
PutsWord (Store at put) = put < 2 ^ 64
PutsWord (Exchange at want put) = put < 2 ^ 64
PutsWord step = Unit {0}
