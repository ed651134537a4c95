-- The table's areas, one after another: the phase word, the mark word, the count of greys, the acknowledgements, the root words, the region words, the regions, the wide area.
use Rattle.std.specs.Prelude.{ℕ, ◌+◌, ◌*◌, ◌-◌, ◌<◌, ◌≤◌}
use Rattle.heap_words.specs.declared.limits.TheConstants.{MOST_PASSES, MOST_QUOTA, MOST_POOL, MOST_WIDE, REGISTERS, REGION_WORDS}

-- What a layout is made of: how many passes, own regions of each pass, regions of the pool, and words of the wide area.
pub record Sizes : Type 0 where
  pub passes : ℕ
  pub quota : ℕ
  pub pool : ℕ
  pub wide : ℕ

-- the limits
pub record IsLayout (l : Sizes) : Type 0 where
  pub passes : (1 ≤ l.passes) × (l.passes ≤ MOST_PASSES)
  pub quota : (1 ≤ l.quota) × (l.quota ≤ MOST_QUOTA)
  pub pool : (1 ≤ l.pool) × (l.pool ≤ MOST_POOL)
  pub wide : l.wide ≤ MOST_WIDE

-- the regions: those of the pool, then those of each pass
abbrev pub regions_of : Sizes → ℕ
regions_of l = l.pool + l.passes * l.quota

-- the words of passes: an acknowledgement for each, and a root word for each of its registers
abbrev pub pass_words_of : Sizes → ℕ
pass_words_of l = (1 + REGISTERS) * l.passes

-- the words of regions: one for each that says what it is used for, and its own words
abbrev pub region_words_of : Sizes → ℕ
region_words_of l = (1 + REGION_WORDS) * regions_of l

-- the table's words: three, those of passes, those of regions, and the wide area
abbrev pub words_of : Sizes → ℕ
words_of l = 3 + pass_words_of l + region_words_of l + l.wide

-- passes count from 1
abbrev pub IsPass : Sizes → ℕ → Type 0
IsPass l pass = (1 ≤ pass) × (pass ≤ l.passes)

-- regions count from 0
abbrev pub IsRegion : Sizes → ℕ → Type 0
IsRegion l region = region < regions_of l

-- the phase word
abbrev pub phase_at : ℕ
phase_at = 0

-- the mark word
abbrev pub mark_at : ℕ
mark_at = 1

-- the count of grey objects
abbrev pub greys_at : ℕ
greys_at = 2

-- the acknowledgement of a pass
abbrev pub ack_at : ℕ → ℕ
ack_at pass = 2 + pass

-- a root word: one for each register of each pass
abbrev pub root_at : Sizes → ℕ → ℕ → ℕ
root_at l pass reg = 3 + l.passes + REGISTERS * (pass - 1) + reg

-- the word that says what a region is used for
abbrev pub region_at : Sizes → ℕ → ℕ
region_at l region = 3 + pass_words_of l + region

-- the first of a region's words
abbrev pub first_word : Sizes → ℕ → ℕ
first_word l region = 3 + pass_words_of l + regions_of l + REGION_WORDS * region

-- the first word of the wide area
abbrev pub wide_at : Sizes → ℕ
wide_at l = 3 + pass_words_of l + region_words_of l
