-- Where a phase word stands in its cycle.
use Rattle.std.specs.Prelude.{ℕ, Bool, ◌==◌, ◌||◌, if◌then◌else◌, Option, Some, None}
use Rattle.heap_words.specs.declared.field_word.FieldWord.{FieldWord}
use Rattle.heap_words.specs.declared.field_word.FieldWord.TheVariants.{Num}
use Rattle.handshakes.specs.declared.phase_word.Phase.{Phase}
use Rattle.handshakes.specs.declared.phase_word.Phase.TheVariants as phases
use Rattle.handshakes.specs.declared.phase_word.PhaseWord.{PhaseWord}
use Rattle.handshakes.specs.PhaseWords.{phase_word_at}

-- The phases, of which Copy is two: Search while a mark is sought, and Copy itself, the last of a cycle's Copy words.
pub data Stance : Type 0 where
  Mark : Stance
  Confirm : Stance
  Search : Stance
  Copy : Stance
  Fix : Stance
  Free : Stance
  Retired : Stance

-- the round of a cycle's last Copy word: 0 where no mark is sought, and 9 after eight searches at most
abbrev pub is_last : ℕ → Bool
is_last round = (round == 0) || (round == 9)

abbrev pub stance_in : Phase → ℕ → Stance
stance_in phases.Mark round = Mark
stance_in phases.Confirm round = Confirm
stance_in phases.Copy round = if is_last round then Copy else Search
stance_in phases.Fix round = Fix
stance_in phases.Free round = Free
stance_in phases.Retired round = Retired

abbrev pub stance_of : PhaseWord → Stance
stance_of w = stance_in w.phase w.round

-- the stance of a packed phase word
abbrev pub stance_at : ℕ → Stance
stance_at word = stance_of (phase_word_at word)

abbrev pub phase_of : Stance → Phase
phase_of Mark = phases.Mark
phase_of Confirm = phases.Confirm
phase_of Search = phases.Copy
phase_of Copy = phases.Copy
phase_of Fix = phases.Fix
phase_of Free = phases.Free
phase_of Retired = phases.Retired

-- the mark that a word says, 0 for none
abbrev pub mark_in : ℕ → Option FieldWord
mark_in word = if word == 0 then None else Some (Num word)
