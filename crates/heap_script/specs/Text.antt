-- The one text of a script: each line's words with one space between them, and LF after each line.
use Rattle.std.specs.Prelude.{ℕ, ◌+◌, List, [], ◌∷◌, ◌++◌, codes, decimal}
use Rattle.std.specs.List.{flat_map}
use Rattle.heap_words.specs.Layouts.{Sizes}
use Rattle.heap_words.specs.declared.operand.Operand.{Operand}
use Rattle.heap_words.specs.declared.operand.Operand.TheVariants.{Num, Reg}
use Rattle.heap_script.specs.declared.script.Command.{Command}
use Rattle.heap_script.specs.declared.script.Command.TheVariants.{New, Get, Put, Cas, Copy, Drop, Poll}
use Rattle.heap_script.specs.declared.script.Line.{Line}
use Rattle.heap_script.specs.Words.{Word}
use Rattle.heap_script.specs.Scripts.{Reading}

-- the letter of a register
abbrev pub letter : ℕ → Word
letter r = (97 + r) ∷ []

-- S.F
abbrev pub place_word : ℕ → ℕ → Word
place_word obj field = letter obj ++ 46 ∷ decimal field

abbrev pub operand_word : Operand → Word
operand_word (Num n) = decimal n
operand_word (Reg r) = letter r

abbrev pub command_words : Command → List Word
command_words (New dst len) = codes "new" ∷ letter dst ∷ decimal len ∷ []
command_words (Get dst obj field) = codes "get" ∷ letter dst ∷ place_word obj field ∷ []
command_words (Put obj field what) = codes "put" ∷ place_word obj field ∷ operand_word what ∷ []
command_words (Cas dst obj field expected value) = codes "cas" ∷ letter dst ∷ place_word obj field ∷ operand_word expected ∷ operand_word value ∷ []
command_words (Copy dst src) = codes "copy" ∷ letter dst ∷ letter src ∷ []
command_words (Drop dst) = codes "drop" ∷ letter dst ∷ []
command_words Poll = codes "poll" ∷ []

abbrev pub line_words : Line → List Word
line_words l = decimal l.thread ∷ command_words l.command

-- the heap line's words from the quota on
abbrev pub later_words : Sizes → ℕ → List Word
later_words l cycles = decimal l.pool ∷ codes "pool" ∷ decimal l.wide ∷ codes "wide" ∷ decimal cycles ∷ codes "cycles" ∷ []

abbrev pub heading_words : Sizes → ℕ → List Word
heading_words l cycles = codes "heap" ∷ decimal l.passes ∷ codes "threads" ∷ decimal l.quota ∷ codes "quota" ∷ later_words l cycles

-- one space between words
abbrev pub spaced : List Word → List ℕ
spaced [] = []
spaced (w ∷ ws) = w ++ flat_map (λ v. 32 ∷ v) ws

abbrev pub line_text : List Word → List ℕ
line_text ws = spaced ws ++ 10 ∷ []

abbrev pub text_of : Reading → List ℕ
text_of s = line_text (heading_words s.layout s.cycles) ++ flat_map (λ l. line_text (line_words l)) s.lines
