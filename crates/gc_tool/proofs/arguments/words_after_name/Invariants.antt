use Rattle.std.proofs.Common.{◌≡◌, ℕ, List, ◌++◌, drop, Some}
use Rattle.gc_tool.specs.Forms.{words_of}
use Rattle.gc_tool.proofs.arguments.words_after_name.Given as goal

-- the words so far, and then those from this place on, are all after the first
abbrev pub invariant-loop-place : goal.invariant-loop-place
invariant-loop-place g l = (told : List (List ℕ)) → g.A.Arguments.told l.arguments ≡ Some told → words_of l.words.items ++ drop l.place told ≡ drop 1 told
