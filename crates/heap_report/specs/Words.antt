-- Words of a text.
use Rattle.std.specs.Prelude.{ℕ, ◌/◌, ◌%◌, ◌∷◌, ◌++◌, decimal}
use Rattle.heap_words.specs.declared.limits.TheConstants.{BIRTHS_BETWEEN_PASSES}
use Rattle.heap_history.specs.declared.call.Value.{Value}
use Rattle.heap_history.specs.declared.call.Value.TheVariants as values
use Rattle.heap_script.specs.Words.{Word}

-- #p.s: the s-th object of pass p
abbrev pub object_word : ℕ → Word
object_word birth = (35 ∷ decimal (birth / BIRTHS_BETWEEN_PASSES)) ++ 46 ∷ decimal (birth % BIRTHS_BETWEEN_PASSES)

-- #p.s.f
abbrev pub place_word : ℕ → ℕ → Word
place_word object field = object_word object ++ 46 ∷ decimal field

abbrev pub value_word : Value → Word
value_word (values.Num n) = decimal n
value_word (values.Object birth) = object_word birth
