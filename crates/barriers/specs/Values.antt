-- The value of a field's word.
use Rattle.heap_words.specs.declared.field_word.FieldWord.{FieldWord}
use Rattle.heap_words.specs.declared.field_word.FieldWord.TheVariants as words
use Rattle.heap_history.specs.declared.call.Value.{Value}
use Rattle.heap_history.specs.declared.call.Value.TheVariants.{Num, Object}

-- no address is part of it: of a link it is the birth number
abbrev pub value_of : FieldWord → Value
value_of (words.Num n) = Num n
value_of (words.Link birth at) = Object birth
