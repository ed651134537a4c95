use Rattle.gc_tool.proofs.Known.{some_from, next_word, last_word}
use Rattle.gc_tool.proofs.arguments.words_after_name.Goals as goal

pub returns-in-None : goal.returns-in-None
returns-in-None g c =
    some_from _ _ (λ all is. last_word all c.loop-place.words.items c.loop-place.place (c.loop-place.invariant all is) _ c.in_ok-word_at.field-0 is c.in_ok-word_at.ensures c.in-None.is)

pub loop-place-preserved : goal.loop-place-preserved
loop-place-preserved g c = λ all is.
    rw c.in_ok-push-in-Some.ensures.items
    (next_word all c.loop-place.words.items c.loop-place.place (c.loop-place.invariant all is) _ c.in_ok-word_at.field-0 c.in-Some.word is c.in_ok-word_at.ensures c.in-Some.is)
