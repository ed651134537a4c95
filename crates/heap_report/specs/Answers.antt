-- The lines of answers and of refused tries.
use Rattle.std.specs.Prelude.{ℕ, ◌+◌, ◌==◌, ◌&&◌, if◌then◌else◌, List, [], ◌∷◌, ◌++◌, codes, decimal}
use Rattle.heap_script.specs.declared.answer.Answer.{Answer}
use Rattle.heap_script.specs.declared.answer.Answer.TheVariants as answers
use Rattle.heap_script.specs.declared.told.Again.{Again}
use Rattle.heap_script.specs.Words.{Word}
use Rattle.heap_script.specs.Text.{line_text}
use Rattle.heap_report.specs.Words.{object_word, value_word}

-- an answer's words after its first three
abbrev pub answer_words : Answer → List Word
answer_words (answers.Made birth) = object_word birth ∷ []
answer_words answers.Full = codes "full" ∷ []
answer_words (answers.Got value) = value_word value ∷ []
answer_words answers.Ok = codes "ok" ∷ []
answer_words answers.Done = codes "done" ∷ []
answer_words (answers.Differs value) = codes "differs" ∷ value_word value ∷ []
answer_words answers.NotLink = codes "nolink" ∷ []
answer_words (answers.NoField len) = codes "nofield" ∷ decimal len ∷ []

-- the answers of a thread, of which the first is that to its k-th command
abbrev pub answers_text : ℕ → ℕ → List Answer → List ℕ
answers_text thread k [] = []
answers_text thread k (answer ∷ later) =
    line_text (codes "answer" ∷ decimal thread ∷ decimal k ∷ answer_words answer) ++ answers_text thread (k + 1) later

-- the answers of thread t, t + 1 and so on
abbrev pub all_answers_text : ℕ → List (List Answer) → List ℕ
all_answers_text thread [] = []
all_answers_text thread (first ∷ later) = answers_text thread 1 first ++ all_answers_text (thread + 1) later

-- how often the tries of a command were refused; a command whose tries were not has no line
abbrev pub again_text : Again → List ℕ
again_text a =
    if a.raced == 0 && a.busy == 0 then [] else
    line_text (codes "again" ∷ decimal a.thread ∷ decimal a.number ∷ codes "raced" ∷ decimal a.raced ∷ codes "busy" ∷ decimal a.busy ∷ [])
