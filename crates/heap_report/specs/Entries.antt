-- The lines of a history.
use Rattle.std.specs.Prelude.{ℕ, List, [], ◌∷◌, codes, decimal}
use Rattle.heap_history.specs.declared.call.Call.{Call}
use Rattle.heap_history.specs.declared.call.Call.TheVariants.{NewObject, Read, Write, Exchange}
use Rattle.heap_history.specs.declared.call.Reply.{Reply}
use Rattle.heap_history.specs.declared.call.Reply.TheVariants.{Made, Got, Wrote, Done, Differs}
use Rattle.heap_history.specs.declared.call.Entry.{Entry}
use Rattle.heap_script.specs.Words.{Word}
use Rattle.heap_script.specs.Text.{line_text}
use Rattle.heap_report.specs.Words.{object_word, place_word, value_word}

-- an entry's words after its first two
abbrev pub call_words : Call → Reply → List Word
call_words (NewObject pass birth len) Made = codes "new" ∷ object_word birth ∷ decimal len ∷ codes "made" ∷ []
call_words (Write pass object field value) Wrote = codes "put" ∷ place_word object field ∷ value_word value ∷ codes "wrote" ∷ []
call_words (Read pass object field) (Got value) = codes "get" ∷ place_word object field ∷ codes "got" ∷ value_word value ∷ []
call_words (Exchange pass object field expected value) Done =
    codes "cas" ∷ place_word object field ∷ value_word expected ∷ value_word value ∷ codes "done" ∷ []
call_words (Exchange pass object field expected value) (Differs other) =
    codes "cas" ∷ place_word object field ∷ value_word expected ∷ value_word value ∷ codes "differs" ∷ value_word other ∷ []
call_words _ _ = []

abbrev pub thread_of : Call → ℕ
thread_of (NewObject pass birth len) = pass
thread_of (Read pass object field) = pass
thread_of (Write pass object field value) = pass
thread_of (Exchange pass object field expected value) = pass

abbrev pub entry_text : Entry → List ℕ
entry_text e = line_text (codes "entry" ∷ decimal (thread_of e.call) ∷ call_words e.call e.reply)
