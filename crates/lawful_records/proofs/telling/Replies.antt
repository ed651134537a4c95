-- What the heap replies to a call that has ended.
use Rattle.std.specs.Prelude.{IsTrue}
use Rattle.std.proofs.Common.{◌≡◌, ℕ, List, [], ◌∷◌, length, true, false, Some, refl, sym, ap, ◌∙◌, arith}
use Rattle.std.proofs.lemmas.Bool.{eq-eqb, true≢false}
use Rattle.heap_words.specs.declared.field_word.FieldWord.{FieldWord}
use Rattle.heap_words.specs.declared.field_word.FieldWord.TheVariants.{Num, Link}
use Rattle.heap_history.specs.FixedHeaps.{answer, is_there, is_same}
use Rattle.heap_history.specs.Histories.{is_change}
use Rattle.heap_history.specs.NewestFirst.{heap_of_history}
use Rattle.heap_history.specs.ValueLaws.{object_there, answer-read, answer-exchange_differs}
use Rattle.heap_history.specs.declared.call.Call.{Call}
use Rattle.heap_history.specs.declared.call.Call.TheVariants as calls
use Rattle.heap_history.specs.declared.call.Value.{Value}
use Rattle.heap_history.specs.declared.call.Value.TheVariants as values
use Rattle.heap_history.specs.declared.call.Reply.{Reply}
use Rattle.heap_history.specs.declared.call.Reply.TheVariants as replies
use Rattle.heap_history.specs.declared.call.Ended.{Ended}
use Rattle.barriers.specs.declared.spot.Spot.{Spot}
use Rattle.barriers.specs.Values.{value_of}
use Rattle.barriers.specs.Knowns.{Known, Task, Reads, Writes, Exchanges, Ending, Got, Wrote, Done, Differs, Refused, Over, spot_of, task_of, call_of}
use Rattle.barriers.specs.Protocols.{Answered, Suits, has_made}
use Rattle.barriers.specs.Objects.{IsMade, reply_made}
use Rattle.lawful_records.specs.Beginnings.{ended_call, made_last}
use Rattle.lawful_records.specs.Meetings.{IsNamed, HasSpot}
use Rattle.lawful_records.proofs.telling.Telling.{IsLook, IsChanged, AtMost}

-- it has ended as such a call does
abbrev pub EndsSo : Known → Type 0
EndsSo (Over s t end) = Suits t end
EndsSo k = Unit {0}

-- a value that a word names is there where its object is
pub value_named : (h : List Call) (word : FieldWord) → IsNamed h word → IsTrue (is_there (heap_of_history h) (value_of word))
value_named h (Num n) named = refl
value_named h (Link birth at) named = object_there h birth named.0 named.1

itself : (value : Value) → is_same value value ≡ true
itself (values.Num n) = eq-eqb n n refl
itself (values.Object birth) = eq-eqb birth birth refl

-- ---- looks

-- a call that has ended so was a look, or refused
over_look : (seen : List Call) (pass : ℕ) (s : Spot) (t : Task) (end : Ending) → Suits t end → has_made (Over s t end) ≡ false → Answered seen (Over s t end) → HasSpot seen (Over s t end) → AtMost (IsLook pass seen) (ended_call (Some (Over s t end)) pass (length seen))
over_look seen pass s Reads (Got word) suits look answered met =
    record { own = refl; there = λ none. absurd cc; front = refl; look = refl; said = answer-read seen pass s.birth s.field met.len met.there (met.inside refl) ∙ ap (λ value. replies.Got value) (sym answered.value) }
over_look seen pass s (Exchanges expected new) (Differs word) suits look answered met =
    let apart : is_same (value_of word) expected ≡ true → ⊥ = λ same. true≢false (sym same ∙ answered.reply) in
    record {
      own = refl;
      there = λ none. absurd cc;
      front = refl;
      look = refl;
      said =
          answer-exchange_differs seen pass s.birth s.field met.len expected (value_of new) met.there (met.inside refl) (value_named seen new met.word)
          (λ same. apart (ap (λ value. is_same value expected) (answered.value ∙ same) ∙ itself expected))
          ∙ ap (λ value. replies.Differs value) (sym answered.value);
    }
over_look seen pass s Reads (Differs word) suits look answered met = absurd suits
over_look seen pass s (Writes new) (Got word) suits look answered met = absurd suits
over_look seen pass s (Writes new) (Differs word) suits look answered met = absurd suits
over_look seen pass s (Exchanges expected new) (Got word) suits look answered met = absurd suits
over_look seen pass s t Wrote suits look answered met = absurd (true≢false look)
over_look seen pass s t Done suits look answered met = absurd (true≢false look)
over_look seen pass s t (Refused why) suits look answered met = tt

-- a call that has ended with no change, or not yet
pub look_ended : (seen : List Call) (pass : ℕ) (k : Known) → EndsSo k → has_made k ≡ false → Answered seen k → HasSpot seen k → AtMost (IsLook pass seen) (ended_call (Some k) pass (length seen))
look_ended seen pass (Over s t end) suits look answered met = over_look seen pass s t end suits look answered met
look_ended seen pass k suits look answered met = tt

-- ---- changes

-- what has ended is a call with its change, made where this was the history
pub record EndsWith (h : List Call) (call : Call) (es : List Ended) : Type 0 where
  pub last : Ended
  pub is : es ≡ last ∷ []
  pub call_is : last.call ≡ call
  pub changed : IsChanged h last

-- a call that is a change, with this reply
ended_so : (before seen : List Call) (pass : ℕ) (s : Spot) (t : Task) (call : Call) (reply : Reply) → IsTrue (is_change reply) → seen ≡ call ∷ before → (made : IsMade seen pass s t) → reply_made t ≡ reply
    → EndsWith before call (record { call = call_of pass s t; reply = reply; front = length seen } ∷ [])
ended_so before seen pass s t call reply change is_seen made replied =
    let same : call_of pass s t ∷ made.before ≡ call ∷ before = sym made.last ∙ is_seen in
    let call_is : call_of pass s t ≡ call = cc in
    let before_is : made.before ≡ before = cc in
    record {
      last = record { call = call_of pass s t; reply = reply; front = length seen };
      is = refl;
      call_is = call_is;
      changed = record {
        front = omega (arith, ap length is_seen);
        change = change;
        said = ap (λ h. answer (heap_of_history h) (call_of pass s t)) (sym before_is) ∙ made.answer ∙ replied;
      };
    }

over_change : (before seen : List Call) (pass : ℕ) (s : Spot) (t : Task) (end : Ending) (call : Call) → Suits t end → has_made (Over s t end) ≡ true → seen ≡ call ∷ before → IsMade seen pass s t → EndsWith before call (ended_call (Some (Over s t end)) pass (length seen))
over_change before seen pass s (Writes word) Wrote call suits made is_seen is = ended_so before seen pass s (Writes word) call replies.Wrote refl is_seen is refl
over_change before seen pass s (Exchanges expected word) Done call suits made is_seen is = ended_so before seen pass s (Exchanges expected word) call replies.Done refl is_seen is refl
over_change before seen pass s Reads Wrote call suits made is_seen is = absurd suits
over_change before seen pass s Reads Done call suits made is_seen is = absurd suits
over_change before seen pass s (Writes word) Done call suits made is_seen is = absurd suits
over_change before seen pass s (Exchanges expected word) Wrote call suits made is_seen is = absurd suits
over_change before seen pass s t (Got word) call suits made is_seen is = absurd (true≢false (sym made))
over_change before seen pass s t (Differs word) call suits made is_seen is = absurd (true≢false (sym made))
over_change before seen pass s t (Refused why) call suits made is_seen is = absurd (true≢false (sym made))

-- a call that has ended with its change, after which all is seen
pub change_ended : (before seen : List Call) (pass : ℕ) (k : Known) (call : Call) → EndsSo k → has_made k ≡ true → seen ≡ call ∷ before → IsMade seen pass (spot_of k) (task_of k) → EndsWith before call (ended_call (Some k) pass (length seen))
change_ended before seen pass (Over s t end) call suits made is_seen is = over_change before seen pass s t end call suits made is_seen is
change_ended before seen pass k call suits made is_seen is = absurd (true≢false (sym made))

-- a new object
pub new_ended : (h : List Call) (pass birth len : ℕ) → answer (heap_of_history h) (calls.NewObject pass birth len) ≡ replies.Made → EndsWith h (calls.NewObject pass birth len) (made_last (calls.NewObject pass birth len ∷ h))
new_ended h pass birth len said = record {
  last = record { call = calls.NewObject pass birth len; reply = replies.Made; front = length (calls.NewObject pass birth len ∷ h) };
  is = refl;
  call_is = refl;
  changed = record { front = omega arith; change = refl; said = said };
}
