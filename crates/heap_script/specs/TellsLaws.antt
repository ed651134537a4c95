-- Laws of what a thread's answers tell: one command more, a call of another thread, and what they say of the history.
use Rattle.std.specs.Prelude.{slice_get, IsSome}
use Rattle.std.specs.Option.{option_map}
use Rattle.std.proofs.Common.{◌≡◌, ◌≢◌, ℕ, ◌+◌, ◌≤◌, List, [], ◌∷◌, ◌++◌, length, take, drop, Bool, true, false, Option, Some, None, refl, sym, ap, ◌∙◌, subst, arith, length-append}
use Rattle.std.proofs.Math.Seq.{take-length, drop-length}
use Rattle.std.proofs.lemmas.List.{append-nil}
use Rattle.heap_history.specs.declared.call.Value.{Value}
use Rattle.heap_history.specs.declared.call.Value.TheVariants.{Object}
use Rattle.heap_history.specs.declared.call.Call.{Call}
use Rattle.heap_history.specs.declared.call.Ended.{Ended}
use Rattle.heap_history.specs.FixedHeaps.{fields_of, answer}
use Rattle.heap_history.specs.Histories.{Follows, heap_at, made_by, change_of, is_change, pass_of}
use Rattle.heap_history.specs.HistoryLaws.{heap_at-length}
use Rattle.heap_history.specs.NextLaws.{IsNext-look, IsNext-change, made_by-later, made_by-push, made_by-other}
use Rattle.heap_history.specs.ObjectLaws.{fields_len_was}
use Rattle.heap_history.specs.Logs.{changes_of, heap_of, of_pass}
use Rattle.heap_history.specs.LogLaws.{changes_of-append, changes_of-look, changes_of-change}
use Rattle.heap_history.specs.Arranged.{arranged}
use Rattle.heap_history.specs.ShownLaws.{of_pass-arranged, follows_rising}
use Rattle.heap_script.specs.declared.script.Command.{Command}
use Rattle.heap_script.specs.declared.answer.Answer.{Answer}
use Rattle.heap_script.specs.Allowed.{IsRun, IsAnswered, IsOutcome, IsNoCall, IsNumbered, IsAllowedThread, first_seat, seat_after, registers_after, lens_after, call_of, reply_of, held}
use Rattle.heap_script.specs.Tellings.{Thread, Standing, Tells, ended_with, ended_in}
use Rattle.heap_script.specs.RunLaws.{call_there, run_push, run_grows, ended_push, commands_push, own_call, foreign_call, run_follows}
use Rattle.heap_script.specs.SeenLaws.{seat_object_there, no_call_was}

-- ---- one command more

-- its seat has seen no more changes than there are
pub seat_within : (t : Thread) (s : Standing) (answers : List Answer) (log : List Ended) (told : Tells t s answers log) → told.seat.seen ≤ length (changes_of log)
seat_within t s answers log told = omega (arith, told.seen_grows, told.seen_before)

module _ (t : Thread) (s : Standing) (answers : List Answer) (log : List Ended) (told : Tells t s answers log) (c : Command) (at : slice_get t.commands (length answers) ≡ Some c) (a : Answer) where
  -- the history so far
  abbrev h : List Call
  h = changes_of log

  -- the call of the command, if it is one
  abbrev call_is : Option Call
  call_is = call_of t.number told.seat c a

  tells_more : (new : Standing) (front : ℕ) (log' : List Ended) (more : List Call) → changes_of log' ≡ h ++ more → of_pass t.number log' ≡ of_pass t.number log ++ ended_with call_is a front
      → IsAnswered t.quota t.number (h ++ more) told.seat c a front → front ≤ new.seen → new.seen ≤ length (h ++ more) → made_by t.number (drop front (h ++ more)) ≡ []
      → registers_after told.seat c a ≡ new.registers → length (lens_after told.seat c a) ≡ new.made → Tells t new (answers ++ a ∷ []) log'
  tells_more new front log' more same calls answered grows within rest regs lens =
      let so_far = take (length answers) t.commands in
      let cs : take (length (answers ++ a ∷ [])) t.commands ≡ so_far ++ c ∷ [] = commands_push t.commands answers c a at in
      let grown = run_grows t.quota t.number h more first_seat so_far answers told.fronts told.seat (omega arith) told.run in
      let pushed = run_push t.quota t.number (h ++ more) first_seat so_far answers told.fronts told.seat c a front grown answered in
      let last = seat_after told.seat c a front in
      let fronts = told.fronts ++ front ∷ [] in
      let P : List Command → Type 0 = λ xs. IsRun t.quota t.number (h ++ more) first_seat xs (answers ++ a ∷ []) fronts last in
      let Q : List Call → Type 0 = λ x. IsRun t.quota t.number x first_seat (take (length (answers ++ a ∷ [])) t.commands) (answers ++ a ∷ []) fronts last in
      record {
        fronts = fronts;
        seat = last;
        run = subst Q (sym same) (subst P (sym cs) pushed);
        calls_are = calls
            ∙ ap (λ before. before ++ ended_with call_is a front) told.calls_are
            ∙ sym (ended_push t.quota t.number h first_seat so_far answers told.fronts told.seat c a front told.run)
            ∙ ap (λ xs. ended_in t.number first_seat xs (answers ++ a ∷ []) fronts) (sym cs);
        registers_are = regs;
        seen_grows = grows;
        seen_before = omega (arith, within, ap length same);
        lens_are = lens;
        rest = ap (λ x. made_by t.number (drop front x)) same ∙ rest;
      }

  -- The command was no call of the heap. What the thread has seen of the heap says so.
  pub tells_none : (registers : List Value) → call_is ≡ None → IsNoCall t.quota (heap_at h told.seat.seen) told.seat c a → registers_after told.seat c a ≡ registers → length (lens_after told.seat c a) ≡ s.made
      → Tells t (record s { registers = registers }) (answers ++ a ∷ []) log
  tells_none registers none no_call regs lens =
      let front = told.seat.seen in
      let Q : Option Call → Type 0 = λ o. IsOutcome t.quota t.number h told.seat c a front o in
      let answered : IsAnswered t.quota t.number h told.seat c a front = subst Q (sym none) (refl, no_call) in
      let R : List Call → Type 0 = λ x. IsAnswered t.quota t.number x told.seat c a front in
      let same : h ≡ h ++ [] = sym (append-nil h) in
      let calls : of_pass t.number log ≡ of_pass t.number log ++ ended_with call_is a front = sym (append-nil (of_pass t.number log)) ∙ ap (λ o. of_pass t.number log ++ ended_with o a front) (sym none) in
      tells_more (record s { registers = registers }) front log [] same calls (subst R same answered) told.seen_grows (omega (arith, told.seen_before, ap length same))
      (ap (λ x. made_by t.number (drop front x)) (append-nil h) ∙ told.rest) regs lens

  -- the calls of the thread with that of the command
  own_calls : (call : Call) (front : ℕ) → call_is ≡ Some call → pass_of call ≡ t.number
      → of_pass t.number (log ++ record { call = call; reply = reply_of a; front = front } ∷ []) ≡ of_pass t.number log ++ ended_with call_is a front
  own_calls call front some own = own_call t.number log (record { call = call; reply = reply_of a; front = front }) own ∙ ap (λ o. of_pass t.number log ++ ended_with o a front) (sym some)

  -- The command was a look, which saw the heap after a number of changes. The thread has then seen these.
  pub tells_look : (call : Call) (front : ℕ) (registers : List Value) → call_is ≡ Some call → IsNumbered t.number told.seat a → is_change (reply_of a) ≡ false → pass_of call ≡ t.number → told.seat.seen ≤ front → front ≤ length h
      → answer (heap_at h front) call ≡ reply_of a → registers_after told.seat c a ≡ registers → length (lens_after told.seat c a) ≡ s.made
      → Tells t (record { made = s.made; seen = front; registers = registers }) (answers ++ a ∷ []) (log ++ record { call = call; reply = reply_of a; front = front } ∷ [])
  tells_look call front registers some numbered look own later within said regs lens =
      let e : Ended = record { call = call; reply = reply_of a; front = front } in
      let Q : Option Call → Type 0 = λ o. IsOutcome t.quota t.number h told.seat c a front o in
      let next = IsNext-look h t.number told.seat.seen e own (call_there t.number told.seat c a call some) look later within told.rest said in
      let answered : IsAnswered t.quota t.number h told.seat c a front = subst Q (sym some) (numbered, next) in
      let R : List Call → Type 0 = λ x. IsAnswered t.quota t.number x told.seat c a front in
      let all : h ≡ h ++ [] = sym (append-nil h) in
      tells_more (record { made = s.made; seen = front; registers = registers }) front (log ++ e ∷ []) [] (changes_of-look log e look ∙ all) (own_calls call front some own) (subst R all answered) (omega arith) (omega (arith, within, ap length all))
      (ap (λ x. made_by t.number (drop front x)) (append-nil h) ∙ made_by-later t.number told.seat.seen front h later told.rest) regs lens

  -- The command was a change, the next one.
  pub tells_change : (call : Call) (made : ℕ) (registers : List Value) → call_is ≡ Some call → IsNumbered t.number told.seat a → is_change (reply_of a) ≡ true → pass_of call ≡ t.number
      → answer (heap_of log) call ≡ reply_of a → registers_after told.seat c a ≡ registers → length (lens_after told.seat c a) ≡ made
      → Tells t (record { made = made; seen = length (changes_of log) + 1; registers = registers }) (answers ++ a ∷ []) (log ++ record { call = call; reply = reply_of a; front = length (changes_of log) + 1 } ∷ [])
  tells_change call made registers some numbered change own said regs lens =
      let front = length h + 1 in
      let e : Ended = record { call = call; reply = reply_of a; front = front } in
      let Q : Option Call → Type 0 = λ o. IsOutcome t.quota t.number (h ++ call ∷ []) told.seat c a front o in
      let before : told.seat.seen ≤ length h = omega (arith, told.seen_grows, told.seen_before) in
      let next = IsNext-change h t.number told.seat.seen e own change before refl told.rest said in
      let answered : IsAnswered t.quota t.number (h ++ call ∷ []) told.seat c a front = subst Q (sym some) (numbered, next) in
      let len : length (h ++ call ∷ []) ≡ front = length-append h (call ∷ []) in
      tells_more (record { made = made; seen = front; registers = registers }) front (log ++ e ∷ []) (call ∷ []) (changes_of-change log e change) (own_calls call front some own) answered (omega arith) (omega (arith, len))
      (ap (λ k. made_by t.number (drop k (h ++ call ∷ []))) (sym len) ∙ ap (made_by t.number) (drop-length (h ++ call ∷ []))) regs lens

-- ---- a call of another thread

foreign_rest : (thread seen : ℕ) (log : List Ended) (e : Ended) (change : Bool) → is_change e.reply ≡ change → seen ≤ length (changes_of log) → made_by thread (drop seen (changes_of log)) ≡ [] → pass_of e.call ≢ thread
    → made_by thread (drop seen (changes_of (log ++ e ∷ []))) ≡ []
foreign_rest thread seen log e true is within rest foreign =
    ap (λ x. made_by thread (drop seen x)) (changes_of-change log e is) ∙ made_by-push thread seen (changes_of log) e.call within rest ∙ made_by-other thread e.call foreign
foreign_rest thread seen log e false is within rest foreign = ap (λ x. made_by thread (drop seen x)) (changes_of-look log e is) ∙ rest

pub tells_other : (t : Thread) (s : Standing) (answers : List Answer) (log : List Ended) (e : Ended) → pass_of e.call ≢ t.number → Tells t s answers log → Tells t s answers (log ++ e ∷ [])
tells_other t s answers log e foreign told =
    let more = change_of e.call e.reply in
    let same : changes_of (log ++ e ∷ []) ≡ changes_of log ++ more = changes_of-append log e in
    let Q : List Call → Type 0 = λ x. IsRun t.quota t.number x first_seat (take (length answers) t.commands) answers told.fronts told.seat in
    record {
      fronts = told.fronts;
      seat = told.seat;
      run = subst Q (sym same) (run_grows t.quota t.number (changes_of log) more first_seat (take (length answers) t.commands) answers told.fronts told.seat (omega arith) told.run);
      calls_are = foreign_call t.number log e foreign ∙ told.calls_are;
      registers_are = told.registers_are;
      seen_grows = told.seen_grows;
      seen_before = omega (arith, told.seen_before, ap length same, length-append (changes_of log) more);
      lens_are = told.lens_are;
      rest = foreign_rest t.number told.seat.seen log e (is_change e.reply) refl (seat_within t s answers log told) told.rest foreign;
    }

-- it may have seen more changes
pub tells_seen : (t : Thread) (s : Standing) (answers : List Answer) (log : List Ended) (seen : ℕ) → s.seen ≤ seen → seen ≤ length (changes_of log) → Tells t s answers log → Tells t (record s { seen = seen }) answers log
tells_seen t s answers log seen more within told = record {
  fronts = told.fronts;
  seat = told.seat;
  run = told.run;
  calls_are = told.calls_are;
  registers_are = told.registers_are;
  seen_grows = omega (arith, told.seen_grows, more);
  seen_before = within;
  lens_are = told.lens_are;
  rest = told.rest;
}

-- ---- at the start, and where all is answered

pub tells_opening : (t : Thread) → Tells t (record { made = 0; seen = 0; registers = first_seat.registers }) [] []
tells_opening t = record {
  fronts = [];
  seat = first_seat;
  run = refl;
  calls_are = refl;
  registers_are = refl;
  seen_grows = omega arith;
  seen_before = omega arith;
  lens_are = refl;
  rest = refl;
}

-- the answers so far are allowed
tells_allowed_so_far : (t : Thread) (s : Standing) (answers : List Answer) (log : List Ended) → Tells t s answers log → IsAllowedThread t.quota t.number (changes_of log) (take (length answers) t.commands) answers
tells_allowed_so_far t s answers log told = record {
  fronts = told.fronts;
  last = told.seat;
  run = told.run;
  rest = told.rest;
}

-- and all of them at the end
pub tells_allowed : (t : Thread) (s : Standing) (answers : List Answer) (log : List Ended) → Tells t s answers log → length answers ≡ length t.commands → IsAllowedThread t.quota t.number (changes_of log) t.commands answers
tells_allowed t s answers log told all =
    let P : List Command → Type 0 = λ cs. IsAllowedThread t.quota t.number (changes_of log) cs answers in
    subst P (ap (λ k. take k t.commands) all ∙ take-length t.commands) (tells_allowed_so_far t s answers log told)

-- ---- what the heap that it has seen says

module _ (t : Thread) (s : Standing) (answers : List Answer) (log : List Ended) (told : Tells t s answers log) where
  -- an object that a register names was there
  named_there : (obj birth : ℕ) → held told.seat obj ≡ Object birth → IsSome (fields_of (heap_at (changes_of log) told.seat.seen) birth)
  named_there obj birth is = seat_object_there t.quota t.number (changes_of log) (take (length answers) t.commands) answers told.fronts told.seat told.run obj birth is

  -- with the length that it has now
  named_len : (obj birth k : ℕ) → held told.seat obj ≡ Object birth → option_map length (fields_of (heap_of log) birth) ≡ Some k → option_map length (fields_of (heap_at (changes_of log) told.seat.seen) birth) ≡ Some k
  named_len obj birth k is now =
      let h = changes_of log in
      fields_len_was h told.seat.seen (length h) birth k (omega (arith, told.seen_grows, told.seen_before)) (named_there obj birth is) (ap (λ heap. option_map length (fields_of heap birth)) (heap_at-length h) ∙ now)

  -- So what the heap refuses now it refused then.
  pub no_call_seen : (c : Command) (a : Answer) → IsNoCall t.quota (heap_of log) told.seat c a → IsNoCall t.quota (heap_at (changes_of log) told.seat.seen) told.seat c a
  no_call_seen c a no_call = no_call_was t.quota (heap_of log) (heap_at (changes_of log) told.seat.seen) told.seat c a named_len no_call

-- ---- its calls

-- they follow one another
pub tells_follows : (t : Thread) (s : Standing) (answers : List Answer) (log : List Ended) → Tells t s answers log → Follows (changes_of log) t.number 0 (of_pass t.number log)
tells_follows t s answers log told =
    let P : List Ended → Type 0 = λ es. Follows (changes_of log) t.number 0 es in
    subst P (sym told.calls_are) (run_follows t.quota t.number (changes_of log) first_seat (take (length answers) t.commands) answers told.fronts told.seat told.run told.rest)

-- So they stand in the shown history in their order: those of its commands.
pub tells_shown : (t : Thread) (s : Standing) (answers : List Answer) (log : List Ended) → (told : Tells t s answers log) → of_pass t.number (arranged log) ≡ ended_in t.number first_seat (take (length answers) t.commands) answers told.fronts
tells_shown t s answers log told =
    of_pass-arranged t.number log (follows_rising (changes_of log) t.number 0 0 (of_pass t.number log) (omega arith) (tells_follows t s answers log told)) ∙ told.calls_are
