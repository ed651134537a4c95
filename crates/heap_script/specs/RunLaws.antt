-- Laws of runs: one command more, a history that grows, and the calls of a run.
use Rattle.std.specs.Prelude.{slice_get, ◌==◌}
use Rattle.std.proofs.Common.{◌≡◌, ◌≢◌, ℕ, zero, suc, ◌≤◌, List, [], ◌∷◌, ◌++◌, length, take, drop, cond, Option, Some, None, refl, sym, ap, ◌∙◌, subst, arith, length-append, append_assoc}
use Rattle.std.proofs.lemmas.Bool.{eq-eqb, ne_eqb}
use Rattle.std.proofs.lemmas.List.{append-nil}
use Rattle.std.proofs.lemmas.List.Elements.{filter-append}
use Rattle.std.proofs.lemmas.Option.{same_Some}
use Rattle.heap_history.specs.declared.call.Call.{Call}
use Rattle.heap_history.specs.declared.call.Reply.TheVariants.{NotThere}
use Rattle.heap_history.specs.declared.call.Ended.{Ended}
use Rattle.heap_history.specs.FixedHeaps.{Heap}
use Rattle.heap_history.specs.Histories.{Follows, made_by, pass_of}
use Rattle.heap_history.specs.HistoryLaws.{heap_at-append}
use Rattle.heap_history.specs.NextLaws.{IsNext-append}
use Rattle.heap_history.specs.Logs.{of_pass}
use Rattle.heap_script.specs.declared.script.Command.{Command}
use Rattle.heap_script.specs.declared.script.Command.TheVariants.{New, Get, Put, Cas}
use Rattle.heap_script.specs.declared.answer.Answer.{Answer}
use Rattle.heap_script.specs.declared.answer.Answer.TheVariants as answers
use Rattle.heap_script.specs.Allowed.{Seat, IsRun, IsAnswered, IsOutcome, IsNoCall, seat_after, call_of, reply_of}
use Rattle.heap_script.specs.Tellings.{ended_with, ended_in}

-- ---- calls

-- a command that is a call has an answer of an object that is there
pub call_there : (thread : ℕ) (seat : Seat) (c : Command) (a : Answer) (call : Call) → call_of thread seat c a ≡ Some call → reply_of a ≢ NotThere
call_there thread seat (New dst len) (answers.Made birth) call some = λ e. cc
call_there thread seat (Get dst obj field) (answers.Got value) call some = λ e. cc
call_there thread seat (Put obj field what) answers.Ok call some = λ e. cc
call_there thread seat (Cas dst obj field expected value) answers.Done call some = λ e. cc
call_there thread seat (Cas dst obj field expected value) (answers.Differs other) call some = λ e. cc
call_there thread seat _ _ call some = λ e. cc

-- ---- runs

-- one command more
pub run_push : (quota thread : ℕ) (h : List Call) (s : Seat) (cs : List Command) (answers : List Answer) (ns : List ℕ) (last : Seat) (c : Command) (a : Answer) (n : ℕ)
    → IsRun quota thread h s cs answers ns last → IsAnswered quota thread h last c a n
    → IsRun quota thread h s (cs ++ c ∷ []) (answers ++ a ∷ []) (ns ++ n ∷ []) (seat_after last c a n)
run_push quota thread h s [] [] [] last c a n r answered =
    let P : Seat → Type 0 = λ x. IsAnswered quota thread h x c a n × (seat_after x c a n ≡ seat_after last c a n) in
    subst P (sym r) (answered, refl)
run_push quota thread h s [] [] (m ∷ ns) last c a n r answered = absurd r
run_push quota thread h s [] (b ∷ answers) ns last c a n r answered = absurd r
run_push quota thread h s (d ∷ cs) [] ns last c a n r answered = absurd r
run_push quota thread h s (d ∷ cs) (b ∷ answers) [] last c a n r answered = absurd r
run_push quota thread h s (d ∷ cs) (b ∷ answers) (m ∷ ns) last c a n r answered =
    (r.0, run_push quota thread h (seat_after s d b m) cs answers ns last c a n r.1 answered)

outcome_grows : (quota thread : ℕ) (h more : List Call) (s : Seat) (c : Command) (a : Answer) (n : ℕ) (call : Option Call) → s.seen ≤ length h
    → IsOutcome quota thread h s c a n call → IsOutcome quota thread (h ++ more) s c a n call × (n ≤ length h)
outcome_grows quota thread h more s c a n None seen o =
    let P : Heap → Type 0 = λ heap. IsNoCall quota heap s c a in
    ((o.0, subst P (sym (heap_at-append h more s.seen seen)) o.1), omega (arith, o.0))
outcome_grows quota thread h more s c a n (Some call) seen o = ((o.0, IsNext-append h more thread s.seen _ o.1), o.1.within)

-- the history has grown
pub run_grows : (quota thread : ℕ) (h more : List Call) (s : Seat) (cs : List Command) (answers : List Answer) (ns : List ℕ) (last : Seat) → s.seen ≤ length h
    → IsRun quota thread h s cs answers ns last → IsRun quota thread (h ++ more) s cs answers ns last
run_grows quota thread h more s [] [] [] last seen r = r
run_grows quota thread h more s [] [] (m ∷ ns) last seen r = absurd r
run_grows quota thread h more s [] (b ∷ answers) ns last seen r = absurd r
run_grows quota thread h more s (d ∷ cs) [] ns last seen r = absurd r
run_grows quota thread h more s (d ∷ cs) (b ∷ answers) [] last seen r = absurd r
run_grows quota thread h more s (d ∷ cs) (b ∷ answers) (m ∷ ns) last seen r =
    let o = outcome_grows quota thread h more s d b m (call_of thread s d b) seen r.0 in
    (o.0, run_grows quota thread h more (seat_after s d b m) cs answers ns last o.1 r.1)

-- the calls of a run, with one command more
pub ended_push : (quota thread : ℕ) (h : List Call) (s : Seat) (cs : List Command) (answers : List Answer) (ns : List ℕ) (last : Seat) (c : Command) (a : Answer) (n : ℕ)
    → IsRun quota thread h s cs answers ns last
    → ended_in thread s (cs ++ c ∷ []) (answers ++ a ∷ []) (ns ++ n ∷ []) ≡ ended_in thread s cs answers ns ++ ended_with (call_of thread last c a) a n
ended_push quota thread h s [] [] [] last c a n r =
    append-nil (ended_with (call_of thread s c a) a n) ∙ ap (λ (x : Seat). ended_with (call_of thread x c a) a n) r
ended_push quota thread h s [] [] (m ∷ ns) last c a n r = absurd r
ended_push quota thread h s [] (b ∷ answers) ns last c a n r = absurd r
ended_push quota thread h s (d ∷ cs) [] ns last c a n r = absurd r
ended_push quota thread h s (d ∷ cs) (b ∷ answers) [] last c a n r = absurd r
ended_push quota thread h s (d ∷ cs) (b ∷ answers) (m ∷ ns) last c a n r =
    ap (λ later. ended_with (call_of thread s d b) b m ++ later) (ended_push quota thread h (seat_after s d b m) cs answers ns last c a n r.1)
    ∙ sym (append_assoc (ended_with (call_of thread s d b) b m) (ended_in thread (seat_after s d b m) cs answers ns) (ended_with (call_of thread last c a) a n))

pub taken_push : {X : Type 0} → (xs : List X) (k : ℕ) (x : X) → slice_get xs k ≡ Some x → take (suc k) xs ≡ take k xs ++ x ∷ []
taken_push [] k x e = absurd cc
taken_push (y ∷ xs) zero x e = let h : y ≡ x = same_Some y x e in ap (λ z. z ∷ []) h
taken_push (y ∷ xs) (suc k) x e = ap (λ zs. y ∷ zs) (taken_push xs k x e)

-- the commands that are answered, with one more
pub commands_push : (commands : List Command) (answers : List Answer) (c : Command) (a : Answer) → slice_get commands (length answers) ≡ Some c → take (length (answers ++ a ∷ [])) commands ≡ take (length answers) commands ++ c ∷ []
commands_push commands answers c a at =
    let len : length (answers ++ a ∷ []) ≡ suc (length answers) = omega (arith, length-append answers (a ∷ [])) in
    ap (λ k. take k commands) len ∙ taken_push commands (length answers) c at

-- ---- the calls of one pass

pub own_call : (thread : ℕ) (log : List Ended) (e : Ended) → pass_of e.call ≡ thread → of_pass thread (log ++ e ∷ []) ≡ of_pass thread log ++ e ∷ []
own_call thread log e own = filter-append (λ d. pass_of d.call == thread) log (e ∷ []) ∙ ap (λ b. of_pass thread log ++ cond b (e ∷ []) []) (eq-eqb (pass_of e.call) thread own)

pub foreign_call : (thread : ℕ) (log : List Ended) (e : Ended) → pass_of e.call ≢ thread → of_pass thread (log ++ e ∷ []) ≡ of_pass thread log
foreign_call thread log e foreign =
    filter-append (λ d. pass_of d.call == thread) log (e ∷ [])
    ∙ ap (λ b. of_pass thread log ++ cond b (e ∷ []) []) (ne_eqb (pass_of e.call) thread foreign)
    ∙ append-nil (of_pass thread log)

-- ---- its calls follow

outcome_follows : (quota thread : ℕ) (h : List Call) (s : Seat) (c : Command) (a : Answer) (n : ℕ) (call : Option Call) (later : List Ended) → IsOutcome quota thread h s c a n call → Follows h thread n later → Follows h thread s.seen (ended_with call a n ++ later)
outcome_follows quota thread h s c a n None later o follows = let P : ℕ → Type 0 = λ k. Follows h thread k later in subst P o.0 follows
outcome_follows quota thread h s c a n (Some call) later o follows = (o.1, follows)

-- the calls of a run are those of its thread, one after another
pub run_follows : (quota thread : ℕ) (h : List Call) (s : Seat) (cs : List Command) (answers : List Answer) (ns : List ℕ) (last : Seat) → IsRun quota thread h s cs answers ns last → made_by thread (drop last.seen h) ≡ [] → Follows h thread s.seen (ended_in thread s cs answers ns)
run_follows quota thread h s [] [] [] last r rest = ap (λ (x : Seat). made_by thread (drop x.seen h)) r ∙ rest
run_follows quota thread h s [] [] (m ∷ ns) last r rest = absurd r
run_follows quota thread h s [] (b ∷ answers) ns last r rest = absurd r
run_follows quota thread h s (d ∷ cs) [] ns last r rest = absurd r
run_follows quota thread h s (d ∷ cs) (b ∷ answers) [] last r rest = absurd r
run_follows quota thread h s (d ∷ cs) (b ∷ answers) (m ∷ ns) last r rest =
    outcome_follows quota thread h s d b m (call_of thread s d b) (ended_in thread (seat_after s d b m) cs answers ns) r.0 (run_follows quota thread h (seat_after s d b m) cs answers ns last r.1 rest)
