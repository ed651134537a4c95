-- The lens of the objects that a thread was told of are those of its changes.
use Rattle.std.specs.Prelude.{◌==◌, reverse}
use Rattle.std.specs.List.{filter}
use Rattle.std.proofs.Common.{◌≡◌, ℕ, Bool, true, false, cond, List, [], ◌∷◌, ◌++◌, length, take, Option, Some, None, refl, sym, ap, ◌∙◌, subst, append_assoc}
use Rattle.std.proofs.lemmas.List.{append-nil, reverse-append}
use Rattle.std.proofs.lemmas.List.Elements.{filter-append}
use Rattle.heap_history.specs.declared.call.Value.{Value}
use Rattle.heap_history.specs.declared.call.Value.TheVariants.{Num, Object}
use Rattle.heap_history.specs.declared.call.Call.{Call}
use Rattle.heap_history.specs.declared.call.Call.TheVariants as calls
use Rattle.heap_history.specs.declared.call.Ended.{Ended}
use Rattle.heap_history.specs.Histories.{is_change, pass_of}
use Rattle.heap_history.specs.Logs.{changes_of, of_pass}
use Rattle.heap_history.specs.LogLaws.{of-change, of-look}
use Rattle.heap_script.specs.declared.script.Command.{Command}
use Rattle.heap_script.specs.declared.script.Command.TheVariants as commands
use Rattle.heap_script.specs.declared.answer.Answer.{Answer}
use Rattle.heap_script.specs.declared.answer.Answer.TheVariants as answers
use Rattle.heap_script.specs.Allowed.{Seat, IsRun, call_of, first_seat, held, lens_after, on_object, seat_after, value_of}
use Rattle.heap_script.specs.Tellings.{Thread, Standing, Tells, ended_in, ended_with}
use Rattle.lawful_records.specs.Making.{lens_of}
use Rattle.gc_cycle.proofs.script.Ends.{lens_made}

-- ---- changes in the order of time

-- the lens of the objects that they make
abbrev lens_in : List Call → List ℕ
lens_in [] = []
lens_in (calls.NewObject pass birth len ∷ cs) = len ∷ lens_in cs
lens_in (c ∷ cs) = lens_in cs

lens_in-first : (c : Call) (cs : List Call) → lens_in (c ∷ cs) ≡ lens_in (c ∷ []) ++ lens_in cs
lens_in-first (calls.NewObject pass birth len) cs = refl
lens_in-first (calls.Read pass object field) cs = refl
lens_in-first (calls.Write pass object field value) cs = refl
lens_in-first (calls.Exchange pass object field expected value) cs = refl

lens_in-append : (cs ds : List Call) → lens_in (cs ++ ds) ≡ lens_in cs ++ lens_in ds
lens_in-append [] ds = refl
lens_in-append (c ∷ cs) ds =
    lens_in-first c (cs ++ ds) ∙ ap (λ (ns : List ℕ). lens_in (c ∷ []) ++ ns) (lens_in-append cs ds)
    ∙ sym (append_assoc (lens_in (c ∷ [])) (lens_in cs) (lens_in ds)) ∙ ap (λ (ns : List ℕ). ns ++ lens_in ds) (sym (lens_in-first c cs))

-- one change more at the end, which is the oldest where the newest comes first
lens_of-oldest : (h : List Call) (c : Call) → lens_of (h ++ c ∷ []) ≡ lens_in (c ∷ []) ++ lens_of h
lens_of-oldest [] (calls.NewObject pass birth len) = refl
lens_of-oldest [] (calls.Read pass object field) = refl
lens_of-oldest [] (calls.Write pass object field value) = refl
lens_of-oldest [] (calls.Exchange pass object field expected value) = refl
lens_of-oldest (calls.NewObject pass birth len ∷ h) c = ap (λ (ns : List ℕ). ns ++ len ∷ []) (lens_of-oldest h c) ∙ append_assoc (lens_in (c ∷ [])) (lens_of h) (len ∷ [])
lens_of-oldest (calls.Read pass object field ∷ h) c = lens_of-oldest h c
lens_of-oldest (calls.Write pass object field value ∷ h) c = lens_of-oldest h c
lens_of-oldest (calls.Exchange pass object field expected value ∷ h) c = lens_of-oldest h c

lens_of-reverse : (cs : List Call) → lens_of (reverse cs) ≡ lens_in cs
lens_of-reverse [] = refl
lens_of-reverse (c ∷ cs) =
    ap lens_of (reverse-append (c ∷ []) cs) ∙ lens_of-oldest (reverse cs) c ∙ ap (λ (ns : List ℕ). lens_in (c ∷ []) ++ ns) (lens_of-reverse cs) ∙ sym (lens_in-first c cs)

-- ---- the changes of one pass

filter-reverse : (p : Call → Bool) (cs : List Call) → filter p (reverse cs) ≡ reverse (filter p cs)
filter-reverse p [] = refl
filter-reverse p (c ∷ cs) =
    ap (filter p) (reverse-append (c ∷ []) cs) ∙ filter-append p (reverse cs) (c ∷ []) ∙ ap (λ (ds : List Call). ds ++ filter p (c ∷ [])) (filter-reverse p cs)
    ∙ by_test (p c) refl
  where
    by_test : (test : Bool) → p c ≡ test → reverse (filter p cs) ++ cond test (c ∷ []) [] ≡ reverse (cond test (c ∷ filter p cs) (filter p cs))
    by_test true e = sym (reverse-append (c ∷ []) (filter p cs))
    by_test false e = append-nil (reverse (filter p cs))

-- they are those of its calls
own_changes : (pass : ℕ) (log : List Ended) → filter (λ c. pass_of c == pass) (changes_of log) ≡ changes_of (of_pass pass log)
own_changes pass [] = refl
own_changes pass (e ∷ es) = by_tests (own_changes pass es) (is_change e.reply) refl (pass_of e.call == pass) refl
  where
    -- the call is the pass's, or is not
    mine_is : (mine : Bool) → (pass_of e.call == pass) ≡ mine → of_pass pass (e ∷ es) ≡ cond mine (e ∷ of_pass pass es) (of_pass pass es)
    mine_is mine of = ap (λ (b : Bool). cond b (e ∷ of_pass pass es) (of_pass pass es)) of

    kept : (mine : Bool) → (pass_of e.call == pass) ≡ mine → filter (λ c. pass_of c == pass) (e.call ∷ changes_of es) ≡ cond mine (e.call ∷ filter (λ c. pass_of c == pass) (changes_of es)) (filter (λ c. pass_of c == pass) (changes_of es))
    kept mine of = ap (λ (b : Bool). cond b (e.call ∷ filter (λ c. pass_of c == pass) (changes_of es)) (filter (λ c. pass_of c == pass) (changes_of es))) of

    by_tests : filter (λ c. pass_of c == pass) (changes_of es) ≡ changes_of (of_pass pass es) → (change : Bool) → is_change e.reply ≡ change → (mine : Bool) → (pass_of e.call == pass) ≡ mine
        → filter (λ c. pass_of c == pass) (changes_of (e ∷ es)) ≡ changes_of (of_pass pass (e ∷ es))
    by_tests rest true is true of =
        ap (filter (λ c. pass_of c == pass)) (of-change e es is) ∙ kept true of ∙ ap (λ (cs : List Call). e.call ∷ cs) rest ∙ sym (ap changes_of (mine_is true of) ∙ of-change e (of_pass pass es) is)
    by_tests rest true is false of = ap (filter (λ c. pass_of c == pass)) (of-change e es is) ∙ kept false of ∙ rest ∙ sym (ap changes_of (mine_is false of))
    by_tests rest false is true of = ap (filter (λ c. pass_of c == pass)) (of-look e es is) ∙ rest ∙ sym (ap changes_of (mine_is true of) ∙ of-look e (of_pass pass es) is)
    by_tests rest false is false of = ap (filter (λ c. pass_of c == pass)) (of-look e es is) ∙ rest ∙ sym (ap changes_of (mine_is false of))

made_changes : (log : List Ended) (pass : ℕ) → lens_made log pass ≡ lens_in (changes_of (of_pass pass log))
made_changes log pass =
    ap lens_of (filter-reverse (λ c. pass_of c == pass) (changes_of log)) ∙ lens_of-reverse (filter (λ c. pass_of c == pass) (changes_of log)) ∙ ap lens_in (own_changes pass log)

-- ---- a run

changes_of-both : (es fs : List Ended) → changes_of (es ++ fs) ≡ changes_of es ++ changes_of fs
changes_of-both [] fs = refl
changes_of-both (e ∷ es) fs = by_test (changes_of-both es fs) (is_change e.reply) refl
  where
    by_test : changes_of (es ++ fs) ≡ changes_of es ++ changes_of fs → (change : Bool) → is_change e.reply ≡ change → changes_of (e ∷ (es ++ fs)) ≡ changes_of (e ∷ es) ++ changes_of fs
    by_test rest true is = of-change e (es ++ fs) is ∙ ap (λ (cs : List Call). e.call ∷ cs) rest ∙ ap (λ (cs : List Call). cs ++ changes_of fs) (sym (of-change e es is))
    by_test rest false is = of-look e (es ++ fs) is ∙ rest ∙ ap (λ (cs : List Call). cs ++ changes_of fs) (sym (of-look e es is))

-- what one command adds
abbrev added : ℕ → Seat → Command → Answer → ℕ → List ℕ
added thread seat c a n = lens_in (changes_of (ended_with (call_of thread seat c a) a n))

-- an access makes none
get_adds : (thread field : ℕ) (v value : Value) (n : ℕ) → lens_in (changes_of (ended_with (on_object v (λ birth. calls.Read thread birth field)) (answers.Got value) n)) ≡ []
get_adds thread field (Num k) value n = refl
get_adds thread field (Object birth) value n = refl

put_adds : (thread field : ℕ) (v what : Value) (n : ℕ) → lens_in (changes_of (ended_with (on_object v (λ birth. calls.Write thread birth field what)) answers.Ok n)) ≡ []
put_adds thread field (Num k) what n = refl
put_adds thread field (Object birth) what n = refl

done_adds : (thread field : ℕ) (v expected what : Value) (n : ℕ) → lens_in (changes_of (ended_with (on_object v (λ birth. calls.Exchange thread birth field expected what)) answers.Done n)) ≡ []
done_adds thread field (Num k) expected what n = refl
done_adds thread field (Object birth) expected what n = refl

differs_adds : (thread field : ℕ) (v expected what other : Value) (n : ℕ) → lens_in (changes_of (ended_with (on_object v (λ birth. calls.Exchange thread birth field expected what)) (answers.Differs other) n)) ≡ []
differs_adds thread field (Num k) expected what other n = refl
differs_adds thread field (Object birth) expected what other n = refl

lens_added : (thread : ℕ) (seat : Seat) (c : Command) (a : Answer) (n : ℕ) → lens_after seat c a ≡ seat.lens ++ added thread seat c a n
lens_added thread seat (commands.New dst len) (answers.Made birth) n = refl
lens_added thread seat (commands.Get dst obj field) (answers.Got value) n = sym (ap (λ (ns : List ℕ). seat.lens ++ ns) (get_adds thread field (held seat obj) value n) ∙ append-nil seat.lens)
lens_added thread seat (commands.Put obj field what) answers.Ok n = sym (ap (λ (ns : List ℕ). seat.lens ++ ns) (put_adds thread field (held seat obj) (value_of seat what) n) ∙ append-nil seat.lens)
lens_added thread seat (commands.Cas dst obj field expected value) answers.Done n =
    sym (ap (λ (ns : List ℕ). seat.lens ++ ns) (done_adds thread field (held seat obj) (value_of seat expected) (value_of seat value) n) ∙ append-nil seat.lens)
lens_added thread seat (commands.Cas dst obj field expected value) (answers.Differs other) n =
    sym (ap (λ (ns : List ℕ). seat.lens ++ ns) (differs_adds thread field (held seat obj) (value_of seat expected) (value_of seat value) other n) ∙ append-nil seat.lens)
lens_added thread seat _ _ n = sym (append-nil seat.lens)

lens_run : (quota thread : ℕ) (h : List Call) (seat : Seat) (cs : List Command) (told : List Answer) (ns : List ℕ) (last : Seat) → IsRun quota thread h seat cs told ns last → last.lens ≡ seat.lens ++ lens_in (changes_of (ended_in thread seat cs told ns))
lens_run quota thread h seat [] [] [] last run = ap (λ (s : Seat). s.lens) (sym run) ∙ sym (append-nil seat.lens)
lens_run quota thread h seat [] [] (n ∷ ns) last run = absurd run
lens_run quota thread h seat [] (a ∷ told) ns last run = absurd run
lens_run quota thread h seat (c ∷ cs) [] ns last run = absurd run
lens_run quota thread h seat (c ∷ cs) (a ∷ told) [] last run = absurd run
lens_run quota thread h seat (c ∷ cs) (a ∷ told) (n ∷ ns) last run =
    let next : Seat = seat_after seat c a n in
    let first : List Ended = ended_with (call_of thread seat c a) a n in
    let later : List Ended = ended_in thread next cs told ns in
    lens_run quota thread h next cs told ns last run.1
    ∙ ap (λ (ms : List ℕ). ms ++ lens_in (changes_of later)) (lens_added thread seat c a n)
    ∙ append_assoc seat.lens (lens_in (changes_of first)) (lens_in (changes_of later))
    ∙ ap (λ (ms : List ℕ). seat.lens ++ ms) (sym (ap lens_in (changes_of-both first later) ∙ lens_in-append (changes_of first) (changes_of later)))

-- what a thread was told of is what it has made
pub lens_told : (t : Thread) (s : Standing) (told : List Answer) (log : List Ended) (is : Tells t s told log) → lens_made log t.number ≡ (let seat = is.seat in seat.lens)
lens_told t s told log is =
    made_changes log t.number ∙ ap (λ (es : List Ended). lens_in (changes_of es)) is.calls_are
    ∙ sym (lens_run t.quota t.number (changes_of log) first_seat (take (length told) t.commands) told is.fronts is.seat is.run)
