-- What the registers of a run name is in the heap that its thread has seen.
use Rattle.std.specs.Prelude.{slice_get, replicate, set, IsTrue, IsSome, is_some, ◌⊎◌}
use Rattle.std.specs.Option.{option_map}
use Rattle.std.proofs.Common.{◌≡◌, ℕ, zero, suc, ◌-◌, ◌≤◌, List, [], ◌∷◌, ◌++◌, length, take, drop, get_or, Option, Some, None, refl, sym, ap, ◌∙◌, subst, ⊎_elim, inl, inr, arith}
use Rattle.heap_history.specs.declared.call.Value.{Value}
use Rattle.heap_history.specs.declared.call.Value.TheVariants.{Num, Object}
use Rattle.heap_history.specs.declared.call.Call.{Call}
use Rattle.heap_history.specs.declared.call.Call.TheVariants.{NewObject, Read, Exchange}
use Rattle.heap_history.specs.declared.call.Reply.TheVariants.{Made}
use Rattle.heap_history.specs.FixedHeaps.{Heap, opening, zeros, fields_of, value_in, is_there, answer, changed, after}
use Rattle.heap_history.specs.Histories.{IsNext, heap_at, heap_after, made_by, between}
use Rattle.heap_history.specs.HistoryLaws.{heap_after-append, fields_of-new}
use Rattle.heap_history.specs.ObjectLaws.{got_value, differs_value, fields_there_grows, heap_closed}
use Rattle.heap_script.specs.declared.script.Command.{Command}
use Rattle.heap_script.specs.declared.script.Command.TheVariants.{New, Get, Put, Cas, Copy, Drop, Poll}
use Rattle.heap_script.specs.declared.answer.Answer.{Answer}
use Rattle.heap_script.specs.declared.answer.Answer.TheVariants as answers
use Rattle.heap_script.specs.Allowed.{Seat, IsRun, IsAnswered, IsOutcome, IsNoCall, IsRefused, first_seat, seat_after, registers_after, call_of, on_object, held, value_of as meant}
use Rattle.heap_script.specs.RunLaws.{taken_push}

-- ---- what a register names is there, in the heap that the thread has seen

abbrev pub AllThere : Heap → List Value → Type 0
AllThere heap values = (i birth : ℕ) → get_or values i (Num 0) ≡ Object birth → IsSome (fields_of heap birth)

there_value : (heap : Heap) (value : Value) → ((birth : ℕ) → value ≡ Object birth → IsSome (fields_of heap birth)) → IsTrue (is_there heap value)
there_value heap (Num n) named = refl
there_value heap (Object birth) named = named birth refl

value_there : (heap : Heap) (value : Value) (birth : ℕ) → IsTrue (is_there heap value) → value ≡ Object birth → IsSome (fields_of heap birth)
value_there heap value birth there is = sym (ap (is_there heap) is) ∙ there

-- an element after a write
set_cases : (values : List Value) (i : ℕ) (value : Value) (j : ℕ) → (get_or (set values i value) j (Num 0) ≡ value) ⊎ (get_or (set values i value) j (Num 0) ≡ get_or values j (Num 0))
set_cases [] i value j = inr refl
set_cases (v ∷ values) zero value zero = inl refl
set_cases (v ∷ values) zero value (suc j) = inr refl
set_cases (v ∷ values) (suc i) value zero = inr refl
set_cases (v ∷ values) (suc i) value (suc j) = set_cases values i value j

there_set : (heap : Heap) (values : List Value) (i : ℕ) (value : Value) → AllThere heap values → IsTrue (is_there heap value) → AllThere heap (set values i value)
there_set heap values i value all there j birth at =
    ⊎_elim
    (λ new. value_there heap value birth there (sym new ∙ at))
    (λ old. all j birth (sym old ∙ at))
    (set_cases values i value j)

there_first : (heap : Heap) (value : Value) (values : List Value) → IsTrue (is_there heap value) → AllThere heap values → AllThere heap (value ∷ values)
there_first heap value values there all zero birth at = value_there heap value birth there at
there_first heap value values there all (suc i) birth at = all i birth at

there_none : (heap : Heap) → AllThere heap []
there_none heap i birth at = absurd cc

there_zeros : (heap : Heap) (n : ℕ) (values : List Value) → AllThere heap values → AllThere heap (replicate n (Num 0) ++ values)
there_zeros heap zero values all = all
there_zeros heap (suc n) values all = there_first heap (Num 0) (replicate n (Num 0) ++ values) refl (there_zeros heap n values all)

there_opening : AllThere opening first_seat.registers
there_opening = there_zeros opening 7 (Object 1 ∷ []) (there_first opening (Object 1) [] refl (there_none opening))

there_grows : (h : List Call) (n m : ℕ) (values : List Value) → n ≤ m → AllThere (heap_at h n) values → AllThere (heap_at h m) values
there_grows h n m values before all i birth at = fields_there_grows h n m birth before (all i birth at)

seen_grows : (quota thread : ℕ) (h : List Call) (s : Seat) (c : Command) (a : Answer) (n : ℕ) (call : Option Call) → IsOutcome quota thread h s c a n call → s.seen ≤ n
seen_grows quota thread h s c a n None o = omega (arith, o.0)
seen_grows quota thread h s c a n (Some call) o = o.1.later

-- a new object is there at the front of its call
made_at : (thread birth len n : ℕ) (h : List Call) (k : ℕ) → n ≡ suc k → slice_get h (n - 1) ≡ Some (NewObject thread birth len) → answer (heap_at h (n - 1)) (NewObject thread birth len) ≡ Made → IsSome (fields_of (heap_at h n) birth)
made_at thread birth len n h k is last said =
    let before : n - 1 ≡ k = omega (arith, is) in
    let call = NewObject thread birth len in
    let at : slice_get h k ≡ Some call = ap (slice_get h) (sym before) ∙ last in
    let reply : answer (heap_at h k) call ≡ Made = ap (λ i. answer (heap_at h i) call) (sym before) ∙ said in
    let heap : heap_at h n ≡ after (heap_at h k) call = ap (heap_at h) is ∙ ap (heap_after opening) (taken_push h k call at) ∙ heap_after-append opening (take k h) (call ∷ []) in
    let fields : fields_of (heap_at h n) birth ≡ Some (zeros len) = ap (λ x. fields_of x birth) (heap ∙ ap (changed (heap_at h k) call) reply) ∙ fields_of-new (heap_at h k) birth (zeros len) in
    ap is_some fields

-- the front of a change is not 0
change_front : (thread seen : ℕ) (n : ℕ) (h : List Call) (call : Call) → made_by thread (between seen n h) ≡ call ∷ [] → (k : ℕ) × (n ≡ suc k)
change_front thread seen zero h call own =
    let none : 0 - seen ≡ 0 = omega arith in
    let empty : [] ≡ call ∷ [] = sym (ap (λ k. made_by thread (take k (drop seen h))) none) ∙ own in
    absurd cc
change_front thread seen (suc k) h call own = (k, refl)

made_there : (thread birth len n seen : ℕ) (h : List Call) → IsNext h thread seen (record { call = NewObject thread birth len; reply = Made; front = n }) → IsSome (fields_of (heap_at h n) birth)
made_there thread birth len n seen h next =
    let front = change_front thread seen n h (NewObject thread birth len) next.own in
    made_at thread birth len n h front.0 front.1 (next.last refl) next.reply

read_there : (quota thread : ℕ) (h : List Call) (s : Seat) (dst obj field n : ℕ) (value named : Value) → held s obj ≡ named
    → IsOutcome quota thread h s (Get dst obj field) (answers.Got value) n (on_object named (λ birth. Read thread birth field)) → IsTrue (is_there (heap_at h n) value)
read_there quota thread h s dst obj field n value (Num k) is o =
    let P : Value → Type 0 = λ v. IsRefused (heap_at h s.seen) v field (answers.Got value) in absurd (subst P is o.1)
read_there quota thread h s dst obj field n value (Object birth) is o = heap_closed h n birth field value (got_value (value_in (heap_at h n) birth field) value o.1.reply)

differs_there : (quota thread : ℕ) (h : List Call) (s : Seat) (c : Command) (field n : ℕ) (expected new value named : Value) → (IsNoCall quota (heap_at h s.seen) s c (answers.Differs value) → IsRefused (heap_at h s.seen) named field (answers.Differs value))
    → IsOutcome quota thread h s c (answers.Differs value) n (on_object named (λ birth. Exchange thread birth field expected new)) → IsTrue (is_there (heap_at h n) value)
differs_there quota thread h s c field n expected new value (Num k) refused o = absurd (refused o.1)
differs_there quota thread h s c field n expected new value (Object birth) refused o = heap_closed h n birth field value (differs_value expected (is_there (heap_at h n) new) (value_in (heap_at h n) birth field) value o.1.reply)

there_after : (quota thread : ℕ) (h : List Call) (s : Seat) (c : Command) (a : Answer) (n : ℕ) → IsAnswered quota thread h s c a n → AllThere (heap_at h n) s.registers → AllThere (heap_at h n) (registers_after s c a)
there_after quota thread h s (New dst len) (answers.Made birth) n o all = there_set (heap_at h n) s.registers dst (Object birth) all (made_there thread birth len n s.seen h o.1)
there_after quota thread h s (Get dst obj field) (answers.Got value) n o all = there_set (heap_at h n) s.registers dst value all (read_there quota thread h s dst obj field n value (held s obj) refl o)
there_after quota thread h s (Cas dst obj field expected new) (answers.Differs value) n o all =
    there_set (heap_at h n) s.registers dst value all (differs_there quota thread h s (Cas dst obj field expected new) field n (meant s expected) (meant s new) value (held s obj) (λ refused. refused) o)
there_after quota thread h s (Copy dst src) a n o all = there_set (heap_at h n) s.registers dst (held s src) all (there_value (heap_at h n) (held s src) (λ birth at. all src birth at))
there_after quota thread h s (Drop dst) a n o all = there_set (heap_at h n) s.registers dst (Num 0) all refl
there_after quota thread h s _ _ n o all = all

run_there : (quota thread : ℕ) (h : List Call) (s : Seat) (cs : List Command) (told : List Answer) (ns : List ℕ) (last : Seat) → IsRun quota thread h s cs told ns last → AllThere (heap_at h s.seen) s.registers → AllThere (heap_at h last.seen) last.registers
run_there quota thread h s [] [] [] last r all = let P : Seat → Type 0 = λ x. AllThere (heap_at h x.seen) x.registers in subst P r all
run_there quota thread h s [] [] (m ∷ ns) last r all = absurd r
run_there quota thread h s [] (b ∷ told) ns last r all = absurd r
run_there quota thread h s (d ∷ cs) [] ns last r all = absurd r
run_there quota thread h s (d ∷ cs) (b ∷ told) [] last r all = absurd r
run_there quota thread h s (d ∷ cs) (b ∷ told) (m ∷ ns) last r all =
    run_there quota thread h (seat_after s d b m) cs told ns last r.1
    (there_after quota thread h s d b m r.0 (there_grows h s.seen m s.registers (seen_grows quota thread h s d b m (call_of thread s d b) r.0) all))

-- each object that a seat of a run names is in the heap that it has seen
pub seat_object_there : (quota thread : ℕ) (h : List Call) (cs : List Command) (told : List Answer) (ns : List ℕ) (seat : Seat) → IsRun quota thread h first_seat cs told ns seat → AllThere (heap_at h seat.seen) seat.registers
seat_object_there quota thread h cs told ns seat r = run_there quota thread h first_seat cs told ns seat r there_opening

-- ---- a refusal holds of the heap that the thread has seen, as it does now

refused_was : (now was : Heap) (named : Value) (field : ℕ) (a : Answer) → ((birth k : ℕ) → named ≡ Object birth → option_map length (fields_of now birth) ≡ Some k → option_map length (fields_of was birth) ≡ Some k)
    → IsRefused now named field a → IsRefused was named field a
refused_was now was (Num n) field answers.NotLink len refused = tt
refused_was now was (Object birth) field (answers.NoField k) len refused = (len birth k refl refused.0, refused.1)
refused_was now was _ field _ len refused = refused

pub no_call_was : (quota : ℕ) (now was : Heap) (seat : Seat) (c : Command) (a : Answer) → ((obj birth k : ℕ) → held seat obj ≡ Object birth → option_map length (fields_of now birth) ≡ Some k → option_map length (fields_of was birth) ≡ Some k)
    → IsNoCall quota now seat c a → IsNoCall quota was seat c a
no_call_was quota now was seat (Get dst obj field) a len no_call = refused_was now was (held seat obj) field a (len obj) no_call
no_call_was quota now was seat (Put obj field what) a len no_call = refused_was now was (held seat obj) field a (len obj) no_call
no_call_was quota now was seat (Cas dst obj field expected new) a len no_call = refused_was now was (held seat obj) field a (len obj) no_call
no_call_was quota now was seat (New dst size) answers.Full len no_call = no_call
no_call_was quota now was seat (Copy dst src) answers.Ok len no_call = tt
no_call_was quota now was seat (Drop dst) answers.Ok len no_call = tt
no_call_was quota now was seat Poll answers.Ok len no_call = tt
no_call_was quota now was seat _ _ len no_call = no_call
