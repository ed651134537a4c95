-- What a turn of a thread leaves of the script's part of a lawful world.
use Rattle.std.specs.Prelude.{slice_get}
use Rattle.std.specs.List.{All}
use Rattle.std.specs.Option.{option_map}
use Rattle.std.proofs.Common.{◌≡◌, ℕ, ◌+◌, ◌-◌, ◌<◌, ◌≤◌, Bool, false, cond, List, [], ◌∷◌, ◌++◌, length, set, Option, Some, None, refl, sym, ap, ◌∙◌, subst, arith, length-set}
use Rattle.std.proofs.lemmas.Option.{same_Some}
use Rattle.heap_words.specs.Layouts.{Sizes, IsPass}
use Rattle.heap_words.specs.FieldWords.{IsFieldWord}
use Rattle.heap_history.specs.declared.call.Ended.{Ended}
use Rattle.heap_history.specs.Logs.{IsLog}
use Rattle.heap_script.specs.declared.script.Command.{Command}
use Rattle.heap_script.specs.declared.answer.Answer.{Answer}
use Rattle.heap_script.specs.declared.answer.Answer.TheVariants.{NotLink}
use Rattle.heap_script.specs.Scripts.{CommandFits}
use Rattle.heap_script.specs.Tellings.{Thread, Telling}
use Rattle.heap_script.specs.TellingSteps.{answers_at, with_answer, with_refusal}
use Rattle.heap_script.specs.TellsLaws.{tells_seen}
use Rattle.barriers.specs.declared.ends.NewEnd.TheVariants as new_end
use Rattle.barriers.specs.declared.machine_end.MachineEnd.{MachineEnd}
use Rattle.barriers.specs.declared.machine_end.MachineEnd.TheVariants as ends
use Rattle.barriers.specs.declared.machine_end.Request.{Request}
use Rattle.barriers.specs.declared.machine_end.Request.TheVariants as requests
use Rattle.barriers.specs.declared.pass.PassRecord.{PassRecord}
use Rattle.barriers.specs.declared.pass.PassMachine.{PassMachine}
use Rattle.barriers.specs.Kits.{Kit, Stepping, Laws}
use Rattle.barriers.specs.Records.{ended_of, with_end, started, machine_for}
use Rattle.gc_cycle.specs.declared.sequel.Sequel.{Sequel}
use Rattle.gc_cycle.specs.declared.sequel.Sequel.TheVariants as sequel
use Rattle.gc_cycle.specs.Sequels.{sequel_of}
use Rattle.gc_cycle.specs.Worlds.{State, pass_at, command_at, changes_now, place_of_command, fed_at, stepped, taken, or_else, logged, face_of, in_front, with_put, put_pass, answered_with, access_begun, followed_at, concluded_by, settled_by}
use Rattle.gc_cycle.specs.Lawful.{HasRoom, IsThread, IsThreadOf, IsAtCommand, standing_of, thread_of}
use Rattle.gc_cycle.specs.Runs.{Moves, decides_at, looked_at, counts_after, counted, sequel_at}
use Rattle.gc_cycle.proofs.script.Answering.{Asks, IsAnswered, IsCallBy, IsResting, SequelKeeps}
use Rattle.gc_cycle.proofs.script.Beginning.{request_at, polls_again, goes_on, begins_at, begins_not_at}
use Rattle.gc_cycle.proofs.script.Concluding.{sequel_keeps}
use Rattle.gc_cycle.proofs.script.Ends.{EndSays}
use Rattle.gc_cycle.proofs.script.Lists.{below_of_get, All-slice_get, before_below, set_here, set_there}
use Rattle.gc_cycle.proofs.script.Moving.{moves_next}
use Rattle.gc_cycle.proofs.script.Worlds.{IsScripted, with_told, scripted_next, place_here, place_there, again_here, again_there, room_answered, room_retried}

-- after its last command a pass ends only its retirement
abbrev pub IsRetired : MachineEnd → Type 0
IsRetired ends.Retire = Unit {0}
IsRetired end = ⊥

module _ {R W E : Type 0} where
  -- what the end of a machine says, at the command that the pass is at
  abbrev pub EndSaysAt : Sizes → List Ended → PassRecord R W E → Option Command → MachineEnd → Bool → Type 0
  EndSaysAt l log p None end made = IsRetired end × (made ≡ false)
  EndSaysAt l log p (Some c) end made = EndSays l log p c end made

module _ {R W E M : Type 0} (kit : Kit R W E M) (by : Stepping R W E M) where
  -- the record after its step
  abbrev fed : State R W E M → ℕ → PassRecord R W E
  fed w party = fed_at kit by w party

  -- What the step of a thread's machine comes to: it goes on, or has ended as its command may.
  pub record HasStepped (w : State R W E M) (party : ℕ) : Type 0 where
    pub later : (let p = pass_at w party in p.seen) ≤ (let p = fed w party in p.seen)
    pub within : (let p = fed w party in p.seen) ≤ changes_now w
    pub goes : ended_of kit (let p = fed w party in p.machine) ≡ None → IsAtCommand kit w.layout (fed w party) (command_at w party) × (decides_at kit by w party ≡ false)
    pub ends : (end : MachineEnd) → ended_of kit (let p = fed w party in p.machine) ≡ Some end
        → EndSaysAt w.layout w.told.log (fed w party) (command_at w party) end (decides_at kit by w party) × All IsFieldWord (let q = with_end (fed w party) end in q.registers)
    pub looked : (let p = fed w party in p.seen) ≡ looked_at kit by w party

  -- a turn leaves the script's part of a lawful world, and moves so
  pub record IsTurned (w : State R W E M) (party : ℕ) (new : State R W E M) : Type 0 where
    pub scripted : IsScripted kit new
    pub moves : Moves kit by w party new

  -- ---- a record that begins a machine has seen what it had

  begun_seen : (q : PassRecord R W E) (o : Option (PassMachine R W E)) (next : PassRecord R W E) → option_map (λ (m : PassMachine R W E). record q { machine = m }) o ≡ Some next → next.seen ≡ q.seen
  begun_seen q None next is = absurd cc
  begun_seen q (Some m) next is = sym (ap (λ (x : PassRecord R W E). x.seen) (same_Some _ _ is))

  else_seen : (q : PassRecord R W E) (o : Option (PassMachine R W E)) → (let next = or_else (option_map (λ (m : PassMachine R W E). record q { machine = m }) o) q in next.seen) ≡ q.seen
  else_seen q None = refl
  else_seen q (Some m) = refl

  end_seen : (p : PassRecord R W E) (end : MachineEnd) → (let q = with_end p end in q.seen) ≡ p.seen
  end_seen p (ends.Poll end) = refl
  end_seen p (ends.New (new_end.Made birth at room)) = refl
  end_seen p (ends.New (new_end.Refused why)) = refl
  end_seen p (ends.Read end) = refl
  end_seen p (ends.Write end) = refl
  end_seen p (ends.Exchange end) = refl
  end_seen p ends.Retire = refl

  module _ (laws : Laws kit by) (w : State R W E M) (lw : IsScripted kit w) (party : ℕ) (is : IsPass w.layout party) (step : HasStepped w party) where
    abbrev l : Sizes
    l = w.layout

    abbrev t : Thread
    t = thread_of w party

    abbrev answers : List Answer
    answers = answers_at w.told.answers party

    abbrev log : List Ended
    log = w.told.log

    abbrev made : Bool
    made = decides_at kit by w party

    abbrev p : PassRecord R W E
    p = fed w party

    abbrev w1 : State R W E M
    w1 = stepped kit by w party

    abbrev thread : IsThread kit w party
    thread = lw.threads party is

    -- the thread after its step, before what comes of it
    resting : IsResting t p answers log
    resting = record {
      number = thread.number;
      tells = tells_seen t (standing_of (pass_at w party)) answers log p.seen step.later step.within thread.tells;
    }

    -- ---- the world with its record set

    abbrev with_record : PassRecord R W E → Telling → State R W E M
    with_record x told = with_told kit w w1.words (set (set w.passes (party - 1) p) (party - 1) x) told

    set_count : (x : PassRecord R W E) → length (set (set w.passes (party - 1) p) (party - 1) x) ≡ length w.passes
    set_count x = length-set (set w.passes (party - 1) p) (party - 1) x ∙ length-set w.passes (party - 1) p

    same_room : (x : PassRecord R W E) → HasRoom (with_record x w.told)
    same_room x = room_retried kit w w1.words (set (set w.passes (party - 1) p) (party - 1) x) w.told refl refl refl refl refl lw.room

    -- where it goes on with its step, no call ends
    going_on : ended_of kit p.machine ≡ None → IsTurned w party w1
    going_on none =
        let goes = step.goes none in
        let passes = set w.passes (party - 1) p in
        let here = place_here kit w lw party is p in
        let there = place_there kit w lw party is p in
        let counts : w.told.agains ≡ counts_after kit by w party = ap (λ o. counted kit by w party (sequel_at kit by w party o (command_at w party))) (sym none) in
        record {
          scripted = scripted_next kit w lw party is w1.words passes w.told p None (room_retried kit w w1.words passes w.told refl refl refl refl refl lw.room) (record {
            count = length-set w.passes (party - 1) p;
            here = here;
            there = there;
            log_is = refl;
            own = tt;
            heard = lw.log;
            answers_there = λ q other apart. refl;
            thread = record { number = resting.number; tells = resting.tells; fit = thread.fit; at = goes.0; going = none };
          });
          moves = moves_next kit by w party step.looked step.later step.within w1.words passes w.told p None (record {
            there = there;
            here = here;
            log_is = refl;
            own = tt;
            call_is = goes.1;
            seen_is = sym (ap (λ b. cond b (changes_now w + 1) p.seen) goes.1);
            counts = counts;
          });
        }

    -- no call has ended, and more may be told of refused tries
    quiet : (x : PassRecord R W E) (told : Telling) → told.answers ≡ w.told.answers → told.log ≡ log → HasRoom (with_record x told) → IsThreadOf kit l t x answers log → made ≡ false → x.seen ≡ p.seen → told.agains ≡ counts_after kit by w party
        → IsTurned w party (with_record x told)
    quiet x told answers_are log_is room thread_is none seen counts =
        let passes = set (set w.passes (party - 1) p) (party - 1) x in
        let here = again_here kit w lw party is p x in
        let there = again_there kit w lw party is p x in
        let A : List (List Answer) → Type 0 = λ y. IsThreadOf kit l t x (answers_at y party) told.log in
        let L : List Ended → Type 0 = λ y. IsThreadOf kit l t x answers y in
        record {
          scripted = scripted_next kit w lw party is w1.words passes told x None room (record {
            count = set_count x;
            here = here;
            there = there;
            log_is = log_is;
            own = tt;
            heard = subst IsLog (sym log_is) lw.log;
            answers_there = λ q other apart. ap (λ (y : List (List Answer)). answers_at y q) answers_are;
            thread = subst A (sym answers_are) (subst L (sym log_is) thread_is);
          });
          moves = moves_next kit by w party step.looked step.later step.within w1.words passes told x None (record {
            there = there;
            here = here;
            log_is = log_is;
            own = tt;
            call_is = none;
            seen_is = seen ∙ sym (ap (λ b. cond b (changes_now w + 1) p.seen) none);
            counts = counts;
          });
        }

    -- ---- a command is answered

    missing : length answers < length t.commands → party ≤ length w.commands
    missing below = let script = lw.script in omega (arith, is.1, script.threads)

    answering : (q : PassRecord R W E) (answer : Answer) (call : Option Ended) → length answers < length t.commands → IsAnswered t q answers log made p.seen answer call → w.told.agains ≡ counts_after kit by w party
        → IsTurned w party (answered_with kit w1 party q answer call)
    answering q answer call below is_answered counts =
        let x = or_else (started kit l q (request_at t (length answers + 1))) q in
        let told = record w.told { answers = with_answer w.told.answers party answer; log = logged log call } in
        let passes = set (set w.passes (party - 1) p) (party - 1) x in
        let here = again_here kit w lw party is p x in
        let there = again_there kit w lw party is p x in
        let room = lw.room in
        let script = lw.script in
        let many : party ≤ length w.told.answers = omega (arith, is.1, script.threads, room.threads) in
        let one : answers_at told.answers party ≡ answers ++ answer ∷ [] = set_here w.told.answers party (answers ++ answer ∷ []) [] is.0 many in
        let seen : x.seen ≡ q.seen = else_seen q (machine_for kit l q (request_at t (length answers + 1))) in
        record {
          scripted = scripted_next kit w lw party is w1.words passes told x call (room_answered kit w party w1.words passes told answer call is.0 (missing below) refl refl refl refl refl room) (record {
            count = set_count x;
            here = here;
            there = there;
            log_is = refl;
            own = is_answered.own;
            heard = is_answered.heard;
            answers_there = λ r other apart. set_there w.told.answers party r (answers ++ answer ∷ []) [] is.0 other.0 apart;
            thread = subst (λ (y : List Answer). IsThreadOf kit l t x y (logged log call)) (sym one) (goes_on kit l t q answers log made p.seen answer call below is_answered);
          });
          moves = moves_next kit by w party step.looked step.later step.within w1.words passes told x call (record {
            there = there;
            here = here;
            log_is = refl;
            own = is_answered.own;
            call_is = subst (λ (n : ℕ). IsCallBy made n call) (sym seen) is_answered.call_is;
            seen_is = seen ∙ is_answered.seen_is;
            counts = counts;
          });
        }

    -- ---- a machine has ended at a command

    module _ (c : Command) (at : command_at w party ≡ Some c) (end : MachineEnd) (over : ended_of kit p.machine ≡ Some end) (words : All IsFieldWord (let q = with_end p end in q.registers)) where
      abbrev q : PassRecord R W E
      q = with_end p end

      below : length answers < length t.commands
      below = below_of_get t.commands (length answers) c at

      fits : CommandFits c
      fits = let script = lw.script in All-slice_get CommandFits t.commands (length answers) c (script.commands party is) at

      short : length t.commands ≤ 65536
      short =
          let script = lw.script in
          let within : 0 < length t.commands = omega (arith, below) in
          let place = before_below w.commands (party - 1) (length t.commands - 1) (omega (arith, within)) in
          omega (arith, place, script.few)

      counts_by : (s : Sequel) → sequel_of (changes_now w) c (face_of q) end ≡ s → counted kit by w party s ≡ counts_after kit by w party
      counts_by s is_sequel =
          ap (counted kit by w party) (sym is_sequel) ∙ ap (λ o. counted kit by w party (sequel_at kit by w party (Some end) o)) (sym at)
          ∙ ap (λ o. counted kit by w party (sequel_at kit by w party o (command_at w party))) (sym over)

      begun : (rest : IsResting t q answers log) (request : Request) → Asks c request → made ≡ false → w.told.agains ≡ counts_after kit by w party
          → (o : Option (PassRecord R W E)) → started kit l q request ≡ o → IsTurned w party (access_begun kit w1 party q o)
      begun rest request asks none counts None is_none =
          let a = begins_not_at kit by laws l t q answers log rest lw.log c at request asks is_none in
          let b : IsAnswered t q answers log false p.seen NotLink None = record { number = a.number; tells = a.tells; own = a.own; heard = a.heard; call_is = a.call_is; seen_is = end_seen p end } in
          answering q NotLink None below (subst (λ (x : Bool). IsAnswered t q answers log x p.seen NotLink None) (sym none) b) counts
      begun rest request asks none counts (Some next) is_some =
          quiet next w.told refl refl (same_room next) (begins_at kit by laws l t q answers log rest c at fits words short request asks next is_some) none
          (begun_seen q (machine_for kit l q request) next is_some ∙ end_seen p end) counts

      follows : (s : Sequel) → sequel_of (changes_now w) c (face_of q) end ≡ s → SequelKeeps t q answers log made c s → IsTurned w party (followed_at kit w1 party q s)
      follows sequel.Nothing is_sequel keeps = absurd keeps
      follows (sequel.Starts request) is_sequel keeps = begun keeps.0 request keeps.1 keeps.2 (counts_by (sequel.Starts request) is_sequel) (started kit l q request) refl
      follows (sequel.Answered put answer call) is_sequel keeps =
          let a = subst (λ (n : ℕ). IsAnswered t (in_front (with_put q put) call) answers log made n answer call) (end_seen p end) keeps in
          answering (in_front (with_put q put) call) answer call below a (counts_by (sequel.Answered put answer call) is_sequel)
      follows (sequel.Retries why) is_sequel keeps =
          let told = record w.told { agains = with_refusal w.told.agains (place_of_command w party) why } in
          let x = or_else (started kit l q requests.Poll) q in
          let same : length told.agains ≡ length w.told.agains = length-set w.told.agains (place_of_command w party) _ in
          quiet x told refl refl (room_retried kit w w1.words (set (set w.passes (party - 1) p) (party - 1) x) told refl refl refl refl same lw.room)
          (polls_again kit l t q answers log c at keeps.0) keeps.1 (end_seen p end) (counts_by (sequel.Retries why) is_sequel)

      concludes : EndSays l log p c end made → IsTurned w party (followed_at kit w1 party q (sequel_of (changes_now w) c (face_of q) end))
      concludes says = follows (sequel_of (changes_now w) c (face_of q) end) refl (sequel_keeps l t p answers log lw.log resting refl made c end at says)

    -- after its last command it retires
    retires : command_at w party ≡ None → (end : MachineEnd) → ended_of kit p.machine ≡ Some end → IsRetired end → made ≡ false → IsTurned w party (put_pass w1 party (with_end p end))
    retires at ends.Retire over retired none =
        let x = with_end p ends.Retire in
        let here : IsAtCommand kit l x (slice_get t.commands (length answers)) = subst (IsAtCommand kit l x) (sym at) tt in
        let counts : w.told.agains ≡ counts_after kit by w party =
        ap (λ o. counted kit by w party (sequel_at kit by w party (Some ends.Retire) o)) (sym at) ∙ ap (λ o. counted kit by w party (sequel_at kit by w party o (command_at w party))) (sym over) in
        quiet x w.told refl refl (same_room x) (record { number = resting.number; tells = resting.tells; fit = thread.fit; at = here; going = refl }) none refl counts
    retires at (ends.Poll end) over retired none = absurd retired
    retires at (ends.New end) over retired none = absurd retired
    retires at (ends.Read end) over retired none = absurd retired
    retires at (ends.Write end) over retired none = absurd retired
    retires at (ends.Exchange end) over retired none = absurd retired

    -- ---- what comes of its step

    by_command : (end : MachineEnd) → ended_of kit p.machine ≡ Some end → (o : Option Command) → command_at w party ≡ o → EndSaysAt l log p o end made → All IsFieldWord (let q = with_end p end in q.registers)
        → IsTurned w party (concluded_by kit w1 party (with_end p end) end o)
    by_command end over None at says words = retires at end over says.0 says.1
    by_command end over (Some c) at says words = concludes c at end over words says

    by_end : (o : Option MachineEnd) → ended_of kit p.machine ≡ o → IsTurned w party (settled_by kit w1 party o)
    by_end None none = going_on none
    by_end (Some end) over =
        let says = step.ends end over in
        let P : PassRecord R W E → Type 0 = λ x. IsTurned w party (concluded_by kit w1 party (with_end x end) end (command_at w1 party)) in
        subst P (sym (place_here kit w lw party is p)) (by_command end over (command_at w party) refl says.0 says.1)

    pub thread_turn : IsTurned w party (taken kit by w party)
    thread_turn =
        let P : PassRecord R W E → Type 0 = λ x. IsTurned w party (settled_by kit w1 party (ended_of kit x.machine)) in
        subst P (sym (place_here kit w lw party is p)) (by_end (ended_of kit p.machine) refl)
