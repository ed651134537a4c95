-- A world with one record set and more told: the script's part of a lawful world.
use Rattle.std.specs.Prelude.{sum_by}
use Rattle.std.proofs.Common.{◌≡◌, ◌≢◌, ℕ, ◌+◌, ◌-◌, ◌≤◌, List, [], ◌∷◌, ◌++◌, length, set, get_or, Bool, true, false, Option, Some, None, refl, sym, ap, ◌∙◌, subst, arith, inl, inr, length-set, length-append}
use Rattle.std.proofs.lemmas.Bool.Decides.{eqb_tells}
use Rattle.heap_words.specs.Layouts.{IsPass}
use Rattle.heap_history.specs.declared.call.Ended.{Ended}
use Rattle.heap_history.specs.Histories.{is_change}
use Rattle.heap_history.specs.Logs.{changes_of, IsLog, AreOfPasses}
use Rattle.heap_history.specs.LogLaws.{length-look, length-change}
use Rattle.heap_script.specs.declared.answer.Answer.{Answer}
use Rattle.heap_script.specs.Tellings.{Telling}
use Rattle.heap_script.specs.TellingSteps.{answers_at, with_answer}
use Rattle.barriers.specs.declared.pass.PassRecord.{PassRecord}
use Rattle.barriers.specs.Kits.{Kit}
use Rattle.lawful_records.specs.LawfulRecords.{LawfulRecords}
use Rattle.gc_cycle.specs.Worlds.{State, pass_at, changes_now, logged, nobody}
use Rattle.gc_cycle.specs.Lawful.{Lawful, IsScript, HasRoom, IsThread, IsThreadOf, records_in, thread_of, HasEnded}
use Rattle.gc_cycle.proofs.records.Seals.{AreFew, few_later}
use Rattle.gc_cycle.proofs.script.Lists.{sum_by-set, set_here, set_there}
use Rattle.gc_cycle.proofs.script.Threads.{IsOf, thread_stays, owners_grow}

-- with one more call there are no fewer changes
change_more : (log : List Ended) (e : Ended) (change : Bool) → is_change e.reply ≡ change → length (changes_of log) ≤ length (changes_of (log ++ e ∷ []))
change_more log e true is = let more = length-change log e is in omega (arith, more)
change_more log e false is = let same = length-look log e is in omega (arith, same)

changes_more : (log : List Ended) (call : Option Ended) → length (changes_of log) ≤ length (changes_of (logged log call))
changes_more log None = omega arith
changes_more log (Some e) = change_more log e (is_change e.reply) refl

module _ {R W E M : Type 0} (kit : Kit R W E M) where
  -- what of a lawful world is its script's
  pub record IsScripted (w : State R W E M) : Type 0 where
    pub script : IsScript w.layout w.commands
    pub passes : length w.passes ≡ w.layout.passes
    pub room : HasRoom w
    pub log : IsLog w.told.log
    pub owners : AreOfPasses w.layout.passes w.told.log
    pub threads : (party : ℕ) → IsPass w.layout party → IsThread kit w party
    pub sealed : AreFew w.sealed (changes_now w)

  -- the rest is its records'
  pub lawful_of : (w : State R W E M) → LawfulRecords kit w.layout w.words (records_in w) → HasEnded kit w → IsScripted w → Lawful kit w
  lawful_of w records ended is = record { records = records; sealed = is.sealed; ended = ended; script = is.script; passes = is.passes; room = is.room; log = is.log; owners = is.owners; threads = is.threads }

  pub scripted_of : (w : State R W E M) → Lawful kit w → IsScripted w
  scripted_of w lw = record { script = lw.script; passes = lw.passes; room = lw.room; log = lw.log; owners = lw.owners; threads = lw.threads; sealed = lw.sealed }

  -- ---- one record set

  module _ (w : State R W E M) (lw : IsScripted w) (party : ℕ) (is : IsPass w.layout party) where
    pub place_here : (x : PassRecord R W E) → get_or (set w.passes (party - 1) x) (party - 1) nobody ≡ x
    place_here x = set_here w.passes party x nobody is.0 (omega (arith, is.1, lw.passes))

    pub place_there : (x : PassRecord R W E) (q : ℕ) → IsPass w.layout q → q ≢ party → get_or (set w.passes (party - 1) x) (q - 1) nobody ≡ pass_at w q
    place_there x q other apart = set_there w.passes party q x nobody is.0 other.0 apart

    -- set again
    pub again_here : (y x : PassRecord R W E) → get_or (set (set w.passes (party - 1) y) (party - 1) x) (party - 1) nobody ≡ x
    again_here y x = set_here (set w.passes (party - 1) y) party x nobody is.0 (omega (arith, is.1, lw.passes, length-set w.passes (party - 1) y))

    pub again_there : (y x : PassRecord R W E) (q : ℕ) → IsPass w.layout q → q ≢ party → get_or (set (set w.passes (party - 1) y) (party - 1) x) (q - 1) nobody ≡ pass_at w q
    again_there y x q other apart = set_there (set w.passes (party - 1) y) party q x nobody is.0 other.0 apart ∙ place_there y q other apart

  -- the world with these words and records, where this is told
  abbrev pub with_told : State R W E M → List ℕ → List (PassRecord R W E) → Telling → State R W E M
  with_told w words passes told = record w { words = words; passes = passes; told = told }

  -- The record of one pass is this, at most one more call ended, and it is this pass's.
  pub record IsNext (w : State R W E M) (party : ℕ) (passes : List (PassRecord R W E)) (told : Telling) (x : PassRecord R W E) (call : Option Ended) : Type 0 where
    pub count : length passes ≡ length w.passes
    pub here : get_or passes (party - 1) nobody ≡ x
    pub there : (q : ℕ) → IsPass w.layout q → q ≢ party → get_or passes (q - 1) nobody ≡ pass_at w q
    pub log_is : told.log ≡ logged w.told.log call
    pub own : IsOf party call
    pub heard : IsLog told.log
    pub answers_there : (q : ℕ) → IsPass w.layout q → q ≢ party → answers_at told.answers q ≡ answers_at w.told.answers q
    pub thread : IsThreadOf kit w.layout (thread_of w party) x (answers_at told.answers party) told.log

  module _ (w : State R W E M) (lw : IsScripted w) (party : ℕ) (is : IsPass w.layout party) (words : List ℕ) (passes : List (PassRecord R W E)) (told : Telling) (x : PassRecord R W E) (call : Option Ended)
      (room : HasRoom (with_told w words passes told)) (next : IsNext w party passes told x call) where
    abbrev new : State R W E M
    new = with_told w words passes told

    thread_here : IsThread kit new party
    thread_here = subst (λ (y : PassRecord R W E). IsThreadOf kit w.layout (thread_of w party) y (answers_at told.answers party) told.log) (sym next.here) next.thread

    thread_there : (q : ℕ) → IsPass w.layout q → q ≢ party → IsThread kit new q
    thread_there q other apart =
        let stays : IsThreadOf kit w.layout (thread_of w q) (pass_at w q) (answers_at w.told.answers q) (logged w.told.log call) = thread_stays kit w.layout (thread_of w q) (pass_at w q) (answers_at w.told.answers q) w.told.log party call next.own apart (lw.threads q other) in
        let A : List Answer → Type 0 = λ y. IsThreadOf kit w.layout (thread_of w q) (pass_at w q) y (logged w.told.log call) in
        let L : List Ended → Type 0 = λ y. IsThreadOf kit w.layout (thread_of w q) (pass_at w q) (answers_at told.answers q) y in
        let P : PassRecord R W E → Type 0 = λ y. IsThreadOf kit w.layout (thread_of w q) y (answers_at told.answers q) told.log in
        subst P (sym (next.there q other apart)) (subst L (sym next.log_is) (subst A (sym (next.answers_there q other apart)) stays))

    thread_at : (q : ℕ) → IsPass w.layout q → IsThread kit new q
    thread_at q other = elim (eqb_tells q party) [
      | inl e ↦ subst (IsThread kit new) (sym e.1) thread_here
      | inr e ↦ thread_there q other e.1
    ]

    pub scripted_next : IsScripted new
    scripted_next = record {
      script = lw.script;
      passes = next.count ∙ lw.passes;
      room = room;
      log = next.heard;
      owners = subst (AreOfPasses w.layout.passes) (sym next.log_is) (owners_grow w.layout party w.told.log call is next.own lw.owners);
      threads = thread_at;
      sealed = few_later w.sealed (changes_now w) (changes_now new) (subst (λ (log : List Ended). changes_now w ≤ length (changes_of log)) (sym next.log_is) (changes_more w.told.log call)) lw.sealed;
    }

  -- ---- room

  length-logged : (log : List Ended) (call : Option Ended) → length (logged log call) ≤ length log + 1
  length-logged log None = omega arith
  length-logged log (Some e) = omega (arith, length-append log (e ∷ []))

  -- after one more answer, and at most one more call
  pub room_answered : (w : State R W E M) (party : ℕ) (words : List ℕ) (passes : List (PassRecord R W E)) (told : Telling) (answer : Answer) (call : Option Ended) → 1 ≤ party → party ≤ length w.commands
      → told.answers ≡ with_answer w.told.answers party answer → told.log ≡ logged w.told.log call → told.rooms ≡ w.told.rooms → told.log_room ≡ w.told.log_room → told.agains ≡ w.told.agains
      → HasRoom w → HasRoom (with_told w words passes told)
  room_answered w party words passes told answer call least most answers log rooms log_room agains room =
      let lists = w.told.answers in
      let more : sum_by length (with_answer lists party answer) ≡ sum_by length lists + 1 = sum_by-set lists (party - 1) (answers_at lists party ++ answer ∷ []) (omega (arith, least, most, room.threads)) (length-append (answers_at lists party) (answer ∷ [])) in
      record {
        threads = ap length answers ∙ length-set lists (party - 1) (answers_at lists party ++ answer ∷ []) ∙ room.threads;
        answers = rooms ∙ room.answers;
        log = log_room ∙ room.log;
        calls = let a = ap (λ (xs : List Ended). length xs) log in let b = length-logged w.told.log call in let c = ap (λ (xs : List (List Answer)). sum_by length xs) answers in omega (arith, a, b, c, more, room.calls);
        agains = ap length agains ∙ room.agains;
      }

  -- after a refused try
  pub room_retried : (w : State R W E M) (words : List ℕ) (passes : List (PassRecord R W E)) (told : Telling) → told.answers ≡ w.told.answers → told.log ≡ w.told.log → told.rooms ≡ w.told.rooms → told.log_room ≡ w.told.log_room
      → length told.agains ≡ length w.told.agains → HasRoom w → HasRoom (with_told w words passes told)
  room_retried w words passes told answers log rooms log_room agains room = record {
    threads = ap length answers ∙ room.threads;
    answers = rooms ∙ room.answers;
    log = log_room ∙ room.log;
    calls = let a = ap (λ (xs : List Ended). length xs) log in let c = ap (λ (xs : List (List Answer)). sum_by length xs) answers in omega (arith, a, c, room.calls);
    agains = agains ∙ room.agains;
  }
