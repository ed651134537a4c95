-- Where one party plays after another, so many steps are enough: for each command at most 18 and one for each region of its thread, ten for each
-- thread, and as many as the collector takes after them.
use Rattle.std.proofs.Common.{◌≡◌, ℕ, zero, suc, ◌+◌, ◌-◌, ◌*◌, ◌<◌, ◌≤◌, Bool, true, false, List, [], ◌∷◌, length, get_or, map, refl, ap, sym, ◌∙◌, subst, arith, lit≤, inl}
use Rattle.std.specs.Prelude.{sum_by, nat_lt, if◌then◌else◌}
use Rattle.std.specs.List.{range_with_len}
use Rattle.std.proofs.Math.Nat.{mul-add, add-mul, mul_assoc, mul_comm, mul_left_comm, mul-le-mul_left}
use Rattle.std.proofs.lemmas.List.Sums.{sum_by-cons}
use Rattle.std.proofs.lemmas.List.FromFn.{length-range_with_len, get_or-range_with_len}
use Rattle.heap_words.specs.Layouts.{Sizes, IsLayout, regions_of, words_of}
use Rattle.heap_script.specs.declared.script.Command.{Command}
use Rattle.heap_script.specs.declared.answer.Answer.{Answer}
use Rattle.heap_script.specs.Scripts.{Reading}
use Rattle.heap_script.specs.Commands.{commands_by, commands_at, total}
use Rattle.heap_script.specs.CommandLaws.{total-commands_by}
use Rattle.heap_script.specs.SumLaws.{sum_by-le}
use Rattle.barriers.specs.declared.machine_end.Request.TheVariants as requests
use Rattle.barriers.specs.declared.pass.PassRecord.{PassRecord}
use Rattle.barriers.specs.Kits.{Kit, Stepping, Laws}
use Rattle.barriers.specs.Records.{started}
use Rattle.reference_fix.proofs.FixWalks as walks
use Rattle.lawful_records.specs.declared.stage.TheConstants.{SEARCHES}
use Rattle.gc_cycle.specs.declared.schedule.Schedule.TheVariants.{Solo}
use Rattle.gc_cycle.specs.Worlds.{State, nobody, fresh_pass, opening_passes, opening_state, or_else}
use Rattle.gc_cycle.specs.Lawful.{Lawful}
use Rattle.gc_cycle.specs.Runs.{is_over, run_of, enough_steps}
use Rattle.gc_cycle.proofs.solo.Alone.{IsOutside, IsSolo, all_to_do, turns_end}
use Rattle.gc_cycle.proofs.solo.CollectorEnds.{left_of_collector, left_at_start}
use Rattle.gc_cycle.proofs.solo.CycleSteps.{job_steps, seek_steps, roots_steps, fix_steps}
use Rattle.gc_cycle.proofs.solo.Left.{left, command_steps}
use Rattle.gc_cycle.proofs.solo.SearchEnds.{region_steps}
use Rattle.gc_cycle.proofs.solo.PlaysAlone.{PlaysAlone}
use Rattle.gc_cycle.proofs.solo.Turns.{machine_at, left_with, to_do, begins_left}
use Rattle.lawful_records.specs.Jobs.{first_plan}

-- ---- the number of steps

-- a line has more steps than its command takes
within_lines : (lines quota : ℕ) → command_steps quota * lines ≤ lines * (64 + quota)
within_lines lines quota = omega (arith, mul-add lines 64 quota, add-mul 18 quota lines, mul_comm quota lines)

-- a cycle at most: five announcements, its job, eight searches, and its fixing
abbrev cycle_steps : ℕ → ℕ → ℕ → ℕ
cycle_steps passes seek fix = 5 * (1 + passes) + job_steps + SEARCHES * (1 + (1 + passes) + seek) + fix

-- 64 for each word of the table are more
each_within : (passes regions words : ℕ) → 1 ≤ passes → 3 + 9 * passes + 65 * regions ≤ words → cycle_steps passes (region_steps * regions) (roots_steps * passes + walks.region_steps * regions) ≤ 64 * words
each_within passes regions words some many = omega (arith, some, many)

-- those of so many cycles
abbrev all_cycles : ℕ → ℕ → ℕ → ℕ → ℕ
all_cycles cycles passes seek fix = 5 * cycles * (1 + passes) + (job_steps * cycles + SEARCHES * cycles * (1 + (1 + passes) + seek) + cycles * fix)

cycles_by : (cycles passes seek fix : ℕ) → all_cycles cycles passes seek fix ≡ cycles * cycle_steps passes seek fix
cycles_by cycles passes seek fix =
    let search : ℕ = 1 + (1 + passes) + seek in
    omega (arith, mul-add cycles (5 * (1 + passes) + job_steps + SEARCHES * search) fix, mul-add cycles (5 * (1 + passes) + job_steps) (SEARCHES * search), mul-add cycles (5 * (1 + passes)) job_steps, mul_assoc 5 cycles (1 + passes), mul_left_comm cycles 5 (1 + passes), mul_assoc SEARCHES cycles search, mul_left_comm cycles SEARCHES search)

within_cycles : (cycles passes seek fix words : ℕ) → cycle_steps passes seek fix ≤ 64 * words → all_cycles cycles passes seek fix ≤ (cycles + 1) * 64 * words
within_cycles cycles passes seek fix words few =
    let each : cycles * cycle_steps passes seek fix ≤ cycles * (64 * words) = mul-le-mul_left cycles few in
    omega (arith, each, cycles_by cycles passes seek fix, mul_assoc (cycles + 1) 64 words, add-mul cycles 1 (64 * words))

-- threads and the collector together
all_within : (threads collector lines quota passes cycles seek fix words : ℕ) → threads ≤ command_steps quota * lines + 10 * passes → collector ≤ all_cycles cycles passes seek fix → cycle_steps passes seek fix ≤ 64 * words
    → threads + collector ≤ lines * (64 + quota) + passes * 64 + (cycles + 1) * 64 * words
all_within threads collector lines quota passes cycles seek fix words few less each = omega (arith, few, less, within_lines lines quota, within_cycles cycles passes seek fix words each)

many_words : (l : Sizes) → IsLayout l → cycle_steps l.passes (seek_steps l) (fix_steps l) ≤ 64 * words_of l
many_words l fits = each_within l.passes (regions_of l) (words_of l) fits.passes.0 (omega arith)

-- ---- the start

abbrev answers_at_first : List (List Command) → ℕ → List Answer
answers_at_first lists i = get_or (map (λ commands. []) lists) i []

none_answered : (lists : List (List Command)) (i : ℕ) → length (answers_at_first lists i) ≡ 0
none_answered [] i = refl
none_answered (cs ∷ later) zero = refl
none_answered (cs ∷ later) (suc i) = none_answered later i

-- the steps of each command of a thread, and ten to retire
abbrev pub most_of : ℕ → List Command → ℕ
most_of quota cs = command_steps quota * length cs + 10

most_each : (quota : ℕ) (lists : List (List Command)) → sum_by (most_of quota) lists ≡ command_steps quota * total lists + 10 * length lists
most_each quota [] = omega arith
most_each quota (cs ∷ later) =
    omega (arith, sum_by-cons (most_of quota) cs later, ap (λ (k : ℕ). command_steps quota * k) (sum_by-cons length cs later), mul-add (command_steps quota) (length cs) (total later), most_each quota later)

module _ {R W E M : Type 0} (kit : Kit R W E M) (by : Stepping R W E M) (alone : PlaysAlone kit by) where
  -- each thread is before its first command, or it retires
  first_outside : (l : Sizes) (r : PassRecord R W E) (b : Bool) → IsOutside kit by alone (or_else (started kit l r (if b then requests.Poll else requests.Retire)) r).machine
  first_outside l r true = tt
  first_outside l r false = tt

  opening_outside : (l : Sizes) (party : ℕ) (lists : List (List Command)) (i : ℕ) → IsOutside kit by alone (get_or (opening_passes kit l party lists) i nobody).machine
  opening_outside l party [] i = tt
  opening_outside l party (cs ∷ later) zero = first_outside l (fresh_pass l party) (nat_lt 0 (length cs))
  opening_outside l party (cs ∷ later) (suc i) = opening_outside l (party + 1) later i

  opening_left : (l : Sizes) (party : ℕ) (lists : List (List Command)) (i : ℕ)
      → left_with l.quota (length (get_or lists i [])) 0 (left kit by l.quota (get_or (opening_passes kit l party lists) i nobody).machine) ≤ most_of l.quota (get_or lists i [])
  opening_left l party [] i = omega arith
  opening_left l party (cs ∷ later) zero =
      let few = begins_left kit by l.quota (length cs) 0 l (fresh_pass l party) (nat_lt 0 (length cs)) refl in
      let all : length cs - 0 ≡ length cs = omega arith in
      omega (arith, few, ap (λ (k : ℕ). command_steps l.quota * k) all)
  opening_left l party (cs ∷ later) (suc i) = opening_left l (party + 1) later i

  module _ (s : Reading) (salt : ℕ) (lw : Lawful kit (opening_state kit s salt)) where
    abbrev start : State R W E M
    start = opening_state kit s salt

    abbrev lists : List (List Command)
    lists = commands_by s.layout.passes s.lines

    opening_to_do : (q : ℕ) → to_do kit by start q ≤ most_of s.layout.quota (commands_at lists q)
    opening_to_do q =
        subst (λ (k : ℕ). left_with s.layout.quota (length (commands_at lists q)) k (left kit by s.layout.quota (machine_at start q)) ≤ most_of s.layout.quota (commands_at lists q)) (sym (none_answered lists (q - 1)))
        (opening_left s.layout 1 lists (q - 1))

    each_at_start : (n i : ℕ) → i < n → to_do kit by start (get_or (range_with_len 1 n) i 0) ≤ most_of s.layout.quota (get_or lists i [])
    each_at_start n i within =
        let at : get_or (range_with_len 1 n) i 0 ≡ 1 + i = get_or-range_with_len 1 n i 0 within in
        let here : 1 + i - 1 ≡ i = omega arith in
        let few : to_do kit by start (1 + i) ≤ most_of s.layout.quota (get_or lists i []) = subst (λ (k : ℕ). to_do kit by start (1 + i) ≤ most_of s.layout.quota (get_or lists k [])) here (opening_to_do (1 + i)) in
        subst (λ (x : ℕ). to_do kit by start x ≤ most_of s.layout.quota (get_or lists i [])) (sym at) few

    threads_at_start : sum_by (to_do kit by start) (range_with_len 1 s.layout.passes) ≤ command_steps s.layout.quota * length s.lines + 10 * s.layout.passes
    threads_at_start =
        let n : ℕ = s.layout.passes in
        let threads : length lists ≡ n = lw.script.threads in
        let long : length (range_with_len 1 n) ≡ length lists = length-range_with_len 1 n ∙ sym threads in
        let below = sum_by-le (to_do kit by start) (most_of s.layout.quota) 0 [] (range_with_len 1 n) lists long (λ i within. each_at_start n i (omega (arith, within, threads))) in
        let few : command_steps s.layout.quota * total lists ≤ command_steps s.layout.quota * length s.lines = mul-le-mul_left (command_steps s.layout.quota) (total-commands_by s.layout.passes s.lines) in
        omega (arith, below, threads, most_each s.layout.quota lists, few)

    all_at_start : all_to_do kit by alone start ≤ enough_steps s
    all_at_start =
        all_within (sum_by (to_do kit by start) (range_with_len 1 s.layout.passes)) (left_of_collector kit by alone (first_plan kit.kind s.layout) (let w = start in w.collector)) (length s.lines) s.layout.quota s.layout.passes s.cycles (seek_steps s.layout) (fix_steps s.layout) (words_of s.layout)
        threads_at_start (left_at_start kit by alone (first_plan kit.kind s.layout) s.layout s.cycles salt) (many_words s.layout (let script = lw.script in script.layout))

  -- So many steps are enough.
  pub solo_ends : Laws kit by → (s : Reading) (salt : ℕ) → Lawful kit (opening_state kit s salt) → (steps : ℕ) → enough_steps s ≤ steps → is_over kit by (run_of kit by Solo steps (opening_state kit s salt)) ≡ true
  solo_ends laws s salt lw steps enough =
      let is_alone : IsSolo kit by alone s.cycles salt (start s salt lw) = record { threads = λ q is. inl (opening_outside s.layout 1 (lists s salt lw) (q - 1)); collector = inl refl } in
      turns_end kit by alone laws s.cycles salt steps (start s salt lw) lw is_alone (omega (arith, all_at_start s salt lw, enough))
