-- What is printed is read again.
use Rattle.std.proofs.Common.{◌≡◌, ℕ, ◌+◌, ◌-◌, ◌^◌, ◌<◌, ◌≤◌, true, false, ◌&&◌, ltb, leb, eqb, List, [], ◌∷◌, ◌++◌, length, get_or, None, Some, Result, Ok, Err, refl, ap, ◌∙◌, arith, append_assoc}
use Rattle.std.specs.Prelude.{decimal, codes, count_by}
use Rattle.std.specs.List.{AllByRecursion, flat_map, list_all, before_first, after_first, position_or_len}
use Rattle.std.specs.Str.Lines.{lines}
use Rattle.std.specs.Char.{is_ascii_digit}
use Rattle.std.proofs.lemmas.Bool.{and_parts, and_right, lt-ltb, le-leb, lt-leb, le-ltb, ne_eqb, ltb-true}
use Rattle.std.proofs.lemmas.List.Elements.{recursion_from_All}
use Rattle.heap_script.specs.declared.fault.FaultKind.TheVariants.{BadNumber, BadThread}
use Rattle.heap_words.specs.declared.operand.Operand.{Operand}
use Rattle.heap_words.specs.declared.operand.Operand.TheVariants as operands
use Rattle.heap_script.specs.declared.script.Command.{Command}
use Rattle.heap_script.specs.declared.script.Command.TheVariants as commands
use Rattle.heap_script.specs.declared.script.Line.{Line}
use Rattle.heap_words.specs.Layouts.{Sizes, IsLayout}
use Rattle.heap_words.specs.LayoutFaults.{first_fault}
use Rattle.heap_script.specs.Words.{Word}
use Rattle.heap_script.specs.Grammar.{◌>>=◌, due, place, operand, new_arguments, get_arguments, cas_arguments, copy_arguments, drop_arguments, is_within, within_limits, put_arguments, poll_arguments, arguments, command, keyword, any_number, heading, heap_line, command_line, commands_from, each_from, script_from, script_of}
use Rattle.heap_script.specs.Scripts.{Reading, OperandFits, CommandFits, LineFits, Fits}
use Rattle.heap_script.specs.Text.{letter, place_word, operand_word, command_words, line_words, later_words, heading_words, spaced, line_text, text_of}
use Rattle.heap_script.proofs.Numbers.{digit_range}
use Rattle.heap_script.proofs.ReadBack.{IsWord, is_graphic, decimal_word, number_again, number_in_again, first_digit, register_again, words_spaced, spaced_plain, lines_line}

-- ---- places

letter_word : (r : ℕ) → r < 8 → IsWord (letter r)
letter_word r h =
    let a : leb 33 (97 + r) ≡ true = le-leb _ _ (omega arith) in
    let b : leb (97 + r) 126 ≡ true = le-leb _ _ (omega arith) in
    record { some = omega arith; graphic = rw (a, b) refl }

first_dot : (r : ℕ) (ds : List ℕ) → r < 8 → position_or_len (λ b. eqb b 46) (letter r ++ 46 ∷ ds) ≡ 1
first_dot r ds h = let e : eqb (97 + r) 46 ≡ false = ne_eqb _ _ (omega arith) in rw e refl

place_again : (obj field : ℕ) → obj < 8 → field ≤ 29 → place (place_word obj field) ≡ Ok (obj, field)
unfolding place
place_again obj field h k =
    let e = first_dot obj (decimal field) h in
    let lt : ltb (position_or_len (λ b. eqb b 46) (place_word obj field)) (length (place_word obj field)) ≡ true = lt-ltb _ _ (omega (arith, e)) in
    let before : before_first (λ b. eqb b 46) (place_word obj field) ≡ letter obj = rw e refl in
    let after : after_first (λ b. eqb b 46) (place_word obj field) ≡ decimal field = rw e refl in
    rw (lt, before, after, register_again obj h, number_in_again 0 29 field BadNumber (omega arith) k (omega arith)) refl

operand_again : (what : Operand) → OperandFits what → operand (operand_word what) ≡ Ok what
unfolding operand
operand_again (operands.Reg r) h =
    let e : is_ascii_digit (97 + r) ≡ false = and_right (leb 48 (97 + r)) (leb (97 + r) 57) (lt-leb _ _ (omega arith)) in
    rw (e, register_again r h) refl
operand_again (operands.Num n) h = rw (first_digit n (omega arith), number_in_again 0 (2 ^ 48 - 1) n BadNumber (omega arith) (omega arith) (omega arith)) refl

-- ---- lines

then_made : {A B C E : Type 0} (r : Result A E) (f : A → Result B E) (g : B → C) (y : B) → (r >>= f) ≡ Ok y → (r >>= λ a. f a >>= λ b. Ok (g b)) ≡ Ok (g y)
then_made (Ok a) f g y e = rw e refl
then_made (Err d) f g y e = absurd cc

abbrev made : ℕ → Command → Line
made t c = record { thread = t; command = c }

arguments_again : (cmd : Command) → CommandFits cmd → (due (command_words cmd) >>= λ b. arguments b.0 b.1) ≡ Ok cmd
unfolding arguments new_arguments get_arguments put_arguments cas_arguments copy_arguments drop_arguments poll_arguments
arguments_again (commands.New dst len) h = rw (register_again dst h.0, number_in_again 0 30 len BadNumber (omega arith) h.1 (omega arith)) refl
arguments_again (commands.Put obj field what) h = rw (place_again obj field h.0 h.1, operand_again what h.2) refl
arguments_again (commands.Get dst obj field) h = rw (register_again dst h.0, place_again obj field h.1 h.2) refl
arguments_again (commands.Cas dst obj field expected value) h = rw (register_again dst h.0, place_again obj field h.1 h.2, operand_again expected h.3, operand_again value h.4) refl
arguments_again (commands.Copy dst src) h = rw (register_again dst h.0, register_again src h.1) refl
arguments_again (commands.Drop dst) h = rw (register_again dst h) refl
arguments_again commands.Poll h = refl

command_at : (passes t : ℕ) (cmd : Command) → 1 ≤ t → t ≤ passes → passes ≤ 8 → CommandFits cmd → command passes (decimal t ∷ command_words cmd) ≡ Ok (record { thread = t; command = cmd })
unfolding command
command_at passes t cmd l h k fits =
    rw (number_in_again 1 passes t BadThread l h (omega arith)) (then_made (due (command_words cmd)) (λ b. arguments b.0 b.1) (made t) cmd (arguments_again cmd fits))

command_again : (passes : ℕ) (l : Line) → LineFits passes l → passes ≤ 8 → command passes (line_words l) ≡ Ok l
command_again passes l h k = command_at passes l.thread l.command h.least h.most k h.command

any_number_again : (n : ℕ) (ws : List Word) → n < 2 ^ 64 → any_number (decimal n ∷ ws) ≡ Ok (n, ws)
unfolding any_number
any_number_again n ws h = rw (number_again n h) refl

-- a layout has no number out of its range
layout_no_fault : (l : Sizes) → IsLayout l → first_fault l ≡ None
layout_no_fault l k =
    let a : ltb l.passes 1 ≡ false = le-ltb _ _ k.passes.0 in
    let b : ltb 8 l.passes ≡ false = le-ltb _ _ k.passes.1 in
    let c : ltb l.quota 1 ≡ false = le-ltb _ _ k.quota.0 in
    let d : ltb 256 l.quota ≡ false = le-ltb _ _ k.quota.1 in
    let e : ltb l.pool 1 ≡ false = le-ltb _ _ k.pool.0 in
    let f : ltb 512 l.pool ≡ false = le-ltb _ _ k.pool.1 in
    let g : ltb l.wide 0 ≡ false = le-ltb _ _ (omega arith) in
    let h : ltb 65536 l.wide ≡ false = le-ltb _ _ k.wide in
    rw (a, b, c, d, e, f, g, h) refl

-- a layout is within the limits
pub within_yes : (l : Sizes) (cycles : ℕ) → IsLayout l → cycles ≤ 64 → is_within l cycles ≡ true
within_yes l cycles k few =
    let i : leb cycles 64 ≡ true = le-leb _ _ few in
    rw (layout_no_fault l k, i) refl

within_again : (l : Sizes) (cycles : ℕ) → IsLayout l → cycles ≤ 64 → within_limits l cycles ≡ Ok (l, cycles)
unfolding within_limits
within_again l cycles k few = rw (within_yes l cycles k few) refl

heading_again : (l : Sizes) (cycles : ℕ) → IsLayout l → cycles ≤ 64 → heading (heading_words l cycles) ≡ Ok (l, cycles)
unfolding heading keyword
heading_again l cycles k few =
    let fifth = codes "cycles" ∷ [] in
    let fourth = codes "wide" ∷ decimal cycles ∷ fifth in
    let third = codes "pool" ∷ decimal l.wide ∷ fourth in
    let second = codes "quota" ∷ decimal l.pool ∷ third in
    let first = codes "threads" ∷ decimal l.quota ∷ second in
    rw (any_number_again l.passes first (omega (arith, k.passes)), any_number_again l.quota second (omega (arith, k.quota)), any_number_again l.pool third (omega (arith, k.pool)), any_number_again l.wide fourth (omega (arith, k.wide)), any_number_again cycles fifth (omega arith), within_again l cycles k few) refl

-- ---- the words of a line

operand_is_word : (what : Operand) → OperandFits what → IsWord (operand_word what)
operand_is_word (operands.Reg r) h = letter_word r h
operand_is_word (operands.Num n) h = decimal_word n (omega arith)

place_is_word : (obj field : ℕ) → obj < 8 → field ≤ 29 → IsWord (place_word obj field)
place_is_word obj field h k =
    let a : leb 33 (97 + obj) ≡ true = le-leb _ _ (omega arith) in
    let b : leb (97 + obj) 126 ≡ true = le-leb _ _ (omega arith) in
    let d = decimal_word field (omega arith) in
    record { some = omega arith; graphic = rw (a, b) d.graphic }

name_word : (w : Word) → ltb 0 (length w) && list_all is_graphic w ≡ true → IsWord w
name_word w e = let p = and_parts (ltb 0 (length w)) (list_all is_graphic w) e in record { some = ltb-true _ _ p.0; graphic = p.1 }

command_are_words : (cmd : Command) → CommandFits cmd → AllByRecursion IsWord (command_words cmd)
command_are_words (commands.New dst len) h = (name_word (codes "new") refl, (letter_word dst h.0, (decimal_word len (omega arith), tt)))
command_are_words (commands.Put obj field what) h = (name_word (codes "put") refl, (place_is_word obj field h.0 h.1, (operand_is_word what h.2, tt)))
command_are_words (commands.Get dst obj field) h = (name_word (codes "get") refl, (letter_word dst h.0, (place_is_word obj field h.1 h.2, tt)))
command_are_words (commands.Cas dst obj field expected value) h = (name_word (codes "cas") refl, (letter_word dst h.0, (place_is_word obj field h.1 h.2, (operand_is_word expected h.3, (operand_is_word value h.4, tt)))))
command_are_words (commands.Copy dst src) h = (name_word (codes "copy") refl, (letter_word dst h.0, (letter_word src h.1, tt)))
command_are_words (commands.Drop dst) h = (name_word (codes "drop") refl, (letter_word dst h, tt))
command_are_words commands.Poll h = (name_word (codes "poll") refl, tt)

abbrev numbers_words : Sizes → ℕ → List Word
numbers_words l cycles = decimal l.passes ∷ codes "threads" ∷ decimal l.quota ∷ codes "quota" ∷ later_words l cycles

heading_are_words : (l : Sizes) (cycles : ℕ) → IsLayout l → cycles ≤ 64 → AllByRecursion IsWord (heading_words l cycles)
heading_are_words l cycles k few = (name_word (codes "heap") refl, (decimal_word l.passes (omega (arith, k.passes)), (name_word (codes "threads") refl, (decimal_word l.quota (omega (arith, k.quota)), (name_word (codes "quota") refl, (decimal_word l.pool (omega (arith, k.pool)), (name_word (codes "pool") refl, (decimal_word l.wide (omega (arith, k.wide)), (name_word (codes "wide") refl, (decimal_word cycles (omega arith), (name_word (codes "cycles") refl, tt)))))))))))

-- ---- the lines

no_comment : (n : ℕ) → n < 2 ^ 64 → eqb (get_or (decimal n) 0 0) 59 ≡ false
no_comment n h = let r = digit_range (get_or (decimal n) 0 0) (first_digit n h) in ne_eqb _ _ (λ e. omega (arith, e, r))

-- a printed line, read as a line of commands
command_line_again : (passes count : ℕ) (l : Line) → LineFits passes l → passes ≤ 8 → count < 65536 → command_line passes count (spaced (line_words l)) ≡ Ok (Some l)
unfolding command_line
command_line_again passes count l h k room =
    let t = decimal_word l.thread (omega (arith, h.most)) in
    let ws = command_are_words l.command h.command in
    let plain = spaced_plain (decimal l.thread) (command_words l.command) t ws in
    let split = words_spaced (decimal l.thread) (command_words l.command) t ws in
    let first : eqb (get_or (decimal l.thread) 0 0) 59 ≡ false = no_comment l.thread (omega (arith, h.most)) in
    let few : leb 65536 count ≡ false = lt-leb _ _ room in
    rw (plain, split, first, few, command_again passes l h k) refl

heap_line_again : (l : Sizes) (cycles : ℕ) → IsLayout l → cycles ≤ 64 → heap_line (spaced (heading_words l cycles)) ≡ Ok (Some (l, cycles))
unfolding heap_line
heap_line_again l cycles k few =
    let ws = heading_are_words l cycles k few in
    let plain = spaced_plain (codes "heap") (numbers_words l cycles) ws.0 ws.1 in
    let split = words_spaced (codes "heap") (numbers_words l cycles) ws.0 ws.1 in
    rw (plain, split, heading_again l cycles k few) refl

lines_text : (w : Word) (ws : List Word) (rest : List ℕ) → IsWord w → AllByRecursion IsWord ws → lines (line_text (w ∷ ws) ++ rest) ≡ spaced (w ∷ ws) ∷ lines rest
lines_text w ws rest h hs = ap lines (append_assoc (spaced (w ∷ ws)) (10 ∷ []) rest) ∙ lines_line (spaced (w ∷ ws)) rest (spaced_plain w ws h hs)

abbrev printed : Line → List ℕ
printed l = line_text (line_words l)

commands_again : (passes n count : ℕ) (ls : List Line) → AllByRecursion (LineFits passes) ls → passes ≤ 8 → count + length ls ≤ 65536 → commands_from passes n count (lines (flat_map printed ls)) ≡ Ok ls
unfolding each_from
commands_again passes n count [] h k room = refl
commands_again passes n count (l ∷ ls) h k room =
    let t = decimal_word l.thread (omega (arith, h.0.most)) in
    let split = lines_text (decimal l.thread) (command_words l.command) (flat_map printed ls) t (command_are_words l.command h.0.command) in
    let one = command_line_again passes count l h.0 k (omega (arith, room)) in
    let others = commands_again passes (n + 1) (count + 1) ls h.1 k (omega (arith, room)) in
    ap (commands_from passes n count) split ∙ rw (one, others) refl

-- What is printed is read again.
pub script_again : (s : Reading) → Fits s → script_of (text_of s) ≡ Ok s
unfolding script_of script_from
script_again s h =
    let ws = heading_are_words s.layout s.cycles h.layout h.cycles in
    let split = lines_text (codes "heap") (numbers_words s.layout s.cycles) (flat_map printed s.lines) ws.0 ws.1 in
    let one = heap_line_again s.layout s.cycles h.layout h.cycles in
    let others = commands_again s.layout.passes 2 0 s.lines (recursion_from_All (LineFits s.layout.passes) s.lines h.lines) h.layout.passes.1 (omega (arith, h.count)) in
    ap (script_from (1 + count_by (λ b. eqb b 10) (text_of s)) 1) split ∙ rw (one, others) refl
