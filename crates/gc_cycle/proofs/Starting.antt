-- The passes of a world at its start, one after another.
use Rattle.std.proofs.Common.{◌≡◌, ℕ, ◌+◌, ◌-◌, ◌<◌, ◌≤◌, List, [], ◌∷◌, ◌++◌, length, take, get_or, refl, sym, ap, ◌∙◌, subst, arith, lit<, lit≤, length-take-le}
use Rattle.std.specs.Prelude.{◌^◌, IsSome}
use Rattle.std.specs.List.{All}
use Rattle.std.proofs.lemmas.List.{take_more}
use Rattle.std.proofs.lemmas.List.Elements.{All-from_recursion, All-weaker}
use Rattle.heap_words.specs.Layouts.{Sizes, IsLayout, IsPass, first_word}
use Rattle.heap_words.specs.PlaceLaws.{regions_of-bound}
use Rattle.heap_words.specs.FieldWords.{IsFieldWord}
use Rattle.handshakes.specs.PhaseWords.{phase_word_of, names_phase}
use Rattle.heap_script.specs.declared.script.Command.{Command}
use Rattle.heap_script.specs.declared.script.Line.{Line}
use Rattle.heap_script.specs.Allowed.{commands_of}
use Rattle.heap_script.specs.Scripts.{Reading, Fits, CommandFits, LineFits}
use Rattle.heap_script.specs.Commands.{commands_at, commands_by, total}
use Rattle.heap_script.specs.CommandLaws.{length-commands_by, commands_at-commands_by, fit-commands_of, total-commands_by}
use Rattle.barriers.specs.declared.pass.PassRecord.{PassRecord}
use Rattle.barriers.specs.Kits.{Kit, Stepping, Laws}
use Rattle.barriers.specs.Records.{IsReady}
use Rattle.gc_cycle.specs.Lawful.{Lawful, IsScript}
use Rattle.gc_cycle.specs.Worlds.{State, opening_state, opening_pass, opening_passes, opening_registers, fresh_pass}
use Rattle.gc_cycle.proofs.Turning.{opening_lawful}

module _ {R W E M : Type 0} (kit : Kit R W E M) where
  -- one thread more
  opening_passes-more : (l : Sizes) (first party : ℕ) (lists : List (List Command)) (commands : List Command) → first + length lists ≡ party
      → opening_passes kit l first (lists ++ commands ∷ []) ≡ opening_passes kit l first lists ++ opening_pass kit l commands party ∷ []
  opening_passes-more l first party [] commands is = let same : first ≡ party = omega arith in rw same refl
  opening_passes-more l first party (c ∷ lists) commands is =
      ap (λ ps. opening_pass kit l c first ∷ ps) (opening_passes-more l (first + 1) party lists commands (omega arith))

  pub push_pass : (l : Sizes) (lists : List (List Command)) (n : ℕ) (now later : List (PassRecord R W E)) → n < length lists → now ≡ opening_passes kit l 1 (take n lists)
      → later ≡ now ++ opening_pass kit l (commands_at lists (n + 1)) (n + 1) ∷ [] → later ≡ opening_passes kit l 1 (take (n + 1) lists)
  push_pass l lists n now later within so_far pushed =
      let place : n + 1 - 1 ≡ n = omega arith in
      let taken : take (n + 1) lists ≡ take n lists ++ get_or lists n [] ∷ [] = take_more lists n [] within in
      let count : 1 + length (take n lists) ≡ n + 1 = omega (arith, length-take-le n lists (omega arith)) in
      let more : opening_passes kit l 1 (take n lists ++ get_or lists n [] ∷ []) ≡ opening_passes kit l 1 (take n lists) ++ opening_pass kit l (get_or lists n []) (n + 1) ∷ [] =
      opening_passes-more l 1 (n + 1) (take n lists) (get_or lists n []) count in
      let one : now ++ opening_pass kit l (commands_at lists (n + 1)) (n + 1) ∷ [] ≡ now ++ opening_pass kit l (get_or lists n []) (n + 1) ∷ [] =
      ap (λ (k : ℕ). now ++ opening_pass kit l (get_or lists k []) (n + 1) ∷ []) place in
      pushed ∙ (one ∙ (ap (λ (ps : List (PassRecord R W E)). ps ++ opening_pass kit l (get_or lists n []) (n + 1) ∷ []) so_far ∙ (sym more ∙ ap (opening_passes kit l 1) (sym taken))))

-- ---- a pass at the start is ready

zero_is_phase : IsSome (phase_word_of 0)
unfolding phase_word_of names_phase
zero_is_phase = refl

registers_fit : (l : Sizes) → IsLayout l → All IsFieldWord (opening_registers l)
registers_fit l il =
    let low : first_word l 0 < 2 ^ 20 = omega (arith, regions_of-bound l il, il.passes) in
    All-from_recursion IsFieldWord (opening_registers l) (lit< tt, (lit< tt, (lit< tt, (lit< tt, (lit< tt, (lit< tt, (lit< tt, ((lit< tt, low), tt))))))))

pub fresh_is_ready : {R W E : Type 0} (l : Sizes) (party : ℕ) (p : PassRecord R W E) → IsLayout l → IsPass l party → p ≡ fresh_pass l party → IsReady l p
fresh_is_ready {R = R} {W = W} {E = E} l party p il is fresh =
    let ready : IsReady l (fresh_pass {R = R} {W = W} {E = E} l party) = record {
      pass = is;
      acked = zero_is_phase;
      registers = registers_fit l il;
      used = lit≤ tt;
      region = λ region is. absurd cc;
      last = λ region is. absurd cc;
      made = lit≤ tt;
    } in
    subst (IsReady l) (sym fresh) ready

-- ---- the world at the start

pub few_commands : (n : ℕ) (lines : List Line) → length lines ≤ 65536 → total (commands_by n lines) < 2 ^ 32
few_commands n lines few = omega (arith, total-commands_by n lines, few)

-- the script fits
pub script_of : (s : Reading) → Fits s → IsScript s.layout (commands_by s.layout.passes s.lines)
script_of s fits =
    let n = s.layout.passes in
    let its : (t : ℕ) → IsPass s.layout t → commands_at (commands_by n s.lines) t ≡ commands_of t s.lines = λ t is. commands_at-commands_by n s.lines t is.0 is.1 in
    let each : All (λ (l : Line). CommandFits l.command) s.lines = All-weaker (LineFits n) (λ (l : Line). CommandFits l.command) (λ l h. h.command) s.lines fits.lines in
    record {
      layout = fits.layout;
      threads = length-commands_by n s.lines;
      commands = λ t is. subst (All CommandFits) (sym (its t is)) (fit-commands_of s.lines t each);
      few = omega (arith, total-commands_by n s.lines, fits.count);
    }

pub lawful_at_start : {R W E M : Type 0} (kit : Kit R W E M) (by : Stepping R W E M) → Laws kit by → (s : Reading) (salt : ℕ) → Fits s → (w : State R W E M) → w ≡ opening_state kit s salt → Lawful kit w
lawful_at_start kit by laws s salt fits w is = subst (Lawful kit) (sym is) (opening_lawful kit by laws s salt (script_of s fits) fits.cycles)
