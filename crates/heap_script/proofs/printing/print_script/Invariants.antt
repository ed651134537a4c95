use Rattle.std.proofs.Common.{◌≡◌, ◌++◌, take}
use Rattle.std.specs.List.{flat_map}
use Rattle.heap_script.specs.Text.{line_text, line_words, heading_words}
use Rattle.heap_script.proofs.printing.print_script.Given as goal

abbrev pub invariant-loop-line : goal.invariant-loop-line
invariant-loop-line l = l.out.items ≡ line_text (heading_words l.script.layout l.script.cycles) ++ flat_map (λ l. line_text (line_words l)) (take l.line-index l.line-items)
