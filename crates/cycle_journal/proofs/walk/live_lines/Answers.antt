use Rattle.std.proofs.Common.{◌++◌, List, map, ap, sym, ◌∙◌}
use Rattle.std.specs.List.{flat_map, range_with_len}
use Rattle.std.proofs.lemmas.List.{map-append}
use Rattle.cycle_journal.specs.LastHeaps.{Line, line_at, live_in}
use Rattle.cycle_journal.proofs.Walks.{flat_map_more}
use Rattle.cycle_journal.proofs.walk.live_lines.Goals as goal

pub loop-region-preserved : goal.loop-region-preserved
loop-region-preserved c =
    let line = line_at c.args.words.now in
    let live = live_in c.args.layout.now c.args.words.now in
    let region = c.loop-region.region in
    let before = flat_map live (range_with_len 0 region) in
    let told = ap (λ (b : List Line). b ++ map line (live region)) c.loop-region.invariant in
    c.in_ok-push_region.ensures ∙ (told ∙ (sym (map-append line before (live region)) ∙ ap (map line) (sym (flat_map_more live region))))
