use Rattle.std.proofs.Common.{◌<◌, ◌≤◌, ◌∙◌, sym, ap, subst, arith, length}
use Rattle.heap_script.specs.Commands.{total}
use Rattle.heap_script.specs.CommandLaws.{length-commands_by}
use Rattle.gc_cycle.proofs.Starting.{few_commands}
use Rattle.gc_cycle.proofs.world.World.at_start.Goals as goal

pub opening_passes-requires : goal.opening_passes-requires
opening_passes-requires g c = ap length c.in_ok-commands.ensures ∙ length-commands_by c.passes.result c.deref.result.now ∙ c.passes.ensures.number

pub opening-requires : goal.opening-requires
opening-requires g c =
    let lines = c.deref.ensures.value ∙ ap (λ s. s.lines) c.script.view_is in
    let few : length c.deref.result.now ≤ 65536 = omega (arith, ap length lines, c.requires.count) in
    subst (λ commands. total commands < 4294967296) (sym c.in_ok-commands.ensures) (few_commands c.passes.result c.deref.result.now few)
