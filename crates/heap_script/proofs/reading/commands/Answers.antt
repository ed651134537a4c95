use Rattle.std.proofs.Common.{◌≡◌, length, arith, rules, ◌∙◌, ap, sym}
use Rattle.std.specs.Str.Lines.{lines}
use Rattle.heap_script.specs.Grammar.{commands_from, command_line}
use Rattle.heap_script.specs.Scripts.{LineFits}
use Rattle.heap_script.proofs.Loops.{fits_step, each_step, each_fail, each_end, no_lines}
use Rattle.heap_script.proofs.reading.commands.Goals as goal

pub returns-in-Err-clause-exact : goal.returns-in-Err-clause-exact
returns-in-Err-clause-exact c =
    let len : c.len.result ≡ length c.loop-rest.found.items = first_of (search rules, omega arith) in
    each_fail (command_line c.args.passes) c.loop-rest.number (length c.loop-rest.found.items) c.loop-rest.found.items c.in-Err.kind c.next_line.result.0.now (lines c.next_line.result.1.now) (lines c.loop-rest.rest.now) (commands_from c.args.passes c.args.first 0 (lines c.args.bytes.now)) c.next_line.ensures.found (ap (λ n. command_line c.args.passes n c.next_line.result.0.now) (sym len) ∙ c.in-Err.ensures.exact) c.loop-rest.invariant.so_far

pub loop-rest-preserved : goal.loop-rest-preserved
loop-rest-preserved c =
    let len : c.len.result ≡ length c.loop-rest.found.items = first_of (search rules, omega arith) in
    let counted = rw len at c.in-Ok.ensures.fits in
    let more = fits_step (LineFits c.args.passes) c.loop-rest.found.items c.push_said.new.found.items c.in-Ok.said c.loop-rest.invariant.each c.loop-rest.invariant.few counted c.in_ok-push_said-in-Ok.ensures in
    record {
      so_far = each_step (command_line c.args.passes) c.loop-rest.number c.loop-rest.found.items c.push_said.new.found.items c.in-Ok.said c.next_line.result.0.now (lines c.next_line.result.1.now) (lines c.loop-rest.rest.now) (commands_from c.args.passes c.args.first 0 (lines c.args.bytes.now)) c.next_line.ensures.found (ap (λ n. command_line c.args.passes n c.next_line.result.0.now) (sym len) ∙ c.in-Ok.ensures.exact) c.in_ok-push_said-in-Ok.ensures c.loop-rest.invariant.so_far;
      each = more.0;
      few = more.1;
      fits = omega (arith, c.next_line.ensures.shorter, c.loop-rest.invariant.fits);
    }

pub returns-clause-exact : goal.returns-clause-exact
returns-clause-exact c = each_end (command_line c.args.passes) c.loop-rest.number (length c.loop-rest.found.items) c.loop-rest.found.items (lines c.loop-rest.rest.now) (commands_from c.args.passes c.args.first 0 (lines c.args.bytes.now)) (no_lines c.loop-rest.rest.now c.is_empty.result c.is_empty.ensures c.loop-rest-test.false) c.loop-rest.invariant.so_far
