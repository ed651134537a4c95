use Rattle.std.proofs.Common.{◌+◌, arith, Err, ap, sym, ◌∙◌}
use Rattle.std.specs.Prelude.{count_by, ◌==◌}
use Rattle.std.specs.Str.Lines.{lines}
use Rattle.std.proofs.lemmas.Result.{err_from_is_err_and}
use Rattle.heap_script.specs.Grammar.{script_of}
use Rattle.heap_script.specs.declared.fault.FaultKind.TheVariants.{NoHeapLine}
use Rattle.heap_script.proofs.Loops.{script_pass, script_fail, script_ends, script_commands, script_commands_fail, no_lines, heap_line_later, heap_line_here}
use Rattle.heap_script.proofs.reading.script.Goals as goal

pub returns-in-Err-clause-exact : goal.returns-in-Err-clause-exact
returns-in-Err-clause-exact c = script_fail (1 + count_by (λ b. b == 10) c.args.bytes.now) c.loop-rest.number c.in-Err.kind c.next_line.result.0.now (lines c.next_line.result.1.now) (lines c.loop-rest.rest.now) (script_of c.args.bytes.now) c.next_line.ensures.found c.in-Err.ensures.exact c.loop-rest.invariant.so_far

pub returns-in_err-lines-in-Ok-Some-clause-exact : goal.returns-in_err-lines-in-Ok-Some-clause-exact
returns-in_err-lines-in-Ok-Some-clause-exact c =
    let p = err_from_is_err_and c.from_residual.result c.from_residual.ensures.1 in
    let said = rw c.in-Ok-Some.field-0-is at c.in-Ok-Some.ensures.exact in
    rw (p.1, p.2) (script_commands_fail (1 + count_by (λ b. b == 10) c.args.bytes.now) c.loop-rest.number (c.in-Ok-Some.layout, c.in-Ok-Some.cycles) c.next_line.result.0.now (lines c.next_line.result.1.now) (lines c.loop-rest.rest.now) c.in_err-lines-in-Ok-Some.field-0.0 (script_of c.args.bytes.now) c.next_line.ensures.found said (rw c.passes.ensures.number at c.in_err-lines-in-Ok-Some.ensures.exact) c.loop-rest.invariant.so_far)

pub returns-in-Ok-Some-clause-exact : goal.returns-in-Ok-Some-clause-exact
returns-in-Ok-Some-clause-exact c =
    let said = rw c.in-Ok-Some.field-0-is at c.in-Ok-Some.ensures.exact in
    script_commands (1 + count_by (λ b. b == 10) c.args.bytes.now) c.loop-rest.number (c.in-Ok-Some.layout, c.in-Ok-Some.cycles) c.next_line.result.0.now (lines c.next_line.result.1.now) (lines c.loop-rest.rest.now) c.in_ok-lines-in-Ok-Some.lines.items (script_of c.args.bytes.now) c.next_line.ensures.found said (rw c.passes.ensures.number at c.in_ok-lines-in-Ok-Some.ensures.exact) c.loop-rest.invariant.so_far

pub loop-rest-preserved : goal.loop-rest-preserved
loop-rest-preserved c =
    let said = rw c.in-Ok-None.field-0-is at c.in-Ok-None.ensures.exact in
    record {
      so_far = script_pass (1 + count_by (λ b. b == 10) c.args.bytes.now) c.loop-rest.number c.next_line.result.0.now (lines c.next_line.result.1.now) (lines c.loop-rest.rest.now) (script_of c.args.bytes.now) c.next_line.ensures.found said c.loop-rest.invariant.so_far;
      heads = sym (heap_line_later c.next_line.result.0.now (lines c.next_line.result.1.now) (lines c.loop-rest.rest.now) c.next_line.ensures.found said) ∙ c.loop-rest.invariant.heads;
      fits = omega (arith, c.next_line.ensures.shorter, c.loop-rest.invariant.fits);
    }

pub returns-clause-exact : goal.returns-clause-exact
returns-clause-exact c = script_ends (1 + count_by (λ b. b == 10) c.args.bytes.now) c.loop-rest.number (lines c.loop-rest.rest.now) (script_of c.args.bytes.now) (no_lines c.loop-rest.rest.now c.is_empty.result c.is_empty.ensures c.loop-rest-test.false) c.loop-rest.invariant.so_far ∙ ap (λ n. Err (1 + n, NoHeapLine)) (sym c.line_ends.ensures)

pub returns-in_err-lines-in-Ok-Some-clause-memory : goal.returns-in_err-lines-in-Ok-Some-clause-memory
returns-in_err-lines-in-Ok-Some-clause-memory c = λ e.
    let said = rw c.in-Ok-Some.field-0-is at c.in-Ok-Some.ensures.exact in
    cc (c.loop-rest.invariant.heads, heap_line_here (c.in-Ok-Some.layout, c.in-Ok-Some.cycles) c.next_line.result.0.now (lines c.next_line.result.1.now) (lines c.loop-rest.rest.now) c.next_line.ensures.found said)
