use Rattle.std.proofs.Common.{◌++◌, take, length-take, length-append, refl, arith}
use Rattle.gc_tool.proofs.Known.{Gave-from, Consumes-append}
use Rattle.gc_tool.proofs.reading.read_by.Goals as goal

pub returns-then-count-len-clause-too_long : goal.returns-then-count-len-clause-too_long
returns-then-count-len-clause-too_long g c =
    let so_far = c.loop-count.bytes.items in
    let piece = take c.in-Ok.count c.take.new.buffer in
    let consumed = Consumes-append _ _ _ so_far piece c.loop-count.invariant.given c.in-Ok.ensures.bytes.0 in
    Gave-from _ _ _ (so_far ++ piece) consumed
    ((λ _. omega (arith, length-append so_far piece, length-take c.in-Ok.count c.take.new.buffer, c.in-Ok.ensures.fits, c.loop-count.bytes.ok.0, c.len.ensures, c.if-count-len.true)), (λ _. refl))
