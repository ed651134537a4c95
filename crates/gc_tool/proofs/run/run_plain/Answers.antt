use Rattle.std.proofs.Common.{inl, List, ℕ, refl, sym, subst}
use Rattle.gc_tool.specs.Outside.{AppendsPrefix}
use Rattle.gc_tool.proofs.Causes.{stopped, played}
use Rattle.gc_tool.proofs.run.run_plain.Goals as goal

pub returns-in-Err-output_of-clause-honest : goal.returns-in-Err-output_of-clause-honest
returns-in-Err-output_of-clause-honest g c replay bytes honest quiet sound =
    stopped _ _ _ c.in-Ok.replay (sym c.in-Ok.ensures) replay bytes honest c.in-Err-output_of.status _ _ _ refl c.in-Err-output_of.ensures.cause c.in-Err-output_of.ensures.too_long quiet

pub returns-in-Ok-give_all-clause-honest : goal.returns-in-Ok-give_all-clause-honest
returns-in-Ok-give_all-clause-honest g c replay bytes honest quiet sound =
    let output = c.in-Ok-output_of.ensures.output in
    inl (played _ _ _ c.in-Ok.replay (sym c.in-Ok.ensures) replay bytes honest output.0 _ output.1 output.2)

pub returns-clause-write_fault : goal.returns-clause-write_fault
returns-clause-write_fault g c = λ _.
    let output = c.in-Ok-output_of.ensures.output in
    let P : List ℕ → Type 0 = λ text. AppendsPrefix (g.K.Sink.holds c.args.sink.now) (g.K.Sink.holds c.give_all.new.sink) text in (
      c.in-Ok-output_of.text.items,
      record { script = output.0; replay = c.in-Ok.replay; replay_is = sym c.in-Ok.ensures; read = output.1; output = output.2 },
      subst P c.deref.ensures.value c.in-Err-give_all.ensures.prefix,
      c.in-Err-give_all.ensures.write_fault,
    )
