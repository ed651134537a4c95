use Rattle.std.proofs.Common.{◌≢◌, ◌∙◌, arith}
use Rattle.std.proofs.lemmas.Grind.{common_steps}
use Rattle.gc_tool.specs.declared.status.Status.TheVariants.{Done}
use Rattle.gc_tool.proofs.StatusLines.{told_line}
use Rattle.gc_tool.proofs.telling.tell.Goals as goal

pub returns : goal.returns
returns g c =
    let other : c.args.status.now ≢ Done = λ is. grind (arith, common_steps) in
    record { all = told_line c.give_all-2.result c.args.status.now _ _ _ _ other (c.as_bytes.ensures.value ∙ c.deref.ensures.0 ∙ c.status_text.ensures) c.in_ok-give_all.ensures.all c.give_all-2.ensures.all }
