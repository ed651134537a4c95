use Rattle.std.proofs.lemmas.Result.{IfOk-weaker, IfErr-weaker}
use Rattle.chicken_tags.specs.Chickens.{kit_of_chicken, steps_of_chicken, laws_of_chicken}
use Rattle.clover_marks.specs.Clovers.{kit_of_clover, steps_of_clover, laws_of_clover}
use Rattle.stopless_copy.specs.StoplessLaws.{kit_of_stopless, steps_of_stopless, laws_of_stopless}
use Rattle.gc_cycle.proofs.solo.AloneChicken.{chicken_plays_alone}
use Rattle.gc_cycle.proofs.solo.AloneClover.{clover_plays_alone}
use Rattle.gc_cycle.proofs.solo.AloneStopless.{stopless_plays_alone}
use Rattle.gc_tool.specs.declared.forms.Copying.TheVariants.{Stopless, Chicken, Clover}
use Rattle.gc_tool.proofs.Headline.{ends_as, output_as, stop_of}
use Rattle.gc_tool.proofs.run.play.Goals as goal

pub returns-in-Stopless-clause-output : goal.returns-in-Stopless-clause-output
returns-in-Stopless-clause-output c =
    IfOk-weaker c.play_with.result _ _ (λ text printed. output_as Stopless c.args.script.now c.args.replay text.items c.in-Stopless.is printed) c.play_with.ensures.output

pub returns-in-Stopless-clause-stop : goal.returns-in-Stopless-clause-stop
returns-in-Stopless-clause-stop c =
    IfErr-weaker c.play_with.result _ _
    (stop_of kit_of_stopless steps_of_stopless laws_of_stopless stopless_plays_alone c.args.script.now c.args.replay c.requires (ends_as Stopless c.args.script.now c.args.replay c.in-Stopless.is))
    c.play_with.ensures.stop

pub returns-in-Chicken-clause-output : goal.returns-in-Chicken-clause-output
returns-in-Chicken-clause-output c =
    IfOk-weaker c.play_with-in-Chicken.result _ _ (λ text printed. output_as Chicken c.args.script.now c.args.replay text.items c.in-Chicken.is printed) c.play_with-in-Chicken.ensures.output

pub returns-in-Chicken-clause-stop : goal.returns-in-Chicken-clause-stop
returns-in-Chicken-clause-stop c =
    IfErr-weaker c.play_with-in-Chicken.result _ _
    (stop_of kit_of_chicken steps_of_chicken laws_of_chicken chicken_plays_alone c.args.script.now c.args.replay c.requires (ends_as Chicken c.args.script.now c.args.replay c.in-Chicken.is))
    c.play_with-in-Chicken.ensures.stop

pub returns-in-Clover-clause-output : goal.returns-in-Clover-clause-output
returns-in-Clover-clause-output c =
    IfOk-weaker c.play_with-in-Clover.result _ _ (λ text printed. output_as Clover c.args.script.now c.args.replay text.items c.in-Clover.is printed) c.play_with-in-Clover.ensures.output

pub returns-in-Clover-clause-stop : goal.returns-in-Clover-clause-stop
returns-in-Clover-clause-stop c =
    IfErr-weaker c.play_with-in-Clover.result _ _
    (stop_of kit_of_clover steps_of_clover laws_of_clover clover_plays_alone c.args.script.now c.args.replay c.requires (ends_as Clover c.args.script.now c.args.replay c.in-Clover.is))
    c.play_with-in-Clover.ensures.stop
