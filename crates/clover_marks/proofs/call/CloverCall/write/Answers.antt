use Rattle.handshakes.specs.PhaseWords.{phase_word_at}
use Rattle.barriers.specs.Spots.{spot_of}
use Rattle.clover_marks.specs.declared.access.Action.TheVariants as action
use Rattle.clover_marks.specs.Calls.{access_of}
use Rattle.clover_marks.specs.CallCauseLaws.{call_cause_of}
use Rattle.clover_marks.proofs.call.CloverCall.write.Goals as goal

pub returns-clause-cause : goal.returns-clause-cause
returns-clause-cause c = rw (c.first.ensures, c.new.ensures) (call_cause_of (access_of c.args.view (spot_of c.args.birth c.args.at c.args.field) (action.Write c.args.word)) (phase_word_at c.args.view.acked).cycle)
