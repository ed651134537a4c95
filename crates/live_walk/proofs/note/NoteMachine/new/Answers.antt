use Rattle.live_walk.proofs.Passing.{passes_all}
use Rattle.live_walk.proofs.Still.{notes_what_is_live}
use Rattle.live_walk.proofs.note.NoteMachine.new.Goals as goal

pub returns-clause-passes : goal.returns-clause-passes
returns-clause-passes c = rw (c.regions-regions.ensures.number, c.region_at.ensures.number, c.first_word.ensures.number, c.pool.ensures.number) (passes_all c.args.layout.now c.regions-regions.ensures.within)

pub returns-clause-alone : goal.returns-clause-alone
returns-clause-alone c = notes_what_is_live c.args.layout.now c.regions-regions.ensures.within
