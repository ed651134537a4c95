use Rattle.reference_fix.proofs.FixWalks.{fixes_links, passes_all, ends_within}
use Rattle.reference_fix.proofs.fix_walk.FixWalkMachine.new.Goals as goal

pub returns-clause-links : goal.returns-clause-links
returns-clause-links c = rw (c.regions-regions.ensures.number, c.region_at.ensures.number, c.first_word.ensures.number) (fixes_links c.args.layout.now c.regions-regions.ensures.within)

pub returns-clause-passes : goal.returns-clause-passes
returns-clause-passes c = rw (c.regions-regions.ensures.number, c.region_at.ensures.number, c.first_word.ensures.number) (passes_all c.args.layout.now c.regions-regions.ensures.within)

pub returns-clause-bound : goal.returns-clause-bound
returns-clause-bound c = rw (c.regions-regions.ensures.number, c.region_at.ensures.number, c.first_word.ensures.number) (ends_within c.args.layout.now c.regions-regions.ensures.within)
