use Rattle.mark_search.specs.SeekLaws.{ends_at_first, passes_all}
use Rattle.mark_search.proofs.seek.SeekMarkMachine.new.Goals as goal

pub returns-clause-first : goal.returns-clause-first
returns-clause-first c = rw (c.regions-regions.ensures.number, c.region_at.ensures.number, c.first_word.ensures.number) (ends_at_first c.args.layout.now c.args.candidate)

pub returns-clause-passes : goal.returns-clause-passes
returns-clause-passes c = rw (c.regions-regions.ensures.number, c.region_at.ensures.number, c.first_word.ensures.number) (passes_all c.args.layout.now c.args.candidate c.regions-regions.ensures.within)
