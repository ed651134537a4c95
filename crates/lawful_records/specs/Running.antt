-- What a copier's machines do, a step at a time, read off their laws.
use Rattle.barriers.specs.Kits.{Kit, Stepping, Laws}

-- what a copier's machines do, of which these are the laws
abbrev pub steps_of : {R W E M : Type 0} {kit : Kit R W E M} {by : Stepping R W E M} → Laws kit by → Stepping R W E M
steps_of {by = by} laws = by
