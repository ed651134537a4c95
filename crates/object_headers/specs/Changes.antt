-- The allowed changes of a header, state by state.
use Rattle.std.specs.Prelude.{◌≡◌, ◌≢◌, ◌⊎◌, ⊤, Bool, true, false, if◌then◌else◌}
use Rattle.object_headers.specs.declared.header.State.{State}
use Rattle.object_headers.specs.declared.header.State.TheVariants.{Absent, Plain, Kept, Tagged, Wide, Moving, Forward, Dead}
use Rattle.object_headers.specs.declared.header.Colour.{Colour}
use Rattle.object_headers.specs.declared.header.Colour.TheVariants.{Grey}
use Rattle.object_headers.specs.declared.header.Header.{Header}
use Rattle.object_headers.specs.declared.change.Kind.{Kind}
use Rattle.object_headers.specs.declared.change.Kind.TheVariants.{AtRest, Stopless, Chicken, Clover}
use Rattle.object_headers.specs.declared.change.Rule.{Rule}
use Rattle.object_headers.specs.declared.change.Rule.TheVariants.{Forbidden, Free, Recolours, Keeps}

abbrev pub is_stopless : Kind → Bool
is_stopless AtRest = false
is_stopless Stopless = true
is_stopless Chicken = false
is_stopless Clover = false

abbrev pub is_chicken : Kind → Bool
is_chicken AtRest = false
is_chicken Stopless = false
is_chicken Chicken = true
is_chicken Clover = false

abbrev pub is_clover : Kind → Bool
is_clover AtRest = false
is_clover Stopless = false
is_clover Chicken = false
is_clover Clover = true

-- Stopless and Chicken tag an object before they copy it
abbrev pub does_tag : Kind → Bool
does_tag AtRest = false
does_tag Stopless = true
does_tag Chicken = true
does_tag Clover = false

-- all but one move objects
abbrev pub does_move : Kind → Bool
does_move AtRest = false
does_move Stopless = true
does_move Chicken = true
does_move Clover = true

-- a change that some copiers have, of an object or at its end
abbrev pub keeps_if : Bool → Rule
keeps_if has = if has then Keeps else Forbidden

abbrev pub free_if : Bool → Rule
free_if has = if has then Free else Forbidden

-- the rule of each change from one state to another
abbrev pub rule_of : Kind → State → State → Rule
-- a new object or a copy; shading and blackening; stamping, or a copy that is given up
rule_of kind Absent Plain = Free
rule_of kind Plain Plain = Recolours
rule_of kind Plain Dead = Keeps
-- the collector tags; a mutator keeps, or the seal goes on; the collector sets Forward
rule_of kind Plain Tagged = keeps_if (does_tag kind)
rule_of kind Tagged Kept = keeps_if (does_tag kind)
rule_of kind Tagged Wide = keeps_if (is_stopless kind)
rule_of kind Wide Forward = keeps_if (is_stopless kind)
rule_of kind Tagged Forward = keeps_if (is_chicken kind)
rule_of kind Plain Moving = keeps_if (is_clover kind)
rule_of kind Moving Forward = keeps_if (is_clover kind)
-- the release
rule_of kind Kept Plain = keeps_if (does_tag kind)
rule_of kind Forward Dead = keeps_if (does_tag kind)
rule_of kind Dead Absent = Free
rule_of kind Forward Absent = free_if (does_move kind)
-- there is no other
rule_of kind from to = Forbidden

-- of two colours exactly one is grey
abbrev pub IsOneGrey : Colour → Colour → Type 0
IsOneGrey from to = ((from ≢ Grey) × (to ≡ Grey)) ⊎ ((from ≡ Grey) × (to ≢ Grey))

-- the same len and birth number
abbrev pub IsSameObject : Header → Header → Type 0
IsSameObject from to = (to.len ≡ from.len) × (to.birth ≡ from.birth)

-- what each rule asks of a change
abbrev pub Obeys : Rule → Header → Header → Type 0
Obeys Forbidden from to = ⊥
Obeys Free from to = ⊤
Obeys Recolours from to = IsSameObject from to × IsOneGrey from.colour to.colour
Obeys Keeps from to = IsSameObject from to × (to.colour ≡ from.colour)

-- a change that a copier of this kind, a pass or the collector may make
abbrev pub AllowedChange : Kind → Header → Header → Type 0
AllowedChange kind from to = Obeys (rule_of kind from.state to.state) from to
