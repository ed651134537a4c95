-- What allowed changes have in common.
use Rattle.std.proofs.Common.{◌≡◌, ◌≢◌, Bool, true, false, refl, arith}
use Rattle.object_headers.specs.declared.header.State.{State}
use Rattle.object_headers.specs.declared.header.State.TheVariants.{Absent}
use Rattle.object_headers.specs.declared.header.Header.{Header}
use Rattle.object_headers.specs.declared.change.Kind.{Kind}
use Rattle.object_headers.specs.declared.change.Rule.{Rule}
use Rattle.object_headers.specs.declared.change.Rule.TheVariants.{Forbidden, Free, Recolours, Keeps}
use Rattle.object_headers.specs.Changes.{keeps_if, rule_of, Obeys, IsSameObject}

keeps_if-not_free : (has : Bool) → keeps_if has ≡ Free → ⊥
keeps_if-not_free true e = cc
keeps_if-not_free false e = cc

-- only what begins or ends an object is free
not_free : (kind : Kind) (from to : State) → from ≢ Absent → to ≢ Absent → rule_of kind from to ≡ Free → ⊥
not_free kind Absent to a b e = a refl
not_free kind from Absent a b e = b refl
not_free kind from to a b e = first_of (cc, grind (arith, keeps_if-not_free))

obeys-same : (r : Rule) (from to : Header) → (r ≡ Free → ⊥) → Obeys r from to → IsSameObject from to
obeys-same Forbidden from to bound h = absurd h
obeys-same Free from to bound h = absurd (bound refl)
obeys-same Recolours from to bound h = h.0
obeys-same Keeps from to bound h = h.0
