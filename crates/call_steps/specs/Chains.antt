-- Facts along a chain.
use Rattle.call_steps.specs.Turns.{Chain, still, on}

-- what each link keeps, a chain keeps
pub along : {R : Type 0} {link : R → R → Type 0} (J : R → Type 0) → ((a b : R) → J a → link a b → J b) → {a b : R} → J a → Chain link a b → J b
along J keep start still = start
along J keep start (on {b = m} {c = b} before last) = keep m b (along J keep start before) last
